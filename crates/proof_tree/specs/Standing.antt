-- What proves the steps of a worksheet, and the proof of one of them.
use Rattle.std.specs.Prelude.{◌≡◌, ℕ, true, List, [], ◌∷◌, ◌++◌, length, map, unwrap_or, Some, None}
use Rattle.std.specs.List.{AllByRecursion, AllZip}
use Rattle.mm_base.specs.declared.symbols.Label.{Label}
use Rattle.mm_base.specs.declared.kinds.Kinds.{Kinds}
use Rattle.mm_base.specs.declared.tree.Tree.{Tree}
use Rattle.mm_model.specs.declared.frames.Hyp.{Hyp}
use Rattle.mm_model.specs.Book.{Database, label_name}
use Rattle.mm_database.specs.Books.{database_of}
use Rattle.mm_database.specs.Opened.{Opened, IsOpened}
use Rattle.sheet_text.specs.declared.sheet.Given.TheVariants as place
use Rattle.written_model.specs.WrittenSteps.{Use, WrittenStep}
use Rattle.written_model.specs.ProofTrees.{place_proof, step_proofs}
use Rattle.proof_tree.specs.declared.building.ProofStep.{ProofStep}
use Rattle.proof_tree.specs.declared.building.ProofStep.TheVariants as given
use Rattle.proof_tree.specs.declared.graph.ProofNode.{ProofNode}
use Rattle.proof_tree.specs.Graphs.{root_proof}
use Rattle.proof_tree.specs.Given.{used_at}

-- the step follows by the usable assertion of the label with these values, from these steps
pub record IsUseOf (db : Database) (e : WrittenStep) (l : Label) (values : List Tree) (places : List ℕ) : Type 0 where
  pub used : Use
  pub is_by : e.by ≡ Some used
  pub is_usable : db.usable l ≡ Some used.assertion
  pub reference : unwrap_or e.reference [] ≡ label_name db l
  pub values_are : used.values ≡ values
  pub value_count : length values ≡ length used.assertion.vars
  pub places_are : e.places ≡ map place.Step places
  pub place_count : length places ≡ length used.assertion.hyps

-- what proves a written step
abbrev pub IsProofStep : Database → WrittenStep → ProofStep → Type 0
IsProofStep db e (given.Hyp name) = (e.by ≡ None) × (unwrap_or e.reference [] ≡ name)
IsProofStep db e (given.Ref l values places) = IsUseOf db e l values places
IsProofStep db e given.Unused = Unit {0}

abbrev pub places_of : ProofStep → List ℕ
places_of (given.Hyp name) = []
places_of (given.Ref l values places) = places
places_of given.Unused = []

-- behind these steps, each step follows from earlier ones that are used
abbrev pub FollowFromUsed : List ProofStep → List ProofStep → Type 0
FollowFromUsed before [] = Unit {0}
FollowFromUsed before (s ∷ steps) = AllByRecursion (λ k. used_at before k ≡ true) (places_of s) × FollowFromUsed (before ++ s ∷ []) steps

-- what proves written steps
pub record StandFor (db : Database) (es : List WrittenStep) (steps : List ProofStep) : Type 0 where
  pub each : AllZip (IsProofStep db) es steps
  pub follow : FollowFromUsed [] steps

-- the database of the definitions
abbrev pub book : Kinds → List ℕ → Opened → Database
book kinds text d = database_of kinds text d.rows d.parsed

-- the graph is that of the definitions' proof of the step with this number, for all written steps that these stand for
abbrev pub Proves : Opened → List Hyp → List ProofStep → ℕ → List ProofNode → Type 0
Proves d hyps steps root nodes =
    (kinds : Kinds) (text : List ℕ) (es : List WrittenStep) → IsOpened kinds text d → StandFor (book kinds text d) es steps
    → root_proof nodes ≡ place_proof (step_proofs (book kinds text d) hyps es) (place.Step root)
