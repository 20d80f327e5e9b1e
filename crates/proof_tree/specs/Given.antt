-- The proofs of steps, by what they are given.
use Rattle.std.specs.Prelude.{◌≡◌, ℕ, Bool, true, false, ◌==◌, List, [], ◌∷◌, ◌++◌, map, drop, find, fold, filter_map, slice_get, slice_index_or}
use Rattle.std.specs.Prelude.{unwrap_or, if◌then◌else◌, Option, Some, None, option_map, option_and_then}
use Rattle.std.specs.List.{list_any}
use Rattle.std.specs.Option.{option_to_list, option_map_or}
use Rattle.mm_base.specs.declared.symbols.Sym.{Sym}
use Rattle.mm_base.specs.declared.symbols.Label.{Label}
use Rattle.mm_base.specs.declared.tree.Tree.{Tree}
use Rattle.mm_base.specs.declared.tree.Tree.TheFolds.{fold-Tree}
use Rattle.mm_model.specs.declared.frames.Hyp.{Hyp}
use Rattle.mm_model.specs.declared.frames.Frame.{Frame}
use Rattle.mm_model.specs.Names.{Name, sym}
use Rattle.mm_frames.specs.Contents.{Contents, frame_at}
use Rattle.proof_model.specs.Machine.{is_float_of}
use Rattle.proof_model.specs.Proofs.{Proof, by, none, proofs}
use Rattle.solve_model.specs.Trees.{layer_leaves}
use Rattle.proof_tree.specs.declared.building.ProofStep.{ProofStep}
use Rattle.proof_tree.specs.declared.building.ProofStep.TheVariants as given

-- ---- variables

-- the first that is there
abbrev pub sooner : {X : Type 0} → Option X → Option X → Option X
sooner None o = o
sooner (Some x) o = Some x

-- the label of the first `$f` of a variable
abbrev pub float_name : List Hyp → ℕ → Option Name
float_name hyps s = option_map (λ (h : Hyp). h.name) (find (is_float_of (sym s)) hyps)

abbrev pub AreFloats : List Hyp → (ℕ → Option Name) → Type 0
AreFloats hyps floats = (s : ℕ) → floats s ≡ float_name hyps s

abbrev pub named_where : Bool → Name → Option Name
named_where true name = Some name
named_where false name = None

-- the name is put in for these symbols, where they have none
abbrev pub PutsName : Name → List Sym → (ℕ → Option Name) → (ℕ → Option Name) → Type 0
PutsName name symbols old new = (s : ℕ) → new s ≡ sooner (old s) (named_where (list_any (λ (v : Sym). v.0 == s) symbols) name)

-- the same for one symbol
abbrev pub PutsOne : Name → ℕ → (ℕ → Option Name) → (ℕ → Option Name) → Type 0
PutsOne name x old new = (s : ℕ) → new s ≡ sooner (old s) (named_where (x == s) name)

-- the label of a hypothesis is put in for its variable, where it is a `$f`
abbrev pub PutsFloat : Hyp → (ℕ → Option Name) → (ℕ → Option Name) → Type 0
PutsFloat h old new = (s : ℕ) → new s ≡ sooner (old s) (named_where (is_float_of (sym s) h) h.name)

-- ---- trees

abbrev pub variable_proof : (ℕ → Option Name) → ℕ → Proof
variable_proof floats s = by (unwrap_or (floats s) []) none

abbrev pub name_in : List Name → Label → Name
name_in labels l = slice_index_or labels l.0 []

-- the proof that a tree is of its typecode
unfoldable pub tree_proof : List Name → (ℕ → Option Name) → Tree → Proof
tree_proof labels floats = fold-Tree Proof (layer_leaves (λ s c. variable_proof floats s.0) (λ x. by [] none) (λ l c ps. by (name_in labels l) (proofs ps)))

-- ---- frames

-- the items of the `$f` and those of the `$e`, in the order of the hypotheses
abbrev pub weave : {X : Type 0} → List Hyp → List X → List X → List X
weave [] xs ys = []
weave (h ∷ hs) xs ys =
    if h.floating then option_to_list (slice_get xs 0) ++ weave hs (drop 1 xs) ys else option_to_list (slice_get ys 0) ++ weave hs xs (drop 1 ys)

abbrev pub hyps_of : Option Frame → List Hyp
hyps_of f = option_map_or (λ (f : Frame). f.hyps) f []

-- ---- steps

abbrev pub item_at : {X : Type 0} → List (Option X) → ℕ → Option X
item_at xs k = option_and_then (λ x. x) (slice_get xs k)

-- the proof of a step that follows by an assertion
abbrev pub reference_proof : Contents → (ℕ → Option Name) → List (Option Proof) → Label → List Tree → List ℕ → Proof
reference_proof c floats earlier l values places =
    by (name_in c.labels l) (proofs (weave (hyps_of (frame_at c l)) (map (tree_proof c.labels floats) values) (filter_map (item_at earlier) places)))

-- the proof of a step that is used, where the earlier ones have these
abbrev pub given_proof : Contents → (ℕ → Option Name) → List (Option Proof) → ProofStep → Option Proof
given_proof c floats earlier (given.Hyp name) = Some (by name none)
given_proof c floats earlier (given.Ref l values places) = Some (reference_proof c floats earlier l values places)
given_proof c floats earlier given.Unused = None

abbrev pub given_proofs : Contents → (ℕ → Option Name) → List ProofStep → List (Option Proof)
given_proofs c floats steps = fold (λ earlier s. earlier ++ given_proof c floats earlier s ∷ []) [] steps

abbrev pub is_used : ProofStep → Bool
is_used (given.Hyp name) = true
is_used (given.Ref l values places) = true
is_used given.Unused = false

-- the step with this number is there, and is used
abbrev pub used_at : List ProofStep → ℕ → Bool
used_at steps k = option_map_or is_used (slice_get steps k) false
