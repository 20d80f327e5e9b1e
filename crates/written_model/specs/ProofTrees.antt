-- Finished worksheets, and the proof of a step.
use Rattle.std.specs.Prelude.{◌≡◌, ℕ, Bool, true, false, ◌&&◌, ◌||◌, ◌==◌, List, [], ◌∷◌, ◌++◌, length, map, find, fold, unwrap_or, slice_get}
use Rattle.std.specs.Prelude.{slice_index_or, Contains, if◌then◌else◌, Option, Some, None, is_none, codes}
use Rattle.std.specs.List.{list_all}
use Rattle.std.specs.Option.{option_map_or}
use Rattle.mm_base.specs.declared.symbols.Sym.{Sym}
use Rattle.mm_base.specs.declared.symbols.Pair.{Pair}
use Rattle.mm_base.specs.declared.tree.Tree.{Tree}
use Rattle.mm_base.specs.declared.tree.Tree.TheFolds.{fold-Tree}
use Rattle.mm_model.specs.declared.frames.Hyp.{Hyp}
use Rattle.mm_model.specs.Names.{Name, sym}
use Rattle.mm_model.specs.Book.{Database, label_name}
use Rattle.proof_model.specs.Machine.{is_float_of}
use Rattle.proof_model.specs.Proofs.{Proof, by, none, proofs}
use Rattle.sheet_text.specs.declared.sheet.Given.{Given}
use Rattle.sheet_text.specs.declared.sheet.Given.TheVariants as given
use Rattle.solve_model.specs.Trees.{layer_leaves}
use Rattle.solve_model.specs.Solutions.{names_step}
use Rattle.written_model.specs.declared.options.DvMode.{DvMode}
use Rattle.written_model.specs.WrittenSteps.{Use, WrittenStep, value_of}
use Rattle.written_model.specs.Pairs.{clash_of, lack_of}
use Rattle.written_model.specs.Found.{is_ground}

-- ---- finished

-- `qed`, and each step that a step below `qed` lists
pub data Below (es : List WrittenStep) : ℕ → Type 0 where
  at_qed : (i : ℕ) {e : WrittenStep} → slice_get es i ≡ Some e → e.name ≡ codes "qed" → Below es i
  listed : (i : ℕ) {e : WrittenStep} {k : ℕ} → Below es i → slice_get es i ≡ Some e → Contains e.places (given.Step k) → Below es k

abbrev pub is_complete_use : DvMode → List Pair → List Given → Option Use → Bool
is_complete_use mode allowed places None = false
is_complete_use mode allowed places (Some u) =
    length places == length u.assertion.hyps && list_all names_step places && is_none (clash_of u) && is_none (lack_of mode allowed u)

-- a hypothesis, or a step that fits or is found, with all its places, no `?`, no clash and no lack
abbrev pub is_complete : DvMode → List Pair → WrittenStep → Bool
is_complete mode allowed e = e.hyp || is_complete_use mode allowed e.places e.by

-- no hypothesis and no step below `qed` has a work variable, and each step below `qed` is complete
pub record Finished (mode : DvMode) (allowed : List Pair) (es : List WrittenStep) : Type 0 where
  pub hyps : (i : ℕ) (e : WrittenStep) → slice_get es i ≡ Some e → e.hyp ≡ true → is_ground e.tree ≡ true
  pub no_work : (i : ℕ) (e : WrittenStep) → slice_get es i ≡ Some e → Below es i → is_ground e.tree ≡ true
  pub complete : (i : ℕ) (e : WrittenStep) → slice_get es i ≡ Some e → Below es i → is_complete mode allowed e ≡ true

-- ---- proofs

-- the label of the active `$f` of a variable
abbrev pub float_label : List Hyp → Sym → Name
float_label hyps s = option_map_or (λ (h : Hyp). h.name) (find (is_float_of s) hyps) []

-- the proof that a tree is of its typecode: a variable's `$f`, a production behind its children
unfoldable pub syntax_proof : Database → List Hyp → Tree → Proof
syntax_proof db hyps = fold-Tree Proof (layer_leaves (λ s c. by (float_label hyps s) none) (λ x. by [] none) (λ l c ps. by (label_name db l) (proofs ps)))

abbrev pub no_proof : Proof
no_proof = by [] none

abbrev pub place_proof : List Proof → Given → Proof
place_proof earlier given.Gap = no_proof
place_proof earlier (given.Step k) = slice_index_or earlier k no_proof

-- the variable of a `$f`
abbrev pub float_variable : Hyp → Sym
float_variable h = slice_index_or h.formula 1 (sym 0)

-- the proofs of mandatory hypotheses in order: of a `$f` that of its variable's value, of each `$e` the next of these
abbrev pub hyp_proofs : (Sym → Proof) → List Hyp → List Proof → List Proof
hyp_proofs value [] ps = []
hyp_proofs value (h ∷ hs) [] = if h.floating then value (float_variable h) ∷ hyp_proofs value hs [] else no_proof ∷ hyp_proofs value hs []
hyp_proofs value (h ∷ hs) (p ∷ ps) = if h.floating then value (float_variable h) ∷ hyp_proofs value hs (p ∷ ps) else p ∷ hyp_proofs value hs ps

abbrev pub use_proof : Database → List Hyp → List Proof → List Given → Name → Option Use → Proof
use_proof db hyps earlier places reference None = by reference none
use_proof db hyps earlier places reference (Some u) =
    by reference (proofs (hyp_proofs (λ s. syntax_proof db hyps (value_of u s)) u.assertion.frame.hyps (map (place_proof earlier) places)))

-- the proof of a step: its reference behind the proofs of the reference's hypotheses; of a hypothesis, its label
abbrev pub step_proof : Database → List Hyp → List Proof → WrittenStep → Proof
step_proof db hyps earlier e = use_proof db hyps earlier e.places (unwrap_or e.reference []) e.by

-- the proofs of the steps, in order
abbrev pub step_proofs : Database → List Hyp → List WrittenStep → List Proof
step_proofs db hyps es = fold (λ earlier e. earlier ++ step_proof db hyps earlier e ∷ []) [] es
