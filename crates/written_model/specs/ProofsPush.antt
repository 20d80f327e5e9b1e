-- Laws: what the proof of a tree, and of a step, leaves on the stack.
use Rattle.std.specs.Prelude.{◌≡◌, ℕ, true, false, codes, None, find, List, [], ◌∷◌, flat_map, slice_get, slice_index_or, Contains, Some, Result, Ok}
use Rattle.std.specs.Str.{bytes_eq}
use Rattle.mm_base.specs.declared.symbols.Sym.{Sym}
use Rattle.mm_base.specs.declared.symbols.Typecode.{Typecode}
use Rattle.mm_base.specs.declared.tree.Tree.{Tree}
use Rattle.mm_base.specs.declared.kinds.Kinds.{Kinds}
use Rattle.mm_base.specs.Trees.{code_of}
use Rattle.mm_model.specs.declared.frames.Hyp.{Hyp}
use Rattle.mm_model.specs.declared.rows.Leaf.{Leaf}
use Rattle.mm_model.specs.declared.rows.Leaf.TheVariants as leaf
use Rattle.mm_model.specs.Texts.{text}
use Rattle.mm_model.specs.Typed.{IsTyped}
use Rattle.mm_model.specs.Book.{Database}
use Rattle.proof_model.specs.declared.code.Code.{Code}
use Rattle.proof_model.specs.declared.theorem.Theorem.{Theorem}
use Rattle.proof_model.specs.Codes.{normal_code}
use Rattle.proof_model.specs.Machine.{Formula, Frames, State, MachineFault, push, run_steps, is_float_of}
use Rattle.proof_model.specs.Arities.{HasArities}
use Rattle.proof_model.specs.Proofs.{Proof, postorder}
use Rattle.solve_model.specs.Binding.{symbols_from}
use Rattle.solve_model.specs.Trees.{open_leaves}
use Rattle.written_model.specs.declared.options.Options.{Options}
use Rattle.written_model.specs.WrittenSteps.{WrittenStep, steps_in}
use Rattle.written_model.specs.ProofTrees.{Below, syntax_proof, step_proofs, no_proof}
use Rattle.written_model.specs.Opened.{IsOpened}
use Rattle.written_model.specs.Written.{Writing, Writes, frames_of, formula_tokens, written_theorem}

-- the state behind the steps of a code
abbrev pub run_code : Frames → Theorem → Code → State → Result State (ℕ × MachineFault)
run_code frames theorem code st = run_steps frames theorem code.labels 0 code.steps st

-- the labels of the proof push this formula, whatever lies below
abbrev pub Pushes : Frames → Theorem → Proof → Formula → Type 0
Pushes frames theorem p f = (st : State) → run_code frames theorem (normal_code theorem.mandatory (postorder p)) st ≡ Ok (push f st)

abbrev pub leaf_symbols : Leaf → List Sym
leaf_symbols (leaf.Const s) = s ∷ []
leaf_symbols (leaf.Var s c) = s ∷ []
leaf_symbols (leaf.Work c n) = []

-- the typecode and the text of a tree without work variables
abbrev pub tree_formula : Database → Tree → Formula
tree_formula db t = (code_of t).0 ∷ flat_map leaf_symbols (text db.rows t)

-- the first `$f` of a variable among these hypotheses has this typecode, and its label names no other one and is no `?`
pub record HasFloat (hyps : List Hyp) (s : Sym) (c : Typecode) : Type 0 where
  pub hyp : Hyp
  pub is_float : find (is_float_of s) hyps ≡ Some hyp
  pub formula : hyp.formula ≡ c.0 ∷ s ∷ []
  pub named : find (λ (h : Hyp). bytes_eq h.name hyp.name) hyps ≡ Some hyp
  pub no_gap : bytes_eq hyp.name (codes "?") ≡ false

-- so has each variable of the tree
abbrev pub HasFloats : Database → List Hyp → Tree → Type 0
HasFloats db hyps t = (s : Sym) (c : Typecode) → Contains (text db.rows t) (leaf.Var s c) → HasFloat hyps s c

-- no hypothesis has the label of an assertion
abbrev pub AreApart : Database → List Hyp → Type 0
AreApart db hyps = (h : Hyp) → Contains hyps h → frames_of db h.name ≡ None

-- the proof of a tree pushes its typecode and its text
abbrev pub TreeProofPushes : Kinds → Database → Theorem → Type 0
TreeProofPushes kinds db theorem = (t : Tree) → IsOpened kinds db → IsTyped db.rows theorem.at t → open_leaves t ≡ [] → HasFloats db theorem.hyps t → AreApart db theorem.hyps
    → Pushes (frames_of db) theorem (syntax_proof db theorem.hyps t) (tree_formula db t)

abbrev pub proof_at : Database → Options → Writing → ℕ → Proof
proof_at db options w i = slice_index_or (step_proofs db (written_theorem db options w).hyps (steps_in w.items)) i no_proof

-- in a finished worksheet the proof of each step below `qed` pushes its formula
abbrev pub StepProofPushes : Database → List ℕ → Options → Writing → Type 0
StepProofPushes db text options w = (i : ℕ) (e : WrittenStep) → IsOpened options.kinds db → Writes db text options w → w.finished ≡ true
    → Below (steps_in w.items) i → slice_get (steps_in w.items) i ≡ Some e
    → Pushes (frames_of db) (written_theorem db options w) (proof_at db options w i) (symbols_from db (formula_tokens db e.tree))

-- in it each label has as many subproofs as it takes hypotheses, so that its compressed code ends with the same stack
abbrev pub StepProofHasArities : Database → List ℕ → Options → Writing → Type 0
StepProofHasArities db text options w = (i : ℕ) → IsOpened options.kinds db → Writes db text options w → w.finished ≡ true → Below (steps_in w.items) i
    → HasArities (frames_of db) (written_theorem db options w) (proof_at db options w i)
