-- The statements of the block of a new theorem, and how they move the labels and the frames of a text.
use Rattle.std.specs.Prelude.{ℕ, ◌+◌, List, [], ◌∷◌, ◌++◌, length, take, map, nat_lt, codes, if◌then◌else◌}
use Rattle.mm_model.specs.declared.frames.Frame.{Frame}
use Rattle.mm_model.specs.Names.{Name, label}
use Rattle.mm_model.specs.Words.{Word, words}
use Rattle.mm_model.specs.Statements.{Statement, labels}
use Rattle.install_model.specs.declared.install.NewTheorem.{NewTheorem}

-- ---- the statements of the block, by their tokens

abbrev pub pair_statement : Name × Name → List Name
pair_statement p = codes "$d" ∷ p.0 ∷ p.1 ∷ codes "$." ∷ []

abbrev pub hyp_statement : Name × List Name → List Name
hyp_statement h = h.0 ∷ codes "$e" ∷ h.1 ++ codes "$." ∷ []

abbrev pub theorem_statement : NewTheorem → List Name
theorem_statement t = t.name ∷ codes "$p" ∷ t.formula ++ codes "$=" ∷ map (λ (w : Word). w.bytes) (words t.proof) ++ codes "$." ∷ []

abbrev pub block_statements : NewTheorem → List (List Name)
block_statements t = (codes "${" ∷ []) ∷ map pair_statement t.pairs ++ map hyp_statement t.hyps ++ theorem_statement t ∷ (codes "$}" ∷ []) ∷ []

-- ---- labels and frames

-- the new labels: those of the `$e`, and the theorem's
abbrev pub new_labels : NewTheorem → List Name
new_labels t = map (λ (h : Name × List Name). h.0) t.hyps ++ t.name ∷ []

-- so many labels stand before a place
abbrev pub labels_before : List Statement → ℕ → ℕ
labels_before ss place = length (labels (take place ss))

-- a number moves by so many where it is not below a bound
abbrev pub moved : ℕ → ℕ → ℕ → ℕ
moved bound by n = if nat_lt n bound then n else n + by

-- a frame of the old text, with its position and its label's number in the new one
abbrev pub moved_frame : List Statement → ℕ → NewTheorem → Frame → Frame
moved_frame ss place t f = record f {
  label = label (moved (labels_before ss place) (length (new_labels t)) f.label.0);
  at = moved place (length (block_statements t)) f.at;
}
