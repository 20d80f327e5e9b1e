-- What of a worksheet its theorem is made of. This is part of the proof, and not of the claim.
use Rattle.std.specs.Prelude.{ℕ, ◌-◌, List, [], ◌∷◌, ◌++◌, fold, map, nat_lt, if◌then◌else◌, slice_index_or, unwrap_or, Option}
use Rattle.install_model.specs.declared.install.NewTheorem.{NewTheorem}
use Rattle.mm_model.specs.Names.{Name}
use Rattle.sheet_text.specs.declared.sheet.PairLine.{PairLine}
use Rattle.sheet_text.specs.declared.sheet.Sheet.{Sheet}
use Rattle.sheet_text.specs.declared.sheet.SheetItem.{SheetItem}
use Rattle.sheet_text.specs.declared.sheet.SheetItem.TheVariants as item
use Rattle.sheet_text.specs.declared.sheet.SheetStep.{SheetStep}
use Rattle.sheet_theorem.specs.declared.parts.Growing.{Growing}

-- the first two names of a `$d` statement
abbrev pub pair_of : PairLine → Name × Name
pair_of p = (slice_index_or p.names 0 [], slice_index_or p.names 1 [])

-- the label and the tokens of an `h` step
abbrev pub hyp_of : SheetStep → Name × List Name
hyp_of t = (unwrap_or t.reference [], t.formula)

-- the `$e` so far, and how many `h` steps are passed over yet
pub record Grown : Type 0 where
  pub left : ℕ
  pub hyps : List (Name × List Name)

abbrev pub grown : ℕ → List (Name × List Name) → Grown
grown left hyps = record { left = left; hyps = hyps }

abbrev pub grown_of : Growing → Grown
grown_of g = grown g.left g.hyps.items

abbrev pub put_hyp_step : Grown → SheetStep → Grown
put_hyp_step g t = if t.hyp then (if nat_lt 0 g.left then grown (g.left - 1) g.hyps else grown g.left (g.hyps ++ hyp_of t ∷ [])) else g

abbrev pub put_item : Grown → SheetItem → Grown
put_item g (item.Comment lines) = g
put_item g (item.Step t) = put_hyp_step g t

-- the tokens of the last step so far
abbrev pub put_formula : List Name → SheetItem → List Name
put_formula formula (item.Comment lines) = formula
put_formula formula (item.Step t) = t.formula

-- the theorem of a worksheet, where so many `h` steps are those of the place
abbrev pub theorem_in : ℕ → Sheet → Option (List ℕ) → NewTheorem
theorem_in outer sheet proof = record {
  name = sheet.theorem;
  pairs = map pair_of sheet.pairs;
  hyps = (fold put_item (grown outer []) sheet.items).hyps;
  formula = fold put_formula [] sheet.items;
  proof = unwrap_or proof [];
}
