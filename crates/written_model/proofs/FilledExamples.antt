-- Missing places and the steps that fill them, computed.
use Rattle.std.specs.Prelude.{◌≡◌, ℕ, false, List, [], ◌∷◌, map, Some, codes, refl}
use Rattle.std.specs.Fmt.{digits}
use Rattle.mm_base.specs.declared.tree.Tree.TheVariants.{Var, Work, Fresh}
use Rattle.sheet_text.specs.declared.sheet.Given.{Given}
use Rattle.sheet_text.specs.declared.sheet.Given.TheVariants as given
use Rattle.sheet_text.specs.declared.sheet.SheetItem.TheVariants as item
use Rattle.solve_model.specs.Solutions.{named, blank, copy, Valuation, Solves}
use Rattle.solve_model.specs.Verdicts.{accepted, asked}
use Rattle.solve_model.specs.BoundExamples.{step as bound_step, bound}
use Rattle.solve_model.specs.Example.{wff, ph, ps, wi, ax_mp}
use Rattle.solve_model.proofs.TreeLaws.{replaces, same_trees}
use Rattle.written_model.specs.WrittenSteps.{WrittenStep, WrittenItem, step, steps_in}
use Rattle.written_model.specs.Filled.{fill, derived_names, filled_items}
use Rattle.written_model.specs.WrittenExample.{trees, candidate, judgements, value, read, first, derived, last}

-- a wanted tree that an earlier step has, one that is new, and the new one again
pub choices : fill (ph ∷ wi ph ps ∷ ph ∷ []) (ph ∷ wi ps ph ∷ wi ps ph ∷ []) ≡ record { made = wi ps ph ∷ []; places = 0 ∷ 3 ∷ 3 ∷ [] }
choices = simp same_trees refl

pub names : derived_names 3 (codes "qed" ∷ codes "d2" ∷ []) ≡ codes "d1" ∷ codes "d3" ∷ codes "d4" ∷ []
unfolding digits
names = refl

-- ---- the place of `( ph -> ( ps -> ph ) )` is missing

pub solved : Solves trees value candidate
solved = record { conclusion = simp replaces refl; places = (simp replaces refl, tt) }

pub filled : filled_items (codes "1" ∷ codes "qed" ∷ []) trees value judgements read.items ≡ step first ∷ step derived ∷ step last ∷ []
unfolding digits
filled = simp (replaces, same_trees) refl

-- ---- all places are missing, and a comment stands before the step: `* why` and `qed::ax-mp |- ps`

abbrev open_value : Valuation
open_value (named c n) = Work c n
open_value (blank i) = Fresh wff 0
open_value (copy i s c) = Var s c

-- what of the new steps is shown: their names, places and trees
abbrev shown : List WrittenItem → List (List ℕ × List Given)
shown items = map (λ (e : WrittenStep). (e.name, e.places)) (steps_in items)

pub both_missing : shown (filled_items (codes "qed" ∷ []) (bound (bound_step (codes "qed") [] (Some (codes "ax-mp")) (Some ps) ∷ [])) open_value (accepted (asked 0 ax_mp []) ∷ [])
    (item.Comment (codes "* why" ∷ []) ∷ item.Step (record { line = 0; hyp = false; name = codes "qed"; places = []; reference = Some (codes "ax-mp"); formula = codes "|-" ∷ codes "ps" ∷ [] }) ∷ []))
    ≡ (codes "d1", []) ∷ (codes "d2", []) ∷ (codes "qed", given.Step 0 ∷ given.Step 1 ∷ []) ∷ []
unfolding digits
both_missing = simp (replaces, same_trees) refl

-- ---- a `?` is not filled: `qed:?:ax-mp |- ps`

pub gap_stays : shown
    (filled_items (codes "qed" ∷ []) (bound (bound_step (codes "qed") (given.Gap ∷ []) (Some (codes "ax-mp")) (Some ps) ∷ [])) open_value
    (accepted (asked 0 ax_mp (given.Gap ∷ [])) ∷ [])
    (item.Step (record { line = 0; hyp = false; name = codes "qed"; places = given.Gap ∷ []; reference = Some (codes "ax-mp"); formula = codes "|-" ∷ codes "ps" ∷ [] }) ∷ []))
    ≡ (codes "d1", []) ∷ (codes "qed", given.Gap ∷ given.Step 0 ∷ []) ∷ []
unfolding digits
gap_stays = simp (replaces, same_trees) refl
