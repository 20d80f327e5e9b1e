-- What is answered of a step by its tree is what is asked.
use Rattle.std.specs.Prelude.{◌≡◌, true, false, List, Option}
use Rattle.std.proofs.Common.{sym, ◌∙◌}
use Rattle.mm_base.specs.declared.symbols.Label.{Label}
use Rattle.mm_base.specs.declared.symbols.Pair.{Pair}
use Rattle.mm_base.specs.declared.tree.Tree.{Tree}
use Rattle.mm_database.specs.Opened.{Opened}
use Rattle.ref_search.specs.Fitting.{AreAnswer}
use Rattle.ref_search.specs.Wholes.{IsAllowed}
use Rattle.sheet_text.specs.declared.sheet.SheetStep.{SheetStep}
use Rattle.ref_select.specs.declared.written.Selection.TheVariants as selection
use Rattle.ref_select.specs.declared.written.WrittenSheet.{WrittenSheet}
use Rattle.ref_select.specs.Asked.{IsSelectedOf, is_closed_by, wanted_by}
use Rattle.ref_select.proofs.ClosedLaws.{closed_same, wanted_is}

module _ (d : Opened) (w : WrittenSheet) (s : SheetStep) (t : Tree) where
  pub open_step : is_closed_by w.trees.now s t ≡ false → IsSelectedOf d w s t selection.StepOpen
  open_step h kinds text es e opened trees_are written tree_is = sym (closed_same es e w.trees.now s t trees_are written tree_is) ∙ h

  pub fitting_step : (allowed : Option (List Pair)) (ls : List Label) → is_closed_by w.trees.now s t ≡ true → IsAllowed w.mode w.given.now allowed
      → AreAnswer d w.place (wanted_by w.trees.now s t) allowed ls → IsSelectedOf d w s t (selection.Fits ls)
  fitting_step allowed ls closed is_allowed h kinds text es e opened trees_are written tree_is = (
    sym (closed_same es e w.trees.now s t trees_are written tree_is) ∙ closed,
    h kinds text w.mode w.given.now es e opened is_allowed (wanted_is es e w.trees.now s t trees_are written tree_is closed),
  )
