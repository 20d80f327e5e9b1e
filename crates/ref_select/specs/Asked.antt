-- The step that is asked about, by its tree. This is part of the proof, and not of the claim.
use Rattle.std.specs.Prelude.{◌≡◌, ℕ, Bool, false, not, ◌&&◌, List, map, filter_map, slice_get, Option, Some, None}
use Rattle.std.specs.Borrow.{Bor}
use Rattle.std.specs.List.{list_all, AllZip}
use Rattle.std.specs.Option.{option_map_or}
use Rattle.mm_base.specs.declared.kinds.Kinds.{Kinds}
use Rattle.mm_base.specs.declared.tree.Tree.{Tree}
use Rattle.mm_database.specs.Books.{database_of}
use Rattle.mm_database.specs.Opened.{Opened, IsOpened}
use Rattle.ref_search.specs.declared.wanted.Wanted.{Wanted}
use Rattle.sheet_text.specs.declared.sheet.Given.{Given}
use Rattle.sheet_text.specs.declared.sheet.Given.TheVariants as given
use Rattle.sheet_text.specs.declared.sheet.SheetStep.{SheetStep}
use Rattle.written_model.specs.Found.{is_ground}
use Rattle.written_model.specs.WrittenSteps.{WrittenStep, trees}
use Rattle.ref_select.specs.declared.written.Selection.{Selection}
use Rattle.ref_select.specs.declared.written.WrittenSheet.{WrittenSheet}
use Rattle.ref_select.specs.Selecting.{IsWrittenAs, IsSelection}

-- what references stand for
abbrev pub refs : List (Bor SheetStep) → List SheetStep
refs steps = map (λ (s : Bor SheetStep). s.now) steps

-- the tree of the step that a place names
abbrev pub tree_at : List Tree → Given → Option Tree
tree_at ts given.Gap = None
tree_at ts (given.Step k) = slice_get ts k

abbrev pub is_ground_at : List Tree → Given → Bool
is_ground_at ts g = option_map_or is_ground (tree_at ts g) false

abbrev pub is_closed_by : List Tree → SheetStep → Tree → Bool
is_closed_by ts s t = not s.hyp && is_ground t && list_all (is_ground_at ts) s.places

abbrev pub wanted_by : List Tree → SheetStep → Tree → Wanted
wanted_by ts s t = record { formula = t; hyps = filter_map (tree_at ts) s.places }

-- the selection of a step, whatever written step it is with this tree
abbrev pub IsSelectedOf : Opened → WrittenSheet → SheetStep → Tree → Selection → Type 0
IsSelectedOf d w s t sel =
    (kinds : Kinds) (text : List ℕ) (es : List WrittenStep) (e : WrittenStep) → IsOpened kinds text d → w.trees.now ≡ trees es → IsWrittenAs s e → t ≡ e.tree
    → IsSelection (database_of kinds text d.rows d.parsed) w.place w.mode w.given.now es (Some e) sel

-- the selection of the step of a number
abbrev pub IsSelectedAt : Opened → WrittenSheet → List SheetStep → ℕ → Selection → Type 0
IsSelectedAt d w ss n sel =
    (kinds : Kinds) (text : List ℕ) (es : List WrittenStep) → IsOpened kinds text d → w.trees.now ≡ trees es → AllZip IsWrittenAs ss es
    → IsSelection (database_of kinds text d.rows d.parsed) w.place w.mode w.given.now es (slice_get es n) sel
