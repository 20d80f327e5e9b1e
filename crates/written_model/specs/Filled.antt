-- The places that are missing, and the new steps that fill them.
use Rattle.std.specs.Prelude.{ℕ, zero, suc, ◌+◌, not, false, List, [], ◌∷◌, ◌++◌, length, map, drop, find, fold, zip, unwrap_or, slice_index_or, decimal, if◌then◌else◌, Some, None, codes}
use Rattle.std.specs.List.{list_any, position_or_len, range_with_len}
use Rattle.mm_base.specs.declared.tree.Tree.{Tree}
use Rattle.mm_model.specs.Names.{Name, contains}
use Rattle.mm_model.specs.Productions.{TypedVariable}
use Rattle.sheet_text.specs.declared.sheet.Given.{Given}
use Rattle.sheet_text.specs.declared.sheet.Given.TheVariants as given
use Rattle.sheet_text.specs.declared.sheet.SheetItem.{SheetItem}
use Rattle.sheet_text.specs.declared.sheet.SheetItem.TheVariants as item
use Rattle.sheet_text.specs.declared.sheet.SheetStep.{SheetStep}
use Rattle.solve_model.specs.declared.bound.Bound.{Bound}
use Rattle.solve_model.specs.declared.verdict.Verdict.{Verdict}
use Rattle.solve_model.specs.declared.verdict.Verdict.TheVariants as verdict
use Rattle.solve_model.specs.Trees.{same_tree}
use Rattle.solve_model.specs.Solutions.{Valuation, copy, formula, instance, Asked}
use Rattle.solve_model.specs.Verdicts.{Judgement, accepted, stands}
use Rattle.written_model.specs.declared.filled.Filled.{Filled}
use Rattle.written_model.specs.declared.report.ReportVerdict.{ReportVerdict}
use Rattle.written_model.specs.declared.report.ReportVerdict.TheVariants as report
use Rattle.written_model.specs.WrittenSteps.{Use, WrittenStep, WrittenItem, comment, step, steps_in, trees}

-- the trees that none of the first list equals, each where it first stands
abbrev pub new_trees : List Tree → List Tree → List Tree
new_trees seen [] = []
new_trees seen (w ∷ ws) = if list_any (same_tree w) seen then new_trees seen ws else w ∷ new_trees (seen ++ w ∷ []) ws

-- each wanted tree is that of the first step that has it, of the earlier ones and then the new ones
abbrev pub fill : List Tree → List Tree → Filled
fill earlier wanted = record { made = new_trees earlier wanted; places = map (λ w. position_or_len (same_tree w) (earlier ++ new_trees earlier wanted)) wanted }

-- `d` and the least number from 1 that makes a name not used
abbrev pub derived_name : List Name → Name
derived_name used = unwrap_or (find (λ name. not (contains used name)) (map (λ n. codes "d" ++ decimal n) (range_with_len 1 (suc (length used))))) []

-- so many of them, one after the other
abbrev pub derived_names : ℕ → List Name → List Name
derived_names zero used = []
derived_names (suc n) used = derived_name used ∷ derived_names n (derived_name used ∷ used)

abbrev pub made_step : Name × Tree → WrittenStep
made_step p = record { hyp = false; name = p.0; places = []; reference = None; tree = p.1; verdict = report.NoRef; by = None }

-- a place among the written steps, where the steps read so far have these numbers there
abbrev pub written_place : List ℕ → Given → Given
written_place numbers given.Gap = given.Gap
written_place numbers (given.Step k) = given.Step (slice_index_or numbers k 0)

abbrev pub reported : Verdict → ReportVerdict
reported verdict.Fits = report.Fits
reported verdict.NoFit = report.NoFit
reported verdict.UnknownRef = report.UnknownRef
reported verdict.NotUsable = report.NotUsable
reported verdict.TooManyHyps = report.TooManyHyps
reported verdict.NoRef = report.NoRef
reported verdict.Hyp = report.Hyp

-- the trees of the `$e` for which an accepted step lists no place
abbrev pub wanted_by : Valuation → Judgement → List Tree
wanted_by g (stands v) = []
wanted_by g (accepted x) = map (instance g x.step) (drop (length x.places) x.assertion.hyps)

abbrev pub use_of : Valuation → Asked → Use
use_of g x = record { assertion = x.assertion; values = map (λ (v : TypedVariable). g (copy x.step v.sym v.code)) x.assertion.vars }

-- a step as it is written; an accepted one has its places in its order, and then the ones that fill
abbrev pub filled_step : List ℕ → List ℕ → SheetStep → Tree → Valuation → Judgement → WrittenStep
filled_step numbers more s t g (stands v) =
    record { hyp = s.hyp; name = s.name; places = map (written_place numbers) s.places; reference = s.reference; tree = t; verdict = reported v; by = None }
filled_step numbers more s t g (accepted x) =
    record {
      hyp = s.hyp;
      name = s.name;
      places = map (written_place numbers) x.places ++ map (λ k. given.Step k) more;
      reference = s.reference;
      tree = t;
      verdict = report.Fits;
      by = Some (use_of g x);
    }

-- what is written so far, and the numbers of the steps read so far among the written ones
pub record Filling : Type 0 where
  pub items : List WrittenItem
  pub numbers : List ℕ

-- the new steps, with names that are not used, and the step behind them
abbrev pub with_step : List Name → SheetStep → Tree → Valuation → Judgement → Filling → Filled → Filling
with_step used s t g o f filled =
    let made = map made_step (zip (derived_names (length filled.made) used) filled.made) in
    record {
      items = f.items ++ map step made ++ step (filled_step f.numbers filled.places s t g o) ∷ [];
      numbers = f.numbers ++ (length (steps_in f.items) + length filled.made) ∷ [];
    }

module _ (names : List Name) (bound : Bound) (g : Valuation) (judgements : List Judgement) where
  abbrev pub fill_item : Filling → SheetItem → Filling
  fill_item f (item.Comment lines) = record { items = f.items ++ comment lines ∷ []; numbers = f.numbers }
  fill_item f (item.Step s) =
      let i = length f.numbers in
      let o = slice_index_or judgements i (stands verdict.NoRef) in
      with_step (names ++ map (λ (e : WrittenStep). e.name) (steps_in f.items)) s (formula bound g i) g o f (fill (trees (steps_in f.items)) (wanted_by g o))

  -- the filled worksheet, whose own steps have these names: each missing place of an accepted step names the first earlier step of its tree, else a new step just before it
  abbrev pub filled_items : List SheetItem → List WrittenItem
  filled_items items = (fold fill_item (record { items = []; numbers = [] }) items).items
