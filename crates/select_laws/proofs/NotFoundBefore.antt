-- Before the search no step is found.
use Rattle.std.specs.Prelude.{◌≡◌, ◌++◌, ℕ, List, [], ◌∷◌, length, map, fold, zip, slice_index_or, Contains}
use Rattle.std.specs.List.{AllByRecursion}
use Rattle.std.proofs.Common.{sym, ap, subst, ◌∙◌}
use Rattle.std.proofs.lemmas.List.Elements.{filter_map-append}
use Rattle.mm_base.specs.declared.tree.Tree.{Tree}
use Rattle.mm_model.specs.Names.{Name}
use Rattle.mm_model.specs.Book.{Database}
use Rattle.sheet_text.specs.declared.sheet.SheetItem.{SheetItem}
use Rattle.sheet_text.specs.declared.sheet.SheetItem.TheVariants as item
use Rattle.sheet_text.specs.declared.sheet.SheetStep.{SheetStep}
use Rattle.solve_model.specs.declared.bound.Bound.{Bound}
use Rattle.solve_model.specs.declared.verdict.Verdict.{Verdict}
use Rattle.solve_model.specs.declared.verdict.Verdict.TheVariants as verdict
use Rattle.solve_model.specs.Solutions.{Valuation, formula}
use Rattle.solve_model.specs.Verdicts.{Judgement, accepted, stands}
use Rattle.written_model.specs.declared.options.Options.{Options}
use Rattle.written_model.specs.declared.report.ReportVerdict.TheVariants as report
use Rattle.written_model.specs.WrittenSteps.{WrittenStep, comment, step, step_of, steps_in, trees}
use Rattle.written_model.specs.Filled.{Filling, fill, derived_names, made_step, wanted_by, filled_step, fill_item, reported}
use Rattle.written_model.specs.Named.{name_step}
use Rattle.written_model.specs.Written.{Writing, after_filling, after_naming}
use Rattle.again_laws.proofs.Lists.{all_of, contains_mapped}
use Rattle.answer_laws.proofs.Elements.{all_by-append}
use Rattle.answer_laws.proofs.Moved.{steps-over}
use Rattle.answer_laws.proofs.Settled.{steps-made}

abbrev IsNotFound : WrittenStep → Type 0
IsNotFound e = e.verdict ≡ report.Found → ⊥

reported_not : (v : Verdict) → reported v ≡ report.Found → ⊥
reported_not verdict.Fits e = cc
reported_not verdict.NoFit e = cc
reported_not verdict.UnknownRef e = cc
reported_not verdict.NotUsable e = cc
reported_not verdict.TooManyHyps e = cc
reported_not verdict.NoRef e = cc
reported_not verdict.Hyp e = cc

filled_not : (numbers more : List ℕ) (s : SheetStep) (t : Tree) (g : Valuation) (o : Judgement) → IsNotFound (filled_step numbers more s t g o)
filled_not numbers more s t g (stands v) e = reported_not v e
filled_not numbers more s t g (accepted x) e = cc

made_not : (names : List Name) (ts : List Tree) → AllByRecursion IsNotFound (map made_step (zip names ts))
made_not [] ts = tt
made_not (n ∷ names) [] = tt
made_not (n ∷ names) (t ∷ ts) = ((λ e. cc), made_not names ts)

module _ (names : List Name) (bound : Bound) (g : Valuation) (judgements : List Judgement) where
  abbrev HasNone : Filling → Type 0
  HasNone f = AllByRecursion IsNotFound (steps_in f.items)

  at_item : (f : Filling) (i : SheetItem) → HasNone f → HasNone (fill_item names bound g judgements f i)
  at_item f (item.Comment lines) h =
      subst (AllByRecursion IsNotFound) (sym (filter_map-append step_of f.items (comment lines ∷ []))) (all_by-append IsNotFound (steps_in f.items) [] h tt)
  at_item f (item.Step s) h =
      let i = length f.numbers in
      let o = slice_index_or judgements i (stands verdict.NoRef) in
      let es = steps_in f.items in
      let filled = fill (trees es) (wanted_by g o) in
      let used = names ++ map (λ (e : WrittenStep). e.name) es in
      let made = map made_step (zip (derived_names (length filled.made) used) filled.made) in
      let last = filled_step f.numbers filled.places s (formula bound g i) g o in
      let steps_are : steps_in (f.items ++ map step made ++ step last ∷ []) ≡ es ++ made ++ last ∷ [] =
      filter_map-append step_of (f.items ++ map step made) (step last ∷ []) ∙ ap (λ xs. xs ++ last ∷ []) (filter_map-append step_of f.items (map step made))
      ∙ ap (λ xs. es ++ xs ++ last ∷ []) (steps-made made) in
      subst (AllByRecursion IsNotFound) (sym steps_are)
      (all_by-append IsNotFound (es ++ made) (last ∷ []) (all_by-append IsNotFound es made h (made_not (derived_names (length filled.made) used) filled.made))
      (filled_not f.numbers filled.places s (formula bound g i) g o, tt))

  all_items : (items : List SheetItem) (f : Filling) → HasNone f → HasNone (fold (fill_item names bound g judgements) f items)
  all_items [] f h = h
  all_items (i ∷ items) f h = all_items items (fill_item names bound g judgements f i) (at_item f i h)

module _ (db : Database) (options : Options) (w : Writing) where
  pub not_found_before : (e : WrittenStep) → Contains (steps_in (after_naming db options w)) e → e.verdict ≡ report.Found → ⊥
  not_found_before e m same =
      let moved = subst (λ es. Contains es e) (steps-over (name_step w.names) (after_filling db options w)) m in
      let r = contains_mapped (name_step w.names) (steps_in (after_filling db options w)) e moved in
      let verdict_is = ap (λ (x : WrittenStep). x.verdict) r.2 in
      all_of IsNotFound (steps_in (after_filling db options w)) r.0
      (all_items _ w.bound w.value w.judgements w.read.items (record { items = []; numbers = [] }) tt) r.1 (verdict_is ∙ same)
