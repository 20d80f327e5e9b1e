-- A worksheet that is filled by a valuation with replaced trees is the filled worksheet with replaced trees.
use Rattle.std.specs.Prelude.{◌≡◌, ◌<◌, ◌≤◌, ◌+◌, ◌++◌, ℕ, suc, List, [], ◌∷◌, length, map, fold, zip, slice_index_or, Option, Some, None, refl}
use Rattle.std.specs.List.{AllByRecursion}
use Rattle.std.proofs.Common.{sym, ap, ◌∙◌, arith, length-append}
use Rattle.std.proofs.lemmas.List.{map-append, length-map}
use Rattle.mm_base.specs.declared.tree.Tree.{Tree}
use Rattle.mm_model.specs.Names.{Name}
use Rattle.sheet_text.specs.declared.sheet.SheetItem.{SheetItem}
use Rattle.sheet_text.specs.declared.sheet.SheetItem.TheVariants as item
use Rattle.sheet_text.specs.declared.sheet.SheetStep.{SheetStep}
use Rattle.sheet_text.specs.Layout.{step_of_item}
use Rattle.solve_model.specs.declared.bound.Bound.{Bound}
use Rattle.solve_model.specs.declared.verdict.Verdict.TheVariants as verdict
use Rattle.solve_model.specs.Solutions.{Valuation, formula}
use Rattle.solve_model.specs.Verdicts.{Judgement, accepted, stands}
use Rattle.written_model.specs.declared.filled.Filled.{Filled}
use Rattle.written_model.specs.WrittenSteps.{Use, WrittenStep, WrittenItem, comment, step, steps_in, over_step, trees}
use Rattle.written_model.specs.Filled.{Filling, fill, derived_names, made_step, wanted_by, use_of, filled_step, with_step, fill_item, filled_items}
use Rattle.std.specs.Prelude.{filter_map}
use Rattle.answer_laws.proofs.Moved.{move_step, steps-over, trees-moved, made-moved, Back, new_by, fill-moved}
use Rattle.answer_laws.proofs.Elements.{all_with, all_by-append}

-- the trees of a step
abbrev pub IsGoodUse : (Tree → Type 0) → Option Use → Type 0
IsGoodUse Q None = Unit {0}
IsGoodUse Q (Some u) = AllByRecursion Q u.values

abbrev pub IsGoodItem : (Tree → Type 0) → WrittenItem → Type 0
IsGoodItem Q (comment lines) = Unit {0}
IsGoodItem Q (step e) = Q e.tree × IsGoodUse Q e.by

pub good_trees : (Q : Tree → Type 0) (is : List WrittenItem) → AllByRecursion (IsGoodItem Q) is → AllByRecursion Q (trees (steps_in is))
good_trees Q [] h = tt
good_trees Q (comment lines ∷ is) h = good_trees Q is h.1
good_trees Q (step e ∷ is) h = (h.0.0, good_trees Q is h.1)

good_made : (Q : Tree → Type 0) (names : List Name) (ts : List Tree) → AllByRecursion Q ts → AllByRecursion (IsGoodItem Q) (map step (map made_step (zip names ts)))
good_made Q [] ts h = tt
good_made Q (n ∷ ns) [] h = tt
good_made Q (n ∷ ns) (t ∷ ts) h = ((h.0, tt), good_made Q ns ts h.1)

names-moved : (F : Tree → Tree) (es : List WrittenStep) → map (λ (e : WrittenStep). e.name) (map (move_step F) es) ≡ map (λ (e : WrittenStep). e.name) es
names-moved F [] = refl
names-moved F (e ∷ es) = ap (λ ns. e.name ∷ ns) (names-moved F es)

module _ (F B : Tree → Tree) (Q : Tree → Type 0) (good_back : (t : Tree) → Q t → Back F B t) (bound : Bound) (g h : Valuation) where
  abbrev pub UseIsMoved : Judgement → Type 0
  UseIsMoved (stands v) = Unit {0}
  UseIsMoved (accepted x) = (map F (use_of g x).values ≡ (use_of h x).values) × AllByRecursion Q (use_of g x).values

  -- what the second valuation gives of a step is what the first gives, replaced
  pub record IsMoved (i : ℕ) (o : Judgement) : Type 0 where
    pub formula_is : F (formula bound g i) ≡ formula bound h i
    pub formula_good : Q (formula bound g i)
    pub wanted : map F (wanted_by g o) ≡ wanted_by h o
    pub wanted_good : AllByRecursion Q (wanted_by g o)
    pub use_is : UseIsMoved o

  abbrev moved : List WrittenItem → List WrittenItem
  moved is = map (over_step (move_step F)) is

  abbrev moved_filling : Filling → Filling
  moved_filling f = record { items = moved f.items; numbers = f.numbers }

  step-moved : (numbers more : List ℕ) (s : SheetStep) (t u : Tree) (o : Judgement) → F t ≡ u → UseIsMoved o → move_step F (filled_step numbers more s t g o) ≡ filled_step numbers more s u h o
  step-moved numbers more s t u (stands v) e k = ap (λ x. filled_step numbers more s x g (stands v)) e
  step-moved numbers more s t u (accepted x) e k =
      let with : List Tree → Tree → WrittenStep = λ vs y. record (filled_step numbers more s y g (accepted x)) { by = Some (record { assertion = x.assertion; values = vs }) } in
      ap (λ y. with (map F (use_of g x).values) y) e ∙ ap (λ vs. with vs u) k.0

  good_step : (numbers more : List ℕ) (s : SheetStep) (t : Tree) (o : Judgement) → Q t → UseIsMoved o → IsGoodItem Q (step (filled_step numbers more s t g o))
  good_step numbers more s t (stands v) q k = (q, tt)
  good_step numbers more s t (accepted x) q k = (q, k.1)

  -- one step more, with the new steps before it
  with-moved : (used : List Name) (s : SheetStep) (t u : Tree) (o : Judgement) (f : Filling) (made : List Tree) (places : List ℕ) → F t ≡ u → UseIsMoved o
      → with_step used s u h o (moved_filling f) (record { made = map F made; places = places }) ≡ moved_filling (with_step used s t g o f (record { made = made; places = places }))
  with-moved used s t u o f made places e k =
      let count : length (map F made) ≡ length made = length-map made F in
      let steps_count : length (steps_in (moved f.items)) ≡ length (steps_in f.items) = ap length (steps-over (move_step F) f.items) ∙ length-map (steps_in f.items) (move_step F) in
      let one = λ (n : ℕ) (ts : List Tree). map step (map made_step (zip (derived_names n used) ts)) in
      let last = step (filled_step f.numbers places s t g o) in
      let new = one (length made) made in
      let items_are : moved f.items ++ one (length (map F made)) (map F made) ++ step (filled_step f.numbers places s u h o) ∷ [] ≡ moved (f.items ++ new ++ last ∷ []) =
      ap (λ n. moved f.items ++ one n (map F made) ++ step (filled_step f.numbers places s u h o) ∷ []) count
      ∙ ap (λ is. moved f.items ++ is ++ step (filled_step f.numbers places s u h o) ∷ []) (sym (made-moved F (derived_names (length made) used) made))
      ∙ ap (λ x. moved f.items ++ moved new ++ step x ∷ []) (sym (step-moved f.numbers places s t u o e k))
      ∙ ap (λ is. is ++ step (move_step F (filled_step f.numbers places s t g o)) ∷ []) (sym (map-append (over_step (move_step F)) f.items new))
      ∙ sym (map-append (over_step (move_step F)) (f.items ++ new) (last ∷ [])) in
      let numbers_are : f.numbers ++ (length (steps_in (moved f.items)) + length (map F made)) ∷ [] ≡ f.numbers ++ (length (steps_in f.items) + length made) ∷ [] =
      ap (λ n. f.numbers ++ (n + length (map F made)) ∷ []) steps_count ∙ ap (λ n. f.numbers ++ (length (steps_in f.items) + n) ∷ []) count in
      filling items_are numbers_are
    where
      filling : {is js : List WrittenItem} {ns ms : List ℕ} → is ≡ js → ns ≡ ms → ◌≡◌ {A = Filling} (record { items = is; numbers = ns }) (record { items = js; numbers = ms })
      filling {js = js} {ns = ns} p q = ap (λ xs. let x : Filling = record { items = xs; numbers = ns } in x) p ∙ ap (λ xs. let x : Filling = record { items = js; numbers = xs } in x) q

  good_with : (used : List Name) (s : SheetStep) (t : Tree) (o : Judgement) (f : Filling) (filled : Filled) → Q t → UseIsMoved o → AllByRecursion Q filled.made
      → AllByRecursion (IsGoodItem Q) f.items → AllByRecursion (IsGoodItem Q) (with_step used s t g o f filled).items
  good_with used s t o f filled q k made items =
      let new = map step (map made_step (zip (derived_names (length filled.made) used) filled.made)) in
      let last = step (filled_step f.numbers filled.places s t g o) in
      all_by-append (IsGoodItem Q) (f.items ++ new) (last ∷ [])
      (all_by-append (IsGoodItem Q) f.items new items (good_made Q (derived_names (length filled.made) used) filled.made made)) (good_step f.numbers filled.places s t o q k, tt)

  module _ (names : List Name) (judgements : List Judgement) (n : ℕ)
      (each : (i : ℕ) → i < n → IsMoved i (slice_index_or judgements i (stands verdict.NoRef))) where
    abbrev first_fill : Filling → SheetItem → Filling
    first_fill = fill_item names bound g judgements

    abbrev second_fill : Filling → SheetItem → Filling
    second_fill = fill_item names bound h judgements

    abbrev Good : Filling → Type 0
    Good f = AllByRecursion (IsGoodItem Q) f.items

    pub record Follows (f : Filling) (item : SheetItem) : Type 0 where
      pub same : second_fill (moved_filling f) item ≡ moved_filling (first_fill f item)
      pub good : Good (first_fill f item)

    at_step : (f : Filling) (s : SheetStep) → length f.numbers < n → Good f → Follows f (item.Step s)
    at_step f s l good =
        let i = length f.numbers in
        let o = slice_index_or judgements i (stands verdict.NoRef) in
        let m = each i l in
        let used = λ (is : List WrittenItem). names ++ map (λ (e : WrittenStep). e.name) (steps_in is) in
        let back = λ (ts : List Tree) (q : AllByRecursion Q ts). all_with Q (Back F B) good_back ts q in
        let early = good_trees Q f.items good in
        let earlier : trees (steps_in (moved f.items)) ≡ map F (trees (steps_in f.items)) = ap trees (steps-over (move_step F) f.items) ∙ trees-moved F (steps_in f.items) in
        let used_same : used (moved f.items) ≡ used f.items =
        ap (λ es. names ++ map (λ (e : WrittenStep). e.name) es) (steps-over (move_step F) f.items)
        ∙ ap (λ ns. names ++ ns) (names-moved F (steps_in f.items)) in
        let filled = fill (trees (steps_in f.items)) (wanted_by g o) in
        let filled_same : fill (trees (steps_in (moved f.items))) (wanted_by h o) ≡ record { made = map F filled.made; places = filled.places } =
        ap (λ es. fill es (wanted_by h o)) earlier ∙ ap (fill (map F (trees (steps_in f.items)))) (sym m.wanted)
        ∙ fill-moved F B (trees (steps_in f.items)) (wanted_by g o) (back (trees (steps_in f.items)) early) (back (wanted_by g o) m.wanted_good) in
        record {
          same =
              ap (λ u. with_step u s (formula bound h i) h o (moved_filling f) (fill (trees (steps_in (moved f.items))) (wanted_by h o))) used_same
              ∙ ap (with_step (used f.items) s (formula bound h i) h o (moved_filling f)) filled_same
              ∙ with-moved (used f.items) s (formula bound g i) (formula bound h i) o f filled.made filled.places m.formula_is m.use_is;
          good = good_with (used f.items) s (formula bound g i) o f filled m.formula_good m.use_is (new_by Q (trees (steps_in f.items)) (wanted_by g o) m.wanted_good) good;
        }

    at_comment : (f : Filling) (lines : List Name) → Good f → Follows f (item.Comment lines)
    at_comment f lines good = record {
      same = ap (λ is. let x : Filling = record { items = is; numbers = f.numbers } in x) (sym (map-append (over_step (move_step F)) f.items (comment lines ∷ [])));
      good = all_by-append (IsGoodItem Q) f.items (comment lines ∷ []) good (tt, tt);
    }

    -- the filled worksheet, replaced
    pub record AllFollow (f : Filling) (items : List SheetItem) : Type 0 where
      pub same : fold second_fill (moved_filling f) items ≡ moved_filling (fold first_fill f items)
      pub good : Good (fold first_fill f items)

    more_numbers : (f : Filling) (s : SheetStep) → length (first_fill f (item.Step s)).numbers ≡ length f.numbers + 1
    more_numbers f s = length-append f.numbers _

    all_follow : (items : List SheetItem) (f : Filling) → length f.numbers + length (filter_map step_of_item items) ≤ n → Good f → AllFollow f items
    all_follow [] f l good = record { same = refl; good = good }
    all_follow (item.Comment lines ∷ items) f l good =
        let one = at_comment f lines good in
        let rest = all_follow items (first_fill f (item.Comment lines)) l one.good in
        record { same = ap (λ x. fold second_fill x items) one.same ∙ rest.same; good = rest.good }
    all_follow (item.Step s ∷ items) f l good =
        let here : length f.numbers + suc (length (filter_map step_of_item items)) ≤ n = l in
        let one = at_step f s (omega (arith, here)) good in
        let more = more_numbers f s in
        let rest = all_follow items (first_fill f (item.Step s)) (omega (arith, here, more)) one.good in
        record { same = ap (λ x. fold second_fill x items) one.same ∙ rest.same; good = rest.good }

    pub record FilledAlike (items : List SheetItem) : Type 0 where
      pub same : filled_items names bound h judgements items ≡ map (over_step (move_step F)) (filled_items names bound g judgements items)
      pub good : AllByRecursion (IsGoodItem Q) (filled_items names bound g judgements items)

    pub filled_alike : (items : List SheetItem) → length (filter_map step_of_item items) ≤ n → FilledAlike items
    filled_alike items l =
        let all = all_follow items (record { items = []; numbers = [] }) (omega (arith, l)) tt in
        record { same = ap (λ (f : Filling). f.items) all.same; good = all.good }
