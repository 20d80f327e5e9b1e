-- Written again, a worksheet has nothing to fill and nothing to name.
use Rattle.std.specs.Prelude.{◌≡◌, ◌<◌, ◌+◌, ◌++◌, nat_lt, ℕ, zero, suc, Bool, true, false, List, [], ◌∷◌, length, map, fold, slice_get}
use Rattle.std.specs.Prelude.{slice_index_or, unwrap_or, Option, Some, None, option_map, refl}
use Rattle.std.specs.Option.{option_map_or}
use Rattle.std.proofs.Common.{sym, ap, subst, ◌∙◌, arith, length-append, append_assoc, append-nil, drop_of_length-le, ltb-true, ltb-false}
use Rattle.std.proofs.lemmas.List.Elements.{filter_map-append}
use Rattle.mm_base.specs.declared.tree.Tree.{Tree}
use Rattle.mm_base.specs.declared.tree.Tree.TheVariants.{Var, Fresh}
use Rattle.mm_model.specs.Names.{Name}
use Rattle.mm_model.specs.Productions.{TypedVariable}
use Rattle.mm_model.specs.Book.{Database}
use Rattle.sheet_text.specs.declared.sheet.Given.{Given}
use Rattle.sheet_text.specs.declared.sheet.Given.TheVariants as given
use Rattle.sheet_text.specs.declared.sheet.SheetItem.TheVariants as item
use Rattle.sheet_text.specs.Layout.{step_names}
use Rattle.solve_model.specs.declared.bound.Bound.{Bound}
use Rattle.solve_model.specs.declared.verdict.Verdict.TheVariants as verdict
use Rattle.solve_model.specs.Trees.{Open, work, fresh, leaf_tree}
use Rattle.solve_model.specs.Solutions.{Valuation, open_value, formula_value, formula, instance, no_step}
use Rattle.solve_model.specs.Verdicts.{Judgement, stands, asked}
use Rattle.solve_laws.proofs.ReplaceLaws.{replace-agree, replace-self}
use Rattle.written_model.specs.declared.options.Options.{Options}
use Rattle.written_model.specs.declared.report.ReportVerdict.{ReportVerdict}
use Rattle.written_model.specs.declared.report.ReportVerdict.TheVariants as report
use Rattle.written_model.specs.WrittenSteps.{Use, WrittenStep, WrittenItem, comment, step, step_of, steps_in, over_step, trees, value_of}
use Rattle.written_model.specs.Filled.{Filling, fill, reported, written_place, wanted_by, use_of, filled_step, with_step, fill_item}
use Rattle.written_model.specs.Named.{Naming, name_leaf, name_tree, name_use, name_step, name_items}
use Rattle.written_model.specs.Written.{Writing, written_step, written_item, written_sheet, bound_step, written_bound, after_filling, after_naming}
use Rattle.written_model.specs.Again.{verdict_again, step_again, unreported, judgement_by, judgements_from, use_at, value_again, again}
use Rattle.answer_laws.proofs.SearchedAlike.{values_are}
use Rattle.answer_laws.proofs.Settled.{PlacesBelow, IsSettledUse, IsSettled, AreSettled}

-- ---- no leaf gets a name

abbrev pub no_names : Naming
no_names c n = None

leaf_stays : (x : Open) → name_leaf no_names x ≡ leaf_tree x
leaf_stays (work c n) = refl
leaf_stays (fresh c n) = refl

pub tree_stays : (t : Tree) → name_tree no_names t ≡ t
tree_stays t = replace-agree (λ s c. Var s c) (λ s c. Var s c) (name_leaf no_names) leaf_tree (λ s c. refl) t (λ x o. leaf_stays x) ∙ replace-self t

pub all_stay : (ts : List Tree) → map (name_tree no_names) ts ≡ ts
all_stay [] = refl
all_stay (t ∷ ts) = ap (λ x. x ∷ map (name_tree no_names) ts) (tree_stays t) ∙ ap (λ xs. t ∷ xs) (all_stay ts)

use_stays : (o : Option Use) → name_use no_names o ≡ o
use_stays None = refl
use_stays (Some u) = ap (λ vs. Some (record u { values = vs })) (all_stay u.values)

step_stays : (e : WrittenStep) → name_step no_names e ≡ e
step_stays e = ap (λ t. record e { tree = t; by = name_use no_names e.by }) (tree_stays e.tree) ∙ ap (λ o. record e { by = o }) (use_stays e.by)

pub items_stay : (is : List WrittenItem) → name_items no_names is ≡ is
items_stay [] = refl
items_stay (comment lines ∷ is) = ap (λ xs. comment lines ∷ xs) (items_stay is)
items_stay (step e ∷ is) = ap (λ x. step x ∷ name_items no_names is) (step_stays e) ∙ ap (λ xs. step e ∷ xs) (items_stay is)

-- ---- what is looked up

reported_again : (v : ReportVerdict) → reported (unreported v) ≡ verdict_again v
reported_again report.Fits = refl
reported_again report.Found = refl
reported_again report.NoFit = refl
reported_again report.UnknownRef = refl
reported_again report.NotUsable = refl
reported_again report.TooManyHyps = refl
reported_again report.NoRef = refl
reported_again report.Hyp = refl

judgement_at : (j : ℕ) (es : List WrittenStep) (i : ℕ) (e : WrittenStep) (d : Judgement) → slice_get es i ≡ Some e → slice_index_or (judgements_from j es) i d ≡ judgement_by (j + i) e e.by
judgement_at j [] i e d h = absurd (cc)
judgement_at j (f ∷ fs) zero e d h =
    let same : f ≡ e = cc in
    ap (λ (x : WrittenStep). judgement_by j x x.by) same ∙ ap (λ n. judgement_by n e e.by) (plus_zero j)
  where
    plus_zero : (n : ℕ) → n ≡ n + 0
    plus_zero n = omega arith
judgement_at j (f ∷ fs) (suc i) e d h = judgement_at (j + 1) fs i e d h ∙ ap (λ n. judgement_by n e e.by) (one_more j i)
  where
    one_more : (n k : ℕ) → n + 1 + k ≡ n + suc k
    one_more n k = omega arith

module _ (numbers : List ℕ) where
  places_stay : (n : ℕ) (gs : List Given) → ((k : ℕ) → k < n → slice_index_or numbers k 0 ≡ k) → PlacesBelow n gs → map (written_place numbers) gs ≡ gs
  places_stay n [] h b = refl
  places_stay n (given.Gap ∷ gs) h b = ap (λ xs. given.Gap ∷ xs) (places_stay n gs h b.1)
  places_stay n (given.Step k ∷ gs) h b = ap (λ m. given.Step m ∷ map (written_place numbers) gs) (h k b.0) ∙ ap (λ xs. given.Step k ∷ xs) (places_stay n gs h b.1)

module _ (db : Database) (options : Options) (w : Writing) where
  abbrev es : List WrittenStep
  es = steps_in w.items

  abbrev g : Valuation
  g = value_again es

  abbrev bound : Bound
  bound = written_bound db options w

  abbrev js : List Judgement
  js = judgements_from 0 es

  tree_at : (fs : List WrittenStep) (i : ℕ) (e : WrittenStep) → slice_get fs i ≡ Some e → (slice_index_or (map (bound_step db options w) fs) i no_step).tree ≡ Some e.tree
  tree_at [] i e h = absurd (cc)
  tree_at (f ∷ fs) zero e h = let same : f ≡ e = cc in ap (λ (x : WrittenStep). Some x.tree) same
  tree_at (f ∷ fs) (suc i) e h = tree_at fs i e h

  value_stays : (x : Open) → open_value g x ≡ leaf_tree x
  value_stays (work c n) = refl
  value_stays (fresh c n) = refl

  -- each formula is as it was written
  pub formula_stays : (i : ℕ) (e : WrittenStep) → slice_get es i ≡ Some e → formula bound g i ≡ e.tree
  formula_stays i e h =
      ap (formula_value g i) (tree_at es i e h)
      ∙ replace-agree (λ s c. Var s c) (λ s c. Var s c) (open_value g) leaf_tree (λ s c. refl) e.tree (λ x o. value_stays x)
      ∙ replace-self e.tree

  -- the use of a step, from the values of its variables
  pub use_again : (i : ℕ) (e : WrittenStep) (u : Use) → slice_get es i ≡ Some e → e.by ≡ Some u → IsSettledUse e.places e.verdict (Some u) → use_of g (asked i u.assertion e.places) ≡ u
  use_again i e u h b k =
      let at : use_at es i ≡ Some u = ap (λ o. unwrap_or (option_map (λ (x : WrittenStep). x.by) o) None) h ∙ b in
      ap (λ o. let x : Use = record { assertion = u.assertion; values = map (λ (v : TypedVariable). option_map_or (λ y. value_of y v.sym) o (Fresh v.code i)) u.assertion.vars } in x) at
      ∙ ap (λ vs. let x : Use = record { assertion = u.assertion; values = vs } in x) (sym (values_are u.assertion.vars u.values k.1 k.2))

  -- ---- one step

  nothing_wanted : (i : ℕ) (e : WrittenStep) (o : Option Use) → IsSettledUse e.places e.verdict o → wanted_by g (judgement_by i e o) ≡ []
  nothing_wanted i e None k = refl
  nothing_wanted i e (Some u) k = ap (map (instance g i)) (drop_of_length-le u.assertion.hyps k.0)

  abbrev stepped : WrittenStep → List Given → ReportVerdict → Option Use → WrittenStep
  stepped e gs v o = record e { places = gs; verdict = v; by = o }

  step_same : (numbers : List ℕ) (i : ℕ) (e : WrittenStep) (o : Option Use) → slice_get es i ≡ Some e → e.by ≡ o → map (written_place numbers) e.places ≡ e.places → IsSettledUse e.places e.verdict o
      → filled_step numbers [] (written_step db e) e.tree g (judgement_by i e o) ≡ step_again e
  step_same numbers i e None h b p k =
      ap (λ gs. stepped e gs (reported (unreported e.verdict)) None) p ∙ ap (λ v. stepped e e.places v None) (reported_again e.verdict) ∙ ap (stepped e e.places (verdict_again e.verdict)) (sym b)
  step_same numbers i e (Some u) h b p k =
      ap (λ gs. stepped e gs report.Fits (Some (use_of g (asked i u.assertion e.places)))) (append-nil (map (written_place numbers) e.places) ∙ p)
      ∙ ap (λ v. stepped e e.places v (Some (use_of g (asked i u.assertion e.places)))) (sym k.3)
      ∙ ap (stepped e e.places (verdict_again e.verdict)) (ap Some (use_again i e u h b k) ∙ sym b)

  -- ---- all steps

  pub record At (i : ℕ) (f : Filling) : Type 0 where
    pub count : length f.numbers ≡ i
    pub written : length (steps_in f.items) ≡ i
    pub numbers : (k : ℕ) → k < i → slice_index_or f.numbers k 0 ≡ k

  module _ (names : List Name) where
    abbrev run : Filling → List WrittenItem → Filling
    run f is = fold (fill_item names bound g js) f (map (written_item db) is)

    abbrev after : Filling → ℕ → WrittenStep → Filling
    after f i e = record { items = f.items ++ step (step_again e) ∷ []; numbers = f.numbers ++ i ∷ [] }

    plus_zero : (n : ℕ) → n + 0 ≡ n
    plus_zero n = omega arith

    one_step : (f : Filling) (i : ℕ) (e : WrittenStep) → At i f → slice_get es i ≡ Some e → IsSettled i e → fill_item names bound g js f (item.Step (written_step db e)) ≡ after f i e
    one_step f i e a h k =
        let s = written_step db e in
        let used = names ++ map (λ (x : WrittenStep). x.name) (steps_in f.items) in
        let ts = trees (steps_in f.items) in
        let here : slice_get es (length f.numbers) ≡ Some e = subst (λ n. slice_get es n ≡ Some e) (sym a.count) h in
        let o_is : slice_index_or js (length f.numbers) (stands verdict.NoRef) ≡ judgement_by i e e.by =
        judgement_at 0 es (length f.numbers) e (stands verdict.NoRef) here ∙ ap (λ n. judgement_by n e e.by) (zero_plus (length f.numbers) ∙ a.count) in
        let step_is = step_same f.numbers i e e.by h refl (places_stay f.numbers i e.places a.numbers k.places) k.use_is in
        ap (λ o. with_step used s (formula bound g (length f.numbers)) g o f (fill ts (wanted_by g o))) o_is
        ∙ ap (λ t. with_step used s t g (judgement_by i e e.by) f (fill ts (wanted_by g (judgement_by i e e.by)))) (formula_stays (length f.numbers) e here)
        ∙ ap (λ ws. with_step used s e.tree g (judgement_by i e e.by) f (fill ts ws)) (nothing_wanted i e e.by k.use_is)
        ∙ ap (λ x. let r : Filling = record { items = f.items ++ [] ++ step x ∷ []; numbers = f.numbers ++ (length (steps_in f.items) + 0) ∷ [] } in r) step_is
        ∙ ap (λ xs. let r : Filling = record { items = xs ++ step (step_again e) ∷ []; numbers = f.numbers ++ (length (steps_in f.items) + 0) ∷ [] } in r) (append-nil f.items)
        ∙ ap (λ n. after f n e) (plus_zero (length (steps_in f.items)) ∙ a.written)
      where
        zero_plus : (n : ℕ) → 0 + n ≡ n
        zero_plus n = omega arith

    number_at : (ns : List ℕ) (k m : ℕ) → k < length ns → slice_index_or (ns ++ m ∷ []) k 0 ≡ slice_index_or ns k 0
    number_at [] k m l = absurd (omega (arith, l))
    number_at (n ∷ ns) zero m l = refl
    number_at (n ∷ ns) (suc k) m l = number_at ns k m (omega (arith, l))

    number_last : (ns : List ℕ) (m : ℕ) → slice_index_or (ns ++ m ∷ []) (length ns) 0 ≡ m
    number_last [] m = refl
    number_last (n ∷ ns) m = number_last ns m

    numbers_next : (ns : List ℕ) (i : ℕ) → length ns ≡ i → ((k : ℕ) → k < i → slice_index_or ns k 0 ≡ k) → (k : ℕ) → k < suc i → slice_index_or (ns ++ i ∷ []) k 0 ≡ k
    numbers_next ns i c h k l = by (nat_lt k i) refl
      where
        by : (b : Bool) → nat_lt k i ≡ b → slice_index_or (ns ++ i ∷ []) k 0 ≡ k
        by true e = let less = ltb-true k i e in number_at ns k i (omega (arith, less, c)) ∙ h k less
        by false e =
            let more = ltb-false k i e in
            let same : k ≡ length ns = omega (arith, more, l, c) in
            let same' : i ≡ k = omega (arith, more, l) in
            ap (λ n. slice_index_or (ns ++ i ∷ []) n 0) same ∙ number_last ns i ∙ same'

    at_next : (f : Filling) (i : ℕ) (e : WrittenStep) → At i f → At (suc i) (after f i e)
    at_next f i e a =
        let one = length-append f.numbers (i ∷ []) in
        let two : length (steps_in (f.items ++ step (step_again e) ∷ [])) ≡ length (steps_in f.items) + 1 =
        ap length (filter_map-append step_of f.items (step (step_again e) ∷ [])) ∙ length-append (steps_in f.items) (step_again e ∷ []) in
        let count = a.count in
        let written = a.written in
        record { count = omega (arith, one, count); written = omega (arith, two, written); numbers = numbers_next f.numbers i a.count a.numbers }

    at_comment : (f : Filling) (i : ℕ) (lines : List Name) → At i f → At i (record { items = f.items ++ comment lines ∷ []; numbers = f.numbers })
    at_comment f i lines a = record {
      count = a.count;
      written = ap length (filter_map-append step_of f.items (comment lines ∷ []) ∙ append-nil (steps_in f.items)) ∙ a.written;
      numbers = a.numbers;
    }

    all_steps : (is : List WrittenItem) (f : Filling) (i : ℕ) → At i f → AreSettled i (steps_in is) → ((k : ℕ) (e : WrittenStep) → slice_get (steps_in is) k ≡ Some e → slice_get es (i + k) ≡ Some e)
        → (run f is).items ≡ f.items ++ map (over_step step_again) is
    all_steps [] f i a k h = sym (append-nil f.items)
    all_steps (comment lines ∷ is) f i a k h =
        all_steps is (record { items = f.items ++ comment lines ∷ []; numbers = f.numbers }) i (at_comment f i lines a) k h
        ∙ append_assoc f.items (comment lines ∷ []) (map (over_step step_again) is)
    all_steps (step e ∷ is) f i a k h =
        let here : slice_get es i ≡ Some e = subst (λ n. slice_get es n ≡ Some e) (plus_zero i) (h 0 e refl) in
        ap (λ (x : Filling). (run x is).items) (one_step f i e a here k.0)
        ∙ all_steps is (after f i e) (suc i) (at_next f i e a) k.1 (λ m x q. subst (λ n. slice_get es n ≡ Some x) (next i m) (h (suc m) x q))
        ∙ append_assoc f.items (step (step_again e) ∷ []) (map (over_step step_again) is)
      where
        next : (n m : ℕ) → n + suc m ≡ suc n + m
        next n m = omega arith

  -- nothing is filled
  pub nothing_filled : AreSettled 0 es → after_filling db options (again db options w) ≡ (again db options w).items
  nothing_filled k =
      all_steps (step_names (written_sheet db options w)) w.items (record { items = []; numbers = [] }) 0 (record { count = refl; written = refl; numbers = λ m l. absurd (omega (arith, l)) }) k
      (λ m e h. subst (λ n. slice_get es n ≡ Some e) (zero_plus m) h)
    where
      zero_plus : (n : ℕ) → n ≡ 0 + n
      zero_plus n = omega arith

  -- and nothing named
  pub nothing_made : AreSettled 0 es → after_naming db options (again db options w) ≡ (again db options w).items
  nothing_made k = items_stay (after_filling db options (again db options w)) ∙ nothing_filled k
