-- A written step names earlier steps alone, and one with a use lists a place for each `$e`.
use Rattle.std.specs.Prelude.{◌≡◌, ◌<◌, ◌≤◌, ◌+◌, ◌-◌, ◌++◌, ◌||◌, ℕ, zero, suc, true, false, List, [], ◌∷◌, length, map, fold, zip, drop, filter_map}
use Rattle.std.specs.Prelude.{slice_get, slice_index_or, Contains, Option, Some, None, refl}
use Rattle.std.specs.List.{AllByRecursion, list_any, position_or_len}
use Rattle.std.proofs.Common.{sym, ap, subst, ◌∙◌, arith, inl, inr, length-append, length-drop}
use Rattle.std.proofs.lemmas.Bool.{cases_Bool, or_left, or_right}
use Rattle.std.proofs.lemmas.List.{length-map}
use Rattle.std.proofs.lemmas.List.Elements.{filter_map-append}
use Rattle.mm_base.specs.declared.tree.Tree.{Tree}
use Rattle.mm_model.specs.Names.{Name}
use Rattle.mm_model.specs.BookFacts.{VariablesDiffer}
use Rattle.sheet_text.specs.declared.sheet.Given.{Given}
use Rattle.sheet_text.specs.declared.sheet.Given.TheVariants as given
use Rattle.sheet_text.specs.declared.sheet.SheetItem.{SheetItem}
use Rattle.sheet_text.specs.declared.sheet.SheetItem.TheVariants as item
use Rattle.sheet_text.specs.declared.sheet.SheetStep.{SheetStep}
use Rattle.sheet_text.specs.Layout.{step_of_item}
use Rattle.solve_model.specs.declared.bound.Bound.{Bound}
use Rattle.solve_model.specs.declared.verdict.Verdict.TheVariants as verdict
use Rattle.solve_model.specs.Trees.{same_tree}
use Rattle.solve_model.specs.Firsts.{picks, orders}
use Rattle.solve_model.specs.Solutions.{Valuation, formula, instance}
use Rattle.solve_model.specs.Verdicts.{Judgement, accepted, stands}
use Rattle.solve_laws.proofs.SameTrees.{same_tree-Decides}
use Rattle.written_model.specs.declared.report.ReportVerdict.{ReportVerdict}
use Rattle.written_model.specs.declared.report.ReportVerdict.TheVariants as report
use Rattle.written_model.specs.WrittenSteps.{Use, WrittenStep, comment, step, step_of, steps_in, trees}
use Rattle.written_model.specs.Filled.{Filling, new_trees, fill, derived_name, derived_names, made_step, written_place, wanted_by, filled_step, fill_item}
use Rattle.written_model.specs.Again.{verdict_again}
use Rattle.answer_laws.proofs.Elements.{nothing, parted, piece_of, mapped_from, all_by-append}

-- ---- places

abbrev pub IsBelow : ℕ → Given → Type 0
IsBelow n given.Gap = Unit {0}
IsBelow n (given.Step k) = k < n

-- each place is a `?` or names one of the first so many steps
abbrev pub PlacesBelow : ℕ → List Given → Type 0
PlacesBelow n gs = AllByRecursion (IsBelow n) gs

module _ {X : Type 0} (P : X → Type 0) where
  abbrev IsWithin : X × List X → Type 0
  IsWithin p = P p.0 × AllByRecursion P p.1

  picks_within : (xs : List X) → AllByRecursion P xs → (p : X × List X) → Contains (picks xs) p → IsWithin p
  picks_within [] h p o = absurd (nothing p o)
  picks_within (x ∷ xs) h p o = elim (parted p (x, xs) (map (λ (q : X × List X). let r : X × List X = (q.0, x ∷ q.1) in r) (picks xs)) o) [
    | inl e ↦ subst IsWithin e h
    | inr l ↦
        let m = mapped_from (λ (q : X × List X). let r : X × List X = (q.0, x ∷ q.1) in r) (picks xs) p l in
        let k = picks_within xs h.1 m.0 m.1 in
        subst IsWithin m.2 (k.0, (h.0, k.1))
  ]

  -- what holds of each element holds of each of any order
  pub orders_within : (n : ℕ) (xs ys : List X) → AllByRecursion P xs → Contains (orders n xs) ys → AllByRecursion P ys
  orders_within zero xs ys h o = elim (parted ys [] [] o) [ inl e ↦ subst (AllByRecursion P) e tt | inr l ↦ absurd (nothing ys l) ]
  orders_within (suc n) xs ys h o =
      let p = piece_of (λ (q : X × List X). map (λ rest. q.0 ∷ rest) (orders n q.1)) (picks xs) ys o in
      let k = picks_within xs h p.0 p.1 in
      let m = mapped_from (λ rest. p.0.0 ∷ rest) (orders n p.0.1) ys p.2 in
      subst (AllByRecursion P) m.2 (k.0, orders_within n p.0.1 m.0 k.1 m.1)

-- ---- settled steps

abbrev pub IsSettledUse : List Given → ReportVerdict → Option Use → Type 0
IsSettledUse gs v None = Unit {0}
IsSettledUse gs v (Some u) = (length u.assertion.hyps ≤ length gs) × (length u.values ≡ length u.assertion.vars) × VariablesDiffer u.assertion.vars × (verdict_again v ≡ report.Fits)

-- the step of a number
pub record IsSettled (n : ℕ) (e : WrittenStep) : Type 0 where
  pub places : PlacesBelow n e.places
  pub use_is : IsSettledUse e.places e.verdict e.by

-- the steps from a number on
abbrev pub AreSettled : ℕ → List WrittenStep → Type 0
AreSettled n [] = Unit {0}
AreSettled n (e ∷ es) = IsSettled n e × AreSettled (suc n) es

pub settled-append : (n : ℕ) (es fs : List WrittenStep) → AreSettled n es → AreSettled (n + length es) fs → AreSettled n (es ++ fs)
settled-append n [] fs h k = subst (λ m. AreSettled m fs) (zero_more n) k
  where
    zero_more : (m : ℕ) → m + 0 ≡ m
    zero_more m = omega arith
settled-append n (e ∷ es) fs h k = (h.0, settled-append (suc n) es fs h.1 (subst (λ m. AreSettled m fs) (one_more n (length es)) k))
  where
    one_more : (m k : ℕ) → m + suc k ≡ suc m + k
    one_more m k = omega arith

-- ---- where the filled places stand

place_within : (w : Tree) (ts : List Tree) → list_any (same_tree w) ts ≡ true → position_or_len (same_tree w) ts < length ts
place_within w [] h = absurd (cc)
place_within w (t ∷ ts) h = elim (cases_Bool (same_tree w t)) [
  | inl e ↦ rw e (omega arith)
  | inr e ↦ let rest = place_within w ts (rw e at h) in let more : 1 + position_or_len (same_tree w) ts < suc (length ts) = omega (arith, rest) in rw e more
]

any-append : (w : Tree) (ts us : List Tree) → (list_any (same_tree w) ts || list_any (same_tree w) us) ≡ true → list_any (same_tree w) (ts ++ us) ≡ true
any-append w [] us h = h
any-append w (t ∷ ts) us h = elim (cases_Bool (same_tree w t)) [
  | inl e ↦ rw e refl
  | inr e ↦ rw e (any-append w ts us (rw e at h))
]

itself : (w : Tree) → same_tree w w ≡ true
itself w = (same_tree-Decides w w).1 refl

any_left : (w : Tree) (ts us : List Tree) → list_any (same_tree w) ts ≡ true → list_any (same_tree w) (ts ++ us) ≡ true
any_left w ts us h = any-append w ts us (or_left (list_any (same_tree w) ts) (list_any (same_tree w) us) h)

any_right : (w : Tree) (ts us : List Tree) → list_any (same_tree w) us ≡ true → list_any (same_tree w) (ts ++ us) ≡ true
any_right w ts us h = any-append w ts us (or_right (list_any (same_tree w) ts) (list_any (same_tree w) us) h)

joined : (seen : List Tree) (w : Tree) (us : List Tree) → (seen ++ w ∷ []) ++ us ≡ seen ++ w ∷ us
joined [] w us = refl
joined (s ∷ ss) w us = ap (λ xs. s ∷ xs) (joined ss w us)

seen_before : (seen : List Tree) (w : Tree) (ws : List Tree) → list_any (same_tree w) seen ≡ true → new_trees seen (w ∷ ws) ≡ new_trees seen ws
seen_before seen w ws e = rw e refl

not_before : (seen : List Tree) (w : Tree) (ws : List Tree) → list_any (same_tree w) seen ≡ false → new_trees seen (w ∷ ws) ≡ w ∷ new_trees (seen ++ w ∷ []) ws
not_before seen w ws e = rw e refl

-- each wanted tree is an earlier one or a new one
all_stand : (seen ws : List Tree) → AllByRecursion (λ w. list_any (same_tree w) (seen ++ new_trees seen ws) ≡ true) ws
all_stand seen [] = tt
all_stand seen (w ∷ ws) = elim (cases_Bool (list_any (same_tree w) seen)) [
  | inl e ↦
      subst (λ us. AllByRecursion (λ x. list_any (same_tree x) (seen ++ us) ≡ true) (w ∷ ws)) (sym (seen_before seen w ws e))
      (any_left w seen (new_trees seen ws) e, all_stand seen ws)
  | inr e ↦
      let rest = subst (λ ts. AllByRecursion (λ x. list_any (same_tree x) ts ≡ true) ws) (joined seen w (new_trees (seen ++ w ∷ []) ws)) (all_stand (seen ++ w ∷ []) ws) in
      subst (λ us. AllByRecursion (λ x. list_any (same_tree x) (seen ++ us) ≡ true) (w ∷ ws)) (sym (not_before seen w ws e))
      (any_right w seen (w ∷ new_trees (seen ++ w ∷ []) ws) (or_left (same_tree w w) (list_any (same_tree w) (new_trees (seen ++ w ∷ []) ws)) (itself w)), rest)
]

places_within : (ts ws : List Tree) → AllByRecursion (λ w. list_any (same_tree w) ts ≡ true) ws → PlacesBelow (length ts) (map (λ k. given.Step k) (map (λ w. position_or_len (same_tree w) ts) ws))
places_within ts [] h = tt
places_within ts (w ∷ ws) h = (place_within w ts h.0, places_within ts ws h.1)

filled_within : (earlier wanted : List Tree) → PlacesBelow (length earlier + length (fill earlier wanted).made) (map (λ k. given.Step k) (fill earlier wanted).places)
filled_within earlier wanted =
    subst (λ n. PlacesBelow n (map (λ k. given.Step k) (fill earlier wanted).places)) (length-append earlier (new_trees earlier wanted))
    (places_within (earlier ++ new_trees earlier wanted) wanted (all_stand earlier wanted))

-- ---- places by the numbers of the written steps

number_within : (ns : List ℕ) (m k : ℕ) → AllByRecursion (λ n. n < m) ns → k < length ns → slice_index_or ns k 0 < m
number_within [] m k h l = absurd (omega (arith, l))
number_within (n ∷ ns) m zero h l = h.0
number_within (n ∷ ns) m (suc k) h l = number_within ns m k h.1 (omega (arith, l))

written_within : (ns : List ℕ) (m : ℕ) (gs : List Given) → AllByRecursion (λ n. n < m) ns → PlacesBelow (length ns) gs → PlacesBelow m (map (written_place ns) gs)
written_within ns m [] h k = tt
written_within ns m (given.Gap ∷ gs) h k = (tt, written_within ns m gs h k.1)
written_within ns m (given.Step n ∷ gs) h k = (number_within ns m n h k.0, written_within ns m gs h k.1)

below_more : (n m : ℕ) (gs : List Given) → n ≤ m → PlacesBelow n gs → PlacesBelow m gs
below_more n m [] l h = tt
below_more n m (given.Gap ∷ gs) l h = (tt, below_more n m gs l h.1)
below_more n m (given.Step k ∷ gs) l h = let k_is = h.0 in (omega (arith, l, k_is), below_more n m gs l h.1)

numbers_more : (n m : ℕ) (ns : List ℕ) → n ≤ m → AllByRecursion (λ k. k < n) ns → AllByRecursion (λ k. k < m) ns
numbers_more n m [] l h = tt
numbers_more n m (k ∷ ns) l h = let k_is = h.0 in (omega (arith, l, k_is), numbers_more n m ns l h.1)

-- ---- the new steps

made_settled : (n : ℕ) (names : List Name) (ts : List Tree) → AreSettled n (map made_step (zip names ts))
made_settled n [] ts = tt
made_settled n (x ∷ names) [] = tt
made_settled n (x ∷ names) (t ∷ ts) = (record { places = tt; use_is = tt }, made_settled (suc n) names ts)

pub made_count : (used : List Name) (ts : List Tree) → length (map made_step (zip (derived_names (length ts) used) ts)) ≡ length ts
made_count used [] = refl
made_count used (t ∷ ts) = ap suc (made_count (derived_name used ∷ used) ts)

pub steps-made : (es : List WrittenStep) → steps_in (map step es) ≡ es
steps-made [] = refl
steps-made (e ∷ es) = ap (λ xs. e ∷ xs) (steps-made es)

-- ---- one step

-- what is needed of the step of a number, and of its judgement
abbrev pub IsFine : ℕ → SheetStep → Judgement → Type 0
IsFine i s (stands v) = PlacesBelow i s.places
IsFine i s (accepted x) = PlacesBelow i x.places × VariablesDiffer x.assertion.vars

module _ (names : List Name) (bound : Bound) (g : Valuation) (judgements : List Judgement) where
  pub record Inside (f : Filling) : Type 0 where
    pub settled : AreSettled 0 (steps_in f.items)
    pub numbers : AllByRecursion (λ n. n < length (steps_in f.items)) f.numbers

  step_settled : (f : Filling) (s : SheetStep) (t : Tree) (o : Judgement) → Inside f → IsFine (length f.numbers) s o
      → IsSettled (length (steps_in f.items) + length (fill (trees (steps_in f.items)) (wanted_by g o)).made)
      (filled_step f.numbers (fill (trees (steps_in f.items)) (wanted_by g o)).places s t g o)
  step_settled f s t (stands v) h k =
      record { places = below_more _ _ (map (written_place f.numbers) s.places) (omega arith) (written_within f.numbers (length (steps_in f.items)) s.places h.numbers k); use_is = tt }
  step_settled f s t (accepted x) h k =
      let es = steps_in f.items in
      let wanted = map (instance g x.step) (drop (length x.places) x.assertion.hyps) in
      let filled = fill (trees es) wanted in
      let first_places = map (written_place f.numbers) x.places in
      let more = map (λ n. given.Step n) filled.places in
      let trees_count : length (trees es) ≡ length es = length-map es (λ (e : WrittenStep). e.tree) in
      let one = length-append first_places more in
      let two : length first_places ≡ length x.places = length-map x.places (written_place f.numbers) in
      let three : length more ≡ length filled.places = length-map filled.places (λ n. given.Step n) in
      let four : length filled.places ≡ length wanted = length-map wanted _ in
      let five : length wanted ≡ length (drop (length x.places) x.assertion.hyps) = length-map (drop (length x.places) x.assertion.hyps) (instance g x.step) in
      let six : length (drop (length x.places) x.assertion.hyps) ≡ length x.assertion.hyps - length x.places = length-drop (length x.places) x.assertion.hyps in
      record {
        places =
            all_by-append (IsBelow (length es + length filled.made)) first_places more
            (below_more _ _ first_places (omega arith) (written_within f.numbers (length es) x.places h.numbers k.0))
            (subst (λ n. PlacesBelow (n + length filled.made) more) trees_count (filled_within (trees es) wanted));
        use_is = (omega (arith, one, two, three, four, five, six), length-map x.assertion.vars _, k.1, refl);
      }

  at_step : (f : Filling) (s : SheetStep) → Inside f
      → IsFine (length f.numbers) s (slice_index_or judgements (length f.numbers) (stands verdict.NoRef))
      → Inside (fill_item names bound g judgements f (item.Step s))
  at_step f s h k =
      let i = length f.numbers in
      let o = slice_index_or judgements i (stands verdict.NoRef) in
      let es = steps_in f.items in
      let filled = fill (trees es) (wanted_by g o) in
      let used = names ++ map (λ (e : WrittenStep). e.name) es in
      let made = map made_step (zip (derived_names (length filled.made) used) filled.made) in
      let last = filled_step f.numbers filled.places s (formula bound g i) g o in
      let count : length made ≡ length filled.made = made_count used filled.made in
      let steps_are : steps_in (f.items ++ map step made ++ step last ∷ []) ≡ es ++ made ++ last ∷ [] =
      filter_map-append step_of (f.items ++ map step made) (step last ∷ []) ∙ ap (λ xs. xs ++ last ∷ []) (filter_map-append step_of f.items (map step made))
      ∙ ap (λ xs. es ++ xs ++ last ∷ []) (steps-made made) in
      let total : length (es ++ made ++ last ∷ []) ≡ length es + length filled.made + 1 =
      length-append (es ++ made) (last ∷ []) ∙ ap (λ n. n + 1) (length-append es made ∙ ap (λ n. length es + n) count) in
      let place : 0 + length (es ++ made) ≡ length es + length filled.made = zero_plus (length (es ++ made)) ∙ length-append es made ∙ ap (λ n. length es + n) count in
      let whole : AreSettled 0 (es ++ made ++ last ∷ []) =
      settled-append 0 (es ++ made) (last ∷ []) (settled-append 0 es made h.settled (made_settled (0 + length es) _ filled.made))
      (subst (λ n. AreSettled n (last ∷ [])) (sym place) (step_settled f s (formula bound g i) o h k, tt)) in
      record {
        settled = subst (AreSettled 0) (sym steps_are) whole;
        numbers = subst (λ es. AllByRecursion (λ n. n < length es) (f.numbers ++ (length (steps_in f.items) + length filled.made) ∷ [])) (sym steps_are)
            (all_by-append (λ n. n < length (es ++ made ++ last ∷ [])) f.numbers ((length es + length filled.made) ∷ [])
            (numbers_more (length es) _ f.numbers (omega (arith, total)) h.numbers) (omega (arith, total), tt));
      }
    where
      zero_plus : (n : ℕ) → 0 + n ≡ n
      zero_plus n = omega arith

  at_comment : (f : Filling) (lines : List Name) → Inside f → Inside (fill_item names bound g judgements f (item.Comment lines))
  at_comment f lines h =
      let same : steps_in (f.items ++ comment lines ∷ []) ≡ steps_in f.items = filter_map-append step_of f.items (comment lines ∷ []) ∙ nil (steps_in f.items) in
      record { settled = subst (AreSettled 0) (sym same) h.settled; numbers = subst (λ es. AllByRecursion (λ n. n < length es) f.numbers) (sym same) h.numbers }
    where
      nil : (es : List WrittenStep) → es ++ [] ≡ es
      nil [] = refl
      nil (e ∷ es) = ap (λ xs. e ∷ xs) (nil es)

  module _ (all : List SheetStep) (each : (i : ℕ) (s : SheetStep) → slice_get all i ≡ Some s → IsFine i s (slice_index_or judgements i (stands verdict.NoRef))) where
    all_inside : (items : List SheetItem) (f : Filling) → ((k : ℕ) (s : SheetStep) → slice_get (filter_map step_of_item items) k ≡ Some s → slice_get all (length f.numbers + k) ≡ Some s) → Inside f
        → Inside (fold (fill_item names bound g judgements) f items)
    all_inside [] f e h = h
    all_inside (item.Comment lines ∷ items) f e h = all_inside items (fill_item names bound g judgements f (item.Comment lines)) e (at_comment f lines h)
    all_inside (item.Step s ∷ items) f e h =
        let here : slice_get all (length f.numbers) ≡ Some s = subst (λ n. slice_get all n ≡ Some s) (plus_zero (length f.numbers)) (e 0 s refl) in
        let more : length (fill_item names bound g judgements f (item.Step s)).numbers ≡ length f.numbers + 1 = length-append f.numbers _ in
        all_inside items (fill_item names bound g judgements f (item.Step s))
        (λ k t x. subst (λ n. slice_get all n ≡ Some t) (next (length f.numbers) k ∙ ap (λ n. n + k) (sym more)) (e (suc k) t x)) (at_step f s h (each (length f.numbers) s here))
      where
        plus_zero : (n : ℕ) → n + 0 ≡ n
        plus_zero n = omega arith

        next : (n k : ℕ) → n + suc k ≡ n + 1 + k
        next n k = omega arith

    pub filled_settled : (items : List SheetItem) → filter_map step_of_item items ≡ all
        → AreSettled 0 (steps_in (fold (fill_item names bound g judgements) (record { items = []; numbers = [] }) items).items)
    filled_settled items e =
        (all_inside items (record { items = []; numbers = [] })
        (λ k s x. subst (λ ss. slice_get ss (0 + k) ≡ Some s) e
        (subst (λ n. slice_get (filter_map step_of_item items) n ≡ Some s) (zero_plus k) x))
        (record { settled = tt; numbers = tt })).settled
      where
        zero_plus : (n : ℕ) → n ≡ 0 + n
        zero_plus n = omega arith
