-- The written steps are woven from those of the worksheet and new ones.
use Rattle.std.specs.Prelude.{◌≡◌, ◌⊎◌, ◌<◌, ◌≤◌, ◌+◌, not, ℕ, zero, suc, Bool, true, false, List, [], ◌∷◌, ◌++◌, length, map, find, fold, zip}
use Rattle.std.specs.Prelude.{filter_map, unwrap_or, decimal, codes, slice_get, Some, refl}
use Rattle.std.specs.List.{AllByRecursion, range_with_len}
use Rattle.std.proofs.Common.{sym, ap, subst, ◌∙◌, arith, inl, inr, append_assoc}
use Rattle.std.proofs.lemmas.List.{length-append}
use Rattle.mm_base.specs.declared.tree.Tree.{Tree}
use Rattle.mm_model.specs.Names.{Name, contains}
use Rattle.sheet_text.specs.declared.sheet.SheetItem.{SheetItem}
use Rattle.sheet_text.specs.declared.sheet.SheetItem.TheVariants as item
use Rattle.sheet_text.specs.declared.sheet.SheetStep.{SheetStep}
use Rattle.sheet_text.specs.Layout.{step_of_item}
use Rattle.solve_model.specs.declared.bound.Bound.{Bound}
use Rattle.solve_model.specs.declared.verdict.Verdict.TheVariants as verdict
use Rattle.solve_model.specs.Solutions.{Valuation, formula}
use Rattle.solve_model.specs.Verdicts.{Judgement, stands}
use Rattle.written_model.specs.WrittenSteps.{WrittenStep, comment, step, steps_in, trees}
use Rattle.written_model.specs.Filled.{new_trees, fill, derived_names, made_step, wanted_by, filled_step, Filling, fill_item}
use Rattle.again_laws.proofs.Filling.{steps-append, steps-steps}
use Rattle.again_laws.proofs.Lists.{get_below, index_from_get}
use Rattle.again_laws.proofs.Woven.{Woven, weave_all, woven-append}

-- `d` and a number, or nothing
abbrev pub IsDerivedName : Name → Type 0
IsDerivedName n = (n ≡ []) ⊎ ((k : ℕ) × (n ≡ codes "d" ++ decimal k))

found_derived : (p : Name → Bool) (ns : List ℕ) → IsDerivedName (unwrap_or (find p (map (λ n. codes "d" ++ decimal n) ns)) [])
found_derived p [] = inl refl
found_derived p (n ∷ ns) = by (p (codes "d" ++ decimal n)) refl (found_derived p ns)
  where
    by : (t : Bool) → p (codes "d" ++ decimal n) ≡ t → IsDerivedName (unwrap_or (find p (map (λ k. codes "d" ++ decimal k) ns)) [])
        → IsDerivedName (unwrap_or (find p (map (λ k. codes "d" ++ decimal k) (n ∷ ns))) [])
    by true e rest = rw e (inr (n, refl))
    by false e rest = rw e rest

all_derived : (n : ℕ) (used : List Name) → AllByRecursion IsDerivedName (derived_names n used)
all_derived zero used = tt
all_derived (suc n) used = (found_derived (λ name. not (contains used name)) (range_with_len 1 (suc (length used))), all_derived n _)

pub record IsNewStep (d : WrittenStep) : Type 0 where
  pub name : Name
  pub tree : Tree
  pub is : d ≡ made_step (name, tree)
  pub derived : IsDerivedName name

all_new : (ns : List Name) (ts : List Tree) → AllByRecursion IsDerivedName ns → AllByRecursion IsNewStep (map made_step (zip ns ts))
all_new [] ts h = tt
all_new (n ∷ ns) [] h = tt
all_new (n ∷ ns) (t ∷ ts) h = (record { name = n; tree = t; is = refl; derived = h.0 }, all_new ns ts h.1)

module _ (names : List Name) (bound : Bound) (g : Valuation) (judgements : List Judgement) where
  -- the step of a number as it is written
  pub record IsOwnStep (k : ℕ) (s : SheetStep) (d : WrittenStep) : Type 0 where
    pub front : List ℕ
    pub more : List ℕ
    pub judgement : Judgement
    pub judgement_at : slice_get judgements k ≡ Some judgement
    pub is : d ≡ filled_step front more s (formula bound g k) g judgement

  abbrev Weave : List SheetStep → List WrittenStep → Type 0
  Weave ss ds = Woven IsOwnStep IsNewStep 0 ss ds

  module _ (front : List SheetStep) (f : Filling) (s : SheetStep) (count : length front ≡ length f.numbers) (h : Weave front (steps_in f.items))
      (o : Judgement) (o_at : slice_get judgements (length f.numbers) ≡ Some o) where
    abbrev k : ℕ
    k = length f.numbers

    abbrev es : List WrittenStep
    es = steps_in f.items

    abbrev new : List Tree
    new = new_trees (trees es) (wanted_by g o)

    abbrev made : List WrittenStep
    made = map made_step (zip (derived_names (length new) (names ++ map (λ (e : WrittenStep). e.name) es)) new)

    abbrev last : WrittenStep
    last = filled_step f.numbers (fill (trees es) (wanted_by g o)).places s (formula bound g k) g o

    last_own : IsOwnStep k s last
    last_own = record { front = f.numbers; more = (fill (trees es) (wanted_by g o)).places; judgement = o; judgement_at = o_at; is = refl }

    added : Woven IsOwnStep IsNewStep (0 + length front) (s ∷ []) (made ++ last ∷ [])
    added =
        let e : k ≡ 0 + length front = (let c = count in omega (arith, c)) in
        subst (λ n. Woven IsOwnStep IsNewStep n (s ∷ []) (made ++ last ∷ [])) e
        (weave_all IsOwnStep IsNewStep k (s ∷ []) made (last ∷ []) (all_new _ new (all_derived (length new) (names ++ map (λ (x : WrittenStep). x.name) es))) (inr (last_own, tt)))

    steps_are : steps_in ((f.items ++ map step made) ++ step last ∷ []) ≡ es ++ (made ++ last ∷ [])
    steps_are =
        steps-append (f.items ++ map step made) (step last ∷ [])
        ∙ ap (λ xs. xs ++ last ∷ []) (steps-append f.items (map step made) ∙ ap (λ xs. es ++ xs) (steps-steps made))
        ∙ append_assoc es made (last ∷ [])

    more_woven : Weave (front ++ s ∷ []) (steps_in ((f.items ++ map step made) ++ step last ∷ []))
    more_woven = subst (Weave (front ++ s ∷ [])) (sym steps_are) (woven-append IsOwnStep IsNewStep 0 front (s ∷ []) es (made ++ last ∷ []) h added)

  module _ (ss : List SheetStep) (enough : length ss ≤ length judgements) where
    one : (front : List SheetStep) (f : Filling) (s : SheetStep) → length front ≡ length f.numbers → Weave front (steps_in f.items)
        → length f.numbers < length judgements → Weave (front ++ s ∷ []) (steps_in (fill_item names bound g judgements f (item.Step s)).items)
    one front f s count h less = by (get_below judgements (length f.numbers) less)
      where
        by : ((o : Judgement) × (slice_get judgements (length f.numbers) ≡ Some o)) → Weave (front ++ s ∷ []) (steps_in (fill_item names bound g judgements f (item.Step s)).items)
        by (o, o_at) =
            let found = index_from_get judgements (length f.numbers) o (stands verdict.NoRef) o_at in
            rw found (more_woven front f s count h o o_at)

    run : (items : List SheetItem) (front : List SheetStep) (f : Filling) → ss ≡ front ++ filter_map step_of_item items
        → length front ≡ length f.numbers → Weave front (steps_in f.items)
        → Weave ss (steps_in (fold (fill_item names bound g judgements) f items).items)
    run [] front f split count h = subst (λ xs. Weave xs (steps_in f.items)) (sym (split ∙ append-nil front)) h
      where
        append-nil : (xs : List SheetStep) → xs ++ [] ≡ xs
        append-nil [] = refl
        append-nil (x ∷ xs) = ap (λ ys. x ∷ ys) (append-nil xs)
    run (item.Comment lines ∷ items) front f split count h =
        let same : steps_in (f.items ++ comment lines ∷ []) ≡ steps_in f.items = steps-append f.items (comment lines ∷ []) ∙ append-nil (steps_in f.items) in
        run items front (record { items = f.items ++ comment lines ∷ []; numbers = f.numbers }) split count (subst (Weave front) (sym same) h)
      where
        append-nil : (xs : List WrittenStep) → xs ++ [] ≡ xs
        append-nil [] = refl
        append-nil (x ∷ xs) = ap (λ ys. x ∷ ys) (append-nil xs)
    run (item.Step s ∷ items) front f split count h =
        let whole = ap length split in
        let parts = length-append front (s ∷ filter_map step_of_item items) in
        let grown : length (fill_item names bound g judgements f (item.Step s)).numbers ≡ suc (length f.numbers) = grows f.numbers _ in
        let longer = length-append front (s ∷ []) in
        let e = enough in
        run items (front ++ s ∷ []) (fill_item names bound g judgements f (item.Step s)) (split ∙ sym (append_assoc front (s ∷ []) (filter_map step_of_item items)))
        (omega (arith, grown, longer, count)) (one front f s count h (omega (arith, whole, parts, e, count)))
      where
        grows : (ns : List ℕ) (n : ℕ) → length (ns ++ n ∷ []) ≡ suc (length ns)
        grows [] n = refl
        grows (m ∷ ns) n = ap (λ k. suc k) (grows ns n)

  pub woven_filling : (items : List SheetItem) → length (filter_map step_of_item items) ≤ length judgements
      → Weave (filter_map step_of_item items) (steps_in (fold (fill_item names bound g judgements) (record { items = []; numbers = [] }) items).items)
  woven_filling items enough = run (filter_map step_of_item items) enough items [] (record { items = []; numbers = [] }) refl refl tt
