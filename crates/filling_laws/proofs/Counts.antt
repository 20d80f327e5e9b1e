-- What a front of a worksheet is filled to has the trees of its steps and those that are wanted.
use Rattle.std.specs.Prelude.{◌≡◌, ◌<◌, ◌≤◌, ◌+◌, ℕ, zero, suc, List, [], ◌∷◌, ◌++◌, length, map, drop, fold, zip, filter_map, slice_index_or, Contains, refl}
use Rattle.std.specs.List.{AllByRecursion, list_any}
use Rattle.std.proofs.Common.{sym, ap, subst, ◌∙◌, arith, inl, inr}
use Rattle.std.proofs.lemmas.Bool.{cases_Bool}
use Rattle.std.proofs.lemmas.List.Elements.{filter_map-append}
use Rattle.mm_base.specs.declared.tree.Tree.{Tree}
use Rattle.mm_model.specs.Names.{Name}
use Rattle.mm_model.specs.Book.{Database}
use Rattle.sheet_text.specs.declared.sheet.SheetItem.{SheetItem}
use Rattle.sheet_text.specs.declared.sheet.SheetItem.TheVariants as item
use Rattle.sheet_text.specs.declared.sheet.SheetStep.{SheetStep}
use Rattle.sheet_text.specs.Layout.{step_of_item}
use Rattle.solve_model.specs.declared.bound.Bound.{Bound}
use Rattle.solve_model.specs.declared.verdict.Verdict.TheVariants as verdict
use Rattle.solve_model.specs.Trees.{same_tree}
use Rattle.solve_model.specs.Solutions.{Valuation, Asked, formula, instance}
use Rattle.solve_model.specs.Verdicts.{Judgement, accepted, stands, asked_of, accepted_in}
use Rattle.written_model.specs.Existence.{IsCandidate}
use Rattle.written_model.specs.WrittenSteps.{WrittenStep, comment, step, step_of, steps_in, trees}
use Rattle.written_model.specs.Filled.{Filling, new_trees, fill, derived_names, made_step, filled_step, wanted_by, fill_item}
use Rattle.again_laws.proofs.Lists.{get_below, into_filter_map, all_of}
use Rattle.writing_laws.proofs.LongSteps.{steps_are, tree_is}
use Rattle.step_chain.specs.Held.{Held, judgements_of}
use Rattle.step_chain.specs.Values.{value_of}
use Rattle.step_chain.specs.Answers.{constants_of}
use Rattle.step_chain.proofs.Lists.{all_join}
use Rattle.step_filling.specs.Defined.{IsCounted}
use Rattle.step_filling.specs.ChainCounted.{IsCountedChain, ChainIsCounted}
use Rattle.filling_laws.specs.Counted.{AcceptedAreCandidates, FrontsAreCounted, IsCountedFront}

-- ---- lists of steps and their trees

append_nil : {X : Type 0} (xs : List X) → xs ≡ xs ++ []
append_nil [] = refl
append_nil (x ∷ xs) = ap (λ ys. x ∷ ys) (append_nil xs)

trees_append : (es fs : List WrittenStep) → trees (es ++ fs) ≡ trees es ++ trees fs
trees_append [] fs = refl
trees_append (e ∷ es) fs = ap (λ ts. e.tree ∷ ts) (trees_append es fs)

-- ---- a property of all trees

module _ (P : Tree → Type 0) where
  abbrev All : List Tree → Type 0
  All ts = AllByRecursion P ts

  all_new : (seen ws : List Tree) → All ws → All (new_trees seen ws)
  all_new seen [] h = tt
  all_new seen (w ∷ ws) h = elim (cases_Bool (list_any (same_tree w) seen)) [
    | inl e ↦ rw e (all_new seen ws h.1)
    | inr e ↦ rw e (h.0, all_new (seen ++ w ∷ []) ws h.1)
  ]

  all_made : (ns : List Name) (ts : List Tree) → All ts → All (trees (map made_step (zip ns ts)))
  all_made [] ts h = tt
  all_made (n ∷ ns) [] h = tt
  all_made (n ∷ ns) (t ∷ ts) h = (h.0, all_made ns ts h.1)

  all_steps : (es made : List WrittenStep) (last : WrittenStep) → All (trees es) → All (trees made) → P last.tree → All (trees ((es ++ made) ++ last ∷ []))
  all_steps es made last h k l =
      subst All (sym (trees_append (es ++ made) (last ∷ [])))
      (all_join P (trees (es ++ made)) (trees (last ∷ [])) (subst All (sym (trees_append es made)) (all_join P (trees es) (trees made) h k)) (l, tt))

  pub all_mapped : (f : Tree → Tree) (n : ℕ) (ts : List Tree) → AllByRecursion (λ t. P (f t)) ts → All (map f (drop n ts))
  all_mapped f zero [] h = tt
  all_mapped f zero (t ∷ ts) h = (h.0, all_mapped f zero ts h.1)
  all_mapped f (suc n) [] h = tt
  all_mapped f (suc n) (t ∷ ts) h = all_mapped f n ts h.1

  -- the formulas of the first steps, and the trees that are wanted, have the property
  module _ (names : List Name) (bound : Bound) (g : Valuation) (judgements : List Judgement) (n : ℕ) (formulas : (k : ℕ) → k < n → P (formula bound g k))
      (wanted : (k : ℕ) → All (wanted_by g (slice_index_or judgements k (stands verdict.NoRef)))) where
    -- all trees have it, and so many steps are filled
    pub record IsGood (count : ℕ) (f : Filling) : Type 0 where
      pub all : All (trees (steps_in f.items))
      pub numbers : length f.numbers ≡ count

    good_step : (f : Filling) (s : SheetStep) → All (trees (steps_in f.items)) → length f.numbers < n → All (trees (steps_in (fill_item names bound g judgements f (item.Step s)).items))
    good_step f s h l =
        let i = length f.numbers in
        let o = slice_index_or judgements i (stands verdict.NoRef) in
        let used = names ++ map (λ (e : WrittenStep). e.name) (steps_in f.items) in
        let new = new_trees (trees (steps_in f.items)) (wanted_by g o) in
        let places = (fill (trees (steps_in f.items)) (wanted_by g o)).places in
        let made = map made_step (zip (derived_names (length new) used) new) in
        let last = filled_step f.numbers places s (formula bound g i) g o in
        let own : P last.tree = subst P (sym (tree_is f.numbers places s (formula bound g i) g o)) (formulas i l) in
        subst (λ es. All (trees es)) (sym (steps_are f.items made last))
        (all_steps (steps_in f.items) made last h (all_made (derived_names (length new) used) new (all_new (trees (steps_in f.items)) (wanted_by g o) (wanted i))) own)

    run : (items : List SheetItem) (count : ℕ) (f : Filling) → IsGood count f → count + length (filter_map step_of_item items) ≤ n
        → IsGood (count + length (filter_map step_of_item items)) (fold (fill_item names bound g judgements) f items)
    run [] count f h l = record { all = h.all; numbers = (let e = h.numbers in omega (arith, e)) }
    run (item.Comment lines ∷ items) count f h l =
        let same : steps_in f.items ≡ steps_in (f.items ++ comment lines ∷ []) = append_nil (steps_in f.items) ∙ sym (filter_map-append step_of f.items (comment lines ∷ [])) in
        run items count (fill_item names bound g judgements f (item.Comment lines)) (record { all = subst (λ es. All (trees es)) same h.all; numbers = h.numbers }) l
    run (item.Step s ∷ items) count f h l =
        let e = h.numbers in
        let more : List ℕ = (fill_item names bound g judgements f (item.Step s)).numbers in
        let one : length more ≡ suc (length f.numbers) = grown f.numbers _ in
        let less : length f.numbers < n = omega (arith, e, l) in
        let next : suc count + length (filter_map step_of_item items) ≡ count + suc (length (filter_map step_of_item items)) = omega arith in
        subst (λ k. IsGood k (fold (fill_item names bound g judgements) f (item.Step s ∷ items))) next
        (run items (suc count) (fill_item names bound g judgements f (item.Step s)) (record { all = good_step f s h.all less; numbers = omega (arith, one, e) }) (omega (arith, l)))
      where
        grown : (ns : List ℕ) (m : ℕ) → length (ns ++ m ∷ []) ≡ suc (length ns)
        grown [] m = refl
        grown (k ∷ ns) m = ap (λ j. suc j) (grown ns m)

    pub good_front : (front : List SheetItem) → length (filter_map step_of_item front) ≤ n
        → IsGood (length (filter_map step_of_item front)) (fold (fill_item names bound g judgements) (record { items = []; numbers = [] }) front)
    good_front front l =
        let none : 0 + length (filter_map step_of_item front) ≡ length (filter_map step_of_item front) = omega arith in
        subst (λ k. IsGood k (fold (fill_item names bound g judgements) (record { items = []; numbers = [] }) front)) none
        (run front 0 (record { items = []; numbers = [] }) (record { all = tt; numbers = refl }) (omega (arith, l)))

-- ---- a judged chain

module _ (h : Held) (db : Database) (counted : IsCountedChain h db) (candidates : AllByRecursion (IsCandidate db h.bound) (accepted_in (judgements_of h))) where
  formula_at : (k : ℕ) → k < length h.bound.steps → IsCounted db (constants_of h) (formula h.bound (value_of h) k)
  formula_at k l = let s = get_below h.bound.steps k l in counted.formulas k s.0 s.1

  wanted_of : (o : Judgement) → ((x : Asked) → o ≡ accepted x → Contains (accepted_in (judgements_of h)) x) → AllByRecursion (IsCounted db (constants_of h)) (wanted_by (value_of h) o)
  wanted_of (stands v) m = tt
  wanted_of (accepted x) m =
      let among = m x refl in
      all_mapped (IsCounted db (constants_of h)) (instance (value_of h) x.step) (length x.places) x.assertion.hyps
      (counted.hyps x among (all_of (IsCandidate db h.bound) (accepted_in (judgements_of h)) x candidates among))

  among_of : (js : List Judgement) (k : ℕ) (x : Asked) → slice_index_or js k (stands verdict.NoRef) ≡ accepted x → Contains js (accepted x)
  among_of [] k x e = absurd (cc)
  among_of (j ∷ js) zero x e = (0, omega arith, e)
  among_of (j ∷ js) (suc k) x e = let r = among_of js k x e in (suc r.0, (let l = r.1 in omega (arith, l)), r.2)

  wanted_at : (k : ℕ) → AllByRecursion (IsCounted db (constants_of h)) (wanted_by (value_of h) (slice_index_or (judgements_of h) k (stands verdict.NoRef)))
  wanted_at k = wanted_of (slice_index_or (judgements_of h) k (stands verdict.NoRef)) (λ x e. into_filter_map asked_of (judgements_of h) (accepted x) x (among_of (judgements_of h) k x e) refl)

  pub front_counted : (names : List Name) (front : List SheetItem) → length (filter_map step_of_item front) ≤ length h.bound.steps → IsCountedFront h db names front
  front_counted names front l = record {
    filled = (good_front (IsCounted db (constants_of h)) names h.bound (value_of h) (judgements_of h) (length h.bound.steps) formula_at wanted_at front l).all;
    wanted = wanted_at _;
    own = λ less. formula_at _ less;
  }

pub fronts_are : AcceptedAreCandidates → ChainIsCounted → FrontsAreCounted
fronts_are candidates chain h kinds text sheet opened binds logic judged =
    front_counted h _ (chain h kinds text sheet opened binds logic judged.most_general) (candidates h kinds text sheet opened binds logic judged)
