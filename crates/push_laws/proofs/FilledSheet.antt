-- The worksheet with its places filled: each of its steps is sound, and its hypotheses are those that were read.
use Rattle.std.specs.Prelude.{◌≡◌, ◌<◌, ◌+◌, ℕ, zero, suc, true, List, [], ◌∷◌, ◌++◌, length, map, drop, filter_map, fold, zip, slice_get, slice_index_or, unwrap_or, Contains, Some, codes, refl}
use Rattle.std.specs.List.{AllZip, AllByRecursion, position_or_len}
use Rattle.std.proofs.Common.{sym, ap, subst, ◌∙◌, arith, append_assoc}
use Rattle.std.proofs.lemmas.Bool.{both_ways, or_left}
use Rattle.std.proofs.lemmas.List.{append-nil, length-append}
use Rattle.std.proofs.lemmas.List.Elements.{filter_map-append}
use Rattle.std.proofs.lemmas.List.Folds.{list_any-append}
use Rattle.mm_base.specs.declared.tree.Tree.{Tree}
use Rattle.std.specs.Str.{bytes_eq}
use Rattle.mm_model.specs.Names.{Name, contains}
use Rattle.mm_model.specs.Book.{Database, label_of}
use Rattle.sheet_text.specs.declared.sheet.Given.TheVariants as given
use Rattle.sheet_text.specs.declared.sheet.SheetItem.{SheetItem}
use Rattle.sheet_text.specs.declared.sheet.SheetItem.TheVariants as item
use Rattle.sheet_text.specs.declared.sheet.SheetStep.{SheetStep}
use Rattle.sheet_text.specs.Layout.{step_of_item}
use Rattle.solve_model.specs.declared.bound.Bound.{Bound}
use Rattle.solve_model.specs.declared.bound.BoundStep.{BoundStep}
use Rattle.solve_model.specs.declared.verdict.Verdict.{Verdict}
use Rattle.solve_model.specs.declared.verdict.Verdict.TheVariants as verdict
use Rattle.solve_model.specs.Trees.{same_tree}
use Rattle.solve_model.specs.Bound.{IsBoundStep}
use Rattle.solve_model.specs.Solutions.{Valuation, Asked, Solves, formula, instance, orders_of, is_free}
use Rattle.solve_model.specs.Verdicts.{Judgement, accepted, stands, accepted_in, AreJudged}
use Rattle.solve_model.specs.MostGeneral.{IsTheValuation}
use Rattle.written_model.specs.WrittenSteps.{WrittenStep, WrittenItem, comment, step, step_of, steps_in, trees}
use Rattle.written_model.specs.Filled.{new_trees, fill, derived_names, made_step, written_place, wanted_by, use_of, filled_step, Filling, fill_item, filled_items}
use Rattle.push_laws.proofs.Facts.{IsBook}
use Rattle.push_laws.proofs.Lists.{all_of}
use Rattle.push_laws.proofs.FilledSteps.{empty, IsSound, IsFilledStep, IsFilling, places_front, places_before, places_behind, behind_before}
use Rattle.push_laws.proofs.FilledSteps.{append_before, wanted_found, wanted_before, formula_ok, bound_stands, place_known, valued_is, valued_all}
use Rattle.push_laws.proofs.FilledSteps.{codes_are, one_more}
use Rattle.push_laws.proofs.Filling.{order_by, steps_made}
use Rattle.push_laws.proofs.Solved.{IsCandidate, IsAccepted, IsAssertionTree, accepted_at, accepted_in_all, conclusion_tree, hyp_trees, instance_sound}
use Rattle.push_laws.proofs.StepProofs.{IsBefore, PlacesAre, HasUse}

index_accepted : (js : List Judgement) (i : ℕ) (x : Asked) → slice_index_or js i (stands verdict.NoRef) ≡ accepted x → slice_get js i ≡ Some (accepted x)
index_accepted [] i x e = absurd cc
index_accepted (j ∷ js) zero x e = ap (λ k. Some k) e
index_accepted (j ∷ js) (suc i) x e = index_accepted js i x e

all_drop : (P : Tree → Type 0) (n : ℕ) (ts : List Tree) → AllByRecursion P ts → AllByRecursion P (drop n ts)
all_drop P zero ts a = a
all_drop P (suc n) [] a = tt
all_drop P (suc n) (t ∷ ts) a = all_drop P n ts a.1

all_map : (P Q : Tree → Type 0) (f : Tree → Tree) (ts : List Tree) → ((t : Tree) → P t → Q (f t)) → AllByRecursion P ts → AllByRecursion Q (map f ts)
all_map P Q f [] h a = tt
all_map P Q f (t ∷ ts) h a = (h t a.0, all_map P Q f ts h a.1)

items_steps : (items : List WrittenItem) (es : List WrittenStep) (e : WrittenStep) → steps_in (items ++ map step es ++ step e ∷ []) ≡ (steps_in items ++ es) ++ e ∷ []
items_steps items es e =
    filter_map-append step_of (items ++ map step es) (step e ∷ [])
    ∙ ap (λ xs. xs ++ (e ∷ [])) (filter_map-append step_of items (map step es) ∙ ap (λ ys. steps_in items ++ ys) (steps_made es))

module _ (db : Database) (book : IsBook db) (bound : Bound) (judgements : List Judgement) (judged : AreJudged db bound judgements) (g : Valuation)
    (the : IsTheValuation db bound (accepted_in judgements) g) (steps : List SheetStep) (bounds : AllZip (IsBoundStep db bound.place) steps bound.steps)
    (spelled : (i : ℕ) (s : SheetStep) → slice_get steps i ≡ Some s → AllByRecursion (IsBefore i) s.places) where
  abbrev Sound : Tree → Type 0
  Sound t = IsSound db book bound judgements judged g the steps bounds spelled t

  abbrev FilledStep : List WrittenStep → ℕ → WrittenStep → Type 0
  FilledStep es j e = IsFilledStep db book bound judgements judged g the steps bounds spelled es j e

  abbrev pub FillingOf : List WrittenStep → List ℕ → List SheetStep → Type 0
  FillingOf es numbers front = IsFilling db book bound judgements judged g the steps bounds spelled es numbers front

  module _ (es : List WrittenStep) (numbers : List ℕ) (front rest : List SheetStep) (s : SheetStep) (filling : FillingOf es numbers front)
      (whole : steps ≡ front ++ (s ∷ rest)) (used : List Name) (used_qed : contains used (codes "qed") ≡ true) where
    abbrev i : ℕ
    i = length numbers

    abbrev t : Tree
    t = formula bound g i

    b : (b : BoundStep) × (slice_get bound.steps i ≡ Some b) × IsBoundStep db bound.place s b
    b = bound_stands db book bound judgements judged g the steps bounds spelled es numbers front rest s filling whole

    known : (k : ℕ) → Contains s.places (given.Step k) → k < i
    known k c = place_known db book bound judgements judged g the steps bounds spelled es numbers front rest s filling whole k c

    abbrev more : List Tree → List WrittenStep
    more wanted = map made_step (zip (derived_names (length (fill (trees es) wanted).made) used) (fill (trees es) wanted).made)

    stands_filled : (v : Verdict) (ms : List WrittenStep) (ks : List ℕ) → FilledStep (es ++ ms) (length (es ++ ms)) (filled_step numbers ks s t g (stands v))
    stands_filled v ms ks = record {
      earlier = places_before db book bound judgements judged g the steps bounds spelled es numbers front filling (length (es ++ ms)) s.places (let n = length-append es ms in omega (arith, n)) known;
      sound = formula_ok db book bound judgements judged g the steps bounds spelled es numbers front rest s filling whole;
      no_use = λ h. refl;
      fits = λ u e. absurd cc;
    }

    module _ (x : Asked) (at : slice_get judgements i ≡ Some (accepted x)) where
      acc : IsAccepted db bound judgements judged x × (x.step ≡ i)
      acc = accepted_at db bound judgements judged i x at

      h : Contains (accepted_in judgements) x
      h = accepted_in_all db bound judgements judged i x at

      same_bound : acc.0.bound_step ≡ b.0
      same_bound = let both : Some acc.0.bound_step ≡ Some b.0 = sym acc.0.stands ∙ ap (slice_get bound.steps) acc.1 ∙ b.1 in cc

      c : IsCandidate db bound.place b.0 x.assertion
      c = subst (λ y. IsCandidate db bound.place y x.assertion) same_bound acc.0.is_candidate

      solves : Solves bound g x
      solves = all_of (Solves bound g) (accepted_in judgements) x the.most_general.solves h

      asked_known : (k : ℕ) → Contains x.places (given.Step k) → k < i
      asked_known k m =
          let order = subst (λ y. Contains (orders_of y x.assertion) x.places) same_bound acc.0.order in
          known k (subst (λ gs. Contains gs (given.Step k)) b.2.places (order_by (is_free b.0 x.assertion) (length b.0.places) b.0.places x.places (given.Step k) order m))

      abbrev wanted : List Tree
      wanted = map (instance g x.step) (drop (length x.places) x.assertion.hyps)

      wanted_sound : AllByRecursion Sound wanted
      wanted_sound =
          all_map (IsAssertionTree db book c.label x.assertion c.usable) Sound (instance g x.step) (drop (length x.places) x.assertion.hyps)
          (λ y is. instance_sound db book bound judgements judged g the steps bounds x h c.label c.usable c.earlier y is)
          (all_drop (IsAssertionTree db book c.label x.assertion c.usable) (length x.places) x.assertion.hyps (hyp_trees db book c.label x.assertion c.usable))

      abbrev all : List WrittenStep
      all = es ++ more wanted

      abbrev place : Tree → ℕ
      place w = position_or_len (same_tree w) (trees es ++ new_trees (trees es) wanted)

      abbrev e : WrittenStep
      e = filled_step numbers (map place wanted) s t g (accepted x)

      fits_use : HasUse all db bound.place e (use_of g x)
      fits_use = record {
        label = c.label;
        named = ap (λ o. label_of db (unwrap_or o [])) (sym b.2.reference ∙ c.reference_is) ∙ c.label_is;
        usable = c.usable;
        earlier = c.earlier;
        codes = codes_are db book bound judgements judged g the steps bounds spelled x h c.label c.usable;
        conclusion = valued_is db book bound judgements judged g the steps bounds spelled x h c.label c.usable x.assertion.tree (conclusion_tree db book c.label x.assertion c.usable)
            ∙ solves.conclusion ∙ ap (formula bound g) acc.1;
        places =
            subst (λ ts. PlacesAre all ts e.places)
            (sym
            (valued_all db book bound judgements judged g the steps bounds spelled x h c.label c.usable x.assertion.hyps
            (hyp_trees db book c.label x.assertion c.usable)))
            (places_front db book bound judgements judged g the steps bounds spelled es numbers front filling
            (more wanted) x.step x.assertion.hyps x.places (map (λ k. given.Step k) (map place wanted)) solves.places asked_known
            (places_behind db book bound judgements judged g the steps bounds spelled all wanted place
            (wanted_found db book bound judgements judged g the steps bounds spelled es numbers front rest s filling whole wanted wanted_sound used)));
      }

      accepted_filled : FilledStep all (length all) e
      accepted_filled = record {
        earlier = append_before db book bound judgements judged g the steps bounds spelled (length all) (map (written_place numbers) x.places) (map (λ k. given.Step k) (map place wanted))
            (places_before db book bound judgements judged g the steps bounds spelled es numbers front filling (length all) x.places
            (let n = length-append es (more wanted) in omega (arith, n)) asked_known)
            (behind_before db book bound judgements judged g the steps bounds spelled (length all) wanted place
            (wanted_before db book bound judgements judged g the steps bounds spelled es numbers front rest s filling whole wanted wanted_sound used));
        sound = formula_ok db book bound judgements judged g the steps bounds spelled es numbers front rest s filling whole;
        no_use = λ is. absurd (both_ways s.hyp (sym b.2.hyp ∙ c.no_hyp) is);
        fits = λ u by'. let same : use_of g x ≡ u = cc in subst (HasUse all db bound.place e) same fits_use;
      }

    abbrev step_with : Judgement → WrittenStep
    step_with o = filled_step numbers (fill (trees es) (wanted_by g o)).places s t g o

    abbrev all_with : Judgement → List WrittenStep
    all_with o = (es ++ more (wanted_by g o)) ++ step_with o ∷ []

    abbrev numbers_with : Judgement → List ℕ
    numbers_with o = numbers ++ (length es + length (fill (trees es) (wanted_by g o)).made) ∷ []

    step_filled : (o : Judgement) → slice_index_or judgements i (stands verdict.NoRef) ≡ o → FillingOf (all_with o) (numbers_with o) (front ++ s ∷ [])
    step_filled (stands v) is =
        one_more db book bound judgements judged g the steps bounds spelled es numbers front rest s filling whole [] tt used
        (step_with (stands v)) refl refl refl refl (stands_filled v (more []) []) used_qed
    step_filled (accepted x) is =
        let at = index_accepted judgements i x is in
        one_more db book bound judgements judged g the steps bounds spelled es numbers front rest s filling whole (wanted x at)
        (wanted_sound x at) used (step_with (accepted x)) refl refl refl refl (accepted_filled x at) used_qed

  -- all items
  module _ (names : List Name) (has_qed : contains names (codes "qed") ≡ true) where
    items_filled : (rest : List SheetItem) (f : Filling) (front : List SheetStep) → steps ≡ front ++ filter_map step_of_item rest → FillingOf (steps_in f.items) f.numbers front
        → (numbers : List ℕ) × FillingOf (steps_in (fold (fill_item names bound g judgements) f rest).items) numbers steps
    items_filled [] f front whole filling = (f.numbers, subst (FillingOf (steps_in f.items) f.numbers) (sym (whole ∙ append-nil front)) filling)
    items_filled (item.Comment lines ∷ rest) f front whole filling =
        let same : steps_in (f.items ++ comment lines ∷ []) ≡ steps_in f.items = filter_map-append step_of f.items (comment lines ∷ []) ∙ append-nil (steps_in f.items) in
        items_filled rest (record { items = f.items ++ comment lines ∷ []; numbers = f.numbers }) front whole (subst (λ es. FillingOf es f.numbers front) (sym same) filling)
    items_filled (item.Step s ∷ rest) f front whole filling =
        let es = steps_in f.items in
        let o = slice_index_or judgements (length f.numbers) (stands verdict.NoRef) in
        let used = names ++ map (λ (e : WrittenStep). e.name) es in
        let used_qed : contains used (codes "qed") ≡ true = list_any-append (bytes_eq (codes "qed")) names (map (λ (e : WrittenStep). e.name) es) ∙ or_left _ _ has_qed in
        let next = step_filled es f.numbers front (filter_map step_of_item rest) s filling whole used used_qed o refl in
        items_filled rest (fill_item names bound g judgements f (item.Step s)) (front ++ s ∷ []) (whole ∙ sym (append_assoc front (s ∷ []) (filter_map step_of_item rest)))
        (subst (λ xs. FillingOf xs (numbers_with es f.numbers front (filter_map step_of_item rest) s filling whole used used_qed o) (front ++ s ∷ []))
        (sym
        (items_steps f.items (more es f.numbers front (filter_map step_of_item rest) s filling whole used used_qed (wanted_by g o))
        (step_with es f.numbers front (filter_map step_of_item rest) s filling whole used used_qed o))) next)

    no_steps : FillingOf [] [] []
    no_steps = record { each = λ j e at. absurd cc; own = λ k l. let bad : ⊥ = omega (arith, l) in absurd bad; count = refl; hyps = tt; shape = empty }

    -- the filled worksheet
    pub all_filled : (items : List SheetItem) → steps ≡ filter_map step_of_item items → (numbers : List ℕ) × FillingOf (steps_in (filled_items names bound g judgements items)) numbers steps
    all_filled items whole = items_filled items (record { items = []; numbers = [] }) [] whole no_steps
