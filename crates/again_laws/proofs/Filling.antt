-- How the steps of a worksheet stand among the written ones.
use Rattle.std.specs.Prelude.{◌≡◌, ◌⊎◌, ◌<◌, ◌≤◌, ◌+◌, ℕ, zero, suc, List, [], ◌∷◌, ◌++◌, length, map, take, fold, zip, filter_map, Contains, slice_get, Some, refl}
use Rattle.std.specs.List.{AllZip, position_or_len}
use Rattle.std.proofs.Common.{sym, ap, subst, ◌∙◌, arith, inl, inr, append_assoc}
use Rattle.std.proofs.lemmas.List.{take-append-le, length-map, length-append}
use Rattle.std.proofs.lemmas.List.Elements.{filter_map-append}
use Rattle.std.proofs.Math.Seq.{take-append_seam}
use Rattle.mm_base.specs.declared.tree.Tree.{Tree}
use Rattle.mm_model.specs.Names.{Name}
use Rattle.sheet_text.specs.declared.sheet.SheetItem.{SheetItem}
use Rattle.sheet_text.specs.declared.sheet.SheetItem.TheVariants as item
use Rattle.sheet_text.specs.declared.sheet.SheetStep.{SheetStep}
use Rattle.sheet_text.specs.Layout.{step_of_item}
use Rattle.solve_model.specs.declared.bound.Bound.{Bound}
use Rattle.solve_model.specs.declared.verdict.Verdict.TheVariants as verdict
use Rattle.solve_model.specs.Trees.{same_tree}
use Rattle.solve_model.specs.Solutions.{Valuation, formula}
use Rattle.solve_model.specs.Verdicts.{Judgement, stands}
use Rattle.written_model.specs.WrittenSteps.{WrittenStep, WrittenItem, comment, step, steps_in, step_of, over_step, trees}
use Rattle.written_model.specs.Filled.{new_trees, fill, derived_names, made_step, wanted_by, filled_step, Filling, with_step, fill_item}
use Rattle.again_laws.proofs.Lists.{contains_get, get_contains, get_front, get_back, get_parted, get_mapped, get_map, get_within, some_same, get_below, index_from_get}
use Rattle.again_laws.proofs.NewTrees.{new_is_wanted, wanted_stands, filled_at, names_long, made_trees}

-- ---- steps among items

pub steps-append : (xs ys : List WrittenItem) → steps_in (xs ++ ys) ≡ steps_in xs ++ steps_in ys
steps-append xs ys = filter_map-append step_of xs ys

pub steps-steps : (es : List WrittenStep) → steps_in (map step es) ≡ es
steps-steps [] = refl
steps-steps (e ∷ es) = ap (λ xs. e ∷ xs) (steps-steps es)

pub steps-over : (f : WrittenStep → WrittenStep) (items : List WrittenItem) → steps_in (map (over_step f) items) ≡ map f (steps_in items)
steps-over f [] = refl
steps-over f (comment lines ∷ items) = steps-over f items
steps-over f (step e ∷ items) = ap (λ xs. f e ∷ xs) (steps-over f items)

map-append : {X Y : Type 0} (f : X → Y) (xs ys : List X) → map f (xs ++ ys) ≡ map f xs ++ map f ys
map-append f [] ys = refl
map-append f (x ∷ xs) ys = ap (λ zs. f x ∷ zs) (map-append f xs ys)

-- each wanted tree with the number of the step that has it, which stands before this one
abbrev pub FillsAt : List Tree → ℕ → Tree → ℕ → Type 0
FillsAt ts i t m = (slice_get ts m ≡ Some t) × (m < i)

module _ (bound : Bound) (g : Valuation) (judgements : List Judgement) (ss : List SheetStep) where
  -- the step of a number, as it is written at a place among these trees
  pub record IsOwn (ts : List Tree) (numbers : List ℕ) (k i : ℕ) (d : WrittenStep) : Type 0 where
    pub source : SheetStep
    pub source_at : slice_get ss k ≡ Some source
    pub judgement : Judgement
    pub judgement_at : slice_get judgements k ≡ Some judgement
    pub more : List ℕ
    pub is : d ≡ filled_step (take k numbers) more source (formula bound g k) g judgement
    pub fills : AllZip (FillsAt ts i) (wanted_by g judgement) more

  -- a new step has a tree that an accepted step wants
  pub record IsMade (d : WrittenStep) : Type 0 where
    pub by : ℕ
    pub judgement : Judgement
    pub judgement_at : slice_get judgements by ≡ Some judgement
    pub wanted : Contains (wanted_by g judgement) d.tree
    pub is : d ≡ made_step (d.name, d.tree)

  -- each step is the written one of its number or a new one; numbers rise
  pub record IsFilling (es : List WrittenStep) (numbers : List ℕ) : Type 0 where
    pub own : (k i : ℕ) → slice_get numbers k ≡ Some i → (d : WrittenStep) × (slice_get es i ≡ Some d) × IsOwn (trees es) numbers k i d
    pub from : (i : ℕ) (d : WrittenStep) → slice_get es i ≡ Some d → ((k : ℕ) × (slice_get numbers k ≡ Some i)) ⊎ IsMade d
    pub rise : (j k a b : ℕ) → slice_get numbers j ≡ Some a → slice_get numbers k ≡ Some b → j < k → a < b

  zip_with : (ts us : List Tree) (i : ℕ) (wanted : List Tree) (ns : List ℕ) → AllZip (FillsAt ts i) wanted ns → AllZip (FillsAt (ts ++ us) i) wanted ns
  zip_with ts us i [] [] h = tt
  zip_with ts us i [] (n ∷ ns) h = absurd h
  zip_with ts us i (t ∷ wanted) [] h = absurd h
  zip_with ts us i (t ∷ wanted) (n ∷ ns) h = ((get_front ts us n t h.0.0, h.0.1), zip_with ts us i wanted ns h.1)

  own_later : (ts us : List Tree) (numbers ns : List ℕ) (k i : ℕ) (d : WrittenStep) → k ≤ length numbers → IsOwn ts numbers k i d → IsOwn (ts ++ us) (numbers ++ ns) k i d
  own_later ts us numbers ns k i d within h = record {
    source = h.source;
    source_at = h.source_at;
    judgement = h.judgement;
    judgement_at = h.judgement_at;
    more = h.more;
    is = h.is ∙ ap (λ front. filled_step front h.more h.source (formula bound g k) g h.judgement) (sym (take-append-le k numbers ns within));
    fills = zip_with ts us i (wanted_by g h.judgement) h.more h.fills;
  }

  -- one more step, and the new ones before it
  module _ (es : List WrittenStep) (numbers : List ℕ) (h : IsFilling es numbers) (s : SheetStep) (o : Judgement) (used : List Name)
      (s_at : slice_get ss (length numbers) ≡ Some s) (o_at : slice_get judgements (length numbers) ≡ Some o) where
    abbrev k : ℕ
    k = length numbers

    abbrev wanted : List Tree
    wanted = wanted_by g o

    abbrev new : List Tree
    new = new_trees (trees es) wanted

    abbrev made : List WrittenStep
    made = map made_step (zip (derived_names (length new) used) new)

    abbrev i : ℕ
    i = length es + length new

    abbrev d : WrittenStep
    d = filled_step numbers (fill (trees es) wanted).places s (formula bound g k) g o

    abbrev all : List WrittenStep
    all = es ++ (made ++ d ∷ [])

    abbrev now : List ℕ
    now = numbers ++ i ∷ []

    made_are : map (λ (e : WrittenStep). e.tree) made ≡ new
    made_are = made_trees (derived_names (length new) used) new (names_long (length new) used)

    made_long : length made ≡ length new
    made_long = sym (length-map made (λ (e : WrittenStep). e.tree)) ∙ ap length made_are

    trees_are : trees all ≡ trees es ++ (new ++ d.tree ∷ [])
    trees_are =
        map-append (λ (e : WrittenStep). e.tree) es (made ++ d ∷ [])
        ∙ ap (λ xs. trees es ++ xs) (map-append (λ (e : WrittenStep). e.tree) made (d ∷ []) ∙ ap (λ xs. xs ++ d.tree ∷ []) made_are)

    long : length (trees es) + length new ≡ i
    long = ap (λ n. n + length new) (length-map es (λ (e : WrittenStep). e.tree))

    last_at : slice_get all i ≡ Some d
    last_at =
        let there = get_back es (made ++ d ∷ []) (length new) in
        let end = get_back made (d ∷ []) 0 in
        let same : length made + 0 ≡ length new = (let e = made_long in omega (arith, e)) in
        there ∙ subst (λ n. slice_get (made ++ d ∷ []) n ≡ Some d) same end

    filled_all : (ws : List Tree) → ((t : Tree) → Contains ws t → Contains wanted t) → AllZip (FillsAt (trees all) i) ws (map (λ w. position_or_len (same_tree w) (trees es ++ new)) ws)
    filled_all [] sub = tt
    filled_all (w ∷ ws) sub =
        let at = filled_at (trees es ++ new) w (wanted_stands (trees es) wanted w (sub w (get_contains (w ∷ ws) 0 w refl))) in
        let there = get_front (trees es ++ new) (d.tree ∷ []) (position_or_len (same_tree w) (trees es ++ new)) w at.0 in
        let less = at.1 in
        let sum = long in
        let count = length-append (trees es) new in
        let place = position_or_len (same_tree w) (trees es ++ new) in (
          (subst (λ ts. slice_get ts place ≡ Some w) (append_assoc (trees es) new (d.tree ∷ []) ∙ sym trees_are) there, omega (arith, less, sum, count)),
          filled_all ws (λ t m. sub t (further w ws t m)),
        )
      where
        further : (x : Tree) (xs : List Tree) (t : Tree) → Contains xs t → Contains (x ∷ xs) t
        further x xs t m = let r = contains_get xs t m in get_contains (x ∷ xs) (suc r.0) t r.1

    own_last : IsOwn (trees all) now k i d
    own_last = record {
      source = s;
      source_at = s_at;
      judgement = o;
      judgement_at = o_at;
      more = (fill (trees es) wanted).places;
      is = ap (λ front. filled_step front (fill (trees es) wanted).places s (formula bound g k) g o) (sym (take-append_seam numbers (i ∷ [])));
      fills = filled_all wanted (λ t m. m);
    }

    own_now : (j n : ℕ) → slice_get now j ≡ Some n → (e : WrittenStep) × (slice_get all n ≡ Some e) × IsOwn (trees all) now j n e
    own_now j n e = elim (get_parted numbers (i ∷ []) j n e) [
      | inl old ↦
          let r = h.own j n old in
          let within = get_within numbers j n old in (
            r.0,
            get_front es (made ++ d ∷ []) n r.0 r.1,
            subst (λ ts. IsOwn ts now j n r.0) (sym trees_are)
                (own_later (trees es) (new ++ d.tree ∷ []) numbers (i ∷ []) j n r.0 (omega (arith, within)) r.2),
          )
      | inr new_ ↦ last_case new_.0 new_.1 new_.2
    ]
      where
        last_case : (m : ℕ) → length numbers + m ≡ j → slice_get (i ∷ []) m ≡ Some n → (e : WrittenStep) × (slice_get all n ≡ Some e) × IsOwn (trees all) now j n e
        last_case zero sum is =
            let same : i ≡ n = some_same i n is in
            let place : k ≡ j = omega (arith, sum) in
            (d, subst (λ x. slice_get all x ≡ Some d) same last_at, subst (λ x. IsOwn (trees all) now x n d) place (subst (λ x. IsOwn (trees all) now k x d) same own_last))
        last_case (suc m) sum is = absurd cc

    from_now : (n : ℕ) (e : WrittenStep) → slice_get all n ≡ Some e → ((j : ℕ) × (slice_get now j ≡ Some n)) ⊎ IsMade e
    from_now n e at = elim (get_parted es (made ++ d ∷ []) n e at) [
      | inl old ↦ elim (h.from n e old) [ inl r ↦ inl (r.0, get_front numbers (i ∷ []) r.0 n r.1) | inr r ↦ inr r ]
      | inr behind ↦ elim (get_parted made (d ∷ []) behind.0 e behind.2) [
        | inl m ↦
            let p = get_mapped made_step (zip (derived_names (length new) used) new) behind.0 e m in
            let tree_at : slice_get new behind.0 ≡ Some e.tree = subst (λ ts. slice_get ts behind.0 ≡ Some e.tree) made_are (get_map (λ (x : WrittenStep). x.tree) made behind.0 e m) in
            inr (record { by = k; judgement = o; judgement_at = o_at; wanted = new_is_wanted (trees es) wanted e.tree (get_contains new behind.0 e.tree tree_at); is = made_is p.0 e p.2 })
        | inr m ↦ inl (k, last_number behind.0 m.0 behind.1 m.1 m.2)
      ]
    ]
      where
        made_is : (p : Name × Tree) (x : WrittenStep) → made_step p ≡ x → x ≡ made_step (x.name, x.tree)
        made_is p x q = subst (λ (y : WrittenStep). y ≡ made_step (y.name, y.tree)) q refl

        last_number : (b m : ℕ) → length es + b ≡ n → length made + m ≡ b → slice_get (d ∷ []) m ≡ Some e → slice_get now k ≡ Some n
        last_number b zero one two is =
            let count = made_long in
            let same : i ≡ n = omega (arith, one, two, count) in
            let end = get_back numbers (i ∷ []) 0 in
            let place : length numbers + 0 ≡ k = omega arith in
            subst (λ x. slice_get now k ≡ Some x) same (subst (λ x. slice_get now x ≡ Some i) place end)
        last_number b (suc m) one two is = absurd cc

    rise_now : (a b p q : ℕ) → slice_get now a ≡ Some p → slice_get now b ≡ Some q → a < b → p < q
    rise_now a b p q ea eb less = elim (get_parted numbers (i ∷ []) b q eb) [
      | inl old ↦
          let within = get_within numbers b q old in
          elim (get_parted numbers (i ∷ []) a p ea) [ inl x ↦ h.rise a b p q x old less | inr x ↦ let sum = x.1 in absurd (omega (arith, within, sum, less)) ]
      | inr end ↦ elim (get_parted numbers (i ∷ []) a p ea) [
        | inl x ↦ let r = h.own a p x in let low = get_within es p r.0 r.1 in last_low end.0 end.2 low
        | inr x ↦ two_last x.0 end.0 x.1 end.1 x.2 end.2
      ]
    ]
      where
        last_low : (m : ℕ) → slice_get (i ∷ []) m ≡ Some q → p < length es → p < q
        last_low zero is low = let same : i ≡ q = some_same i q is in omega (arith, same, low)
        last_low (suc m) is low = absurd cc

        two_last : (m n : ℕ) → length numbers + m ≡ a → length numbers + n ≡ b → slice_get (i ∷ []) m ≡ Some p → slice_get (i ∷ []) n ≡ Some q → p < q
        two_last zero zero x y u v = absurd (omega (arith, x, y, less))
        two_last zero (suc n) x y u v = absurd cc
        two_last (suc m) n x y u v = absurd cc

    pub filling_step : IsFilling all now
    filling_step = record { own = own_now; from = from_now; rise = rise_now }

-- ---- all steps

module _ (names : List Name) (bound : Bound) (g : Valuation) (judgements : List Judgement) (ss : List SheetStep) (enough : length ss ≤ length judgements) where
  abbrev Good : Filling → Type 0
  Good f = IsFilling bound g judgements ss (steps_in f.items) f.numbers

  -- what is left of the steps
  abbrev Left : List SheetItem → List ℕ → Type 0
  Left items numbers = (front : List SheetStep) × (ss ≡ front ++ filter_map step_of_item items) × (length front ≡ length numbers)

  pub record IsDone (f : Filling) : Type 0 where
    pub good : Good f
    pub count : length f.numbers ≡ length ss

  one_with : (f : Filling) (s : SheetStep) → Good f → slice_get ss (length f.numbers) ≡ Some s → (used : List Name) (o : Judgement) → slice_get judgements (length f.numbers) ≡ Some o
      → Good (with_step used s (formula bound g (length f.numbers)) g o f (fill (trees (steps_in f.items)) (wanted_by g o)))
  one_with f s h at used o o_at =
      let es = steps_in f.items in
      let new = new_trees (trees es) (wanted_by g o) in
      let made = map made_step (zip (derived_names (length new) used) new) in
      let last = filled_step f.numbers (fill (trees es) (wanted_by g o)).places s (formula bound g (length f.numbers)) g o in
      let steps_are : steps_in ((f.items ++ map step made) ++ step last ∷ []) ≡ es ++ (made ++ last ∷ []) =
      steps-append (f.items ++ map step made) (step last ∷ [])
      ∙ ap (λ xs. xs ++ last ∷ []) (steps-append f.items (map step made) ∙ ap (λ xs. es ++ xs) (steps-steps made))
      ∙ append_assoc es made (last ∷ []) in
      subst (λ xs. IsFilling bound g judgements ss xs (f.numbers ++ (length es + length new) ∷ [])) (sym steps_are) (filling_step bound g judgements ss es f.numbers h s o used at o_at)

  one : (f : Filling) (s : SheetStep) → Good f → slice_get ss (length f.numbers) ≡ Some s → Good (fill_item names bound g judgements f (item.Step s))
  one f s h at =
      let within = get_within ss (length f.numbers) s at in
      let less : length f.numbers < length judgements = (let e = enough in omega (arith, e, within)) in
      by (get_below judgements (length f.numbers) less)
    where
      by : ((o : Judgement) × (slice_get judgements (length f.numbers) ≡ Some o)) → Good (fill_item names bound g judgements f (item.Step s))
      by (o, o_at) =
          subst (λ x. Good (with_step (names ++ map (λ (e : WrittenStep). e.name) (steps_in f.items)) s (formula bound g (length f.numbers)) g x f (fill (trees (steps_in f.items)) (wanted_by g x))))
          (sym (index_from_get judgements (length f.numbers) o (stands verdict.NoRef) o_at)) (one_with f s h at (names ++ map (λ (e : WrittenStep). e.name) (steps_in f.items)) o o_at)

  run : (items : List SheetItem) (f : Filling) → Good f → Left items f.numbers → IsDone (fold (fill_item names bound g judgements) f items)
  run [] f h left =
      let e : length ss ≡ length (left.0 ++ []) = ap length left.1 in
      let c = length-append left.0 [] in
      let d = left.2 in
      record { good = h; count = omega (arith, e, c, d) }
  run (item.Comment lines ∷ items) f h left =
      let same : steps_in (f.items ++ comment lines ∷ []) ≡ steps_in f.items = steps-append f.items (comment lines ∷ []) ∙ append-nil (steps_in f.items) in
      run items (record { items = f.items ++ comment lines ∷ []; numbers = f.numbers }) (subst (λ es. IsFilling bound g judgements ss es f.numbers) (sym same) h) left
    where
      append-nil : (xs : List WrittenStep) → xs ++ [] ≡ xs
      append-nil [] = refl
      append-nil (x ∷ xs) = ap (λ ys. x ∷ ys) (append-nil xs)
  run (item.Step s ∷ items) f h left =
      let here = get_back left.0 (s ∷ filter_map step_of_item items) 0 in
      let sum = left.2 in
      let place : length left.0 + 0 ≡ length f.numbers = omega (arith, sum) in
      let at : slice_get ss (length f.numbers) ≡ Some s =
      ap (λ xs. slice_get xs (length f.numbers)) left.1
      ∙ subst (λ n. slice_get (left.0 ++ s ∷ filter_map step_of_item items) n ≡ Some s) place here in
      let last : List ℕ = (fill_item names bound g judgements f (item.Step s)).numbers in
      let grown : length last ≡ suc (length f.numbers) = grows f.numbers _ in
      let front = length-append left.0 (s ∷ []) in
      run items (fill_item names bound g judgements f (item.Step s)) (one f s h at)
      (left.0 ++ s ∷ [], left.1 ∙ sym (append_assoc left.0 (s ∷ []) (filter_map step_of_item items)), omega (arith, grown, front, sum))
    where
      grows : (ns : List ℕ) (n : ℕ) → length (ns ++ n ∷ []) ≡ suc (length ns)
      grows [] n = refl
      grows (m ∷ ns) n = ap (λ k. suc k) (grows ns n)

  empty : Good (record { items = []; numbers = [] })
  empty = record { own = λ k i e. absurd (absurd_none k i e); from = λ i d e. absurd (absurd_step i d e); rise = λ j k a b e f l. absurd (absurd_none j a e) }
    where
      absurd_none : (k i : ℕ) → slice_get [] k ≡ Some i → ⊥
      absurd_none k i e = cc

      absurd_step : (i : ℕ) (d : WrittenStep) → slice_get [] i ≡ Some d → ⊥
      absurd_step i d e = cc

  -- the filling of a whole worksheet
  pub filled : (items : List SheetItem) → filter_map step_of_item items ≡ ss → IsDone (fold (fill_item names bound g judgements) (record { items = []; numbers = [] }) items)
  filled items e = run items (record { items = []; numbers = [] }) empty ([], sym e, refl)
