-- The first tuple that serves, place by place.
use Rattle.std.proofs.Common.{◌≡◌, ℕ, zero, suc, ◌+◌, ◌<◌, ◌≤◌, true, false, List, [], ◌∷◌, length, map, take, drop, get_or}
use Rattle.std.proofs.Common.{Option, Some, None, option_map, refl, sym, ap, subst, ◌∙◌, arith, Result, Ok, Err, IfOk}
use Rattle.std.specs.Prelude.{slice_get}
use Rattle.std.proofs.lemmas.List.{take_all}
use Rattle.std.specs.List.{AllByRecursion, flat_map}
use Rattle.mm_base.specs.declared.errors.Memory.{Memory}
use Rattle.mm_base.specs.declared.symbols.Sym.{Sym}
use Rattle.mm_base.specs.declared.symbols.Pair.{Pair}
use Rattle.mm_base.specs.declared.tree.Tree.{Tree}
use Rattle.mm_model.specs.declared.frames.Frame.{Frame}
use Rattle.mm_model.specs.Book.{Assertion}
use Rattle.solve_model.specs.Firsts.{IsFirstOrNone}
use Rattle.written_model.specs.Found.{is_ground}
use Rattle.written_model.specs.WrittenSteps.{no_tree, value_of}
use Rattle.auto_model.specs.AutoFilled.{tuples}
use Rattle.ref_search.specs.Matching.{Binding, valued_by, Agrees, AreBound, IsMatched, Becomes}
use Rattle.ref_search.specs.Completing.{use_of, IsRule, Completes}
use Rattle.ref_search.specs.Placing.{trees_at, CanComplete, FirstFrom}
use Rattle.ref_search.proofs.Lists.{all_at}
use Rattle.ref_search.proofs.PlaceLaws.{first_map, all_none, advance, reached, passed, cons_head, cons_tail, rule_over, other_fails, fewer, more}
use Rattle.ref_search.proofs.LabelLaws.{none_where}
use Rattle.ref_search.proofs.SearchLaws.{one_more_of}
use Rattle.auto_fill.specs.declared.walking.Fit.{Fit}
use Rattle.auto_fill.specs.Ready.{IsPlace, ArePlaces}
use Rattle.auto_fill.specs.Walking.{Differs, BecomesNone, CannotPlace, begun_with, IsFirstFit, IsWalkedTo}
use Rattle.auto_fill.proofs.TupleLaws.{IsTuple, all_tuples}

-- ---- a place, by its number among the places

module _ (wanted : List Tree) (places : List ℕ) (are : ArePlaces wanted places) (i : ℕ) (below : i < length places) where
  pub place_there : IsPlace wanted (get_or places i 0)
  place_there = all_at (IsPlace wanted) places i 0 are below

-- ---- one `$e` alone

module _ (vars : List Sym) (bs : List Binding) (h : Tree) (wanted : List Tree) (k : ℕ) (new : List Binding) where
  pub differs_there : IsMatched vars (Becomes h (get_or wanted k no_tree)) bs new false → Differs vars bs h wanted k
  differs_there m = record { never = λ f o a p. m.none refl f o a p }

module _ (a : Assertion) (given : Option (List Pair)) (frame : Frame) (vars : List Sym) (rule : IsRule a frame vars) (bs : List Binding) (wanted : List Tree) where
  clash_at : (values : List Tree) → Agrees (value_of (use_of a values)) bs → (hyps : List Tree) (j : ℕ) (h : Tree) (order : List ℕ) → slice_get hyps j ≡ Some h
      → map (valued_by (value_of (use_of a values))) hyps ≡ trees_at wanted order → AllByRecursion (Differs vars bs h wanted) order → ⊥
  clash_at values agrees [] j h order e same d = absurd (cc)
  clash_at values agrees (x ∷ xs) j h [] e same d = absurd (cc)
  clash_at values agrees (x ∷ xs) zero h (k ∷ ks) e same d =
      let f = value_of (use_of a values) in
      let is : x ≡ h = cc in
      d.0.never f (rule_over a frame vars values rule) agrees
      (ap (valued_by f) (sym is) ∙ cons_head (valued_by f x) (get_or wanted k no_tree) (map (valued_by f) xs) (trees_at wanted ks) same)
  clash_at values agrees (x ∷ xs) (suc j) h (k ∷ ks) e same d =
      let f = value_of (use_of a values) in
      clash_at values agrees xs j h ks e (cons_tail (valued_by f x) (get_or wanted k no_tree) (map (valued_by f) xs) (trees_at wanted ks) same) d.1

  pub none_placed : (hyps : List Tree) (j : ℕ) (h : Tree) (n : ℕ) (places : List ℕ) → slice_get hyps j ≡ Some h → BecomesNone vars bs h wanted places
      → IsFirstOrNone (CanComplete a given bs hyps wanted) (tuples n places) None
  none_placed hyps j h n places e none =
      none_where (CanComplete a given bs hyps wanted) (IsTuple (Differs vars bs h wanted) n)
      (λ order t c. clash_at c.0 c.1.ends.agrees hyps j h order e c.1.hyps_are t.each)
      (tuples n places) (all_tuples (Differs vars bs h wanted) n places none.each)

  pub cannot_place : (h : Tree) (hs : List Tree) (places : List ℕ) → CannotPlace vars bs hs wanted places → IsFirstFit a given bs (h ∷ hs) wanted (tuples (suc (length hs)) places) None
  cannot_place h hs places c = record { first = none_placed (h ∷ hs) (suc c.number) c.hyp (suc (length hs)) places c.there c.none; values = tt }

-- ---- a place for the next `$e`

module _ (frame : Frame) (vars : List Sym) (old now : List Binding) (h : Tree) (hs wanted : List Tree) (places : List ℕ) (given : Option (List Pair)) (i at : ℕ) (t : Tree)
    (inside : i < length places) (at_is : at ≡ get_or places i 0) (t_is : t ≡ get_or wanted at no_tree) (so_far : IsWalkedTo frame vars old now h hs wanted places given i) where
  module _ (a : Assertion) (rule : IsRule a frame vars) (new : List Binding) where
    from_tree : (order : List ℕ) (values : List Tree) → Completes a given old (h ∷ hs) (trees_at wanted (at ∷ order)) values → Completes a given old (h ∷ hs) (t ∷ trees_at wanted order) values
    from_tree order values c = subst (λ z. Completes a given old (h ∷ hs) (z ∷ trees_at wanted order) values) (sym t_is) c

    to_tree : (order : List ℕ) (values : List Tree) → Completes a given old (h ∷ hs) (t ∷ trees_at wanted order) values → Completes a given old (h ∷ hs) (trees_at wanted (at ∷ order)) values
    to_tree order values c = subst (λ z. Completes a given old (h ∷ hs) (z ∷ trees_at wanted order) values) t_is c

    none_begun : IsMatched vars (Becomes h t) old new false → IsFirstOrNone (CanComplete a given old (h ∷ hs) wanted) (begun_with (length hs) places at) None
    none_begun m =
        first_map (CanComplete a given old (h ∷ hs) wanted) (λ order. CanComplete a given old (h ∷ hs) wanted (at ∷ order)) (λ order. at ∷ order)
        (λ order c. c) (λ order c. c) (tuples (length hs) places) None
        (all_none (λ order. CanComplete a given old (h ∷ hs) wanted (at ∷ order))
        (λ order c. other_fails a given frame vars rule old new h hs t (trees_at wanted order) m c.0 (from_tree order c.0 c.1))
        (tuples (length hs) places))

    first_begun : IsMatched vars (Becomes h t) old new true → (o : Option (List ℕ)) → IsFirstOrNone (CanComplete a given new hs wanted) (tuples (length hs) places) o
        → IsFirstOrNone (CanComplete a given old (h ∷ hs) wanted) (begun_with (length hs) places at) (option_map (λ order. at ∷ order) o)
    first_begun m o f =
        first_map (CanComplete a given old (h ∷ hs) wanted) (CanComplete a given new hs wanted) (λ order. at ∷ order)
        (λ order c. (c.0, fewer a given frame vars rule old new h hs t (trees_at wanted order) m c.0 (from_tree order c.0 c.1)))
        (λ order c. (c.0, to_tree order c.0 (more a given frame vars rule old new h hs t (trees_at wanted order) m c.0 c.1)))
        (tuples (length hs) places) o f

    one_further : AreBound vars old → IsFirstOrNone (CanComplete a given old (h ∷ hs) wanted) (begun_with (length hs) places at) None
        → FirstFrom (CanComplete a given old (h ∷ hs) wanted) (flat_map (begun_with (length hs) places) (drop (i + 1) places)) (flat_map (begun_with (length hs) places) places)
    one_further bound none =
        advance (CanComplete a given old (h ∷ hs) wanted) (begun_with (length hs) places) places (flat_map (begun_with (length hs) places) places) i 0 inside (so_far.first a rule bound)
        (subst (λ k. IsFirstOrNone (CanComplete a given old (h ∷ hs) wanted) (begun_with (length hs) places k) None) at_is none)

    found_here : AreBound vars old → (order : List ℕ) → IsFirstOrNone (CanComplete a given old (h ∷ hs) wanted) (begun_with (length hs) places at) (Some order)
        → IsFirstOrNone (CanComplete a given old (h ∷ hs) wanted) (flat_map (begun_with (length hs) places) places) (Some order)
    found_here bound order some =
        reached (CanComplete a given old (h ∷ hs) wanted) (begun_with (length hs) places) places (flat_map (begun_with (length hs) places) places) i
        0 order inside (so_far.first a rule bound)
        (subst (λ k. IsFirstOrNone (CanComplete a given old (h ∷ hs) wanted) (begun_with (length hs) places k) (Some order)) at_is some)

  pub place_differs : (new cut : List Binding) → IsMatched vars (Becomes h t) old new false → cut ≡ old → IsWalkedTo frame vars old cut h hs wanted places given (i + 1)
  place_differs new cut m e = record { same = e; first = λ a rule bound. one_further a rule new bound (none_begun a rule new m) }

  pub place_passed : (new cut : List Binding) → IsMatched vars (Becomes h t) old new true → cut ≡ old
      → ((a : Assertion) → IsRule a frame vars → AreBound vars new → IsFirstFit a given new hs wanted (tuples (length hs) places) None)
      → IsWalkedTo frame vars old cut h hs wanted places given (i + 1)
  place_passed new cut m e f = record { same = e; first = λ a rule bound. one_further a rule new bound (first_begun a rule new m None (f a rule (m.bound bound)).first) }

  pub place_found : (new : List Binding) (fit : Fit) → IsMatched vars (Becomes h t) old new true → (a : Assertion) → IsRule a frame vars → AreBound vars old
      → IsFirstFit a given new hs wanted (tuples (length hs) places) (Some fit)
      → IsFirstFit a given old (h ∷ hs) wanted (tuples (suc (length hs)) places) (Some (record { places = at ∷ fit.places; trees = fit.trees }))
  place_found new fit m a rule bound f = record {
    first = found_here a rule new bound (at ∷ fit.places) (first_begun a rule new m (Some fit.places) f.first);
    values = to_tree a rule new fit.places fit.trees (more a given frame vars rule old new h hs t (trees_at wanted fit.places) m fit.trees f.values);
  }

pub place_none : (frame : Frame) (vars : List Sym) (old now : List Binding) (h : Tree) (hs wanted : List Tree) (places : List ℕ) (given : Option (List Pair)) (i : ℕ) → length places ≤ i
    → IsWalkedTo frame vars old now h hs wanted places given i → (a : Assertion) → IsRule a frame vars → AreBound vars old
    → IsFirstFit a given old (h ∷ hs) wanted (tuples (suc (length hs)) places) None
place_none frame vars old now h hs wanted places given i le so_far a rule bound = record {
  first = passed (CanComplete a given old (h ∷ hs) wanted) (begun_with (length hs) places) places (flat_map (begun_with (length hs) places) places) i le (so_far.first a rule bound);
  values = tt;
}

-- ---- what the calls say, put together

pub of_whole : (a : Assertion) (given : Option (List Pair)) (bs : List Binding) (hyps : List Tree) (h : Tree) (hs wanted : List Tree) (places : List ℕ) (o : Option Fit) → hyps ≡ h ∷ hs
    → IsFirstFit a given bs (h ∷ hs) wanted (tuples (suc (length hs)) places) o → IsFirstFit a given bs hyps wanted (tuples (length hyps) places) o
of_whole a given bs hyps h hs wanted places o e f = subst (λ xs. IsFirstFit a given bs xs wanted (tuples (length xs) places) o) (sym e) f

pub of_answer : (a : Assertion) (given : Option (List Pair)) (bs : List Binding) (hs wanted : List Tree) (places : List ℕ) (o p : Option Fit) → o ≡ p
    → IsFirstFit a given bs hs wanted (tuples (length hs) places) o → IsFirstFit a given bs hs wanted (tuples (length hs) places) p
of_answer a given bs hs wanted places o p f x = subst (λ q. IsFirstFit a given bs hs wanted (tuples (length hs) places) q) f x

no_elements : {X : Type 0} (xs : List X) → length xs ≡ 0 → xs ≡ []
no_elements [] e = refl
no_elements (x ∷ xs) e = absurd (omega (arith, e))

pub end_placed : (frame : Frame) (vars : List Sym) (given : Option (List Pair)) (bs other : List Binding) (hyps wanted : List Tree) (places : List ℕ)
    (r : Result (Option Fit) Memory)
    → length hyps ≡ 0 → other ≡ bs
    → IfOk r (λ o. (a : Assertion) (ts : List Tree) → IsRule a frame vars → AreBound vars other → IsFirstFit a given other [] ts ([] ∷ []) o)
    → IfOk r (λ o. (a : Assertion) → IsRule a frame vars → AreBound vars bs → IsFirstFit a given bs hyps wanted (tuples (length hyps) places) o)
end_placed frame vars given bs other hyps wanted places (Err m) e f h = h
end_placed frame vars given bs other hyps wanted places (Ok o) e f h =
    subst (λ xs. (a : Assertion) → IsRule a frame vars → AreBound vars bs → IsFirstFit a given bs xs wanted (tuples (length xs) places) o) (sym (no_elements hyps e))
    (λ a rule bound. subst (λ b. IsFirstFit a given b [] wanted ([] ∷ []) o) f (h a wanted rule (subst (λ b. AreBound vars b) (sym f) bound)))

pub ground_at : (wanted : List Tree) (k : ℕ) (t : Tree) → t ≡ get_or wanted k no_tree → IsPlace wanted k → is_ground t ≡ true
ground_at wanted k t e p = subst (λ x. is_ground x ≡ true) (sym e) p.ground

module _ (vars : List Sym) (bs new : List Binding) (h : Tree) (wanted : List Tree) (places : List ℕ) (i : ℕ) (t : Tree) where
  pub one_differs : i < length places → t ≡ get_or wanted (get_or places i 0) no_tree → BecomesNone vars bs h wanted (take i places)
      → IsMatched vars (Becomes h t) bs new false → BecomesNone vars bs h wanted (take (i + 1) places)
  one_differs inside e none m = record {
    each = one_more_of (Differs vars bs h wanted) places i 0 inside none.each
        (differs_there vars bs h wanted (get_or places i 0) new (subst (λ x. IsMatched vars (Becomes h x) bs new false) e m));
  }

pub none_at_all : (vars : List Sym) (bs : List Binding) (h : Tree) (wanted : List Tree) (places : List ℕ) (i : ℕ) → length places ≤ i → BecomesNone vars bs h wanted (take i places)
    → BecomesNone vars bs h wanted places
none_at_all vars bs h wanted places i le none = record { each = subst (AllByRecursion (Differs vars bs h wanted)) (take_all i places le) none.each }

pub cannot_place_there : (vars : List Sym) (bs other : List Binding) (hyps wanted : List Tree) (places : List ℕ) (i : ℕ) (h : Tree) → slice_get hyps i ≡ Some h → other ≡ bs
    → BecomesNone vars other h wanted places → CannotPlace vars bs hyps wanted places
cannot_place_there vars bs other hyps wanted places i h e same none = record {
  number = i;
  hyp = h;
  there = e;
  none = subst (λ b. BecomesNone vars b h wanted places) same none;
}

pub refused_whole : (a : Assertion) (given : Option (List Pair)) (frame : Frame) (vars others : List Sym) (bs : List Binding) (hyps : List Tree) (h : Tree) (hs wanted : List Tree) (places : List ℕ)
    → IsRule a frame vars → others ≡ vars → hyps ≡ h ∷ hs → CannotPlace others bs hs wanted places → IsFirstFit a given bs hyps wanted (tuples (length hyps) places) None
refused_whole a given frame vars others bs hyps h hs wanted places rule e whole c =
    of_whole a given bs hyps h hs wanted places None whole
    (cannot_place a given frame vars rule bs wanted h hs places (subst (λ vs. CannotPlace vs bs hs wanted places) e c))

pub begins : (frame : Frame) (vars : List Sym) (old now : List Binding) (h : Tree) (hs wanted : List Tree) (places : List ℕ) (given : Option (List Pair)) → now ≡ old
    → IsWalkedTo frame vars old now h hs wanted places given 0
begins frame vars old now h hs wanted places given e = record { same = e; first = λ a rule bound. record { first = λ o k. k } }
