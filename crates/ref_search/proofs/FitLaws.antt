-- How one assertion fits the wanted trees.
use Rattle.std.proofs.Common.{◌≡◌, ℕ, zero, suc, ◌+◌, ◌<◌, ◌≤◌, Bool, true, false, List, [], ◌∷◌, length, map, get_or, nat_le, Option, Some, None}
use Rattle.std.proofs.Common.{option_map, refl, sym, ap, subst, ◌∙◌, inl, inr, arith, Result, Ok, Err, IfOk}
use Rattle.std.proofs.lemmas.Bool.Decides.{nat_tests}
use Rattle.std.specs.List.{AllByRecursion, range_with_len}
use Rattle.mm_base.specs.declared.errors.Memory.{Memory}
use Rattle.mm_base.specs.declared.symbols.Sym.{Sym}
use Rattle.mm_base.specs.declared.symbols.Pair.{Pair}
use Rattle.mm_base.specs.declared.tree.Tree.{Tree}
use Rattle.mm_model.specs.declared.frames.Frame.{Frame}
use Rattle.mm_model.specs.Book.{Assertion}
use Rattle.solve_model.specs.Firsts.{IsFirstOrNone, orders}
use Rattle.written_model.specs.WrittenSteps.{no_tree, value_of}
use Rattle.ref_search.specs.declared.placing.Fit.{Fit}
use Rattle.ref_search.specs.declared.wanted.Wanted.{Wanted}
use Rattle.ref_search.specs.Matching.{Binding, valued_by, AreBound, IsMatched, Becomes, AllBecome, NeverBecomes}
use Rattle.ref_search.specs.Completing.{use_of, IsRule, IsEnd, Ends, Completes}
use Rattle.ref_search.specs.Placing.{trees_at, CanComplete, HasValues, IsFirstFit, orders_of, FitsWanted, CanFit, IsFitOf}
use Rattle.ref_search.proofs.MatchLaws.{agreed}
use Rattle.ref_search.proofs.PlaceLaws.{all_none, cons_head, rule_over, other_fails, fewer, more}

-- ---- places one after the other

pub at_range : {X : Type 0} (xs : List X) (d : X) (g : ℕ → X) (a : ℕ) → ((k : ℕ) → k < length xs → g (a + k) ≡ get_or xs k d) → map g (range_with_len a (length xs)) ≡ xs
at_range [] d g a h = refl
at_range (x ∷ xs) d g a h =
    let here : g a ≡ x = ap g (let e : a ≡ a + 0 = omega arith in e) ∙ h 0 (omega arith) in
    ap (λ y. y ∷ map g (range_with_len (a + 1) (length xs))) here
    ∙ ap (λ ys. x ∷ ys) (at_range xs d g (a + 1) (λ k l. ap g (let e : a + 1 + k ≡ a + suc k = omega arith in e) ∙ h (suc k) (omega (arith, l))))

pub in_range : (a n : ℕ) → AllByRecursion (λ k. k < a + n) (range_with_len a n)
in_range a zero = tt
in_range a (suc n) = (omega arith, subst (λ m. AllByRecursion (λ k. k < m) (range_with_len (a + 1) n)) (let e : a + 1 + n ≡ a + suc n = omega arith in e) (in_range (a + 1) n))

pub as_listed : (ts : List Tree) → trees_at ts (range_with_len 0 (length ts)) ≡ ts
as_listed ts = at_range ts no_tree (λ k. get_or ts k no_tree) 0 (λ k l. ap (λ j. get_or ts j no_tree) (let e : 0 + k ≡ k = omega arith in e))

-- ---- trees as they are listed

module _ (a : Assertion) (given : Option (List Pair)) (frame : Frame) (vars : List Sym) (rule : IsRule a frame vars) (old new : List Binding) (hyps wanted : List Tree) (order : List ℕ)
    (same : trees_at wanted order ≡ wanted) where
  list_fails : IsMatched vars (AllBecome hyps wanted) old new false → CanComplete a given old hyps wanted order → ⊥
  list_fails m (values, c) = m.none refl (value_of (use_of a values)) (rule_over a frame vars values rule) c.ends.agrees (c.hyps_are ∙ same)

  list_ends : IsMatched vars (AllBecome hyps wanted) old new true → (values : List Tree) → Completes a given old hyps (trees_at wanted order) values → Ends a given new values
  list_ends m values c = record {
    agrees = m.agrees refl (value_of (use_of a values)) (rule_over a frame vars values rule) c.ends.agrees (c.hyps_are ∙ same);
    codes = c.ends.codes;
    no_clash = c.ends.no_clash;
    no_lack = c.ends.no_lack;
  }

  list_completes : IsMatched vars (AllBecome hyps wanted) old new true → (values : List Tree) → Ends a given new values → Completes a given old hyps (trees_at wanted order) values
  list_completes m values e = record {
    ends = record { agrees = agreed (value_of (use_of a values)) old new m.longer e.agrees; codes = e.codes; no_clash = e.no_clash; no_lack = e.no_lack };
    hyps_are = m.has refl (value_of (use_of a values)) e.agrees ∙ sym same;
  }

  pub listed_fails : IsMatched vars (AllBecome hyps wanted) old new false → IsFirstFit a given old hyps wanted (order ∷ []) None
  listed_fails m = record { first = inr (list_fails m, refl); values = tt }

  pub listed_none : IsMatched vars (AllBecome hyps wanted) old new true → ((values : List Tree) → Ends a given new values → ⊥) → IsFirstFit a given old hyps wanted (order ∷ []) None
  listed_none m h = record { first = inr (λ c. h c.0 (list_ends m c.0 c.1), refl); values = tt }

  pub listed_some : IsMatched vars (AllBecome hyps wanted) old new true → (values : List Tree) → Ends a given new values
      → IsFirstFit a given old hyps wanted (order ∷ []) (Some (record { order = order; trees = values }))
  listed_some m values e = record { first = inl (refl, (values, list_completes m values e)); values = list_completes m values e }

-- ---- the conclusion first

pub few_orders : (n : ℕ) → n ≤ 6 → orders_of n ≡ orders n (range_with_len 0 n)
few_orders n h = let e : nat_le n 6 ≡ true = grind (arith, nat_tests, h) in rw e refl

pub many_orders : (n : ℕ) → 6 < n → orders_of n ≡ range_with_len 0 n ∷ []
many_orders n h = let e : nat_le n 6 ≡ false = grind (arith, nat_tests, h) in rw e refl

pub first_same : {X : Type 0} (P Q : X → Type 0) → ((x : X) → P x → Q x) → ((x : X) → Q x → P x) → (xs : List X) (o : Option X) → IsFirstOrNone P xs o → IsFirstOrNone Q xs o
first_same P Q there back [] o h = h
first_same P Q there back (x ∷ xs) o (inl h) = inl (h.0, there x h.1)
first_same P Q there back (x ∷ xs) o (inr h) = inr (λ q. h.0 (back x q), first_same P Q there back xs o h.1)

nothing_bound : (vars : List Sym) → AreBound vars []
nothing_bound vars = record { once = tt; among = tt }

module _ (a : Assertion) (given : Option (List Pair)) (w : Wanted) where
  pub other_shape : NeverBecomes a.tree w.formula → IsFitOf a given w None
  other_shape n = record {
    first = all_none (CanFit a given w)
        (λ order c. n.never (value_of (use_of a c.0))
        (cons_head (valued_by (value_of (use_of a c.0)) a.tree) w.formula (map (valued_by (value_of (use_of a c.0))) a.hyps) (trees_at w.hyps order) c.1.hyps_are)) (orders_of (length w.hyps));
    values = tt;
  }

  module _ (frame : Frame) (vars : List Sym) (rule : IsRule a frame vars) (new : List Binding) where
    pub other_conclusion : IsMatched vars (Becomes a.tree w.formula) [] new false → IsFitOf a given w None
    other_conclusion m = record {
      first = all_none (CanFit a given w) (λ order c. other_fails a given frame vars rule [] new a.tree a.hyps w.formula (trees_at w.hyps order) m c.0 c.1) (orders_of (length w.hyps));
      values = tt;
    }

    pub with_conclusion : IsMatched vars (Becomes a.tree w.formula) [] new true → (o : Option Fit)
        → (AreBound vars new → IsFirstFit a given new a.hyps w.hyps (orders_of (length w.hyps)) o) → IsFitOf a given w o
    with_conclusion m o f = record {
      first = first_same (CanComplete a given new a.hyps w.hyps) (CanFit a given w)
          (λ order c. (c.0, more a given frame vars rule [] new a.tree a.hyps w.formula (trees_at w.hyps order) m c.0 c.1))
          (λ order c. (c.0, fewer a given frame vars rule [] new a.tree a.hyps w.formula (trees_at w.hyps order) m c.0 c.1))
          (orders_of (length w.hyps)) (option_map (λ (fit : Fit). fit.order) o) (f (m.bound (nothing_bound vars))).first;
      values = by o (f (m.bound (nothing_bound vars))).values;
    }
      where
        by : (o : Option Fit) → HasValues (λ fit. Completes a given new a.hyps (trees_at w.hyps fit.order) fit.trees) o → HasValues (λ fit. FitsWanted a given w fit.order fit.trees) o
        by None h = tt
        by (Some fit) h = more a given frame vars rule [] new a.tree a.hyps w.formula (trees_at w.hyps fit.order) m fit.trees h

-- ---- what the calls say, put together

module _ (given : Option (List Pair)) (frame : Frame) (vars others : List Sym) (old new : List Binding) (tree : Tree) (hyps : List Tree) (w : Wanted)
    (fits : Bool) (none : old ≡ []) (same : others ≡ vars)
    (m : IsMatched others (Becomes tree w.formula) old new fits) where
  matched : (a : Assertion) (b : Bool) → a.tree ≡ tree → fits ≡ b → IsMatched vars (Becomes a.tree w.formula) [] new b
  matched a b e f =
      subst (λ b. IsMatched vars (Becomes a.tree w.formula) [] new b) f
      (subst (λ t. IsMatched vars (Becomes t w.formula) [] new fits) (sym e)
      (subst (λ bs. IsMatched vars (Becomes tree w.formula) bs new fits) none (subst (λ vs. IsMatched vs (Becomes tree w.formula) old new fits) same m)))

  pub refused_fit : fits ≡ false → (a : Assertion) → IsRule a frame vars → a.tree ≡ tree → IsFitOf a given w None
  refused_fit f a rule e = other_conclusion a given w frame vars rule new (matched a false e f)

  pub taken_fit : fits ≡ true → (ps ts : List Tree) (places : List ℕ) (all : List (List ℕ)) → ps ≡ hyps → ts ≡ w.hyps → all ≡ orders_of (length w.hyps) → (r : Result (Option Fit) Memory)
      → IfOk r (λ o. (a : Assertion) → IsRule a frame vars → AreBound vars new → IsFirstFit a given new ps ts all o)
      → IfOk r (λ o. (a : Assertion) → IsRule a frame vars → a.tree ≡ tree → a.hyps ≡ hyps → IsFitOf a given w o)
  taken_fit f ps ts places all e g k (Err x) h = h
  taken_fit f ps ts places all e g k (Ok o) h = λ a rule t s.
      with_conclusion a given w frame vars rule new (matched a true t f) o
      (λ bound. subst (λ x. IsFirstFit a given new a.hyps w.hyps x o) k
      (subst (λ x. IsFirstFit a given new a.hyps x all o) g (subst (λ x. IsFirstFit a given new x ts all o) (e ∙ sym s) (h a rule bound))))

-- what holds of other bindings and another answer that are the same
pub end_of : (a : Assertion) (given : Option (List Pair)) (vars : List Sym) (other bs : List Binding) (o p : Option (List Tree)) → other ≡ bs → o ≡ p → AreBound vars bs
    → (AreBound vars other → IsEnd a given other o) → IsEnd a given bs p
end_of a given vars other bs o p e f bound h = subst (λ q. IsEnd a given bs q) f (subst (λ b. AreBound vars b → IsEnd a given b o) e h bound)

pub range_count : (a n : ℕ) → length (range_with_len a n) ≡ n
range_count a zero = refl
range_count a (suc n) = ap suc (range_count (a + 1) n)
