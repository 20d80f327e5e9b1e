-- With added uses the written values are most general.
use Rattle.std.specs.Prelude.{◌≡◌, ◌⊎◌, ℕ, zero, suc, List, [], ◌∷◌, Contains, slice_get, unwrap_or, Option, Some, None, option_map, refl}
use Rattle.std.specs.List.{AllByRecursion, AllZip}
use Rattle.std.specs.Option.{option_map_or}
use Rattle.std.proofs.Common.{sym, ap, subst, ◌∙◌, inl, inr}
use Rattle.mm_base.specs.declared.symbols.Label.{Label}
use Rattle.mm_base.specs.declared.symbols.Pair.{Pair}
use Rattle.mm_base.specs.declared.symbols.Typecode.{Typecode}
use Rattle.mm_base.specs.declared.tree.Tree.{Tree}
use Rattle.mm_base.specs.declared.tree.Tree.TheVariants.{Fresh}
use Rattle.mm_model.specs.Productions.{TypedVariable}
use Rattle.mm_model.specs.Typed.{IsTyped}
use Rattle.mm_model.specs.Book.{Database, Assertion}
use Rattle.proof_model.specs.declared.theorem.Theorem.{Theorem}
use Rattle.sheet_text.specs.declared.sheet.Given.{Given}
use Rattle.sheet_text.specs.declared.sheet.Given.TheVariants as given
use Rattle.solve_model.specs.declared.bound.Bound.{Bound}
use Rattle.solve_model.specs.Trees.{Open, work, fresh, leaf_tree, Occurs}
use Rattle.solve_model.specs.Solutions.{Unknown, named, blank, copy, Valuation, Asked, IsUnknown, in_formula, is_blank, in_frame, IsValuation, PlacesFit, Solves, formula, instance}
use Rattle.solve_model.specs.Verdicts.{asked, accepted_in}
use Rattle.solve_model.specs.MostGeneral.{refine, IsInstance, IsLeastNamed, IsNamedLeaf, IsTheValuation}
use Rattle.solve_laws.specs.Instances.{IsClosedTree}
use Rattle.solve_laws.proofs.Elements.{nothing}
use Rattle.written_model.specs.declared.options.Options.{Options}
use Rattle.written_model.specs.WrittenSteps.{Use, WrittenStep, steps_in, trees, place_tree, value_of}
use Rattle.written_model.specs.Found.{valued}
use Rattle.written_model.specs.Written.{Writing, written_bound, written_pairs, written_theorem}
use Rattle.written_model.specs.Again.{judgements_from, use_at, value_again}
use Rattle.again_laws.specs.Leaves.{typed_leaves}
use Rattle.again_laws.specs.Whole.{StandsIn, IsWhole}
use Rattle.again_laws.proofs.LeafLaws.{told-replace}
use Rattle.again_laws.proofs.Lists.{get_map, all_from, all_of, some_same}
use Rattle.auto_laws.proofs.Added.{AreGroundBefore, IsAdded, stays, added, AreAdded, value_closed}
use Rattle.auto_laws.proofs.AcceptedMore.{New, NotNew, IsNewAsked, accepted_at, accepted_there, classified, kept}
use Rattle.auto_laws.proofs.SameFormulas.{unknown_same, solves_same}
use Rattle.auto_laws.proofs.SolvedMore.{other, Extends, formulas_same, stays_closed, closed_formula, solves_more, valuation_more}

module _ (db : Database) (options : Options) (w : Writing) (fs : List WrittenStep) (A : AreAdded db w.bound.place options.dv w.bound.pairs (steps_in w.items) fs)
    (ps : List Pair) (th : Theorem) where
  abbrev es : List WrittenStep
  es = steps_in w.items

  abbrev one : Bound
  one = written_bound db options w

  abbrev more : Bound
  more = other db options w fs A ps th

  abbrev first_asked : List Asked
  first_asked = accepted_in (judgements_from 0 es)

  abbrev all_asked : List Asked
  all_asked = accepted_in (judgements_from 0 fs)

  abbrev g : Valuation
  g = value_again es

  abbrev G : Valuation
  G = value_again fs

  abbrev Added : ℕ → Use → Type 0
  Added i u = New db options w fs A i u

  abbrev Old : ℕ → Type 0
  Old i = NotNew db options w fs A i

  -- ---- the uses

  pub use_old : (i : ℕ) → Old i → use_at fs i ≡ use_at es i
  use_old i h = by (slice_get fs i) refl
    where
      use_of_step : Option WrittenStep → Option Use
      use_of_step o = unwrap_or (option_map (λ (e : WrittenStep). e.by) o) None

      from : (f e : WrittenStep) → slice_get fs i ≡ Some f → slice_get es i ≡ Some e → IsAdded db w.bound.place options.dv w.bound.pairs es i e f → use_at fs i ≡ use_at es i
      from f e there at stays = ap use_of_step there ∙ sym (ap use_of_step at)
      from f e there at (added c u k) = absurd (h u (record { step = e; at = at; choice = c; is = k; there = there }))

      none : (o : Option WrittenStep) → slice_get es i ≡ o → slice_get fs i ≡ None → use_at fs i ≡ use_at es i
      none None at there = ap use_of_step there ∙ sym (ap use_of_step at)
      none (Some e) at there = let f = A.there i e at in let bad = sym f.1 ∙ there in absurd cc

      by : (o : Option WrittenStep) → slice_get fs i ≡ o → use_at fs i ≡ use_at es i
      by None there = none (slice_get es i) refl there
      by (Some f) there = let e = A.back i f there in from f e.0 there e.1 e.2

  pub use_new : (i : ℕ) (u : Use) → Added i u → use_at fs i ≡ Some u
  use_new i u n = ap (λ o. unwrap_or (option_map (λ (e : WrittenStep). e.by) o) None) n.there

  pub values_extend : Extends db options w fs A ps th g G
  values_extend = record {
    names = λ c n. refl;
    blanks = λ i. refl;
    old = λ i s c h. ap (λ o. option_map_or (λ y. value_of y s) o (Fresh c i)) (use_old i h);
    new = λ i u s c n. ap (λ o. option_map_or (λ y. value_of y s) o (Fresh c i)) (use_new i u n);
  }

  pub each_asked : (x : Asked) → Contains all_asked x → (Contains first_asked x × Old x.step) ⊎ IsNewAsked db options w fs A x
  each_asked x m =
      let k = accepted_at (judgements_from 0 fs) x m in
      elim (classified db options w fs A k.0 x k.1) [ inl o ↦ inl (accepted_there (judgements_from 0 es) k.0 x o.0, o.1) | inr n ↦ inr n ]

  pub asked_kept : (x : Asked) → Contains first_asked x → Contains all_asked x
  asked_kept x m = let k = accepted_at (judgements_from 0 es) x m in accepted_there (judgements_from 0 fs) k.0 x (kept db options w fs A k.0 x k.1).0

  asked_old : (x : Asked) → Contains first_asked x → Old x.step
  asked_old x m = let k = accepted_at (judgements_from 0 es) x m in (kept db options w fs A k.0 x k.1).1

  forth : (u : Unknown) → IsUnknown one first_asked u → IsUnknown more all_asked u
  forth u on = unknown_same db options w es fs A.same (written_pairs db options w) ps (written_theorem db options w) th first_asked all_asked asked_kept u on

  named_back : (c : Typecode) (n : ℕ) → IsUnknown more all_asked (named c n) → IsUnknown one first_asked (named c n)
  named_back c n (in_formula i s t a k o) =
      unknown_same db options w fs es (sym A.same) ps (written_pairs db options w) th (written_theorem db options w) [] first_asked (λ y m. absurd (nothing y m)) (named c n) (in_formula i s t a k o)

  blank_back : (i : ℕ) → IsUnknown more all_asked (blank i) → IsUnknown one first_asked (blank i)
  blank_back i (is_blank s a b) =
      unknown_same db options w fs es (sym A.same) ps (written_pairs db options w) th (written_theorem db options w) [] first_asked (λ y m. absurd (nothing y m)) (blank i) (is_blank s a b)

  -- ---- the values of an added use are told

  module _ (v : Valuation) (i : ℕ) (u : Use) (n : Added i u) (is : IsWhole u.assertion) (h : Solves more v (asked i u.assertion n.choice.places)) where
    formula_is : (k : ℕ) (t : Tree) → slice_get (trees es) k ≡ Some t → IsClosedTree t → formula more v k ≡ t
    formula_is k t at closed = sym (formulas_same db options w fs A ps th v k) ∙ closed_formula db options w fs A ps th v k t at closed

    hyp_told : (gs : List Given) (hs : List Tree) → AreGroundBefore db w.bound.place options.dv w.bound.pairs es i gs
        → AllZip (λ (h : Tree) (g : Given). place_tree es g ≡ Some (valued u h)) hs gs → PlacesFit more v i gs hs
        → (j : ℕ) (t : Tree) → slice_get hs j ≡ Some t → instance v i t ≡ valued u t
    hyp_told [] [] b z p j t e = absurd cc
    hyp_told [] (x ∷ hs) b z p j t e = absurd z
    hyp_told (y ∷ gs) [] b z p j t e = absurd z
    hyp_told (given.Gap ∷ gs) (x ∷ hs) b z p j t e = absurd b
    hyp_told (given.Step k ∷ gs) (x ∷ hs) b z p zero t e =
        subst (λ y. instance v i y ≡ valued u y) (some_same x t e) (p.0 ∙ formula_is k (valued u x) z.0 (b.1 (valued u x) z.0))
    hyp_told (given.Step k ∷ gs) (x ∷ hs) b z p (suc j) t e = hyp_told gs hs b.2 z.1 p.1 j t e

    told_by : (t : Tree) → instance v i t ≡ valued u t → (y : TypedVariable) → Contains (typed_leaves t) y → v (copy i y.sym y.code) ≡ value_of u y.sym
    told_by t e y o = told-replace (λ s c. v (copy i s c)) (λ s c. value_of u s) leaf_tree leaf_tree t e y o

    told_standing : (y : TypedVariable) → StandsIn u.assertion y → v (copy i y.sym y.code) ≡ value_of u y.sym
    told_standing y (inl o) =
        told_by u.assertion.tree (h.conclusion ∙ formula_is i n.step.tree (get_map (λ (x : WrittenStep). x.tree) es i n.step n.at) n.is.closed ∙ sym n.is.fits.conclusion) y o
    told_standing y (inr o) = told_by o.1 (hyp_told n.choice.places u.assertion.hyps n.is.before n.is.fits.hyps h.places o.0 o.1 o.2) y o.3

    pub told_value : (y : TypedVariable) → Contains u.assertion.vars y → v (copy i y.sym y.code) ≡ value_of u y.sym
    told_value y m = told_standing y (is.all_stand y m)

  -- ---- the whole

  module _ (whole : (l : Label) (a : Assertion) → db.usable l ≡ Some a → IsWhole a)
      (typed : (k : ℕ) (t : Tree) → slice_get (trees es) k ≡ Some t → IsTyped db.rows w.bound.place t)
      (the : IsTheValuation db one first_asked g) where
    new_whole : (i : ℕ) (u : Use) → Added i u → IsWhole u.assertion
    new_whole i u n = whole n.choice.label u.assertion n.is.fits.is_usable

    new_closed : (i : ℕ) (u : Use) (y : TypedVariable) → Added i u → Contains u.assertion.vars y → IsClosedTree (value_of u y.sym)
    new_closed i u y n m = value_closed db w.bound.place options.dv w.bound.pairs es i n.step n.choice u n.is (new_whole i u n) y m

    pub all_solve : AllByRecursion (Solves more G) all_asked
    all_solve = solves_more db options w fs A ps th g G values_extend first_asked all_asked each_asked the.most_general.solves

    pub is_valuation : IsValuation db w.bound.place (IsUnknown more all_asked) G
    is_valuation = valuation_more db options w fs A ps th g G values_extend first_asked all_asked each_asked whole typed the.most_general.is_valuation

    module _ (v : Valuation) (V : IsValuation db w.bound.place (IsUnknown more all_asked) v) (S : AllByRecursion (Solves more v) all_asked) where
      first_valuation : IsValuation db w.bound.place (IsUnknown one first_asked) v
      first_valuation = record { code = λ u on. V.code u (forth u on); typed = λ u on. V.typed u (forth u on) }

      first_solved : AllByRecursion (Solves one v) first_asked
      first_solved = all_from (Solves one v) first_asked
          (λ x m. solves_same db options w fs es (sym A.same) ps (written_pairs db options w) th (written_theorem db options w) v x
          (all_of (Solves more v) all_asked x S (asked_kept x m)))

      I : IsInstance (IsUnknown one first_asked) g v
      I = the.most_general.general v first_valuation first_solved

      new_same : (x : Asked) (y : TypedVariable) (n : IsNewAsked db options w fs A x) → Contains all_asked x → Contains x.assertion.vars y
          → v (copy x.step y.sym y.code) ≡ refine I.by (G (copy x.step y.sym y.code))
      new_same x y n m o =
          subst (λ (q : Asked). Contains all_asked q → Contains q.assertion.vars y → v (copy q.step y.sym y.code) ≡ refine I.by (G (copy q.step y.sym y.code))) (sym n.is)
          (λ p r.
          let value = values_extend.new n.number n.use_ y.sym y.code n.new in
          told_value v n.number n.use_ n.new (new_whole n.number n.use_ n.new) (all_of (Solves more v) all_asked _ S p) y r
          ∙ sym (stays_closed db options w fs A ps th I.by (value_of n.use_ y.sym) (new_closed n.number n.use_ y n.new r))
          ∙ ap (refine I.by) (sym value))
          m o

      same : (u : Unknown) → IsUnknown more all_asked u → v u ≡ refine I.by (G u)
      same (named c n) on = I.same (named c n) (named_back c n on)
      same (blank k) on = I.same (blank k) (blank_back k on)
      same (copy i s c) (in_frame x y m o) = elim (each_asked x m) [
        | inl k ↦ I.same (copy x.step y.sym y.code) (in_frame x y k.0 o) ∙ ap (refine I.by) (sym (values_extend.old x.step y.sym y.code k.1))
        | inr n ↦ new_same x y n m o
      ]

      instance_of : IsInstance (IsUnknown more all_asked) G v
      instance_of = record { by = I.by; same = same }

    -- ---- canonical

    old_value : (u : Unknown) → IsUnknown one first_asked u → G u ≡ g u
    old_value (named c n) on = refl
    old_value (blank k) on = refl
    old_value (copy i s c) (in_frame x y m o) = values_extend.old x.step y.sym y.code (asked_old x m)

    least : (x : Open) → IsLeastNamed (IsUnknown one first_asked) g x → IsLeastNamed (IsUnknown more all_asked) G x
    least (work c m) k = (forth (named c m) k.0, k.1, λ n on e. k.2 n (named_back c n on) e)
    least (fresh c m) k = λ n on e. k n (named_back c n on) e

    leaf_kept : (x : Open) → IsNamedLeaf (IsUnknown one first_asked) g x → IsNamedLeaf (IsUnknown more all_asked) G x
    leaf_kept x k = record { holder = k.holder; is_unknown = forth k.holder k.is_unknown; holds = old_value k.holder k.is_unknown ∙ k.holds; named_least = least x k.named_least }

    leaf_old : (u : Unknown) (x : Open) → IsUnknown one first_asked u → Occurs x (G u) → IsNamedLeaf (IsUnknown more all_asked) G x
    leaf_old u x on o = leaf_kept x (the.canonical u x on (subst (Occurs x) (old_value u on) o))

    new_none : (q : Asked) (y : TypedVariable) (n : IsNewAsked db options w fs A q) (x : Open) → Contains q.assertion.vars y → Occurs x (G (copy q.step y.sym y.code)) → ⊥
    new_none q y n x m o =
        subst (λ (z : Asked). Contains z.assertion.vars y → Occurs x (G (copy z.step y.sym y.code)) → ⊥) (sym n.is)
        (λ r p. new_closed n.number n.use_ y n.new r x (subst (Occurs x) (values_extend.new n.number n.use_ y.sym y.code n.new) p)) m o

    canonical : (u : Unknown) (x : Open) → IsUnknown more all_asked u → Occurs x (G u) → IsNamedLeaf (IsUnknown more all_asked) G x
    canonical (named c n) x on o = leaf_old (named c n) x (named_back c n on) o
    canonical (blank k) x on o = leaf_old (blank k) x (blank_back k on) o
    canonical (copy i s c) x (in_frame q y m r) o = elim (each_asked q m) [
      | inl k ↦ leaf_old (copy q.step y.sym y.code) x (in_frame q y k.0 r) o
      | inr n ↦ absurd (new_none q y n x r o)
    ]

    pub the_more : IsTheValuation db more all_asked G
    the_more = record { most_general = record { is_valuation = is_valuation; solves = all_solve; general = instance_of }; canonical = canonical }
