-- A solution of what was accepted, with the values of the added uses, solves these too.
use Rattle.std.specs.Prelude.{◌≡◌, ◌⊎◌, ℕ, List, [], ◌∷◌, Contains, slice_get, slice_index_or, Option, Some, None, refl}
use Rattle.std.specs.List.{AllByRecursion, AllZip}
use Rattle.std.proofs.Common.{sym, ap, subst, ◌∙◌, inl, inr}
use Rattle.mm_base.specs.declared.symbols.Label.{Label}
use Rattle.mm_base.specs.declared.symbols.Pair.{Pair}
use Rattle.mm_base.specs.declared.symbols.Sym.{Sym}
use Rattle.mm_base.specs.declared.symbols.Typecode.{Typecode}
use Rattle.mm_base.specs.declared.tree.Tree.{Tree}
use Rattle.mm_base.specs.declared.tree.Tree.TheVariants.{Var}
use Rattle.mm_base.specs.Trees.{code_of}
use Rattle.mm_model.specs.Productions.{TypedVariable}
use Rattle.mm_model.specs.Typed.{IsTyped}
use Rattle.mm_model.specs.Book.{Database, Assertion}
use Rattle.proof_model.specs.declared.theorem.Theorem.{Theorem}
use Rattle.sheet_text.specs.declared.sheet.Given.{Given}
use Rattle.sheet_text.specs.declared.sheet.Given.TheVariants as given
use Rattle.solve_model.specs.declared.bound.Bound.{Bound}
use Rattle.solve_model.specs.declared.bound.BoundStep.{BoundStep}
use Rattle.solve_model.specs.Trees.{Open, work, fresh, leaf_tree, replace}
use Rattle.solve_model.specs.Solutions.{Unknown, named, blank, copy, Valuation, Asked, IsUnknown, in_formula, is_blank, in_frame, IsValuation, PlacesFit, Solves}
use Rattle.solve_model.specs.Solutions.{formula, formula_value, instance, open_value, unknown_code, no_step}
use Rattle.solve_model.specs.Verdicts.{asked}
use Rattle.solve_laws.specs.Instances.{IsClosedTree}
use Rattle.solve_laws.proofs.Elements.{nothing}
use Rattle.solve_laws.proofs.ReplaceLaws.{replace-agree, replace-self}
use Rattle.written_model.specs.declared.options.Options.{Options}
use Rattle.written_model.specs.WrittenSteps.{Use, WrittenStep, steps_in, trees, place_tree, value_of}
use Rattle.written_model.specs.Found.{valued}
use Rattle.written_model.specs.Written.{Writing, bound_step, written_bound, written_pairs, written_theorem}
use Rattle.again_laws.specs.Whole.{IsWhole}
use Rattle.again_laws.proofs.Lists.{get_map, get_mapped, all_from, all_of, index_from_get}
use Rattle.auto_laws.proofs.Added.{AreGroundBefore, AreAdded, value_code, value_typed}
use Rattle.auto_laws.proofs.AcceptedMore.{New, NotNew, IsNewAsked}
use Rattle.auto_laws.proofs.SameFormulas.{with_steps, formula_same, unknown_same}

module _ (db : Database) (options : Options) (w : Writing) (fs : List WrittenStep) (A : AreAdded db w.bound.place options.dv w.bound.pairs (steps_in w.items) fs)
    (ps : List Pair) (th : Theorem) where
  abbrev es : List WrittenStep
  es = steps_in w.items

  abbrev one : Bound
  one = written_bound db options w

  abbrev pub other : Bound
  other = with_steps db options w fs ps th

  abbrev Added : ℕ → Use → Type 0
  Added i u = New db options w fs A i u

  abbrev Old : ℕ → Type 0
  Old i = NotNew db options w fs A i

  abbrev NewAsked : Asked → Type 0
  NewAsked x = IsNewAsked db options w fs A x

  -- what was accepted is solved as before, and the variables of an added use have their values
  pub record Extends (v z : Valuation) : Type 0 where
    pub names : (c : Typecode) (n : ℕ) → z (named c n) ≡ v (named c n)
    pub blanks : (i : ℕ) → z (blank i) ≡ v (blank i)
    pub old : (i : ℕ) (s : Sym) (c : Typecode) → Old i → z (copy i s c) ≡ v (copy i s c)
    pub new : (i : ℕ) (u : Use) (s : Sym) (c : Typecode) → Added i u → z (copy i s c) ≡ value_of u s

  pub formulas_same : (v : Valuation) (k : ℕ) → formula one v k ≡ formula other v k
  formulas_same v k = formula_same db options w es fs A.same (written_pairs db options w) ps (written_theorem db options w) th v k

  pub stays_closed : (q : Open → Tree) (t : Tree) → IsClosedTree t → replace (λ s c. Var s c) q t ≡ t
  stays_closed q t closed = replace-agree (λ s c. Var s c) (λ s c. Var s c) q leaf_tree (λ s c. refl) t (λ x o. absurd (closed x o)) ∙ replace-self t

  -- a tree without open leaves is its step's formula under any valuation
  pub closed_formula : (v : Valuation) (k : ℕ) (t : Tree) → slice_get (trees es) k ≡ Some t → IsClosedTree t → formula one v k ≡ t
  closed_formula v k t at closed =
      let e = get_mapped (λ (x : WrittenStep). x.tree) es k t at in
      let tree : (slice_index_or one.steps k no_step).tree ≡ Some t =
      ap (λ (b : BoundStep). b.tree) (index_from_get one.steps k (bound_step db options w e.0) no_step (get_map (bound_step db options w) es k e.0 e.1))
      ∙ ap (λ x. Some x) e.2 in
      ap (formula_value v k) tree ∙ stays_closed (open_value v) t closed

  module _ (v z : Valuation) (X : Extends v z) where
    open_same : (x : Open) → open_value z x ≡ open_value v x
    open_same (work c n) = X.names c n
    open_same (fresh c n) = refl

    value_same : (k : ℕ) (o : Option Tree) → formula_value z k o ≡ formula_value v k o
    value_same k None = X.blanks k
    value_same k (Some t) = replace-agree (λ s c. Var s c) (λ s c. Var s c) (open_value z) (open_value v) (λ s c. refl) t (λ x o. open_same x)

    formula_kept : (k : ℕ) → formula one v k ≡ formula other z k
    formula_kept k = sym (value_same k (slice_index_or one.steps k no_step).tree) ∙ formulas_same z k

    old_instance : (i : ℕ) → Old i → (t : Tree) → instance z i t ≡ instance v i t
    old_instance i h t = replace-agree (λ s c. z (copy i s c)) (λ s c. v (copy i s c)) leaf_tree leaf_tree (λ s c. X.old i s c h) t (λ x o. refl)

    new_instance : (i : ℕ) (u : Use) → Added i u → (t : Tree) → instance z i t ≡ valued u t
    new_instance i u h t = replace-agree (λ s c. z (copy i s c)) (λ s c. value_of u s) leaf_tree leaf_tree (λ s c. X.new i u s c h) t (λ x o. refl)

    -- ---- what was accepted

    old_places : (i : ℕ) → Old i → (gs : List Given) (hs : List Tree) → PlacesFit one v i gs hs → PlacesFit other z i gs hs
    old_places i h [] hs k = k
    old_places i h (g ∷ gs) [] k = k
    old_places i h (given.Gap ∷ gs) (t ∷ hs) k = old_places i h gs hs k
    old_places i h (given.Step n ∷ gs) (t ∷ hs) k = (old_instance i h t ∙ k.0 ∙ formula_kept n, old_places i h gs hs k.1)

    old_solves : (x : Asked) → Old x.step → Solves one v x → Solves other z x
    old_solves x h k = record {
      conclusion = old_instance x.step h x.assertion.tree ∙ k.conclusion ∙ formula_kept x.step;
      places = old_places x.step h x.places x.assertion.hyps k.places;
    }

    -- ---- an added use

    module _ (i : ℕ) (u : Use) (n : Added i u) where
      new_places : (gs : List Given) (hs : List Tree) → AreGroundBefore db w.bound.place options.dv w.bound.pairs es i gs
          → AllZip (λ (h : Tree) (g : Given). place_tree es g ≡ Some (valued u h)) hs gs → PlacesFit other z i gs hs
      new_places [] [] b k = tt
      new_places [] (t ∷ hs) b k = absurd k
      new_places (g ∷ gs) [] b k = absurd k
      new_places (given.Gap ∷ gs) (t ∷ hs) b k = absurd b
      new_places (given.Step m ∷ gs) (t ∷ hs) b k = (
        new_instance i u n t ∙ sym (closed_formula z m (valued u t) k.0 (b.1 (valued u t) k.0)) ∙ formulas_same z m,
        new_places gs hs b.2 k.1,
      )

      new_solves : Solves other z (asked i u.assertion n.choice.places)
      new_solves = record {
        conclusion = new_instance i u n u.assertion.tree ∙ n.is.fits.conclusion
            ∙ sym (closed_formula z i n.step.tree (get_map (λ (x : WrittenStep). x.tree) es i n.step n.at) n.is.closed) ∙ formulas_same z i;
        places = new_places n.choice.places u.assertion.hyps n.is.before n.is.fits.hyps;
      }

    -- ---- all of them

    module _ (some more : List Asked) (each : (x : Asked) → Contains more x → (Contains some x × Old x.step) ⊎ NewAsked x) where
      pub solves_more : AllByRecursion (Solves one v) some → AllByRecursion (Solves other z) more
      solves_more h = all_from (Solves other z) more (λ x m. elim (each x m) [
        | inl o ↦ old_solves x o.1 (all_of (Solves one v) some x h o.0)
        | inr n ↦ subst (Solves other z) (sym n.is) (new_solves n.number n.use_ n.new)
      ])

      module _ (whole : (l : Label) (a : Assertion) → db.usable l ≡ Some a → IsWhole a)
          (typed : (k : ℕ) (t : Tree) → slice_get (trees es) k ≡ Some t → IsTyped db.rows w.bound.place t)
          (V : IsValuation db w.bound.place (IsUnknown one some) v) where
        abbrev HasType : Unknown → Type 0
        HasType u = (code_of (z u) ≡ unknown_code db u) × IsTyped db.rows w.bound.place (z u)

        new_type : (i : ℕ) (u : Use) (x : TypedVariable) → Added i u → Contains u.assertion.vars x → HasType (copy i x.sym x.code)
        new_type i u x n o =
            let is = whole n.choice.label u.assertion n.is.fits.is_usable in
            let same = X.new i u x.sym x.code n in (
              ap code_of same ∙ value_code db w.bound.place options.dv w.bound.pairs es i n.step n.choice u n.is is x o,
              subst (IsTyped db.rows w.bound.place) (sym same) (value_typed db w.bound.place options.dv w.bound.pairs es i n.step n.choice u n.is is n.at typed x o),
            )

        new_asked : (x : Asked) (y : TypedVariable) → (n : NewAsked x) → Contains x.assertion.vars y → HasType (copy x.step y.sym y.code)
        new_asked x y n o =
            subst (λ (q : Asked). Contains q.assertion.vars y → HasType (copy q.step y.sym y.code)) (sym n.is) (λ m. new_type n.number n.use_ y n.new m) o

        old_type : (u : Unknown) → z u ≡ v u → IsUnknown one some u → HasType u
        old_type u same on = (ap code_of same ∙ V.code u on, subst (IsTyped db.rows w.bound.place) (sym same) (V.typed u on))

        has_type : (u : Unknown) → IsUnknown other more u → HasType u
        has_type (named c n) (in_formula i s t a k o) =
            old_type (named c n) (X.names c n)
            (unknown_same db options w fs es (sym A.same) ps (written_pairs db options w) th (written_theorem db options w) [] some (λ y m. absurd (nothing y m)) (named c n) (in_formula i s t a k o))
        has_type (blank k) (is_blank s a b) =
            old_type (blank k) (X.blanks k)
            (unknown_same db options w fs es (sym A.same) ps (written_pairs db options w) th (written_theorem db options w) [] some (λ y m. absurd (nothing y m)) (blank k) (is_blank s a b))
        has_type (copy i s c) (in_frame x y m o) = elim (each x m) [
          | inl k ↦ old_type (copy x.step y.sym y.code) (X.old x.step y.sym y.code k.1) (in_frame x y k.0 o)
          | inr n ↦ new_asked x y n o
        ]

        pub valuation_more : IsValuation db w.bound.place (IsUnknown other more) z
        valuation_more = record { code = λ u on. (has_type u on).0; typed = λ u on. (has_type u on).1 }
