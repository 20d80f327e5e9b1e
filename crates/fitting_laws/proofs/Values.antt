-- The values of the steps that fit are those of their substitutions, whatever solves them.
use Rattle.std.specs.Prelude.{◌≡◌, ◌+◌, ℕ, zero, suc, List, [], ◌∷◌, map, take, Contains, slice_get, Some, None, refl}
use Rattle.std.specs.List.{AllByRecursion, AllZip}
use Rattle.std.proofs.Common.{sym, ap, subst, ◌∙◌, arith, inl, inr}
use Rattle.mm_base.specs.declared.symbols.Pair.{Pair}
use Rattle.mm_base.specs.declared.tree.Tree.{Tree}
use Rattle.mm_model.specs.Productions.{TypedVariable}
use Rattle.mm_model.specs.Book.{Database}
use Rattle.sheet_text.specs.declared.sheet.Given.{Given}
use Rattle.sheet_text.specs.declared.sheet.Given.TheVariants as given
use Rattle.sheet_text.specs.declared.sheet.SheetStep.{SheetStep}
use Rattle.solve_model.specs.declared.bound.Bound.{Bound}
use Rattle.solve_model.specs.Trees.{leaf_tree}
use Rattle.solve_model.specs.Solutions.{copy, Valuation, Asked, PlacesFit, Solves, formula, instance}
use Rattle.solve_model.specs.Verdicts.{accepted, asked, asked_of, accepted_in}
use Rattle.solve_laws.proofs.Elements.{first, later}
use Rattle.written_model.specs.Filled.{use_of}
use Rattle.written_model.specs.Found.{valued}
use Rattle.written_model.specs.WrittenSteps.{Use, WrittenStep, value_of}
use Rattle.written_model.specs.Again.{judgement_by, judgements_from}
use Rattle.again_laws.specs.Leaves.{typed_leaves}
use Rattle.again_laws.specs.Whole.{StandsIn}
use Rattle.again_laws.proofs.LeafLaws.{told-replace}
use Rattle.again_laws.proofs.Lists.{into_filter_map, get_contains, all_of, some_same}
use Rattle.again_laws.proofs.ValuesStay.{judgement_here}
use Rattle.fitting_laws.specs.FitsAsWritten.{earlier_tree}
use Rattle.fitting_laws.proofs.Scenes.{Scene, IsUsed, used, taken, formula_stays, conclusion, hyps, use_whole, values_listed}

maps_same : {X Y : Type 0} (f g : X → Y) (xs : List X) → ((x : X) → Contains xs x → f x ≡ g x) → map f xs ≡ map g xs
maps_same f g [] h = refl
maps_same f g (x ∷ xs) h = ap (λ y. y ∷ map f xs) (h x (first x x xs refl)) ∙ ap (λ ys. g x ∷ ys) (maps_same f g xs (λ y o. h y (later y x xs o)))

module _ (db : Database) (bound : Bound) (pairs : List Pair) (ss : List SheetStep) (ts : List Tree) (es : List WrittenStep) (S : Scene db bound pairs ss ts es)
    (g : Valuation) (solved : AllByRecursion (Solves bound g) (accepted_in (judgements_from 0 es))) where
  module _ (i : ℕ) (e : WrittenStep) (u : Use) (at : slice_get es i ≡ Some e) (by : e.by ≡ Some u) where
    abbrev U : IsUsed db bound pairs ss ts es S i e u
    U = used db bound pairs ss ts es S i e u at by

    abbrev x : Asked
    x = asked i u.assertion e.places

    is_asked : Contains (accepted_in (judgements_from 0 es)) x
    is_asked =
        let place : 0 + i ≡ i = omega arith in
        let there : slice_get (judgements_from 0 es) i ≡ Some (accepted x) =
        judgement_here 0 es i e at ∙ ap (λ n. Some (judgement_by n e e.by)) place ∙ ap (λ o. Some (judgement_by i e o)) by in
        into_filter_map asked_of (judgements_from 0 es) (accepted x) x (get_contains (judgements_from 0 es) i (accepted x) there) refl

    solves : Solves bound g x
    solves = all_of (Solves bound g) (accepted_in (judgements_from 0 es)) x solved is_asked

    formula_is : (k : ℕ) (t : Tree) → slice_get ts k ≡ Some t → formula bound g k ≡ t
    formula_is k t t_at = let b = S.tree_bound k t t_at in formula_stays db bound pairs ss ts es S g k t t_at b.0 b.1

    abbrev Agrees : TypedVariable → Type 0
    Agrees v = g (copy i v.sym v.code) ≡ value_of u v.sym

    same_values : (t : Tree) → instance g i t ≡ valued u t → (v : TypedVariable) → Contains (typed_leaves t) v → Agrees v
    same_values t e' v m = told-replace (λ s c. g (copy i s c)) (λ s c. value_of u s) leaf_tree leaf_tree t e' v m

    places_same : (gs : List Given) (hs : List Tree) → PlacesFit bound g i gs hs → AllZip (λ (h : Tree) (p : Given). earlier_tree (take i ts) p ≡ Some (valued u h)) hs gs
        → (j : ℕ) (h : Tree) → slice_get hs j ≡ Some h → instance g i h ≡ valued u h
    places_same gs [] f z j h q = absurd (none j q)
      where
        none : (k : ℕ) → slice_get [] k ≡ Some h → ⊥
        none k r = cc
    places_same [] (y ∷ hs) f z j h q = absurd z
    places_same (given.Gap ∷ gs) (y ∷ hs) f z j h q = absurd (none z.0)
      where
        none : None ≡ Some (valued u y) → ⊥
        none r = cc
    places_same (given.Step k ∷ gs) (y ∷ hs) f z zero h q =
        let here : instance g i y ≡ valued u y = f.0 ∙ formula_is k (valued u y) (taken i k ts (valued u y) z.0).0 in
        subst (λ w. instance g i w ≡ valued u w) (some_same y h q) here
    places_same (given.Step k ∷ gs) (y ∷ hs) f z (suc j) h q = places_same gs hs f.1 z.1 j h q

    source_places : e.places ≡ U.source.places
    source_places = ap (λ (y : WrittenStep). y.places) U.is

    agrees : (v : TypedVariable) → StandsIn u.assertion v → Agrees v
    agrees v (inl o) = same_values u.assertion.tree (solves.conclusion ∙ formula_is i U.tree U.tree_at ∙ sym (conclusion db bound pairs ss ts es S i e u U)) v o
    agrees v (inr o) =
        same_values o.1
        (places_same U.source.places u.assertion.hyps (subst (λ gs. PlacesFit bound g i gs u.assertion.hyps) source_places solves.places)
        (hyps db bound pairs ss ts es S i e u U) o.0 o.1 o.2) v o.3

    pub use_is : use_of g x ≡ u
    use_is =
        let whole = use_whole db bound pairs ss ts es S i e u U in
        let one : map (λ (v : TypedVariable). g (copy i v.sym v.code)) u.assertion.vars ≡ map (λ (v : TypedVariable). value_of u v.sym) u.assertion.vars =
        maps_same (λ (v : TypedVariable). g (copy i v.sym v.code)) (λ (v : TypedVariable). value_of u v.sym) u.assertion.vars (λ v m. agrees v (whole.all_stand v m)) in
        let two = values_listed db bound pairs ss ts es S i e u U in
        ap (λ vs. let y : Use = record { assertion = u.assertion; values = vs } in y) (one ∙ sym two)
