-- Worksheets whose steps have the same trees have the same formulas and the same unknowns.
use Rattle.std.specs.Prelude.{◌≡◌, ℕ, zero, suc, List, [], ◌∷◌, map, Contains, slice_get, slice_index_or, Some, refl}
use Rattle.std.proofs.Common.{sym, ap, ◌∙◌}
use Rattle.mm_base.specs.declared.symbols.Pair.{Pair}
use Rattle.mm_base.specs.declared.tree.Tree.{Tree}
use Rattle.mm_model.specs.Book.{Database}
use Rattle.proof_model.specs.declared.theorem.Theorem.{Theorem}
use Rattle.sheet_text.specs.declared.sheet.Given.{Given}
use Rattle.sheet_text.specs.declared.sheet.Given.TheVariants as given
use Rattle.solve_model.specs.declared.bound.Bound.{Bound}
use Rattle.solve_model.specs.declared.bound.BoundStep.{BoundStep}
use Rattle.solve_model.specs.Solutions.{Unknown, Valuation, IsUnknown, in_formula, is_blank, in_frame, Asked, PlacesFit, Solves, formula, formula_value, no_step}
use Rattle.written_model.specs.declared.options.Options.{Options}
use Rattle.written_model.specs.WrittenSteps.{WrittenStep, trees}
use Rattle.written_model.specs.Written.{Writing, bound_step}
use Rattle.again_laws.proofs.Lists.{get_map, get_mapped}

module _ (db : Database) (options : Options) (w : Writing) where
  -- the bound worksheet with these steps
  abbrev pub with_steps : List WrittenStep → List Pair → Theorem → Bound
  with_steps es ps t = record { place = w.bound.place; existing = w.bound.existing; steps = map (bound_step db options w) es; pairs = ps; theorem = t }

  tree_there : (es fs : List WrittenStep) → trees es ≡ trees fs → (k : ℕ)
      → (slice_index_or (map (bound_step db options w) es) k no_step).tree ≡ (slice_index_or (map (bound_step db options w) fs) k no_step).tree
  tree_there [] [] h k = refl
  tree_there [] (f ∷ fs) h k = absurd (cc)
  tree_there (e ∷ es) [] h k = absurd (cc)
  tree_there (e ∷ es) (f ∷ fs) h zero = let same : e.tree ≡ f.tree = cc in ap Some same
  tree_there (e ∷ es) (f ∷ fs) h (suc k) = let rest : trees es ≡ trees fs = cc in tree_there es fs rest k

  module _ (es fs : List WrittenStep) (same : trees es ≡ trees fs) (ps qs : List Pair) (t r : Theorem) where
    abbrev one : Bound
    one = with_steps es ps t

    abbrev other : Bound
    other = with_steps fs qs r

    pub formula_same : (v : Valuation) (k : ℕ) → formula one v k ≡ formula other v k
    formula_same v k = ap (formula_value v k) (tree_there es fs same k)

    step_there : (k : ℕ) (s : BoundStep) → slice_get one.steps k ≡ Some s → (z : BoundStep) × (slice_get other.steps k ≡ Some z) × (s.tree ≡ z.tree)
    step_there k s at =
        let e = get_mapped (bound_step db options w) es k s at in
        let u = get_mapped (λ (x : WrittenStep). x.tree) fs k e.0.tree (ap (λ xs. slice_get xs k) (sym same) ∙ get_map (λ (x : WrittenStep). x.tree) es k e.0 e.1) in
        (bound_step db options w u.0, get_map (bound_step db options w) fs k u.0 u.1, ap (λ (z : BoundStep). z.tree) (sym e.2) ∙ ap Some (sym u.2))

    pub unknown_same : (some more : List Asked) → ((y : Asked) → Contains some y → Contains more y) → (u : Unknown) → IsUnknown one some u → IsUnknown other more u
    unknown_same some more within u (in_formula i s x e k o) = let z = step_there i s e in in_formula i z.0 x z.1 (sym z.2 ∙ k) o
    unknown_same some more within u (is_blank s {i} e k) = let z = step_there i s e in is_blank z.0 z.1 (sym z.2 ∙ k)
    unknown_same some more within u (in_frame x v o k) = in_frame x v (within x o) k

    places_same : (v : Valuation) (i : ℕ) (gs : List Given) (hs : List Tree) → PlacesFit one v i gs hs → PlacesFit other v i gs hs
    places_same v i [] hs k = k
    places_same v i (g ∷ gs) [] k = k
    places_same v i (given.Gap ∷ gs) (x ∷ xs) k = places_same v i gs xs k
    places_same v i (given.Step n ∷ gs) (x ∷ xs) k = (k.0 ∙ formula_same v n, places_same v i gs xs k.1)

    pub solves_same : (v : Valuation) (x : Asked) → Solves one v x → Solves other v x
    solves_same v x k = record { conclusion = k.conclusion ∙ formula_same v x.step; places = places_same v x.step x.places x.assertion.hyps k.places }
