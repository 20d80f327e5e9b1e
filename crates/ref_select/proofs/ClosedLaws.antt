-- What is asked of a step is what the definitions ask, and what is wanted for it is what they want.
use Rattle.std.specs.Prelude.{◌≡◌, Bool, true, false, not, ◌&&◌, List, [], ◌∷◌, map, filter_map, Option, Some, None, refl}
use Rattle.std.specs.List.{list_all}
use Rattle.std.specs.Option.{option_map_or}
use Rattle.std.proofs.Common.{sym, ap, ◌∙◌}
use mathlib.Core.Path.{fun_ext}
use Rattle.mm_base.specs.declared.tree.Tree.{Tree}
use Rattle.ref_search.specs.Matching.{AreGround}
use Rattle.ref_search.specs.Placing.{IsClosed}
use Rattle.ref_search.specs.Wholes.{IsWantedBy}
use Rattle.select_model.specs.Selected.{is_closed}
use Rattle.sheet_text.specs.declared.sheet.Given.{Given}
use Rattle.sheet_text.specs.declared.sheet.Given.TheVariants as given
use Rattle.sheet_text.specs.declared.sheet.SheetStep.{SheetStep}
use Rattle.written_model.specs.Found.{is_ground}
use Rattle.written_model.specs.WrittenSteps.{WrittenStep, place_tree, trees}
use Rattle.ref_select.specs.Asked.{tree_at, is_closed_by, wanted_by}
use Rattle.ref_select.specs.Selecting.{IsWrittenAs}

abbrev is_there : (Given → Option Tree) → Given → Bool
is_there f g = option_map_or is_ground (f g) false

abbrev closed_with : Bool → Tree → (Given → Option Tree) → List Given → Bool
closed_with hyp t f gs = not hyp && is_ground t && list_all (is_there f) gs

-- ---- the trees that places name

pub record HasTrees (f : Given → Option Tree) (gs : List Given) : Type 0 where
  pub ground : AreGround (filter_map f gs)
  pub each : map f gs ≡ map (λ t. Some t) (filter_map f gs)

and_left : (a b : Bool) → (a && b) ≡ true → a ≡ true
and_left true b h = refl
and_left false b h = absurd (cc)

and_right : (a b : Bool) → (a && b) ≡ true → b ≡ true
and_right true b h = h
and_right false b h = absurd (cc)

module _ (f : Given → Option Tree) where
  one_place : (g : Given) (gs : List Given) (o : Option Tree) → f g ≡ o → option_map_or is_ground o false ≡ true → HasTrees f gs → HasTrees f (g ∷ gs)
  one_place g gs None e h r = absurd (cc)
  one_place g gs (Some t) e h r = record { ground = rw e (h, r.ground); each = rw e (ap (λ os. Some t ∷ os) r.each) }

  places_there : (gs : List Given) → list_all (is_there f) gs ≡ true → HasTrees f gs
  places_there [] h = record { ground = tt; each = refl }
  places_there (g ∷ gs) h = one_place g gs (f g) refl (and_left (is_there f g) (list_all (is_there f) gs) h) (places_there gs (and_right (is_there f g) (list_all (is_there f) gs) h))

-- ---- a step and its tree

module _ (ts : List Tree) (s : SheetStep) (t : Tree) (closed : is_closed_by ts s t ≡ true) where
  its_places : HasTrees (tree_at ts) s.places
  its_places = places_there (tree_at ts) s.places (and_right (not s.hyp && is_ground t) (list_all (is_there (tree_at ts)) s.places) closed)

  pub wanted_closed : IsClosed (wanted_by ts s t)
  wanted_closed = record {
    formula = and_right (not s.hyp) (is_ground t) (and_left (not s.hyp && is_ground t) (list_all (is_there (tree_at ts)) s.places) closed);
    hyps = its_places.ground;
  }

module _ (es : List WrittenStep) (e : WrittenStep) (ts : List Tree) (s : SheetStep) (t : Tree) (trees_are : ts ≡ trees es) (written : IsWrittenAs s e) (tree_is : t ≡ e.tree) where
  places_same : tree_at ts ≡ place_tree es
  places_same = ap tree_at trees_are ∙ fun_ext same
    where
      same : (g : Given) → tree_at (trees es) g ≡ place_tree es g
      same given.Gap = refl
      same (given.Step k) = refl

  pub closed_same : is_closed_by ts s t ≡ is_closed es e
  closed_same =
      ap (λ b. closed_with b t (tree_at ts) s.places) written.hyp ∙ ap (λ u. closed_with e.hyp u (tree_at ts) s.places) tree_is
      ∙ ap (λ f. closed_with e.hyp e.tree f s.places) places_same ∙ ap (closed_with e.hyp e.tree (place_tree es)) written.places

  pub wanted_is : is_closed_by ts s t ≡ true → IsWantedBy es e (wanted_by ts s t)
  wanted_is closed = record {
    formula = sym tree_is;
    hyps = ap (map (place_tree es)) (sym written.places) ∙ ap (λ f. map f s.places) (sym places_same) ∙ (its_places ts s t closed).each;
  }
