-- Of what a text says, each place names an earlier step.
use Rattle.std.specs.Prelude.{◌≡◌, ℕ, true, List, [], ◌∷◌, nat_lt}
use Rattle.std.specs.List.{AllByRecursion, list_all}
use Rattle.std.proofs.Common.{sym, subst, ltb-true}
use Rattle.std.proofs.lemmas.Bool.{and_parts}
use Rattle.sheet_text.specs.declared.sheet.Given.{Given}
use Rattle.sheet_text.specs.declared.sheet.Given.TheVariants as given
use Rattle.sheet_text.specs.Layout.{steps}
use Rattle.sheet_text.specs.Spellable.{is_place_below}
use Rattle.solve_model.specs.Binding.{place_of}
use Rattle.solve_model.specs.Bound.{IsBoundStep}
use Rattle.written_model.specs.Existence.{IsPlaceIn}
use Rattle.written_model.specs.ReadBack.{ReadIsSpellable}
use Rattle.again_laws.proofs.Lists.{zip_left}
use Rattle.again_laws.proofs.Setting.{spellable_at, places_below}
use Rattle.filling_laws.specs.Values.{BoundComesBefore}

places_in : (n : ℕ) (gs : List Given) → list_all (is_place_below n) gs ≡ true → AllByRecursion (IsPlaceIn n) gs
places_in n [] h = tt
places_in n (given.Gap ∷ gs) h = (tt, places_in n gs h)
places_in n (given.Step k ∷ gs) h = let both = and_parts (nat_lt k n) (list_all (is_place_below n) gs) h in (ltb-true k n both.0, places_in n gs both.1)

pub bound_comes_before : ReadIsSpellable → BoundComesBefore
bound_comes_before spellable db text s bound reads binds k b at =
    let t = zip_left (IsBoundStep db (place_of db s)) (steps s) bound.steps binds.steps k b at in
    subst (AllByRecursion (IsPlaceIn k)) (sym t.2.places) (places_in k t.0.places (places_below k t.0 (spellable_at k (steps s) t.0 (spellable text s reads).each_step t.1)))
