-- Whether places name steps, by tests.
use Rattle.std.specs.Prelude.{◌≡◌, ◌↔◌, ℕ, ◌^◌, Bool, true, nat_lt, List, [], ◌∷◌, length, IsTrue, refl}
use Rattle.std.specs.List.{AllByRecursion, list_all}
use Rattle.std.proofs.Common.{sym, ◌∙◌, arith}
use Rattle.std.proofs.lemmas.Bool.{and_parts, and_from}
use Rattle.std.proofs.lemmas.Bool.Decides.{nat_tests}
use Rattle.sheet_text.specs.declared.sheet.Given.{Given}
use Rattle.sheet_text.specs.declared.sheet.Given.TheVariants as given
use Rattle.solve_model.specs.declared.bound.BoundStep.{BoundStep}
use Rattle.solve_model.specs.declared.bound.Bound.{Bound}
use Rattle.written_model.specs.Existence.{IsPlaceIn}
use Rattle.step_chain.specs.Steps.{IsPlaced, ArePlaced, place_in, step_placed}

all_from : {X : Type 0} (p : X → Bool) (P : X → Type 0) → ((x : X) → p x ≡ true → P x) → (xs : List X) → list_all p xs ≡ true → AllByRecursion P xs
all_from p P f [] h = tt
all_from p P f (x ∷ xs) h = let parts = and_parts (p x) (list_all p xs) h in (f x parts.0, all_from p P f xs parts.1)

all_to : {X : Type 0} (p : X → Bool) (P : X → Type 0) → ((x : X) → P x → p x ≡ true) → (xs : List X) → AllByRecursion P xs → list_all p xs ≡ true
all_to p P f [] h = refl
all_to p P f (x ∷ xs) h = and_from (p x) (list_all p xs) (f x h.0) (all_to p P f xs h.1)

module _ (n : ℕ) where
  place_from : (g : Given) → place_in n g ≡ true → IsPlaceIn n g
  place_from given.Gap h = tt
  place_from (given.Step k) h = grind (arith, nat_tests, h)

  place_to : (g : Given) → IsPlaceIn n g → place_in n g ≡ true
  place_to given.Gap h = refl
  place_to (given.Step k) h = grind (arith, nat_tests, h)

  step_from : (s : BoundStep) → step_placed n s ≡ true → IsPlaced n s
  step_from s h =
      let parts = and_parts (nat_lt (length s.places) (2 ^ 32)) (list_all (place_in n) s.places) h in
      record { places = all_from (place_in n) (IsPlaceIn n) place_from s.places parts.1; few = grind (arith, nat_tests, parts.0) }

  step_to : (s : BoundStep) → IsPlaced n s → step_placed n s ≡ true
  step_to s h =
      let few = h.few in
      let short : nat_lt (length s.places) (2 ^ 32) ≡ true = grind (arith, nat_tests, few) in
      and_from (nat_lt (length s.places) (2 ^ 32)) (list_all (place_in n) s.places) short (all_to (place_in n) (IsPlaceIn n) place_to s.places h.places)

pub placed_is : (bound : Bound) (b : Bool) → b ≡ list_all (step_placed (length bound.steps)) bound.steps → IsTrue b ↔ ArePlaced bound
placed_is bound b e = (
  λ h. all_from (step_placed (length bound.steps)) (IsPlaced (length bound.steps)) (step_from (length bound.steps)) bound.steps (sym e ∙ h),
  λ h. e ∙ all_to (step_placed (length bound.steps)) (IsPlaced (length bound.steps)) (step_to (length bound.steps)) bound.steps h,
)
