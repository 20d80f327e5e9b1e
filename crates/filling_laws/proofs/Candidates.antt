-- The accepted steps of a chain are candidates.
use Rattle.std.specs.Prelude.{◌≡◌, ◌<◌, ℕ, Bool, true, false, List, [], ◌∷◌, length, take, if◌then◌else◌, slice_get, Contains, Some, refl}
use Rattle.std.specs.List.{AllByRecursion}
use Rattle.std.proofs.Common.{sym, subst, arith}
use Rattle.std.proofs.lemmas.Bool.{ltb-true}
use Rattle.mm_model.specs.BookFacts.{IsDatabase}
use Rattle.mm_model.specs.Book.{Database, Assertion, position_of}
use Rattle.model_laws.specs.DatabaseLaws.{HasDatabaseFacts}
use Rattle.sheet_text.specs.declared.sheet.Given.{Given}
use Rattle.solve_model.specs.declared.bound.Bound.{Bound}
use Rattle.solve_model.specs.declared.bound.BoundStep.{BoundStep}
use Rattle.solve_model.specs.Firsts.{orders}
use Rattle.solve_model.specs.Bound.{Standing, settled, candidate, standing}
use Rattle.solve_model.specs.Solutions.{Asked, is_free, orders_of}
use Rattle.solve_model.specs.Verdicts.{Judgement, accepted, stands, asked, asked_of, accepted_in, FitsIn, AreJudged}
use Rattle.solve_laws.proofs.Elements.{only}
use Rattle.written_model.specs.Existence.{IsPlaceIn, IsCandidate}
use Rattle.again_laws.proofs.Lists.{all_at, all_from, all_of, contains_get, from_filter_map, get_below, get_within, some_same}
use Rattle.again_laws.proofs.Orders.{first_stands, order_within}
use Rattle.again_laws.proofs.Candidates.{candidate_from, Told, told}
use Rattle.step_chain.specs.Steps.{IsPlaced, ArePlaced}
use Rattle.step_chain.specs.Held.{judgements_of}
use Rattle.filling_laws.specs.Counted.{AcceptedAreCandidates}

order_places : (n : ℕ) (b : Bool) (gs hs : List Given) → AllByRecursion (IsPlaceIn n) gs → Contains (if b then orders (length gs) gs else gs ∷ []) hs → AllByRecursion (IsPlaceIn n) hs
order_places n true gs hs h o = all_from (IsPlaceIn n) hs (λ g m. all_of (IsPlaceIn n) gs g h (order_within (length gs) gs hs o g m))
order_places n false gs hs h o = subst (AllByRecursion (IsPlaceIn n)) (only hs gs o) h

module _ (db : Database) (facts : IsDatabase db) (bound : Bound) (placed : ArePlaced bound) where
  asked_is : (i : ℕ) (s : BoundStep) (a : Assertion) (gs : List Given) → slice_get bound.steps i ≡ Some s → standing db bound.place s ≡ candidate a → Contains (orders_of s a) gs
      → IsCandidate db bound (asked i a gs)
  asked_is i s a gs at e o =
      let c = candidate_from db bound.place s a e in
      let label = (facts.usable c.label a c.usable).label in
      let own = all_at (IsPlaced (length bound.steps)) bound.steps i s placed at in
      record {
        step = get_within bound.steps i s at;
        places = order_places (length bound.steps) (is_free s a) s.places gs own.places o;
        usable = subst (λ l. db.usable l ≡ Some a) (sym label) c.usable;
        before = subst (λ l. position_of db l < bound.place) (sym label) (ltb-true (position_of db c.label) bound.place c.earlier);
      }

  -- what is accepted of a step
  by_standing : (before : List Asked) (i : ℕ) (s : BoundStep) → slice_get bound.steps i ≡ Some s → (st : Standing) → standing db bound.place s ≡ st
      → (o : Judgement) (x : Asked) → Told db bound before i s st o → asked_of o ≡ Some x → IsCandidate db bound x
  by_standing before i s at st e (stands v) x t is = absurd (cc)
  by_standing before i s at (settled v) e (accepted y) x t is = absurd t
  by_standing before i s at (candidate a) e (accepted y) x t is =
      let order = first_stands (FitsIn db bound before i a) (orders_of s a) y.places t.1 in
      subst (IsCandidate db bound) (some_same y x is) (subst (IsCandidate db bound) (sym t.0) (asked_is i s a y.places at e order.0))

  pub accepted_is : (js : List Judgement) → AreJudged db bound js → (x : Asked) → Contains (accepted_in js) x → IsCandidate db bound x
  accepted_is js judged x m =
      let from = from_filter_map asked_of js x m in
      let at = contains_get js from.0 from.1 in
      let within = get_within js at.0 from.0 at.1 in
      let count = judged.count in
      let step = get_below bound.steps at.0 (omega (arith, within, count)) in
      by_standing (accepted_in (take at.0 js)) at.0 step.0 step.1 (standing db bound.place step.0) refl from.0 x
      (told db bound (accepted_in (take at.0 js)) at.0 step.0 (standing db bound.place step.0) from.0 (judged.each at.0 step.0 from.0 step.1 at.1)) from.2

pub accepted_are : HasDatabaseFacts → AcceptedAreCandidates
accepted_are has h kinds text sheet opened binds logic chain =
    all_from _ (accepted_in (judgements_of h)) (λ x m. accepted_is _ (has kinds text _ opened.database opened.no_fault) h.bound chain.placed (judgements_of h) chain.judged x m)
