-- The accepted steps by their numbers, and the steps that their places name.
use Rattle.std.specs.Prelude.{◌≡◌, ℕ, Bool, true, false, List, [], ◌∷◌, length, take, Contains, slice_get, Some, refl}
use Rattle.std.proofs.Common.{sym, ap, subst, ◌∙◌, arith, inl, inr, cond}
use Rattle.std.proofs.lemmas.List.Elements.{Contains-append_cases}
use Rattle.mm_base.specs.declared.tree.Tree.{Tree}
use Rattle.mm_model.specs.Productions.{TypedVariable}
use Rattle.mm_model.specs.Book.{Database, Assertion}
use Rattle.sheet_text.specs.declared.sheet.Given.{Given}
use Rattle.sheet_text.specs.declared.sheet.Given.TheVariants as given
use Rattle.solve_model.specs.declared.bound.BoundStep.{BoundStep}
use Rattle.solve_model.specs.declared.bound.Bound.{Bound}
use Rattle.solve_model.specs.Firsts.{orders}
use Rattle.solve_model.specs.Bound.{Standing, settled, candidate, standing}
use Rattle.solve_model.specs.Solutions.{Valuation, Asked, PlacesFit, formula, instance, is_free, orders_of}
use Rattle.solve_model.specs.Verdicts.{Judgement, accepted, AreJudged, asked_of, accepted_in}
use Rattle.solve_laws.proofs.Elements.{nothing, first, later, only}
use Rattle.again_laws.specs.Leaves.{typed_leaves}
use Rattle.again_laws.specs.Shown.{shown_leaves}
use Rattle.again_laws.proofs.Lists.{get_contains, contains_get, get_below, get_within, from_filter_map, into_filter_map, some_same}
use Rattle.again_laws.proofs.Orders.{first_stands, order_within}
use Rattle.again_laws.proofs.Candidates.{told, Told}
use Rattle.again_laws.proofs.Accepted.{asked_is}

-- ---- what a place asks

-- a `$e` in which a variable stands is the formula of the step that its place names
pub record IsGivenIn (bound : Bound) (g : Valuation) (i : ℕ) (v : TypedVariable) (gs : List Given) : Type 0 where
  pub number : ℕ
  pub hyp : Tree
  pub named : Contains gs (given.Step number)
  pub shows : Contains (typed_leaves hyp) v
  pub solved : instance g i hyp ≡ formula bound g number

module _ (bound : Bound) (g : Valuation) (i : ℕ) (v : TypedVariable) where
  one_more : (x : Given) (gs : List Given) → IsGivenIn bound g i v gs → IsGivenIn bound g i v (x ∷ gs)
  one_more x gs r = record { number = r.number; hyp = r.hyp; named = later (given.Step r.number) x gs r.named; shows = r.shows; solved = r.solved }

  pub given_in : (gs : List Given) (hs : List Tree) → PlacesFit bound g i gs hs → Contains (shown_leaves gs hs) v → IsGivenIn bound g i v gs
  given_in [] hs fit m = absurd (nothing v m)
  given_in (x ∷ gs) [] fit m = absurd fit
  given_in (given.Gap ∷ gs) (h ∷ hs) fit m = one_more given.Gap gs (given_in gs hs fit m)
  given_in (given.Step k ∷ gs) (h ∷ hs) fit m = elim (Contains-append_cases (typed_leaves h) (shown_leaves gs hs) v m) [
    | inl one ↦ record { number = k; hyp = h; named = first (given.Step k) (given.Step k) gs refl; shows = one; solved = fit.0 }
    | inr more ↦ one_more (given.Step k) gs (given_in gs hs fit.1 more)
  ]

-- ---- orders of places

order_by : (b : Bool) (n : ℕ) (xs ys : List Given) (x : Given) → Contains (cond b (orders n xs) (xs ∷ [])) ys → Contains ys x → Contains xs x
order_by true n xs ys x h m = order_within n xs ys h x m
order_by false n xs ys x h m = subst (λ (zs : List Given). Contains zs x) (sym (only ys xs h)) m

pub order_places : (b : BoundStep) (a : Assertion) (gs : List Given) (x : Given) → Contains (orders_of b a) gs → Contains gs x → Contains b.places x
order_places b a gs x h m = order_by (is_free b a) (length b.places) b.places gs x h m

-- ---- accepted steps

-- the step of a number is accepted so, in one of the orders of its places
pub record IsAcceptedStep (bound : Bound) (judgements : List Judgement) (k : ℕ) (x : Asked) : Type 0 where
  pub bound_step : BoundStep
  pub at : slice_get bound.steps k ≡ Some bound_step
  pub step_is : x.step ≡ k
  pub member : Contains (accepted_in judgements) x
  pub places : (y : Given) → Contains x.places y → Contains bound_step.places y

module _ (db : Database) (bound : Bound) (judgements : List Judgement) (judged : AreJudged db bound judgements) where
  bound_at : (k : ℕ) (o : Judgement) → slice_get judgements k ≡ Some o → (b : BoundStep) × (slice_get bound.steps k ≡ Some b)
  bound_at k o e = let within = get_within judgements k o e in let count = judged.count in get_below bound.steps k (omega (arith, within, count))

  pub accepted_step : (k : ℕ) (x : Asked) → slice_get judgements k ≡ Some (accepted x) → IsAcceptedStep bound judgements k x
  accepted_step k x e =
      let b = bound_at k (accepted x) e in
      by b.0 b.1 (standing db bound.place b.0) (told db bound (accepted_in (take k judgements)) k b.0 (standing db bound.place b.0) (accepted x) (judged.each k b.0 (accepted x) b.1 e))
    where
      by : (b : BoundStep) → slice_get bound.steps k ≡ Some b → (st : Standing) → Told db bound (accepted_in (take k judgements)) k b st (accepted x) → IsAcceptedStep bound judgements k x
      by b at (settled v) t = absurd t
      by b at (candidate a) t =
          let order = first_stands _ (orders_of b a) x.places t.1 in
          record {
            bound_step = b;
            at = at;
            step_is = ap (λ (y : Asked). y.step) t.0;
            member = into_filter_map asked_of judgements (accepted x) x (get_contains judgements k (accepted x) e) refl;
            places = λ y m. order_places b a x.places y order.0 m;
          }

  member_at : (x : Asked) → Contains (accepted_in judgements) x → (k : ℕ) × (slice_get judgements k ≡ Some (accepted x))
  member_at x m =
      let r = from_filter_map asked_of judgements x m in
      let k = contains_get judgements r.0 r.1 in
      (k.0, k.1 ∙ ap (λ o. Some o) (asked_is r.0 x r.2))

  -- no two have one number
  pub once : (x y : Asked) → Contains (accepted_in judgements) x → Contains (accepted_in judgements) y → y.step ≡ x.step → y ≡ x
  once x y mx my e =
      let a = member_at x mx in
      let b = member_at y my in
      let same : b.0 ≡ a.0 = sym (accepted_step b.0 y b.1).step_is ∙ e ∙ (accepted_step a.0 x a.1).step_is in
      let two : Some (accepted y) ≡ Some (accepted x) = sym b.1 ∙ ap (slice_get judgements) same ∙ a.1 in
      one_accepted y x (some_same (accepted y) (accepted x) two)
    where
      one_accepted : (p q : Asked) → accepted p ≡ accepted q → p ≡ q
      one_accepted p q f = cc
