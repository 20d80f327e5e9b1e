-- The judgements of a worksheet's steps are one.
use Rattle.std.specs.Prelude.{◌≡◌, ◌<◌, ◌≤◌, ℕ, zero, suc, List, [], ◌∷◌, length, take, Option, Some, refl}
use Rattle.std.specs.List.{AllByRecursion}
use Rattle.std.proofs.Common.{sym, ap, subst, ◌∙◌, arith, inl, inr, get_or}
use Rattle.std.proofs.Math.Seq.{take-suc, take-length}
use Rattle.std.proofs.lemmas.Option.{slice_get-get_or}
use Rattle.mm_model.specs.Book.{Database}
use Rattle.solve_model.specs.declared.bound.Bound.{Bound}
use Rattle.solve_model.specs.declared.bound.BoundStep.{BoundStep}
use Rattle.solve_model.specs.declared.verdict.Verdict.TheVariants as verdict
use Rattle.solve_model.specs.Firsts.{IsFirstIn, IsFirstOrNone}
use Rattle.solve_model.specs.Bound.{Standing, settled, candidate, standing}
use Rattle.solve_model.specs.Solutions.{Asked, no_step}
use Rattle.solve_model.specs.Verdicts.{Judgement, accepted, stands, asked, accepted_in, FitsIn, IsJudgement, AreJudged}

-- the first or none is one
pub first_or_none_is_one : {X : Type 0} (P : X → Type 0) (xs : List X) (o q : Option X) → IsFirstOrNone P xs o → IsFirstOrNone P xs q → o ≡ q
first_or_none_is_one P [] o q h k = h ∙ sym k
first_or_none_is_one P (z ∷ zs) o q (inl h) (inl k) = h.0 ∙ sym k.0
first_or_none_is_one P (z ∷ zs) o q (inl h) (inr k) = absurd (k.0 h.1)
first_or_none_is_one P (z ∷ zs) o q (inr h) (inl k) = absurd (h.0 k.1)
first_or_none_is_one P (z ∷ zs) o q (inr h) (inr k) = first_or_none_is_one P zs o q h.1 k.1

-- and so is the first
pub first_is_one : {X : Type 0} (P : X → Type 0) (xs : List X) (x y : X) → IsFirstIn P xs x → IsFirstIn P xs y → x ≡ y
first_is_one P xs x y h k = let same : Some x ≡ Some y = first_or_none_is_one P xs (Some x) (Some y) h k in cc

none_is_first : {X : Type 0} (P : X → Type 0) (xs : List X) (x : X) → IsFirstIn P xs x → AllByRecursion (λ y. P y → ⊥) xs → ⊥
none_is_first P [] x h k = cc
none_is_first P (z ∷ zs) x (inl h) k = k.0 h.1
none_is_first P (z ∷ zs) x (inr h) k = none_is_first P zs x h.1 k.1

module _ (db : Database) (bound : Bound) where
  module _ (before : List Asked) (i : ℕ) (s : BoundStep) where
    one_by : (st : Standing) (j k : Judgement) → IsJudgement db bound before i s st j → IsJudgement db bound before i s st k → j ≡ k
    one_by (settled v) j k IsJudgement.other IsJudgement.other = refl
    one_by (candidate a) j k (IsJudgement.fits f) (IsJudgement.fits g) = ap (λ places. accepted (asked i a places)) (first_is_one (FitsIn db bound before i a) _ _ _ f g)
    one_by (candidate a) j k (IsJudgement.fits f) (IsJudgement.no_fit g) = absurd (none_is_first (FitsIn db bound before i a) _ _ f g)
    one_by (candidate a) j k (IsJudgement.no_fit f) (IsJudgement.fits g) = absurd (none_is_first (FitsIn db bound before i a) _ _ g f)
    one_by (candidate a) j k (IsJudgement.no_fit f) (IsJudgement.no_fit g) = refl

  module _ (one other : List Judgement) (h : AreJudged db bound one) (k : AreJudged db bound other) where
    no_judgement : Judgement
    no_judgement = stands verdict.NoRef

    same_front : (n : ℕ) → n ≤ length bound.steps → take n one ≡ take n other
    same_front zero l = refl
    same_front (suc n) l =
        let front = same_front n (omega (arith, l)) in
        let within : n < length bound.steps = omega (arith, l) in
        let one_count = h.count in
        let other_count = k.count in
        let within_one : n < length one = omega (arith, within, one_count) in
        let within_other : n < length other = omega (arith, within, other_count) in
        let at_step = slice_get-get_or bound.steps n no_step within in
        let mine = h.each n _ _ at_step (slice_get-get_or one n no_judgement within_one) in
        let its = k.each n _ _ at_step (slice_get-get_or other n no_judgement within_other) in
        let moved =
        subst
        (λ js. IsJudgement db bound (accepted_in js) n (get_or bound.steps n no_step) (standing db bound.place (get_or bound.steps n no_step))
        (get_or one n no_judgement)) front mine in
        let last : get_or one n no_judgement ≡ get_or other n no_judgement = one_by _ n _ _ _ _ moved its in
        let left = take-suc one n no_judgement within_one in
        let right = take-suc other n no_judgement within_other in
        cc

    pub judgements_are_one : one ≡ other
    judgements_are_one =
        let front = same_front (length bound.steps) (omega arith) in
        let left : take (length bound.steps) one ≡ one = subst (λ n. take n one ≡ one) h.count (take-length one) in
        let right : take (length bound.steps) other ≡ other = subst (λ n. take n other ≡ other) k.count (take-length other) in
        sym left ∙ front ∙ right
