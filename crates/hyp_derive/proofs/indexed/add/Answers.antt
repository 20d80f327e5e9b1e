use Rattle.std.proofs.Common.{◌≡◌, ◌++◌, ◌∷◌, [], refl, ap, ◌∙◌, arith}
use Rattle.std.proofs.lemmas.Result.{IfOk-weaker}
use Rattle.hyp_derive.proofs.FillLaws.{kept_told, put_told, place_told}
use Rattle.hyp_derive.proofs.indexed.add.Goals as goal

pub returns-in-Some-clause-made : goal.returns-in-Some-clause-made
returns-in-Some-clause-made c =
    IfOk-weaker c.numbered.result (λ number. number ≡ c.in-Some.place) _
    (λ number e. kept_told c.args.earlier.now c.args.made.now c.args.made.now c.args.tree.now c.in-Some.place refl c.in-Some.ensures) c.numbered.ensures

pub returns-in_ok-push-in-None-clause-made : goal.returns-in_ok-push-in-None-clause-made
returns-in_ok-push-in-None-clause-made c =
    c.in_ok-push-in-None.ensures.added ∙ ap (λ t. c.args.made.now ++ t ∷ []) c.in_ok-copy-in-None.ensures
    ∙ put_told c.args.earlier.now c.args.made.now c.args.made.now c.args.tree.now refl c.in-None.ensures

pub returns-in_ok-push-in-None-clause-place : goal.returns-in_ok-push-in-None-clause-place
returns-in_ok-push-in-None-clause-place c =
    place_told c.args.earlier.now c.args.made.now c.args.made.now c.args.tree.now c.in_ok-place-in-None.place refl c.in-None.ensures
    (omega (arith, c.in_ok-place-in-None.ensures, c.len.ensures, c.len-in-None.ensures))
