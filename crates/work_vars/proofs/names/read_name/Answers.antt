use Rattle.std.proofs.Common.{sym, ◌∙◌, subst, Some, None}
use Rattle.work_vars.specs.Spelled.{IsNamedBy}
use Rattle.work_vars.proofs.NameLaws.{no_name, no_number, the_name, rest_is}
use Rattle.work_vars.proofs.NumberLaws.{numbers_are}
use Rattle.work_vars.proofs.names.read_name.Goals as goal

pub returns-in_default-clause-named : goal.returns-in_default-clause-named
returns-in_default-clause-named c =
    no_name c.args.token.now c.number_place-place.result c.number_place-place.ensures.inside c.number_place-place.ensures.digits c.number_place-place.ensures.before
    c.in_default.ensures

pub returns-in_default-work_number-clause-named : goal.returns-in_default-work_number-clause-named
returns-in_default-work_number-clause-named c =
    no_number c.args.token.now c.number_place-place.result c.number_place-place.ensures.inside c.number_place-place.ensures.digits c.number_place-place.ensures.before
    (λ n one small e. c.in_default-work_number.ensures n one small (rest_is c.args.token.now c.number_place-place.result ∙ e))

pub returns-clause-named : goal.returns-clause-named
returns-clause-named c =
    subst (λ code. IsNamedBy c.args.token.now (Some (code, c.in-Some-work_number.number))) (sym (c.from_vec.ensures ∙ c.in_ok-code.ensures.items))
    (the_name c.args.token.now c.number_place-place.result c.number_place-place.ensures.inside c.number_place-place.ensures.digits c.number_place-place.ensures.before
    c.in-Some.code.now c.in-Some-work_number.number c.in-Some.ensures c.in-Some-work_number.ensures.0 c.in-Some-work_number.ensures.1
    (sym (rest_is c.args.token.now c.number_place-place.result) ∙ c.in-Some-work_number.ensures.2))

pub returns-in_default-clause-number : goal.returns-in_default-clause-number
returns-in_default-clause-number c = numbers_are c.args.token.now None (returns-in_default-clause-named c)

pub returns-in_default-work_number-clause-number : goal.returns-in_default-work_number-clause-number
returns-in_default-work_number-clause-number c = numbers_are c.args.token.now None (returns-in_default-work_number-clause-named c)

pub returns-clause-number : goal.returns-clause-number
returns-clause-number c = numbers_are c.args.token.now (Some (c.from_vec.result, c.in-Some-work_number.number)) (returns-clause-named c)
