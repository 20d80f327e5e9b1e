use Rattle.std.proofs.Common.{◌∙◌, ap, sym, ℕ, false, List}
use Rattle.std.specs.Str.{bytes_eq}
use Rattle.proof_model.specs.declared.code.What.TheVariants as what
use Rattle.proof_model.specs.Codes.{step, number_in}
use Rattle.stack_verify.proofs.LabelSteps.{name_new, name_there, number_is, number_new}
use Rattle.stack_verify.proofs.Lookup.{none_there}
use Rattle.stack_verify.proofs.normal.other_step.Goals as goal

pub add-requires-clause-absent : goal.add-requires-clause-absent
add-requires-clause-absent c = none_there (bytes_eq c.args.name.now) c.args.others.now (sym c.number.ensures ∙ c.in-None.is)

pub returns-in-Some-clause-others : goal.returns-in-Some-clause-others
returns-in-Some-clause-others c = name_there c.args.others.now c.args.name.now c.in-Some.number (sym c.number.ensures ∙ c.in-Some.is)

pub returns-in-Some-clause-step : goal.returns-in-Some-clause-step
returns-in-Some-clause-step c =
    c.unmarked.ensures
    ∙ ap (λ (n : ℕ). step (what.Listed n) false)
    (sym (number_is c.args.others.now c.args.name.now c.in-Some.number (sym c.number.ensures ∙ c.in-Some.is)))

pub returns-in_ok-number-in-None-clause-others : goal.returns-in_ok-number-in-None-clause-others
returns-in_ok-number-in-None-clause-others c = name_new c.args.others.now c.add.new.self c.args.name.now (sym c.number.ensures ∙ c.in-None.is) c.in_ok-number-in-None.ensures.added

pub returns-in_ok-number-in-None-clause-step : goal.returns-in_ok-number-in-None-clause-step
returns-in_ok-number-in-None-clause-step c =
    c.unmarked-in-None.ensures ∙ ap (λ (n : ℕ). step (what.Listed n) false) (
    c.in_ok-number-in-None.ensures.number ∙ sym (number_new c.args.others.now c.args.name.now (sym c.number.ensures ∙ c.in-None.is))
    ∙ ap (λ (l : List (List ℕ)). number_in l c.args.name.now) (sym c.in_ok-number-in-None.ensures.added))
