use Rattle.std.proofs.Common.{◌∙◌}
use Rattle.std.specs.Option.{option_copied}
use Rattle.std.proofs.lemmas.Result.{IfOk-weaker}
use Rattle.auto_fill.proofs.AnswerLaws.{ready_of, answer_of, sound_of}
use Rattle.auto_fill.proofs.filling.fill_ref.Goals as goal

pub invariant_of-sought : goal.invariant_of-sought
invariant_of-sought c = record { ready = ready_of c.args.trees.now c.args.number c.as_slice.result.now c.requires (c.as_slice.ensures.value ∙ c.in_ok-places.ensures) }

pub returns-clause-answer : goal.returns-clause-answer
returns-clause-answer c =
    answer_of c.args.db.now c.args.place c.before-bound.result c.args.trees.now c.args.number (option_copied c.args.allowed) c.as_slice.result.now c.requires
    (c.as_slice.ensures.value ∙ c.in_ok-places.ensures) c.before-bound.ensures.count c.before-bound.ensures.first c.first_below.result c.first_below.ensures.first

pub returns-clause-sound : goal.returns-clause-sound
returns-clause-sound c = IfOk-weaker c.first_below.result _ _ (λ o h. sound_of c.args.db.now c.args.place c.before-bound.result c.before-bound.ensures.count o h) c.first_below.ensures.sound
