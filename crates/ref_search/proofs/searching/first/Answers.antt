use Rattle.std.specs.Option.{option_copied}
use Rattle.std.proofs.lemmas.Result.{IfOk-weaker}
use Rattle.ref_search.proofs.ChoiceLaws.{answer_of, sound_of}
use Rattle.ref_search.proofs.searching.first.Goals as goal

pub returns-clause-answer : goal.returns-clause-answer
returns-clause-answer c =
    answer_of c.args.db.now c.args.place c.before-bound.result c.args.wanted.now (option_copied c.args.allowed) c.before-bound.ensures.count c.before-bound.ensures.first c.first_below.result
    c.first_below.ensures.first

pub returns-clause-sound : goal.returns-clause-sound
returns-clause-sound c = IfOk-weaker c.first_below.result _ _ (λ o h. sound_of c.args.db.now c.args.place c.before-bound.result c.before-bound.ensures.count o h) c.first_below.ensures.sound
