use Rattle.std.specs.Option.{option_copied}
use Rattle.std.proofs.Common.{◌≡◌, map}
use Rattle.mm_model.specs.Names.{label}
use Rattle.std.proofs.lemmas.Result.{IfOk-weaker}
use Rattle.ref_search.proofs.FittingLaws.{answer_of_all}
use Rattle.ref_search.proofs.fitting.all.Goals as goal

pub returns : goal.returns
returns c =
    IfOk-weaker c.listed.result (λ labels. labels ≡ map label c.in_ok-numbers.numbers.keys) _
    (answer_of_all c.args.db.now c.args.place c.before-bound.result c.args.wanted.now (option_copied c.args.allowed) c.before-bound.ensures.count c.before-bound.ensures.first
    c.in_ok-numbers.numbers.keys c.in_ok-numbers.ensures) c.listed.ensures
