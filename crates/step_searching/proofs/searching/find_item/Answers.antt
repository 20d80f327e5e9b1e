use Rattle.std.proofs.Common.{map}
use Rattle.std.proofs.lemmas.Result.{IfOk-weaker}
use Rattle.written_steps.specs.Drafts.{refs, step_in}
use Rattle.step_searching.proofs.FindLaws.{item_found}
use Rattle.step_searching.proofs.searching.find_item.Goals as goal

pub returns-in-Step-clause-searched : goal.returns-in-Step-clause-searched
returns-in-Step-clause-searched c =
    IfOk-weaker c.find.result _ _
    (λ o h kinds text opened. item_found kinds text c.args.db.now c.args.place c.args.mode c.args.given.now (map (step_in c.args.db.now) (refs c.args.steps.now)) c.args.item.now c.in-Step.step o
    c.in-Step.is (h kinds text opened)) c.find.ensures.searched
