use Rattle.std.proofs.Common.{map, subst, ap, ◌∙◌}
use Rattle.std.specs.List.{AllZip}
use Rattle.std.proofs.lemmas.Result.{IfOk-weaker}
use Rattle.written_steps.specs.Drafts.{refs, step_in}
use Rattle.ref_search.specs.Searching.{book}
use Rattle.step_searching.specs.Searched.{FindsItem}
use Rattle.step_searching.proofs.searching.find_all.Goals as goal

pub returns-clause-searched : goal.returns-clause-searched
returns-clause-searched c =
    IfOk-weaker c.find_each.result _ _
    (λ found h kinds text opened. subst
    (λ ds. AllZip (FindsItem (book kinds text c.args.db.now) c.args.place c.args.mode c.args.given.now c.args.db.now (map (step_in c.args.db.now) ds)) c.args.items.now found.items)
    (ap refs c.as_slice-2.ensures.value ∙ c.in_ok-steps.ensures) (h kinds text opened)) c.find_each.ensures.searched
