use Rattle.std.proofs.Common.{map, subst}
use Rattle.std.specs.List.{AllZip}
use Rattle.std.proofs.lemmas.List.{take_all}
use Rattle.written_steps.specs.Drafts.{refs, step_in}
use Rattle.ref_search.specs.Searching.{book}
use Rattle.step_searching.specs.Searched.{FindsItem}
use Rattle.step_searching.proofs.FindLaws.{found_more}
use Rattle.step_searching.proofs.searching.find_each.Goals as goal

pub loop-item-preserved : goal.loop-item-preserved
loop-item-preserved c =
    found_more c.args.db.now c.args.place c.args.mode c.args.given.now (map (step_in c.args.db.now) (refs c.args.steps.now)) c.args.items.now c.loop-item.item-index c.item-item.result
    c.loop-item.found.items c.push.new.self.items c.in_ok-find_item.field-0 c.loop-item-test.true c.item-item.is c.loop-item.invariant c.in_ok-find_item.ensures.sound
    c.in_ok-find_item.ensures.searched c.in_ok-push.ensures.items

pub returns-clause-searched : goal.returns-clause-searched
returns-clause-searched c = λ kinds text opened.
    subst
    (λ items. AllZip (FindsItem (book kinds text c.args.db.now) c.args.place c.args.mode c.args.given.now c.args.db.now (map (step_in c.args.db.now) (refs c.args.steps.now)))
    items c.loop-item.found.items)
    (take_all c.loop-item.item-index c.args.items.now c.loop-item-test.false) (c.loop-item.invariant.finds kinds text opened)
