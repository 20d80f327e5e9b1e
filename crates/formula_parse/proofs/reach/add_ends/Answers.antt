use Rattle.std.proofs.Common.{◌≡◌, get_or, arith}
use Rattle.std.proofs.lemmas.Option.{slice_get-get_or, slice_get_within}
use Rattle.formula_parse.specs.declared.reach.Entry.{Entry}
use Rattle.formula_parse.specs.Charts.{IsIn, CanLead, entry_of}
use Rattle.formula_parse.proofs.Lists.{stays_in, at_turn}
use Rattle.formula_parse.proofs.reach.add_ends.Goals as goal

pub loop-entry-preserved : goal.loop-entry-preserved
loop-entry-preserved c =
    let entries = c.args.entries.now in
    let n = c.loop-entry.entry-index in
    let none = entry_of 0 record { 0 = record { 0 = 0 } } 0 in
    let xs = c.loop-entry.next in
    let ys = c.add_end.new.next in
    let s = c.in_ok-add_end.ensures in (
      λ j x e. s.stays j x (c.loop-entry.invariant.0 j x e),
      at_turn (λ (x : Entry). x.code ≡ c.args.code → CanLead c.args.leaves.now c.args.behind.now x.end → IsIn ys x.end) entries n
          (get_or entries n none) (slice_get-get_or entries n none c.loop-entry-test.true)
          (λ j x i is code can. stays_in xs ys s.stays x.end (c.loop-entry.invariant.1 j x i is code can)) s.stands,
    )

pub returns-clause-ends : goal.returns-clause-ends
returns-clause-ends c = λ x i code can. c.loop-entry.invariant.1 i.0 x (omega (arith, slice_get_within c.args.entries.now i.0 x i.1, c.loop-entry-test.false)) i.1 code can
