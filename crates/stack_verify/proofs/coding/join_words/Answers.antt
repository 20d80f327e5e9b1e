use Rattle.stack_verify.specs.Proofs.{name_in}
use Rattle.stack_verify.proofs.Joins.{word_joined}
use Rattle.stack_verify.proofs.coding.join_words.Goals as goal

pub loop-span-preserved : goal.loop-span-preserved
loop-span-preserved c =
    word_joined c.args.text.now
    (name_in c.args.text.now
    c.args.first) c.loop-span.joined.items c.push.new.self.items c.extend_from_slice-in-loop-span.new.self.items c.args.others.now c.loop-span.span-index _
    c.loop-span-test.true c.loop-span.invariant c.in_ok-push.ensures.items c.in_ok-extend_from_slice-2.ensures.items
