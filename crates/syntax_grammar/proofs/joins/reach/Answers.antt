use Rattle.std.proofs.Common.{◌∙◌, ap, arith, get_or}
use Rattle.mm_base.specs.Rows.{row_at}
use Rattle.syntax_grammar.proofs.ReachLaws.{reach_turn}
use Rattle.syntax_grammar.proofs.joins.reach.Goals as goal

pub loop-done-preserved : goal.loop-done-preserved
loop-done-preserved c =
    reach_turn c.args.ends.now c.args.from.0.0 c.loop-done.reached c.reach_each.new.reached c.loop-done.done 0 c.at.result.now
    (omega (arith, c.loop-done-test.true, c.len.ensures))
    (c.at.ensures ∙ ap (λ xs. row_at c.args.ends.now (get_or xs c.loop-done.done 0)) c.items.ensures) c.loop-done.invariant c.in_ok-reach_each.ensures
