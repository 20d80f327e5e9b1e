use Rattle.std.proofs.Common.{◌+◌, ◌∙◌, sym, subst, take}
use Rattle.syntax_grammar.specs.Joins.{IsReachedToo}
use Rattle.syntax_grammar.proofs.ReachLaws.{too_new, too_old}
use Rattle.syntax_grammar.proofs.joins.reach_each.Goals as goal
use Rattle.syntax_grammar.proofs.joins.reach_each.Goals.{then-not-contains+in_ok-insert, else-not-contains}

pub loop-code-preserved : goal.loop-code-preserved
loop-code-preserved c =
    let old = c.args.reached.now in
    let codes = c.args.codes.now in
    let i = c.loop-code.code-index in
    elim c.if-not-contains.branch [
      | then-not-contains+in_ok-insert w ↦
          too_new old c.loop-code.reached c.if-not-contains.reached codes i (record { 0 = record { 0 = 0 } }) c.loop-code-test.true c.loop-code.invariant
          (w.reached-is ∙ w.in_ok-insert.ensures.put)
      | else-not-contains w ↦
          subst (λ xs. IsReachedToo old xs (take (i + 1) codes)) (sym w.reached-is)
          (too_old old c.loop-code.reached codes i (record { 0 = record { 0 = 0 } }) c.loop-code-test.true c.loop-code.invariant
          (sym c.contains.ensures ∙ w.if-not-contains.false))
    ]
