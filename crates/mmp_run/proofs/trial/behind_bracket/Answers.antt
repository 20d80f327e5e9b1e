use Rattle.std.proofs.Common.{◌∙◌, sym, ap}
use Rattle.mmp_run.specs.Tried.{tokens_shown}
use Rattle.mmp_run.proofs.Letters.{bracket_here}
use Rattle.mmp_run.proofs.trial.behind_bracket.Goals as goal

pub returns-then-eq : goal.returns-then-eq
returns-then-eq c =
    ap tokens_shown c.split_at.ensures.back
    ∙ bracket_here c.args.tokens.now c.loop-i.i _ c.loop-i-test.true c.loop-i.invariant (sym (rw c.as_slice.ensures at c.if-eq.ensures))
