use Rattle.std.proofs.Common.{arith}
use Rattle.sheet_read.proofs.Mapped.{set-start, set-twice, set-more}
use Rattle.sheet_read.proofs.statements.has_twice.Goals as goal

pub loop-token-init : goal.loop-token-init
loop-token-init c = set-start c.args.tokens.now c.new-seen.result.keys c.new-seen.ensures.empty

pub returns-then-not-branch : goal.returns-then-not-branch
returns-then-not-branch c =
    set-twice c.args.tokens.now c.loop-token.seen.keys c.loop-token.token-index _ c.in_ok-insert.field-0
    (omega arith) c.in_ok-insert.ensures.added c.if-not-branch.true c.loop-token.invariant

pub loop-token-preserved : goal.loop-token-preserved
loop-token-preserved c =
    set-more c.args.tokens.now c.loop-token.seen.keys c.insert.new.self.keys c.loop-token.token-index _ c.in_ok-insert.field-0
    (omega arith) c.in_ok-insert.ensures.added c.if-not-branch.false c.in_ok-insert.ensures.keys c.loop-token.invariant
