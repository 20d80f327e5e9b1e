use Rattle.std.proofs.Common.{arith}
use Rattle.stack_verify.proofs.Parts.{pushed}
use Rattle.stack_verify.proofs.stack.Stack.push.Goals as goal

pub returns-clause-pushed : goal.returns-clause-pushed
returns-clause-pushed c =
    pushed c.args.self.now.symbols.items c.extend_from_slice.new.self.items c.args.formula.now c.args.self.now.entries.items c.push.new.self.items c.args.self.now.kept.items
    (record { from = c.len-from.result; to = c.len-to.result }) c.in_ok-extend_from_slice.ensures.items c.in_ok-push.ensures.items (omega arith)
    (omega (arith, c.in_ok-extend_from_slice.ensures.len)) c.requires.entries c.requires.kept
