use Rattle.std.proofs.Common.{arith}
use Rattle.compressed_proof.proofs.Digits.{digits_pushed}
use Rattle.compressed_proof.proofs.writer.+push_digits.Goals as goal

pub returns-in_ok-push : goal.returns-in_ok-push
returns-in_ok-push t c = digits_pushed c.args.out.now.items c.push_digits.new.out.items c.push.new.self.items c.args.value (omega arith) c.in_ok-push_digits.ensures c.in_ok-push.ensures.items
