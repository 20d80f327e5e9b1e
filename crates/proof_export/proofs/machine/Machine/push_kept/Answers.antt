use Rattle.proof_export.proofs.Rounds.{kept_pushed}
use Rattle.proof_export.proofs.machine.Machine.push_kept.Goals as goal

pub returns : goal.returns
returns c =
    kept_pushed c.args.self.now.stack.items c.push.new.self.items c.args.self.now.kept.items c.as_slice.result.now c.args.number c.in_ok-formula.formula c.as_slice-2.result.now
    c.index-as_slice-number.result c.requires c.as_slice.ensures.value c.index-as_slice-number.is c.as_slice-2.ensures c.in_ok-formula.ensures c.in_ok-push.ensures.items
