use Rattle.compressed_proof.proofs.Written.{whole_written}
use Rattle.compressed_proof.proofs.writer.encode.Goals as goal

pub returns : goal.returns
returns c =
    whole_written c.args.mandatory c.args.code.now.labels c.as_slice-labels.result.now c.args.code.now.steps c.as_slice-steps.result.now
    c.new-out.result.items c.push.new.self.items c.push_labels.new.out.items c.extend_from_slice.new.self.items c.push_steps.new.out.items c.from_vec.result
    c.as_slice-labels.ensures c.as_slice-steps.ensures c.new-out.ensures.items c.in_ok-push.ensures.items c.in_ok-push_labels.ensures
    c.in_ok-extend_from_slice.ensures.items c.in_ok-push_steps.ensures c.from_vec.ensures
