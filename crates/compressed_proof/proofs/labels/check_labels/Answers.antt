use Rattle.compressed_proof.proofs.labels.check_labels.Goals as goal

pub returns-clause-sound : goal.returns-clause-sound
returns-clause-sound c = c.check_each.ensures.sound c.args.mandatory.now c.in_ok-listed.ensures

pub returns-clause-fault : goal.returns-clause-fault
returns-clause-fault c = c.check_each.ensures.fault c.args.mandatory.now c.in_ok-listed.ensures
