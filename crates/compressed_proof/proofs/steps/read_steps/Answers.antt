use Rattle.std.proofs.Common.{arith}
use Rattle.compressed_proof.proofs.StepsLaw.{letters_read}
use Rattle.compressed_proof.proofs.LetterFaults.{fault_read}
use Rattle.compressed_proof.proofs.steps.read_steps.Goals as goal

pub returns-in-Ok-clause-sound : goal.returns-in-Ok-clause-sound
returns-in-Ok-clause-sound c = (letters_read c.args.mandatory c.args.labels c.args.letters.now c.in-Ok.steps.items (omega arith) c.in-Ok.ensures).0

pub returns-in-Ok-clause-spelled : goal.returns-in-Ok-clause-spelled
returns-in-Ok-clause-spelled c = (letters_read c.args.mandatory c.args.labels c.args.letters.now c.in-Ok.steps.items (omega arith) c.in-Ok.ensures).1

pub returns-in-Ok-clause-in_range : goal.returns-in-Ok-clause-in_range
returns-in-Ok-clause-in_range c = (letters_read c.args.mandatory c.args.labels c.args.letters.now c.in-Ok.steps.items (omega arith) c.in-Ok.ensures).2

pub returns-in-Err-clause-first_fault : goal.returns-in-Err-clause-first_fault
returns-in-Err-clause-first_fault c = fault_read c.args.mandatory c.args.labels c.args.letters.now c.in-Err.fault (omega arith) c.in-Err.ensures
