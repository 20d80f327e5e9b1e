use Rattle.push_laws.proofs.WrittenProof.{written_proof_is_accepted}
use Rattle.push_laws.proofs.written_proof_is_accepted.Goals as goal

pub returns : goal.returns
returns c = written_proof_is_accepted c.written_reads_back.ensures
