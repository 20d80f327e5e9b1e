use Rattle.push_laws.proofs.WrittenProof.{written_without_proof}
use Rattle.push_laws.proofs.written_without_proof.Goals as goal

pub returns : goal.returns
returns c = written_without_proof c.written_reads_back.ensures
