use Rattle.writing_laws.proofs.LateFaults.{long_late}
use Rattle.writing_laws.proofs.Opened.{late_told}
use Rattle.writing_laws.proofs.late_fault_is_decided.Goals as goal

pub returns : goal.returns
returns c = record {
  decided = late_told c.has_database_facts.ensures c.mandatory_variables_stand.ensures c.frames_have_own_expressions.ensures;
  long = long_late;
}
