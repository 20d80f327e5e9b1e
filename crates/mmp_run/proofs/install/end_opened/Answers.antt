use Rattle.mmp_run.proofs.Installed.{outcome_installs, fault_installs}
use Rattle.mmp_run.proofs.install.end_opened.Goals as goal

pub end_written-requires-clause-of_text : goal.end_written-requires-clause-of_text
end_written-requires-clause-of_text c = c.requires.opened.contents

pub end_written-requires-clause-over : goal.end_written-requires-clause-over
end_written-requires-clause-over c = record {
  options = c.args.options.now;
  database = c.args.text.now;
  sheet = c.requires.said.text;
  opened = c.requires.opened;
  is_outcome = c.in-Ok.ensures.outcome c.args.text.now c.requires.said.text c.requires.opened c.requires.said.says;
}

pub returns-in-Ok-clause-answer : goal.returns-in-Ok-clause-answer
returns-in-Ok-clause-answer c = λ sheet says.
    outcome_installs c.installing_keeps_all.ensures c.args.options.now c.args.text.now sheet c.args.db.now c.in-Ok.outcome c.end_written.result c.requires.opened
    (c.in-Ok.ensures.outcome c.args.text.now sheet c.requires.opened says) (λ w is. c.end_written.ensures.written c.args.options.now w c.requires.opened is)

pub returns-in-Err-clause-answer : goal.returns-in-Err-clause-answer
returns-in-Err-clause-answer c = λ sheet says.
    fault_installs c.args.options.now c.args.text.now sheet c.args.db.now c.in-Err.fault c.end_fault.result c.requires.opened
    (c.in-Err.ensures.fault c.args.text.now sheet c.requires.opened says) c.end_fault.ensures.told c.end_fault.ensures.line
