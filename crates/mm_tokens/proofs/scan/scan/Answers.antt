use Rattle.mm_tokens.proofs.ScanLaw.{tokens_read, fault_read}
use Rattle.mm_tokens.proofs.scan.scan.Goals as goal

pub returns-in-Ok-clause-tokens : goal.returns-in-Ok-clause-tokens
returns-in-Ok-clause-tokens c = (tokens_read c.args.text.now c.in-Ok.tokens.items c.in-Ok.ensures).1

pub returns-in-Ok-clause-no_fault : goal.returns-in-Ok-clause-no_fault
returns-in-Ok-clause-no_fault c = (tokens_read c.args.text.now c.in-Ok.tokens.items c.in-Ok.ensures).0

pub returns-in-Err-clause-first_fault : goal.returns-in-Err-clause-first_fault
returns-in-Err-clause-first_fault c = fault_read c.args.text.now c.in-Err.fault c.in-Err.ensures
