use Rattle.std.proofs.Common.{refl, subst}
use Rattle.sheet_unify.specs.Ended.{IsLaidOut, IsLargeFault}
use Rattle.sheet_unify.proofs.ending.with_text.Goals as goal

pub returns-in-Ok-clause-text : goal.returns-in-Ok-clause-text
returns-in-Ok-clause-text c = record {
  sheet_is = refl;
  proof_is = refl;
  laid_out = subst (λ p. IsLaidOut c.args.sheet p c.in-Ok.text) c.bytes_of.ensures c.in-Ok.ensures.text;
}

pub returns-in-Err-clause-fault : goal.returns-in-Err-clause-fault
returns-in-Err-clause-fault c = subst (λ p. IsLargeFault c.args.sheet p c.in-Err.fault) c.bytes_of.ensures c.in-Err.ensures.fault
