use Rattle.std.proofs.Common.{subst, Err}
use Rattle.mm_model.specs.Names.{Name}
use Rattle.step_chain.specs.Held.{OfEachBook}
use Rattle.step_chain.specs.Answers.{constants_of}
use Rattle.step_filling.specs.Filled.{IsOwnRead, formula_of}
use Rattle.step_filling.proofs.StepLaws.{standing_put, standing_fault}
use Rattle.step_filling.proofs.filling.fill_standing.Goals as goal

pub returns-in-Err-clause-fault : goal.returns-in-Err-clause-fault
returns-in-Err-clause-fault c =
    let h = c.args.trees.now in
    standing_fault h c.args.i c.args.step.now c.args.verdict c.args.filling.now c.requires.next c.requires.judged c.in-Err.fault
    (subst (λ (n : Name). OfEachBook h (λ db. IsOwnRead (constants_of h) n (formula_of h c.args.i) (Err c.in-Err.fault))) c.as_slice.ensures c.in-Err.ensures)

pub returns-in_ok-put_standing-in-Ok-clause-put : goal.returns-in_ok-put_standing-in-Ok-clause-put
returns-in_ok-put_standing-in-Ok-clause-put c =
    standing_put c.args.trees.now c.args.i c.args.step.now c.args.verdict c.args.filling.now c.requires.next c.requires.judged
    c.put_standing.new.filling c.in-Ok.tree c.in-Ok.ensures c.in_ok-put_standing-in-Ok.ensures
