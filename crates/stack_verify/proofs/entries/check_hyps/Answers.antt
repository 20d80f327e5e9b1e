use Rattle.std.proofs.Common.{arith}
use Rattle.std.proofs.lemmas.Result.{err_from_is_err_and}
use Rattle.proof_model.specs.Machine.{differs_in_formula}
use Rattle.stack_verify.specs.Stacks.{entries_of}
use Rattle.stack_verify.proofs.Entering.{entries_count, entry_at, hyp_faulty, next_more, no_hyp_fault}
use Rattle.stack_verify.proofs.entries.check_hyps.Goals as goal

pub returns-in_err-check_hyp-clause-fault : goal.returns-in_err-check_hyp-clause-fault
returns-in_err-check_hyp-clause-fault c =
    let hyps = c.args.entries.now.hyps.now in let symbols = c.args.entries.now.symbols.now in let spans = c.args.entries.now.spans.now in
    let here =
    entry_at hyps symbols spans c.loop-place.place c.hyp-item.result c.formula_in-found.result.now _ c.args.entries.now.each
    c.loop-place-test.true c.hyp-item.is c.formula_in-found.ensures in
    let p = err_from_is_err_and c.from_residual.result c.from_residual.ensures.1 in
    rw (p.1, p.2)
    (hyp_faulty (entries_of hyps symbols spans) c.loop-place.place (
      c.hyp-item.result,
      c.formula_in-found.result.now,
    ) c.in_err-check_hyp.field-0.0 here c.loop-place.invariant c.in_err-check_hyp.ensures.fault)

pub loop-place-preserved : goal.loop-place-preserved
loop-place-preserved c =
    let hyps = c.args.entries.now.hyps.now in let symbols = c.args.entries.now.symbols.now in let spans = c.args.entries.now.spans.now in
    let here =
    entry_at hyps symbols spans c.loop-place.place c.hyp-item.result c.formula_in-found.result.now _ c.args.entries.now.each
    c.loop-place-test.true c.hyp-item.is c.formula_in-found.ensures in
    let es = entries_of hyps symbols spans in
    next_more (differs_in_formula es) es c.loop-place.place (c.hyp-item.result, c.formula_in-found.result.now) here c.in_ok-check_hyp.ensures.fine c.loop-place.invariant

pub returns-clause-fine : goal.returns-clause-fine
returns-clause-fine c =
    let count = entries_count c.args.entries.now.hyps.now c.args.entries.now.symbols.now c.args.entries.now.spans.now c.args.entries.now.each in
    no_hyp_fault (entries_of c.args.entries.now.hyps.now c.args.entries.now.symbols.now c.args.entries.now.spans.now) c.loop-place.place (omega (arith, count, c.loop-place-test.false)) c.loop-place.invariant
