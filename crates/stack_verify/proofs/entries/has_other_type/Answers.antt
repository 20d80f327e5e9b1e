use Rattle.std.proofs.Common.{arith, sym, ◌∙◌}
use Rattle.proof_model.specs.Machine.{differs_in_type}
use Rattle.stack_verify.specs.Stacks.{entries_of}
use Rattle.stack_verify.proofs.Entering.{entries_count, entry_at, found_none, found_some, next_more}
use Rattle.stack_verify.proofs.entries.has_other_type.Goals as goal

pub returns-then-differs_in_type : goal.returns-then-differs_in_type
returns-then-differs_in_type c =
    let hyps = c.args.entries.now.hyps.now in let symbols = c.args.entries.now.symbols.now in let spans = c.args.entries.now.spans.now in
    let here = entry_at hyps symbols spans c.loop-place.place c.hyp-item.result c.formula_in.result.now _ c.args.entries.now.each c.loop-place-test.true c.hyp-item.is c.formula_in.ensures in
    found_some differs_in_type (entries_of hyps symbols spans) c.loop-place.place (c.hyp-item.result, c.formula_in.result.now) here
    (sym c.differs_in_type.ensures ∙ c.if-differs_in_type.true) c.loop-place.invariant

pub loop-place-preserved : goal.loop-place-preserved
loop-place-preserved c =
    let hyps = c.args.entries.now.hyps.now in let symbols = c.args.entries.now.symbols.now in let spans = c.args.entries.now.spans.now in
    let here = entry_at hyps symbols spans c.loop-place.place c.hyp-item.result c.formula_in.result.now _ c.args.entries.now.each c.loop-place-test.true c.hyp-item.is c.formula_in.ensures in
    next_more differs_in_type (entries_of hyps symbols spans) c.loop-place.place (c.hyp-item.result, c.formula_in.result.now) here
    (sym c.differs_in_type.ensures ∙ c.if-differs_in_type.false) c.loop-place.invariant

pub returns : goal.returns
returns c =
    let count = entries_count c.args.entries.now.hyps.now c.args.entries.now.symbols.now c.args.entries.now.spans.now c.args.entries.now.each in
    found_none differs_in_type (entries_of c.args.entries.now.hyps.now c.args.entries.now.symbols.now c.args.entries.now.spans.now) c.loop-place.place (omega (arith, count, c.loop-place-test.false)) c.loop-place.invariant
