use Rattle.std.proofs.Common.{arith, ◌-◌, ap, length}
use Rattle.std.proofs.lemmas.Result.{err_from_is_err_and}
use Rattle.stack_verify.specs.Stacked.{state}
use Rattle.stack_verify.proofs.Applying.{fails_at, fits_at}
use Rattle.stack_verify.proofs.stack.Stack.apply.Goals as goal

pub returns-in_err-check_entries-clause-fault : goal.returns-in_err-check_entries-clause-fault
returns-in_err-check_entries-clause-fault c =
    let p = err_from_is_err_and c.from_residual.result c.from_residual.ensures.1 in
    let old = c.args.self.now in
    let b = c.len-count.result - length c.as_slice-hyps.result.now in
    rw (p.1, p.2) (
    fails_at c.args.theorem.now c.args.frame.now old.symbols.items c.as_slice-symbols.result.now old.entries.items c.as_slice.result.now
    old.kept.items c.behind-spans.result.now b c.in_err-check_entries.field-0.0
    c.as_slice-symbols.ensures.value c.as_slice.ensures.value c.behind-spans.ensures (omega (arith, ap length c.as_slice-hyps.ensures)) c.in_err-check_entries.ensures.fault)

pub returns-clause-applied : goal.returns-clause-applied
returns-clause-applied c =
    let old = c.args.self.now in
    let b = c.len-count.result - length c.as_slice-hyps.result.now in
    fits_at c.args.theorem.now c.args.frame.now old.symbols.items c.as_slice-symbols.result.now old.entries.items c.as_slice.result.now old.kept.items
    c.truncate.new.self.items c.behind-spans.result.now c.as_slice-hyps.result.now b
    (state c.push.new.self)
    c.as_slice-3.result.now c.push_substituted.new.out.items c.clear.new.self.items c.as_slice-2.result.now
    c.as_slice-symbols.ensures.value c.as_slice.ensures.value c.behind-spans.ensures
    (omega (arith, ap length c.as_slice-hyps.ensures)) c.as_slice-hyps.ensures c.as_slice-2.ensures c.clear.ensures.items
    c.as_slice-3.ensures.value c.in_ok-push_substituted.ensures c.truncate.ensures.items c.in_ok-push.ensures.pushed c.in_ok-check_entries.ensures.fine
