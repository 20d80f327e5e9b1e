use Rattle.std.proofs.Common.{◌+◌, ◌∷◌, ◌++◌, [], Result, Ok, Err, OnErr, refl, arith}
use Rattle.hyp_derive.proofs.NewNameLaws.{derived_more, derived_some}
use Rattle.hyp_derive.proofs.step_names.StepNames.derive_all.Goals as goal

pub loop-preserved : goal.loop-preserved
loop-preserved c =
    derived_more c.args.self.now c.loop.self c.derive.new.self c.loop.names.items c.push.new.self.items c.loop.counter c.in_ok-derive.field-0 c.loop.invariant c.in_ok-derive.ensures.name
    c.in_ok-derive.ensures.added c.in_ok-push.ensures.items

on_each_err : {T E P : Type 0} (r : Result T E) → P → OnErr r P
on_each_err (Ok x) p = tt
on_each_err (Err e) p = p

-- the name that found no room in the list is used
pub returns-in_err-push-clause-some : goal.returns-in_err-push-clause-some
returns-in_err-push-clause-some c =
    let names = c.loop.names.items ++ c.in_ok-derive.field-0 ∷ [] in
    let are =
    derived_more c.args.self.now c.loop.self c.derive.new.self c.loop.names.items names c.loop.counter c.in_ok-derive.field-0 c.loop.invariant
    c.in_ok-derive.ensures.name c.in_ok-derive.ensures.added refl in
    on_each_err c.from_residual-in_err-push.result (c.loop.counter + 1, omega arith, derived_some c.args.self.now c.derive.new.self names (c.loop.counter + 1) are)
