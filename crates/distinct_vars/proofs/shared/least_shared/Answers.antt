use Rattle.std.proofs.Common.{arith, subst, sym}
use Rattle.solve_model.specs.Trees.{variables}
use Rattle.distinct_vars.proofs.SharedLaws.{IsLeastFrom, from_none, none_first, none_second, both_found, none_between}
use Rattle.distinct_vars.proofs.shared.least_shared.Goals as goal

pub returns-in_default : goal.returns-in_default
returns-in_default c =
    let first = subst (IsLeastFrom c.loop-first.low (variables c.args.one.now)) (sym c.in_default.ensures) (from_none c.loop-first.low (variables c.args.one.now)) in
    none_first (variables c.args.one.now) (variables c.args.other.now) c.loop-first.low c.loop-first.invariant first

pub returns-in_default-least_from : goal.returns-in_default-least_from
returns-in_default-least_from c =
    let first = subst (IsLeastFrom c.loop-first.low (variables c.args.one.now)) (sym c.in-Some.ensures) (from_none c.loop-first.low (variables c.args.one.now)) in
    let second = subst (IsLeastFrom c.in-Some.first (variables c.args.other.now)) (sym c.in_default-least_from.ensures) (from_none c.in-Some.first (variables c.args.other.now)) in
    none_second (variables c.args.one.now) (variables c.args.other.now) c.loop-first.low c.loop-first.invariant c.in-Some.first first second

pub returns-then-first-second : goal.returns-then-first-second
returns-then-first-second c =
    let first = subst (IsLeastFrom c.loop-first.low (variables c.args.one.now)) (sym c.in-Some.ensures) (from_none c.loop-first.low (variables c.args.one.now)) in
    let second = subst (IsLeastFrom c.in-Some.first (variables c.args.other.now)) (sym c.in-Some-least_from.ensures) (from_none c.in-Some.first (variables c.args.other.now)) in
    both_found (variables c.args.one.now) (variables c.args.other.now) c.loop-first.low c.loop-first.invariant c.in-Some.first c.in-Some-least_from.second first second c.if-first-second.true

pub loop-first-smaller : goal.loop-first-smaller
loop-first-smaller c =
    let first = subst (IsLeastFrom c.loop-first.low (variables c.args.one.now)) (sym c.in-Some.ensures) (from_none c.loop-first.low (variables c.args.one.now)) in
    let second = subst (IsLeastFrom c.in-Some.first (variables c.args.other.now)) (sym c.in-Some-least_from.ensures) (from_none c.in-Some.first (variables c.args.other.now)) in
    omega (arith, first.1, second.1)

pub loop-first-preserved : goal.loop-first-preserved
loop-first-preserved c =
    let first = subst (IsLeastFrom c.loop-first.low (variables c.args.one.now)) (sym c.in-Some.ensures) (from_none c.loop-first.low (variables c.args.one.now)) in
    let second = subst (IsLeastFrom c.in-Some.first (variables c.args.other.now)) (sym c.in-Some-least_from.ensures) (from_none c.in-Some.first (variables c.args.other.now)) in
    none_between (variables c.args.one.now) (variables c.args.other.now) c.loop-first.low c.loop-first.invariant c.in-Some.first c.in-Some-least_from.second first second
