use Rattle.std.proofs.Common.{◌≡◌, ◌^◌, ◌<◌, List, ℕ, sym, subst, ◌∙◌, arith}
use Rattle.std.proofs.lemmas.Result.{IfOk-weaker}
use Rattle.mm_model.specs.Names.{Name}
use Rattle.hyp_derive.specs.Naming.{AreNumbersOf, IsLeastName, numbered_name}
use Rattle.hyp_derive.proofs.NameLaws.{name_is, name_least}
use Rattle.hyp_derive.proofs.naming.step_name.Goals as goal

pub returns-clause-name : goal.returns-clause-name
returns-clause-name c =
    let are : AreNumbersOf c.args.used.now c.as_slice-2.result.now =
    subst (λ (ns : List ℕ). AreNumbersOf c.args.used.now ns) (sym c.as_slice-2.ensures.value)
    (subst (λ (names : List Name). AreNumbersOf names c.in_ok-numbers.numbers.items) c.as_slice.ensures c.in_ok-numbers.ensures) in
    let small : c.in_ok-number.number < 2 ^ 64 = omega (arith, c.in_ok-number.ensures.bounded, c.as_slice-2.type_inv) in
    IfOk-weaker c.derived.result (λ name. name ≡ numbered_name c.in_ok-number.number) _
    (λ name e. e ∙ name_is c.args.used.now c.as_slice-2.result.now c.in_ok-number.number are c.in_ok-number.ensures.least c.in_ok-number.ensures.bounded small) c.derived.ensures

pub returns-clause-least : goal.returns-clause-least
returns-clause-least c =
    let are : AreNumbersOf c.args.used.now c.as_slice-2.result.now =
    subst (λ (ns : List ℕ). AreNumbersOf c.args.used.now ns) (sym c.as_slice-2.ensures.value)
    (subst (λ (names : List Name). AreNumbersOf names c.in_ok-numbers.numbers.items) c.as_slice.ensures c.in_ok-numbers.ensures) in
    let small : c.in_ok-number.number < 2 ^ 64 = omega (arith, c.in_ok-number.ensures.bounded, c.as_slice-2.type_inv) in
    IfOk-weaker c.derived.result (λ name. name ≡ numbered_name c.in_ok-number.number) _
    (λ name e. subst (λ (n : Name). IsLeastName c.args.used.now n) (sym e)
    (name_least c.args.used.now c.as_slice-2.result.now c.in_ok-number.number are c.in_ok-number.ensures.least small)) c.derived.ensures
