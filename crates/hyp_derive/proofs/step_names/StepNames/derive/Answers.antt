use Rattle.std.proofs.Common.{◌<◌, ◌^◌, List, ℕ, sym, subst, ◌∙◌, arith}
use Rattle.hyp_derive.specs.Naming.{HaveSameNames}
use Rattle.hyp_derive.proofs.NewNameLaws.{least_is_derived}
use Rattle.hyp_derive.proofs.step_names.StepNames.derive.Goals as goal

pub returns-clause-name : goal.returns-clause-name
returns-clause-name c = λ used have.
    let small : c.in_ok-number.number < 2 ^ 64 = omega arith in
    c.in_ok-name.ensures
    ∙ least_is_derived c.self.inside.names used c.in_ok-number.number (subst (λ (names : List (List ℕ)). HaveSameNames names used) (sym c.self.view_is) have) c.in_ok-number.ensures small
