use Rattle.std.proofs.Common.{◌≡◌, List, ℕ, sym, subst}
use Rattle.std.proofs.lemmas.Result.{IfOk-weaker}
use Rattle.hyp_derive.specs.Naming.{HaveSameNames, with_name}
use Rattle.hyp_derive.proofs.NewNameLaws.{same_with}
use Rattle.hyp_derive.proofs.step_names.StepNames.add.Goals as goal

pub returns-clause-extended : goal.returns-clause-extended
returns-clause-extended c =
    IfOk-weaker c.add_name.result (λ _. c.add_name.new.names ≡ with_name c.self.inside.names c.args.name.now) _
    (λ _ e used have.
    same_with c.self.inside.names c.add_name.new.names used c.args.name.now (subst (λ (names : List (List ℕ)). HaveSameNames names used) (sym c.self.view_is) have) e)
    c.add_name.ensures.added
