use Rattle.std.proofs.Common.{true, [], ◌∷◌, ◌++◌, ap, subst, ◌∙◌}
use Rattle.proof_model.specs.Machine.{Formula}
use Rattle.sheet_text.specs.declared.sheet.SheetItem.TheVariants as item
use Rattle.sheet_text.specs.declared.sheet.SheetStep.{SheetStep}
use Rattle.export_model.specs.Exported.{number_name}
use Rattle.proof_export.specs.Books.{book_in}
use Rattle.proof_export.specs.Leads.{HasFormulas}
use Rattle.proof_export.proofs.Growing.{formulas_more, same_step}
use Rattle.proof_export.proofs.steps.Steps.put_hyp.Goals as goal

pub returns-clause-formulas : goal.returns-clause-formulas
returns-clause-formulas c = λ fs has.
    subst (λ (f : Formula). HasFormulas c.put.new.self (fs ++ f ∷ [])) c.as_slice-formula.ensures (
    formulas_more c.args.self.now c.put.new.self fs c.as_slice-formula.result.now _ c.in_ok-number.number c.put_step.new.places.entries c.in_ok-put.ensures.items c.in_ok-put.ensures.places
    c.in_ok-number.ensures c.in_ok-put_step.ensures has)

pub returns-clause-items : goal.returns-clause-items
returns-clause-items c =
    c.in_ok-put.ensures.items
    ∙ ap (λ (s : SheetStep). c.args.self.now.items.items ++ item.Step s ∷ []) (
    same_step (book_in c.args.frames.now []) true _ _ _ _ _ _ _ _ (c.in_ok-name.ensures ∙ ap number_name c.in_ok-number.ensures)
    (c.from_vec-places.ensures ∙ c.new.ensures.items) (c.in_ok-label.ensures ∙ c.as_slice.ensures) c.as_slice-formula.ensures)
