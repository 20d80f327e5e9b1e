use Rattle.std.proofs.Common.{false, [], ◌∷◌, ◌++◌, Some, ap, ◌∙◌}
use Rattle.mm_model.specs.Names.{Name}
use Rattle.sheet_text.specs.declared.sheet.SheetItem.TheVariants as item
use Rattle.export_model.specs.Exported.{number_name, step_with}
use Rattle.proof_export.specs.Books.{book_in}
use Rattle.proof_export.proofs.Growing.{formulas_more}
use Rattle.proof_export.proofs.steps.Steps.put_new.Goals as goal

pub returns-clause-formulas : goal.returns-clause-formulas
returns-clause-formulas c = λ fs has.
    formulas_more c.args.self.now c.put.new.self fs c.args.formula.now _ c.in_ok-number.number c.put_step.new.places.entries c.in_ok-put.ensures.items c.in_ok-put.ensures.places
    c.in_ok-number.ensures c.in_ok-put_step.ensures has

pub returns-clause-items : goal.returns-clause-items
returns-clause-items c =
    c.in_ok-put.ensures.items
    ∙ ap (λ (n : Name). c.args.self.now.items.items ++ item.Step (step_with (book_in c.args.frames.now []) false n c.args.places (Some c.args.label) c.args.formula.now) ∷ [])
    (c.in_ok-name.ensures ∙ ap number_name c.in_ok-number.ensures)
