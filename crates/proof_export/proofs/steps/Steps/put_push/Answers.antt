use Rattle.std.proofs.Common.{Some, ◌∷◌, [], ◌++◌, length, false, ap, sym, ◌∙◌}
use Rattle.mm_model.specs.Names.{Name}
use Rattle.sheet_text.specs.declared.sheet.SheetItem.TheVariants as item
use Rattle.export_model.specs.Exported.{number_name, step_with}
use Rattle.proof_export.specs.Books.{book_in}
use Rattle.proof_export.proofs.Going.{goes_on, goes_past}
use Rattle.proof_export.proofs.steps.Steps.put_push.Goals as goal

pub returns-in-Some : goal.returns-in-Some
returns-in-Some c = λ provable taken rest are.
    goes_on (book_in c.args.frames.now provable) c.args.theorem.now c.args.self.now c.args.self.now c.args.label.now taken c.args.formula.now rest c.args.places are
    (sym c.same_formula.ensures ∙ c.if-same_formula.false) c.in-Some.field-0 (sym c.in-Some.is ∙ c.in_ok-number.ensures)

pub returns-in_ok-put_new-in-None : goal.returns-in_ok-put_new-in-None
returns-in_ok-put_new-in-None c = λ provable taken rest are.
    goes_past (book_in c.args.frames.now provable) c.args.theorem.now c.args.self.now c.put_new.new.self c.args.label.now taken c.args.formula.now rest c.args.places are
    (sym c.same_formula.ensures ∙ c.if-same_formula.false) (sym c.in-None.is ∙ c.in_ok-number.ensures) c.in_ok-put_new-in-None.ensures.formulas
    (c.in_ok-put_new-in-None.ensures.items
    ∙ ap
    (λ (n : Name). c.args.self.now.items.items
    ++ item.Step
    (step_with (book_in c.args.frames.now []) false (number_name (length c.args.self.now.items.items)) c.args.places
    (Some n) c.args.formula.now)
    ∷ [])
    c.in_ok-label.ensures)
