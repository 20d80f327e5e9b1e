use Rattle.std.proofs.Common.{◌≡◌, ℕ, List, ◌∙◌, sym, ap, subst, Option, Some, option_map, IfErr}
use Rattle.mm_model.specs.Faults.{fault}
use Rattle.sheet_text.specs.SheetStatements.{statement, tokens_in}
use Rattle.sheet_text.specs.Forms.{StepForm, step_of}
use Rattle.sheet_read.specs.Faults.{IsFault}
use Rattle.sheet_read.specs.Parts.{step_in_form, targets, line_in, lines_in}
use Rattle.sheet_read.specs.Reading.{step_code}
use Rattle.sheet_read.proofs.reader.Reader.step.Goals as goal

pub returns-clause-fault : goal.returns-clause-fault
returns-clause-fault c =
    let head = c.in-Some.head in
    let st : step_of (tokens_in (statement (line_in c.args.line.now) (lines_in c.args.more.now))) ≡ Some (step_in_form head (targets c.formula_of.result.now)) =
    ap (λ (ts : List (List ℕ)). step_of ts) (sym c.in_ok-tokens.ensures ∙ ap targets (sym c.as_slice-words.ensures.value)) ∙ c.in-Some.ensures.form
    ∙ ap (λ (ts : List (List ℕ)). Some (step_in_form head ts)) (sym c.formula_of.ensures) in
    subst
    (λ (o : Option StepForm). IfErr c.keep_step.result
    (λ e. IsFault e (option_map (λ code. fault c.args.line.now.number code) (step_code c.args.self.now.names o))))
    (sym st) c.keep_step.ensures.fault
