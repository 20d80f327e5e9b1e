use Rattle.std.proofs.Common.{◌≡◌, ◌∙◌, sym, ap, subst, false, List, ℕ}
use Rattle.mm_model.specs.Names.{contains}
use Rattle.sheet_text.specs.Forms.{parts_of}
use Rattle.sheet_read.specs.Parts.{step_in_form, targets}
use Rattle.sheet_read.specs.Reading.{Reading, AreGiven}
use Rattle.sheet_read.proofs.StepCodes.{step-misplaced, step-fits, known}
use Rattle.sheet_read.proofs.reader.Reader.keep_step.Goals as goal

pub returns-then-is_misplaced-clause-fault : goal.returns-then-is_misplaced-clause-fault
returns-then-is_misplaced-clause-fault c =
    let names = c.args.self.now.names in
    let names_are : c.self.inside.names ≡ names = ap (λ (r : Reading). r.names) c.self.view_is in
    let new : contains c.self.inside.names c.args.head.now.name.now ≡ false = sym c.contains.ensures ∙ c.if-contains.false in
    let entries = parts_of c.args.head.now.places.now in
    let given = subst (λ (ns : List (List ℕ)). AreGiven ns entries c.in_ok-places_of.field-0) names_are c.in_ok-places_of.ensures in
    step-misplaced names (step_in_form c.args.head.now (targets c.args.formula.now)) c.args.line
    (sym (ap (λ (ns : List (List ℕ)). contains ns c.args.head.now.name.now) names_are) ∙ new)
    (known names entries c.in_ok-places_of.field-0 c.in-Some.places c.in-Some.is given)
    (sym (c.is_misplaced.ensures (targets c.args.formula.now)) ∙ c.if-is_misplaced.true)

pub returns-clause-no_fault : goal.returns-clause-no_fault
returns-clause-no_fault c =
    let names = c.args.self.now.names in
    let names_are : c.self.inside.names ≡ names = ap (λ (r : Reading). r.names) c.self.view_is in
    let new : contains c.self.inside.names c.args.head.now.name.now ≡ false = sym c.contains.ensures ∙ c.if-contains.false in
    let entries = parts_of c.args.head.now.places.now in
    let given = subst (λ (ns : List (List ℕ)). AreGiven ns entries c.in_ok-places_of.field-0) names_are c.in_ok-places_of.ensures in
    step-fits names (step_in_form c.args.head.now (targets c.args.formula.now))
    (sym (ap (λ (ns : List (List ℕ)). contains ns c.args.head.now.name.now) names_are) ∙ new)
    (known names entries c.in_ok-places_of.field-0 c.in-Some.places c.in-Some.is given)
    (sym (c.is_misplaced.ensures (targets c.args.formula.now)) ∙ c.if-is_misplaced.false)
