use Rattle.std.proofs.Common.{ℕ, Option, ap, sym, ◌∙◌}
use Rattle.std.specs.Option.{option_map_or}
use Rattle.sheet_text.specs.declared.sheet.Given.TheVariants as given
use Rattle.proof_export.proofs.steps.Steps.place.Goals as goal

pub returns-in-None : goal.returns-in-None
returns-in-None c = λ fs has.
    sym (ap (λ (o : Option ℕ). option_map_or (λ k. given.Step k) o given.Gap) (sym (has.places.each c.args.formula.now) ∙ sym c.in_ok-number.ensures ∙ c.in-None.is))

pub returns-in-Some : goal.returns-in-Some
returns-in-Some c = λ fs has.
    sym (ap (λ (o : Option ℕ). option_map_or (λ k. given.Step k) o given.Gap) (sym (has.places.each c.args.formula.now) ∙ sym c.in_ok-number.ensures ∙ c.in-Some.is))
