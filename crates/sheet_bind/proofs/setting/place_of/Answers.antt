use Rattle.std.proofs.Common.{◌≡◌, ◌∙◌, ap, ℕ, Option, min}
use Rattle.std.specs.Option.{option_copied}
use Rattle.std.proofs.lemmas.Result.{IfOk-weaker}
use Rattle.mm_model.specs.declared.frames.Frame.{Frame}
use Rattle.sheet_bind.specs.declared.setting.Place.{Place}
use Rattle.sheet_bind.specs.Places.{place_by, place_number, sheet_place}
use Rattle.sheet_bind.specs.Seen.{existing_in}
use Rattle.model_laws.proofs.Checked.{no_statement_fault}
use Rattle.sheet_bind.proofs.PlaceLaws.{place_within}
use Rattle.sheet_bind.proofs.setting.place_of.Goals as goal

pub returns-clause-place : goal.returns-clause-place
returns-clause-place c = λ text is ok.
    let frames = c.args.frames.now in
    let kinds = c.args.kinds.now in
    let s = c.args.sheet.now in
    let frame = option_copied c.existing-frame.result in
    let at = c.at_most-place.result in
    let existing = c.existing-frame.ensures ∙ ap (existing_in frames) c.as_slice.ensures in
    let number = c.place_number.ensures text is ∙ ap (λ (f : Option Frame). place_number text frames f s.loc) existing in
    let place = c.at_most-place.ensures.least ∙ ap (λ (n : ℕ). min n c.end.result) number ∙ ap (min (place_number text frames (existing_in frames s.theorem) s.loc)) c.end.ensures
    ∙ place_within kinds text frames is ok c.frames_have_own_expressions.ensures s.theorem s.loc in
    let whole = ap (λ (f : Option Frame). place_by text frames kinds.logic f at) existing ∙ ap (place_by text frames kinds.logic (existing_in frames s.theorem)) place in
    IfOk-weaker c.place_at.result (λ (p : Place). p ≡ place_by text frames kinds.logic frame at) (λ (p : Place). p ≡ sheet_place text frames kinds.logic s) (λ p e. e ∙ whole)
    (c.place_at.ensures.place text is (no_statement_fault text ok))
