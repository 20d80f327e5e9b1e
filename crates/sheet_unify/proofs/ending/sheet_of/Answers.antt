use Rattle.std.proofs.Common.{◌≡◌, sym, ◌∙◌}
use Rattle.std.proofs.lemmas.Result.{IfOk-weaker}
use Rattle.written_model.specs.Written.{written_sheet}
use Rattle.sheet_unify.specs.Ended.{ForMadeOf}
use Rattle.sheet_unify.proofs.EndLaws.{IsSheetOf, sheet_made}
use Rattle.sheet_unify.proofs.ending.sheet_of.Goals as goal

pub returns : goal.returns
returns c =
    let d = c.args.db.now in
    let options = c.args.options.now in
    let sheet = c.args.sheet.now in
    let items = c.args.items.now in
    IfOk-weaker c.written_sheet.result (IsSheetOf d c.as_slice-provable.result.now sheet items c.as_slice.result.now)
    (λ s. ForMadeOf d options sheet c.args.bound.now items (λ db w. s ≡ written_sheet db options w))
    (λ s h. sheet_made d options sheet c.args.bound.now items c.as_slice-provable.result.now c.as_slice.result.now (sym c.as_slice-provable.ensures)
    (λ kinds text opened ordered. c.as_slice.ensures ∙ c.in_ok-pairs.ensures kinds text opened ordered) s h)
    c.written_sheet.ensures.writing
