use Rattle.std.proofs.Common.{◌≡◌, Bool, List, subst, sym}
use Rattle.mm_database.specs.Opened.{Opened}
use Rattle.sheet_text.specs.declared.sheet.Sheet.{Sheet}
use Rattle.solve_model.specs.declared.bound.Bound.{Bound}
use Rattle.written_model.specs.declared.options.Options.{Options}
use Rattle.written_model.specs.declared.report.ReportLine.{ReportLine}
use Rattle.written_model.specs.Written.{written_sheet}
use Rattle.written_steps.specs.declared.draft.DraftItem.{DraftItem}
use Rattle.written_steps.specs.Drafts.{book}
use Rattle.sheet_unify.specs.Answered.{IsOutcome}
use Rattle.sheet_unify.specs.Ended.{ForMadeOf, IsKept, IsReported}
use Rattle.sheet_unify.proofs.EndLaws.{printed_made, text_faulty}
use Rattle.sheet_unify.proofs.LateLaws.{fault_answered, outcome_answered, provable}
use Rattle.sheet_unify.proofs.ending.outcome_with.Goals as goal

-- the report on the slice is that on the items
reported_of : (d : Opened) (options : Options) (bound : Bound) (slice items : List DraftItem) (report : List ReportLine) (finished : Bool)
    → slice ≡ items → IsReported d options bound slice report finished
    → IsReported d options bound items report finished
reported_of d options bound slice items report finished e h = subst (λ is. IsReported d options bound is report finished) e h

-- what is written of the slice is what is written of the items
made_of_items : (d : Opened) (options : Options) (sheet : Sheet) (bound : Bound) (slice items : List DraftItem) (written : Sheet) → slice ≡ items
    → ForMadeOf d options sheet bound slice (λ db w. written ≡ written_sheet db options w) → ForMadeOf d options sheet bound items (λ db w. written ≡ written_sheet db options w)
made_of_items d options sheet bound slice items written e h = subst (λ is. ForMadeOf d options sheet bound is (λ db w. written ≡ written_sheet db options w)) e h

pub printed-requires-clause-provable : goal.printed-requires-clause-provable
printed-requires-clause-provable c =
    let t = c.requires.texts in
    provable c.args.db.now c.args.options.now c.args.sheet.now c.args.bound.now c.args.items t.database t.text t.opened t.bound_sheet (c.requires.drafted t.database t.text t.opened t.bound_sheet)
    c.in-Ok.report c.in-Ok.finished
    (reported_of c.args.db.now c.args.options.now c.args.bound.now c.as_slice-steps.result.now c.args.items c.in-Ok.report c.in-Ok.finished
    c.as_slice-steps.ensures c.in-Ok.ensures)

pub returns-in-Ok-printed-clause-outcome : goal.returns-in-Ok-printed-clause-outcome
returns-in-Ok-printed-clause-outcome c = λ database text opened bound_sheet.
    let d = c.args.db.now in
    let options = c.args.options.now in
    subst (IsOutcome (book options.kinds database d) text options) (sym c.outcome_from.ensures)
    (outcome_answered d options c.args.sheet.now c.args.bound.now c.args.items database text opened bound_sheet
    (c.requires.drafted database text opened bound_sheet) c.in-Ok.report c.in-Ok.finished
    (reported_of d options c.args.bound.now c.as_slice-steps.result.now c.args.items c.in-Ok.report c.in-Ok.finished
    c.as_slice-steps.ensures c.in-Ok.ensures)
    (c.answer_is_fixed.ensures (book options.kinds database d) text options) c.in-Ok-printed.printed c.in-Ok-kept_of.kept
    (subst (λ is. IsKept c.args.bound.now is c.in-Ok-kept_of.kept) c.as_slice-steps.ensures c.in-Ok-kept_of.ensures) c.requires.checked
    (printed_made d options c.args.sheet.now c.args.bound.now c.args.items c.in-Ok.finished c.in-Ok-sheet_of.written
    (made_of_items d options c.args.sheet.now c.args.bound.now c.as_slice-steps.result.now c.args.items c.in-Ok-sheet_of.written c.as_slice-steps.ensures c.in-Ok-sheet_of.ensures)
    c.in-Ok-printed.printed c.in-Ok-printed.ensures.printed))

pub returns-in-Err-printed-clause-fault : goal.returns-in-Err-printed-clause-fault
returns-in-Err-printed-clause-fault c = λ database text opened bound_sheet.
    let d = c.args.db.now in
    let options = c.args.options.now in
    fault_answered d options c.args.sheet.now c.args.bound.now c.args.items database text opened bound_sheet
    (c.requires.drafted database text opened bound_sheet) c.in-Ok.report c.in-Ok.finished
    (reported_of d options c.args.bound.now c.as_slice-steps.result.now c.args.items c.in-Ok.report c.in-Ok.finished
    c.as_slice-steps.ensures c.in-Ok.ensures) c.in-Err-printed.fault c.requires.checked
    (text_faulty d options c.args.sheet.now c.args.bound.now c.args.items c.in-Ok.finished c.in-Ok-sheet_of.written
    (made_of_items d options c.args.sheet.now c.args.bound.now c.as_slice-steps.result.now c.args.items c.in-Ok-sheet_of.written c.as_slice-steps.ensures c.in-Ok-sheet_of.ensures)
    c.in-Err-printed.fault c.in-Err-printed.ensures.fault)
