use Rattle.std.proofs.Common.{◌∙◌}
use Rattle.std.proofs.lemmas.Result.{IfOk-weaker}
use Rattle.written_steps.specs.Drafts.{items_in}
use Rattle.sheet_writing.proofs.BookLaws.{sheet_is, sheet_written}
use Rattle.sheet_writing.proofs.writing.written_sheet.Goals as goal

pub returns-clause-fields : goal.returns-clause-fields
returns-clause-fields c =
    IfOk-weaker c.draft_sheet.result _ _
    (λ s is kinds text opened provable.
    is ∙ sheet_is kinds text c.args.db.now opened c.args.provable.now c.args.sheet.now.theorem c.args.sheet.now.loc c.args.items.now c.args.pairs.now provable) c.draft_sheet.ensures

pub returns-clause-writing : goal.returns-clause-writing
returns-clause-writing c =
    IfOk-weaker c.draft_sheet.result _ _
    (λ s is kinds text options w opened provable theorem loc items pairs.
    is ∙ sheet_is kinds text c.args.db.now opened c.args.provable.now c.args.sheet.now.theorem c.args.sheet.now.loc c.args.items.now c.args.pairs.now provable
    ∙ sheet_written kinds text c.args.db.now opened options w c.args.sheet.now.theorem c.args.sheet.now.loc
    (items_in c.args.db.now c.args.items.now) c.args.pairs.now theorem loc items pairs) c.draft_sheet.ensures
