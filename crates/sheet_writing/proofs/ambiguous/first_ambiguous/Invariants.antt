use Rattle.std.proofs.Common.{drop, Option}
use Rattle.solve_model.specs.Firsts.{IsFirstOrNone}
use Rattle.written_steps.specs.declared.draft.DraftStep.{DraftStep}
use Rattle.written_steps.specs.Drafts.{drafts_in}
use Rattle.sheet_writing.specs.Ambiguous.{HasTwoReadings}
use Rattle.sheet_writing.proofs.ambiguous.first_ambiguous.Given as goal

abbrev pub invariant-loop-item : goal.invariant-loop-item
invariant-loop-item l =
    (o : Option DraftStep) → IsFirstOrNone (HasTwoReadings l.db.rows l.place) (drafts_in (drop l.item-index l.items)) o → IsFirstOrNone (HasTwoReadings l.db.rows l.place) (drafts_in l.items) o
