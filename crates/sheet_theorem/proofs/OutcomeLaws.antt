-- The place of what came of a worksheet is one of the database.
use Rattle.std.specs.Prelude.{◌≡◌, ◌≤◌, ℕ, List, length}
use Rattle.std.proofs.Common.{sym, ◌∙◌, subst}
use Rattle.mm_model.specs.Book.{Database}
use Rattle.mm_database.specs.Books.{database_of}
use Rattle.mm_database.specs.Opened.{Opened}
use Rattle.model_laws.specs.FrameLaws.{FramesHaveOwnExpressions}
use Rattle.sheet_unify.specs.declared.outcome.Outcome.{Outcome}
use Rattle.written_model.specs.declared.options.Options.{Options}
use Rattle.written_model.specs.Written.{Writing, Writes, Answers, wrote, written}
use Rattle.sheet_theorem.specs.Outcomes.{IsOutcomeOver}
use Rattle.sheet_theorem.proofs.PlaceLaws.{bound_within}

writes_of : (db : Database) (text : List ℕ) (options : Options) (w : Writing) → Answers db text options (wrote w) → Writes db text options w
writes_of db text options w (written e writes late) = writes

pub outcome_within : (d : Opened) (outcome : Outcome) → FramesHaveOwnExpressions → IsOutcomeOver d outcome → outcome.place ≤ length d.contents.entries
outcome_within d outcome own over =
    let db : Database = database_of over.options.kinds over.database d.rows d.parsed in
    let is = over.is_outcome in
    let writes = writes_of db over.sheet over.options is.writing is.answers in
    subst (λ (n : ℕ). n ≤ length d.contents.entries) (sym (is.written.place ∙ writes.binds.place)) (bound_within over.options.kinds over.database d over.opened own writes.reads.read)
