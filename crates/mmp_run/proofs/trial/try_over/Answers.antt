use Rattle.std.proofs.Common.{◌∙◌, ℕ, List, subst, sym}
use Rattle.mm_database.specs.Books.{database_of}
use Rattle.mm_database.specs.Opened.{IsOpened}
use Rattle.sheet_unify.specs.Answered.{IsOutcome}
use Rattle.trial_texts.specs.TrialTexts.{trial_database}
use Rattle.written_model.specs.declared.options.Options.{Options}
use Rattle.mmp_run.proofs.Trials.{short_text, tried_ok}
use Rattle.mmp_run.proofs.trial.try_over.Goals as goal

pub end_outcome-requires : goal.end_outcome-requires
end_outcome-requires c =
    let opened : IsOpened c.args.options.now.kinds trial_database c.args.db.now = subst (λ (o : Options). IsOpened o.kinds trial_database c.args.db.now) (sym c.requires.options) c.requires.opened in
    short_text _ _ _ c.in-Ok.outcome (c.in-Ok.ensures.outcome trial_database opened)

pub returns-in-Ok-clause-answer : goal.returns-in-Ok-clause-answer
returns-in-Ok-clause-answer c =
    let opened : IsOpened c.args.options.now.kinds trial_database c.args.db.now = subst (λ (o : Options). IsOpened o.kinds trial_database c.args.db.now) (sym c.requires.options) c.requires.opened in
    tried_ok c.args.blocks c.args.options.now c.args.db.now c.in-Ok.outcome c.end_outcome.result c.requires.options c.requires.opened
    (subst
    (λ (t : List ℕ). IsOutcome
    (database_of c.args.options.now.kinds trial_database c.args.db.now.rows c.args.db.now.parsed) t c.args.options.now c.in-Ok.outcome)
    (c.as_slice.ensures ∙ c.in_ok-text.ensures)
    (c.in-Ok.ensures.outcome trial_database opened))
    c.end_outcome.ensures.told

pub unify_sheet-requires : goal.unify_sheet-requires
unify_sheet-requires c = record {
  opened = record {
    database = trial_database;
    opened = subst (λ (o : Options). IsOpened o.kinds trial_database c.args.db.now) (sym c.requires.options) c.requires.opened;
  };
}
