use Rattle.std.proofs.Common.{◌≤◌, ◌∙◌, ℕ, ap, length, subst}
use Rattle.std.proofs.lemmas.List.{length-map}
use Rattle.mm_frames.specs.Contents.{Contents}
use Rattle.mm_model.specs.Statements.{statements}
use Rattle.mmp_run.proofs.install.end_finished.Goals as goal

pub install-requires-clause-within : goal.install-requires-clause-within
install-requires-clause-within c =
    subst (λ (n : ℕ). c.args.outcome.now.place ≤ n) (ap (λ (x : Contents). length x.entries) c.requires.of_text ∙ length-map (statements c.args.text.now) _)
    (c.outcomes_have_places.ensures c.args.db.now c.args.outcome.now c.requires.over)
