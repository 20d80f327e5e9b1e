use Rattle.std.proofs.Common.{sym, subst}
use Rattle.std.proofs.lemmas.Result.{IfOk-weaker}
use Rattle.written_steps.specs.Drafts.{drafts_in}
use Rattle.sheet_writing.specs.Ambiguous.{HasTwoReadings, IsNamedFirst}
use Rattle.sheet_writing.proofs.FirstLaws.{name_of_first}
use Rattle.sheet_writing.proofs.ambiguous.ambiguous_step.Goals as goal

pub returns : goal.returns
returns c =
    let d = c.args.db.now in
    let items = c.args.items.now in
    IfOk-weaker c.first_ambiguous.result _ _
    (λ name is kinds text read options w opened same_kinds writes fit place same.
    name_of_first kinds text d opened c.written_trees_read_back.ensures read options w same_kinds writes fit items name same
    (subst (λ p. IsNamedFirst (HasTwoReadings d.rows p) (drafts_in items) name) (sym place) is)) c.first_ambiguous.ensures
