use Rattle.std.proofs.Common.{◌∙◌}
use Rattle.std.specs.Str.Lossy.{utf8_lossy}
use Rattle.edit_unify.proofs.Replies.{with_same}
use Rattle.edit_unify.proofs.reply.outcome_reply.Goals as goal

pub returns : goal.returns
returns c = λ kinds database opened.
    with_same c.unify_reply.result (utf8_lossy c.args.name.now) c.args.outcome.now.finished c.as_slice.result.now _ c.as_slice-text.result.now c.args.outcome.now.text
    (c.as_slice.ensures ∙ c.in_ok-report.ensures kinds database opened) c.as_slice-text.ensures c.unify_reply.ensures
