use Rattle.std.proofs.Common.{◌∙◌, sym, ap, Some}
use Rattle.std.specs.Str.Lossy.{utf8_lossy}
use Rattle.edit_unify.proofs.Replies.{told_by}
use Rattle.sheet_unify.specs.Answered.{refusal_of}
use Rattle.edit_unify.proofs.reply.fault_reply.Goals as goal

pub returns : goal.returns
returns c =
    told_by (refusal_of c.args.fault.now) c.as_slice.result.now (utf8_lossy c.args.name.now) c.error_reply.result (c.in_ok-line.ensures ∙ ap Some (sym c.as_slice.ensures)) c.error_reply.ensures
