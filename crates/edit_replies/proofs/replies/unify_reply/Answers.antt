use Rattle.std.proofs.Common.{refl}
use Rattle.edit_replies.proofs.Texts.{no_float}
use Rattle.edit_replies.proofs.replies.unify_reply.Goals as goal

pub value_line-requires : goal.value_line-requires
value_line-requires c = rw (c.in_ok-value.ensures, c.in_ok-name.ensures, c.in_ok-report.ensures, c.in_ok-text.ensures, no_float c.args.report.now) refl
