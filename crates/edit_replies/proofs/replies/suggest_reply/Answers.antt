use Rattle.std.proofs.Common.{refl}
use Rattle.edit_replies.proofs.Texts.{no_float}
use Rattle.edit_replies.proofs.replies.suggest_reply.Goals as goal

pub value_line-requires : goal.value_line-requires
value_line-requires c = rw (c.in_ok-value.ensures, c.in_ok-name.ensures, c.in_ok-places.ensures, c.in_ok-label.ensures, no_float c.args.places.now) refl
