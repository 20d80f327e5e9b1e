use Rattle.std.proofs.Common.{◌≡◌, map, take}
use Rattle.edit_model.specs.Sessions as session
use Rattle.serde_json.specs.View.{view}
use Rattle.edit_replies.proofs.line.text_values.Given as goal

abbrev pub invariant-loop-bytes : goal.invariant-loop-bytes
invariant-loop-bytes l = map view l.values.items ≡ map session.text_of (take l.bytes-index l.all)
