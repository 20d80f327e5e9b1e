use Rattle.std.proofs.Common.{sym, ◌∙◌}
use Rattle.leaf_names.proofs.NamedLaws.{named_before}
use Rattle.leaf_names.proofs.RoomLaws.{has_room}
use Rattle.leaf_names.proofs.given.add_leaf.Goals as goal

pub returns-then-contains_key-clause-added : goal.returns-then-contains_key-clause-added
returns-then-contains_key-clause-added c =
    named_before c.args.frames.now.symbols c.args.read.now.keys c.args.given.now.numbers.entries c.args.leaf (sym c.contains_key.ensures ∙ c.if-contains_key.true)

pub add_new-requires-clause-room : goal.add_new-requires-clause-room
add_new-requires-clause-room c = has_room c.args.frames.now.symbols c.args.read.now.keys c.args.given.now.numbers.entries c.args.given.now.last.items c.requires.few c.requires.kept c.args.leaf.0
