use Rattle.std.proofs.Common.{sym, ◌∙◌}
use Rattle.proof_tree.proofs.NameLaws.{places_there, places_new}
use Rattle.proof_tree.proofs.coding.Places.put.Goals as goal

pub returns-then-contains : goal.returns-then-contains
returns-then-contains c = λ list are place. places_there list c.args.self.now.names c.args.self.now.places.items c.args.name.now (sym c.contains.ensures ∙ c.if-contains.true) are

pub returns : goal.returns
returns c = λ list are place.
    places_new list c.args.self.now.names c.add_name.new.names c.args.self.now.places.items c.push.new.self.items c.args.name.now c.args.place
    c.in_ok-add_name.ensures c.in_ok-push.ensures.items place are
