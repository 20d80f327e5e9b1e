use Rattle.std.proofs.Common.{◌≡◌, ◌∷◌, ◌++◌, [], arith}
use Rattle.term_arena.proofs.TermLaws.{terms_more, terms_push}
use Rattle.term_arena.proofs.terms.Terms.add.Goals as goal

pub invariant_of-self-2 : goal.invariant_of-self-2
invariant_of-self-2 c =
    let before = c.self.inside in
    let entries : c.push.new.self.items ≡ c.reserve.new.self.items ++ _ ∷ [] = rw c.unwrap.ensures at c.push.ensures.items in
    let bound : c.push-2.new.self.items ≡ c.reserve-2.new.self.items ++ _ ∷ [] = rw c.unwrap-2.ensures at c.push-2.ensures.items in
    rw (entries, bound, c.in_ok-extend_from_slice.ensures.items, c.in_ok-reserve.ensures.items, c.in_ok-reserve-2.ensures.items)
    (terms_more before.entries.items before.children.items c.args.children.now before.bound.items _ c.self.invariant (omega arith) c.requires (omega arith) (omega arith))

pub returns-clause-nodes : goal.returns-clause-nodes
returns-clause-nodes c =
    let before = c.self.inside in
    let entries : c.push.new.self.items ≡ c.reserve.new.self.items ++ _ ∷ [] = rw c.unwrap.ensures at c.push.ensures.items in
    rw (← c.self.view_is, entries, c.in_ok-extend_from_slice.ensures.items, c.in_ok-reserve.ensures.items)
    (terms_push before.entries.items before.children.items c.args.children.now _ c.self.invariant.packed (omega arith) c.requires)
