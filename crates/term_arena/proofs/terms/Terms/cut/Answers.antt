use Rattle.std.proofs.Common.{◌≤◌, length, refl, arith}
use Rattle.std.proofs.lemmas.List.{length-map}
use Rattle.term_arena.specs.Inside.{entry_term}
use Rattle.term_arena.proofs.TermLaws.{IsCutTo, terms_less}
use Rattle.term_arena.proofs.terms.Terms.cut.Goals as goal

less : (c : goal.After-truncate-3) → IsCutTo c.self.inside.entries.items c.self.inside.children.items c.truncate.new.self.items c.self.inside.bound.items c.args.count
less c =
    let now = c.self.inside in
    let few : c.args.count ≤ length now.entries.items = omega (arith, rw (← c.self.view_is) at c.requires, length-map now.entries.items (entry_term now.children.items)) in
    terms_less now.entries.items now.children.items c.truncate.new.self.items now.bound.items c.args.count _ c.self.invariant few
    (omega arith) (rw c.deref.ensures.value at c.children_before-kept.ensures.packed) c.truncate.ensures.items

pub invariant_of-self : goal.invariant_of-self
invariant_of-self c = rw (c.truncate-2.ensures.items, c.truncate-3.ensures.items) (less c).terms

pub returns : goal.returns
returns c = rw (← c.self.view_is, c.truncate-2.ensures.items, c.truncate-3.ensures.items, (less c).nodes) refl
