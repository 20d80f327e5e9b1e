use Rattle.std.proofs.Common.{◌≡◌, ◌<◌, ◌≤◌, ℕ, List, length, take, refl, ap, sym, subst, ◌∙◌, arith, ◌+◌}
use Rattle.std.proofs.lemmas.List.{take-take, length_push}
use Rattle.term_model.specs.Links.{Link, AreBelow}
use Rattle.term_arena.specs.Inside.{links_of}
use Rattle.term_arena.proofs.ArenaLaws.{arena_unbind, arena_cut, last_entry_below}
use Rattle.term_arena.proofs.arena.Arena.undo_to.Goals as goal

pub unbind-requires : goal.unbind-requires
unbind-requires c =
    let now = c.loop-i.self-inside in
    let within : c.in-Some.i < length now.terms.bound =
    last_entry_below now.terms.nodes now.terms.bound now.trail c.back_to.new.self now.walk.states now.ready c.in-Some.i c.loop-i.invariant.whole c.in-Some.ensures.0 in
    omega arith

pub loop-i-preserved : goal.loop-i-preserved
loop-i-preserved c =
    let now = c.loop-i.self-inside in
    let inv = c.loop-i.invariant in
    let less = c.back_to.new.self in
    let back = arena_unbind now.terms.nodes now.terms.bound now.trail less now.walk.states now.ready c.in-Some.i inv.whole c.in-Some.ensures.0 c.in-Some.ensures.2 in
    let shorter : length now.trail.entries ≡ length less.entries + 1 = ap length c.in-Some.ensures.0 ∙ length_push less.entries c.in-Some.i in
    let le : length less.entries ≤ length now.trail.entries = omega (arith, shorter) in
    record {
      whole = rw c.unbind.ensures back.0;
      front = rw c.unbind.ensures (back.1 ∙ ap (take (length less.entries)) inv.front ∙ take-take (length less.entries) (length now.trail.entries) _ le);
      nodes = rw c.unbind.ensures inv.nodes;
      ready = inv.ready;
      left = c.in-Some.ensures.1;
      fewer = omega (arith, shorter, inv.fewer);
    }

pub invariant_of-self : goal.invariant_of-self
invariant_of-self c =
    let now = c.loop-i.self-inside in
    let inv = c.loop-i.invariant in
    let was : List Link = links_of c.self.inside.trail.entries c.self.inside.terms.bound in
    let end = c.in_default.ensures in
    let links : links_of now.trail.entries now.terms.bound ≡ take c.args.mark.trail was = inv.front ∙ ap (λ (n : ℕ). take n was) end.0 in
    let kept : AreBelow c.args.mark.nodes (take c.args.mark.trail was) = rw (← c.self.view_is) at c.requires.kept in
    let within : c.args.mark.nodes ≤ length c.self.inside.terms.nodes = rw (← c.self.view_is) at c.requires.nodes in
    rw (c.cut.ensures, end.1)
    (arena_cut now.terms.nodes now.terms.bound now.trail now.walk.states now.ready c.args.mark.nodes (omega (arith, within, ap length inv.nodes))
    (subst (AreBelow c.args.mark.nodes) (sym links) kept) inv.whole).0

pub returns : goal.returns
returns c =
    let now = c.loop-i.self-inside in
    let inv = c.loop-i.invariant in
    let was : List Link = links_of c.self.inside.trail.entries c.self.inside.terms.bound in
    let end = c.in_default.ensures in
    let links : links_of now.trail.entries now.terms.bound ≡ take c.args.mark.trail was = inv.front ∙ ap (λ (n : ℕ). take n was) end.0 in
    let kept : AreBelow c.args.mark.nodes (take c.args.mark.trail was) = rw (← c.self.view_is) at c.requires.kept in
    let within : c.args.mark.nodes ≤ length c.self.inside.terms.nodes = rw (← c.self.view_is) at c.requires.nodes in
    let same =
    (arena_cut now.terms.nodes now.terms.bound now.trail now.walk.states now.ready c.args.mark.nodes (omega (arith, within, ap length inv.nodes))
    (subst (AreBelow c.args.mark.nodes) (sym links) kept) inv.whole).1 in
    rw (← c.self.view_is, c.cut.ensures, end.1, same, links, inv.nodes, inv.ready) refl
