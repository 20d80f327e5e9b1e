use Rattle.std.proofs.Common.{◌≡◌, ◌≤◌, length, take}
use Rattle.term_arena.specs.Inside.{links_of, IsArena}
use Rattle.term_arena.proofs.arena.Arena.undo_to.Given as goal

abbrev pub invariant-loop-i : goal.invariant-loop-i
invariant-loop-i l =
    let now = l.self-inside in
    let was = l.initial.self-inside in
    record {
      whole : IsArena now.terms.nodes now.terms.bound now.trail now.walk.states now.ready;
      front : links_of now.trail.entries now.terms.bound ≡ take (length now.trail.entries) (links_of was.trail.entries was.terms.bound);
      nodes : now.terms.nodes ≡ was.terms.nodes;
      ready : now.ready ≡ was.ready;
      left : l.mark.trail ≤ length now.trail.entries;
      fewer : length now.trail.entries ≤ length was.trail.entries;
    }

abbrev pub decreases-loop-i : goal.decreases-loop-i
decreases-loop-i l = length l.self-inside.trail.entries
