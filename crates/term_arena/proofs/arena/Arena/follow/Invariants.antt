use Rattle.std.proofs.Common.{◌≡◌, ◌<◌, length}
use Rattle.term_model.specs.Links.{end_of, hops_of}
use Rattle.term_arena.specs.Inside.{links_of}
use Rattle.term_arena.proofs.arena.Arena.follow.Given as goal

abbrev pub invariant-loop-to : goal.invariant-loop-to
invariant-loop-to l =
    let links = links_of l.self-inside.trail.entries l.self-inside.terms.bound in
    record {
      leads : end_of links l.at ≡ end_of links l.fn.id.0;
      below : l.at < length l.self-inside.terms.nodes;
    }

abbrev pub decreases-loop-to : goal.decreases-loop-to
decreases-loop-to l = hops_of (links_of l.self-inside.trail.entries l.self-inside.terms.bound) l.at
