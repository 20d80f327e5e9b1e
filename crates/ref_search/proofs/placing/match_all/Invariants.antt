use Rattle.std.proofs.Common.{true}
use Rattle.ref_search.specs.Matching.{IsMatched, BecomeTo}
use Rattle.ref_search.proofs.placing.match_all.Given as goal

abbrev pub invariant-loop-i : goal.invariant-loop-i
invariant-loop-i l = IsMatched l.vars (BecomeTo l.i l.patterns l.trees) l.initial.bindings.items l.bindings.items true
