use Rattle.std.proofs.Common.{arith}
use Rattle.std.proofs.lemmas.List.{take_all}
use Rattle.term_arena.proofs.TermLaws.{packed_before}
use Rattle.term_arena.proofs.terms.children_before.Goals as goal

pub returns-in-Some : goal.returns-in-Some
returns-in-Some c =
    let found = c.in-Some.ensures.lookup in
    let both = packed_before c.args.entries.now c.args.all c.args.count c.in-Some.entry.now c.requires found.3.0 found.1 in
    record { packed = both.0; within = both.1 }

pub returns-in-None : goal.returns-in-None
returns-in-None c = record { packed = rw (take_all c.args.count c.args.entries.now c.in-None.ensures.lookup.3) c.requires; within = omega arith }
