use Rattle.std.proofs.Common.{take}
use Rattle.std.specs.List.{AllByRecursion}
use Rattle.std.specs.Option.{option_copied}
use Rattle.ref_search.specs.Searching.{ForEachText, NoFit}
use Rattle.ref_search.proofs.searching.first_among.Given as goal

abbrev pub invariant-loop-label : goal.invariant-loop-label
invariant-loop-label l = ForEachText l.db (λ d. AllByRecursion (NoFit d (option_copied l.sought.given) l.sought.wanted.now) (take l.label-index l.labels))
