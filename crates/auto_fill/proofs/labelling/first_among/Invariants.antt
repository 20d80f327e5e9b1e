use Rattle.std.proofs.Common.{take}
use Rattle.std.specs.List.{AllByRecursion}
use Rattle.std.specs.Option.{option_copied}
use Rattle.ref_search.specs.Searching.{ForEachText}
use Rattle.auto_fill.specs.Walking.{wanted_of}
use Rattle.auto_fill.specs.Labelling.{NoTuple}
use Rattle.auto_fill.proofs.labelling.first_among.Given as goal

abbrev pub invariant-loop-label : goal.invariant-loop-label
invariant-loop-label l =
    ForEachText l.db (λ d. AllByRecursion (NoTuple d (option_copied l.sought.given) (wanted_of l.sought.trees.now l.sought.number) l.sought.places.now) (take l.label-index l.labels))
