use Rattle.std.proofs.Common.{take}
use Rattle.std.specs.Option.{option_copied}
use Rattle.ref_search.specs.Fitting.{AreFittingAmong}
use Rattle.ref_search.specs.Searching.{ForEachText}
use Rattle.ref_search.proofs.fitting.fitting_among.Given as goal

abbrev pub invariant-loop-label : goal.invariant-loop-label
invariant-loop-label l = ForEachText l.db (λ d. AreFittingAmong d (option_copied l.sought.given) l.sought.wanted.now l.bound (take l.label-index l.labels) l.fitting.items)
