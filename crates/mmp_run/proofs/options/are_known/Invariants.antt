use Rattle.std.proofs.Common.{◌≡◌, drop, map}
use Rattle.std.specs.List.{list_all}
use Rattle.std.specs.String.{string_bytes}
use Rattle.mmp_run.specs.Shown.{known_by}
use Rattle.mmp_run.proofs.options.are_known.Given as goal

abbrev pub invariant-loop-option : goal.invariant-loop-option
invariant-loop-option l = list_all (known_by l.takes_in_place) (map string_bytes l.options) ≡ list_all (known_by l.takes_in_place) (map string_bytes (drop l.option-index l.options))
