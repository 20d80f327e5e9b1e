use Rattle.std.proofs.Common.{◌≡◌, drop, map}
use Rattle.std.specs.String.{string_bytes}
use Rattle.mmp_run.specs.Shown.{value_in}
use Rattle.mmp_run.proofs.options.find_value.Given as goal

abbrev pub invariant-loop-option : goal.invariant-loop-option
invariant-loop-option l = value_in l.name (map string_bytes l.options) ≡ value_in l.name (map string_bytes (drop l.option-index l.options))
