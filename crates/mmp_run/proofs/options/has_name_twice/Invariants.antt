use Rattle.std.proofs.Common.{◌≡◌, drop, map}
use Rattle.std.specs.String.{string_bytes}
use Rattle.call_answers.specs.CommandLine.{option_name}
use Rattle.mm_model.specs.Names.{has_twice}
use Rattle.mmp_run.proofs.options.has_name_twice.Given as goal

abbrev pub invariant-loop-i : goal.invariant-loop-i
invariant-loop-i l = has_twice (map option_name (map string_bytes l.options)) ≡ has_twice (map option_name (map string_bytes (drop l.i l.options)))
