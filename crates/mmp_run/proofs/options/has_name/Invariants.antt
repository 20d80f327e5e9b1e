use Rattle.std.proofs.Common.{◌≡◌, drop, map}
use Rattle.std.specs.String.{string_bytes}
use Rattle.call_answers.specs.CommandLine.{option_name}
use Rattle.mm_model.specs.Names.{contains}
use Rattle.mmp_run.proofs.options.has_name.Given as goal

abbrev pub invariant-loop-option : goal.invariant-loop-option
invariant-loop-option l = contains (map option_name (map string_bytes l.options)) l.name ≡ contains (map option_name (map string_bytes (drop l.option-index l.options))) l.name
