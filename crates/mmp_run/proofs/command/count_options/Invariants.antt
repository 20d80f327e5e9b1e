use Rattle.std.proofs.Common.{◌≡◌, ◌+◌, drop, map}
use Rattle.std.specs.List.{prefix_len}
use Rattle.std.specs.String.{string_bytes}
use Rattle.call_answers.specs.CommandLine.{is_option}
use Rattle.mmp_run.proofs.command.count_options.Given as goal

abbrev pub invariant-loop-i : goal.invariant-loop-i
invariant-loop-i l = prefix_len is_option (map string_bytes l.words) ≡ l.i + prefix_len is_option (map string_bytes (drop l.i l.words))
