use Rattle.std.proofs.Common.{◌≡◌, ◌-◌}
use Rattle.call_answers.specs.CommandLine.{trial_number}
use Rattle.mmp_run.proofs.Blocks.{number_from}
use Rattle.mmp_run.proofs.command.read_blocks.Given as goal

abbrev pub invariant-loop-blocks : goal.invariant-loop-blocks
invariant-loop-blocks l = trial_number l.word ≡ number_from l.blocks (1001 - l.blocks) l.word
