use Rattle.std.proofs.Common.{◌≤◌, ◌-◌, length, drop, false}
use Rattle.mm_model.specs.Words.{words_from}
use Rattle.db_install.specs.Ends.{end_from}
use Rattle.db_install.proofs.EndLaws.{Goes}
use Rattle.db_install.proofs.place.statement_end.Given as goal

abbrev pub invariant-loop-begin : goal.invariant-loop-begin
invariant-loop-begin l =
    record {
      within : l.at ≤ length l.text;
      goes : Goes l.in_comment (words_from l.at (drop l.at l.text)) (end_from false (words_from l.start (drop l.start l.text)));
    }

abbrev pub decreases-loop-begin : goal.decreases-loop-begin
decreases-loop-begin l = length l.text - l.at
