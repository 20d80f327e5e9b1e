use Rattle.std.proofs.Common.{◌≡◌, fold, take, []}
use Rattle.frame_lists.specs.Places.{codes_more}
use Rattle.frame_lists.proofs.constants.float_codes.Given as goal

abbrev pub invariant-loop-entry : goal.invariant-loop-entry
invariant-loop-entry l = l.codes.items ≡ fold codes_more [] (take l.entry-index l.entries)
