use Rattle.std.proofs.Common.{◌≤◌, ◌^◌, ℕ, List, length, subst, sym}
use Rattle.mmp_run.proofs.Trials.{short_database, no_fault_told}
use Rattle.mmp_run.proofs.trial.try_text.Goals as goal

pub read_frames-requires : goal.read_frames-requires
read_frames-requires c = subst (λ (t : List ℕ). length t ≤ 2 ^ 28) (sym c.requires.text) short_database

pub want_of-requires-clause-no_other : goal.want_of-requires-clause-no_other
want_of-requires-clause-no_other c = no_fault_told c.args.text.now c.in-Err.fault c.requires.text c.in-Err.ensures.fault
