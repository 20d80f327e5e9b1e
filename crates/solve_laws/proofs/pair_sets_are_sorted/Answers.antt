use Rattle.solve_laws.proofs.PairSetLaws.{holds_same, is_in_order}
use Rattle.solve_laws.proofs.pair_sets_are_sorted.Goals as goal

pub returns : goal.returns
returns c = record { same = holds_same; in_order = is_in_order }
