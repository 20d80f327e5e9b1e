use Rattle.writing_laws.proofs.Counts.{formula_counted}
use Rattle.writing_laws.proofs.named_tree_has_count.Goals as goal

pub returns : goal.returns
returns c = formula_counted
