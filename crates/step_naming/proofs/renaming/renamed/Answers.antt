use Rattle.step_naming.proofs.StayLaws.{items_stay}
use Rattle.step_naming.proofs.renaming.renamed.Goals as goal

pub returns-then-is_empty : goal.returns-then-is_empty
returns-then-is_empty c = items_stay c.args.names.now.given c.args.items (c.is_empty.ensures.0 c.if-is_empty.true)
