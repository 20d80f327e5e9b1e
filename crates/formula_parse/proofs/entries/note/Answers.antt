use Rattle.formula_parse.proofs.Noting.{added_stay, added_there}
use Rattle.formula_parse.proofs.entries.note.Goals as goal

pub returns-clause-noted : goal.returns-clause-noted
returns-clause-noted c = λ l. added_there c.args.later.now c.add.new.self c.args.end c.args.place c.in_ok-add.ensures.added

pub returns-clause-kept : goal.returns-clause-kept
returns-clause-kept c = added_stay c.args.later.now c.add.new.self c.args.end c.args.place c.in_ok-add.ensures.added
