use Rattle.std.proofs.Common.{◌∙◌}
use Rattle.written_steps.proofs.uses.variables.Goals as goal
use Rattle.written_steps.proofs.Kept.{made_of, variables_are}

pub returns : goal.returns
returns c = λ kinds text opened a w.
    let m = made_of c.args.db.now c.args.by.now.label a w in
    c.vars.ensures m.parsed m.kept ∙ variables_are kinds text c.args.db.now c.args.by.now.label a m.parsed opened w m.kept
