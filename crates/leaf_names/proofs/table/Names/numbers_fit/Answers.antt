use Rattle.std.proofs.Common.{ap, ◌∙◌}
use Rattle.leaf_names.specs.Leaves.{fresh_leaf}
use Rattle.leaf_names.specs.Tables.{Table, naming_of}
use Rattle.leaf_names.proofs.NumberLaws.{numbers_of}
use Rattle.leaf_names.proofs.table.Names.numbers_fit.Goals as goal

pub returns : goal.returns
returns c code n k e =
    numbers_of c.self.inside.given.numbers.entries (fresh_leaf code.0.0 n) k (c.self.invariant.1).in_range (ap (λ (t : Table). naming_of t.given code n) c.self.view_is ∙ e)
