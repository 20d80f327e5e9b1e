-- New trees, one wanted tree after the other. This is part of the proof, and not of the claim.
use Rattle.std.specs.Prelude.{List, [], ◌∷◌, ◌++◌, if◌then◌else◌}
use Rattle.std.specs.List.{list_any}
use Rattle.mm_base.specs.declared.tree.Tree.{Tree}
use Rattle.solve_model.specs.Trees.{same_tree}

-- the new trees, with a wanted one behind them unless an equal one is there
abbrev pub with_tree : List Tree → List Tree → Tree → List Tree
with_tree earlier made tree = if list_any (same_tree tree) (earlier ++ made) then made else made ++ tree ∷ []
