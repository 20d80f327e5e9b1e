-- What a use of an assertion says of pairs, variables and trees that are given as lists.
use Rattle.std.specs.Prelude.{◌≡◌, List, map}
use Rattle.mm_base.specs.declared.symbols.Sym.{Sym}
use Rattle.mm_base.specs.declared.symbols.Pair.{Pair}
use Rattle.mm_base.specs.declared.tree.Tree.{Tree}
use Rattle.mm_model.specs.Productions.{TypedVariable}
use Rattle.written_model.specs.WrittenSteps.{Use}

-- the pairs and variables are those of the assertion's frame, and the trees are their values
pub record IsUseOf (u : Use) (pairs : List Pair) (vars : List Sym) (trees : List Tree) : Type 0 where
  pub pairs_are : pairs ≡ u.assertion.frame.pairs
  pub vars_are : vars ≡ map (λ (v : TypedVariable). v.sym) u.assertion.vars
  pub trees_are : trees ≡ u.values
