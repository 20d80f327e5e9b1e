-- The variables of a tree, with their typecodes.
use Rattle.std.specs.Prelude.{List, [], ◌∷◌}
use Rattle.mm_base.specs.declared.symbols.Sym.{Sym}
use Rattle.mm_base.specs.declared.symbols.Typecode.{Typecode}
use Rattle.mm_base.specs.declared.tree.Tree.{Tree}
use Rattle.mm_base.specs.declared.tree.Tree.TheFolds.{fold-Tree}
use Rattle.mm_model.specs.Productions.{TypedVariable}
use Rattle.solve_model.specs.Trees.{layer_leaves, flatten}

abbrev pub typed : Sym → Typecode → TypedVariable
typed s c = record { sym = s; code = c }

-- the variables of a tree, in order
unfoldable pub typed_leaves : Tree → List TypedVariable
typed_leaves = fold-Tree (List TypedVariable) (layer_leaves (λ s c. typed s c ∷ []) (λ x. []) (λ l c xss. flatten xss))
