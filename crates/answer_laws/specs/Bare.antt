-- Trees whose fresh leaves have no number.
use Rattle.mm_base.specs.declared.tree.Tree.{Tree}
use Rattle.mm_base.specs.declared.tree.Tree.TheVariants.{Work, Fresh}
use Rattle.solve_model.specs.Trees.{work, fresh}
use Rattle.solve_model.specs.MostGeneral.{Refinement, refine}

-- each fresh leaf gets the number 0
abbrev pub unnumbered_leaf : Refinement
unnumbered_leaf (work c n) = Work c n
unnumbered_leaf (fresh c n) = Fresh c 0

-- the tree without the numbers of its fresh leaves
abbrev pub bare : Tree → Tree
bare t = refine unnumbered_leaf t
