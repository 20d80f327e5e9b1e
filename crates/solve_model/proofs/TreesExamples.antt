-- Leaves of trees replaced, listed and compared, computed.
use Rattle.std.specs.Prelude.{◌≡◌, true, false, [], ◌∷◌, refl}
use Rattle.mm_base.specs.declared.tree.Tree.TheVariants.{Work, Fresh}
use Rattle.mm_model.specs.Names.{sym}
use Rattle.solve_model.specs.Trees.{work, fresh, replace, leaf_tree, open_leaves, variables, same_tree}
use Rattle.solve_model.specs.Example.{wff, ph, ps, ch, wi}
use Rattle.solve_model.proofs.TreeLaws.{replaces, leaves, same_trees}

pub open_of : open_leaves (wi (Fresh wff 3) (wi (Work wff 1) ph)) ≡ fresh wff 3 ∷ work wff 1 ∷ []
open_of = simp leaves refl

pub variables_of : variables (wi ph (wi (Work wff 1) ph)) ≡ sym 6 ∷ sym 6 ∷ []
variables_of = simp leaves refl

pub replaced : replace (λ s c. wi ch ch) leaf_tree (wi ph (Work wff 1)) ≡ wi (wi ch ch) (Work wff 1)
replaced = simp replaces refl

pub same : same_tree (wi ph (wi ps ph)) (wi ph (wi ps ph)) ≡ true
same = simp same_trees refl

pub not_same : same_tree (wi ph (wi ps ph)) (wi ph (wi ph ph)) ≡ false
not_same = simp same_trees refl

pub other_leaf : same_tree (Work wff 1) (Fresh wff 1) ≡ false
other_leaf = simp same_trees refl
