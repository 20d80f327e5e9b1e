-- Where no leaf has a name, nothing is renamed.
use Rattle.std.specs.Prelude.{◌≡◌, List, [], ◌∷◌, length, map, Option, Some, None, option_map, refl}
use Rattle.std.proofs.Common.{sym, ap, ◌∙◌, arith}
use Rattle.mm_base.specs.declared.tree.Tree.{Tree}
use Rattle.mm_base.specs.declared.tree.Tree.TheVariants.{Var}
use Rattle.solve_model.specs.Trees.{Open, work, fresh, leaf_tree}
use Rattle.solve_laws.proofs.ReplaceLaws.{replace-agree, replace-self}
use Rattle.written_model.specs.Named.{Naming, name_leaf, name_tree}
use Rattle.leaf_names.specs.Tables.{NamedLeaf, naming_of}
use Rattle.written_steps.specs.declared.draft.StepUse.{StepUse}
use Rattle.written_steps.specs.declared.draft.DraftItem.{DraftItem}
use Rattle.written_steps.specs.declared.draft.DraftItem.TheVariants as draft
use Rattle.written_steps.specs.declared.draft.DraftStep.{DraftStep}
use Rattle.step_naming.specs.Named.{rename_use, rename_item}

abbrev none : Naming
none = naming_of []

leaf_stays : (x : Open) → name_leaf none x ≡ leaf_tree x
leaf_stays (work c n) = refl
leaf_stays (fresh c n) = refl

tree_stays : (t : Tree) → name_tree none t ≡ t
tree_stays t = replace-agree (λ s c. Var s c) (λ s c. Var s c) (name_leaf none) leaf_tree (λ s c. refl) t (λ x o. leaf_stays x) ∙ replace-self t

trees_stay : (ts : List Tree) → map (name_tree none) ts ≡ ts
trees_stay [] = refl
trees_stay (t ∷ ts) = ap (λ u. u ∷ map (name_tree none) ts) (tree_stays t) ∙ ap (λ us. t ∷ us) (trees_stay ts)

abbrev with_values : StepUse → List Tree → StepUse
with_values u vs = record { label = u.label; values = vs }

use_stays : (o : Option StepUse) → option_map (rename_use none) o ≡ o
use_stays None = refl
use_stays (Some u) = ap (λ (vs : List Tree). Some (with_values u vs)) (trees_stay u.values)

abbrev with_trees : DraftStep → Tree → Option StepUse → DraftStep
with_trees s t o = record s { tree = t; by = o }

item_stays : (i : DraftItem) → rename_item none i ≡ i
item_stays (draft.Comment lines) = refl
item_stays (draft.Step s) =
    ap (λ (t : Tree). draft.Step (with_trees s t (option_map (rename_use none) s.by))) (tree_stays s.tree) ∙ ap (λ (o : Option StepUse). draft.Step (with_trees s s.tree o)) (use_stays s.by)

all_stay : (items : List DraftItem) → items ≡ map (rename_item none) items
all_stay [] = refl
all_stay (i ∷ items) = sym (ap (λ (x : DraftItem). x ∷ map (rename_item none) items) (item_stays i) ∙ ap (λ xs. i ∷ xs) (sym (all_stay items)))

pub items_stay : (given : List NamedLeaf) (items : List DraftItem) → length given ≡ 0 → items ≡ map (rename_item (naming_of given)) items
items_stay [] items e = all_stay items
items_stay (g ∷ given) items e = absurd (omega (arith, e))
