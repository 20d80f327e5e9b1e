-- A formula with a tree of its text, one without a tree and one with two, and their faults.
use Rattle.std.specs.Prelude.{◌≡◌, ℕ, List, [], ◌∷◌, ◌++◌, Option, Some, None, codes, refl}
use Rattle.std.specs.Fmt.{digits}
use Rattle.std.proofs.Common.{sym, ap, ◌∙◌, arith, lit<}
use Rattle.mm_base.specs.declared.symbols.Label.{Label}
use Rattle.mm_base.specs.declared.symbols.Typecode.{Typecode}
use Rattle.mm_base.specs.declared.tree.Tree.{Tree}
use Rattle.mm_base.specs.declared.tree.Tree.TheVariants.{Var, Node}
use Rattle.mm_base.proofs.TreeFacts.{same_node}
use Rattle.mm_base.proofs.TreeInduction.{tree_ind}
use Rattle.mm_model.specs.declared.rows.Item.TheVariants.{Const, Slot}
use Rattle.mm_model.specs.declared.rows.Leaf.{Leaf}
use Rattle.mm_model.specs.declared.rows.Leaf.TheVariants as leaf
use Rattle.mm_model.specs.declared.rows.Production.{Production}
use Rattle.mm_model.specs.Names.{sym as symbol, label}
use Rattle.mm_model.specs.Typed.{IsTyped, HasNoFresh}
use Rattle.mm_model.specs.Texts.{text}
use Rattle.mm_model.specs.Book.{Database}
use Rattle.mm_model.proofs.TextLaws.{texts, text-Var, text-Work, text-Fresh}
use Rattle.mm_model.proofs.TypedLaws.{code-Var, code-Node, typed-Node, typed-Var, typed_here, named-Node, named-Var}
use Rattle.solve_model.specs.BindFaults.{BindFaultAt, no_tree, two_trees}
use Rattle.solve_model.specs.ExampleSheets.{sheet}
use Rattle.solve_model.specs.Formulas.{expression_of, IsTreeOf, HasNoTree, HasTwoTrees}
use Rattle.solve_model.specs.Example.{P, Q, split, wff, setvar, class, ph, ps, x, y, cv, wi, wceq, rows}

-- ---- `( ph -> ps )`

two_codes : (a b c d : Typecode) → a ≡ c → b ≡ d → ◌≡◌ {A = List Typecode} (a ∷ b ∷ []) (c ∷ d ∷ [])
two_codes a b c d p q = cc

pub implication : IsTreeOf P 14 (split (codes "|- ( ph -> ps )")) (wi ph ps)
unfolding digits
implication = record {
  code = code-Node _ _ _;
  typed = typed-Node P.rows 14 (label 4) wff (ph ∷ ps ∷ []) (_, refl, lit< tt, refl, two_codes _ _ _ _ (code-Var (symbol 6) wff) (code-Var (symbol 7) wff))
      (typed-Var P.rows 14 (symbol 6) wff, (typed-Var P.rows 14 (symbol 7) wff, tt));
  named = named-Node _ _ _ (named-Var (symbol 6) wff, (named-Var (symbol 7) wff, tt));
  written = simp texts refl;
}

-- ---- two variables beside each other, where there are no productions

abbrev bare : Database
bare = record P { rows = [] }

abbrev two_variables : List Leaf
two_variables = leaf.Var (symbol 6) wff ∷ leaf.Var (symbol 7) wff ∷ []

two_leaves : expression_of bare 14 (split (codes "|- ph ps")) ≡ two_variables
unfolding digits
two_leaves = refl

no_text : (t : Tree) → IsTyped [] 14 t → text [] t ≡ two_variables → ⊥
no_text = tree_ind (λ t. IsTyped [] 14 t → text [] t ≡ two_variables → ⊥)
    (λ s c h e. let same : leaf.Var s c ∷ [] ≡ two_variables = sym (text-Var [] s c) ∙ e in cc)
    (λ c n h e. let same : leaf.Work c n ∷ [] ≡ two_variables = sym (text-Work [] c n) ∙ e in cc)
    (λ c n h e. let same : ◌≡◌ {A = List Leaf} [] two_variables = sym (text-Fresh [] c n) ∙ e in cc)
    (λ l c ts i h e. let row = typed_here [] 14 l c ts h in let none : ◌≡◌ {A = Option Production} None (Some row.0) = row.1 in cc)

pub without_tree : HasNoTree bare 14 (split (codes "|- ph ps"))
without_tree t p = no_text t p.typed (p.written ∙ two_leaves)

-- 67 at the step that has it
pub is_no_tree : BindFaultAt bare (sheet (codes "r") (codes "1:: |- ph ps" ∷ codes "qed:: |- ps" ∷ [])) 2 67
unfolding digits
is_no_tree = no_tree 0 refl refl without_tree

-- ---- `x = y`, where a further production has this text

abbrev equals : Production
equals = record { label = label 29; at = 46; gives = wff; items = Slot 0 ∷ Const (symbol 14) ∷ Slot 1 ∷ []; slots = setvar ∷ setvar ∷ [] }

abbrev doubled : Database
doubled = record Q { rows = rows ++ equals ∷ []; statement_count = 47 }

abbrev as_sets : Tree
as_sets = Node (label 29) wff (x ∷ y ∷ [])

abbrev as_classes : Tree
as_classes = wceq (cv x) (cv y)

x_typed : IsTyped doubled.rows 47 x
x_typed = typed-Var doubled.rows 47 (symbol 16) setvar

y_typed : IsTyped doubled.rows 47 y
y_typed = typed-Var doubled.rows 47 (symbol 17) setvar

class_typed : (n : ℕ) → IsTyped doubled.rows 47 (cv (Var (symbol n) setvar))
class_typed n =
    typed-Node doubled.rows 47 (label 14) class (Var (symbol n) setvar ∷ []) (_, refl, lit< tt, refl, ap (λ c. c ∷ []) (code-Var (symbol n) setvar))
    (typed-Var doubled.rows 47 (symbol n) setvar, tt)

class_named : (n : ℕ) → HasNoFresh (cv (Var (symbol n) setvar))
class_named n = named-Node _ _ _ (named-Var (symbol n) setvar, tt)

differ : as_sets ≡ as_classes → ⊥
differ e = let numbers : 29 ≡ 16 = ap (λ (l : Label). l.0) (same_node _ _ _ _ _ _ e).label in let bad : ⊥ = omega (arith, numbers) in bad

pub with_two_trees : HasTwoTrees doubled 47 (split (codes "|- x = y"))
unfolding digits
with_two_trees = record {
  one = as_sets;
  other = as_classes;
  one_parses = record {
    code = code-Node _ _ _;
    typed = typed-Node doubled.rows 47 (label 29) wff (x ∷ y ∷ []) (_, refl, lit< tt, refl, two_codes _ _ _ _ (code-Var (symbol 16) setvar) (code-Var (symbol 17) setvar)) (x_typed, (y_typed, tt));
    named = named-Node _ _ _ (named-Var (symbol 16) setvar, (named-Var (symbol 17) setvar, tt));
    written = simp texts refl;
  };
  other_parses = record {
    code = code-Node _ _ _;
    typed = typed-Node doubled.rows 47 (label 16) wff (cv x ∷ cv y ∷ []) (_, refl, lit< tt, refl, two_codes _ _ _ _ (code-Node _ _ _) (code-Node _ _ _)) (class_typed 16, (class_typed 17, tt));
    named = named-Node _ _ _ (class_named 16, (class_named 17, tt));
    written = simp texts refl;
  };
  differ = differ;
}

-- 68 at the step that has it
pub is_two_trees : BindFaultAt doubled (sheet (codes "r") (codes "qed:: |- x = y" ∷ [])) 2 68
unfolding digits
is_two_trees = two_trees 0 refl refl with_two_trees
