-- Trees, their texts, and an expression with two trees.
use Rattle.std.specs.Prelude.{◌≡◌, ◌==◌, ◌&&◌, ℕ, Bool, true, false, List, [], ◌∷◌, if◌then◌else◌, Some, None, refl}
use Rattle.std.proofs.Common.{ap, arith, lit<, ◌∙◌, subst, sym as turned}
use Rattle.std.proofs.lemmas.Bool.Decides.{nat_tests}
use Rattle.mm_base.specs.declared.symbols.Sym.{Sym}
use Rattle.mm_base.specs.Trees.{code_of}
use Rattle.mm_base.specs.declared.symbols.Label.{Label}
use Rattle.mm_base.specs.declared.symbols.Typecode.{Typecode}
use Rattle.mm_base.specs.declared.tree.Tree.{Tree}
use Rattle.mm_base.specs.declared.tree.Tree.TheVariants.{Var, Work, Fresh, Node}
use Rattle.mm_base.proofs.TreeFacts.{same_node}
use Rattle.mm_model.specs.declared.rows.Leaf.{Leaf}
use Rattle.mm_model.specs.declared.rows.Leaf.TheVariants as leaf
use Rattle.mm_model.specs.declared.rows.Production.{Production}
use Rattle.mm_model.specs.Names.{sym, label}
use Rattle.mm_model.specs.ProductionsExamples.{code, ab, kept_chained, kept_equal, cv, wceq, weqx}
use Rattle.mm_model.specs.Texts.{text}
use Rattle.mm_model.specs.Substitution.{Substitution, KeepsConstants, IsSubstitution, substitute, substitute_text}
use Rattle.mm_model.specs.Typed.{Parses, IsTyped, HasNoFresh}
use Rattle.mm_model.specs.Sizes.{nodes}
use Rattle.mm_model.proofs.TextLaws.{texts}
use Rattle.mm_model.proofs.SizeLaws.{node_counts}
use Rattle.mm_model.proofs.SubstitutionLaws.{substitutions}
use Rattle.mm_model.proofs.TypedLaws.{code-Node, code-Var, typed-Node, typed-Var, named-Node, named-Var}

abbrev C : List Production
C = kept_chained

-- a variable of a, and of b
abbrev x : Tree
x = Var (sym 5) (code 1)

abbrev y : Tree
y = Var (sym 6) (code 2)

-- `y t t x`: the first slot stands last in the text
abbrev tree : Tree
tree = Node (label 9) (code 2) (Node (label 8) (code 1) (x ∷ []) ∷ y ∷ [])

pub tree_text : text C tree ≡ leaf.Var (sym 6) (code 2) ∷ leaf.Const (sym 4) ∷ leaf.Const (sym 4) ∷ leaf.Var (sym 5) (code 1) ∷ []
tree_text = simp texts refl

pub tree_nodes : nodes tree ≡ 4
tree_nodes = simp node_counts refl

-- a chain's text is that of its variable; a work variable stands for itself, a fresh leaf in no text
pub chain_text : text C (Node (label 3) (code 2) (x ∷ [])) ≡ leaf.Var (sym 5) (code 1) ∷ []
chain_text = simp texts refl

pub open_text : text C (Node (label 9) (code 2) (Fresh (code 1) 7 ∷ Work (code 2) 3 ∷ [])) ≡ leaf.Work (code 2) 3 ∷ leaf.Const (sym 4) ∷ []
open_text = simp texts refl

-- ---- x for y by way of the chain; every other leaf stays

-- x as a tree of b
abbrev x_as_b : Tree
x_as_b = Node (label 3) (code 2) (x ∷ [])

abbrev y_is_x : Substitution
y_is_x (leaf.Const c) = None
y_is_x (leaf.Var v c) = if v.0 == 6 && c.0.0 == 2 then Some x_as_b else None
y_is_x (leaf.Work c n) = None

pub substituted : substitute y_is_x (Node (label 4) (code 3) (y ∷ [])) ≡ Node (label 4) (code 3) (x_as_b ∷ [])
substituted = simp substitutions refl

-- x, a work variable and a fresh leaf stay
pub stays : substitute y_is_x (Node (label 9) (code 2) (x ∷ Work (code 2) 3 ∷ Fresh (code 2) 7 ∷ [])) ≡ Node (label 9) (code 2) (x ∷ Work (code 2) 3 ∷ Fresh (code 2) 7 ∷ [])
stays = simp substitutions refl

pub substituted_text : substitute_text C y_is_x (leaf.Var (sym 6) (code 2) ∷ leaf.Const (sym 4) ∷ leaf.Var (sym 5) (code 1) ∷ leaf.Work (code 2) 3 ∷ [])
    ≡ leaf.Var (sym 5) (code 1) ∷ leaf.Const (sym 4) ∷ leaf.Var (sym 5) (code 1) ∷ leaf.Work (code 2) 3 ∷ []
substituted_text = simp texts refl

pub keeps_constants : KeepsConstants y_is_x
keeps_constants c = refl

x_as_b_typed : IsTyped C 6 x_as_b
x_as_b_typed = typed-Node C 6 (label 3) (code 2) (x ∷ []) (ab, refl, lit< tt, refl, ap (λ c. c ∷ []) (code-Var (sym 5) (code 1))) (typed-Var C 6 (sym 5) (code 1), tt)

at_variable : (v : Sym) (c : Typecode) (t : Tree) (a b : Bool) → (c.0.0 == 2) ≡ b → (if a && b then Some x_as_b else None) ≡ Some t → (code_of t ≡ c) × IsTyped C 6 t
at_variable v c t true true is e =
    let same : x_as_b ≡ t = cc in
    let number : c.0.0 ≡ 2 = grind (arith, nat_tests, is) in (
      ap code_of (turned same) ∙ code-Node (label 3) (code 2) (x ∷ []) ∙ turned (ap code number),
      subst (IsTyped C 6) same x_as_b_typed,
    )
at_variable v c t true false is e = absurd cc
at_variable v c t false b is e = absurd cc

pub is_substitution : IsSubstitution C 6 y_is_x
is_substitution (leaf.Const c) t e = absurd cc
is_substitution (leaf.Var v c) t e = at_variable v c t (v.0 == 6) (c.0.0 == 2) refl e
is_substitution (leaf.Work c n) t e = absurd cc

-- ---- `x = y`, where a production has just this text

abbrev E : List Production
E = kept_equal

abbrev set : ℕ → Tree
set n = Var (sym n) (code 2)

abbrev class : Tree → Tree
class t = Node (label 4) (code 1) (t ∷ [])

abbrev pub expression : List Leaf
expression = leaf.Var (sym 5) (code 2) ∷ leaf.Const (sym 3) ∷ leaf.Var (sym 6) (code 2) ∷ []

abbrev pub as_sets : Tree
as_sets = Node (label 6) (code 0) (set 5 ∷ set 6 ∷ [])

abbrev pub as_classes : Tree
as_classes = Node (label 5) (code 0) (class (set 5) ∷ class (set 6) ∷ [])

two_codes : (a b c d : Typecode) → a ≡ c → b ≡ d → ◌≡◌ {A = List Typecode} (a ∷ b ∷ []) (c ∷ d ∷ [])
two_codes a b c d p q = cc

set_typed : (n : ℕ) → IsTyped E 9 (set n)
set_typed n = typed-Var E 9 (sym n) (code 2)

class_typed : (n : ℕ) → IsTyped E 9 (class (set n))
class_typed n =
    typed-Node E 9 (label 4) (code 1) (set n ∷ []) (cv, refl, lit< tt, refl, ap (λ c. c ∷ []) (code-Var (sym n) (code 2))) (set_typed n, tt)

class_named : (n : ℕ) → HasNoFresh (class (set n))
class_named n = named-Node _ _ _ (named-Var (sym n) (code 2), tt)

-- below place 9 all three productions serve
pub by_sets : Parses E 9 expression (code 0) as_sets
by_sets = record {
  code = code-Node _ _ _;
  typed = typed-Node E 9 (label 6) (code 0) (set 5 ∷ set 6 ∷ []) (
    weqx,
    refl,
    lit< tt,
    refl,
    two_codes _ _ _ _ (code-Var (sym 5) (code 2)) (code-Var (sym 6) (code 2)),
  )
      (set_typed 5, (set_typed 6, tt));
  named = named-Node _ _ _ (named-Var (sym 5) (code 2), (named-Var (sym 6) (code 2), tt));
  written = simp texts refl;
}

pub by_classes : Parses E 9 expression (code 0) as_classes
by_classes = record {
  code = code-Node _ _ _;
  typed = typed-Node E 9 (label 5) (code 0) (class (set 5) ∷ class (set 6) ∷ []) (
    wceq,
    refl,
    lit< tt,
    refl,
    two_codes _ _ _ _ (code-Node _ _ _) (code-Node _ _ _),
  )
      (class_typed 5, (class_typed 6, tt));
  named = named-Node _ _ _ (class_named 5, (class_named 6, tt));
  written = simp texts refl;
}

pub trees_differ : as_sets ≡ as_classes → ⊥
trees_differ e = let numbers : 6 ≡ 5 = ap (λ (l : Label). l.0) (same_node _ _ _ _ _ _ e).label in let bad : ⊥ = omega (arith, numbers) in bad
