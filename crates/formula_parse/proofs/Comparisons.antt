-- Leaves and nodes differ, and what a comparison of typecodes says.
use Rattle.std.specs.Prelude.{◌==◌, true, false, ◌≡◌, ℕ, List, [], ◌∷◌}
use Rattle.std.proofs.Common.{arith, sym, ap, ◌∙◌}
use Rattle.std.proofs.lemmas.Bool.Decides.{nat_tests}
use Rattle.mm_base.specs.declared.symbols.Sym.{Sym}
use Rattle.mm_base.specs.declared.symbols.Typecode.{Typecode}
use Rattle.mm_base.specs.declared.tree.Tree.{Tree}
use Rattle.mm_base.specs.declared.tree.Tree.TheVariants.{Node}
use Rattle.mm_model.specs.declared.rows.Leaf.{Leaf}
use Rattle.mm_model.specs.declared.rows.Leaf.TheVariants as leaf
use Rattle.mm_model.specs.declared.rows.Production.{Production}
use Rattle.mm_base.proofs.TreeFacts.{var_is_no_node, work_is_no_node}
use Rattle.formula_parse.specs.Fits.{IsLeaf}

pub leaf_is_no_node : (e : List Leaf) (want : Typecode) (t : Tree) (r : Production) (ts : List Tree) → IsLeaf e want t → t ≡ Node r.label r.gives ts → ⊥
leaf_is_no_node [] want t r ts h is = h
leaf_is_no_node (leaf.Const s ∷ e) want t r ts h is = h
leaf_is_no_node (leaf.Var s c ∷ []) want t r ts h is = var_is_no_node s c r.label r.gives ts (sym h.1 ∙ is)
leaf_is_no_node (leaf.Work c n ∷ []) want t r ts h is = work_is_no_node c n r.label r.gives ts (sym h.1 ∙ is)
leaf_is_no_node (leaf.Var s c ∷ x ∷ e) want t r ts h is = h
leaf_is_no_node (leaf.Work c n ∷ x ∷ e) want t r ts h is = h

-- what a comparison of typecodes says
pub code_same : (a b : Typecode) → true ≡ (a.0.0 == b.0.0) → a ≡ b
code_same a b e =
    let is : a.0.0 ≡ b.0.0 = grind (arith, nat_tests) in
    ap (λ (n : ℕ). let s : Sym = record { 0 = n } in let c : Typecode = record { 0 = s } in c) is

pub code_other : (a b : Typecode) → false ≡ (a.0.0 == b.0.0) → a ≡ b → ⊥
code_other a b e same =
    let is = ap (λ (c : Typecode). c.0.0) same in
    grind (arith, nat_tests)
