-- What differs between trees, and their typecodes.
use Rattle.std.proofs.Common.{◌≡◌, ℕ, List, ap, sym, ◌∙◌}
use Rattle.mm_base.specs.declared.symbols.Sym.{Sym}
use Rattle.mm_base.specs.declared.symbols.Label.{Label}
use Rattle.mm_base.specs.declared.symbols.Typecode.{Typecode}
use Rattle.mm_base.specs.declared.tree.Tree.{Tree, out-Tree}
use Rattle.mm_base.specs.declared.tree.Tree.TheOpen.{Tree-F}
use Rattle.mm_base.specs.declared.tree.Tree.TheVariants as tree
use Rattle.mm_base.specs.declared.tree.Tree.TheVariants.{outs-Var, outs-Fresh, outs-Node}
use Rattle.mm_base.specs.Trees.{layer_code, code_of}
use Rattle.mm_base.proofs.TreeFacts.{same_node, var_is_no_node}

pub code_of-Var : (s : Sym) (code : Typecode) → code_of (tree.Var s code) ≡ code
code_of-Var s code = ap layer_code (outs-Var s code)

pub code_of-Fresh : (code : Typecode) (n : ℕ) → code_of (tree.Fresh code n) ≡ code
code_of-Fresh code n = ap layer_code (outs-Fresh code n)

pub code_of-Node : (label : Label) (code : Typecode) (kids : List Tree) → code_of (tree.Node label code kids) ≡ code
code_of-Node label code kids = ap layer_code (outs-Node label code kids)

-- two equal productions have equal labels, typecodes and children
pub Node-parts : (l m : Label) (c d : Typecode) (xs ys : List Tree) → tree.Node l c xs ≡ tree.Node m d ys → (l ≡ m) × (c ≡ d) × (xs ≡ ys)
Node-parts l m c d xs ys e = let same = same_node l m c d xs ys e in (same.label, same.code, same.children)

pub Var-parts : (s t : Sym) (c d : Typecode) → tree.Var s c ≡ tree.Var t d → (s ≡ t) × (c ≡ d)
Var-parts s t c d e =
    let out : ◌≡◌ {A = Tree-F Tree} (Tree-F.Var s c) (Tree-F.Var t d) = sym (outs-Var s c) ∙ ap out-Tree e ∙ outs-Var t d in
    (cc, cc)

pub Var-no-Node : (s : Sym) (c : Typecode) (m : Label) (d : Typecode) (ys : List Tree) → tree.Var s c ≡ tree.Node m d ys → ⊥
Var-no-Node s c m d ys e = var_is_no_node s c m d ys e
