-- The hash of a tree, by its kind.
use Rattle.std.proofs.Common.{◌≡◌, ℕ, ◌+◌, ◌<◌, ◌≤◌, List, fold, take, length, get_or, sym, ap, ◌∙◌}
use Rattle.std.proofs.lemmas.List.{take_all}
use Rattle.std.proofs.lemmas.List.Folds.{fold-map}
use Rattle.std.proofs.lemmas.List.Sums.{fold_more}
use Rattle.mm_base.specs.declared.symbols.Sym.{Sym}
use Rattle.mm_base.specs.declared.symbols.Label.{Label}
use Rattle.mm_base.specs.declared.symbols.Typecode.{Typecode}
use Rattle.mm_base.specs.declared.tree.Tree.{Tree}
use Rattle.mm_base.specs.declared.tree.Tree.TheVariants.{Var, Work, Fresh, Node}
use Rattle.mm_base.proofs.TreeFolds.{fold-Var, fold-Work, fold-Fresh, fold-Node}
use Rattle.hyp_derive.specs.Hashing.{mix, hash_layer, hash_of}

module _ (t : Tree) where
  pub hash-Var : (s : Sym) (c : Typecode) → t ≡ Var s c → mix (mix 1 s.0) c.0.0 ≡ hash_of t
  unfolding hash_of
  hash-Var s c is = sym (ap hash_of is ∙ fold-Var ℕ hash_layer s c)

  pub hash-Work : (c : Typecode) (n : ℕ) → t ≡ Work c n → mix (mix 2 n) c.0.0 ≡ hash_of t
  unfolding hash_of
  hash-Work c n is = sym (ap hash_of is ∙ fold-Work ℕ hash_layer c n)

  pub hash-Fresh : (c : Typecode) (n : ℕ) → t ≡ Fresh c n → mix (mix 3 n) c.0.0 ≡ hash_of t
  unfolding hash_of
  hash-Fresh c n is = sym (ap hash_of is ∙ fold-Fresh ℕ hash_layer c n)

abbrev pub mix_tree : ℕ → Tree → ℕ
mix_tree hash t = mix hash (hash_of t)

pub hash-Node : (t : Tree) (l : Label) (c : Typecode) (ts : List Tree) → t ≡ Node l c ts → fold mix_tree (mix 4 l.0) ts ≡ hash_of t
unfolding hash_of
hash-Node t l c ts is = sym (ap hash_of is ∙ fold-Node ℕ hash_layer l c ts ∙ fold-map mix hash_of (mix 4 l.0) ts)

-- one child more
pub child_more : (a : ℕ) (ts : List Tree) (i : ℕ) (t : Tree) (now next : ℕ) → i < length ts → t ≡ get_or ts i t → now ≡ fold mix_tree a (take i ts) → next ≡ mix now (hash_of t)
    → next ≡ fold mix_tree a (take (i + 1) ts)
child_more a ts i t now next h is n e =
    e ∙ ap (λ x. mix x (hash_of t)) n ∙ ap (λ x. mix_tree (fold mix_tree a (take i ts)) x) is ∙ sym (fold_more mix_tree a ts i t h)

pub all_children : (t : Tree) (l : Label) (c : Typecode) (ts us : List Tree) (i : ℕ) (start now : ℕ) → t ≡ Node l c ts → us ≡ ts → start ≡ mix 4 l.0 → length us ≤ i
    → now ≡ fold mix_tree start (take i us) → now ≡ hash_of t
all_children t l c ts us i start now is same s h n =
    n ∙ ap (fold mix_tree start) (take_all i us h ∙ same) ∙ ap (λ a. fold mix_tree a ts) s ∙ hash-Node t l c ts is
