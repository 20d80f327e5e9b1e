-- The general solution of a solved store: each unbound free node has a leaf.
use Rattle.std.specs.Prelude.{◌≡◌, ℕ, ◌<◌, List, [], ◌∷◌, length, map, Option, Some, None, slice_get, refl}
use Rattle.std.specs.List.{AllByRecursion}
use Rattle.std.proofs.Common.{zero, suc, ap, subst, arith}
use Rattle.mm_base.specs.declared.symbols.Typecode.{Typecode}
use Rattle.mm_base.specs.declared.tree.Tree.{Tree}
use Rattle.mm_base.specs.declared.tree.Tree.TheVariants as tree
use Rattle.term_model.specs.declared.shape.Id.{Id}
use Rattle.term_model.specs.Terms.{Term, Var, Free, Node, term_at, children_of}
use Rattle.term_model.specs.Links.{Link, end_of}
use Rattle.term_model.specs.Ranks.{AreRanked, end_rank}
use Rattle.term_model.specs.Store.{IsStore}
use Rattle.term_model.proofs.LinkLaws.{end_below}
use Rattle.chain_laws.specs.Reading.{made, read}

-- the children are one by one the same
same_below : (f g : ℕ → Tree) (kids : List Id) → ((k : ℕ) (child : Id) → slice_get kids k ≡ Some child → f child.0 ≡ g child.0) → map (λ (id : Id). f id.0) kids ≡ map (λ (id : Id). g id.0) kids
same_below f g [] h = refl
same_below f g (id ∷ kids) h =
    let here = h 0 id refl in
    let rest = same_below f g kids (λ k child e. h (suc k) child e) in
    cc

pub made_same : (leaf : ℕ → Typecode → Tree) (e : ℕ) (f g : ℕ → Tree) (x : Term)
    → ((k : ℕ) (child : Id) → slice_get (children_of x) k ≡ Some child → f child.0 ≡ g child.0) → made leaf e f x ≡ made leaf e g x
made_same leaf e f g (Var s c) h = refl
made_same leaf e f g (Free c) h = refl
made_same leaf e f g (Node l c k kids) h = ap (λ ts. tree.Node l c ts) (same_below f g kids h)

child_of : (n : ℕ) (kids : List Id) (k : ℕ) (child : Id) → AllByRecursion (λ (id : Id). id.0 < n) kids → slice_get kids k ≡ Some child → child.0 < n
child_of n [] k child h e = let impossible : ◌≡◌ {A = Option Id} None (Some child) = e in cc
child_of n (id ∷ kids) zero child h e = let same : id ≡ child = cc in subst (λ (x : Id). x.0 < n) same h.0
child_of n (id ∷ kids) (suc k) child h e = child_of n kids k child h.1 e

-- a fact of each node, where it holds of a node whose end's children have it
module _ (nodes : List Term) (links : List Link) (store : IsStore nodes links) where
  pub child_below : (i k : ℕ) (child : Id) → i < length nodes → slice_get (children_of (term_at nodes i)) k ≡ Some child → child.0 < length nodes
  child_below i k child h e = omega (arith, child_of i (children_of (term_at nodes i)) k child (store.children i h) e, h)

  pub end_inside : (i : ℕ) → i < length nodes → end_of links i < length nodes
  end_inside i h = end_below (length nodes) links i store.in_order h

  module _ (ranks : List ℕ) (ranked : AreRanked nodes links ranks) where
    module _ (P : ℕ → Type 0) (step : (i : ℕ) → i < length nodes → ((k : ℕ) (child : Id) → slice_get (children_of (term_at nodes (end_of links i))) k ≡ Some child → P child.0) → P i) where
      by_depth : (d i : ℕ) → i < length nodes → end_rank links ranks i < d → P i
      by_depth zero i h r = absurd (omega (arith, r))
      by_depth (suc d) i h r = step i h (λ k child e. by_depth d child.0 (child_below (end_of links i) k child (end_inside i h) e) (omega (arith, ranked.falls i k child h e, r)))

      pub by_rank : (i : ℕ) → i < length nodes → P i
      by_rank i h = by_depth (length nodes) i h (ranked.few i h)

    module _ (leaf : ℕ → Typecode → Tree) where
      -- any depth above a node's number gives its tree
      abbrev IsDeep : ℕ → Type 0
      IsDeep i = (d e : ℕ) → end_rank links ranks i < d → end_rank links ranks i < e → read nodes links leaf d i ≡ read nodes links leaf e i

      read_deep : (i : ℕ) → i < length nodes → IsDeep i
      unfolding read
      read_deep = by_rank IsDeep deep
        where
          deep : (i : ℕ) → i < length nodes → ((k : ℕ) (child : Id) → slice_get (children_of (term_at nodes (end_of links i))) k ≡ Some child → IsDeep child.0) → IsDeep i
          deep i h below zero e r s = absurd (omega (arith, r))
          deep i h below (suc d) zero r s = absurd (omega (arith, s))
          deep i h below (suc d) (suc e) r s =
              made_same leaf (end_of links i) (read nodes links leaf d) (read nodes links leaf e) (term_at nodes (end_of links i))
              (λ k child is. let falls = ranked.falls i k child h is in below k child is d e (omega (arith, falls, r)) (omega (arith, falls, s)))

      read_step : (d i : ℕ) → i < length nodes → end_rank links ranks i < d → read nodes links leaf d i ≡ made leaf (end_of links i) (read nodes links leaf d) (term_at nodes (end_of links i))
      unfolding read
      read_step zero i h r = absurd (omega (arith, r))
      read_step (suc d) i h r =
          made_same leaf (end_of links i) (read nodes links leaf d) (read nodes links leaf (suc d)) (term_at nodes (end_of links i))
          (λ k child is.
          let falls = ranked.falls i k child h is in
          read_deep child.0 (child_below (end_of links i) k child (end_inside i h) is) d (suc d) (omega (arith, falls, r)) (omega (arith, falls, r)))

-- trees by node, each made of those of its end's children
pub record AreMade (nodes : List Term) (links : List Link) (leaf : ℕ → Typecode → Tree) (at : ℕ → Tree) : Type 0 where
  pub each : (i : ℕ) → i < length nodes → at i ≡ made leaf (end_of links i) at (term_at nodes (end_of links i))

pub trees_made : (nodes : List Term) (links : List Link) (leaf : ℕ → Typecode → Tree) → IsStore nodes links → (ranks : List ℕ)
    → AreRanked nodes links ranks → AreMade nodes links leaf (read nodes links leaf (length nodes))
trees_made nodes links leaf store ranks ranked = record { each = λ i h. read_step nodes links store ranks ranked leaf (length nodes) i h (ranked.few i h) }
