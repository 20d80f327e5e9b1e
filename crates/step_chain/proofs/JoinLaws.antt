-- Pairs of nodes that are joined one after the other.
use Rattle.std.specs.Prelude.{◌≡◌, ◌↔◌, ℕ, ◌<◌, ◌+◌, List, [], ◌∷◌, ◌++◌, length, take, refl}
use Rattle.std.proofs.Common.{zero, suc, get_or, sym, ap, subst, ◌∙◌, arith}
use Rattle.std.proofs.lemmas.List.{append_assoc, take_more, map_push}
use Rattle.mm_base.specs.declared.tree.Tree.{Tree}
use Rattle.term_model.specs.declared.shape.Id.{Id}
use Rattle.term_model.specs.Terms.{Term}
use Rattle.term_model.specs.Links.{Link, AreBelow}
use Rattle.term_model.specs.Store.{Store, tree_at, Solution, IsStore}
use Rattle.term_model.proofs.LinkLaws.{are_below}
use Rattle.term_unify.specs.Steps.{HaveSameTree}
use Rattle.chain_laws.specs.Layout.{AreJoined, Joins, CannotJoin}
use Rattle.chain_laws.proofs.Candidates.{joins_more}
use Rattle.step_chain.specs.Joined.{pair_of, pairs_of, ArePairsIn, KeepsNodes}

abbrev NodeIds : Type 0
NodeIds = Id × Id

pub same_default : (xs : List NodeIds) (k : ℕ) (d e : NodeIds) → k < length xs → get_or xs k d ≡ get_or xs k e
same_default [] k d e h = absurd (omega (arith, h))
same_default (x ∷ xs) zero d e h = refl
same_default (x ∷ xs) (suc k) d e h = same_default xs k d e (omega (arith, h))

-- the pair that is next
module _ (nodes : List Term) (old mid : List Link) (pairs : List NodeIds) (k : ℕ) (p : NodeIds) (is : p ≡ get_or pairs k p) (below : k < length pairs)
    (joined : Joins nodes old mid (pairs_of (take k pairs))) where
  list_more : pairs_of (take (k + 1) pairs) ≡ pairs_of (take k pairs) ++ pair_of p ∷ []
  list_more = ap pairs_of (take_more pairs k p below ∙ ap (λ (q : NodeIds). take k pairs ++ q ∷ []) (sym is)) ∙ map_push pair_of (take k pairs) p

  pub joins_next : (new : List Link) → ((trees : List Tree) → Solution nodes new trees ↔ (Solution nodes mid trees × HaveSameTree p.0.0 p.1.0 trees))
      → Joins nodes old new (pairs_of (take (k + 1) pairs))
  joins_next new unified =
      subst (Joins nodes old new) (sym list_more)
      (joins_more nodes old mid new (pairs_of (take k pairs)) (pair_of p ∷ []) joined
      (record { there = λ trees s. let parts = (unified trees).0 s in (parts.0, (parts.1, tt)); back = λ trees s j. (unified trees).1 (s, j.0) }))

  front_joined : (trees : List Tree) (n : ℕ) (ps : List NodeIds) → AreJoined trees (pairs_of ps) → AreJoined trees (pairs_of (take n ps))
  front_joined trees zero ps j = tt
  front_joined trees (suc n) [] j = tt
  front_joined trees (suc n) (q ∷ ps) j = (j.0, front_joined trees n ps j.1)

  one_joined : (trees : List Tree) (n : ℕ) (ps : List NodeIds) → n < length ps → AreJoined trees (pairs_of ps) → tree_at trees (get_or ps n p).0.0 ≡ tree_at trees (get_or ps n p).1.0
  one_joined trees n [] h j = absurd (omega (arith, h))
  one_joined trees zero (q ∷ ps) h j = j.0
  one_joined trees (suc n) (q ∷ ps) h j = one_joined trees n ps (omega (arith, h)) j.1

  pub cannot_next : ((trees : List Tree) → Solution nodes mid trees → HaveSameTree p.0.0 p.1.0 trees → ⊥) → CannotJoin nodes old (pairs_of pairs)
  cannot_next never trees s j =
      never trees (joined.back trees s (front_joined trees k pairs j))
      (subst (λ (q : NodeIds). tree_at trees q.0.0 ≡ tree_at trees q.1.0) (sym is) (one_joined trees k pairs below j))

  -- the same, where the nodes are given by equations
  pub joins_after : (mid_nodes new_nodes : List Term) (new : List Link) → mid_nodes ≡ nodes → new_nodes ≡ nodes
      → ((trees : List Tree) → Solution new_nodes new trees ↔ (Solution mid_nodes mid trees × HaveSameTree p.0.0 p.1.0 trees))
      → Joins nodes old new (pairs_of (take (k + 1) pairs))
  joins_after mid_nodes new_nodes new e f unified =
      joins_next new (subst (λ (ns : List Term). (trees : List Tree) → Solution nodes new trees ↔ (Solution ns mid trees × HaveSameTree p.0.0 p.1.0 trees)) e
      (subst (λ (ns : List Term). (trees : List Tree) → Solution ns new trees ↔ (Solution mid_nodes mid trees × HaveSameTree p.0.0 p.1.0 trees)) f unified))

  pub cannot_after : (mid_nodes : List Term) → mid_nodes ≡ nodes → ((trees : List Tree) → Solution mid_nodes mid trees → HaveSameTree p.0.0 p.1.0 trees → ⊥) → CannotJoin nodes old (pairs_of pairs)
  cannot_after mid_nodes e never = cannot_next (subst (λ (ns : List Term). (trees : List Tree) → Solution ns mid trees → HaveSameTree p.0.0 p.1.0 trees → ⊥) e never)

  pub pair_inside : (n : ℕ) → ArePairsIn n pairs → (p.0.0 < n) × (p.1.0 < n)
  pair_inside n h = subst (λ (q : NodeIds). (q.0.0 < n) × (q.1.0 < n)) (sym is) (at k pairs below h)
    where
      at : (i : ℕ) (ps : List NodeIds) → i < length ps → ArePairsIn n ps → ((get_or ps i p).0.0 < n) × ((get_or ps i p).1.0 < n)
      at i [] h a = absurd (omega (arith, h))
      at zero (q ∷ ps) h a = a.0
      at (suc i) (q ∷ ps) h a = at i ps (omega (arith, h)) a.1

-- the bindings of a mark
take_front : (xs ys : List Link) → take (length xs) (xs ++ ys) ≡ xs
take_front [] ys = refl
take_front (x ∷ xs) ys = ap (λ (rest : List Link). x ∷ rest) (take_front xs ys)

pub kept_below : (nodes : List Term) (old new more : List Link) (n t : ℕ) → n ≡ length nodes → t ≡ length old → new ≡ old ++ more → IsStore nodes old → AreBelow n (take t new)
kept_below nodes old new more n t e f g store =
    let front : take t new ≡ old = ap (λ (k : ℕ). take k new) f ∙ ap (take (length old)) g ∙ take_front old more in
    subst (λ (k : ℕ). AreBelow k (take t new)) (sym e) (subst (AreBelow (length nodes)) (sym front) (are_below (length nodes) old store.in_order))

pub keeps_more : (a b c : Store) → KeepsNodes a b → KeepsNodes b c → KeepsNodes a c
keeps_more a b c h g = record {
  nodes = g.nodes ∙ h.nodes;
  ready = g.ready ∙ h.ready;
  more = h.more ++ g.more;
  links = g.links ∙ ap (λ (ls : List Link). ls ++ g.more) h.links ∙ append_assoc a.links h.more g.more;
}
