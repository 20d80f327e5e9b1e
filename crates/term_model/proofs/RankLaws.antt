-- In a store with a solution the nodes can be numbered, each above what it is made of.
use Rattle.std.proofs.Common.{◌≡◌, ℕ, ◌+◌, ◌<◌, ◌≤◌, Bool, false, Option, Some, None, List, zero, suc, [], ◌∷◌, length, map, replicate, refl, ap, sym, subst, ◌∙◌, inl, inr, arith}
use Rattle.std.specs.List.{slice_get, range_with_len}
use Rattle.std.proofs.lemmas.Bool.{cases_lt}
use Rattle.std.proofs.lemmas.List.{length-replicate, get_or-map, get_or_past}
use Rattle.std.proofs.lemmas.List.FromFn.{length-range_with_len, get_or-range_with_len, length-map-range_with_len}
use Rattle.term_model.specs.declared.shape.Id.{Id}
use Rattle.term_model.specs.Terms.{Term, term_at, children_of}
use Rattle.term_model.specs.Links.{Link, target_of, end_of}
use Rattle.term_model.specs.Store.{IsStore, HasSolution}
use Rattle.term_model.specs.Marks.{bound_at, parts_at, parts_of, IsIn, unmarked_count, rank_at, IsTableOf, IsMarkedWell}
use Rattle.term_model.specs.Ranks.{AreRanked, IsAbove}
use Rattle.term_model.proofs.LinkLaws.{end_below, end_unbound, unbound_past, are_below, target_below}
use Rattle.term_model.proofs.MarkLaws.{none_marked, child_below}
use Rattle.term_model.proofs.CycleLaws.{weight, parts_fall, passes_to_end, graph_of_store, AllSolved, settle_rest, none_in}

child_in : (kids : List Id) (k : ℕ) (child : Id) → slice_get kids k ≡ Some child → IsIn child.0 (map (λ (id : Id). id.0) kids)
child_in [] k child e = let impossible : ◌≡◌ {A = Option Id} None (Some child) = e in cc
child_in (id ∷ kids) zero child e = let same : id ≡ child = cc in inl (ap (λ (x : Id). x.0) (sym same))
child_in (id ∷ kids) (suc k) child e = inr (child_in kids k child e)

-- a table of links
table_of : ℕ → List Link → List (Option ℕ)
table_of n links = map (target_of links) (range_with_len 0 n)

table_reads : (nodes : List Term) (links : List Link) → IsStore nodes links → IsTableOf (table_of (length nodes) links) links
unfolding table_of
table_reads nodes links store = record {
  each = λ i.
      let n = length nodes in
      elim (cases_lt i n) [
        | inl h ↦
            get_or-map (target_of links) (range_with_len 0 n) i 0 None (omega (arith, h, length-range_with_len 0 n))
            ∙ ap (target_of links) (let same : 0 + i ≡ i = omega arith in get_or-range_with_len 0 n i 0 h ∙ same)
        | inr past ↦
            get_or_past (map (target_of links) (range_with_len 0 n)) i None (omega (arith, length-map-range_with_len (target_of links) 0 n))
            ∙ sym (unbound_past n links i (are_below n links store.in_order) past)
      ];
}

all_solved : (nodes : List Term) (links : List Link) (bound : List (Option ℕ)) → IsStore nodes links → IsTableOf bound links → HasSolution nodes links → AllSolved nodes bound (length nodes)
all_solved nodes links bound store table s =
    let marks : List Bool = replicate (length nodes) false in
    let n : length marks ≡ length nodes = length-replicate (length nodes) false in
    rw n at (settle_rest nodes bound (graph_of_store nodes links bound store table) (weight links s.0) (unmarked_count marks + 1) marks (omega arith) (omega (arith, n))
    (λ i j below m h. parts_fall nodes links bound s.0 store.in_order s.1 i j below (table.each i) h) (none_marked nodes bound marks (none_in (length nodes))))

module _ (nodes : List Term) (links : List Link) (bound : List (Option ℕ)) (store : IsStore nodes links) (table : IsTableOf bound links) (a : AllSolved nodes bound (length nodes)) where
  well : (i : ℕ) → i < length nodes → IsMarkedWell nodes bound a.marks a.solved.trees a.solved.ranks i
  well i below = a.solved.each i below (a.all i below)

  end_below' : (i : ℕ) → i < length nodes → end_of links i < length nodes
  end_below' i below = end_below (length nodes) links i store.in_order below

  -- along bindings the numbers fall
  end_lower : (i : ℕ) → i < length nodes → rank_at a.solved.ranks (end_of links i) ≤ rank_at a.solved.ranks i
  end_lower i below =
      let Q : ℕ → Type 0 = λ k. (k < length nodes) × (rank_at a.solved.ranks k ≤ rank_at a.solved.ranks i) in
      let q : Q (end_of links i) = passes_to_end (length nodes) Q links i store.in_order (λ k j e q. step k j e q) (below, omega arith) in
      q.1
    where
      step : (k j : ℕ) → target_of links k ≡ Some j → (k < length nodes) × (rank_at a.solved.ranks k ≤ rank_at a.solved.ranks i)
          → (j < length nodes) × (rank_at a.solved.ranks j ≤ rank_at a.solved.ranks i)
      step k j e q =
          let o : bound_at bound k ≡ Some j = table.each k ∙ e in
          let part : IsIn j (parts_of nodes bound k) = subst (λ (p : Option ℕ). IsIn j (parts_at p (term_at nodes k))) (sym o) (inl refl) in
          (target_below (length nodes) links k j store.in_order e, omega (arith, q.1, (well k q.0).lower j part))

  ranked : AreRanked nodes links a.solved.ranks
  ranked = record {
    falls = λ i k child below e.
        let r = end_of links i in
        let r_below = end_below' i below in
        let free : bound_at bound r ≡ None = table.each r ∙ end_unbound (length nodes) links i store.in_order in
        let inside = child_in (children_of (term_at nodes r)) k child e in
        let part : IsIn child.0 (parts_of nodes bound r) = subst (λ (p : Option ℕ). IsIn child.0 (parts_at p (term_at nodes r))) (sym free) inside in
        let kid : child.0 < length nodes = omega (arith, r_below, child_below r child.0 (children_of (term_at nodes r)) (store.children r r_below) inside) in
        omega (arith, (well r r_below).lower child.0 part, end_lower child.0 kid);
    few = λ i below. omega (arith, (well (end_of links i) (end_below' i below)).few, a.count);
  }

-- each node has a number below the count of nodes
pub numbered : (nodes : List Term) (links : List Link) → IsStore nodes links → HasSolution nodes links → (i : ℕ) → i < length nodes → IsAbove nodes links (length nodes) i
numbered nodes links store s i below =
    let bound = table_of (length nodes) links in
    let table = table_reads nodes links store in
    let a = all_solved nodes links bound store table s in
    let r = ranked nodes links bound store table a in
    (a.solved.ranks, r, r.few i below)
