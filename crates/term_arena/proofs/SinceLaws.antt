-- What the walk from the bound nodes says.
use Rattle.std.proofs.Common.{◌≡◌, ◌↔◌, IsTrue, ℕ, ◌<◌, Bool, true, false, Option, Some, None, List, zero, suc, [], ◌∷◌, length, take, get_or, refl, ap, arith}
use Rattle.std.specs.List.{slice_get}
use Rattle.std.specs.Bool.{OnTrue, OnFalse}
use Rattle.undo_trail.specs.Noted.{Noted}
use Rattle.term_model.specs.Terms.{Term}
use Rattle.term_model.specs.Links.{Link, link_at}
use Rattle.term_model.specs.Store.{IsClosed, HasSolution}
use Rattle.term_model.specs.Marks.{IsCyclic, IsGraph}
use Rattle.term_arena.specs.Walks.{State, AreSettled}
use Rattle.term_arena.specs.Inside.{links_of, IsArena}
use Rattle.term_arena.proofs.ArenaLaws.{link_at_trail, length-links_of, trail_bound}
use Rattle.term_model.proofs.CycleLaws.{cyclic_none, solution_since, graph_of_store}

read_at : (xs : List ℕ) (k : ℕ) → k < length xs → slice_get xs k ≡ Some (get_or xs k 0)
read_at [] k h = absurd (omega arith)
read_at (x ∷ xs) zero h = refl
read_at (x ∷ xs) (suc k) h = read_at xs k (omega arith)

entry_within : (xs : List ℕ) (k i : ℕ) → slice_get xs k ≡ Some i → k < length xs
entry_within [] k i e = let impossible : ◌≡◌ {A = Option ℕ} None (Some i) = e in cc
entry_within (x ∷ xs) zero i e = omega arith
entry_within (x ∷ xs) (suc k) i e = omega (arith, entry_within xs k i e)

module _ (nodes : List Term) (bound : List (Option ℕ)) (trail : Noted) (states : List State) (ready : Bool) (a : IsArena nodes bound trail states ready) where
  pub arena_graph : IsGraph nodes bound
  arena_graph = graph_of_store nodes (links_of trail.entries bound) bound a.store a.table

  pub trail_below : (k i : ℕ) → slice_get trail.entries k ≡ Some i → i < length nodes
  trail_below k i e = omega (arith, (trail_bound nodes bound trail states ready k i a (entry_within trail.entries k i e) e).0, a.same)

  solved_since : (t : ℕ) → IsClosed nodes (links_of trail.entries bound) → HasSolution nodes (take t (links_of trail.entries bound))
      → AreSettled nodes bound trail.entries t → HasSolution nodes (links_of trail.entries bound)
  solved_since t closed old s =
      let links : List Link = links_of trail.entries bound in
      solution_since nodes links bound t s.marks a.store closed a.table old s.long s.solved (λ k from within.
      let read = read_at trail.entries k (omega (arith, within, length-links_of trail.entries bound)) in
      let same : (link_at links k).from ≡ get_or trail.entries k 0 = ap (λ (l : Link). l.from) (link_at_trail trail.entries bound k (get_or trail.entries k 0) read) in
      rw same (s.each k (get_or trail.entries k 0) from read))

  pub since_exact : (t : ℕ) (r : Bool) → IsClosed nodes (links_of trail.entries bound) → HasSolution nodes (take t (links_of trail.entries bound))
      → OnTrue r (AreSettled nodes bound trail.entries t) → OnFalse r (IsCyclic nodes bound)
      → IsTrue r ↔ HasSolution nodes (links_of trail.entries bound)
  since_exact t true closed old done cycle = (λ _. solved_since t closed old done, λ _. refl)
  since_exact t false closed old done cycle = (λ (h : IsTrue false). cc, λ sol. absurd (cyclic_none nodes (links_of trail.entries bound) bound a.store a.table cycle sol))
