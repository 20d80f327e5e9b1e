-- The order of the nodes in a graph's proof, and how often each is named.
use Rattle.std.proofs.Common.{◌≡◌, ℕ, ◌-◌, ◌<◌, Bool, true, false, cond, nat_eq, List, [], ◌∷◌, ◌++◌, length, map, fold, refl, sym, ap, ◌∙◌, subst, arith}
use Rattle.std.specs.List.{AllByRecursion, list_any}
use Rattle.indexmap.specs.IndexSet.{insert_key}
use Rattle.proof_model.specs.Proofs.{Proof, by, proofs, same_proof}
use Rattle.proof_tree.specs.declared.graph.ProofNode.{ProofNode}
use Rattle.proof_tree.specs.declared.order.Part.{Part}
use Rattle.proof_tree.specs.declared.order.Part.TheVariants as part
use Rattle.proof_tree.specs.Graphs.{IsGraph, no_node, node_in, node_proofs, proof_at, root_proof}
use Rattle.proof_tree.specs.Walks.{below_of, parts_of, parts_unless, see, IsOrder}
use Rattle.proof_tree.proofs.GraphLaws.{node_at, append_none, all_append, map_push}
use Rattle.proof_tree.proofs.SameLaws.{any_nodes}
use Rattle.proof_tree.proofs.PartLaws.{IsPart, run, run_last, run_parts, parts_inside, last_part, rest_parts}
use Rattle.proof_tree.proofs.SeenLaws.{visit, visit_all, visit_is, visit_seen, visit_new}

module _ (nodes : List ProofNode) where
  abbrev P : ℕ → Proof
  P = proof_at (node_proofs nodes)

  abbrev opened : ℕ → List Proof → List Proof
  opened n seen = visit (P n) seen

  abbrev closed : ℕ → List Proof → List Proof
  closed n seen = see seen (P n)

  -- what is pending still sees what is left
  pub record IsVisiting (pending : List Part) (order : List ℕ) : Type 0 where
    pub parts : AllByRecursion (IsPart nodes) pending
    pub inside : AllByRecursion (λ k. k < length nodes) order
    pub whole : run opened closed pending (map P order) ≡ visit (root_proof nodes) []

  visit_below : (ks : List ℕ) (seen : List Proof) → visit_all (proofs (map P ks)) seen ≡ fold (λ t k. opened k t) seen ks
  visit_below [] seen = refl
  visit_below (k ∷ ks) seen = visit_below ks (visit (P k) seen)

  module _ (graph : IsGraph nodes) where
    visit_node : (n : ℕ) (seen : List Proof) → n < length nodes → list_any (same_proof (P n)) seen ≡ false → visit (P n) seen ≡ see (fold (λ t k. opened k t) seen (below_of nodes n)) (P n)
    visit_node n seen h e =
        let is = node_at nodes n no_node h graph.earlier in
        ap (λ p. visit p seen) is ∙ visit_new (node_in nodes n).label (proofs (map P (below_of nodes n))) seen (ap (λ p. list_any (same_proof p) seen) (sym is) ∙ e)
        ∙ ap (λ s. see s (by (node_in nodes n).label (proofs (map P (below_of nodes n))))) (visit_below (below_of nodes n) seen) ∙ ap (see (fold (λ t k. opened k t) seen (below_of nodes n))) (sym is)

    open_case : (pending rest now : List Part) (n : ℕ) (order : List ℕ) (b : Bool) → list_any (nat_eq n) order ≡ b
        → pending ≡ rest ++ part.Proof n ∷ [] → now ≡ rest ++ parts_unless b n (below_of nodes n)
        → IsVisiting pending order → IsVisiting now order
    open_case pending rest now n order true e p is v =
        let inside : n < length nodes = last_part nodes pending rest (part.Proof n) p v.parts in
        let same : now ≡ rest = is ∙ append_none rest in
        record {
          parts = subst (AllByRecursion (IsPart nodes)) (sym same) (rest_parts nodes pending rest (part.Proof n) p v.parts);
          inside = v.inside;
          whole =
              ap (λ l. run opened closed l (map P order)) same
              ∙ ap (run opened closed rest) (sym (visit_seen (P n) (map P order) (any_nodes nodes graph n order inside v.inside ∙ e)))
              ∙ sym (ap (λ l. run opened closed l (map P order)) p ∙ run_last opened closed rest (part.Proof n) (map P order)) ∙ v.whole;
        }
    open_case pending rest now n order false e p is v =
        let inside : n < length nodes = last_part nodes pending rest (part.Proof n) p v.parts in
        record {
          parts =
              subst (AllByRecursion (IsPart nodes)) (sym is)
              (all_append (IsPart nodes) rest (parts_of n (below_of nodes n)) (rest_parts nodes pending rest (part.Proof n) p v.parts)
              (parts_inside nodes n inside graph.earlier));
          inside = v.inside;
          whole =
              ap (λ l. run opened closed l (map P order)) is ∙ run_parts opened closed rest n (below_of nodes n) (map P order)
              ∙ ap (run opened closed rest) (sym (visit_node n (map P order) inside (any_nodes nodes graph n order inside v.inside ∙ e)))
              ∙ sym (ap (λ l. run opened closed l (map P order)) p ∙ run_last opened closed rest (part.Proof n) (map P order)) ∙ v.whole;
        }

    pub visiting_proof : (pending rest now : List Part) (n : ℕ) (order : List ℕ) → pending ≡ rest ++ part.Proof n ∷ [] → now ≡ rest ++ parts_unless (list_any (nat_eq n) order) n (below_of nodes n)
        → IsVisiting pending order → IsVisiting now order
    visiting_proof pending rest now n order p is v = open_case pending rest now n order (list_any (nat_eq n) order) refl p is v

    put_inside : (n : ℕ) (order : List ℕ) (b : Bool) → n < length nodes → AllByRecursion (λ k. k < length nodes) order → AllByRecursion (λ k. k < length nodes) (cond b order (order ++ n ∷ []))
    put_inside n order true h a = a
    put_inside n order false h a = all_append (λ k. k < length nodes) order (n ∷ []) a (h, tt)

    put_proofs : (n : ℕ) (order : List ℕ) (b : Bool) → map P (cond b order (order ++ n ∷ [])) ≡ cond b (map P order) (map P order ++ P n ∷ [])
    put_proofs n order true = refl
    put_proofs n order false = map_push P order n

    pub visiting_label : (pending rest : List Part) (n : ℕ) (order now : List ℕ) → pending ≡ rest ++ part.Label n ∷ []
        → now ≡ insert_key nat_eq order n → IsVisiting pending order → IsVisiting rest now
    visiting_label pending rest n order now p is v =
        let inside : n < length nodes = last_part nodes pending rest (part.Label n) p v.parts in
        record {
          parts = rest_parts nodes pending rest (part.Label n) p v.parts;
          inside = subst (AllByRecursion (λ k. k < length nodes)) (sym is) (put_inside n order (list_any (nat_eq n) order) inside v.inside);
          whole =
              ap (λ l. run opened closed rest (map P l)) is
              ∙ ap (run opened closed rest)
              (put_proofs n order (list_any (nat_eq n) order)
              ∙ ap (λ b. cond b (map P order) (map P order ++ P n ∷ [])) (sym (any_nodes nodes graph n order inside v.inside)))
              ∙ sym (ap (λ l. run opened closed l (map P order)) p ∙ run_last opened closed rest (part.Label n) (map P order)) ∙ v.whole;
        }

    pub visiting_begun : (pending : List Part) (n : ℕ) (order : List ℕ) → pending ≡ part.Proof n ∷ [] → n ≡ length nodes - 1 → order ≡ [] → IsVisiting pending order
    visiting_begun pending n order p last e = record {
      parts = subst (AllByRecursion (IsPart nodes)) (sym p) ((let some = graph.some in omega (arith, last, some)), tt);
      inside = subst (AllByRecursion (λ k. k < length nodes)) (sym e) tt;
      whole = ap (λ l. run opened closed l (map P order)) p ∙ ap (λ o. visit (P n) (map P o)) e ∙ ap (λ k. visit (P k) []) last;
    }

    pub visiting_done : (pending : List Part) (order : List ℕ) → pending ≡ [] → IsVisiting pending order → IsOrder nodes order
    visiting_done pending order p v = record {
      inside = v.inside;
      proofs_are = sym (ap (λ l. run opened closed l (map P order)) p) ∙ v.whole ∙ visit_is (root_proof nodes);
    }
