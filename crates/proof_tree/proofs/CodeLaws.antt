-- The steps of a proof's code, by its nodes.
use Rattle.std.proofs.Common.{◌≡◌, ℕ, zero, suc, ◌+◌, ◌-◌, ◌^◌, ◌<◌, ◌≤◌, min, Bool, true, false, not, ◌&&◌, ◌==◌, cond, nat_eq, nat_le, List, []}
use Rattle.std.proofs.Common.{◌∷◌, ◌++◌, length, map, fold, get_or, Option, Some, None, is_some, true≢false, refl, sym, ap, ◌∙◌, subst, arith, lit≤}
use Rattle.std.specs.Prelude.{count_by, flat_map, replicate, slice_set}
use Rattle.std.specs.List.{AllByRecursion}
use Rattle.std.proofs.lemmas.Bool.{eqb-true, eq-eqb, leb-true, le-leb}
use Rattle.std.proofs.lemmas.List.{length-map, length-append, length-replicate}
use Rattle.std.proofs.Math.ListN.{length-set}
use Rattle.mm_model.specs.Names.{Name, first_number}
use Rattle.proof_model.specs.Proofs.{Proof, Proofs, by, proofs, listed, children, same_proof}
use Rattle.proof_model.specs.declared.code.What.{What}
use Rattle.proof_model.specs.declared.code.What.TheVariants as what
use Rattle.proof_model.specs.Codes.{step, Coding, coded, coded_all, with_label, with_again, again_or, is_marked, what_of, argument_places}
use Rattle.proof_tree.specs.declared.graph.ProofNode.{ProofNode}
use Rattle.proof_tree.specs.declared.order.Part.{Part}
use Rattle.proof_tree.specs.declared.order.Part.TheVariants as part
use Rattle.proof_tree.specs.declared.coding.Coder.{Coder}
use Rattle.proof_tree.specs.Graphs.{IsGraph, no_node, node_proofs, proof_at, root_proof}
use Rattle.proof_tree.specs.Given.{sooner, item_at}
use Rattle.proof_tree.specs.Walks.{below_of, parts_of, parts_unless, IsOrder, AreUses}
use Rattle.proof_tree.specs.Coding.{label_of, is_shared, put_mark, again_steps, Ends, Begins}
use Rattle.proof_tree.proofs.GraphLaws.{node_at, append_none, all_append, map_append, below_inside}
use Rattle.proof_tree.proofs.SameLaws.{iff_same, same_nodes}
use Rattle.proof_tree.proofs.PartLaws.{IsPart, run, run_last, run_parts, parts_inside, last_part, rest_parts}
use Rattle.proof_tree.proofs.NameLaws.{first_push, last_label}

-- ---- what is named twice

listed_back : (ps : List Proof) → listed (proofs ps) ≡ ps
listed_back [] = refl
listed_back (p ∷ ps) = ap (λ l. p ∷ l) (listed_back ps)

two_of : (top c : ℕ) → 2 ≤ top → nat_le 2 (min top c) ≡ nat_le 2 c
two_of top c h =
    iff_same (nat_le 2 (min top c)) (nat_le 2 c) (λ e. le-leb 2 c (let l = leb-true 2 (min top c) e in omega (arith, l, h)))
    (λ e. le-leb 2 (min top c) (let l = leb-true 2 c e in omega (arith, l, h)))

module _ (nodes : List ProofNode) (graph : IsGraph nodes) where
  abbrev P : ℕ → Proof
  P = proof_at (node_proofs nodes)

  children_are : (n : ℕ) → n < length nodes → children (P n) ≡ map P (below_of nodes n)
  children_are n h = ap children (node_at nodes n no_node h graph.earlier) ∙ listed_back (map P (below_of nodes n))

  pub label_is : (n : ℕ) → n < length nodes → last_label (P n) ≡ label_of nodes n
  label_is n h = ap last_label (node_at nodes n no_node h graph.earlier)

  pub labels_of_order : (ks : List ℕ) → AllByRecursion (λ k. k < length nodes) ks → map last_label (map P ks) ≡ map (label_of nodes) ks
  labels_of_order [] a = refl
  labels_of_order (k ∷ ks) a = ap (λ l. l ∷ map last_label (map P ks)) (label_is k a.0) ∙ ap (λ ls. label_of nodes k ∷ ls) (labels_of_order ks a.1)

  all_named : (ks : List ℕ) → AllByRecursion (λ k. k < length nodes) ks → AllByRecursion (λ k. k < length nodes) (flat_map (below_of nodes) ks)
  all_named [] a = tt
  all_named (k ∷ ks) a = all_append (λ j. j < length nodes) (below_of nodes k) (flat_map (below_of nodes) ks) (below_inside nodes k no_node a.0 graph.earlier) (all_named ks a.1)

  places_named : (ks : List ℕ) → AllByRecursion (λ k. k < length nodes) ks → flat_map children (map P ks) ≡ map P (flat_map (below_of nodes) ks)
  places_named [] a = refl
  places_named (k ∷ ks) a =
      ap (λ l. l ++ flat_map children (map P ks)) (children_are k a.0) ∙ ap (λ l. map P (below_of nodes k) ++ l) (places_named ks a.1)
      ∙ sym (map_append P (below_of nodes k) (flat_map (below_of nodes) ks))

  count_from : (n : ℕ) (ks : List ℕ) (a : ℕ) → n < length nodes → AllByRecursion (λ k. k < length nodes) ks
      → fold (λ b x. b + cond (same_proof (P n) x) 1 0) a (map P ks) ≡ fold (λ b k. b + cond (nat_eq n k) 1 0) a ks
  count_from n [] a h i = refl
  count_from n (k ∷ ks) a h i =
      ap (λ b. fold (λ b x. b + cond (same_proof (P n) x) 1 0) (a + cond b 1 0) (map P ks)) (same_nodes nodes graph n k h i.0) ∙ count_from n ks (a + cond (nat_eq n k) 1 0) h i.1

  pub shared_is : (order uses : List ℕ) (n : ℕ) → n < length nodes → IsOrder nodes order → AreUses nodes order uses → is_shared nodes uses n ≡ is_marked (argument_places (root_proof nodes)) (P n)
  shared_is order uses n h o u =
      let named = flat_map (below_of nodes) order in
      let places : argument_places (root_proof nodes) ≡ map P named = ap (flat_map children) (sym o.proofs_are) ∙ places_named order o.inside in
      let count : count_by (same_proof (P n)) (argument_places (root_proof nodes)) ≡ count_by (nat_eq n) named =
      ap (count_by (same_proof (P n))) places ∙ count_from n named 0 h (all_named order o.inside) in
      let twice : nat_le 2 (get_or uses n 0) ≡ nat_le 2 (count_by (same_proof (P n)) (argument_places (root_proof nodes))) =
      ap (nat_le 2) (u.count n h) ∙ two_of (2 ^ 32 - 1) (count_by (nat_eq n) named) (lit≤ tt) ∙ ap (nat_le 2) (sym count) in
      let many : length (below_of nodes n) ≡ length (children (P n)) = sym (ap length (children_are n h) ∙ length-map (below_of nodes n) P) in
      ap (λ k. not (k == 0) && nat_le 2 (get_or uses n 0)) many ∙ ap (λ b. not (length (children (P n)) == 0) && b) twice

  -- ---- the steps so far

  pub record IsCoding (c : Coding) (d : Coder) : Type 0 where
    pub steps : c.steps ≡ d.steps.items
    pub marks : (n : ℕ) → n < length nodes → item_at d.marks.items n ≡ first_number (same_proof (P n)) c.marked
    pub count : length c.marked ≡ d.count
    pub many : length d.marks.items ≡ length nodes

  item_replicate : (n k : ℕ) → item_at {X = ℕ} (replicate n None) k ≡ None
  item_replicate zero k = refl
  item_replicate (suc n) zero = refl
  item_replicate (suc n) (suc k) = item_replicate n k

  pub coding_begun : (d : Coder) → d.steps.items ≡ [] → d.marks.items ≡ replicate (length nodes) None → d.count ≡ 0 → IsCoding (record { steps = []; marked = [] }) d
  coding_begun d s m e = record {
    steps = sym s;
    marks = λ n h. ap (λ l. item_at l n) m ∙ item_replicate (length nodes) n;
    count = sym e;
    many = ap length m ∙ length-replicate (length nodes) None;
  }

  item_set_here : (ms : List (Option ℕ)) (n k : ℕ) → n < length ms → item_at (slice_set ms n (Some k)) n ≡ Some k
  item_set_here [] n k h = absurd (omega arith)
  item_set_here (m ∷ ms) zero k h = refl
  item_set_here (m ∷ ms) (suc n) k h = item_set_here ms n k (omega arith)

  item_set_other : (ms : List (Option ℕ)) (n j k : ℕ) → (n ≡ j → ⊥) → item_at (slice_set ms n (Some k)) j ≡ item_at ms j
  item_set_other [] n j k h = refl
  item_set_other (m ∷ ms) zero zero k h = absurd (h refl)
  item_set_other (m ∷ ms) zero (suc j) k h = refl
  item_set_other (m ∷ ms) (suc n) zero k h = refl
  item_set_other (m ∷ ms) (suc n) (suc j) k h = item_set_other ms n j k (λ e. h (ap suc e))

  marked_item : (ms : List (Option ℕ)) (n j k : ℕ) → n < length ms → item_at (put_mark ms n k) j ≡ sooner (item_at ms j) (cond (nat_eq j n) (Some k) None)
  marked_item ms n j k h = by (item_at ms n) refl (nat_eq j n) refl
    where
      kept : (o : Option ℕ) (b : Bool) → (b ≡ true → is_some o ≡ true) → o ≡ sooner o (cond b (Some k) None)
      kept None true e = absurd (let wrong : false ≡ true = e refl in cc)
      kept None false e = refl
      kept (Some x) b e = refl

      by : (o : Option ℕ) → item_at ms n ≡ o → (b : Bool) → nat_eq j n ≡ b → item_at (cond (is_some o) ms (slice_set ms n (Some k))) j ≡ sooner (item_at ms j) (cond b (Some k) None)
      by (Some x) e b f = kept (item_at ms j) b (λ (t : b ≡ true). ap is_some (ap (item_at ms) (eqb-true j n (f ∙ t)) ∙ e))
      by None e true f =
          let same : j ≡ n = eqb-true j n f in
          ap (item_at (slice_set ms n (Some k))) same ∙ item_set_here ms n k h ∙ ap (λ o. sooner o (Some k)) (sym (ap (item_at ms) same ∙ e))
      by None e false f =
          item_set_other ms n j k (λ (s : n ≡ j). let yes : nat_eq j n ≡ true = eq-eqb j n (sym s) in true≢false (sym yes ∙ f)) ∙ after (item_at ms j)
        where
          after : (o : Option ℕ) → o ≡ sooner o None
          after None = refl
          after (Some x) = refl

  put_mark_many : (ms : List (Option ℕ)) (n k : ℕ) → length (put_mark ms n k) ≡ length ms
  put_mark_many ms n k = by (is_some (item_at ms n))
    where
      by : (b : Bool) → length (cond b ms (slice_set ms n (Some k))) ≡ length ms
      by true = refl
      by false = length-set ms n (Some k)

  -- a label
  pub coding_label : (n : ℕ) (w : What) (b : Bool) (c : Coding) (d e : Coder) → n < length nodes → Ends n w b d e → IsCoding c d → IsCoding (with_label (P n) b w c) e
  coding_label n w true c d e h s i = record {
    steps = ap (λ l. l ++ step w true ∷ []) i.steps ∙ sym s.steps;
    marks = λ j l.
        ap (λ ms. item_at ms j) s.marks ∙ marked_item d.marks.items n j d.count (let m = i.many in omega (arith, m, h))
        ∙ ap (λ o. sooner o (cond (nat_eq j n) (Some d.count) None)) (i.marks j l)
        ∙ ap (λ k. sooner (first_number (same_proof (P j)) c.marked) (cond (nat_eq j n) (Some k) None)) (sym i.count)
        ∙ ap (λ b. sooner (first_number (same_proof (P j)) c.marked) (cond b (Some (length c.marked)) None)) (sym (same_nodes nodes graph j n l h))
        ∙ sym (first_push (same_proof (P j)) c.marked (P n));
    count = length-append c.marked (P n ∷ []) ∙ ap (λ k. k + 1) i.count ∙ sym s.count;
    many = ap length s.marks ∙ put_mark_many d.marks.items n d.count ∙ i.many;
  }
  coding_label n w false c d e h s i = record {
    steps = ap (λ l. l ++ step w false ∷ []) i.steps ∙ sym s.steps;
    marks = λ j l. ap (λ ms. item_at ms j) s.marks ∙ i.marks j l;
    count = i.count ∙ sym s.count;
    many = ap length s.marks ∙ i.many;
  }

  -- ---- what is pending

  module _ (mandatory labels : List Name) (places : List Proof) where
    abbrev opened : ℕ → Coding → Coding
    opened n c = coded mandatory labels places (P n) c

    abbrev ended : ℕ → Coding → Coding
    ended n c = with_label (P n) (is_marked places (P n)) (what_of mandatory labels (label_of nodes n)) c

    coded_below : (ks : List ℕ) (c : Coding) → coded_all mandatory labels places (proofs (map P ks)) c ≡ fold (λ t k. opened k t) c ks
    coded_below [] c = refl
    coded_below (k ∷ ks) c = coded_below ks (opened k c)

    coded_again : (p : Proof) (c : Coding) (k : ℕ) → first_number (same_proof p) c.marked ≡ Some k → coded mandatory labels places p c ≡ with_again k c
    coded_again (by label below) c k e =
        ap (λ o. again_or o c (λ d. with_label (by label below) (is_marked places (by label below)) (what_of mandatory labels label) (coded_all mandatory labels places below d))) e

    coded_new : (label : Name) (below : Proofs) (c : Coding) → first_number (same_proof (by label below)) c.marked ≡ None
        → coded mandatory labels places (by label below) c
        ≡ with_label (by label below) (is_marked places (by label below)) (what_of mandatory labels label)
        (coded_all mandatory labels places below c)
    coded_new label below c e =
        ap (λ o. again_or o c (λ d. with_label (by label below) (is_marked places (by label below)) (what_of mandatory labels label) (coded_all mandatory labels places below d))) e

    coded_node : (n : ℕ) (c : Coding) → n < length nodes → first_number (same_proof (P n)) c.marked ≡ None → opened n c ≡ ended n (fold (λ t k. opened k t) c (below_of nodes n))
    coded_node n c h e =
        let label = label_of nodes n in
        let q = by label (proofs (map P (below_of nodes n))) in
        let is : P n ≡ q = node_at nodes n no_node h graph.earlier in
        ap (λ p. coded mandatory labels places p c) is ∙ coded_new label (proofs (map P (below_of nodes n))) c (ap (λ p. first_number (same_proof p) c.marked) (sym is) ∙ e)
        ∙ ap (with_label q (is_marked places q) (what_of mandatory labels label)) (coded_below (below_of nodes n) c)
        ∙ ap (λ p. with_label p (is_marked places p) (what_of mandatory labels label) (fold (λ t k. opened k t) c (below_of nodes n))) (sym is)

    -- what is pending still makes the steps that are left
    pub record IsCodingAt (pending : List Part) (d : Coder) : Type 0 where
      pub so_far : Coding
      pub coding : IsCoding so_far d
      pub parts : AllByRecursion (IsPart nodes) pending
      pub whole : run opened ended pending so_far ≡ coded mandatory labels places (root_proof nodes) (record { steps = []; marked = [] })

    pub coding_at_first : (pending : List Part) (n : ℕ) (d : Coder) → pending ≡ part.Proof n ∷ [] → n ≡ length nodes - 1 → IsCoding (record { steps = []; marked = [] }) d → IsCodingAt pending d
    coding_at_first pending n d p last i = record {
      so_far = record { steps = []; marked = [] };
      coding = i;
      parts = subst (AllByRecursion (IsPart nodes)) (sym p) ((let some = graph.some in omega (arith, last, some)), tt);
      whole = ap (λ l. run opened ended l (record { steps = []; marked = [] })) p ∙ ap (λ k. opened k (record { steps = []; marked = [] })) last;
    }

    pub coding_ends : (pending rest : List Part) (n : ℕ) (w : What) (b : Bool) (d e : Coder) → pending ≡ rest ++ part.Label n ∷ []
        → b ≡ is_marked places (P n) → w ≡ what_of mandatory labels (label_of nodes n) → Ends n w b d e
        → IsCodingAt pending d → IsCodingAt rest e
    coding_ends pending rest n w b d e p mark is s a =
        let inside : n < length nodes = last_part nodes pending rest (part.Label n) p a.parts in
        record {
          so_far = with_label (P n) b w a.so_far;
          coding = coding_label n w b a.so_far d e inside s a.coding;
          parts = rest_parts nodes pending rest (part.Label n) p a.parts;
          whole =
              ap (λ m. run opened ended rest (with_label (P n) m w a.so_far)) mark ∙ ap (λ x. run opened ended rest (with_label (P n) (is_marked places (P n)) x a.so_far)) is
              ∙ sym (ap (λ l. run opened ended l a.so_far) p ∙ run_last opened ended rest (part.Label n) a.so_far) ∙ a.whole;
        }

    begins_case : (pending rest now : List Part) (n : ℕ) (d e : Coder) (o : Option ℕ) → item_at d.marks.items n ≡ o
        → pending ≡ rest ++ part.Proof n ∷ [] → e.steps.items ≡ d.steps.items ++ again_steps o → e.marks.items ≡ d.marks.items → e.count ≡ d.count
        → now ≡ rest ++ parts_unless (is_some o) n (below_of nodes n) → IsCodingAt pending d → IsCodingAt now e
    begins_case pending rest now n d e None m p steps marks count is a =
        let inside : n < length nodes = last_part nodes pending rest (part.Proof n) p a.parts in
        let new : first_number (same_proof (P n)) a.so_far.marked ≡ None = sym (a.coding.marks n inside) ∙ m in
        record {
          so_far = a.so_far;
          coding = record {
            steps = a.coding.steps ∙ sym (steps ∙ append_none d.steps.items);
            marks = λ j l. ap (λ ms. item_at ms j) marks ∙ a.coding.marks j l;
            count = a.coding.count ∙ sym count;
            many = ap length marks ∙ a.coding.many;
          };
          parts =
              subst (AllByRecursion (IsPart nodes)) (sym is)
              (all_append (IsPart nodes) rest (parts_of n (below_of nodes n)) (rest_parts nodes pending rest (part.Proof n) p a.parts)
              (parts_inside nodes n inside graph.earlier));
          whole =
              ap (λ l. run opened ended l a.so_far) is ∙ run_parts opened ended rest n (below_of nodes n) a.so_far
              ∙ ap (run opened ended rest) (sym (coded_node n a.so_far inside new))
              ∙ sym (ap (λ l. run opened ended l a.so_far) p ∙ run_last opened ended rest (part.Proof n) a.so_far) ∙ a.whole;
        }
    begins_case pending rest now n d e (Some k) m p steps marks count is a =
        let inside : n < length nodes = last_part nodes pending rest (part.Proof n) p a.parts in
        let old : first_number (same_proof (P n)) a.so_far.marked ≡ Some k = sym (a.coding.marks n inside) ∙ m in
        let same : now ≡ rest = is ∙ append_none rest in
        record {
          so_far = with_again k a.so_far;
          coding = record {
            steps = ap (λ l. l ++ step (what.Again k) false ∷ []) a.coding.steps ∙ sym steps;
            marks = λ j l. ap (λ ms. item_at ms j) marks ∙ a.coding.marks j l;
            count = a.coding.count ∙ sym count;
            many = ap length marks ∙ a.coding.many;
          };
          parts = subst (AllByRecursion (IsPart nodes)) (sym same) (rest_parts nodes pending rest (part.Proof n) p a.parts);
          whole =
              ap (λ l. run opened ended l (with_again k a.so_far)) same ∙ ap (run opened ended rest) (sym (coded_again (P n) a.so_far k old))
              ∙ sym (ap (λ l. run opened ended l a.so_far) p ∙ run_last opened ended rest (part.Proof n) a.so_far) ∙ a.whole;
        }

    pub coding_begins : (pending rest now : List Part) (n : ℕ) (d e : Coder) → pending ≡ rest ++ part.Proof n ∷ [] → Begins nodes n d e rest now → IsCodingAt pending d → IsCodingAt now e
    coding_begins pending rest now n d e p s a = begins_case pending rest now n d e (item_at d.marks.items n) refl p s.steps s.marks s.count s.parts a

    pub coding_done : (pending : List Part) (d : Coder) → pending ≡ [] → IsCodingAt pending d
        → d.steps.items ≡ (coded mandatory labels places (root_proof nodes) (record { steps = []; marked = [] })).steps
    coding_done pending d p a = sym a.coding.steps ∙ ap (λ (c : Coding). c.steps) (sym (ap (λ l. run opened ended l a.so_far) p) ∙ a.whole)
