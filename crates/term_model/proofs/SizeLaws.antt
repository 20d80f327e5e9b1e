-- The tokens of nodes, while they are counted and in the end.
use Rattle.std.proofs.Common.{◌≡◌, ℕ, ◌+◌, ◌-◌, ◌^◌, ◌<◌, min, Bool, true, false, Option, Some, None, List, zero, suc, [], ◌∷◌, length, set, map, sum}
use Rattle.std.proofs.Common.{refl, ap, sym, ◌∙◌, inl, inr, arith}
use Rattle.std.specs.List.{sum_by}
use Rattle.std.proofs.lemmas.Bool.{cases_eq, and_parts, both_ways}
use Rattle.std.proofs.lemmas.List.{length-set, get_or-set_same, get_or-set_other}
use Rattle.std.proofs.lemmas.List.Sums.{sum_by-cons}
use Rattle.mm_base.specs.declared.symbols.Sym.{Sym}
use Rattle.mm_base.specs.declared.symbols.Label.{Label}
use Rattle.mm_base.specs.declared.symbols.Typecode.{Typecode}
use Rattle.mm_base.specs.declared.tree.Tree.{Tree}
use Rattle.mm_base.specs.declared.tree.Tree.TheVariants as tree
use Rattle.mm_base.proofs.TreeFolds.{fold-Var, fold-Node}
use Rattle.mm_model.specs.Sizes.{nodes as size_of}
use Rattle.term_model.specs.declared.shape.Id.{Id}
use Rattle.term_model.specs.Terms.{Term, Var, Free, Node, term_at, is_free, children_of}
use Rattle.term_model.specs.Links.{Link, target_of, end_of, InOrder}
use Rattle.term_model.specs.Store.{tree_at, trees_at, Fits, IsStore}
use Rattle.term_model.specs.Marks.{bound_at, parts_at, parts_of, IsIn, is_marked, are_marked, IsTableOf}
use Rattle.term_model.specs.Sizes.{saturated, size_at, term_tokens, AreSizes, layer_tokens, tokens, HasConstants, HaveConstants, IsGeneral, AreTreeSizes, node_tokens, AreMeasured}
use Rattle.term_model.proofs.LinkLaws.{end_unbound, end_below, target_below}
use Rattle.term_model.proofs.SolutionLaws.{respects_end}
use Rattle.term_model.proofs.MarkLaws.{other, marked_in, all_marked_more, child_below}
use Rattle.term_model.proofs.CycleLaws.{passes_to_end, child_smaller}

-- ---- one more node is counted

module _ (marks : List Bool) (sizes : List ℕ) (i v : ℕ) (fresh : is_marked marks i ≡ false) where
  size_same : (k : ℕ) → is_marked marks k ≡ true → size_at (set sizes i v) k ≡ size_at sizes k
  size_same k m = get_or-set_other sizes i k v 0 (other marks i fresh k m)

  sizes_same : (kids : List Id) → are_marked marks (map (λ (id : Id). id.0) kids) ≡ true → sum_by (λ (id : Id). size_at (set sizes i v) id.0) kids ≡ sum_by (λ (id : Id). size_at sizes id.0) kids
  sizes_same [] m = refl
  sizes_same (id ∷ kids) m =
      let both = and_parts (is_marked marks id.0) (are_marked marks (map (λ (id : Id). id.0) kids)) m in
      let new : sum_by (λ (id : Id). size_at (set sizes i v) id.0) (id ∷ kids)
      ≡ size_at (set sizes i v) id.0 + sum_by (λ (id : Id). size_at (set sizes i v) id.0) kids =
      sum_by-cons (λ (id : Id). size_at (set sizes i v) id.0) id kids in
      let old : sum_by (λ (id : Id). size_at sizes id.0) (id ∷ kids) ≡ size_at sizes id.0 + sum_by (λ (id : Id). size_at sizes id.0) kids = sum_by-cons (λ (id : Id). size_at sizes id.0) id kids in
      omega (arith, new, old, size_same id.0 both.0, sizes_same kids both.1)

  tokens_same : (o : Option ℕ) (e : Term) → are_marked marks (parts_at o e) ≡ true → node_tokens (set sizes i v) o e ≡ node_tokens sizes o e
  tokens_same (Some j) e m = size_same j (marked_in marks (j ∷ []) j m (inl refl))
  tokens_same None (Var s c) m = refl
  tokens_same None (Free c) m = refl
  tokens_same None (Node l c k kids) m = ap (λ (n : ℕ). saturated (k + n)) (sizes_same kids m)

pub measured_more : (nodes : List Term) (bound : List (Option ℕ)) (marks : List Bool) (sizes : List ℕ) (i : ℕ) → i < length nodes
    → is_marked marks i ≡ false → are_marked marks (parts_of nodes bound i) ≡ true → AreMeasured nodes bound marks sizes
    → AreMeasured nodes bound (set marks i true) (set sizes i (node_tokens sizes (bound_at bound i) (term_at nodes i)))
measured_more nodes bound marks sizes i below fresh can a =
    let v = node_tokens sizes (bound_at bound i) (term_at nodes i) in
    record {
      count = length-set sizes i v ∙ a.count;
      parts = λ k k_below m. elim (cases_eq k i) [
        | inl at ↦ rw at (all_marked_more marks i fresh (parts_of nodes bound i) can)
        | inr past ↦
            let was : is_marked marks k ≡ true = sym (get_or-set_other marks i k true false past) ∙ m in
            all_marked_more marks i fresh (parts_of nodes bound k) (a.parts k k_below was)
      ];
      each = λ k k_below m. elim (cases_eq k i) [
        | inl at ↦ rw at (get_or-set_same sizes i v 0 (omega (arith, a.count)) ∙ sym (tokens_same marks sizes i v fresh (bound_at bound i) (term_at nodes i) can))
        | inr past ↦
            let was : is_marked marks k ≡ true = sym (get_or-set_other marks i k true false past) ∙ m in
            get_or-set_other sizes i k v 0 past ∙ a.each k k_below was ∙ sym (tokens_same marks sizes i v fresh (bound_at bound k) (term_at nodes k) (a.parts k k_below was))
      ];
    }

pub none_measured : (nodes : List Term) (bound : List (Option ℕ)) (marks : List Bool) (sizes : List ℕ) → ((k : ℕ) → is_marked marks k ≡ false)
    → length sizes ≡ length nodes → AreMeasured nodes bound marks sizes
none_measured nodes bound marks sizes none count = record {
  count = count;
  parts = λ i below m. absurd (both_ways (is_marked marks i) (none i) m);
  each = λ i below m. absurd (both_ways (is_marked marks i) (none i) m);
}

-- ---- all are counted

pub measured_all : (nodes : List Term) (links : List Link) (bound : List (Option ℕ)) (marks : List Bool) (sizes : List ℕ)
    → InOrder (length nodes) links → IsTableOf bound links → ((i : ℕ) → i < length nodes → is_marked marks i ≡ true)
    → AreMeasured nodes bound marks sizes → AreSizes nodes links sizes
measured_all nodes links bound marks sizes order table all a = record {
  count = a.count;
  each = λ i below.
      let n = length nodes in
      let r = end_of links i in
      let r_below : r < n = end_below n links i order below in
      let Q : ℕ → Type 0 = λ k. (k < n) × (size_at sizes i ≡ size_at sizes k) in
      let along : Q r = passes_to_end n Q links i order (λ k j e q. at_target k j e i q) (below, refl) in
      let free : bound_at bound r ≡ None = table.each r ∙ end_unbound n links i order in
      let here : size_at sizes r ≡ node_tokens sizes None (term_at nodes r) = rw free at (a.each r r_below (all r r_below)) in
      along.1 ∙ here;
}
  where
    at_target : (k j : ℕ) → target_of links k ≡ Some j → (i : ℕ) → (k < length nodes) × (size_at sizes i ≡ size_at sizes k) → (j < length nodes) × (size_at sizes i ≡ size_at sizes j)
    at_target k j e i q =
        let o : bound_at bound k ≡ Some j = table.each k ∙ e in
        let here : size_at sizes k ≡ node_tokens sizes (Some j) (term_at nodes k) = rw o at (a.each k q.0 (all k q.0)) in
        (target_below (length nodes) links k j order e, q.1 ∙ here)

-- ---- the numbers are those of trees

tokens-Var : (constants : Label → ℕ) (s : Sym) (c : Typecode) → tokens constants (tree.Var s c) ≡ 1
unfolding tokens
tokens-Var constants s c = fold-Var ℕ (layer_tokens constants) s c

tokens-Node : (constants : Label → ℕ) (l : Label) (c : Typecode) (ts : List Tree) → tokens constants (tree.Node l c ts) ≡ constants l + sum (map (tokens constants) ts)
unfolding tokens
tokens-Node constants l c ts = fold-Node ℕ (layer_tokens constants) l c ts

min_sum : (m k a s : ℕ) → min (k + (min a m + s)) m ≡ min (k + (a + s)) m
min_sum m k a s = omega arith

-- a sum of numbers that stand still at m, and of the numbers
sums_saturate : (m : ℕ) (sizes : List ℕ) (trees : List Tree) (f : Tree → ℕ) (kids : List Id) (k : ℕ)
    → ((id : Id) → IsIn id.0 (map (λ (id : Id). id.0) kids) → size_at sizes id.0 ≡ min (f (tree_at trees id.0)) m)
    → min (k + sum_by (λ (id : Id). size_at sizes id.0) kids) m ≡ min (k + sum (map f (trees_at trees kids))) m
sums_saturate m sizes trees f [] k each = refl
sums_saturate m sizes trees f (id ∷ kids) k each =
    let S : ℕ = sum_by (λ (id : Id). size_at sizes id.0) kids in
    let T : ℕ = sum (map f (trees_at trees kids)) in
    let a : ℕ = f (tree_at trees id.0) in
    let left : sum_by (λ (id : Id). size_at sizes id.0) (id ∷ kids) ≡ size_at sizes id.0 + S = sum_by-cons (λ (id : Id). size_at sizes id.0) id kids in
    let right : sum (map f (trees_at trees (id ∷ kids))) ≡ a + T = sum_by-cons (λ (x : ℕ). x) a (map f (trees_at trees kids)) in
    let here : size_at sizes id.0 ≡ min a m = each id (inl refl) in
    let rest : min ((k + a) + S) m ≡ min ((k + a) + T) m = sums_saturate m sizes trees f kids (k + a) (λ x h. each x (inr h)) in
    rw (left, right, here) (omega (arith, rest, min_sum m k a S))

module _ (nodes : List Term) (links : List Link) (sizes : List ℕ) (store : IsStore nodes links) (s : AreSizes nodes links sizes)
    (constants : Label → ℕ) (trees : List Tree) (have : HaveConstants constants nodes) (g : IsGeneral constants nodes links trees) where
  abbrev IsRight : ℕ → Type 0
  IsRight i = size_at sizes i ≡ saturated (tokens constants (tree_at trees i))

  at_end : (r : ℕ) (e : Term) → HasConstants constants e → Fits trees (tree_at trees r) e → (is_free e ≡ true → tokens constants (tree_at trees r) ≡ 1)
      → ((id : Id) → IsIn id.0 (map (λ (id : Id). id.0) (children_of e)) → IsRight id.0) → saturated (term_tokens sizes e) ≡ saturated (tokens constants (tree_at trees r))
  at_end r (Var x c) h f leaf kids = ap saturated (sym (ap (tokens constants) f ∙ tokens-Var constants x c))
  at_end r (Free c) h f leaf kids = ap saturated (sym (leaf refl))
  at_end r (Node l c k xs) h f leaf kids =
      ap (λ (n : ℕ). saturated (n + sum_by (λ (id : Id). size_at sizes id.0) xs)) h
      ∙ sums_saturate (2 ^ 64 - 1) sizes trees (tokens constants) xs (constants l) kids
      ∙ ap saturated (sym (ap (tokens constants) f ∙ tokens-Node constants l c (trees_at trees xs)))

  right_below : (n i : ℕ) → i < length nodes → size_of (tree_at trees i) < n → IsRight i
  right_below zero i below h = absurd (omega arith)
  right_below (suc n) i below h =
      let r = end_of links i in
      let r_below : r < length nodes = end_below (length nodes) links i store.in_order below in
      let same : tree_at trees i ≡ tree_at trees r = respects_end trees links i g.solves.links_fit in
      let e = term_at nodes r in
      let fit = g.solves.nodes_fit r r_below in
      let kids = λ (id : Id) (h' : IsIn id.0 (map (λ (id : Id). id.0) (children_of e))).
      right_below n id.0 (omega (arith, r_below, child_below r id.0 (children_of e) (store.children r r_below) h'))
      (omega (arith, child_smaller trees (tree_at trees r) e id.0 fit h', h, ap size_of same)) in
      s.each i below
      ∙ at_end r e (have r r_below) fit (g.leaves r r_below (end_unbound (length nodes) links i store.in_order)) kids
      ∙ ap (λ (t : Tree). saturated (tokens constants t)) (sym same)

pub tree_sizes : (nodes : List Term) (links : List Link) (sizes : List ℕ) → IsStore nodes links → AreSizes nodes links sizes → AreTreeSizes nodes links sizes
tree_sizes nodes links sizes store s constants trees have g i below =
    right_below nodes links sizes store s constants trees have g (size_of (tree_at trees i) + 1) i below (omega arith)
