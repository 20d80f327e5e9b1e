-- The test of two trees, by their heads and their parts.
use Rattle.std.proofs.Common.{◌≡◌, ℕ, suc, ◌+◌, ◌<◌, ◌≤◌, ◌==◌, Bool, true, false, not, ◌&&◌, List, [], ◌∷◌, map, drop, length, get_or, refl, sym, ap, ◌∙◌, add-one, arith}
use Rattle.std.proofs.Math.Seq.{drop-cons}
use Rattle.std.proofs.lemmas.List.{drop_all}
use Rattle.mm_base.specs.declared.symbols.Sym.{Sym}
use Rattle.mm_base.specs.declared.symbols.Label.{Label}
use Rattle.mm_base.specs.declared.symbols.Typecode.{Typecode}
use Rattle.mm_base.specs.declared.tree.Tree.{Tree, out-Tree}
use Rattle.mm_base.specs.declared.tree.Tree.TheVariants.{Var, Work, Fresh, Node, outs-Var, outs-Work, outs-Fresh, outs-Node}
use Rattle.mm_base.specs.declared.tree.Tree.TheOpen.{Tree-F}
use Rattle.mm_base.specs.SameTrees.{same_code, same_tree, layer_same, all_pass}
use Rattle.mm_base.proofs.TreeFolds.{fold-Var, fold-Work, fold-Fresh, fold-Node}
use Rattle.mm_base.proofs.TreeInduction.{tree_ind}

-- ---- by the head of the one

abbrev same_layer : Tree-F (Tree → Bool) → Tree → Bool
same_layer x t = layer_same x (out-Tree t)

pub same-Var : (s : Sym) (c : Typecode) (u : Tree) → same_tree (Var s c) u ≡ layer_same (Tree-F.Var s c) (out-Tree u)
unfolding same_tree
same-Var s c u = ap (λ (f : Tree → Bool). f u) (fold-Var (Tree → Bool) same_layer s c)

pub same-Work : (c : Typecode) (n : ℕ) (u : Tree) → same_tree (Work c n) u ≡ layer_same (Tree-F.Work c n) (out-Tree u)
unfolding same_tree
same-Work c n u = ap (λ (f : Tree → Bool). f u) (fold-Work (Tree → Bool) same_layer c n)

pub same-Fresh : (c : Typecode) (n : ℕ) (u : Tree) → same_tree (Fresh c n) u ≡ layer_same (Tree-F.Fresh c n) (out-Tree u)
unfolding same_tree
same-Fresh c n u = ap (λ (f : Tree → Bool). f u) (fold-Fresh (Tree → Bool) same_layer c n)

pub same-Node : (l : Label) (c : Typecode) (ts : List Tree) (u : Tree) → same_tree (Node l c ts) u ≡ layer_same (Tree-F.Node l c (map same_tree ts)) (out-Tree u)
unfolding same_tree
same-Node l c ts u = ap (λ (f : Tree → Bool). f u) (fold-Node (Tree → Bool) same_layer l c ts)

-- ---- trees of other kinds

pub not_var : (s : Sym) (c : Typecode) (u : Tree) → ((r : Sym) (d : Typecode) → u ≡ Var r d → ⊥) → false ≡ same_tree (Var s c) u
not_var s c = tree_ind (λ u. ((r : Sym) (d : Typecode) → u ≡ Var r d → ⊥) → false ≡ same_tree (Var s c) u)
    (λ r d h. absurd (h r d refl))
    (λ d m h. sym (same-Var s c (Work d m) ∙ ap (layer_same (Tree-F.Var s c)) (outs-Work d m)))
    (λ d m h. sym (same-Var s c (Fresh d m) ∙ ap (layer_same (Tree-F.Var s c)) (outs-Fresh d m)))
    (λ k d us i h. sym (same-Var s c (Node k d us) ∙ ap (layer_same (Tree-F.Var s c)) (outs-Node k d us)))

pub not_work : (c : Typecode) (n : ℕ) (u : Tree) → ((d : Typecode) (m : ℕ) → u ≡ Work d m → ⊥) → false ≡ same_tree (Work c n) u
not_work c n = tree_ind (λ u. ((d : Typecode) (m : ℕ) → u ≡ Work d m → ⊥) → false ≡ same_tree (Work c n) u)
    (λ r d h. sym (same-Work c n (Var r d) ∙ ap (layer_same (Tree-F.Work c n)) (outs-Var r d)))
    (λ d m h. absurd (h d m refl))
    (λ d m h. sym (same-Work c n (Fresh d m) ∙ ap (layer_same (Tree-F.Work c n)) (outs-Fresh d m)))
    (λ k d us i h. sym (same-Work c n (Node k d us) ∙ ap (layer_same (Tree-F.Work c n)) (outs-Node k d us)))

pub not_fresh : (c : Typecode) (n : ℕ) (u : Tree) → ((d : Typecode) (m : ℕ) → u ≡ Fresh d m → ⊥) → false ≡ same_tree (Fresh c n) u
not_fresh c n = tree_ind (λ u. ((d : Typecode) (m : ℕ) → u ≡ Fresh d m → ⊥) → false ≡ same_tree (Fresh c n) u)
    (λ r d h. sym (same-Fresh c n (Var r d) ∙ ap (layer_same (Tree-F.Fresh c n)) (outs-Var r d)))
    (λ d m h. sym (same-Fresh c n (Work d m) ∙ ap (layer_same (Tree-F.Fresh c n)) (outs-Work d m)))
    (λ d m h. absurd (h d m refl))
    (λ k d us i h. sym (same-Fresh c n (Node k d us) ∙ ap (layer_same (Tree-F.Fresh c n)) (outs-Node k d us)))

pub not_node : (l : Label) (c : Typecode) (ts : List Tree) (u : Tree) → ((k : Label) (d : Typecode) (us : List Tree) → u ≡ Node k d us → ⊥) → false ≡ same_tree (Node l c ts) u
not_node l c ts = tree_ind (λ u. ((k : Label) (d : Typecode) (us : List Tree) → u ≡ Node k d us → ⊥) → false ≡ same_tree (Node l c ts) u)
    (λ r d h. sym (same-Node l c ts (Var r d) ∙ ap (layer_same (Tree-F.Node l c (map same_tree ts))) (outs-Var r d)))
    (λ d m h. sym (same-Node l c ts (Work d m) ∙ ap (layer_same (Tree-F.Node l c (map same_tree ts))) (outs-Work d m)))
    (λ d m h. sym (same-Node l c ts (Fresh d m) ∙ ap (layer_same (Tree-F.Node l c (map same_tree ts))) (outs-Fresh d m)))
    (λ k d us i h. absurd (h k d us refl))

-- ---- trees of one kind

pub both_vars : (s r : Sym) (c d : Typecode) → same_tree (Var s c) (Var r d) ≡ ((s.0 == r.0) && same_code c d)
both_vars s r c d = same-Var s c (Var r d) ∙ ap (layer_same (Tree-F.Var s c)) (outs-Var r d)

pub both_works : (c d : Typecode) (n m : ℕ) → same_tree (Work c n) (Work d m) ≡ (same_code c d && (n == m))
both_works c d n m = same-Work c n (Work d m) ∙ ap (layer_same (Tree-F.Work c n)) (outs-Work d m)

pub both_fresh : (c d : Typecode) (n m : ℕ) → same_tree (Fresh c n) (Fresh d m) ≡ (same_code c d && (n == m))
both_fresh c d n m = same-Fresh c n (Fresh d m) ∙ ap (layer_same (Tree-F.Fresh c n)) (outs-Fresh d m)

pub both_nodes : (l k : Label) (c d : Typecode) (ts us : List Tree) → same_tree (Node l c ts) (Node k d us) ≡ ((l.0 == k.0) && same_code c d && all_pass (map same_tree ts) us)
both_nodes l k c d ts us = same-Node l c ts (Node k d us) ∙ ap (layer_same (Tree-F.Node l c (map same_tree ts))) (outs-Node k d us)

-- ---- parts

pub other_count : (ts us : List Tree) → (length ts ≡ length us → ⊥) → all_pass (map same_tree ts) us ≡ false
other_count [] [] h = absurd (h refl)
other_count [] (u ∷ us) h = refl
other_count (t ∷ ts) [] h = refl
other_count (t ∷ ts) (u ∷ us) h = by (same_tree t u) (other_count ts us (λ e. h (omega (arith, e))))
  where
    by : (b : Bool) → all_pass (map same_tree ts) us ≡ false → (b && all_pass (map same_tree ts) us) ≡ false
    by true e = e
    by false e = refl

pub next_part : (ts us : List Tree) (i : ℕ) (d e : Tree) → i < length ts → i < length us
    → all_pass (map same_tree (drop i ts)) (drop i us) ≡ (same_tree (get_or ts i d) (get_or us i e) && all_pass (map same_tree (drop (i + 1) ts)) (drop (i + 1) us))
next_part ts us i d e h k = rw add-one (ap (λ xs. all_pass (map same_tree xs) (drop i us)) (drop-cons ts i d h) ∙ ap (all_pass (map same_tree (get_or ts i d ∷ drop (suc i) ts))) (drop-cons us i e k))

pub no_parts : (ts us : List Tree) (i : ℕ) → length ts ≤ i → length us ≤ i → all_pass (map same_tree (drop i ts)) (drop i us) ≡ true
no_parts ts us i h k = ap (λ xs. all_pass (map same_tree xs) (drop i us)) (drop_all i ts h) ∙ ap (all_pass []) (drop_all i us k)

-- ---- what is told at each pair of kinds

pub and_then : (a b r : Bool) → a ≡ true → r ≡ b → r ≡ (a && b)
and_then true b r h e = e
and_then false b r h e = absurd (cc)

pub and_else : (a b r : Bool) → r ≡ a → r ≡ false → r ≡ (a && b)
and_else true b r h e = absurd (cc)
and_else false b r h e = h

pub var_told : (one other : Tree) (s r : Sym) (c d : Typecode) (b : Bool) → one ≡ Var s c → other ≡ Var r d → b ≡ ((s.0 == r.0) && same_code c d) → b ≡ same_tree one other
var_told one other s r c d b e f h = h ∙ sym (ap (λ t. same_tree t other) e ∙ ap (same_tree (Var s c)) f ∙ both_vars s r c d)

pub work_told : (one other : Tree) (c d : Typecode) (n m : ℕ) (b : Bool) → one ≡ Work c n → other ≡ Work d m → b ≡ (same_code c d && (n == m)) → b ≡ same_tree one other
work_told one other c d n m b e f h = h ∙ sym (ap (λ t. same_tree t other) e ∙ ap (same_tree (Work c n)) f ∙ both_works c d n m)

pub fresh_told : (one other : Tree) (c d : Typecode) (n m : ℕ) (b : Bool) → one ≡ Fresh c n → other ≡ Fresh d m → b ≡ (same_code c d && (n == m)) → b ≡ same_tree one other
fresh_told one other c d n m b e f h = h ∙ sym (ap (λ t. same_tree t other) e ∙ ap (same_tree (Fresh c n)) f ∙ both_fresh c d n m)

pub node_told : (one other : Tree) (l k : Label) (c d : Typecode) (ts us : List Tree) (b : Bool) → one ≡ Node l c ts → other ≡ Node k d us
    → b ≡ ((l.0 == k.0) && same_code c d && all_pass (map same_tree ts) us) → b ≡ same_tree one other
node_told one other l k c d ts us b e f h = h ∙ sym (ap (λ t. same_tree t other) e ∙ ap (same_tree (Node l c ts)) f ∙ both_nodes l k c d ts us)

pub other_kind : (one other t : Tree) → one ≡ t → false ≡ same_tree t other → false ≡ same_tree one other
other_kind one other t e h = h ∙ sym (ap (λ x. same_tree x other) e)

pub all_three : (a b p r : Bool) → a ≡ true → b ≡ true → r ≡ p → r ≡ (a && b && p)
all_three true true p r h k e = e
all_three true false p r h k e = absurd (cc)
all_three false b p r h k e = absurd (cc)

pub first_fails : (a b p : Bool) → a ≡ false → false ≡ (a && b && p)
first_fails true b p e = absurd (cc)
first_fails false b p e = refl

pub second_fails : (a b p : Bool) → b ≡ false → false ≡ (a && b && p)
second_fails true true p e = absurd (cc)
second_fails true false p e = refl
second_fails false b p e = refl

pub third_fails : (a b p : Bool) → p ≡ false → false ≡ (a && b && p)
third_fails true true p e = sym e
third_fails true false p e = refl
third_fails false b p e = refl

pub and_false : (a b : Bool) → a ≡ false → (a && b) ≡ false
and_false true b e = absurd (cc)
and_false false b e = refl

pub and_true : (a b : Bool) → a ≡ true → (a && b) ≡ b
and_true true b e = refl
and_true false b e = absurd (cc)

not_true : (a : Bool) → true ≡ not a → a ≡ false
not_true true e = absurd (cc)
not_true false e = refl

not_false : (a : Bool) → false ≡ not a → a ≡ true
not_false true e = refl
not_false false e = absurd (cc)

-- ---- what is told at two nodes

module _ (one other : Tree) (l k : Label) (c d : Typecode) (ts us : List Tree) (e : one ≡ Node l c ts) (f : other ≡ Node k d us) where
  pub other_label : true ≡ not (l.0 == k.0) → false ≡ same_tree one other
  other_label h = node_told one other l k c d ts us false e f (first_fails (l.0 == k.0) (same_code c d) (all_pass (map same_tree ts) us) (not_true (l.0 == k.0) h))

  pub other_code : true ≡ not (same_code c d) → false ≡ same_tree one other
  other_code h = node_told one other l k c d ts us false e f (second_fails (l.0 == k.0) (same_code c d) (all_pass (map same_tree ts) us) (not_true (same_code c d) h))

  other_parts : all_pass (map same_tree ts) us ≡ false → false ≡ same_tree one other
  other_parts h = node_told one other l k c d ts us false e f (third_fails (l.0 == k.0) (same_code c d) (all_pass (map same_tree ts) us) h)

  module _ (ps qs : List Tree) (x : ps ≡ ts) (y : qs ≡ us) where
    as_parts : all_pass (map same_tree ts) us ≡ all_pass (map same_tree ps) qs
    as_parts = sym (ap (λ zs. all_pass (map same_tree zs) qs) x ∙ ap (all_pass (map same_tree ts)) y)

    pub other_length : (length ps ≡ length qs → ⊥) → false ≡ same_tree one other
    other_length h = other_parts (as_parts ∙ other_count ps qs h)

    module _ (i : ℕ) (inv : all_pass (map same_tree ps) qs ≡ all_pass (map same_tree (drop i ps)) (drop i qs)) (n : length ps ≡ length qs) where
      pub other_part : i < length ps → (t u : Tree) (r : Bool) → t ≡ get_or ps i t → u ≡ get_or qs i u → r ≡ same_tree t u → r ≡ false → false ≡ same_tree one other
      other_part h t u r a b is fails =
          let here : same_tree (get_or ps i t) (get_or qs i u) ≡ false = sym (is ∙ ap (λ z. same_tree z u) a ∙ ap (same_tree (get_or ps i t)) b) ∙ fails in
          other_parts (as_parts ∙ inv ∙ next_part ps qs i t u h (omega (arith, n, h))
          ∙ and_false (same_tree (get_or ps i t) (get_or qs i u)) (all_pass (map same_tree (drop (i + 1) ps)) (drop (i + 1) qs)) here)

      pub all_parts : length ps ≤ i → false ≡ not (l.0 == k.0) → false ≡ not (same_code c d) → true ≡ same_tree one other
      all_parts h g j =
          node_told one other l k c d ts us true e f
          (all_three (l.0 == k.0) (same_code c d) (all_pass (map same_tree ts) us) true (not_false (l.0 == k.0) g) (not_false (same_code c d) j)
          (sym (as_parts ∙ inv ∙ no_parts ps qs i h (omega (arith, n, h)))))

-- one more part is equal
pub part_passed : (ps qs : List Tree) (i : ℕ) → all_pass (map same_tree ps) qs ≡ all_pass (map same_tree (drop i ps)) (drop i qs) → i < length ps → length ps ≡ length qs
    → (t u : Tree) (r : Bool) → t ≡ get_or ps i t → u ≡ get_or qs i u → r ≡ same_tree t u → r ≡ true
    → all_pass (map same_tree ps) qs ≡ all_pass (map same_tree (drop (i + 1) ps)) (drop (i + 1) qs)
part_passed ps qs i inv h n t u r a b is passes =
    let here : same_tree (get_or ps i t) (get_or qs i u) ≡ true = sym (is ∙ ap (λ z. same_tree z u) a ∙ ap (same_tree (get_or ps i t)) b) ∙ passes in
    inv ∙ next_part ps qs i t u h (omega (arith, n, h)) ∙ and_true (same_tree (get_or ps i t) (get_or qs i u)) (all_pass (map same_tree (drop (i + 1) ps)) (drop (i + 1) qs)) here
