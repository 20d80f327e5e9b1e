-- The test of two trees decides whether they are equal.
use Rattle.std.specs.Prelude.{◌≡◌, ◌↔◌, ℕ, ◌==◌, Bool, true, false, ◌&&◌, List, [], ◌∷◌, map, refl}
use Rattle.std.proofs.Common.{sym, ap, subst, ◌∙◌, arith}
use Rattle.std.proofs.lemmas.Bool.Decides.{nat_tests}
use Rattle.mm_base.specs.declared.symbols.Sym.{Sym}
use Rattle.mm_base.specs.declared.symbols.Label.{Label}
use Rattle.mm_base.specs.declared.symbols.Typecode.{Typecode}
use Rattle.mm_base.specs.declared.tree.Tree.{Tree, out-Tree}
use Rattle.mm_base.specs.declared.tree.Tree.TheVariants.{Var, Work, Fresh, Node, outs-Var, outs-Work, outs-Fresh, outs-Node}
use Rattle.mm_base.specs.declared.tree.Tree.TheOpen.{Tree-F}
use Rattle.mm_base.specs.Trees.{Each}
use Rattle.mm_base.proofs.TreeInduction.{tree_ind}
use Rattle.mm_model.specs.Chains.{same_code}
use Rattle.solve_model.specs.Trees.{same_tree, layer_same, all_pass}
use Rattle.solve_model.proofs.TreeLaws.{same-Var, same-Work, same-Fresh, same-Node}

both : (a b : Bool) → (a && b) ≡ true → (a ≡ true) × (b ≡ true)
both true true e = (refl, refl)
both true false e = absurd (cc)
both false b e = absurd (cc)

same_number : (n m : ℕ) → (n == m) ≡ true → n ≡ m
same_number n m e = grind (arith, nat_tests)

self_number : (n : ℕ) → (n == n) ≡ true
self_number n = grind (arith, nat_tests)

sym_of : ℕ → Sym
sym_of n = record { 0 = n }

same_sym : (s r : Sym) → (s.0 == r.0) ≡ true → s ≡ r
unfolding sym_of
same_sym s r e = ap sym_of (same_number s.0 r.0 e)

label_of : ℕ → Label
label_of n = record { 0 = n }

same_label : (l k : Label) → (l.0 == k.0) ≡ true → l ≡ k
unfolding label_of
same_label l k e = ap label_of (same_number l.0 k.0 e)

code_with : ℕ → Typecode
code_with n = record { 0 = record { 0 = n } }

codes_same : (c d : Typecode) → same_code c d ≡ true → c ≡ d
unfolding code_with
codes_same c d e = ap code_with (same_number c.0.0 d.0.0 e)

-- ---- what passes the test is equal

at_var : (s : Sym) (c : Typecode) (u : Tree) → layer_same (Tree-F.Var s c) (out-Tree u) ≡ true → Var s c ≡ u
at_var s c = tree_ind (λ u. layer_same (Tree-F.Var s c) (out-Tree u) ≡ true → Var s c ≡ u)
    (λ r d e. let h = both (s.0 == r.0) (same_code c d) (rw outs-Var at e) in let one = same_sym s r h.0 in let other = codes_same c d h.1 in cc)
    (λ d m e. let h : false ≡ true = rw outs-Work at e in absurd (cc))
    (λ d m e. let h : false ≡ true = rw outs-Fresh at e in absurd (cc))
    (λ k d us i e. let h : false ≡ true = rw outs-Node at e in absurd (cc))

at_work : (c : Typecode) (n : ℕ) (u : Tree) → layer_same (Tree-F.Work c n) (out-Tree u) ≡ true → Work c n ≡ u
at_work c n = tree_ind (λ u. layer_same (Tree-F.Work c n) (out-Tree u) ≡ true → Work c n ≡ u)
    (λ r d e. let h : false ≡ true = rw outs-Var at e in absurd (cc))
    (λ d m e. let h = both (same_code c d) (n == m) (rw outs-Work at e) in let one = codes_same c d h.0 in let other = same_number n m h.1 in cc)
    (λ d m e. let h : false ≡ true = rw outs-Fresh at e in absurd (cc))
    (λ k d us i e. let h : false ≡ true = rw outs-Node at e in absurd (cc))

at_fresh : (c : Typecode) (n : ℕ) (u : Tree) → layer_same (Tree-F.Fresh c n) (out-Tree u) ≡ true → Fresh c n ≡ u
at_fresh c n = tree_ind (λ u. layer_same (Tree-F.Fresh c n) (out-Tree u) ≡ true → Fresh c n ≡ u)
    (λ r d e. let h : false ≡ true = rw outs-Var at e in absurd (cc))
    (λ d m e. let h : false ≡ true = rw outs-Work at e in absurd (cc))
    (λ d m e. let h = both (same_code c d) (n == m) (rw outs-Fresh at e) in let one = codes_same c d h.0 in let other = same_number n m h.1 in cc)
    (λ k d us i e. let h : false ≡ true = rw outs-Node at e in absurd (cc))

abbrev IsTold : Tree → Type 0
IsTold t = (u : Tree) → same_tree t u ≡ true → t ≡ u

all_told : (ts us : List Tree) → Each IsTold ts → all_pass (map same_tree ts) us ≡ true → ts ≡ us
all_told [] [] h e = refl
all_told [] (u ∷ us) h e = absurd (cc)
all_told (t ∷ ts) [] h e = absurd (cc)
all_told (t ∷ ts) (u ∷ us) h e =
    let split = both (same_tree t u) (all_pass (map same_tree ts) us) e in
    let one = h.0 u split.0 in
    let rest = all_told ts us h.1 split.1 in
    cc

at_node : (l : Label) (c : Typecode) (ts : List Tree) → Each IsTold ts → (u : Tree) → layer_same (Tree-F.Node l c (map same_tree ts)) (out-Tree u) ≡ true → Node l c ts ≡ u
at_node l c ts told = tree_ind (λ u. layer_same (Tree-F.Node l c (map same_tree ts)) (out-Tree u) ≡ true → Node l c ts ≡ u)
    (λ r d e. let h : false ≡ true = rw outs-Var at e in absurd (cc))
    (λ d m e. let h : false ≡ true = rw outs-Work at e in absurd (cc))
    (λ d m e. let h : false ≡ true = rw outs-Fresh at e in absurd (cc))
    (λ k d us i e.
    let outer = both (l.0 == k.0 && same_code c d) (all_pass (map same_tree ts) us) (rw outs-Node at e) in
    let inner = both (l.0 == k.0) (same_code c d) outer.0 in
    let one = same_label l k inner.0 in
    let other = codes_same c d inner.1 in
    let rest = all_told ts us told outer.1 in
    cc)

told_equal : (t : Tree) → IsTold t
told_equal = tree_ind IsTold
    (λ s c u e. at_var s c u (sym (same-Var s c u) ∙ e))
    (λ c n u e. at_work c n u (sym (same-Work c n u) ∙ e))
    (λ c n u e. at_fresh c n u (sym (same-Fresh c n u) ∙ e))
    (λ l c ts h u e. at_node l c ts h u (sym (same-Node l c ts u) ∙ e))

-- ---- what is equal passes

abbrev IsItself : Tree → Type 0
IsItself t = same_tree t t ≡ true

passed : (a b : Bool) → a ≡ true → b ≡ true → (a && b) ≡ true
passed true true e f = refl
passed true false e f = f
passed false b e f = e

all_themselves : (ts : List Tree) → Each IsItself ts → all_pass (map same_tree ts) ts ≡ true
all_themselves [] h = refl
all_themselves (t ∷ ts) h = passed (same_tree t t) (all_pass (map same_tree ts) ts) h.0 (all_themselves ts h.1)

itself : (t : Tree) → IsItself t
itself = tree_ind IsItself
    (λ s c. same-Var s c (Var s c) ∙ ap (layer_same (Tree-F.Var s c)) (outs-Var s c) ∙ passed (s.0 == s.0) (same_code c c) (self_number s.0) (self_number c.0.0))
    (λ c n. same-Work c n (Work c n) ∙ ap (layer_same (Tree-F.Work c n)) (outs-Work c n) ∙ passed (same_code c c) (n == n) (self_number c.0.0) (self_number n))
    (λ c n. same-Fresh c n (Fresh c n) ∙ ap (layer_same (Tree-F.Fresh c n)) (outs-Fresh c n) ∙ passed (same_code c c) (n == n) (self_number c.0.0) (self_number n))
    (λ l c ts h. same-Node l c ts (Node l c ts) ∙ ap (layer_same (Tree-F.Node l c (map same_tree ts))) (outs-Node l c ts)
    ∙ passed (l.0 == l.0 && same_code c c) (all_pass (map same_tree ts) ts) (passed (l.0 == l.0) (same_code c c) (self_number l.0) (self_number c.0.0)) (all_themselves ts h))

pub same_tree-Decides : (t u : Tree) → (same_tree t u ≡ true) ↔ (t ≡ u)
same_tree-Decides t u = (told_equal t u, λ e. subst (λ x. same_tree t x ≡ true) e (itself t))
