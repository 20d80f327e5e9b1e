-- A tree of a frame matched with a tree: what its variables become.
use Rattle.std.specs.Prelude.{◌≡◌, ◌==◌, ◌++◌, ℕ, true, List, [], ◌∷◌, map, find, flat_map, Contains, refl}
use Rattle.std.specs.List.{AllByRecursion}
use Rattle.std.specs.Option.{option_map_or}
use Rattle.std.proofs.Common.{sym, ap, subst, ◌∙◌, inl, inr, eqb-true, eq-eqb}
use Rattle.std.proofs.lemmas.Bool.{cases_Bool, both_ways}
use Rattle.std.proofs.lemmas.List.Elements.{Contains-append_left, Contains-append_right}
use Rattle.mm_base.specs.declared.symbols.Sym.{Sym}
use Rattle.mm_base.specs.declared.symbols.Label.{Label}
use Rattle.mm_base.specs.declared.symbols.Typecode.{Typecode}
use Rattle.mm_base.specs.declared.tree.Tree.{Tree, out-Tree}
use Rattle.mm_base.specs.declared.tree.Tree.TheVariants.{Var, Work, Fresh, Node, outs-Node}
use Rattle.mm_base.specs.declared.tree.Tree.TheOpen.{Tree-F}
use Rattle.mm_base.specs.declared.tree.Tree.TheFolds.{fold-Tree}
use Rattle.mm_base.specs.Trees.{Each}
use Rattle.mm_base.proofs.TreeInduction.{tree_ind}
use Rattle.mm_base.proofs.TreeFolds.{fold-Var, fold-Work, fold-Fresh, fold-Node}
use Rattle.solve_model.specs.Trees.{Open, replace, variables, flatten}
use Rattle.solve_model.proofs.TreeLaws.{replace-Var, replace-Node, variables-Var, variables-Work, variables-Fresh, variables-Node}
use Rattle.written_model.specs.WrittenSteps.{no_tree}
use Rattle.answer_laws.proofs.Elements.{parted, nothing}

-- a variable with the tree that stands for it
abbrev pub Match : Type 0
Match = Sym × Tree

abbrev children : Tree-F Tree → List Tree
children (Tree-F.Var s c) = []
children (Tree-F.Work c n) = []
children (Tree-F.Fresh c n) = []
children (Tree-F.Node l c ts) = ts

abbrev match_all : List (Tree → List Match) → List Tree → List Match
match_all [] ts = []
match_all (f ∷ fs) [] = []
match_all (f ∷ fs) (t ∷ ts) = f t ++ match_all fs ts

abbrev match_layer : Tree-F (Tree → List Match) → Tree → List Match
match_layer (Tree-F.Var s c) t = (s, t) ∷ []
match_layer (Tree-F.Work c n) t = []
match_layer (Tree-F.Fresh c n) t = []
match_layer (Tree-F.Node l c fs) t = match_all fs (children (out-Tree t))

-- what stands for each variable of a tree, in order, where the tree is laid over another one
unfoldable pub matches : Tree → Tree → List Match
matches = fold-Tree (Tree → List Match) match_layer

matches-Var : (s : Sym) (c : Typecode) (t : Tree) → matches (Var s c) t ≡ (s, t) ∷ []
unfolding matches
matches-Var s c t = ap (λ (f : Tree → List Match). f t) (fold-Var (Tree → List Match) match_layer s c)

matches-Work : (c : Typecode) (n : ℕ) (t : Tree) → matches (Work c n) t ≡ []
unfolding matches
matches-Work c n t = ap (λ (f : Tree → List Match). f t) (fold-Work (Tree → List Match) match_layer c n)

matches-Fresh : (c : Typecode) (n : ℕ) (t : Tree) → matches (Fresh c n) t ≡ []
unfolding matches
matches-Fresh c n t = ap (λ (f : Tree → List Match). f t) (fold-Fresh (Tree → List Match) match_layer c n)

matches-Node : (l : Label) (c : Typecode) (ts : List Tree) (t : Tree) → matches (Node l c ts) t ≡ match_all (map matches ts) (children (out-Tree t))
unfolding matches
matches-Node l c ts t = ap (λ (f : Tree → List Match). f t) (fold-Node (Tree → List Match) match_layer l c ts)

module _ (v : Sym → Tree) (p : Open → Tree) where
  abbrev pub valued_by : Tree → Tree
  valued_by t = replace (λ s c. v s) p t

  abbrev pub with_value : Sym → Match
  with_value s = (s, v s)

  abbrev Matched : Tree → Type 0
  Matched t = matches t (valued_by t) ≡ map with_value (variables t)

  map_both : (xs ys : List Sym) → map with_value xs ++ map with_value ys ≡ map with_value (xs ++ ys)
  map_both [] ys = refl
  map_both (x ∷ xs) ys = ap (λ zs. with_value x ∷ zs) (map_both xs ys)

  all_matched : (ts : List Tree) → Each Matched ts → match_all (map matches ts) (map valued_by ts) ≡ map with_value (flatten (map variables ts))
  all_matched [] h = refl
  all_matched (t ∷ ts) h =
      ap (λ qs. qs ++ match_all (map matches ts) (map valued_by ts)) h.0
      ∙ ap (λ qs. map with_value (variables t) ++ qs) (all_matched ts h.1)
      ∙ map_both (variables t) (flatten (map variables ts))

  -- laid over its own value, a tree tells the values of its variables
  pub matched : (t : Tree) → Matched t
  matched = tree_ind Matched
      (λ s c. matches-Var s c (valued_by (Var s c)) ∙ ap (λ t. (s, t) ∷ []) (replace-Var (λ r d. v r) p s c) ∙ ap (map with_value) (sym (variables-Var s c)))
      (λ c n. matches-Work c n (valued_by (Work c n)) ∙ ap (map with_value) (sym (variables-Work c n)))
      (λ c n. matches-Fresh c n (valued_by (Fresh c n)) ∙ ap (map with_value) (sym (variables-Fresh c n)))
      (λ l c ts h. matches-Node l c ts (valued_by (Node l c ts))
      ∙ ap (λ t. match_all (map matches ts) (children (out-Tree t))) (replace-Node (λ r d. v r) p l c ts)
      ∙ ap (λ x. match_all (map matches ts) (children x)) (outs-Node l c (map valued_by ts))
      ∙ all_matched ts h ∙ ap (map with_value) (sym (variables-Node l c ts)))

-- ---- what a variable became

abbrev pub looked : List Match → Sym → Tree
looked qs s = option_map_or (λ (q : Match). q.1) (find (λ (q : Match). q.0.0 == s.0) qs) no_tree

sym_with : ℕ → Sym
sym_with n = record { 0 = n }

same_symbol : (s r : Sym) → (s.0 == r.0) ≡ true → s ≡ r
unfolding sym_with
same_symbol s r e = ap sym_with (eqb-true s.0 r.0 e)

module _ (v : Sym → Tree) where
  abbrev pub AreValues : List Match → Type 0
  AreValues qs = AllByRecursion (λ (q : Match). q.1 ≡ v q.0) qs

  pub looked_is : (qs : List Match) (s : Sym) → AreValues qs → Contains (map (λ (q : Match). q.0) qs) s → looked qs s ≡ v s
  looked_is [] s h o = absurd (nothing s o)
  looked_is (q ∷ qs) s h o = elim (cases_Bool (q.0.0 == s.0)) [
    | inl e ↦ rw e (h.0 ∙ ap v (same_symbol q.0 s e))
    | inr e ↦ rw e (elim (parted s q.0 (map (λ (x : Match). x.0) qs) o) [
      | inl here ↦ absurd (both_ways (q.0.0 == s.0) e (eq-eqb q.0.0 s.0 (ap (λ (x : Sym). x.0) here)))
      | inr rest ↦ looked_is qs s h.1 rest
    ])
  ]

  values_append : (qs rs : List Match) → AreValues qs → AreValues rs → AreValues (qs ++ rs)
  values_append [] rs h k = k
  values_append (q ∷ qs) rs h k = (h.0, values_append qs rs h.1 k)

  are_values : (ss : List Sym) → AreValues (map (λ s. let q : Match = (s, v s) in q) ss)
  are_values [] = tt
  are_values (s ∷ ss) = (refl, are_values ss)

  firsts_are : (ss : List Sym) → map (λ (q : Match). q.0) (map (λ s. let q : Match = (s, v s) in q) ss) ≡ ss
  firsts_are [] = refl
  firsts_are (s ∷ ss) = ap (λ xs. s ∷ xs) (firsts_are ss)

  map_append : (qs rs : List Match) → map (λ (q : Match). q.0) (qs ++ rs) ≡ map (λ (q : Match). q.0) qs ++ map (λ (q : Match). q.0) rs
  map_append [] rs = refl
  map_append (q ∷ qs) rs = ap (λ xs. q.0 ∷ xs) (map_append qs rs)

  module _ (p : Open → Tree) where
    -- a tree of a frame, and the tree that it has to become
    abbrev pub Job : Type 0
    Job = Tree × Tree

    abbrev pub IsDone : Job → Type 0
    IsDone j = j.1 ≡ replace (λ s c. v s) p j.0

    abbrev matches_of : Job → List Match
    matches_of j = matches j.0 j.1

    job_is : (j : Job) → IsDone j → matches_of j ≡ map (with_value v p) (variables j.0)
    job_is j e = ap (matches j.0) e ∙ matched v p j.0

    all_values : (js : List Job) → AllByRecursion IsDone js → AreValues (flat_map matches_of js)
    all_values [] h = tt
    all_values (j ∷ js) h = values_append (matches_of j) (flat_map matches_of js) (subst AreValues (sym (job_is j h.0)) (are_values (variables j.0))) (all_values js h.1)

    stands_first : (js : List Job) (t : Tree) (s : Sym) → AllByRecursion IsDone js → Contains (map (λ (j : Job). j.0) js) t → Contains (variables t) s
        → Contains (map (λ (q : Match). q.0) (flat_map matches_of js)) s
    stands_first [] t s h o k = absurd (nothing t o)
    stands_first (j ∷ js) t s h o k =
        subst (λ ss. Contains ss s) (sym (map_append (matches_of j) (flat_map matches_of js)))
        (elim (parted t j.0 (map (λ (i : Job). i.0) js) o) [
          | inl here ↦
              let mine : map (λ (q : Match). q.0) (matches_of j) ≡ variables j.0 = ap (map (λ (q : Match). q.0)) (job_is j h.0) ∙ firsts_are (variables j.0) in
              Contains-append_left (map (λ (q : Match). q.0) (matches_of j)) (map (λ (q : Match). q.0) (flat_map matches_of js)) s
              (subst (λ ss. Contains ss s) (sym mine) (subst (λ u. Contains (variables u) s) (sym here) k))
          | inr rest ↦
              Contains-append_right (map (λ (q : Match). q.0) (matches_of j)) (map (λ (q : Match). q.0) (flat_map matches_of js)) s (stands_first js t s h.1 rest k)
        ])

    -- where each tree becomes what it has to, each of their variables is told
    pub told : (js : List Job) (t : Tree) (s : Sym) → AllByRecursion IsDone js → Contains (map (λ (j : Job). j.0) js) t → Contains (variables t) s → looked (flat_map matches_of js) s ≡ v s
    told js t s h o k = looked_is (flat_map matches_of js) s (all_values js h) (stands_first js t s h o k)
