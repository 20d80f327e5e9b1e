-- Laws of replaced leaves.
use Rattle.std.specs.Prelude.{◌≡◌, ◌↔◌, zero, suc, Contains, List, [], ◌∷◌, map, refl}
use Rattle.std.proofs.Common.{sym, ap, subst, ◌∙◌, arith, inl, inr}
use Rattle.std.proofs.lemmas.List.Elements.{Contains-append_left, Contains-append_right, Contains-append_cases}
use Rattle.mm_base.specs.declared.symbols.Sym.{Sym}
use Rattle.mm_base.specs.declared.symbols.Typecode.{Typecode}
use Rattle.mm_base.specs.declared.tree.Tree.{Tree}
use Rattle.mm_base.specs.declared.tree.Tree.TheVariants.{Var, Node}
use Rattle.mm_base.specs.Trees.{Each}
use Rattle.mm_base.proofs.TreeInduction.{tree_ind}
use Rattle.mm_base.proofs.TreeFacts.{same_node}
use Rattle.solve_model.specs.Trees.{Open, work, fresh, leaf_tree, replace, open_leaves, flatten}
use Rattle.solve_model.proofs.TreeLaws.{replace-Var, replace-Work, replace-Fresh, replace-Node, open_leaves-Var, open_leaves-Work, open_leaves-Fresh, open_leaves-Node}

contains_one : (x y : Open) → Contains (y ∷ []) x → y ≡ x
contains_one x y (zero, h, e) = e
contains_one x y (suc k, h, e) = absurd (omega (arith, h))

contains_here : (x : Open) → Contains (x ∷ []) x
contains_here x = (0, omega arith, refl)

-- replaced twice is replaced once
module _ (a b : Sym → Typecode → Tree) (p q : Open → Tree) where
  abbrev Once : Tree → Type 0
  Once t = replace a p (replace b q t) ≡ replace (λ s c. replace a p (b s c)) (λ x. replace a p (q x)) t

  all_once : (ts : List Tree) → Each Once ts → map (replace a p) (map (replace b q) ts) ≡ map (replace (λ s c. replace a p (b s c)) (λ x. replace a p (q x))) ts
  all_once [] h = refl
  all_once (t ∷ ts) h = let here = h.0 in let rest = all_once ts h.1 in cc

  pub replace-replace : (t : Tree) → Once t
  replace-replace = tree_ind Once
      (λ s c. ap (replace a p) (replace-Var b q s c) ∙ sym (replace-Var _ _ s c))
      (λ c n. ap (replace a p) (replace-Work b q c n) ∙ sym (replace-Work _ _ c n))
      (λ c n. ap (replace a p) (replace-Fresh b q c n) ∙ sym (replace-Fresh _ _ c n))
      (λ l c ts h. ap (replace a p) (replace-Node b q l c ts) ∙ replace-Node a p l c _ ∙ ap (λ us. Node l c us) (all_once ts h) ∙ sym (replace-Node _ _ l c ts))

-- the two agree on these open leaves
abbrev pub Agree : (Open → Tree) → (Open → Tree) → List Open → Type 0
Agree p q xs = (x : Open) → Contains xs x → p x ≡ q x

-- replacements that agree on variables and on the open leaves of a tree give one tree
module _ (a b : Sym → Typecode → Tree) (p q : Open → Tree) (same : (s : Sym) (c : Typecode) → a s c ≡ b s c) where
  abbrev Same : Tree → Type 0
  Same t = Agree p q (open_leaves t) → replace a p t ≡ replace b q t

  all_same : (ts : List Tree) → Each Same ts → Agree p q (flatten (map open_leaves ts)) → map (replace a p) ts ≡ map (replace b q) ts
  all_same [] h g = refl
  all_same (t ∷ ts) h g =
      let here = h.0 (λ x o. g x (Contains-append_left (open_leaves t) (flatten (map open_leaves ts)) x o)) in
      let rest = all_same ts h.1 (λ x o. g x (Contains-append_right (open_leaves t) (flatten (map open_leaves ts)) x o)) in
      cc

  pub replace-agree : (t : Tree) → Same t
  replace-agree = tree_ind Same
      (λ s c g. replace-Var a p s c ∙ same s c ∙ sym (replace-Var b q s c))
      (λ c n g. replace-Work a p c n ∙ rw open_leaves-Work at g (work c n) (contains_here (work c n)) ∙ sym (replace-Work b q c n))
      (λ c n g. replace-Fresh a p c n ∙ rw open_leaves-Fresh at g (fresh c n) (contains_here (fresh c n)) ∙ sym (replace-Fresh b q c n))
      (λ l c ts h g. replace-Node a p l c ts ∙ ap (λ us. Node l c us) (all_same ts h (rw open_leaves-Node at g)) ∙ sym (replace-Node b q l c ts))

-- and the other way round
module _ (a : Sym → Typecode → Tree) (p q : Open → Tree) where
  abbrev Told : Tree → Type 0
  Told t = replace a p t ≡ replace a q t → Agree p q (open_leaves t)

  all_told : (ts : List Tree) → Each Told ts → map (replace a p) ts ≡ map (replace a q) ts → Agree p q (flatten (map open_leaves ts))
  all_told [] h e x (k, l, is) = absurd (omega (arith, l))
  all_told (t ∷ ts) h e x o =
      let here : replace a p t ≡ replace a q t = cc in
      let rest : map (replace a p) ts ≡ map (replace a q) ts = cc in
      elim (Contains-append_cases (open_leaves t) (flatten (map open_leaves ts)) x o) [ inl y ↦ h.0 here x y | inr y ↦ all_told ts h.1 rest x y ]

  pub agree-replace : (t : Tree) → Told t
  agree-replace = tree_ind Told
      (λ s c e. rw open_leaves-Var (λ x o. absurd (none x o)))
      (λ c n e. rw open_leaves-Work (λ x o. subst (λ y. p y ≡ q y) (contains_one x (work c n) o) (sym (replace-Work a p c n) ∙ e ∙ replace-Work a q c n)))
      (λ c n e. rw open_leaves-Fresh (λ x o. subst (λ y. p y ≡ q y) (contains_one x (fresh c n) o) (sym (replace-Fresh a p c n) ∙ e ∙ replace-Fresh a q c n)))
      (λ l c ts h e. rw open_leaves-Node (all_told ts h (same_node _ _ _ _ _ _ (sym (replace-Node a p l c ts) ∙ e ∙ replace-Node a q l c ts)).children))
    where
      none : (x : Open) → Contains [] x → ⊥
      none x o = omega (arith, o.1)

-- each leaf replaced by itself
pub replace-self : (t : Tree) → replace (λ s c. Var s c) leaf_tree t ≡ t
replace-self = tree_ind (λ t. replace (λ s c. Var s c) leaf_tree t ≡ t)
    (λ s c. replace-Var _ _ s c)
    (λ c n. replace-Work _ _ c n)
    (λ c n. replace-Fresh _ _ c n)
    (λ l c ts h. replace-Node _ _ l c ts ∙ ap (λ us. Node l c us) (all_self ts h))
  where
    all_self : (ts : List Tree) → Each (λ t. replace (λ s c. Var s c) leaf_tree t ≡ t) ts → map (replace (λ s c. Var s c) leaf_tree) ts ≡ ts
    all_self [] h = refl
    all_self (t ∷ ts) h = let here = h.0 in let rest = all_self ts h.1 in cc

-- they give one tree exactly where they agree
pub alike : (a : Sym → Typecode → Tree) (p q : Open → Tree) (t : Tree) → (replace a p t ≡ replace a q t) ↔ Agree p q (open_leaves t)
alike a p q t = (agree-replace a p q t, replace-agree a a p q (λ s c. refl) t)
