-- Laws of the variables of a tree.
use Rattle.std.specs.Prelude.{◌≡◌, ◌⊎◌, ℕ, Contains, List, [], ◌∷◌, map, refl}
use Rattle.std.proofs.Common.{sym, ap, subst, ◌∙◌, inl, inr}
use Rattle.std.proofs.lemmas.List.Elements.{Contains-append_left, Contains-append_right, Contains-append_cases}
use Rattle.mm_base.specs.declared.symbols.Sym.{Sym}
use Rattle.mm_base.specs.declared.symbols.Label.{Label}
use Rattle.mm_base.specs.declared.symbols.Typecode.{Typecode}
use Rattle.mm_base.specs.declared.tree.Tree.{Tree}
use Rattle.mm_base.specs.declared.tree.Tree.TheVariants.{Var, Work, Fresh, Node}
use Rattle.mm_base.specs.Trees.{Each}
use Rattle.mm_base.proofs.TreeInduction.{tree_ind}
use Rattle.mm_base.proofs.TreeFacts.{same_node}
use Rattle.mm_base.proofs.TreeFolds.{fold-Var, fold-Work, fold-Fresh, fold-Node}
use Rattle.mm_model.specs.declared.rows.Production.{Production}
use Rattle.mm_model.specs.Productions.{TypedVariable}
use Rattle.mm_model.specs.Typed.{IsTyped}
use Rattle.mm_model.proofs.TypedLaws.{typed_held}
use Rattle.solve_model.specs.Trees.{Open, work, fresh, replace, open_leaves, flatten}
use Rattle.solve_model.proofs.TreeLaws.{replace-Var, replace-Work, replace-Fresh, replace-Node, open_leaves-Work, open_leaves-Fresh, open_leaves-Node}
use Rattle.solve_laws.proofs.Elements.{nothing, only, here}
use Rattle.solve_laws.proofs.ReplaceLaws.{Agree}
use Rattle.again_laws.specs.Leaves.{typed, typed_leaves}

pub leaves-Var : (s : Sym) (c : Typecode) → typed_leaves (Var s c) ≡ typed s c ∷ []
unfolding typed_leaves
leaves-Var s c = fold-Var (List TypedVariable) _ s c

pub leaves-Work : (c : Typecode) (n : ℕ) → typed_leaves (Work c n) ≡ []
unfolding typed_leaves
leaves-Work c n = fold-Work (List TypedVariable) _ c n

pub leaves-Fresh : (c : Typecode) (n : ℕ) → typed_leaves (Fresh c n) ≡ []
unfolding typed_leaves
leaves-Fresh c n = fold-Fresh (List TypedVariable) _ c n

pub leaves-Node : (l : Label) (c : Typecode) (ts : List Tree) → typed_leaves (Node l c ts) ≡ flatten (map typed_leaves ts)
unfolding typed_leaves
leaves-Node l c ts = fold-Node (List TypedVariable) _ l c ts

-- two replacements of variables agree on these
abbrev pub AgreeOn : (Sym → Typecode → Tree) → (Sym → Typecode → Tree) → List TypedVariable → Type 0
AgreeOn a b vs = (v : TypedVariable) → Contains vs v → a v.sym v.code ≡ b v.sym v.code

-- replacements that agree on the variables and the open leaves of a tree give one tree
module _ (a b : Sym → Typecode → Tree) (p q : Open → Tree) where
  abbrev Same : Tree → Type 0
  Same t = AgreeOn a b (typed_leaves t) → Agree p q (open_leaves t) → replace a p t ≡ replace b q t

  all_same : (ts : List Tree) → Each Same ts → AgreeOn a b (flatten (map typed_leaves ts)) → Agree p q (flatten (map open_leaves ts)) → map (replace a p) ts ≡ map (replace b q) ts
  all_same [] h f g = refl
  all_same (t ∷ ts) h f g =
      let one = h.0 (λ v o. f v (Contains-append_left (typed_leaves t) (flatten (map typed_leaves ts)) v o)) (λ x o. g x (Contains-append_left (open_leaves t) (flatten (map open_leaves ts)) x o)) in
      let rest =
      all_same ts h.1 (λ v o. f v (Contains-append_right (typed_leaves t) (flatten (map typed_leaves ts)) v o))
      (λ x o. g x (Contains-append_right (open_leaves t) (flatten (map open_leaves ts)) x o)) in
      cc

  pub replace-both : (t : Tree) → Same t
  replace-both = tree_ind Same
      (λ s c f g. replace-Var a p s c ∙ f (typed s c) (rw leaves-Var (here (typed s c))) ∙ sym (replace-Var b q s c))
      (λ c n f g. replace-Work a p c n ∙ rw open_leaves-Work at g (work c n) (here (work c n)) ∙ sym (replace-Work b q c n))
      (λ c n f g. replace-Fresh a p c n ∙ rw open_leaves-Fresh at g (fresh c n) (here (fresh c n)) ∙ sym (replace-Fresh b q c n))
      (λ l c ts h f g. replace-Node a p l c ts ∙ ap (λ us. Node l c us) (all_same ts h (rw leaves-Node at f) (rw open_leaves-Node at g)) ∙ sym (replace-Node b q l c ts))

-- and where they give one tree, they agree on its variables
module _ (a b : Sym → Typecode → Tree) (p q : Open → Tree) where
  abbrev Told : Tree → Type 0
  Told t = replace a p t ≡ replace b q t → AgreeOn a b (typed_leaves t)

  all_told : (ts : List Tree) → Each Told ts → map (replace a p) ts ≡ map (replace b q) ts → AgreeOn a b (flatten (map typed_leaves ts))
  all_told [] h e v o = absurd (nothing v o)
  all_told (t ∷ ts) h e v o =
      let here : replace a p t ≡ replace b q t = cc in
      let rest : map (replace a p) ts ≡ map (replace b q) ts = cc in
      elim (Contains-append_cases (typed_leaves t) (flatten (map typed_leaves ts)) v o) [ inl y ↦ h.0 here v y | inr y ↦ all_told ts h.1 rest v y ]

  pub told-replace : (t : Tree) → Told t
  told-replace = tree_ind Told
      (λ s c e. rw leaves-Var (λ v o. subst (λ (w : TypedVariable). a w.sym w.code ≡ b w.sym w.code) (only v (typed s c) o) (sym (replace-Var a p s c) ∙ e ∙ replace-Var b q s c)))
      (λ c n e. rw leaves-Work (λ v o. absurd (nothing v o)))
      (λ c n e. rw leaves-Fresh (λ v o. absurd (nothing v o)))
      (λ l c ts h e. rw leaves-Node (all_told ts h (same_node _ _ _ _ _ _ (sym (replace-Node a p l c ts) ∙ e ∙ replace-Node b q l c ts)).children))

-- an open leaf of what a variable is replaced by is one of the replaced tree
module _ (a : Sym → Typecode → Tree) (p : Open → Tree) (v : TypedVariable) (y : Open) where
  abbrev Passes : Tree → Type 0
  Passes t = Contains (typed_leaves t) v → Contains (open_leaves (a v.sym v.code)) y → Contains (open_leaves (replace a p t)) y

  passes_all : (ts : List Tree) → Each Passes ts → Contains (flatten (map typed_leaves ts)) v → Contains (open_leaves (a v.sym v.code)) y
      → Contains (flatten (map open_leaves (map (replace a p) ts))) y
  passes_all [] h m o = absurd (nothing v m)
  passes_all (t ∷ ts) h m o = elim (Contains-append_cases (typed_leaves t) (flatten (map typed_leaves ts)) v m) [
    | inl first ↦ Contains-append_left (open_leaves (replace a p t)) (flatten (map open_leaves (map (replace a p) ts))) y (h.0 first o)
    | inr later ↦ Contains-append_right (open_leaves (replace a p t)) (flatten (map open_leaves (map (replace a p) ts))) y (passes_all ts h.1 later o)
  ]

  pub passes : (t : Tree) → Passes t
  passes = tree_ind Passes
      (λ s c m o. rw replace-Var (subst (λ (w : TypedVariable). Contains (open_leaves (a w.sym w.code)) y) (sym (only v (typed s c) (rw leaves-Var at m))) o))
      (λ c n m o. absurd (nothing v (rw leaves-Work at m)))
      (λ c n m o. absurd (nothing v (rw leaves-Fresh at m)))
      (λ l c ts h m o. rw (replace-Node, open_leaves-Node) (passes_all ts h (rw leaves-Node at m) o))

-- where an open leaf of a replaced tree comes from
module _ (a : Sym → Typecode → Tree) (p : Open → Tree) (y : Open) where
  abbrev Source : List TypedVariable → List Open → Type 0
  Source vs xs = ((v : TypedVariable) × Contains vs v × Contains (open_leaves (a v.sym v.code)) y) ⊎ ((x : Open) × Contains xs x × Contains (open_leaves (p x)) y)

  abbrev Comes : Tree → Type 0
  Comes t = Contains (open_leaves (replace a p t)) y → Source (typed_leaves t) (open_leaves t)

  comes_all : (ts : List Tree) → Each Comes ts → Contains (flatten (map open_leaves (map (replace a p) ts))) y → Source (flatten (map typed_leaves ts)) (flatten (map open_leaves ts))
  comes_all [] h o = absurd (nothing y o)
  comes_all (t ∷ ts) h o = elim (Contains-append_cases (open_leaves (replace a p t)) (flatten (map open_leaves (map (replace a p) ts))) y o) [
    | inl first ↦ elim (h.0 first) [
      | inl k ↦ inl (k.0, Contains-append_left (typed_leaves t) (flatten (map typed_leaves ts)) k.0 k.1, k.2)
      | inr k ↦ inr (k.0, Contains-append_left (open_leaves t) (flatten (map open_leaves ts)) k.0 k.1, k.2)
    ]
    | inr later ↦ elim (comes_all ts h.1 later) [
      | inl k ↦ inl (k.0, Contains-append_right (typed_leaves t) (flatten (map typed_leaves ts)) k.0 k.1, k.2)
      | inr k ↦ inr (k.0, Contains-append_right (open_leaves t) (flatten (map open_leaves ts)) k.0 k.1, k.2)
    ]
  ]

  pub comes : (t : Tree) → Comes t
  comes = tree_ind Comes
      (λ s c o. inl (typed s c, rw leaves-Var (here (typed s c)), rw replace-Var at o))
      (λ c n o. inr (work c n, rw open_leaves-Work (here (work c n)), rw replace-Work at o))
      (λ c n o. inr (fresh c n, rw open_leaves-Fresh (here (fresh c n)), rw replace-Fresh at o))
      (λ l c ts h o. rw (leaves-Node, open_leaves-Node) (comes_all ts h (rw (replace-Node, open_leaves-Node) at o)))

-- what a variable of a tree is replaced by is typed where the replaced tree is
module _ (rows : List Production) (before : ℕ) (a : Sym → Typecode → Tree) (p : Open → Tree) (v : TypedVariable) where
  abbrev Typed : Tree → Type 0
  Typed t = Contains (typed_leaves t) v → IsTyped rows before (replace a p t) → IsTyped rows before (a v.sym v.code)

  all_typed : (ts : List Tree) → Each Typed ts → Contains (flatten (map typed_leaves ts)) v → Each (IsTyped rows before) (map (replace a p) ts) → IsTyped rows before (a v.sym v.code)
  all_typed [] h m k = absurd (nothing v m)
  all_typed (t ∷ ts) h m k = elim (Contains-append_cases (typed_leaves t) (flatten (map typed_leaves ts)) v m) [ inl first ↦ h.0 first k.0 | inr later ↦ all_typed ts h.1 later k.1 ]

  pub part_typed : (t : Tree) → Typed t
  part_typed = tree_ind Typed
      (λ s c m k. subst (λ (w : TypedVariable). IsTyped rows before (a w.sym w.code)) (only v (typed s c) (rw leaves-Var at m)) (rw replace-Var at k))
      (λ c n m k. absurd (nothing v (rw leaves-Work at m)))
      (λ c n m k. absurd (nothing v (rw leaves-Fresh at m)))
      (λ l c ts h m k. all_typed ts h (rw leaves-Node at m) (typed_held rows before l c (map (replace a p) ts) (rw replace-Node at k)))

-- a variable of what a variable is replaced by is one of the replaced tree
module _ (a : Sym → Typecode → Tree) (p : Open → Tree) (v q : TypedVariable) where
  abbrev Carries : Tree → Type 0
  Carries t = Contains (typed_leaves t) v → Contains (typed_leaves (a v.sym v.code)) q → Contains (typed_leaves (replace a p t)) q

  carries_all : (ts : List Tree) → Each Carries ts → Contains (flatten (map typed_leaves ts)) v → Contains (typed_leaves (a v.sym v.code)) q
      → Contains (flatten (map typed_leaves (map (replace a p) ts))) q
  carries_all [] h m o = absurd (nothing v m)
  carries_all (t ∷ ts) h m o = elim (Contains-append_cases (typed_leaves t) (flatten (map typed_leaves ts)) v m) [
    | inl one ↦ Contains-append_left (typed_leaves (replace a p t)) (flatten (map typed_leaves (map (replace a p) ts))) q (h.0 one o)
    | inr later ↦ Contains-append_right (typed_leaves (replace a p t)) (flatten (map typed_leaves (map (replace a p) ts))) q (carries_all ts h.1 later o)
  ]

  pub carries : (t : Tree) → Carries t
  carries = tree_ind Carries
      (λ s c m o. rw replace-Var (subst (λ (w : TypedVariable). Contains (typed_leaves (a w.sym w.code)) q) (sym (only v (typed s c) (rw leaves-Var at m))) o))
      (λ c n m o. absurd (nothing v (rw leaves-Work at m)))
      (λ c n m o. absurd (nothing v (rw leaves-Fresh at m)))
      (λ l c ts h m o. rw (replace-Node, leaves-Node) (carries_all ts h (rw leaves-Node at m) o))

-- where a variable of a replaced tree comes from
module _ (a : Sym → Typecode → Tree) (p : Open → Tree) (q : TypedVariable) where
  abbrev Origin : List TypedVariable → List Open → Type 0
  Origin vs xs = ((v : TypedVariable) × Contains vs v × Contains (typed_leaves (a v.sym v.code)) q) ⊎ ((x : Open) × Contains xs x × Contains (typed_leaves (p x)) q)

  abbrev Arises : Tree → Type 0
  Arises t = Contains (typed_leaves (replace a p t)) q → Origin (typed_leaves t) (open_leaves t)

  arises_all : (ts : List Tree) → Each Arises ts → Contains (flatten (map typed_leaves (map (replace a p) ts))) q → Origin (flatten (map typed_leaves ts)) (flatten (map open_leaves ts))
  arises_all [] h o = absurd (nothing q o)
  arises_all (t ∷ ts) h o = elim (Contains-append_cases (typed_leaves (replace a p t)) (flatten (map typed_leaves (map (replace a p) ts))) q o) [
    | inl one ↦ elim (h.0 one) [
      | inl k ↦ inl (k.0, Contains-append_left (typed_leaves t) (flatten (map typed_leaves ts)) k.0 k.1, k.2)
      | inr k ↦ inr (k.0, Contains-append_left (open_leaves t) (flatten (map open_leaves ts)) k.0 k.1, k.2)
    ]
    | inr later ↦ elim (arises_all ts h.1 later) [
      | inl k ↦ inl (k.0, Contains-append_right (typed_leaves t) (flatten (map typed_leaves ts)) k.0 k.1, k.2)
      | inr k ↦ inr (k.0, Contains-append_right (open_leaves t) (flatten (map open_leaves ts)) k.0 k.1, k.2)
    ]
  ]

  pub arises : (t : Tree) → Arises t
  arises = tree_ind Arises
      (λ s c o. inl (typed s c, rw leaves-Var (here (typed s c)), rw replace-Var at o))
      (λ c n o. inr (work c n, rw open_leaves-Work (here (work c n)), rw replace-Work at o))
      (λ c n o. inr (fresh c n, rw open_leaves-Fresh (here (fresh c n)), rw replace-Fresh at o))
      (λ l c ts h o. rw (leaves-Node, open_leaves-Node) (arises_all ts h (rw (replace-Node, leaves-Node) at o)))
