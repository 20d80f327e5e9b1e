-- A tree whose leaves are replaced, told by its leaves.
use Rattle.std.specs.Prelude.{◌≡◌, ◌<◌, ◌≤◌, ℕ, List, [], ◌∷◌, map, Contains, refl}
use Rattle.std.proofs.Common.{sym, ap, subst, ◌∙◌, arith, inl, inr}
use Rattle.std.proofs.lemmas.List.Elements.{Contains-append_left, Contains-append_right, Contains-append_cases}
use Rattle.mm_base.specs.declared.symbols.Sym.{Sym}
use Rattle.mm_base.specs.declared.symbols.Label.{Label}
use Rattle.mm_base.specs.declared.symbols.Typecode.{Typecode}
use Rattle.mm_base.specs.declared.tree.Tree.{Tree}
use Rattle.mm_base.specs.declared.tree.Tree.TheVariants.{Node}
use Rattle.mm_base.specs.Trees.{Each, code_of}
use Rattle.mm_base.proofs.TreeInduction.{tree_ind}
use Rattle.mm_base.proofs.TreeFacts.{same_node}
use Rattle.mm_model.specs.declared.rows.Production.{Production}
use Rattle.mm_model.specs.Typed.{IsTyped}
use Rattle.mm_model.proofs.TypedLaws.{code-Var, code-Work, code-Node, typed-Var, typed-Work, typed-Node, typed_here, typed_held}
use Rattle.solve_model.specs.Trees.{Open, work, fresh, open_code, replace, open_leaves, flatten, Occurs}
use Rattle.solve_model.proofs.TreeLaws.{replace-Var, replace-Work, replace-Fresh, replace-Node, open_leaves-Node}
use Rattle.solve_laws.specs.ReplacedTypes.{IsTypedAs}
use Rattle.solve_laws.proofs.ReplacedTypes.{code-Fresh, typed-Fresh}
use Rattle.answer_laws.proofs.Elements.{nothing, first, only}
use Rattle.answer_laws.proofs.Marks.{Mark, variable, open_leaf, leaves, leaves-Var, leaves-Work, leaves-Fresh, leaves-Node}

-- what a leaf becomes
abbrev pub placed : (Sym → Typecode → Tree) → (Open → Tree) → Mark → Tree
placed a p (variable s c) = a s c
placed a p (open_leaf x) = p x

abbrev pub mark_code : Mark → Typecode
mark_code (variable s c) = c
mark_code (open_leaf x) = open_code x

-- a fact of each leaf
abbrev pub OfLeaves : (Mark → Type 0) → Tree → Type 0
OfLeaves P t = (m : Mark) → Contains (leaves t) m → P m

abbrev Among : (Mark → Type 0) → List Tree → Type 0
Among P ts = (m : Mark) → Contains (flatten (map leaves ts)) m → P m

among_first : (P : Mark → Type 0) (t : Tree) (ts : List Tree) → Among P (t ∷ ts) → OfLeaves P t
among_first P t ts h m o = h m (Contains-append_left (leaves t) (flatten (map leaves ts)) m o)

among_rest : (P : Mark → Type 0) (t : Tree) (ts : List Tree) → Among P (t ∷ ts) → Among P ts
among_rest P t ts h m o = h m (Contains-append_right (leaves t) (flatten (map leaves ts)) m o)

at_node : (P : Mark → Type 0) (l : Label) (c : Typecode) (ts : List Tree) → OfLeaves P (Node l c ts) → Among P ts
at_node P l c ts h m o = h m (rw leaves-Node o)

-- ---- replacements that agree on the leaves

module _ (a b : Sym → Typecode → Tree) (p q : Open → Tree) where
  abbrev SameAt : Mark → Type 0
  SameAt m = placed a p m ≡ placed b q m

  abbrev Agree : Tree → Type 0
  Agree t = OfLeaves SameAt t → replace a p t ≡ replace b q t

  all_agree : (ts : List Tree) → Each Agree ts → Among SameAt ts → map (replace a p) ts ≡ map (replace b q) ts
  all_agree [] h g = refl
  all_agree (t ∷ ts) h g = ap (λ u. u ∷ map (replace a p) ts) (h.0 (among_first SameAt t ts g)) ∙ ap (λ us. replace b q t ∷ us) (all_agree ts h.1 (among_rest SameAt t ts g))

  pub agree_on : (t : Tree) → Agree t
  agree_on = tree_ind Agree
      (λ s c g. replace-Var a p s c ∙ g (variable s c) (rw leaves-Var (first (variable s c) (variable s c) [] refl)) ∙ sym (replace-Var b q s c))
      (λ c n g. replace-Work a p c n ∙ g (open_leaf (work c n)) (rw leaves-Work (first (open_leaf (work c n)) (open_leaf (work c n)) [] refl)) ∙ sym (replace-Work b q c n))
      (λ c n g. replace-Fresh a p c n ∙ g (open_leaf (fresh c n)) (rw leaves-Fresh (first (open_leaf (fresh c n)) (open_leaf (fresh c n)) [] refl)) ∙ sym (replace-Fresh b q c n))
      (λ l c ts h g. replace-Node a p l c ts ∙ ap (λ us. Node l c us) (all_agree ts h (at_node SameAt l c ts g)) ∙ sym (replace-Node b q l c ts))

  abbrev Told : Tree → Type 0
  Told t = replace a p t ≡ replace b q t → OfLeaves SameAt t

  all_told : (ts : List Tree) → Each Told ts → map (replace a p) ts ≡ map (replace b q) ts → Among SameAt ts
  all_told [] h e m o = absurd (nothing m o)
  all_told (t ∷ ts) h e m o =
      let here : replace a p t ≡ replace b q t = cc in
      let rest : map (replace a p) ts ≡ map (replace b q) ts = cc in
      elim (Contains-append_cases (leaves t) (flatten (map leaves ts)) m o) [ inl x ↦ h.0 here m x | inr y ↦ all_told ts h.1 rest m y ]

  at_leaf : (l m : Mark) → placed a p l ≡ placed b q l → Contains (l ∷ []) m → SameAt m
  at_leaf l m e o = subst SameAt (only m l o) e

  pub told_on : (t : Tree) → Told t
  told_on = tree_ind Told
      (λ s c e m o. at_leaf (variable s c) m (sym (replace-Var a p s c) ∙ e ∙ replace-Var b q s c) (rw leaves-Var at o))
      (λ c n e m o. at_leaf (open_leaf (work c n)) m (sym (replace-Work a p c n) ∙ e ∙ replace-Work b q c n) (rw leaves-Work at o))
      (λ c n e m o. at_leaf (open_leaf (fresh c n)) m (sym (replace-Fresh a p c n) ∙ e ∙ replace-Fresh b q c n) (rw leaves-Fresh at o))
      (λ l c ts h e m o. all_told ts h (same_node _ _ _ _ _ _ (sym (replace-Node a p l c ts) ∙ e ∙ replace-Node b q l c ts)).children m (rw leaves-Node at o))

-- ---- types

module _ (rows : List Production) (before : ℕ) (a : Sym → Typecode → Tree) (p : Open → Tree) where
  abbrev pub TypedAt : Mark → Type 0
  TypedAt m = IsTypedAs rows before (mark_code m) (placed a p m)

  abbrev Keeps : Tree → Type 0
  Keeps t = OfLeaves TypedAt t → IsTyped rows before t → IsTypedAs rows before (code_of t) (replace a p t)

  pub record AllKeep (ts : List Tree) : Type 0 where
    pub codes : map code_of (map (replace a p) ts) ≡ map code_of ts
    pub typed : Each (IsTyped rows before) (map (replace a p) ts)

  all_keep : (ts : List Tree) → Each Keeps ts → Among TypedAt ts → Each (IsTyped rows before) ts → AllKeep ts
  all_keep [] h g k = record { codes = refl; typed = tt }
  all_keep (t ∷ ts) h g k =
      let one = h.0 (among_first TypedAt t ts g) k.0 in
      let rest = all_keep ts h.1 (among_rest TypedAt t ts g) k.1 in
      record { codes = ap (λ c. c ∷ map code_of (map (replace a p) ts)) one.code ∙ ap (λ cs. code_of t ∷ cs) rest.codes; typed = (one.typed, rest.typed) }

  typed_by : (c d : Typecode) (t u : Tree) → c ≡ d → t ≡ u → IsTypedAs rows before d u → IsTypedAs rows before c t
  typed_by c d t u e f h = subst (λ x. IsTypedAs rows before x t) (sym e) (subst (IsTypedAs rows before d) (sym f) h)

  pub keeps_types : (t : Tree) → Keeps t
  keeps_types = tree_ind Keeps
      (λ s c g k. typed_by _ c _ (a s c) (code-Var s c) (replace-Var a p s c) (g (variable s c) (rw leaves-Var (first (variable s c) (variable s c) [] refl))))
      (λ c n g k. typed_by _ c _ (p (work c n)) (code-Work c n) (replace-Work a p c n) (g (open_leaf (work c n)) (rw leaves-Work (first (open_leaf (work c n)) (open_leaf (work c n)) [] refl))))
      (λ c n g k. typed_by _ c _ (p (fresh c n)) (code-Fresh c n) (replace-Fresh a p c n)
      (g (open_leaf (fresh c n)) (rw leaves-Fresh (first (open_leaf (fresh c n)) (open_leaf (fresh c n)) [] refl))))
      (λ l c ts h g k.
      let all = all_keep ts h (at_node TypedAt l c ts g) (typed_held rows before l c ts k) in
      let layer = typed_here rows before l c ts k in
      typed_by _ c _ (Node l c (map (replace a p) ts)) (code-Node l c ts) (replace-Node a p l c ts) (record {
        code = code-Node l c (map (replace a p) ts);
        typed = typed-Node rows before l c (map (replace a p) ts) (layer.0, layer.1, layer.2, layer.3, all.codes ∙ layer.4) all.typed;
      }))

-- typed below a place, it is typed below a later one
module _ (rows : List Production) (before after : ℕ) (l : before ≤ after) where
  abbrev Stays : Tree → Type 0
  Stays t = IsTyped rows before t → IsTyped rows after t

  all_stay : (ts : List Tree) → Each Stays ts → Each (IsTyped rows before) ts → Each (IsTyped rows after) ts
  all_stay [] h k = tt
  all_stay (t ∷ ts) h k = (h.0 k.0, all_stay ts h.1 k.1)

  earlier : (x : ℕ) → x < before → x < after
  earlier x h = omega (arith, h, l)

  pub typed_later : (t : Tree) → Stays t
  typed_later = tree_ind Stays
      (λ s c k. typed-Var rows after s c)
      (λ c n k. typed-Work rows after c n)
      (λ c n k. typed-Fresh rows after c n)
      (λ m c ts h k.
      let layer = typed_here rows before m c ts k in
      typed-Node rows after m c ts (layer.0, layer.1, earlier layer.0.at layer.2, layer.3, layer.4) (all_stay ts h (typed_held rows before m c ts k)))

-- ---- the open leaves of what is replaced

module _ (a : Sym → Typecode → Tree) (p : Open → Tree) (x : Open) where
  -- a leaf of which it becomes a leaf
  pub record ComesOf (t : Tree) : Type 0 where
    pub mark : Mark
    pub stands : Contains (leaves t) mark
    pub has : Occurs x (placed a p mark)

  abbrev Comes : Tree → Type 0
  Comes t = Occurs x (replace a p t) → ComesOf t

  abbrev OfOne : List Tree → Type 0
  OfOne ts = (m : Mark) × Contains (flatten (map leaves ts)) m × Occurs x (placed a p m)

  of_all : (ts : List Tree) → Each Comes ts → Contains (flatten (map open_leaves (map (replace a p) ts))) x → OfOne ts
  of_all [] h o = absurd (nothing x o)
  of_all (t ∷ ts) h o = elim (Contains-append_cases (open_leaves (replace a p t)) (flatten (map open_leaves (map (replace a p) ts))) x o) [
    | inl here ↦ let c = h.0 here in (c.mark, Contains-append_left (leaves t) (flatten (map leaves ts)) c.mark c.stands, c.has)
    | inr rest ↦ let c = of_all ts h.1 rest in (c.0, Contains-append_right (leaves t) (flatten (map leaves ts)) c.0 c.1, c.2)
  ]

  pub comes_of : (t : Tree) → Comes t
  comes_of = tree_ind Comes
      (λ s c o. record { mark = variable s c; stands = rw leaves-Var (first (variable s c) (variable s c) [] refl); has = rw replace-Var at o })
      (λ c n o. record { mark = open_leaf (work c n); stands = rw leaves-Work (first (open_leaf (work c n)) (open_leaf (work c n)) [] refl); has = rw replace-Work at o })
      (λ c n o. record { mark = open_leaf (fresh c n); stands = rw leaves-Fresh (first (open_leaf (fresh c n)) (open_leaf (fresh c n)) [] refl); has = rw replace-Fresh at o })
      (λ l c ts h o.
      let of = of_all ts h (rw (replace-Node, open_leaves-Node) at o) in
      record { mark = of.0; stands = rw leaves-Node of.1; has = of.2 })
