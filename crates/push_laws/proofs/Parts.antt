-- What holds of a tree holds of its parts; the symbols of its text are constants and its variables.
use Rattle.std.specs.Prelude.{◌≡◌, ◌<◌, ◌≤◌, ◌⊎◌, ℕ, zero, suc, true, List, [], ◌∷◌, length, map, slice_get, slice_index_or, Contains, Option, Some, None, refl}
use Rattle.std.specs.List.{AllByRecursion}
use Rattle.std.proofs.Common.{sym, ap, subst, ◌∙◌, arith, inl, inr}
use Rattle.std.proofs.lemmas.List.Elements.{Contains-append_left, Contains-append_right, Contains-append_cases}
use Rattle.mm_base.specs.declared.symbols.Sym.{Sym}
use Rattle.mm_base.specs.declared.symbols.Label.{Label}
use Rattle.mm_base.specs.declared.symbols.Typecode.{Typecode}
use Rattle.mm_base.specs.declared.tree.Tree.{Tree}
use Rattle.mm_base.specs.declared.tree.Tree.TheVariants.{Var, Work, Node}
use Rattle.mm_base.specs.Trees.{Each}
use Rattle.mm_base.proofs.TreeInduction.{tree_ind}
use Rattle.mm_model.specs.declared.rows.Item.{Item}
use Rattle.mm_model.specs.declared.rows.Item.TheVariants as slot
use Rattle.mm_model.specs.declared.rows.Leaf.{Leaf}
use Rattle.mm_model.specs.declared.rows.Leaf.TheVariants as leaf
use Rattle.mm_model.specs.declared.rows.Production.{Production}
use Rattle.mm_model.specs.Texts.{text, row_of, row_text, items_text}
use Rattle.mm_model.specs.Typed.{IsTyped}
use Rattle.mm_model.specs.Book.{Database}
use Rattle.mm_model.proofs.TextLaws.{text-Var, text-Work, text-Fresh, text-Node}
use Rattle.mm_model.proofs.TypedLaws.{typed_here, typed_held}
use Rattle.proof_model.specs.declared.theorem.Theorem.{Theorem}
use Rattle.solve_model.specs.Trees.{leaf_tree, open_leaves, variables, flatten, replace}
use Rattle.solve_model.proofs.TreeLaws.{open_leaves-Node, variables-Var, variables-Node, replace-Var, replace-Node}
use Rattle.written_model.specs.ProofsPush.{HasFloats, AreApart}
use Rattle.push_laws.proofs.Facts.{IsBook, ItemIsApart}
use Rattle.push_laws.proofs.Lists.{first, nothing, parted, append_none, map_get}
use Rattle.push_laws.proofs.TreeProofs.{child_floats, child_text}

-- a leaf of a row's text is a constant of the row, or stands in the text of a child
pub item_cases : (Q : Item → Type 0) (xs : List (List Leaf)) (x : Leaf) (items : List Item) → AllByRecursion Q items → Contains (items_text xs items) x
    → ((s : Sym) × (x ≡ leaf.Const s) × Q (slot.Const s)) ⊎ ((k : ℕ) × Contains (slice_index_or xs k []) x)
item_cases Q xs x [] a h = absurd (nothing x h)
item_cases Q xs x (slot.Const s ∷ items) a h = elim (parted x (leaf.Const s) (items_text xs items) h) [
  | inl e ↦ inl (s, sym e, a.0)
  | inr l ↦ item_cases Q xs x items a.1 l
]
item_cases Q xs x (slot.Slot k ∷ items) a h = elim (Contains-append_cases (slice_index_or xs k []) (items_text xs items) x h) [
  | inl l ↦ inr (k, l)
  | inr r ↦ item_cases Q xs x items a.1 r
]

pub child_at : {X : Type 0} (f : Tree → List X) (ts : List Tree) (k : ℕ) (x : X) → Contains (slice_index_or (map f ts) k []) x → (t : Tree) × (slice_get ts k ≡ Some t) × Contains (f t) x
child_at f [] k x h = absurd (nothing x h)
child_at f (t ∷ ts) zero x h = (t, refl, h)
child_at f (t ∷ ts) (suc k) x h = child_at f ts k x h

pub each_at : (P : Tree → Type 0) (ts : List Tree) (k : ℕ) (t : Tree) → Each P ts → slice_get ts k ≡ Some t → P t
each_at P [] k t h e = absurd cc
each_at P (u ∷ ts) zero t h e = subst P (let same : u ≡ t = cc in same) h.0
each_at P (u ∷ ts) (suc k) t h e = each_at P ts k t h.1 e

pub flatten_at : {X : Type 0} (f : Tree → List X) (ts : List Tree) (k : ℕ) (t : Tree) (x : X) → slice_get ts k ≡ Some t → Contains (f t) x → Contains (flatten (map f ts)) x
flatten_at f [] k t x e h = absurd cc
flatten_at f (u ∷ ts) zero t x e h = Contains-append_left (f u) (flatten (map f ts)) x (subst (λ v. Contains (f v) x) (sym (let same : u ≡ t = cc in same)) h)
flatten_at f (u ∷ ts) (suc k) t x e h = Contains-append_right (f u) (flatten (map f ts)) x (flatten_at f ts k t x e h)

flatten_none : {X : Type 0} (f : Tree → List X) (ts : List Tree) (k : ℕ) (t : Tree) → flatten (map f ts) ≡ [] → slice_get ts k ≡ Some t → f t ≡ []
flatten_none f [] k t n e = absurd cc
flatten_none f (u ∷ ts) zero t n e = subst (λ v. f v ≡ []) (let same : u ≡ t = cc in same) (append_none (f u) (flatten (map f ts)) n).0
flatten_none f (u ∷ ts) (suc k) t n e = flatten_none f ts k t (append_none (f u) (flatten (map f ts)) n).1 e

units : {X : Type 0} (xs : List X) → AllByRecursion (λ x. Unit {0}) xs
units [] = tt
units (x ∷ xs) = (tt, units xs)

module _ (db : Database) where
  -- a leaf of a node's text
  pub node_leaf : (l : Label) (c : Typecode) (ts : List Tree) (x : Leaf) (o : Option Production) → row_of db.rows l ≡ o → Contains (text db.rows (Node l c ts)) x
      → ((s : Sym) × (x ≡ leaf.Const s)) ⊎ ((k : ℕ) × (t : Tree) × (slice_get ts k ≡ Some t) × Contains (text db.rows t) x)
  node_leaf l c ts x None row h = absurd (nothing x (subst (λ xs. Contains xs x) (text-Node db.rows l c ts ∙ ap (row_text (map (text db.rows) ts)) row) h))
  node_leaf l c ts x (Some r) row h =
      elim (item_cases (λ i. Unit {0}) (map (text db.rows) ts) x r.items (units r.items) (subst (λ xs. Contains xs x) (text-Node db.rows l c ts ∙ ap (row_text (map (text db.rows) ts)) row) h)) [
        | inl d ↦ inl (d.0, d.1)
        | inr d ↦ let t = child_at (text db.rows) ts d.0 x d.1 in inr (d.0, t.0, t.1, t.2)
      ]

  module _ (book : IsBook db) (thm : Theorem) (apart : AreApart db thm.hyps) where
    -- a tree whose proof can be written: typed, without open leaves, its variables with `$f` and names
    pub record IsGood (t : Tree) : Type 0 where
      pub typed : IsTyped db.rows thm.at t
      pub closed : open_leaves t ≡ []
      pub floats : HasFloats db thm.hyps t
      pub named : (s : Sym) (c : Typecode) → Contains (text db.rows t) (leaf.Var s c) → s.0 < length db.symbols

    pub good_child : (l : Label) (c : Typecode) (ts : List Tree) (k : ℕ) (t : Tree) → IsGood (Node l c ts) → slice_get ts k ≡ Some t → IsGood t
    good_child l c ts k t g e =
        let here = typed_here db.rows thm.at l c ts g.typed in
        let frame = book.facts.rows l here.0 here.1 in
        record {
          typed = each_at (IsTyped db.rows thm.at) ts k t (typed_held db.rows thm.at l c ts g.typed) e;
          closed = flatten_none open_leaves ts k t (sym (open_leaves-Node l c ts) ∙ g.closed) e;
          floats = child_floats db book thm apart l c ts here.0 here.1 frame.0 frame.1 frame.2 here.3 here.4 g.floats k t e;
          named = λ s d h. g.named s d (child_text db book thm apart l c ts here.0 here.1 frame.0 frame.1 frame.2 here.3 here.4 k t (leaf.Var s d) e h);
        }

    -- a value stands in the tree where its variable stood
    module _ (value : Sym → Tree) where
      abbrev valued : Tree → Tree
      valued t = replace (λ s c. value s) leaf_tree t

      abbrev HasPart : Tree → Type 0
      HasPart t = (s : Sym) (c : Typecode) → Contains (text db.rows t) (leaf.Var s c) → IsGood (valued t) → IsGood (value s)

      only_var : (s v : Sym) (c d : Typecode) → Contains (leaf.Var v d ∷ []) (leaf.Var s c) → v ≡ s
      only_var s v c d h = elim (parted (leaf.Var s c) (leaf.Var v d) [] h) [ inl e ↦ cc | inr l ↦ absurd (nothing (leaf.Var s c) l) ]

      no_work : (s : Sym) (c d : Typecode) (n : ℕ) → Contains (leaf.Work d n ∷ []) (leaf.Var s c) → ⊥
      no_work s c d n h = elim (parted (leaf.Var s c) (leaf.Work d n) [] h) [ inl e ↦ cc | inr l ↦ nothing (leaf.Var s c) l ]

      const_var : (s v : Sym) (c : Typecode) → leaf.Var s c ≡ leaf.Const v → ⊥
      const_var s v c e = cc

      pub good_part : (t : Tree) → HasPart t
      good_part = tree_ind HasPart
          (λ v d s c h g.
          let same = only_var s v c d (subst (λ xs. Contains xs (leaf.Var s c)) (text-Var db.rows v d) h) in
          subst (λ x. IsGood (value x)) same (subst IsGood (replace-Var (λ x y. value x) leaf_tree v d) g))
          (λ d n s c h g. absurd (no_work s c d n (subst (λ xs. Contains xs (leaf.Var s c)) (text-Work db.rows d n) h)))
          (λ d n s c h g. absurd (nothing (leaf.Var s c) (subst (λ xs. Contains xs (leaf.Var s c)) (text-Fresh db.rows d n) h)))
          (λ l d ts each s c h g. elim (node_leaf l d ts (leaf.Var s c) (row_of db.rows l) refl h) [
            | inl k ↦ absurd (const_var s k.0 c k.1)
            | inr k ↦
                each_at HasPart ts k.0 k.1 each k.2 s c k.3
                (good_child l d (map valued ts) k.0 (valued k.1) (subst IsGood (replace-Node (λ x y. value x) leaf_tree l d ts) g) (map_get valued ts k.0 k.1 k.2))
          ])

    -- ---- the symbols of a text

    abbrev IsFine : Tree → Leaf → Type 0
    IsFine t (leaf.Const s) = db.is_constant_at s thm.at ≡ true
    IsFine t (leaf.Var s c) = Contains (variables t) s
    IsFine t (leaf.Work c n) = Unit {0}

    fine_more : (l : Label) (c : Typecode) (ts : List Tree) (k : ℕ) (t : Tree) (x : Leaf) → slice_get ts k ≡ Some t → IsFine t x → IsFine (Node l c ts) x
    fine_more l c ts k t (leaf.Const s) e f = f
    fine_more l c ts k t (leaf.Var s d) e f = subst (λ vs. Contains vs s) (sym (variables-Node l c ts)) (flatten_at variables ts k t s e f)
    fine_more l c ts k t (leaf.Work d n) e f = f

    abbrev HasFineText : Tree → Type 0
    HasFineText t = IsTyped db.rows thm.at t → (x : Leaf) → Contains (text db.rows t) x → IsFine t x

    var_fine : (s : Sym) (c : Typecode) (x : Leaf) → Contains (leaf.Var s c ∷ []) x → IsFine (Var s c) x
    var_fine s c x h = elim (parted x (leaf.Var s c) [] h) [
      | inl e ↦ subst (IsFine (Var s c)) e (subst (λ vs. Contains vs s) (sym (variables-Var s c)) (first s s [] refl))
      | inr l ↦ absurd (nothing x l)
    ]

    work_fine : (c : Typecode) (n : ℕ) (x : Leaf) → Contains (leaf.Work c n ∷ []) x → IsFine (Work c n) x
    work_fine c n x h = elim (parted x (leaf.Work c n) [] h) [ inl e ↦ subst (IsFine (Work c n)) e tt | inr l ↦ absurd (nothing x l) ]

    node_fine : (l : Label) (c : Typecode) (ts : List Tree) → Each HasFineText ts → HasFineText (Node l c ts)
    node_fine l c ts each typed x h =
        let here = typed_here db.rows thm.at l c ts typed in
        let r = here.0 in
        let frame = book.facts.rows l r here.1 in
        let gap = book.rows_apart l r frame.0 here.1 frame.1 in
        elim
        (item_cases (ItemIsApart db frame.0) (map (text db.rows) ts) x r.items gap.items
        (subst (λ xs. Contains xs x) (text-Node db.rows l c ts ∙ ap (row_text (map (text db.rows) ts)) here.1) h)) [
          | inl d ↦
              let earlier : frame.0.at ≤ thm.at = (let at = frame.2.at in let before = here.2 in omega (arith, at, before)) in
              subst (IsFine (Node l c ts)) (sym d.1) (book.constants_stay d.0 frame.0.at thm.at earlier d.2.0)
          | inr d ↦
              let t = child_at (text db.rows) ts d.0 x d.1 in
              fine_more l c ts d.0 t.0 x t.1 (each_at HasFineText ts d.0 t.0 each t.1 (each_at (IsTyped db.rows thm.at) ts d.0 t.0 (typed_held db.rows thm.at l c ts typed) t.1) x t.2)
        ]

    pub fine_text : (t : Tree) → HasFineText t
    fine_text = tree_ind HasFineText
        (λ s c typed x h. var_fine s c x (subst (λ xs. Contains xs x) (text-Var db.rows s c) h))
        (λ c n typed x h. work_fine c n x (subst (λ xs. Contains xs x) (text-Work db.rows c n) h))
        (λ c n typed x h. absurd (nothing x (subst (λ xs. Contains xs x) (text-Fresh db.rows c n) h)))
        node_fine
