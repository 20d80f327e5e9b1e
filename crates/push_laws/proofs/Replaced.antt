-- Trees with their leaves replaced: by what occurs in them, their typecodes and the variables of their texts.
use Rattle.std.specs.Prelude.{◌≡◌, ◌<◌, ◌≤◌, ◌⊎◌, ℕ, suc, List, [], ◌∷◌, map, slice_get, Contains, Some, refl}
use Rattle.std.proofs.Common.{sym, ap, subst, ◌∙◌, arith, inl, inr}
use Rattle.std.proofs.lemmas.List.Elements.{Contains-append_cases}
use Rattle.mm_base.specs.declared.symbols.Sym.{Sym}
use Rattle.mm_base.specs.declared.symbols.Label.{Label}
use Rattle.mm_base.specs.declared.symbols.Typecode.{Typecode}
use Rattle.mm_base.specs.declared.tree.Tree.{Tree}
use Rattle.mm_base.specs.declared.tree.Tree.TheVariants.{Var, Work, Fresh, Node}
use Rattle.mm_base.specs.Trees.{code_of, Each}
use Rattle.mm_base.proofs.TreeInduction.{tree_ind}
use Rattle.mm_model.specs.declared.rows.Leaf.{Leaf}
use Rattle.mm_model.specs.declared.rows.Leaf.TheVariants as leaf
use Rattle.mm_model.specs.Texts.{text, row_of}
use Rattle.mm_model.specs.Typed.{IsTyped, HasNoFresh}
use Rattle.mm_model.specs.Book.{Database}
use Rattle.mm_model.proofs.TextLaws.{text-Var, text-Work}
use Rattle.mm_model.proofs.TypedLaws.{code-Var, code-Work, code-Node, typed-Node, typed_here, typed_held, named_held, fresh_is_not_named}
use Rattle.proof_model.specs.declared.theorem.Theorem.{Theorem}
use Rattle.solve_model.specs.Trees.{Open, work, fresh, open_code, open_leaves, flatten, replace, Occurs}
use Rattle.solve_model.proofs.TreeLaws.{open_leaves-Var, open_leaves-Work, open_leaves-Fresh, open_leaves-Node, replace-Var, replace-Work, replace-Fresh, replace-Node}
use Rattle.solve_laws.specs.ReplacedTypes.{IsTypedAs}
use Rattle.solve_laws.proofs.ReplacedTypes.{code-Fresh}
use Rattle.push_laws.proofs.Facts.{IsBook}
use Rattle.push_laws.proofs.Lists.{first, nothing, parted, get_mapped}
use Rattle.push_laws.proofs.Parts.{node_leaf, each_at, flatten_at}
use Rattle.push_laws.proofs.TreeProofs.{child_text}

abbrev pub no_theorem : ℕ → Theorem
no_theorem before = record { at = before; formula = []; hyps = []; mandatory = []; pairs = [] }

-- an open leaf of children is one of a child
flatten_from : {X : Type 0} (f : Tree → List X) (ts : List Tree) (x : X) → Contains (flatten (map f ts)) x → (k : ℕ) × (t : Tree) × (slice_get ts k ≡ Some t) × Contains (f t) x
flatten_from f [] x h = absurd (nothing x h)
flatten_from f (t ∷ ts) x h = elim (Contains-append_cases (f t) (flatten (map f ts)) x h) [
  | inl l ↦ (0, t, refl, l)
  | inr r ↦ let k = flatten_from f ts x r in (suc k.0, k.1, k.2, k.3)
]

only : {X : Type 0} (x y : X) → Contains (y ∷ []) x → y ≡ x
only x y h = elim (parted x y [] h) [ inl e ↦ e | inr l ↦ absurd (nothing x l) ]

module _ (db : Database) (book : IsBook db) (before : ℕ) where
  abbrev Typed : Tree → Type 0
  Typed t = IsTyped db.rows before t

  -- a child's text stands in the text of a typed node
  pub text_child : (l : Label) (c : Typecode) (ts : List Tree) (k : ℕ) (t : Tree) (x : Leaf) → Typed (Node l c ts) → slice_get ts k ≡ Some t
      → Contains (text db.rows t) x → Contains (text db.rows (Node l c ts)) x
  text_child l c ts k t x typed e h =
      let here = typed_here db.rows before l c ts typed in
      let frame = book.facts.rows l here.0 here.1 in
      child_text db book (no_theorem before) (λ h c. absurd (nothing h c)) l c ts here.0 here.1 frame.0 frame.1 frame.2 here.3 here.4 k t x e h

  typed_child : (l : Label) (c : Typecode) (ts : List Tree) (k : ℕ) (t : Tree) → Typed (Node l c ts) → slice_get ts k ≡ Some t → Typed t
  typed_child l c ts k t typed e = each_at Typed ts k t (typed_held db.rows before l c ts typed) e

  occurs_child : (l : Label) (c : Typecode) (ts : List Tree) (k : ℕ) (t : Tree) (x : Open) → slice_get ts k ≡ Some t → Occurs x t → Occurs x (Node l c ts)
  occurs_child l c ts k t x e h = subst (λ xs. Contains xs x) (sym (open_leaves-Node l c ts)) (flatten_at open_leaves ts k t x e h)

  -- a variable of the text
  abbrev pub HasVar : Tree → Sym → Typecode → Type 0
  HasVar t s c = Contains (text db.rows t) (leaf.Var s c)

  pub var_here : (s : Sym) (c : Typecode) → HasVar (Var s c) s c
  var_here s c = subst (λ xs. Contains xs (leaf.Var s c)) (sym (text-Var db.rows s c)) (first (leaf.Var s c) (leaf.Var s c) [] refl)

  work_here : (c : Typecode) (n : ℕ) → Occurs (work c n) (Work c n)
  work_here c n = subst (λ xs. Contains xs (work c n)) (sym (open_leaves-Work c n)) (first (work c n) (work c n) [] refl)

  fresh_here : (c : Typecode) (n : ℕ) → Occurs (fresh c n) (Fresh c n)
  fresh_here c n = subst (λ xs. Contains xs (fresh c n)) (sym (open_leaves-Fresh c n)) (first (fresh c n) (fresh c n) [] refl)

  -- ---- types

  module _ (place : ℕ) (at_var : Sym → Typecode → Tree) (at_open : Open → Tree) where
    abbrev Kept : Tree → Type 0
    Kept t =
        Typed t → before ≤ place → ((s : Sym) (c : Typecode) → HasVar t s c → IsTypedAs db.rows place c (at_var s c))
        → ((x : Open) → Occurs x t → IsTypedAs db.rows place (open_code x) (at_open x))
        → IsTypedAs db.rows place (code_of t) (replace at_var at_open t)

    typed_as : (c d : Typecode) (t u : Tree) → c ≡ d → t ≡ u → IsTypedAs db.rows place d u → IsTypedAs db.rows place c t
    typed_as c d t u p q h = record { code = ap code_of q ∙ h.code ∙ sym p; typed = subst (IsTyped db.rows place) (sym q) h.typed }

    children : (ts : List Tree) → ((k : ℕ) (t : Tree) → slice_get ts k ≡ Some t → IsTypedAs db.rows place (code_of t) (replace at_var at_open t))
        → Each (IsTyped db.rows place) (map (replace at_var at_open) ts) × (map code_of (map (replace at_var at_open) ts) ≡ map code_of ts)
    children [] f = (tt, refl)
    children (t ∷ ts) f =
        let one = f 0 t refl in
        let rest = children ts (λ k u e. f (suc k) u e) in
        let code = one.code in
        let codes = rest.1 in
        ((one.typed, rest.0), cc)

    node_kept : (l : Label) (c : Typecode) (ts : List Tree) → Each Kept ts → Kept (Node l c ts)
    node_kept l c ts each typed less vars opens =
        let here = typed_here db.rows before l c ts typed in
        let below = children ts (λ k t e. each_at Kept ts k t each e (typed_child l c ts k t typed e) less
        (λ s d h. vars s d (text_child l c ts k t (leaf.Var s d) typed e h)) (λ x o. opens x (occurs_child l c ts k t x e o))) in
        let earlier : here.0.at < place = (let lt = here.2 in omega (arith, lt, less)) in
        typed_as _ _ _ _ (code-Node l c ts) (replace-Node at_var at_open l c ts) (record {
          code = code-Node l c (map (replace at_var at_open) ts);
          typed = typed-Node db.rows place l c (map (replace at_var at_open) ts) (here.0, here.1, earlier, here.3, below.1 ∙ here.4) below.0;
        })

    -- a typed tree whose leaves get typed trees of their typecodes is typed, also at a later place
    pub typed_on : (t : Tree) → Kept t
    typed_on = tree_ind Kept
        (λ s c typed less vars opens. typed_as _ _ _ _ (code-Var s c) (replace-Var at_var at_open s c) (vars s c (var_here s c)))
        (λ c n typed less vars opens. typed_as _ _ _ _ (code-Work c n) (replace-Work at_var at_open c n) (opens (work c n) (work_here c n)))
        (λ c n typed less vars opens. typed_as _ _ _ _ (code-Fresh c n) (replace-Fresh at_var at_open c n) (opens (fresh c n) (fresh_here c n)))
        node_kept

  -- ---- replacements that agree

  module _ (a b : Sym → Typecode → Tree) (p q : Open → Tree) where
    abbrev Alike : Tree → Type 0
    Alike t = Typed t → ((s : Sym) (c : Typecode) → HasVar t s c → a s c ≡ b s c) → ((x : Open) → Occurs x t → p x ≡ q x) → replace a p t ≡ replace b q t

    all_alike : (ts : List Tree) → ((k : ℕ) (t : Tree) → slice_get ts k ≡ Some t → replace a p t ≡ replace b q t) → map (replace a p) ts ≡ map (replace b q) ts
    all_alike [] f = refl
    all_alike (t ∷ ts) f = let one = f 0 t refl in let rest = all_alike ts (λ k u e. f (suc k) u e) in cc

    pub replace_alike : (t : Tree) → Alike t
    replace_alike = tree_ind Alike
        (λ s c typed f g. replace-Var a p s c ∙ f s c (var_here s c) ∙ sym (replace-Var b q s c))
        (λ c n typed f g. replace-Work a p c n ∙ g (work c n) (work_here c n) ∙ sym (replace-Work b q c n))
        (λ c n typed f g. replace-Fresh a p c n ∙ g (fresh c n) (fresh_here c n) ∙ sym (replace-Fresh b q c n))
        (λ l c ts each typed f g. replace-Node a p l c ts ∙ ap (λ us. Node l c us) (all_alike ts (λ k t e. each_at Alike ts k t each e (typed_child l c ts k t typed e)
        (λ s d h. f s d (text_child l c ts k t (leaf.Var s d) typed e h)) (λ x o. g x (occurs_child l c ts k t x e o)))) ∙ sym (replace-Node b q l c ts))

  -- ---- the variables of what is replaced

  module _ (a : Sym → Typecode → Tree) (p : Open → Tree) (s : Sym) (c : Typecode) where
    abbrev Comes : Tree → Type 0
    Comes t = ((v : Sym) × (d : Typecode) × HasVar t v d × HasVar (a v d) s c) ⊎ ((x : Open) × Occurs x t × HasVar (p x) s c)

    abbrev ComesFrom : Tree → Type 0
    ComesFrom t = Typed t → HasVar (replace a p t) s c → Comes t

    const_var : (v : Sym) → leaf.Var s c ≡ leaf.Const v → ⊥
    const_var v e = cc

    node_comes : (l : Label) (d : Typecode) (ts : List Tree) → Each ComesFrom ts → ComesFrom (Node l d ts)
    node_comes l d ts each typed h = elim (node_leaf db l d (map (replace a p) ts) (leaf.Var s c) (row_of db.rows l) refl (subst (λ t. HasVar t s c) (replace-Node a p l d ts) h)) [
      | inl k ↦ absurd (const_var k.0 k.1)
      | inr k ↦
          let t = get_mapped (replace a p) ts k.0 k.1 k.2 in
          elim (each_at ComesFrom ts k.0 t.0 each t.1 (typed_child l d ts k.0 t.0 typed t.1) (subst (λ x. HasVar x s c) (sym t.2) k.3)) [
            | inl v ↦ inl (v.0, v.1, text_child l d ts k.0 t.0 (leaf.Var v.0 v.1) typed t.1 v.2, v.3)
            | inr x ↦ inr (x.0, occurs_child l d ts k.0 t.0 x.0 t.1 x.1, x.2)
          ]
    ]

    pub comes_from : (t : Tree) → ComesFrom t
    comes_from = tree_ind ComesFrom
        (λ v d typed h. inl (v, d, var_here v d, subst (λ t. HasVar t s c) (replace-Var a p v d) h))
        (λ d n typed h. inr (work d n, work_here d n, subst (λ t. HasVar t s c) (replace-Work a p d n) h))
        (λ d n typed h. inr (fresh d n, fresh_here d n, subst (λ t. HasVar t s c) (replace-Fresh a p d n) h))
        node_comes

  -- ---- open leaves

  abbrev WorkIsRead : Tree → Type 0
  WorkIsRead t = Typed t → (c : Typecode) (n : ℕ) → Occurs (work c n) t → Contains (text db.rows t) (leaf.Work c n)

  same_work : (c d : Typecode) (n m : ℕ) → work d m ≡ work c n → leaf.Work d m ≡ leaf.Work c n
  same_work c d n m e = cc

  fresh_work : (c d : Typecode) (n m : ℕ) → fresh d m ≡ work c n → ⊥
  fresh_work c d n m e = cc

  pub work_is_read : (t : Tree) → WorkIsRead t
  work_is_read = tree_ind WorkIsRead
      (λ s d typed c n o. absurd (nothing (work c n) (subst (λ xs. Contains xs (work c n)) (open_leaves-Var s d) o)))
      (λ d m typed c n o. subst (λ xs. Contains xs (leaf.Work c n)) (sym (text-Work db.rows d m))
      (first (leaf.Work c n) (leaf.Work d m) [] (same_work c d n m (only (work c n) (work d m) (subst (λ xs. Contains xs (work c n)) (open_leaves-Work d m) o)))))
      (λ d m typed c n o. absurd (fresh_work c d n m (only (work c n) (fresh d m) (subst (λ xs. Contains xs (work c n)) (open_leaves-Fresh d m) o))))
      (λ l d ts each typed c n o.
      let k = flatten_from open_leaves ts (work c n) (subst (λ xs. Contains xs (work c n)) (open_leaves-Node l d ts) o) in
      text_child l d ts k.0 k.1 (leaf.Work c n) typed k.2 (each_at WorkIsRead ts k.0 k.1 each k.2 (typed_child l d ts k.0 k.1 typed k.2) c n k.3))

  abbrev FreshIsNone : Tree → Type 0
  FreshIsNone t = HasNoFresh t → (c : Typecode) (n : ℕ) → Occurs (fresh c n) t → ⊥

  work_fresh : (c d : Typecode) (n m : ℕ) → work d m ≡ fresh c n → ⊥
  work_fresh c d n m e = cc

  pub fresh_is_none : (t : Tree) → FreshIsNone t
  fresh_is_none = tree_ind FreshIsNone
      (λ s d none c n o. nothing (fresh c n) (subst (λ xs. Contains xs (fresh c n)) (open_leaves-Var s d) o))
      (λ d m none c n o. work_fresh c d n m (only (fresh c n) (work d m) (subst (λ xs. Contains xs (fresh c n)) (open_leaves-Work d m) o)))
      (λ d m none c n o. fresh_is_not_named d m none)
      (λ l d ts each none c n o.
      let k = flatten_from open_leaves ts (fresh c n) (subst (λ xs. Contains xs (fresh c n)) (open_leaves-Node l d ts) o) in
      each_at FreshIsNone ts k.0 k.1 each k.2 (each_at HasNoFresh ts k.0 k.1 (named_held l d ts none) k.2) c n k.3)
