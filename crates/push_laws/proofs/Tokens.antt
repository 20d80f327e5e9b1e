-- The tokens of a written formula without work variables are the symbols of its tree.
use Rattle.std.specs.Prelude.{◌≡◌, ◌<◌, ℕ, Bool, true, List, [], ◌∷◌, ◌++◌, length, map, flat_map, filter_map, is_some, Contains, Some, refl}
use Rattle.std.specs.List.{AllByRecursion, list_all, cons_option}
use Rattle.std.proofs.Common.{sym, ap, subst, ◌∙◌, cond, inl, inr}
use Rattle.std.proofs.lemmas.Bool.{and_from}
use Rattle.mm_base.specs.declared.symbols.Sym.{Sym}
use Rattle.mm_base.specs.declared.symbols.Typecode.{Typecode}
use Rattle.mm_base.specs.declared.tree.Tree.{Tree}
use Rattle.mm_base.proofs.TreeInduction.{tree_ind}
use Rattle.mm_model.specs.declared.rows.Item.{Item}
use Rattle.mm_model.specs.declared.rows.Item.TheVariants as slot
use Rattle.mm_model.specs.declared.rows.Leaf.{Leaf}
use Rattle.mm_model.specs.declared.rows.Leaf.TheVariants as leaf
use Rattle.mm_model.specs.Texts.{text, row_of, row_text}
use Rattle.mm_model.specs.Typed.{IsTyped}
use Rattle.mm_model.specs.Productions.{TypedVariable, typed_variables}
use Rattle.mm_model.specs.Book.{Database, symbol_of}
use Rattle.mm_model.specs.BookFacts.{item_symbol}
use Rattle.mm_model.proofs.NameLaws.{symbol_back}
use Rattle.mm_model.proofs.TextLaws.{text-Var, text-Work, text-Fresh, text-Node}
use Rattle.mm_model.proofs.TypedLaws.{typed_here, typed_held}
use Rattle.solve_model.specs.Binding.{symbols_from}
use Rattle.solve_model.specs.Trees.{open_leaves, work, Occurs}
use Rattle.solve_model.proofs.TreeLaws.{open_leaves-Work, open_leaves-Node}
use Rattle.written_model.specs.ProofsPush.{leaf_symbols}
use Rattle.written_model.specs.Written.{leaf_name, formula_tokens}
use Rattle.push_laws.proofs.Facts.{IsBook}
use Rattle.push_laws.proofs.Lists.{first, later, nothing, parted}
use Rattle.push_laws.proofs.Parts.{node_leaf, item_cases, child_at, each_at, flatten_at}
use Rattle.push_laws.proofs.TreeProofs.{tree_symbols}

module _ (db : Database) (book : IsBook db) (before : ℕ) where
  abbrev IsNamed : Item → Type 0
  IsNamed (slot.Const s) = s.0 < length db.symbols
  IsNamed (slot.Slot k) = Unit {0}

  items_named : (vars : List TypedVariable) (items : List Item) → AllByRecursion (λ (s : Sym). s.0 < length db.symbols) (map (item_symbol vars) items) → AllByRecursion IsNamed items
  items_named vars [] a = tt
  items_named vars (slot.Const s ∷ items) a = (a.0, items_named vars items a.1)
  items_named vars (slot.Slot k ∷ items) a = (tt, items_named vars items a.1)

  abbrev ConstNamed : Tree → Type 0
  ConstNamed t = IsTyped db.rows before t → (s : Sym) → Contains (text db.rows t) (leaf.Const s) → s.0 < length db.symbols

  no_const : (s v : Sym) (c : Typecode) → Contains (leaf.Var v c ∷ []) (leaf.Const s) → ⊥
  no_const s v c h = elim (parted (leaf.Const s) (leaf.Var v c) [] h) [ inl e ↦ cc | inr l ↦ nothing (leaf.Const s) l ]

  no_const_work : (s : Sym) (c : Typecode) (n : ℕ) → Contains (leaf.Work c n ∷ []) (leaf.Const s) → ⊥
  no_const_work s c n h = elim (parted (leaf.Const s) (leaf.Work c n) [] h) [ inl e ↦ cc | inr l ↦ nothing (leaf.Const s) l ]

  same_const : (s v : Sym) → leaf.Const s ≡ leaf.Const v → v ≡ s
  same_const s v e = cc

  -- the constants of a typed tree's text are symbols of the database
  pub const_named : (t : Tree) → ConstNamed t
  const_named = tree_ind ConstNamed
      (λ v c typed s h. absurd (no_const s v c (subst (λ xs. Contains xs (leaf.Const s)) (text-Var db.rows v c) h)))
      (λ c n typed s h. absurd (no_const_work s c n (subst (λ xs. Contains xs (leaf.Const s)) (text-Work db.rows c n) h)))
      (λ c n typed s h. absurd (nothing (leaf.Const s) (subst (λ xs. Contains xs (leaf.Const s)) (text-Fresh db.rows c n) h)))
      (λ l c ts each typed s h.
      let here = typed_here db.rows before l c ts typed in
      let r = here.0 in
      let frame = book.facts.rows l r here.1 in
      let symbols = (book.facts.frames l frame.0 frame.1).formula.symbols in
      let symbols' = subst (AllByRecursion (λ (x : Sym). x.0 < length db.symbols)) frame.2.formula symbols in
      let named = items_named (typed_variables frame.0.hyps) r.items symbols'.1 in
      elim
      (item_cases IsNamed (map (text db.rows) ts) (leaf.Const s) r.items named
      (subst (λ xs. Contains xs (leaf.Const s)) (text-Node db.rows l c ts ∙ ap (row_text (map (text db.rows) ts)) here.1) h)) [
        | inl d ↦ subst (λ (x : Sym). x.0 < length db.symbols) (same_const s d.0 d.1) d.2
        | inr d ↦
            let t = child_at (text db.rows) ts d.0 (leaf.Const s) d.1 in
            each_at ConstNamed ts d.0 t.0 each t.1 (each_at (IsTyped db.rows before) ts d.0 t.0 (typed_held db.rows before l c ts typed) t.1) s t.2
      ])

  abbrev WorkOccurs : Tree → Type 0
  WorkOccurs t = (c : Typecode) (n : ℕ) → Contains (text db.rows t) (leaf.Work c n) → Occurs (work c n) t

  no_work_var : (s : Sym) (c d : Typecode) (n : ℕ) → Contains (leaf.Var s d ∷ []) (leaf.Work c n) → ⊥
  no_work_var s c d n h = elim (parted (leaf.Work c n) (leaf.Var s d) [] h) [ inl e ↦ cc | inr l ↦ nothing (leaf.Work c n) l ]

  same_work : (c d : Typecode) (n m : ℕ) → Contains (leaf.Work d m ∷ []) (leaf.Work c n) → work d m ≡ work c n
  same_work c d n m h = elim (parted (leaf.Work c n) (leaf.Work d m) [] h) [ inl e ↦ cc | inr l ↦ absurd (nothing (leaf.Work c n) l) ]

  const_work : (s : Sym) (c : Typecode) (n : ℕ) → leaf.Work c n ≡ leaf.Const s → ⊥
  const_work s c n e = cc

  pub work_occurs : (t : Tree) → WorkOccurs t
  work_occurs = tree_ind WorkOccurs
      (λ s d c n h. absurd (no_work_var s c d n (subst (λ xs. Contains xs (leaf.Work c n)) (text-Var db.rows s d) h)))
      (λ d m c n h. subst (λ xs. Contains xs (work c n)) (sym (open_leaves-Work d m))
      (first (work c n) (work d m) [] (same_work c d n m (subst (λ xs. Contains xs (leaf.Work c n)) (text-Work db.rows d m) h))))
      (λ d m c n h. absurd (nothing (leaf.Work c n) (subst (λ xs. Contains xs (leaf.Work c n)) (text-Fresh db.rows d m) h)))
      (λ l d ts each c n h. elim (node_leaf db l d ts (leaf.Work c n) (row_of db.rows l) refl h) [
        | inl k ↦ absurd (const_work k.0 c n k.1)
        | inr k ↦ subst (λ xs. Contains xs (work c n)) (sym (open_leaves-Node l d ts)) (flatten_at open_leaves ts k.0 k.1 (work c n) k.2 (each_at WorkOccurs ts k.0 k.1 each k.2 c n k.3))
      ])

  -- ---- tokens

  abbrev Spoken : Leaf → Type 0
  Spoken (leaf.Const s) = s.0 < length db.symbols
  Spoken (leaf.Var s c) = s.0 < length db.symbols
  Spoken (leaf.Work c n) = ⊥

  token_back : (x : Leaf) → Spoken x → (s : Sym) × (symbol_of db (leaf_name db x) ≡ Some s) × (leaf_symbols x ≡ s ∷ [])
  token_back (leaf.Const s) l = (s, symbol_back db.symbols book.facts.symbols s.0 l, refl)
  token_back (leaf.Var s c) l = (s, symbol_back db.symbols book.facts.symbols s.0 l, refl)
  token_back (leaf.Work c n) l = absurd l

  all_tokens : (xs : List Leaf) → AllByRecursion Spoken xs → list_all (λ t. is_some (symbol_of db t)) (map (leaf_name db) xs) ≡ true
  all_tokens [] a = refl
  all_tokens (x ∷ xs) a = let b = token_back x a.0 in and_from _ _ (ap (λ o. is_some o) b.1) (all_tokens xs a.1)

  tokens_back : (xs : List Leaf) → AllByRecursion Spoken xs → filter_map (symbol_of db) (map (leaf_name db) xs) ≡ flat_map leaf_symbols xs
  tokens_back [] a = refl
  tokens_back (x ∷ xs) a =
      let b = token_back x a.0 in
      ap (λ o. cons_option o (filter_map (symbol_of db) (map (leaf_name db) xs))) b.1 ∙ ap (λ ss. b.0 ∷ ss) (tokens_back xs a.1) ∙ sym (ap (λ ys. ys ++ flat_map leaf_symbols xs) b.2)

  spoken_all : (t : Tree) → IsTyped db.rows before t → open_leaves t ≡ []
      → ((s : Sym) (c : Typecode) → Contains (text db.rows t) (leaf.Var s c) → s.0 < length db.symbols) → AllByRecursion Spoken (text db.rows t)
  spoken_all t typed closed vars = all_spoken (text db.rows t) (λ x h. h)
    where
      spoken : (x : Leaf) → Contains (text db.rows t) x → Spoken x
      spoken (leaf.Const s) h = const_named t typed s h
      spoken (leaf.Var s c) h = vars s c h
      spoken (leaf.Work c n) h = nothing (work c n) (subst (λ xs. Contains xs (work c n)) closed (work_occurs t c n h))

      all_spoken : (xs : List Leaf) → ((x : Leaf) → Contains xs x → Contains (text db.rows t) x) → AllByRecursion Spoken xs
      all_spoken [] f = tt
      all_spoken (x ∷ xs) f = (spoken x (f x (first x x xs refl)), all_spoken xs (λ y h. f y (later y x xs h)))

  -- the symbols of a written formula
  pub symbols_are : (p : Sym) → symbol_of db db.provable ≡ Some p → (t : Tree) → IsTyped db.rows before t → open_leaves t ≡ []
      → ((s : Sym) (c : Typecode) → Contains (text db.rows t) (leaf.Var s c) → s.0 < length db.symbols) → symbols_from db (formula_tokens db t) ≡ p ∷ tree_symbols db t
  symbols_are p provable t typed closed vars =
      let spoken = spoken_all t typed closed vars in
      let test : list_all (λ t. is_some (symbol_of db t)) (formula_tokens db t) ≡ true = and_from _ _ (ap (λ o. is_some o) provable) (all_tokens (text db.rows t) spoken) in
      ap (λ (b : Bool). cond b (filter_map (symbol_of db) (formula_tokens db t)) []) test
      ∙ ap (λ o. cons_option o (filter_map (symbol_of db) (map (leaf_name db) (text db.rows t)))) provable
      ∙ ap (λ ss. p ∷ ss) (tokens_back (text db.rows t) spoken)
