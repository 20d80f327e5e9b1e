-- The leaves of a tree are those of its text.
use Rattle.std.specs.Prelude.{◌≡◌, ◌<◌, ◌==◌, ℕ, zero, suc, Contains, List, [], ◌∷◌, length, map, slice_index_or, Option, Some, None, refl}
use Rattle.std.proofs.Common.{sym, ap, subst, ◌∙◌, arith, inl, inr}
use Rattle.std.proofs.lemmas.Bool.{cases_Bool}
use Rattle.std.proofs.lemmas.Bool.Decides.{nat_tests}
use Rattle.std.proofs.lemmas.List.Elements.{Contains-append_left, Contains-append_right, Contains-append_cases}
use Rattle.mm_base.specs.declared.symbols.Sym.{Sym}
use Rattle.mm_base.specs.declared.symbols.Label.{Label}
use Rattle.mm_base.specs.declared.symbols.Typecode.{Typecode}
use Rattle.mm_base.specs.declared.tree.Tree.{Tree}
use Rattle.mm_base.specs.declared.tree.Tree.TheVariants.{Var, Work, Fresh, Node}
use Rattle.mm_base.specs.Trees.{code_of, Each}
use Rattle.mm_base.proofs.TreeInduction.{tree_ind}
use Rattle.mm_model.specs.declared.rows.Item.{Item}
use Rattle.mm_model.specs.declared.rows.Item.TheVariants as item
use Rattle.mm_model.specs.declared.rows.Leaf.{Leaf}
use Rattle.mm_model.specs.declared.rows.Leaf.TheVariants as leaf
use Rattle.mm_model.specs.declared.rows.Production.{Production}
use Rattle.mm_model.specs.Rows.{slot_order, place_of, AreRows}
use Rattle.mm_model.specs.Texts.{row_of, items_text, row_text, text}
use Rattle.mm_model.specs.Typed.{IsTyped}
use Rattle.mm_model.proofs.RowLaws.{row_stands, is_row}
use Rattle.mm_model.proofs.TextLaws.{text-Var, text-Work, text-Fresh, text-Node}
use Rattle.mm_model.proofs.TypedLaws.{typed_here, typed_held}
use Rattle.mm_model.specs.Productions.{TypedVariable}
use Rattle.solve_model.specs.Trees.{work, fresh, flatten, open_leaves}
use Rattle.solve_model.proofs.TreeLaws.{open_leaves-Var, open_leaves-Work, open_leaves-Fresh, open_leaves-Node}
use Rattle.solve_laws.proofs.Elements.{nothing, only, here}
use Rattle.again_laws.specs.Leaves.{typed, typed_leaves}
use Rattle.again_laws.proofs.LeafLaws.{leaves-Var, leaves-Work, leaves-Fresh, leaves-Node}

-- ---- the texts of slots

slot_shown : (k : ℕ) (texts : List (List Leaf)) (x : Leaf) → Contains (slice_index_or texts k []) x → (items : List Item)
    → place_of k (slot_order items) < length (slot_order items) → Contains (items_text texts items) x
slot_shown k texts x m [] less = absurd (omega (arith, less))
slot_shown k texts x m (item.Const s ∷ items) less = Contains-append_right (leaf.Const s ∷ []) (items_text texts items) x (slot_shown k texts x m items less)
slot_shown k texts x m (item.Slot j ∷ items) less = elim (cases_Bool (k == j)) [
  | inl d ↦ let same : k ≡ j = grind (arith, nat_tests) in
      Contains-append_left (slice_index_or texts j []) (items_text texts items) x (subst (λ (n : ℕ). Contains (slice_index_or texts n []) x) same m)
  | inr d ↦ let rest : suc (place_of k (slot_order items)) < suc (length (slot_order items)) = rw d at less in
      Contains-append_right (slice_index_or texts j []) (items_text texts items) x (slot_shown k texts x m items (omega (arith, rest)))
]

-- what stands in the texts of slots stands in the text of one
slot_source : (texts : List (List Leaf)) (x : Leaf) → ((s : Sym) → x ≡ leaf.Const s → ⊥) → (items : List Item) → Contains (items_text texts items) x → (k : ℕ) × Contains (slice_index_or texts k []) x
slot_source texts x no_const [] m = absurd (nothing x m)
slot_source texts x no_const (item.Const s ∷ items) m =
    elim
    (Contains-append_cases (leaf.Const s ∷ []) (items_text texts items) x m) [
      | inl h ↦ absurd
          (no_const s (sym (only x (leaf.Const s) h)))
      | inr h ↦ slot_source texts x no_const items h
    ]
slot_source texts x no_const (item.Slot j ∷ items) m =
    elim
    (Contains-append_cases (slice_index_or texts j []) (items_text texts items) x m) [
      | inl h ↦
          (j, h)
      | inr h ↦ slot_source texts x no_const items h
    ]

-- ---- leaves of a kind: a list of them for each tree, and what they are in a text

module _ {Y : Type 0} (L : Tree → List Y) (y : Y) (x : Leaf) (at_node : (l : Label) (c : Typecode) (ts : List Tree) → L (Node l c ts) ≡ flatten (map L ts)) (rows : List Production) where
  module _ (before : ℕ) (are : AreRows rows)
      (at_var : (s : Sym) (c : Typecode) → Contains (L (Var s c)) y → leaf.Var s c ≡ x)
      (at_work : (c : Typecode) (n : ℕ) → Contains (L (Work c n)) y → leaf.Work c n ≡ x)
      (at_fresh : (c : Typecode) (n : ℕ) → Contains (L (Fresh c n)) y → ⊥) where
    abbrev Shown : Tree → Type 0
    Shown t = IsTyped rows before t → Contains (L t) y → Contains (text rows t) x

    child_shown : (ts : List Tree) → Each Shown ts → Each (IsTyped rows before) ts → Contains (flatten (map L ts)) y
        → (k : ℕ) × (k < length ts) × Contains (slice_index_or (map (text rows) ts) k []) x
    child_shown [] h p m = absurd (nothing y m)
    child_shown (t ∷ ts) h p m = elim (Contains-append_cases (L t) (flatten (map L ts)) y m) [
      | inl o ↦ (0, omega arith, h.0 p.0 o)
      | inr o ↦ let r = child_shown ts h.1 p.1 o in let less = r.1 in (suc r.0, omega (arith, less), r.2)
    ]

    count : (ts : List Tree) (cs : List Typecode) → map code_of ts ≡ cs → length ts ≡ length cs
    count [] [] e = refl
    count [] (c ∷ cs) e = absurd cc
    count (t ∷ ts) [] e = absurd cc
    count (t ∷ ts) (c ∷ cs) e = let rest : map code_of ts ≡ cs = cc in ap (λ n. suc n) (count ts cs rest)

    pub shown : (t : Tree) → Shown t
    shown = tree_ind Shown
        (λ s c p m. rw text-Var (subst (Contains (leaf.Var s c ∷ [])) (at_var s c m) (here (leaf.Var s c))))
        (λ c n p m. rw text-Work (subst (Contains (leaf.Work c n ∷ [])) (at_work c n m) (here (leaf.Work c n))))
        (λ c n p m. absurd (at_fresh c n m))
        (λ l c ts h p m.
        let layer = typed_here rows before l c ts p in
        let child = child_shown ts h (typed_held rows before l c ts p) (rw at_node at m) in
        let stands = row_stands rows l layer.0 layer.1 in
        let row = is_row rows are stands.place layer.0 stands.stands in
        let within : child.0 < length layer.0.slots = (let less = child.1 in let same = count ts layer.0.slots layer.4 in omega (arith, less, same)) in
        let found = slot_shown child.0 (map (text rows) ts) x child.2 layer.0.items (row.each_once.found child.0 within) in
        rw (text-Node, layer.1) found)

  module _ (at_var : (s : Sym) (c : Typecode) → leaf.Var s c ≡ x → Contains (L (Var s c)) y)
      (at_work : (c : Typecode) (n : ℕ) → leaf.Work c n ≡ x → Contains (L (Work c n)) y)
      (no_const : (s : Sym) → x ≡ leaf.Const s → ⊥) where
    abbrev Told : Tree → Type 0
    Told t = Contains (text rows t) x → Contains (L t) y

    child_told : (ts : List Tree) → Each Told ts → (k : ℕ) → Contains (slice_index_or (map (text rows) ts) k []) x → Contains (flatten (map L ts)) y
    child_told [] h k m = absurd (nothing x m)
    child_told (t ∷ ts) h zero m = Contains-append_left (L t) (flatten (map L ts)) y (h.0 m)
    child_told (t ∷ ts) h (suc k) m = Contains-append_right (L t) (flatten (map L ts)) y (child_told ts h.1 k m)

    row_told : (ts : List Tree) → Each Told ts → (o : Option Production) → Contains (row_text (map (text rows) ts) o) x → Contains (flatten (map L ts)) y
    row_told ts h None m = absurd (nothing x m)
    row_told ts h (Some r) m = let s = slot_source (map (text rows) ts) x no_const r.items m in child_told ts h s.0 s.1

    pub told : (t : Tree) → Told t
    told = tree_ind Told
        (λ s c m. at_var s c (only x (leaf.Var s c) (rw text-Var at m)))
        (λ c n m. at_work c n (only x (leaf.Work c n) (rw text-Work at m)))
        (λ c n m. absurd (nothing x (rw text-Fresh at m)))
        (λ l c ts h m. rw at_node (row_told ts h (row_of rows l) (rw text-Node at m)))

abbrev pub variable_leaf : TypedVariable → Leaf
variable_leaf v = leaf.Var v.sym v.code

pub variable_shown : (rows : List Production) (before : ℕ) → AreRows rows → (v : TypedVariable) (t : Tree) → IsTyped rows before t
    → Contains (typed_leaves t) v → Contains (text rows t) (variable_leaf v)
variable_shown rows before are v =
    shown typed_leaves v (variable_leaf v) leaves-Node rows before are
    (λ s c m. ap variable_leaf (only v (typed s c) (rw leaves-Var at m)))
    (λ c n m. absurd (nothing v (rw leaves-Work at m)))
    (λ c n m. nothing v (rw leaves-Fresh at m))

pub variable_told : (rows : List Production) (v : TypedVariable) (t : Tree) → Contains (text rows t) (variable_leaf v) → Contains (typed_leaves t) v
variable_told rows v =
    told typed_leaves v (variable_leaf v) leaves-Node rows
    (λ s c e. let same : typed s c ≡ v = same_variable s c v e in rw leaves-Var (subst (Contains (typed s c ∷ [])) same (here (typed s c))))
    (λ c n e. absurd (other c n e))
    (λ s e. const s e)
  where
    same_variable : (s : Sym) (c : Typecode) (w : TypedVariable) → leaf.Var s c ≡ variable_leaf w → typed s c ≡ w
    same_variable s c w e = let a : s ≡ w.sym = cc in let b : c ≡ w.code = cc in ap (λ (z : Sym). typed z c) a ∙ ap (λ (z : Typecode). typed w.sym z) b

    other : (c : Typecode) (n : ℕ) → leaf.Work c n ≡ variable_leaf v → ⊥
    other c n e = cc

    const : (s : Sym) → variable_leaf v ≡ leaf.Const s → ⊥
    const s e = cc

pub work_shown : (rows : List Production) (before : ℕ) → AreRows rows → (d : Typecode) (m : ℕ) (t : Tree) → IsTyped rows before t
    → Contains (open_leaves t) (work d m) → Contains (text rows t) (leaf.Work d m)
work_shown rows before are d m =
    shown open_leaves (work d m) (leaf.Work d m) open_leaves-Node rows before are
    (λ s c o. absurd (nothing (work d m) (rw open_leaves-Var at o)))
    (λ c n o. same c n (only (work d m) (work c n) (rw open_leaves-Work at o)))
    (λ c n o. other c n (only (work d m) (fresh c n) (rw open_leaves-Fresh at o)))
  where
    same : (c : Typecode) (n : ℕ) → work c n ≡ work d m → leaf.Work c n ≡ leaf.Work d m
    same c n e = let a : c ≡ d = cc in let b : n ≡ m = cc in cc

    other : (c : Typecode) (n : ℕ) → fresh c n ≡ work d m → ⊥
    other c n e = cc

pub work_told : (rows : List Production) (d : Typecode) (m : ℕ) (t : Tree) → Contains (text rows t) (leaf.Work d m) → Contains (open_leaves t) (work d m)
work_told rows d m =
    told open_leaves (work d m) (leaf.Work d m) open_leaves-Node rows
    (λ s c e. absurd (other s c e))
    (λ c n e. rw open_leaves-Work (subst (Contains (work c n ∷ [])) (same c n e) (here (work c n))))
    (λ s e. const s e)
  where
    same : (c : Typecode) (n : ℕ) → leaf.Work c n ≡ leaf.Work d m → work c n ≡ work d m
    same c n e = let a : c ≡ d = cc in let b : n ≡ m = cc in cc

    other : (s : Sym) (c : Typecode) → leaf.Var s c ≡ leaf.Work d m → ⊥
    other s c e = cc

    const : (s : Sym) → leaf.Work d m ≡ leaf.Const s → ⊥
    const s e = cc
