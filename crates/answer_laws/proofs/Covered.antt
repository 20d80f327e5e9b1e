-- The text of a typed tree has just its leaves.
use Rattle.std.specs.Prelude.{◌≡◌, ◌<◌, ◌==◌, ℕ, zero, suc, List, [], ◌∷◌, length, map, slice_index_or, slice_get, Contains, Option, Some, None, refl}
use Rattle.std.proofs.Common.{sym, ap, subst, ◌∙◌, arith, inl, inr, eqb-true}
use Rattle.std.proofs.lemmas.Bool.{cases_Bool}
use Rattle.std.proofs.lemmas.Option.{slice_get_within}
use Rattle.std.proofs.lemmas.List.{length-map}
use Rattle.std.proofs.lemmas.List.Elements.{Contains-append_cases}
use Rattle.mm_base.specs.declared.symbols.Sym.{Sym}
use Rattle.mm_base.specs.declared.symbols.Label.{Label}
use Rattle.mm_base.specs.declared.symbols.Typecode.{Typecode}
use Rattle.mm_base.specs.declared.tree.Tree.{Tree}
use Rattle.mm_base.specs.declared.tree.Tree.TheVariants.{Node}
use Rattle.mm_base.specs.Trees.{Each, code_of}
use Rattle.mm_base.proofs.TreeInduction.{tree_ind}
use Rattle.mm_model.specs.declared.rows.Item.{Item}
use Rattle.mm_model.specs.declared.rows.Item.TheVariants as item
use Rattle.mm_model.specs.declared.rows.Production.{Production}
use Rattle.mm_model.specs.Rows.{slot_order, place_of, IsGrammar}
use Rattle.mm_model.specs.Texts.{row_of}
use Rattle.mm_model.specs.Typed.{IsTyped}
use Rattle.mm_model.proofs.RowLaws.{is_row, row_stands}
use Rattle.mm_model.proofs.TypedLaws.{typed_here, typed_held}
use Rattle.solve_model.specs.Trees.{Open, flatten, variables, Occurs}
use Rattle.answer_laws.proofs.Elements.{nothing, first, later, piece_of, in_pieces, kept_from, in_kept}
use Rattle.answer_laws.proofs.Marks.{Mark, variable, open_leaf, open_part, variable_part, open_parts, variable_parts, leaves, marks, item_marks}
use Rattle.answer_laws.proofs.Marks.{row_marks, leaves-Var, leaves-Work, leaves-Fresh, leaves-Node, marks-Var, marks-Work, marks-Fresh, marks-Node}

-- a slot that has a place in the text stands in it
slot_stands : (k : ℕ) (is : List Item) → place_of k (slot_order is) < length (slot_order is) → Contains is (item.Slot k)
slot_stands k [] l = absurd (omega (arith, l))
slot_stands k (item.Const s ∷ is) l = later (item.Slot k) (item.Const s) is (slot_stands k is l)
slot_stands k (item.Slot j ∷ is) l = elim (cases_Bool (k == j)) [
  | inl e ↦ first (item.Slot k) (item.Slot j) is (ap (λ n. item.Slot n) (sym (eqb-true k j e)))
  | inr e ↦
      let more : suc (place_of k (slot_order is)) < suc (length (slot_order is)) = rw e at l in
      later (item.Slot k) (item.Slot j) is (slot_stands k is (omega (arith, more)))
]

pub each_at : (P : Tree → Type 0) (ts : List Tree) (k : ℕ) (t : Tree) → Each P ts → slice_get ts k ≡ Some t → P t
each_at P [] k t h e = absurd (cc)
each_at P (u ∷ us) zero t h e = let same : u ≡ t = cc in subst P same h.0
each_at P (u ∷ us) (suc k) t h e = each_at P us k t h.1 e

module _ (m : Mark) where
  -- the child that has the leaf
  pub record InChild (f : Tree → List Mark) (ts : List Tree) : Type 0 where
    pub number : ℕ
    pub child : Tree
    pub is : slice_get ts number ≡ Some child
    pub has : Contains (f child) m

  in_child : (f : Tree → List Mark) (ts : List Tree) → Contains (flatten (map f ts)) m → InChild f ts
  in_child f [] o = absurd (nothing m o)
  in_child f (t ∷ ts) o = elim (Contains-append_cases (f t) (flatten (map f ts)) m o) [
    | inl here ↦ record { number = 0; child = t; is = refl; has = here }
    | inr rest ↦ let r = in_child f ts rest in record { number = suc r.number; child = r.child; is = r.is; has = r.has }
  ]

  from_child : (f : Tree → List Mark) (ts : List Tree) (k : ℕ) (t : Tree) → slice_get ts k ≡ Some t → Contains (f t) m → Contains (flatten (map f ts)) m
  from_child f ts k t e h = in_pieces (λ xs. xs) (map f ts) (f t) m (stands f ts k t e) h
    where
      stands : (f : Tree → List Mark) (ts : List Tree) (k : ℕ) (t : Tree) → slice_get ts k ≡ Some t → Contains (map f ts) (f t)
      stands f [] k t e = absurd (cc)
      stands f (u ∷ us) zero t e = let same : u ≡ t = cc in first (f t) (f u) (map f us) (ap f same)
      stands f (u ∷ us) (suc k) t e = later (f t) (f u) (map f us) (stands f us k t e)

  -- what stands at a slot is of a child
  at_slot : (f : Tree → List Mark) (ts : List Tree) (k : ℕ) → Contains (slice_index_or (map f ts) k []) m → InChild f ts
  at_slot f [] k o = absurd (nothing m o)
  at_slot f (t ∷ ts) zero o = record { number = 0; child = t; is = refl; has = o }
  at_slot f (t ∷ ts) (suc k) o = let r = at_slot f ts k o in record { number = suc r.number; child = r.child; is = r.is; has = r.has }

  slot_is : (f : Tree → List Mark) (ts : List Tree) (k : ℕ) (t : Tree) → slice_get ts k ≡ Some t → slice_index_or (map f ts) k [] ≡ f t
  slot_is f [] k t e = absurd (cc)
  slot_is f (u ∷ us) zero t e = let same : u ≡ t = cc in ap f same
  slot_is f (u ∷ us) (suc k) t e = slot_is f us k t e

  module _ (rows : List Production) where
    -- ---- a leaf of the text is one of the tree

    abbrev Back : Tree → Type 0
    Back t = Contains (marks rows t) m → Contains (leaves t) m

    by_item : (ts : List Tree) (i : Item) → Contains (item_marks (map (marks rows) ts) i) m → InChild (marks rows) ts
    by_item ts (item.Const s) o = absurd (nothing m o)
    by_item ts (item.Slot k) o = at_slot (marks rows) ts k o

    by_row : (ts : List Tree) (o : Option Production) → Contains (row_marks (map (marks rows) ts) o) m → InChild (marks rows) ts
    by_row ts None o = absurd (nothing m o)
    by_row ts (Some r) o = let p = piece_of (item_marks (map (marks rows) ts)) r.items m o in by_item ts p.0 p.2

    pub of_tree : (t : Tree) → Back t
    of_tree = tree_ind Back
        (λ s c o. rw leaves-Var (rw marks-Var at o))
        (λ c n o. rw leaves-Work (rw marks-Work at o))
        (λ c n o. rw leaves-Fresh (rw marks-Fresh at o))
        (λ l c ts h o.
        let r = by_row ts (row_of rows l) (rw marks-Node at o) in
        rw leaves-Node (from_child leaves ts r.number r.child r.is (each_at Back ts r.number r.child h r.is r.has)))

    -- ---- a leaf of a typed tree is one of its text

    module _ (grammar : IsGrammar rows) (before : ℕ) where
      abbrev Stands : Tree → Type 0
      Stands t = IsTyped rows before t → Contains (leaves t) m → Contains (marks rows t) m

      at_node : (l : Label) (c : Typecode) (ts : List Tree) → Each Stands ts → IsTyped rows before (Node l c ts) → Contains (flatten (map leaves ts)) m
          → Contains (row_marks (map (marks rows) ts) (row_of rows l)) m
      at_node l c ts h typed o =
          let layer = typed_here rows before l c ts typed in
          let held = typed_held rows before l c ts typed in
          let r = in_child leaves ts o in
          let has = each_at Stands ts r.number r.child h r.is (each_at (IsTyped rows before) ts r.number r.child held r.is) r.has in
          let place = row_stands rows l layer.0 layer.1 in
          let row = is_row rows grammar.rows_hold place.place layer.0 place.stands in
          let count : length ts ≡ length layer.0.slots = sym (length-map ts code_of) ∙ ap length layer.4 in
          let within = slice_get_within ts r.number r.child r.is in
          let slot = slot_stands r.number layer.0.items (row.each_once.found r.number (omega (arith, within, count))) in
          rw layer.1 (in_pieces (item_marks (map (marks rows) ts)) layer.0.items (item.Slot r.number) m slot
          (subst (λ xs. Contains xs m) (sym (slot_is (marks rows) ts r.number r.child r.is)) has))

      pub of_text : (t : Tree) → Stands t
      of_text = tree_ind Stands
          (λ s c h o. rw marks-Var (rw leaves-Var at o))
          (λ c n h o. rw marks-Work (rw leaves-Work at o))
          (λ c n h o. rw marks-Fresh (rw leaves-Fresh at o))
          (λ l c ts i h o. rw marks-Node (at_node l c ts i h (rw leaves-Node at o)))

-- ---- what occurs is a leaf

open_is : (m : Mark) (x : Open) → open_part m ≡ Some x → m ≡ open_leaf x
open_is (variable s c) x e = absurd (cc)
open_is (open_leaf y) x e = cc

pub occurs_mark : (t : Tree) (x : Open) → Occurs x t → Contains (leaves t) (open_leaf x)
occurs_mark t x h =
    let k = kept_from open_part (leaves t) x (subst (λ xs. Contains xs x) (sym (open_parts t)) h) in
    subst (Contains (leaves t)) (open_is k.0 x k.2) k.1

pub mark_occurs : (t : Tree) (x : Open) → Contains (leaves t) (open_leaf x) → Occurs x t
mark_occurs t x h = subst (λ xs. Contains xs x) (open_parts t) (in_kept open_part (leaves t) (open_leaf x) x h refl)

variable_is : (m : Mark) (s : Sym) → variable_part m ≡ Some s → (c : Typecode) × (m ≡ variable s c)
variable_is (variable v c) s e = let same : v ≡ s = cc in (c, ap (λ w. variable w c) same)
variable_is (open_leaf y) s e = absurd (cc)

pub variable_mark : (t : Tree) (s : Sym) → Contains (variables t) s → (c : Typecode) × Contains (leaves t) (variable s c)
variable_mark t s h =
    let k = kept_from variable_part (leaves t) s (subst (λ xs. Contains xs s) (sym (variable_parts t)) h) in
    let is = variable_is k.0 s k.2 in
    (is.0, subst (Contains (leaves t)) is.1 k.1)

pub mark_variable : (t : Tree) (s : Sym) (c : Typecode) → Contains (leaves t) (variable s c) → Contains (variables t) s
mark_variable t s c h = subst (λ xs. Contains xs s) (variable_parts t) (in_kept variable_part (leaves t) (variable s c) s h refl)
