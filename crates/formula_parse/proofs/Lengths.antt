-- Each tree has a text that is not empty, so each item takes a leaf.
use Rattle.std.specs.Prelude.{◌≡◌, ◌≢◌, ◌<◌, ◌≤◌, ℕ, List, [], ◌∷◌, length, take, drop, map, Option, refl}
use Rattle.std.proofs.Common.{arith, sym, ap, ◌∙◌, get_or, subst}
use Rattle.std.proofs.lemmas.List.{length-append, length-drop, length-take, length-map}
use Rattle.mm_base.specs.declared.symbols.Label.{Label}
use Rattle.mm_base.specs.declared.symbols.Typecode.{Typecode}
use Rattle.mm_base.specs.declared.tree.Tree.{Tree}
use Rattle.mm_base.specs.declared.tree.Tree.TheVariants.{Node}
use Rattle.mm_model.specs.declared.rows.Item.{Item}
use Rattle.mm_model.specs.declared.rows.Item.TheVariants.{Const, Slot}
use Rattle.mm_model.specs.declared.rows.Leaf.{Leaf}
use Rattle.mm_model.specs.declared.rows.Production.{Production}
use Rattle.mm_model.specs.Texts.{row_text, items_text, text}
use Rattle.mm_model.proofs.TextLaws.{text-Var, text-Work, text-Node}
use Rattle.mm_base.specs.Trees.{code_of}
use Rattle.mm_model.specs.Typed.{IsTyped, HasNoFresh, Parses}
use Rattle.mm_model.proofs.TypedLaws.{typed_here, typed_held, named_held, fresh_is_not_named}
use Rattle.mm_base.specs.Trees.{Each}
use Rattle.mm_base.proofs.TreeInduction.{tree_ind}
use Rattle.mm_model.specs.Rows.{slot_order, AreRows}
use Rattle.mm_model.proofs.RowLaws.{row_stands, is_row}
use Rattle.formula_parse.specs.Fits.{Splits, Fits}
use Rattle.formula_parse.proofs.Places.{each_get, each_from, get_or_mapped, some_at}
use Rattle.formula_parse.proofs.NodeFits.{Within}
use Rattle.formula_parse.proofs.Trees.{within_each}

module _ (rows : List Production) (before : ℕ) (ok : AreRows rows) where
  abbrev HasText : Tree → Type 0
  HasText t = 0 < length (text rows t)

  items_pos : (slots : List Typecode) (ts : List Tree) (items : List Item) → items ≢ [] → Within rows before slots ts (slot_order items)
      → Each HasText ts → 0 < length (items_text (map (text rows) ts) items)
  items_pos slots ts [] some w h = absurd (some refl)
  items_pos slots ts (Const s ∷ items) some w h = omega arith
  items_pos slots ts (Slot k ∷ items) some w h =
      let at = some_at ts k w.0 in
      let own = ap length (get_or_mapped (text rows) ts k at.0 [] at.1) in
      let pos = each_get HasText ts h k at.0 at.1 in
      omega (arith, length-append (get_or (map (text rows) ts) k []) (items_text (map (text rows) ts) items), own, pos)

  abbrev TypedHasText : Tree → Type 0
  TypedHasText t = IsTyped rows before t → HasNoFresh t → HasText t

  node_pos : (l : Label) (c : Typecode) (ts : List Tree) → Each TypedHasText ts → TypedHasText (Node l c ts)
  node_pos l c ts each p q =
      let here = typed_here rows before l c ts p in
      let r = here.0 in
      let at = row_stands rows l r here.1 in
      let row = is_row rows ok at.place r at.stands in
      let count : length ts ≡ length r.slots = sym (length-map ts code_of) ∙ ap length here.4 in
      let within = within_each rows before r.slots ts (slot_order r.items) (λ j i. omega (arith, row.each_once.within j i, count)) in
      let held = each_from HasText ts (λ k t e. each_get TypedHasText ts each k t e
      (each_get (IsTyped rows before) ts (typed_held rows before l c ts p) k t e) (each_get HasNoFresh ts (named_held l c ts q) k t e)) in
      subst (λ e. 0 < length e) (sym (text-Node rows l c ts ∙ ap (row_text (map (text rows) ts)) here.1))
      (items_pos r.slots ts r.items row.written within held)

  pub text_pos : (t : Tree) → TypedHasText t
  text_pos = tree_ind TypedHasText
      (λ s c p q. subst (λ e. 0 < length e) (sym (text-Var rows s c)) (omega arith))
      (λ c n p q. subst (λ e. 0 < length e) (sym (text-Work rows c n)) (omega arith))
      (λ c n p q. absurd (fresh_is_not_named c n q))
      node_pos

  pub parses_pos : (e : List Leaf) (want : Typecode) (t : Tree) → Parses rows before e want t → 0 < length e
  parses_pos e want t h = subst (λ x. 0 < length x) h.written (text_pos t h.typed h.named)

  -- the text of the first tree says where the text is split
  pub splits_at : (rest : List Leaf → List Tree → Type 0) (code : Option Typecode) (e : List Leaf) (us : List Tree) (n : ℕ) (h : Splits rows before rest code e us n) → length (text rows h.first) ≡ n
  splits_at rest code e us n h = ap length h.front.written ∙ length-take n e ∙ (omega (arith, h.within))

  pub fits_length : (slots : List Typecode) (items : List Item) (e : List Leaf) (us : List Tree) → Fits rows before slots items e us → length items ≤ length e
  fits_length slots [] e us h = omega arith
  fits_length slots (Const s ∷ items) e us h = omega (arith, fits_length slots items h.0 us h.2, ap length h.1)
  fits_length slots (Slot k ∷ items) e us h =
      let rest = fits_length slots items (drop h.0 e) h.1.more h.1.after in
      let pos = parses_pos (take h.0 e) h.1.want h.1.first h.1.front in
      omega (arith, rest, pos, length-drop h.0 e, length-take h.0 e, h.1.within)

  -- each tree of a sequence stands for a slot
  pub fits_count : (slots : List Typecode) (items : List Item) (e : List Leaf) (us : List Tree) → Fits rows before slots items e us → length us ≡ length (slot_order items)
  fits_count slots [] e us h = ap length h.1
  fits_count slots (Const s ∷ items) e us h = fits_count slots items h.0 us h.2
  fits_count slots (Slot k ∷ items) e us h = omega (arith, ap length h.1.us_is, fits_count slots items (drop h.0 e) h.1.more h.1.after)
