-- A node's text, and how its production fits it.
use Rattle.std.specs.Prelude.{◌≡◌, ◌<◌, ℕ, List, [], ◌∷◌, ◌++◌, length, drop, map, Some, slice_get, refl}
use Rattle.std.specs.List.{cons_option}
use Rattle.std.proofs.Common.{arith, sym, ap, ◌∙◌, get_or, subst}
use Rattle.std.proofs.lemmas.List.{take_at, drop_at, length-append, take-append-drop}
use Rattle.mm_base.specs.declared.symbols.Typecode.{Typecode}
use Rattle.mm_base.specs.declared.tree.Tree.{Tree}
use Rattle.mm_model.specs.declared.rows.Item.{Item}
use Rattle.mm_model.specs.declared.rows.Item.TheVariants.{Const, Slot}
use Rattle.mm_model.specs.declared.rows.Leaf.{Leaf}
use Rattle.mm_model.specs.declared.rows.Leaf.TheVariants as leaf
use Rattle.mm_model.specs.declared.rows.Production.{Production}
use Rattle.mm_model.specs.Texts.{items_text, text}
use Rattle.mm_base.specs.Trees.{code_of}
use Rattle.mm_model.specs.Typed.{IsTyped, HasNoFresh}
use Rattle.mm_model.specs.Rows.{slot_order}
use Rattle.formula_parse.specs.Fits.{pick, Fits}
use Rattle.formula_parse.proofs.Places.{some_at, get_or_mapped}

-- the tree of a slot is one, of that typecode
pub record IsChild (rows : List Production) (before : ℕ) (slots : List Typecode) (ts : List Tree) (k : ℕ) : Type 0 where
  pub child : Tree
  pub child_is : slice_get ts k ≡ Some child
  pub code_is : slice_get slots k ≡ Some (code_of child)
  pub typed : IsTyped rows before child
  pub named : HasNoFresh child

module _ (rows : List Production) (before : ℕ) (slots : List Typecode) (ts : List Tree) where
  picked : (k : ℕ) (t : Tree) (order : List ℕ) → slice_get ts k ≡ Some t → pick ts (k ∷ order) ≡ t ∷ pick ts order
  picked k t order e = ap (λ o. cons_option o (pick ts order)) e

  abbrev pub AllChildren : List ℕ → Type 0
  AllChildren [] = Unit {0}
  AllChildren (k ∷ order) = IsChild rows before slots ts k × AllChildren order

  -- where each slot has its tree, the items fit the text that they write
  pub fits_own_text : (items : List Item) → AllChildren (slot_order items) → Fits rows before slots items (items_text (map (text rows) ts) items) (pick ts (slot_order items))
  fits_own_text [] h = (refl, refl)
  fits_own_text (Const s ∷ items) h = (items_text (map (text rows) ts) items, refl, fits_own_text items h)
  fits_own_text (Slot k ∷ items) h =
      let t = h.0.child in
      let rest = items_text (map (text rows) ts) items in
      let own : get_or (map (text rows) ts) k [] ≡ text rows t = get_or_mapped (text rows) ts k t [] h.0.child_is in
      let whole = ap (λ x. x ++ rest) own in
      subst (λ e. Fits rows before slots (Slot k ∷ items) e (pick ts (k ∷ slot_order items))) (sym whole) (
        length (text rows t),
        record {
          first = t;
          more = pick ts (slot_order items);
          us_is = picked k t (slot_order items) h.0.child_is;
          want = code_of t;
          code_is = h.0.code_is;
          within = omega (arith, length-append (text rows t) rest);
          front = record { code = refl; typed = h.0.typed; named = h.0.named; written = sym (take_at (text rows t) rest (length (text rows t)) refl) };
          after = subst (λ e. Fits rows before slots items e (pick ts (slot_order items))) (sym (drop_at (text rows t) rest (length (text rows t)) refl)) (fits_own_text items h.1);
        },
      )

  abbrev pub Within : List ℕ → Type 0
  Within [] = Unit {0}
  Within (k ∷ order) = (k < length ts) × Within order

  -- items that fit a text write it
  pub text_from_fits : (items : List Item) → Within (slot_order items) → (e : List Leaf) → Fits rows before slots items e (pick ts (slot_order items)) → items_text (map (text rows) ts) items ≡ e
  text_from_fits [] w e h = sym h.0
  text_from_fits (Const s ∷ items) w e h = ap (λ x. leaf.Const s ∷ x) (text_from_fits items w h.0 h.2) ∙ sym h.1
  text_from_fits (Slot k ∷ items) w e h =
      let at = some_at ts k w.0 in
      let same = sym (picked k at.0 (slot_order items) at.1) ∙ h.1.us_is in
      let first : at.0 ≡ h.1.first = cc in
      let more : pick ts (slot_order items) ≡ h.1.more = cc in
      let own = get_or_mapped (text rows) ts k at.0 [] at.1 ∙ ap (text rows) first ∙ h.1.front.written in
      let rest = text_from_fits items w.1 (drop h.0 e) (subst (λ us. Fits rows before slots items (drop h.0 e) us) (sym more) h.1.after) in
      let whole = take-append-drop h.0 e in
      cc

  -- items that fit a text have a tree for each slot
  pub children_from_fits : (items : List Item) → Within (slot_order items) → (e : List Leaf) → Fits rows before slots items e (pick ts (slot_order items)) → AllChildren (slot_order items)
  children_from_fits [] w e h = tt
  children_from_fits (Const s ∷ items) w e h = children_from_fits items w h.0 h.2
  children_from_fits (Slot k ∷ items) w e h =
      let at = some_at ts k w.0 in
      let same = sym (picked k at.0 (slot_order items) at.1) ∙ h.1.us_is in
      let first : h.1.first ≡ at.0 = cc in
      let more : h.1.more ≡ pick ts (slot_order items) = cc in (
        record {
          child = at.0;
          child_is = at.1;
          code_is = h.1.code_is ∙ ap (λ c. Some c) (sym h.1.front.code ∙ ap code_of first);
          typed = subst (IsTyped rows before) first h.1.front.typed;
          named = subst HasNoFresh first h.1.front.named;
        },
        children_from_fits items w.1 (drop h.0 e) (subst (λ us. Fits rows before slots items (drop h.0 e) us) more h.1.after),
      )
