-- The fresh leaves of a tree among the leaves of its text.
use Rattle.std.specs.Prelude.{◌≡◌, ◌++◌, ◌<◌, ◌^◌, ℕ, List, [], ◌∷◌, map, slice_index_or, Contains, Option, Some, None, refl}
use Rattle.std.specs.List.{flat_map, filter_map}
use Rattle.std.proofs.Common.{sym, ap, subst, ◌∙◌}
use Rattle.std.proofs.Math.ListN.{get_or-map}
use Rattle.std.proofs.lemmas.List.{map-append}
use Rattle.std.proofs.lemmas.List.Elements.{filter_map-append}
use Rattle.mm_base.specs.declared.symbols.Typecode.{Typecode}
use Rattle.mm_base.specs.declared.tree.Tree.{Tree}
use Rattle.mm_base.specs.Trees.{Each}
use Rattle.mm_base.proofs.TreeInduction.{tree_ind}
use Rattle.mm_model.specs.declared.rows.Item.{Item}
use Rattle.mm_model.specs.declared.rows.Item.TheVariants as item
use Rattle.mm_model.specs.declared.rows.Production.{Production}
use Rattle.mm_model.specs.Texts.{row_of}
use Rattle.solve_model.specs.Trees.{fresh, Occurs}
use Rattle.answer_laws.proofs.Elements.{in_mapped, kept_from, all_contained}
use Rattle.answer_laws.proofs.Marks.{Mark, open_leaf, marks, item_marks, row_marks, marks-Var, marks-Work, marks-Fresh, marks-Node}
use Rattle.answer_laws.proofs.Covered.{of_tree, mark_occurs}
use Rattle.writing_laws.proofs.NamesExist.{fresh_part, fresh_is}
use Rattle.leaf_names.specs.Leaves.{FreshLeaf, item_leaves, items_leaves, row_leaves, fresh_leaves}
use Rattle.leaf_names.specs.Tables.{as_variable}
use Rattle.leaf_names.specs.Cursors.{AreSmall}
use Rattle.leaf_names.proofs.LeafLaws.{leaves-Var, leaves-Work, leaves-Fresh, leaves-Node}

module _ (rows : List Production) where
  abbrev Alike : Tree → Type 0
  Alike t = map as_variable (fresh_leaves rows t) ≡ filter_map fresh_part (marks rows t)

  one_item : (xs : List (List FreshLeaf)) (ys : List (List Mark)) → map (map as_variable) xs ≡ map (filter_map fresh_part) ys → (i : Item)
      → map as_variable (item_leaves xs i) ≡ filter_map fresh_part (item_marks ys i)
  one_item xs ys h (item.Const s) = refl
  one_item xs ys h (item.Slot k) = sym (get_or-map (map as_variable) xs k []) ∙ ap (λ zs. slice_index_or zs k []) h ∙ get_or-map (filter_map fresh_part) ys k []

  all_items : (xs : List (List FreshLeaf)) (ys : List (List Mark)) → map (map as_variable) xs ≡ map (filter_map fresh_part) ys → (is : List Item)
      → map as_variable (items_leaves xs is) ≡ filter_map fresh_part (flat_map (item_marks ys) is)
  all_items xs ys h [] = refl
  all_items xs ys h (i ∷ is) =
      map-append as_variable (item_leaves xs i) (items_leaves xs is) ∙ ap (λ zs. zs ++ map as_variable (items_leaves xs is)) (one_item xs ys h i)
      ∙ ap (λ zs. filter_map fresh_part (item_marks ys i) ++ zs) (all_items xs ys h is)
      ∙ sym (filter_map-append fresh_part (item_marks ys i) (flat_map (item_marks ys) is))

  by_row : (xs : List (List FreshLeaf)) (ys : List (List Mark)) → map (map as_variable) xs ≡ map (filter_map fresh_part) ys → (o : Option Production)
      → map as_variable (row_leaves xs o) ≡ filter_map fresh_part (row_marks ys o)
  by_row xs ys h None = refl
  by_row xs ys h (Some r) = all_items xs ys h r.items

  children : (ts : List Tree) → Each Alike ts → map (map as_variable) (map (fresh_leaves rows) ts) ≡ map (filter_map fresh_part) (map (marks rows) ts)
  children [] h = refl
  children (t ∷ ts) h = ap (λ zs. zs ∷ map (map as_variable) (map (fresh_leaves rows) ts)) h.0 ∙ ap (λ zs. filter_map fresh_part (marks rows t) ∷ zs) (children ts h.1)

  -- the fresh leaves are those of the text
  pub alike : (t : Tree) → Alike t
  alike = tree_ind Alike
      (λ s c. ap (map as_variable) (leaves-Var rows s c) ∙ sym (ap (filter_map fresh_part) (marks-Var rows s c)))
      (λ c n. ap (map as_variable) (leaves-Work rows c n) ∙ sym (ap (filter_map fresh_part) (marks-Work rows c n)))
      (λ c n. ap (map as_variable) (leaves-Fresh rows c n) ∙ sym (ap (filter_map fresh_part) (marks-Fresh rows c n)))
      (λ l c ts h. ap (map as_variable) (leaves-Node rows l c ts) ∙ by_row (map (fresh_leaves rows) ts) (map (marks rows) ts) (children ts h) (row_of rows l)
      ∙ sym (ap (filter_map fresh_part) (marks-Node rows l c ts)))

  pub all_alike : (ts : List Tree) → map as_variable (flat_map (fresh_leaves rows) ts) ≡ filter_map fresh_part (flat_map (marks rows) ts)
  all_alike [] = refl
  all_alike (t ∷ ts) =
      map-append as_variable (fresh_leaves rows t) (flat_map (fresh_leaves rows) ts) ∙ ap (λ zs. zs ++ map as_variable (flat_map (fresh_leaves rows) ts)) (alike t)
      ∙ ap (λ zs. filter_map fresh_part (marks rows t) ++ zs) (all_alike ts) ∙ sym (filter_map-append fresh_part (marks rows t) (flat_map (marks rows) ts))

  -- ---- each of them occurs in the tree

  occurs : (t : Tree) (x : FreshLeaf) → Contains (fresh_leaves rows t) x → Occurs (fresh (as_variable x).code (as_variable x).number) t
  occurs t x o =
      let v = as_variable x in
      let k = kept_from fresh_part (marks rows t) v (subst (λ vs. Contains vs v) (alike t) (in_mapped as_variable (fresh_leaves rows t) x o)) in
      let there : Contains (marks rows t) (open_leaf (fresh v.code v.number)) = subst (Contains (marks rows t)) (fresh_is k.0 v k.2) k.1 in
      mark_occurs t (fresh v.code v.number) (of_tree (open_leaf (fresh v.code v.number)) rows t there)

  pub small_leaves : (t : Tree) → ((c : Typecode) (n : ℕ) → Occurs (fresh c n) t → n < 2 ^ 31) → AreSmall (fresh_leaves rows t)
  small_leaves t h = all_contained (λ (x : FreshLeaf). x.1 < 2 ^ 31) (fresh_leaves rows t) (λ x o. h (as_variable x).code x.1 (occurs t x o))
