-- Entries that are closed under the rows are complete.
use Rattle.std.specs.Prelude.{◌≡◌, ◌≢◌, ◌<◌, ◌≤◌, ◌+◌, ℕ, List, [], ◌∷◌, length, Option, None, Some, slice_get, refl}
use Rattle.std.specs.List.{cons_option}
use Rattle.std.proofs.Common.{arith, sym, ap, ◌∙◌, subst, ⊎_elim}
use Rattle.mm_base.specs.declared.symbols.Label.{Label}
use Rattle.mm_base.specs.declared.symbols.Typecode.{Typecode}
use Rattle.mm_base.specs.declared.tree.Tree.{Tree}
use Rattle.mm_base.specs.declared.tree.Tree.TheVariants.{Var, Work, Node}
use Rattle.mm_model.specs.declared.rows.Item.{Item}
use Rattle.mm_model.specs.declared.rows.Item.TheVariants.{Const, Slot}
use Rattle.mm_model.specs.declared.rows.Leaf.{Leaf}
use Rattle.mm_model.specs.declared.rows.Leaf.TheVariants as leaf
use Rattle.mm_model.specs.declared.rows.Production.{Production}
use Rattle.mm_base.proofs.TreeFacts.{same_node, var_is_no_node, work_is_no_node}
use Rattle.mm_base.specs.Trees.{Each}
use Rattle.mm_base.proofs.TreeInduction.{tree_ind}
use Rattle.mm_model.specs.Rows.{AreRows, slot_order}
use Rattle.mm_model.proofs.RowLaws.{is_row}
use Rattle.mm_model.specs.Substitution.{HasCode}
use Rattle.mm_model.specs.Typed.{Parses}
use Rattle.mm_model.proofs.TypedLaws.{fresh_is_not_named}
use Rattle.formula_parse.specs.declared.reach.Entry.{Entry}
use Rattle.formula_parse.specs.Fits.{pick, Fits, IsLeaf, IsOf, IsOfRow}
use Rattle.formula_parse.specs.Charts.{span, IsIn, HasEntry, Reaches, IsChart, IsFilled, IsComplete, entry_of}
use Rattle.formula_parse.proofs.Lengths.{parses_pos}
use Rattle.formula_parse.proofs.Places.{each_get, each_from}
use Rattle.formula_parse.proofs.Reaching.{fits_reaches}
use Rattle.formula_parse.proofs.Trees.{parses_cases}
use Rattle.formula_parse.proofs.Spans.{span_length, span_take, span_drop, span_front, span_first, span_rest}

-- the first tree that is picked is one of the trees
picked_by : (ts : List Tree) (o : Option Tree) (k : ℕ) (us vs : List Tree) (t : Tree) → slice_get ts k ≡ o → (us ≡ t ∷ vs → IsIn ts t) → cons_option o us ≡ t ∷ vs → IsIn ts t
picked_by ts None k us vs t is next e = next e
picked_by ts (Some u) k us vs t is next e =
    let same : u ≡ t = (let a = e in cc) in
    (k, is ∙ ap (λ x. Some x) same)

picked_in : (ts : List Tree) (order : List ℕ) (t : Tree) (us : List Tree) → pick ts order ≡ t ∷ us → IsIn ts t
picked_in ts [] t us e = absurd (omega (arith, ap length e))
picked_in ts (k ∷ order) t us e = picked_by ts (slice_get ts k) k (pick ts order) us t refl (picked_in ts order t us) e

slot_code : (slots : List Typecode) (k : ℕ) (want code : Typecode) → slice_get slots k ≡ Some want → code ≡ want → slice_get slots k ≡ Some code
slot_code slots k want code at is = at ∙ ap (λ c. Some c) (sym is)

reaches_at : (leaves : List Leaf) (chart : List (List Entry)) (slots : List Typecode) (items : List Item) (p q e : ℕ) → p ≡ q
    → Reaches leaves chart slots items q e → Reaches leaves chart slots items p e
reaches_at leaves chart slots items p q e is h = subst (λ k. Reaches leaves chart slots items k e) (sym is) h

leaf_code : (b : ℕ) (leaves e : List Leaf) (code : Typecode) (t : Tree) → IsLeaf e code t
    → ((x : Leaf) (xs : List Leaf) → e ≡ x ∷ xs → slice_get leaves b ≡ Some x)
    → length e ≡ 1 × ((x : Leaf) × (slice_get leaves b ≡ Some x) × HasCode x code)
leaf_code b leaves [] code t h at = absurd h
leaf_code b leaves (leaf.Const s ∷ e) code t h at = absurd h
leaf_code b leaves (leaf.Var s c ∷ []) code t h at = (refl, (leaf.Var s c, at (leaf.Var s c) [] refl, sym h.0))
leaf_code b leaves (leaf.Work c n ∷ []) code t h at = (refl, (leaf.Work c n, at (leaf.Work c n) [] refl, sym h.0))
leaf_code b leaves (leaf.Var s c ∷ x ∷ e) code t h at = absurd h
leaf_code b leaves (leaf.Work c n ∷ x ∷ e) code t h at = absurd h

module _ (rows : List Production) (before : ℕ) (ok : AreRows rows) (leaves : List Leaf) (chart : List (List Entry)) (b : ℕ) (full : IsChart rows before leaves (b + 1) chart)
    (entries : List Entry) (filled : IsFilled leaves chart rows before b entries) where
  abbrev HasTree : Tree → Type 0
  HasTree t = (e : ℕ) (code : Typecode) → b ≤ e → e ≤ length leaves → Parses rows before (span leaves b e) code t → HasEntry entries e code

  -- the items of a row fit a part
  fit_entry : (e : ℕ) (i : ℕ) (r : Production) (ts : List Tree) (us : List Tree) (items : List Item) → b ≤ e → e ≤ length leaves
      → slice_get rows i ≡ Some r → r.at < before → r.items ≢ [] → r.items ≡ items
      → ((t : Tree) (vs : List Tree) → us ≡ t ∷ vs → HasTree t) → Fits rows before r.slots items (span leaves b e) us → IsIn entries (entry_of e r.gives i)
  fit_entry e i r ts us [] l m at below some is each h = absurd (some is)
  fit_entry e i r ts us (Const s ∷ items) l m at below some is each h =
      let x = leaf.Const s in
      let next = span_front leaves b e x h.0 l m h.1 in
      let rest = subst (λ xs. Fits rows before r.slots items xs us) (span_rest leaves b e x h.0 next h.1) h.2 in
      filled.begun.by_const s (span_first leaves b e x h.0 h.1) i r items at below is r (Const s) items e at is
      (fits_reaches rows before ok leaves chart (b + 1) full r.slots items (b + 1) e us (omega arith) next m rest)
  fit_entry e i r ts us (Slot k ∷ items) l m at below some is each h =
      let n = h.0 in
      let s = h.1 in
      let within : b + n ≤ e = omega (arith, s.within, span_length leaves b e l m) in
      let front = subst (λ xs. Parses rows before xs s.want s.first) (span_take leaves b e n within) s.front in
      let rest = subst (λ xs. Fits rows before r.slots items xs s.more) (span_drop leaves b e n within) s.after in
      let pos = parses_pos rows before ok (span leaves b (b + n)) s.want s.first front in
      let next : b + 1 ≤ b + n = omega (arith, pos, span_length leaves b (b + n) (omega arith) (omega arith)) in
      let first = each s.first s.more s.us_is (b + n) s.want (omega arith) (omega arith) front in
      let x = first.entry in
      filled.by_slot first.is_in.0 x first.is_in.1 i r k items at below is (slot_code r.slots k s.want first.entry.code s.code_is first.has_code) r
      (Slot k) items e at is (reaches_at leaves chart r.slots items first.entry.end (b + n) e first.ends
      (fits_reaches rows before ok leaves chart (b + 1) full r.slots items (b + n) e s.more next within m rest))

  row_entry : (e : ℕ) (want : Typecode) (i : ℕ) (r : Production) (t : Tree) → b ≤ e → e ≤ length leaves → slice_get rows i ≡ Some r
      → (h : IsOf rows before r (span leaves b e) want t) → Each HasTree h.children → IsIn entries (entry_of e r.gives i)
  row_entry e want i r t l m at h each =
      let row = is_row rows ok i r at in
      fit_entry e i r h.children (pick h.children (slot_order r.items)) r.items l m at h.below row.written refl
      (λ u vs is. let place = picked_in h.children (slot_order r.items) u vs is in each_get HasTree h.children each place.0 u place.1) h.fits

  leaf_entry : (e : ℕ) (code : Typecode) (t : Tree) → b ≤ e → e ≤ length leaves → IsLeaf (span leaves b e) code t → HasEntry entries e code
  leaf_entry e code t l m h =
      let x = leaf_code b leaves (span leaves b e) code t h (λ y ys is. span_first leaves b e y ys is) in
      let end : b + 1 ≡ e = omega (arith, x.0, span_length leaves b e l m) in
      subst (λ k. HasEntry entries k code) end (filled.begun.leaf_in x.1.0 code x.1.1 x.1.2)

  of_entry : (e : ℕ) (code : Typecode) (l : Label) (c : Typecode) (ts : List Tree) → Each HasTree ts → b ≤ e → e ≤ length leaves
      → (h : IsOfRow rows before (length rows) (span leaves b e) code (Node l c ts)) → HasEntry entries e code
  of_entry e code l c ts each o m h =
      let same = same_node l h.row.label c h.row.gives ts h.is_of.children h.is_of.tree_is in
      let place = row_entry e code h.place h.row (Node l c ts) o m h.stands h.is_of (subst (Each HasTree) same.children each) in
      record { entry = entry_of e h.row.gives h.place; is_in = place; ends = refl; has_code = h.is_of.gives }

  -- each tree that begins at the place has its entry
  pub has_tree : (t : Tree) → HasTree t
  has_tree = tree_ind HasTree
      (λ v c e code l m h. ⊎_elim (λ x. leaf_entry e code (Var v c) l m x)
      (λ x. absurd (var_is_no_node v c x.row.label x.row.gives x.is_of.children x.is_of.tree_is))
      (parses_cases rows before ok (Var v c) (span leaves b e) code h))
      (λ c n e code l m h. ⊎_elim (λ x. leaf_entry e code (Work c n) l m x)
      (λ x. absurd (work_is_no_node c n x.row.label x.row.gives x.is_of.children x.is_of.tree_is))
      (parses_cases rows before ok (Work c n) (span leaves b e) code h))
      (λ c n e code l m h. absurd (fresh_is_not_named c n h.named))
      (λ l c ts each e code o m h. ⊎_elim (λ x. leaf_entry e code (Node l c ts) o m x) (λ x. of_entry e code l c ts each o m x) (parses_cases rows before ok (Node l c ts) (span leaves b e) code h))

  -- entries that are closed under the rows are complete
  pub filled_complete : IsComplete rows before leaves b entries
  filled_complete = record {
    parts_in = λ e code t l m h. has_tree t e code l m h;
    rows_in = λ e want i r t l m at h. row_entry e want i r t l m at h (each_from HasTree h.children (λ k u is. has_tree u));
    once = filled.begun.once;
  }
