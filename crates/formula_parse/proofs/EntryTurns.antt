-- The turns of the search over the entries of a place.
use Rattle.std.specs.Prelude.{◌≡◌, ◌≢◌, ◌⊎◌, ◌<◌, ◌≤◌, ◌+◌, ℕ, List, length, Some, slice_get, refl}
use Rattle.std.proofs.Common.{arith, sym, ap, ◌∙◌, subst, inl, inr, ⊎_elim}
use Rattle.std.proofs.lemmas.Bool.{cases_lt}
use Rattle.std.proofs.lemmas.Option.{slice_get_within}
use Rattle.mm_base.specs.declared.symbols.Typecode.{Typecode}
use Rattle.mm_base.specs.declared.tree.Tree.{Tree}
use Rattle.mm_model.specs.declared.rows.Leaf.{Leaf}
use Rattle.mm_model.specs.declared.rows.Production.{Production}
use Rattle.mm_model.specs.Typed.{Parses}
use Rattle.mm_base.proofs.TreeFacts.{same_node}
use Rattle.mm_model.specs.Rows.{AreRows}
use Rattle.formula_parse.specs.declared.found.Found.{Found}
use Rattle.formula_parse.specs.declared.found.Found.TheVariants.{Two}
use Rattle.formula_parse.specs.declared.reach.Entry.{Entry}
use Rattle.formula_parse.specs.Finds.{Finds, joined}
use Rattle.formula_parse.specs.Fits.{IsLeaf, IsOf, IsOfRow}
use Rattle.formula_parse.specs.Charts.{span, IsComplete, IsChart, entry_of}
use Rattle.formula_parse.proofs.Lengths.{parses_pos}
use Rattle.formula_parse.proofs.Searches.{finds_same, two_found, joined_finds}
use Rattle.formula_parse.proofs.Spans.{span_length}
use Rattle.formula_parse.proofs.Trees.{parses_from_row, parses_from_leaf, parses_cases}
use Rattle.formula_parse.proofs.Comparisons.{leaf_is_no_node}

-- the tree is of the row of one of the first n entries
pub record IsEntered (rows : List Production) (before : ℕ) (leaves : List Leaf) (b e : ℕ) (want : Typecode) (entries : List Entry) (n : ℕ) (t : Tree) : Type 0 where
  pub place : ℕ
  pub within : place < n
  pub entry : Entry
  pub stands : slice_get entries place ≡ Some entry
  pub ends : entry.end ≡ e
  pub has_code : entry.code ≡ want
  pub row : Production
  pub row_stands : slice_get rows entry.row ≡ Some row
  pub is_of : IsOf rows before row (span leaves b e) want t

abbrev pub IsSoFar : List Production → ℕ → List Leaf → ℕ → ℕ → Typecode → List Entry → ℕ → Tree → Type 0
IsSoFar rows before leaves b e want entries n t = IsLeaf (span leaves b e) want t ⊎ IsEntered rows before leaves b e want entries n t

-- the entries that the chart has at a place are complete
pub chart_entries : (rows : List Production) (before : ℕ) (leaves : List Leaf) (chart : List (List Entry)) (b : ℕ) (entries : List Entry)
    → IsChart rows before leaves 0 chart → slice_get chart b ≡ Some entries
    → IsComplete rows before leaves b entries
chart_entries rows before leaves chart b entries full at =
    let l = slice_get_within chart b entries at in
    let x = full.each b (omega arith) (omega (arith, full.count)) in
    let same : x.0 ≡ entries = (let a = x.1 in cc) in
    subst (IsComplete rows before leaves b) same x.2

module _ (rows : List Production) (before : ℕ) (ok : AreRows rows) (leaves : List Leaf) (b e : ℕ) (l : b ≤ e) (m : e ≤ length leaves) (want : Typecode) where
  -- behind the last leaf there is no tree
  pub nothing_there : length leaves ≤ b → (a : Found Tree) → Finds (IsLeaf (span leaves b e) want) a → Finds (Parses rows before (span leaves b e) want) a
  nothing_there last a h = finds_same (IsLeaf (span leaves b e) want) (Parses rows before (span leaves b e) want) (λ t x. parses_from_leaf rows before ok (span leaves b e) want t x)
      (λ t x. absurd (omega (arith, parses_pos rows before ok (span leaves b e) want t x, span_length leaves b e l m))) a h

  module _ (entries : List Entry) (full : IsComplete rows before leaves b entries) where
    abbrev Entered : ℕ → Tree → Type 0
    Entered = IsEntered rows before leaves b e want entries

    abbrev SoFar : ℕ → Tree → Type 0
    SoFar = IsSoFar rows before leaves b e want entries

    abbrev Row : Production → Tree → Type 0
    Row r = IsOf rows before r (span leaves b e) want

    pub entry_begin : (a : Found Tree) → Finds (IsLeaf (span leaves b e) want) a → Finds (SoFar 0) a
    entry_begin a h = finds_same (IsLeaf (span leaves b e) want) (SoFar 0) (λ t x. inl x)
        (λ t x. ⊎_elim (λ (y : IsLeaf (span leaves b e) want t). y) (λ (y : Entered 0 t). absurd (omega (arith, y.within))) x) a h

    longer : (n : ℕ) (t : Tree) → SoFar n t → SoFar (n + 1) t
    longer n t h = ⊎_elim (λ (x : IsLeaf (span leaves b e) want t). inl x)
        (λ (x : Entered n t). inr
        (record {
          place = x.place;
          within = omega (arith, x.within);
          entry = x.entry;
          stands = x.stands;
          ends = x.ends;
          has_code = x.has_code;
          row = x.row;
          row_stands = x.row_stands;
          is_of = x.is_of;
        })) h

    -- a tree of the next entry's row, if it is not of one before
    last_case : (n : ℕ) (x : Entry) → slice_get entries n ≡ Some x → (t : Tree) → Entered (n + 1) t
        → SoFar n t ⊎ ((x.end ≡ e) × (x.code ≡ want) × ((r : Production) × (slice_get rows x.row ≡ Some r) × Row r t))
    last_case n x at t h = ⊎_elim
        (λ (i : h.place < n). inl
        (inr
        (record {
          place = h.place;
          within = i;
          entry = h.entry;
          stands = h.stands;
          ends = h.ends;
          has_code = h.has_code;
          row = h.row;
          row_stands = h.row_stands;
          is_of = h.is_of;
        })))
        (λ (i : n ≤ h.place).
        let is : h.place ≡ n = omega (arith, h.within) in
        let found : slice_get entries n ≡ Some h.entry = subst (λ k. slice_get entries k ≡ Some h.entry) is h.stands in
        let same : h.entry ≡ x = cc in
        inr (ap (λ (y : Entry). y.end) (sym same) ∙ h.ends, ap (λ (y : Entry). y.code) (sym same) ∙ h.has_code, (h.row, ap (λ (y : Entry). slice_get rows y.row) (sym same) ∙ h.row_stands, h.is_of)))
        (cases_lt h.place n)

    -- one more entry, of which there is no tree
    pub entry_skip : (n : ℕ) (x : Entry) → slice_get entries n ≡ Some x → ((r : Production) (t : Tree) → x.end ≡ e → x.code ≡ want → slice_get rows x.row ≡ Some r → Row r t → ⊥)
        → (a : Found Tree) → Finds (SoFar n) a → Finds (SoFar (n + 1)) a
    entry_skip n x at none a h = finds_same (SoFar n) (SoFar (n + 1)) (longer n)
        (λ t y. ⊎_elim (λ (z : IsLeaf (span leaves b e) want t). inl z)
        (λ (z : Entered (n + 1) t). ⊎_elim (λ (u : SoFar n t). u) (λ u. absurd (none u.2.0 t u.0 u.1 u.2.1 u.2.2)) (last_case n x at t z)) y) a h

    apart : (n : ℕ) (x : Entry) (r : Production) → slice_get entries n ≡ Some x → x.end ≡ e → x.code ≡ want → slice_get rows x.row ≡ Some r → (t u : Tree) → SoFar n t → Row r u → t ≢ u
    apart n x r at end code stands t u h k is = ⊎_elim
        (λ (y : IsLeaf (span leaves b e) want t). leaf_is_no_node (span leaves b e) want t r k.children y (is ∙ k.tree_is))
        (λ (y : Entered n t).
        let nodes = same_node y.row.label r.label y.row.gives r.gives y.is_of.children k.children (sym y.is_of.tree_is ∙ is ∙ k.tree_is) in
        let row = ok.labels y.entry.row x.row y.row r y.row_stands stands nodes.label in
        let ends : y.entry.end ≡ x.end = y.ends ∙ sym end in
        let codes : y.entry.code ≡ x.code = y.has_code ∙ sym code in
        let same : y.entry ≡ x = ap (λ i. entry_of i y.entry.code y.entry.row) ends ∙ ap (λ c. entry_of x.end c y.entry.row) codes ∙ ap (λ i. entry_of x.end x.code i) row in
        let place = full.once y.place n x (y.stands ∙ ap (λ z. Some z) same) at in
        omega (arith, y.within, place)) h

    -- one more entry, of whose row trees were found
    pub entry_found : (n : ℕ) (x : Entry) (r : Production) → slice_get entries n ≡ Some x → x.end ≡ e → x.code ≡ want → slice_get rows x.row ≡ Some r
        → (a c result : Found Tree) → Finds (SoFar n) a → Finds (Row r) c → result ≡ joined a c → Finds (SoFar (n + 1)) result
    entry_found n x r at end code stands a c result h k is =
        let both = joined_finds (SoFar n) (Row r) (apart n x r at end code stands) a c h k in
        let next = λ (t : Tree) (y : SoFar n t ⊎ Row r t). ⊎_elim (λ (z : SoFar n t). longer n t z)
        (λ (z : Row r t). inr (record { place = n; within = omega arith; entry = x; stands = at; ends = end; has_code = code; row = r; row_stands = stands; is_of = z })) y in
        let back = λ (t : Tree) (y : SoFar (n + 1) t). ⊎_elim (λ (z : IsLeaf (span leaves b e) want t). inl (inl z))
        (λ (z : Entered (n + 1) t). ⊎_elim (λ (u : SoFar n t). inl u)
        (λ u. inr (let one : u.2.0 ≡ r = (let p = u.2.1 in let q = stands in cc) in subst (λ s. Row s t) one u.2.2)) (last_case n x at t z)) y in
        subst (Finds (SoFar (n + 1))) (sym is) (finds_same (λ t. SoFar n t ⊎ Row r t) (SoFar (n + 1)) next back (joined a c) both)

    so_far_parses : (n : ℕ) (t : Tree) → SoFar n t → Parses rows before (span leaves b e) want t
    so_far_parses n t h = ⊎_elim (λ (x : IsLeaf (span leaves b e) want t). parses_from_leaf rows before ok (span leaves b e) want t x)
        (λ (x : Entered n t). parses_from_row rows before ok (span leaves b e) want t x.entry.row x.row x.row_stands x.is_of) h

    pub entry_stop : (n : ℕ) (f : Found Tree) (x y : Tree) → f ≡ Two x y → Finds (SoFar n) f → Finds (Parses rows before (span leaves b e) want) f
    entry_stop n f x y is h = subst (Finds (Parses rows before (span leaves b e) want)) (sym is)
        (two_found (SoFar n) (Parses rows before (span leaves b e) want) (so_far_parses n) x y (subst (Finds (SoFar n)) is h))

    -- after the last entry
    pub entry_end : (n : ℕ) → length entries ≤ n → (a : Found Tree) → Finds (SoFar n) a → Finds (Parses rows before (span leaves b e) want) a
    entry_end n last a h = finds_same (SoFar n) (Parses rows before (span leaves b e) want) (so_far_parses n)
        (λ t y. ⊎_elim (λ (z : IsLeaf (span leaves b e) want t). inl z)
        (λ (z : IsOfRow rows before (length rows) (span leaves b e) want t).
        let x = full.rows_in e want z.place z.row t l m z.stands z.is_of in
        inr (record {
          place = x.0;
          within = omega (arith, slice_get_within entries x.0 (entry_of e z.row.gives z.place) x.1);
          entry = entry_of e z.row.gives z.place;
          stands = x.1;
          ends = refl;
          has_code = z.is_of.gives;
          row = z.row;
          row_stands = z.stands;
          is_of = z.is_of;
        }))
        (parses_cases rows before ok t (span leaves b e) want y)) a h
