-- Each child of a tree is lighter: its text is shorter, or as long with a typecode of lesser rank.
use Rattle.std.specs.Prelude.{◌≡◌, ◌<◌, ◌≤◌, ◌+◌, ◌-◌, ◌*◌, ◌==◌, ℕ, zero, suc, true, List, [], ◌∷◌, length, map, reverse, slice_get, slice_index_or, Contains, Some, refl}
use Rattle.std.proofs.Common.{sym, ap, subst, ◌∙◌, arith, inl, inr, get_or, length-append, eqb-true, eq-eqb}
use Rattle.std.proofs.lemmas.Bool.{cases_Bool, or_left, or_right}
use Rattle.std.proofs.lemmas.List.{length-reverse, get_or-reverse, length-map}
use Rattle.std.proofs.lemmas.Option.{slice_get_within, get_or_from_slice_get}
use Rattle.std.proofs.Math.Nat.{mul-le-mul_left}
use Rattle.mm_base.specs.declared.symbols.Label.{Label}
use Rattle.mm_base.specs.declared.symbols.Typecode.{Typecode}
use Rattle.mm_base.specs.declared.tree.Tree.{Tree}
use Rattle.mm_base.specs.declared.tree.Tree.TheVariants.{Node}
use Rattle.mm_base.specs.Trees.{code_of}
use Rattle.mm_model.specs.declared.rows.Item.{Item}
use Rattle.mm_model.specs.declared.rows.Item.TheVariants as item
use Rattle.mm_model.specs.declared.rows.Leaf.{Leaf}
use Rattle.mm_model.specs.declared.rows.Production.{Production}
use Rattle.mm_model.specs.Chains.{lone_slot, chain_from, HasNoCycle, rank, rank_bound}
use Rattle.mm_model.specs.Rows.{slot_order, place_of, IsGrammar}
use Rattle.mm_model.specs.Texts.{text, item_text, items_text, row_text}
use Rattle.mm_model.specs.Typed.{IsTyped, HasNoFresh}
use Rattle.mm_model.proofs.ChainLaws.{rank_rises, rank_within}
use Rattle.mm_model.proofs.RowLaws.{is_row, row_stands}
use Rattle.mm_model.proofs.TextLaws.{text-Node}
use Rattle.mm_model.proofs.TypedLaws.{code-Node, typed_here, typed_held, named_held}
use Rattle.answer_laws.proofs.Covered.{each_at}
use Rattle.answer_laws.proofs.Elements.{nothing, first, later, parted, in_pieces}
use Rattle.answer_laws.proofs.OneBinding.{has_text}
use Rattle.writing_laws.proofs.Numbers.{stands_in}
use Rattle.writing_laws.proofs.StoreCounts.{number_of}

-- ---- the weight of a text and a typecode

module _ (rows : List Production) where
  abbrev rank_of : Typecode → ℕ
  rank_of c = rank (reverse rows) c

  abbrev width : ℕ
  width = rank_bound (reverse rows) + 1

  pub weight : ℕ → Typecode → ℕ
  weight n c = width * n + rank_of c

  shorter_weighs : (m n : ℕ) (c d : Typecode) → m < n → weight m c < weight n d
  unfolding weight
  shorter_weighs m n c d l = let small = rank_within (reverse rows) c in omega (arith, small, mul-le-mul_left width (let k : m + 1 ≤ n = omega (arith, l) in k))

  lower_weighs : (m n : ℕ) (c d : Typecode) → m ≤ n → rank_of c < rank_of d → weight m c < weight n d
  unfolding weight
  lower_weighs m n c d l h = omega (arith, h, mul-le-mul_left width l)

  -- the rank rises along a chain that stands among the rows
  row_rank : HasNoCycle (reverse rows) → (k : ℕ) (r : Production) (c : Typecode) → slice_get rows k ≡ Some r → chain_from r ≡ Some c → rank_of c < rank_of r.gives
  row_rank h k r c at is =
      let l = slice_get_within rows k r at in
      let j = length rows - 1 - k in
      let in' : j < length rows = omega arith in
      let place : length rows - 1 - j ≡ k = omega arith in
      let here : get_or (reverse rows) j r ≡ r = get_or-reverse rows j r in' ∙ ap (λ i. get_or rows i r) place ∙ get_or_from_slice_get rows k r r at in
      let within : j < length (reverse rows) = omega (arith, length-reverse rows) in
      subst (λ x. rank_of c < rank_of x.gives) here (rank_rises (reverse rows) h j r c within (ap chain_from here ∙ is))

-- ---- the items of a row

slot_stands : (k : ℕ) (is : List Item) → place_of k (slot_order is) < length (slot_order is) → Contains is (item.Slot k)
slot_stands k [] l = absurd (omega (arith, l))
slot_stands k (item.Const s ∷ is) l = later (item.Slot k) (item.Const s) is (slot_stands k is l)
slot_stands k (item.Slot j ∷ is) l = elim (cases_Bool (k == j)) [
  | inl e ↦ first (item.Slot k) (item.Slot j) is (ap (λ n. item.Slot n) (sym (eqb-true k j e)))
  | inr e ↦
      let more : suc (place_of k (slot_order is)) < suc (length (slot_order is)) = rw e at l in
      later (item.Slot k) (item.Slot j) is (slot_stands k is (omega (arith, more)))
]

no_slot : (k : ℕ) (i : Item) → i ≡ item.Slot k → (j : ℕ) → i ≡ item.Slot j → j ≡ k
no_slot k i e j h = let same : item.Slot j ≡ item.Slot k = sym h ∙ e in cc

in_order : (k : ℕ) (is : List Item) → Contains is (item.Slot k) → stands_in (slot_order is) k ≡ true
in_order k [] o = absurd (nothing (item.Slot k) o)
in_order k (item.Const s ∷ is) o = elim (parted (item.Slot k) (item.Const s) is o) [ inl e ↦ absurd (cc) | inr l ↦ in_order k is l ]
in_order k (item.Slot j ∷ is) o = elim (parted (item.Slot k) (item.Slot j) is o) [
  | inl e ↦ let same : k ≡ j = cc in or_left (k == j) (stands_in (slot_order is) k) (eq-eqb k j same)
  | inr l ↦ or_right (k == j) (stands_in (slot_order is) k) (in_order k is l)
]

module _ (texts : List (List Leaf)) where
  abbrev AllHaveText : List Item → Type 0
  AllHaveText is = (i : Item) → Contains is i → 1 ≤ length (item_text texts i)

  all_long : (is : List Item) → AllHaveText is → length is ≤ length (items_text texts is)
  all_long [] h = omega arith
  all_long (i ∷ is) h =
      let here = h i (first i i is refl) in
      let rest = all_long is (λ j o. h j (later j i is o)) in
      let both = length-append (item_text texts i) (items_text texts is) in
      omega (arith, here, rest, both)

  -- an item beside the others
  one_long : (is : List Item) (i : Item) → AllHaveText is → Contains is i → length (item_text texts i) + length is ≤ length (items_text texts is) + 1
  one_long [] i h o = absurd (nothing i o)
  one_long (j ∷ is) i h o =
      let both = length-append (item_text texts j) (items_text texts is) in
      elim (parted i j is o) [
        | inl e ↦
            let rest = all_long is (λ k p. h k (later k j is p)) in
            let same : length (item_text texts j) ≡ length (item_text texts i) = ap (λ k. length (item_text texts k)) e in
            omega (arith, both, rest, same)
        | inr l ↦
            let here = h j (first j j is refl) in
            let rest = one_long is i (λ k p. h k (later k j is p)) l in
            omega (arith, both, here, rest)
      ]

-- ---- a child is lighter

module _ (rows : List Production) (grammar : IsGrammar rows) (before : ℕ) where
  text_at : (ts : List Tree) (k : ℕ) (u : Tree) → slice_get ts k ≡ Some u → slice_index_or (map (text rows) ts) k [] ≡ text rows u
  text_at [] k u e = absurd (cc)
  text_at (t ∷ ts) zero u e = let same : t ≡ u = cc in ap (text rows) same
  text_at (t ∷ ts) (suc k) u e = text_at ts k u e

  code_at : (ts : List Tree) (k : ℕ) (u : Tree) → slice_get ts k ≡ Some u → slice_get (map code_of ts) k ≡ Some (code_of u)
  code_at [] k u e = absurd (cc)
  code_at (t ∷ ts) zero u e = let same : t ≡ u = cc in ap (λ x. Some (code_of x)) same
  code_at (t ∷ ts) (suc k) u e = code_at ts k u e

  child_at : {X : Type 0} (xs : List X) (k : ℕ) → k < length xs → (x : X) × (slice_get xs k ≡ Some x)
  child_at [] k l = absurd (omega (arith, l))
  child_at (x ∷ xs) zero l = (x, refl)
  child_at (x ∷ xs) (suc k) l = child_at xs k (omega (arith, l))

  some_text : (xs : List Leaf) → (xs ≡ [] → ⊥) → 1 ≤ length xs
  some_text [] h = absurd (h refl)
  some_text (x ∷ xs) h = omega arith

  -- what a child has of its parent
  pub record IsChild (t u : Tree) : Type 0 where
    pub typed : IsTyped rows before u
    pub named : HasNoFresh u
    pub inside : (x : Leaf) → Contains (text rows u) x → Contains (text rows t) x
    pub lighter : weight rows (length (text rows u)) (code_of u) < weight rows (length (text rows t)) (code_of t)

  module _ (l : Label) (c : Typecode) (ts : List Tree) (typed : IsTyped rows before (Node l c ts)) (named : HasNoFresh (Node l c ts)) where
    abbrev texts : List (List Leaf)
    texts = map (text rows) ts

    child_text : (k : ℕ) → k < length ts → 1 ≤ length (slice_index_or texts k [])
    child_text k less =
        let u = child_at ts k less in
        let some = has_text rows grammar before u.0 (each_at (IsTyped rows before) ts k u.0 (typed_held rows before l c ts typed) u.1) (each_at HasNoFresh ts k u.0 (named_held l c ts named) u.1) in
        subst (λ xs. 1 ≤ length xs) (sym (text_at ts k u.0 u.1)) (some_text (text rows u.0) some)

    items_have : (is : List Item) → ((j : ℕ) → j < length (slot_order is) → slice_index_or (slot_order is) j 0 < length ts) → AllHaveText texts is
    items_have is within (item.Const s) o = omega arith
    items_have is within (item.Slot k) o =
        let n = number_of k (slot_order is) (in_order k is o) in
        child_text k (subst (λ j. j < length ts) n.2 (within n.0 n.1))

    -- of a row that is one slot, the child has the row's chain; of any other, a shorter text
    by_items : (k : ℕ) (u : Tree) (is : List Item) (slots : List Typecode) → slice_get ts k ≡ Some u → slice_get slots k ≡ Some (code_of u) → Contains is (item.Slot k) → AllHaveText texts is
        → (lone_slot slots is ≡ Some (code_of u) → rank (reverse rows) (code_of u) < rank (reverse rows) c)
        → weight rows (length (text rows u)) (code_of u) < weight rows (length (items_text texts is)) c
    by_items k u [] slots e s o h chain = absurd (nothing (item.Slot k) o)
    by_items k u (item.Const r ∷ []) slots e s o h chain = elim (parted (item.Slot k) (item.Const r) [] o) [ inl same ↦ absurd (cc) | inr none ↦ absurd (nothing (item.Slot k) none) ]
    by_items k u (item.Slot j ∷ []) slots e s o h chain = elim (parted (item.Slot k) (item.Slot j) [] o) [
      | inl same ↦
          let is : j ≡ k = cc in
          let long = one_long texts (item.Slot j ∷ []) (item.Slot k) h o in
          let own : length (slice_index_or texts k []) ≡ length (text rows u) = ap length (text_at ts k u e) in
          lower_weighs rows (length (text rows u)) (length (items_text texts (item.Slot j ∷ []))) (code_of u) c (omega (arith, long, own)) (chain (ap (slice_get slots) is ∙ s))
      | inr none ↦ absurd (nothing (item.Slot k) none)
    ]
    by_items k u (i ∷ j ∷ is) slots e s o h chain =
        let long = one_long texts (i ∷ j ∷ is) (item.Slot k) h o in
        let own : length (slice_index_or texts k []) ≡ length (text rows u) = ap length (text_at ts k u e) in
        shorter_weighs rows (length (text rows u)) (length (items_text texts (i ∷ j ∷ is))) (code_of u) c (omega (arith, long, own))

    pub child_is : (k : ℕ) (u : Tree) → slice_get ts k ≡ Some u → IsChild (Node l c ts) u
    child_is k u e =
        let here = typed_here rows before l c ts typed in
        let r = here.0 in
        let at = row_stands rows l r here.1 in
        let row = is_row rows grammar.rows_hold at.place r at.stands in
        let count : length r.slots ≡ length ts = sym (ap length here.4) ∙ length-map ts code_of in
        let less = slice_get_within ts k u e in
        let stands = slot_stands k r.items (row.each_once.found k (subst (λ n. k < n) (sym count) less)) in
        let whole : text rows (Node l c ts) ≡ items_text texts r.items = text-Node rows l c ts ∙ ap (row_text texts) here.1 in
        let have = items_have r.items (λ j m. subst (λ n. slice_index_or (slot_order r.items) j 0 < n) count (row.each_once.within j m)) in
        let code = subst (λ cs. slice_get cs k ≡ Some (code_of u)) here.4 (code_at ts k u e) in
        let light = by_items k u r.items r.slots e code stands have
        (λ lone. subst (λ d. rank (reverse rows) (code_of u) < rank (reverse rows) d) here.3 (row_rank rows grammar.acyclic at.place r (code_of u) at.stands lone)) in
        record {
          typed = each_at (IsTyped rows before) ts k u (typed_held rows before l c ts typed) e;
          named = each_at HasNoFresh ts k u (named_held l c ts named) e;
          inside = λ x o. subst (λ xs. Contains xs x) (sym whole)
              (in_pieces (item_text texts) r.items (item.Slot k) x stands (subst (λ xs. Contains xs x) (sym (text_at ts k u e)) o));
          lighter = subst (λ n. weight rows (length (text rows u)) (code_of u) < weight rows n (code_of (Node l c ts))) (sym (ap length whole))
              (subst (λ d. weight rows (length (text rows u)) (code_of u) < weight rows (length (items_text texts r.items)) d) (sym (code-Node l c ts)) light);
        }
