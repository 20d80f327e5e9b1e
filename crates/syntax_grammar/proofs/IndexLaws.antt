-- Indexes that grow row by row, and what is looked up in them.
use Rattle.std.specs.Prelude.{◌≡◌, ◌==◌, ◌+◌, ◌++◌, ℕ, zero, suc, Bool, true, false, List, [], ◌∷◌, length, take, map, filter, find, slice_get, Option, Some, None, if◌then◌else◌, refl}
use Rattle.std.proofs.Common.{arith, sym, ap, ◌∙◌, cond, get_or, ◌<◌, option_map, append-nil}
use Rattle.std.proofs.lemmas.List.{take_more}
use Rattle.std.proofs.lemmas.List.Elements.{filter_map-append}
use Rattle.std.specs.List.{filter_map, cons_option}
use Rattle.mm_base.specs.declared.symbols.Sym.{Sym}
use Rattle.mm_base.specs.declared.symbols.Label.{Label}
use Rattle.mm_model.specs.declared.rows.Production.{Production}
use Rattle.mm_model.specs.Texts.{row_of}
use Rattle.syntax_grammar.specs.Index.{IsAtKeys}
use Rattle.syntax_grammar.specs.Selections.{numbers, begins_const, has_label, by_first}

-- one more number, where the test passes
abbrev one_more : Bool → List ℕ → ℕ → List ℕ
one_more b ns n = cond b (ns ++ n ∷ []) ns

behind : (b c : Bool) (at n : ℕ) (ns : List ℕ) → cond b (at ∷ one_more c ns n) (one_more c ns n) ≡ one_more c (cond b (at ∷ ns) ns) n
behind true true at n ns = refl
behind true false at n ns = refl
behind false true at n ns = refl
behind false false at n ns = refl

first_more : (b : Bool) (at n : ℕ) → n ≡ at → cond b (at ∷ []) [] ≡ one_more b [] n
first_more true at n is = ap (λ k. k ∷ []) (sym is)
first_more false at n is = refl

numbers_more : (test : Production → Bool) (at : ℕ) (rows : List Production) (n : ℕ) (r : Production) → slice_get rows n ≡ Some r
    → numbers test at (take (suc n) rows) ≡ one_more (test r) (numbers test at (take n rows)) (at + n)
numbers_more test at [] n r is = absurd (cc)
numbers_more test at (x ∷ rows) zero r is =
    let same : x ≡ r = cc in
    ap (λ (y : Production). cond (test y) (at ∷ []) []) same ∙ first_more (test r) at (at + 0) (omega arith)
numbers_more test at (x ∷ rows) (suc n) r is =
    let next : suc at + n ≡ at + suc n = omega arith in
    let more = numbers_more test (suc at) rows n r is ∙ ap (λ k. one_more (test r) (numbers test (suc at) (take n rows)) k) next in
    ap (λ ns. cond (test x) (at ∷ ns) ns) more ∙ behind (test x) (test r) at (at + suc n) (numbers test (suc at) (take n rows))

module _ (test : ℕ → Production → Bool) (rows : List Production) (n : ℕ) (r : Production) (at : slice_get rows n ≡ Some r) where
  next_numbers : (q : ℕ) → numbers (test q) 0 (take (n + 1) rows) ≡ one_more (test q r) (numbers (test q) 0 (take n rows)) n
  next_numbers q =
      let next : n + 1 ≡ suc n = omega arith in
      let same : 0 + n ≡ n = omega arith in
      ap (λ k. numbers (test q) 0 (take k rows)) next ∙ numbers_more (test q) 0 rows n r at ∙ ap (λ k. one_more (test q r) (numbers (test q) 0 (take n rows)) k) same

  -- the row's number is put in at its key
  pub index_turn : (old new : ℕ → List ℕ) (key : ℕ) → ((q : ℕ) → test q r ≡ (key == q))
      → ((q : ℕ) → new q ≡ (if key == q then old q ++ n ∷ [] else old q)) → IsAtKeys test (take n rows) old → IsAtKeys test (take (n + 1) rows) new
  index_turn old new key passes added h q =
      added q ∙ ap (λ ns. one_more (key == q) ns n) (h q) ∙ ap (λ b. one_more b (numbers (test q) 0 (take n rows)) n) (sym (passes q)) ∙ sym (next_numbers q)

  -- a row that has no key
  pub index_skip : (x : ℕ → List ℕ) → ((q : ℕ) → test q r ≡ false) → IsAtKeys test (take n rows) x → IsAtKeys test (take (n + 1) rows) x
  index_skip x fails h q = h q ∙ ap (λ b. one_more b (numbers (test q) 0 (take n rows)) n) (sym (fails q)) ∙ sym (next_numbers q)

-- ---- what is looked up

-- the rest stands in the list from a place on
abbrev IsTail : List Production → ℕ → List Production → Type 0
IsTail all at rest = (k : ℕ) → slice_get all (at + k) ≡ slice_get rest k

tail_first : (all : List Production) (at : ℕ) (r : Production) (rest : List Production) → IsTail all at (r ∷ rest) → slice_get all at ≡ Some r
tail_first all at r rest h = let same : at ≡ at + 0 = omega arith in ap (slice_get all) same ∙ h 0

tail_rest : (all : List Production) (at : ℕ) (r : Production) (rest : List Production) → IsTail all at (r ∷ rest) → IsTail all (suc at) rest
tail_rest all at r rest h k = let same : suc at + k ≡ at + suc k = omega arith in ap (slice_get all) same ∙ h (suc k)

all_tail : (rows : List Production) → IsTail rows 0 rows
all_tail rows k = let same : 0 + k ≡ k = omega arith in ap (slice_get rows) same

-- the labels of the rows with these numbers
abbrev pub label_at : List Production → ℕ → Option Label
label_at rows n = option_map (λ (r : Production). r.label) (slice_get rows n)

abbrev pub labels_of : List Production → List ℕ → List Label
labels_of rows ns = filter_map (label_at rows) ns

pub labels_found : (rows : List Production) (ns : List ℕ) (k : ℕ) (r : Production) → k < length ns → slice_get rows (get_or ns k 0) ≡ Some r
    → labels_of rows (take (k + 1) ns) ≡ labels_of rows (take k ns) ++ r.label ∷ []
labels_found rows ns k r l at =
    ap (labels_of rows) (take_more ns k 0 l) ∙ filter_map-append (label_at rows) (take k ns) (get_or ns k 0 ∷ [])
    ∙ ap (λ o. labels_of rows (take k ns) ++ cons_option (option_map (λ (x : Production). x.label) o) []) at

pub labels_none : (rows : List Production) (ns : List ℕ) (k : ℕ) → k < length ns → slice_get rows (get_or ns k 0) ≡ None
    → labels_of rows (take (k + 1) ns) ≡ labels_of rows (take k ns)
labels_none rows ns k l at =
    ap (labels_of rows) (take_more ns k 0 l) ∙ filter_map-append (label_at rows) (take k ns) (get_or ns k 0 ∷ [])
    ∙ ap (λ o. labels_of rows (take k ns) ++ cons_option (option_map (λ (x : Production). x.label) o) []) at ∙ append-nil (labels_of rows (take k ns))

taken : (all : List Production) (at : ℕ) (r : Production) (b : Bool) (ns : List ℕ) (rs : List Production) → slice_get all at ≡ Some r
    → labels_of all ns ≡ map (λ (x : Production). x.label) rs → labels_of all (cond b (at ∷ ns) ns) ≡ map (λ (x : Production). x.label) (cond b (r ∷ rs) rs)
taken all at r true ns rs is same = ap (λ o. cons_option (option_map (λ (x : Production). x.label) o) (labels_of all ns)) is ∙ ap (λ xs. r.label ∷ xs) same
taken all at r false ns rs is same = same

labels_filtered : (test : Production → Bool) (all : List Production) (at : ℕ) (rest : List Production) → IsTail all at rest
    → labels_of all (numbers test at rest) ≡ map (λ (x : Production). x.label) (filter test rest)
labels_filtered test all at [] h = refl
labels_filtered test all at (r ∷ rest) h =
    taken all at r (test r) (numbers test (suc at) rest) (filter test rest) (tail_first all at r rest h) (labels_filtered test all (suc at) rest (tail_rest all at r rest h))

pub by_first_of : (rows : List Production) (s : Sym) → labels_of rows (numbers (begins_const s.0) 0 rows) ≡ by_first rows s
by_first_of rows s = labels_filtered (begins_const s.0) rows 0 rows (all_tail rows)

-- the row of the first number
abbrev pub first_row : List Production → List ℕ → Option Production
first_row rows [] = None
first_row rows (n ∷ ns) = slice_get rows n

chosen : (all : List Production) (at : ℕ) (r : Production) (b : Bool) (ns : List ℕ) (o : Option Production) → slice_get all at ≡ Some r
    → first_row all ns ≡ o → first_row all (cond b (at ∷ ns) ns) ≡ cond b (Some r) o
chosen all at r true ns o is same = is
chosen all at r false ns o is same = same

first_found : (test : Production → Bool) (all : List Production) (at : ℕ) (rest : List Production) → IsTail all at rest → first_row all (numbers test at rest) ≡ find test rest
first_found test all at [] h = refl
first_found test all at (r ∷ rest) h =
    chosen all at r (test r) (numbers test (suc at) rest) (find test rest) (tail_first all at r rest h) (first_found test all (suc at) rest (tail_rest all at r rest h))

pub row_of_label : (rows : List Production) (l : Label) → first_row rows (numbers (has_label l.0) 0 rows) ≡ row_of rows l
row_of_label rows l = first_found (has_label l.0) rows 0 rows (all_tail rows)
