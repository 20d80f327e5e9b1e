-- The counts of a store of terms are those of the trees: each slot of a row stands in it once.
use Rattle.std.specs.Prelude.{◌≡◌, ◌<◌, ◌≤◌, ◌+◌, ◌==◌, ℕ, zero, suc, true, false, List, [], ◌∷◌, length, map, sum, count_by, slice_index_or, if◌then◌else◌, refl}
use Rattle.std.specs.List.{AllByRecursion}
use Rattle.std.proofs.Common.{sym, ap, subst, ◌∙◌, arith, inl, inr, eqb-true, eq-eqb}
use Rattle.std.proofs.lemmas.Bool.{cases_Bool, or_cases}
use Rattle.std.proofs.lemmas.List.{length-map}
use Rattle.std.proofs.lemmas.List.Sums.{sum_by-cons}
use Rattle.mm_base.specs.declared.symbols.Sym.{Sym}
use Rattle.mm_base.specs.declared.symbols.Label.{Label}
use Rattle.mm_base.specs.declared.symbols.Typecode.{Typecode}
use Rattle.mm_base.specs.declared.tree.Tree.{Tree}
use Rattle.mm_base.specs.declared.tree.Tree.TheVariants.{Var, Work, Fresh, Node}
use Rattle.mm_base.specs.Trees.{Each, code_of}
use Rattle.mm_base.proofs.TreeInduction.{tree_ind}
use Rattle.mm_base.proofs.TreeFolds.{fold-Var, fold-Work, fold-Fresh, fold-Node}
use Rattle.mm_model.specs.declared.rows.Item.{Item}
use Rattle.mm_model.specs.declared.rows.Item.TheVariants as item
use Rattle.mm_model.specs.declared.rows.Production.{Production}
use Rattle.mm_model.specs.Rows.{slot_order, place_of, EachOnce, IsGrammar}
use Rattle.mm_model.specs.Typed.{IsTyped}
use Rattle.mm_model.proofs.RowLaws.{is_row, row_stands}
use Rattle.mm_model.proofs.TypedLaws.{typed_here, typed_held}
use Rattle.term_model.specs.Sizes.{layer_tokens, tokens}
use Rattle.writing_laws.specs.TokenCounts.{items_count, row_count, token_count}
use Rattle.writing_laws.specs.StoreCounts.{is_constant, AreRowConstants, CountIsTokens}
use Rattle.writing_laws.proofs.Numbers.{stands_in}
use Rattle.writing_laws.proofs.Counts.{count-Var, count-Work, count-Fresh, count-Node}

-- ---- the numbers of a list that stand in another one

-- what stands at the numbers of an order
at_order : List ℕ → List ℕ → ℕ
at_order below [] = 0
at_order below (k ∷ ks) = slice_index_or below k 0 + at_order below ks

-- the elements whose numbers, counted from one on, stand in an order
chosen : ℕ → List ℕ → List ℕ → ℕ
chosen i [] order = 0
chosen i (b ∷ bs) order = (if stands_in order i then b else 0) + chosen (suc i) bs order

-- each number stands once
abbrev Distinct : List ℕ → Type 0
Distinct [] = Unit {0}
Distinct (x ∷ xs) = (stands_in xs x ≡ false) × Distinct xs

not_same : (n m : ℕ) → (n ≡ m → ⊥) → (n == m) ≡ false
not_same n m d = elim (cases_Bool (n == m)) [ inl e ↦ absurd (d (eqb-true n m e)) | inr e ↦ e ]

-- a number before the first changes nothing
chosen_past : (i : ℕ) (bs : List ℕ) (x : ℕ) (xs : List ℕ) → x < i → chosen i bs (x ∷ xs) ≡ chosen i bs xs
unfolding chosen
chosen_past i [] x xs l = refl
chosen_past i (b ∷ bs) x xs l =
    let other : (i == x) ≡ false = not_same i x (λ e. omega (arith, e, l)) in
    let rest = chosen_past (suc i) bs x xs (omega (arith, l)) in
    rw other (ap (λ n. (if stands_in xs i then b else 0) + n) rest)

-- one more number adds its element
chosen_more : (i : ℕ) (bs : List ℕ) (x : ℕ) (xs : List ℕ) (d : ℕ) → x ≡ i + d → d < length bs → stands_in xs x ≡ false → chosen i bs (x ∷ xs) ≡ slice_index_or bs d 0 + chosen i bs xs
unfolding chosen
chosen_more i [] x xs d e l n = absurd (omega (arith, l))
chosen_more i (b ∷ bs) x xs zero e l n =
    let same : x ≡ i = omega (arith, e) in
    let here : (i == x) ≡ true = eq-eqb i x (sym same) in
    let not_there : stands_in xs i ≡ false = subst (λ k. stands_in xs k ≡ false) same n in
    let rest = chosen_past (suc i) bs x xs (omega (arith, same)) in
    rw (here, not_there) (omega (arith, rest))
chosen_more i (b ∷ bs) x xs (suc d) e l n =
    let other : (i == x) ≡ false = not_same i x (λ s. omega (arith, e, s)) in
    let rest = chosen_more (suc i) bs x xs d (omega (arith, e)) (omega (arith, l)) n in
    rw other (swapped (if stands_in xs i then b else 0) (chosen (suc i) bs (x ∷ xs)) (slice_index_or bs d 0) (chosen (suc i) bs xs) rest)
  where
    swapped : (a p q r : ℕ) → p ≡ q + r → a + p ≡ q + (a + r)
    swapped a p q r h = omega (arith, h)

none_chosen : (i : ℕ) (bs : List ℕ) → chosen i bs [] ≡ 0
unfolding chosen
none_chosen i [] = refl
none_chosen i (b ∷ bs) = let rest = none_chosen (suc i) bs in omega (arith, rest)

order_chosen : (bs order : List ℕ) → Distinct order → AllByRecursion (λ k. k < length bs) order → at_order bs order ≡ chosen 0 bs order
unfolding at_order
order_chosen bs [] d w = sym (none_chosen 0 bs)
order_chosen bs (x ∷ xs) d w =
    let more = chosen_more 0 bs x xs x (zero_plus x) w.0 d.0 in
    let rest = order_chosen bs xs d.1 w.1 in
    omega (arith, more, rest)
  where
    zero_plus : (n : ℕ) → n ≡ 0 + n
    zero_plus n = omega arith

all_chosen : (i : ℕ) (bs order : List ℕ) → ((k : ℕ) → i ≤ k → k < i + length bs → stands_in order k ≡ true) → chosen i bs order ≡ sum bs
unfolding chosen
all_chosen i [] order h = refl
all_chosen i (b ∷ bs) order h =
    let here : stands_in order i ≡ true = h i (omega arith) (omega arith) in
    let rest = all_chosen (suc i) bs order (λ k l m. h k (omega (arith, l)) (omega (arith, m))) in
    rw here (ap (λ n. b + n) rest ∙ sym (sum_by-cons (λ x. x) b bs))

-- ---- an order in which each number stands once

placed_in : (k : ℕ) (xs : List ℕ) → place_of k xs < length xs → stands_in xs k ≡ true
placed_in k [] l = absurd (omega (arith, l))
placed_in k (x ∷ xs) l = elim (cases_Bool (k == x)) [
  | inl e ↦ rw e refl
  | inr e ↦ let more : suc (place_of k xs) < suc (length xs) = rw e at l in rw e (placed_in k xs (omega (arith, more)))
]

pub number_of : (k : ℕ) (xs : List ℕ) → stands_in xs k ≡ true → (j : ℕ) × (j < length xs) × (slice_index_or xs j 0 ≡ k)
number_of k [] e = absurd (cc)
number_of k (x ∷ xs) e = elim (or_cases (k == x) (stands_in xs k) e) [
  | inl h ↦ (0, omega arith, sym (eqb-true k x h))
  | inr h ↦ let rest = number_of k xs h in let l = rest.1 in (suc rest.0, omega (arith, l), rest.2)
]

abbrev Once : List ℕ → Type 0
Once xs = (j : ℕ) → j < length xs → place_of (slice_index_or xs j 0) xs ≡ j

first_once : (x : ℕ) (xs : List ℕ) → Once (x ∷ xs) → stands_in xs x ≡ false
first_once x xs h = elim (cases_Bool (stands_in xs x)) [
  | inr e ↦ e
  | inl e ↦
      let n = number_of x xs e in
      let l = n.1 in
      let is : place_of x (x ∷ xs) ≡ suc n.0 = subst (λ k. place_of k (x ∷ xs) ≡ suc n.0) n.2 (h (suc n.0) (omega (arith, l))) in
      let same : (x == x) ≡ true = eq-eqb x x refl in
      let none : 0 ≡ suc n.0 = rw same at is in
      absurd (omega (arith, none))
]

rest_once : (x : ℕ) (xs : List ℕ) → Once (x ∷ xs) → Once xs
rest_once x xs h j l =
    let is : place_of (slice_index_or xs j 0) (x ∷ xs) ≡ suc j = h (suc j) (omega (arith, l)) in
    by (slice_index_or xs j 0) is
  where
    by : (k : ℕ) → place_of k (x ∷ xs) ≡ suc j → place_of k xs ≡ j
    by k is = elim (cases_Bool (k == x)) [
      | inl e ↦ let none : 0 ≡ suc j = rw e at is in absurd (omega (arith, none))
      | inr e ↦ let more : suc (place_of k xs) ≡ suc j = rw e at is in omega (arith, more)
    ]

distinct : (xs : List ℕ) → Once xs → Distinct xs
distinct [] h = tt
distinct (x ∷ xs) h = (first_once x xs h, distinct xs (rest_once x xs h))

all_within : (n : ℕ) (xs : List ℕ) → ((j : ℕ) → j < length xs → slice_index_or xs j 0 < n) → AllByRecursion (λ k. k < n) xs
all_within n [] h = tt
all_within n (x ∷ xs) h = (h 0 (omega arith), all_within n xs (λ j l. h (suc j) (omega (arith, l))))

order_sum : (bs order : List ℕ) → EachOnce (length bs) order → at_order bs order ≡ sum bs
order_sum bs order h =
    order_chosen bs order (distinct order h.once) (all_within (length bs) order h.within)
    ∙ all_chosen 0 bs order (λ k l m. placed_in k order (h.found k (omega (arith, m))))

-- ---- a row

items_are : (bs : List ℕ) (is : List Item) → items_count bs is ≡ count_by is_constant is + at_order bs (slot_order is)
unfolding at_order
items_are bs [] = refl
items_are bs (item.Const s ∷ is) =
    let rest = items_are bs is in
    let more : count_by is_constant (item.Const s ∷ is) ≡ 1 + count_by is_constant is = sum_by-cons (λ i. if is_constant i then 1 else 0) (item.Const s) is in
    omega (arith, rest, more)
items_are bs (item.Slot k ∷ is) =
    let rest = items_are bs is in
    let more : count_by is_constant (item.Slot k ∷ is) ≡ 0 + count_by is_constant is = sum_by-cons (λ i. if is_constant i then 1 else 0) (item.Slot k) is in
    omega (arith, rest, more)

-- what an item counts is what its constants and its slots count, where each slot stands once
pub items_sum : (bs : List ℕ) (is : List Item) → EachOnce (length bs) (slot_order is) → items_count bs is ≡ count_by is_constant is + sum bs
items_sum bs is once = items_are bs is ∙ ap (λ n. count_by is_constant is + n) (order_sum bs (slot_order is) once)

module _ (rows : List Production) (constants : Label → ℕ) (before : ℕ) (grammar : IsGrammar rows) (are : AreRowConstants rows constants) where
  tokens-Var : (s : Sym) (c : Typecode) → tokens constants (Var s c) ≡ 1
  unfolding tokens
  tokens-Var s c = fold-Var ℕ (layer_tokens constants) s c

  tokens-Work : (c : Typecode) (n : ℕ) → tokens constants (Work c n) ≡ 1
  unfolding tokens
  tokens-Work c n = fold-Work ℕ (layer_tokens constants) c n

  tokens-Fresh : (c : Typecode) (n : ℕ) → tokens constants (Fresh c n) ≡ 1
  unfolding tokens
  tokens-Fresh c n = fold-Fresh ℕ (layer_tokens constants) c n

  tokens-Node : (l : Label) (c : Typecode) (ts : List Tree) → tokens constants (Node l c ts) ≡ constants l + sum (map (tokens constants) ts)
  unfolding tokens
  tokens-Node l c ts = fold-Node ℕ (layer_tokens constants) l c ts

  abbrev Same : Tree → Type 0
  Same t = IsTyped rows before t → token_count rows t ≡ tokens constants t

  all_same : (ts : List Tree) → Each Same ts → Each (IsTyped rows before) ts → map (token_count rows) ts ≡ map (tokens constants) ts
  all_same [] h k = refl
  all_same (t ∷ ts) h k = ap (λ n. n ∷ map (token_count rows) ts) (h.0 k.0) ∙ ap (λ ns. tokens constants t ∷ ns) (all_same ts h.1 k.1)

  at_node : (l : Label) (c : Typecode) (ts : List Tree) → Each Same ts → Same (Node l c ts)
  at_node l c ts h p =
      let here = typed_here rows before l c ts p in
      let r = here.0 in
      let at = row_stands rows l r here.1 in
      let row = is_row rows grammar.rows_hold at.place r at.stands in
      let long : length (map (tokens constants) ts) ≡ length r.slots = length-map ts (tokens constants) ∙ sym (length-map ts code_of) ∙ ap length here.4 in
      let once : EachOnce (length (map (tokens constants) ts)) (slot_order r.items) = subst (λ n. EachOnce n (slot_order r.items)) (sym long) row.each_once in
      count-Node rows l c ts
      ∙ ap (λ o. row_count (map (token_count rows) ts) o) here.1
      ∙ ap (λ ns. items_count ns r.items) (all_same ts h (typed_held rows before l c ts p))
      ∙ items_sum (map (tokens constants) ts) r.items once
      ∙ ap (λ n. n + sum (map (tokens constants) ts)) (sym (are l r here.1))
      ∙ sym (tokens-Node l c ts)

  pub same : (t : Tree) → Same t
  same = tree_ind Same
      (λ s c p. count-Var rows s c ∙ sym (tokens-Var s c))
      (λ c n p. count-Work rows c n ∙ sym (tokens-Work c n))
      (λ c n p. count-Fresh rows c n ∙ sym (tokens-Fresh c n))
      at_node

pub count_is_tokens : CountIsTokens
count_is_tokens rows constants before t grammar are typed = same rows constants before grammar are t typed
