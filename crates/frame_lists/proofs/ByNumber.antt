-- Names and their numbers.
use Rattle.std.proofs.Common.{◌≡◌, ℕ, zero, suc, ◌+◌, ◌<◌, ◌≤◌, Bool, true, false, ◌||◌, List, [], ◌∷◌, ◌++◌, append_assoc, length, take, map}
use Rattle.std.proofs.Common.{flat_map, reverse, nat_eq, eqb, ltb, refl, sym, ap, ◌∙◌, arith, inl, inr, subst, codes, get_or, slice_get, Some}
use Rattle.std.specs.List.{list_any, position_or_len, AllByRecursion, filter}
use Rattle.std.specs.List.Sorted.{IsStrictlySortedBy}
use Rattle.std.specs.Ordering.{nat_cmp}
use Rattle.std.specs.declared.cmp.Ordering.TheVariants.{Less}
use Rattle.std.specs.Str.{bytes_eq}
use Rattle.std.proofs.lemmas.Bool.{cases_Bool, or_cases, or_left, or_right, or_parts}
use Rattle.std.proofs.lemmas.Bool.Decides.{nat_tests}
use Rattle.std.proofs.lemmas.Slice.Eq.{bytes_eq-Decides}
use Rattle.std.proofs.lemmas.List.{reverse-append, length-reverse}
use Rattle.std.proofs.lemmas.List.Folds.{list_any-append}
use Rattle.mm_base.specs.declared.symbols.Sym.{Sym}
use Rattle.mm_model.specs.Words.{Word}
use Rattle.mm_model.specs.Names.{Name, contains}
use Rattle.mm_model.specs.Statements.{Statement, has_one_of, has_keyword, is, is_one_of, body, symbols_in}
use Rattle.mm_model.specs.Frames.{symbols, symbol_in, without_repeats}
use Rattle.frame_lists.specs.Steps.{has}
use Rattle.frame_lists.proofs.Members.{In, in_has, has_in, in_contains, contains_in, sorted_cons, sorted_none, unique}
use Rattle.std.proofs.lemmas.Cmp.{nat_cmp_total}
use Rattle.frame_lists.specs.Orders.{Ordered, Rises}

pub same-names : (a b : Name) → bytes_eq a b ≡ true → a ≡ b
same-names a b h = (bytes_eq-Decides a b).0 h

pub name-self : (a : Name) → bytes_eq a a ≡ true
name-self a = (bytes_eq-Decides a a).1 refl

-- whether a symbol string has the symbol of this number
abbrev pub has_symbol : List Sym → ℕ → Bool
has_symbol ss j = list_any (λ (s : Sym). nat_eq j s.0) ss

-- ---- no name stands twice

abbrev pub Fresh : List Name → List Name → Type 0
Fresh seen [] = Unit {0}
Fresh seen (x ∷ xs) = (contains seen x ≡ false) × Fresh (x ∷ seen) xs

-- more that were seen, none of them among the names
fresh-less : (seen more xs : List Name) → ((n : Name) → contains seen n ≡ true → contains more n ≡ true) → Fresh more xs → Fresh seen xs
fresh-less seen more [] f h = tt
fresh-less seen more (x ∷ xs) f h = (less (contains seen x) refl, fresh-less (x ∷ seen) (x ∷ more) xs (λ n k. both n k) h.1)
  where
    less : (b : Bool) → contains seen x ≡ b → b ≡ false
    less true e = let bad : true ≡ false = sym (f x e) ∙ h.0 in absurd cc
    less false e = refl

    both : (n : Name) → contains (x ∷ seen) n ≡ true → contains (x ∷ more) n ≡ true
    both n k = elim (or_cases (bytes_eq n x) (contains seen n) k) [ inl e ↦ or_left (bytes_eq n x) (contains more n) e | inr e ↦ or_right (bytes_eq n x) (contains more n) (f n e) ]

pub names-fresh : (seen ns : List Name) → Fresh seen (without_repeats seen ns)
names-fresh seen [] = tt
names-fresh seen (n ∷ ns) = elim (cases_Bool (contains seen n)) [
  | inl h ↦ rw h (names-fresh seen ns)
  | inr h ↦ rw h (h, names-fresh (n ∷ seen) ns)
]

-- ---- the number of a name

or-swap : (a b : Bool) → (a || b) ≡ (b || a)
or-swap true true = refl
or-swap true false = refl
or-swap false true = refl
or-swap false false = refl

or-none : (a : Bool) → (a || false) ≡ a
or-none true = refl
or-none false = refl

pub any-turned : {X : Type 0} (p : X → Bool) (xs : List X) → list_any p (reverse xs) ≡ list_any p xs
any-turned p [] = refl
any-turned p (x ∷ xs) =
    ap (λ l. list_any p l) (reverse-append (x ∷ []) xs) ∙ list_any-append p (reverse xs) (x ∷ [])
    ∙ ap (λ b. b || list_any p (x ∷ [])) (any-turned p xs) ∙ ap (λ b. list_any p xs || b) (or-none (p x)) ∙ or-swap (list_any p xs) (p x)

place-behind : (n : Name) (xs ys : List Name) → contains xs n ≡ false → position_or_len (bytes_eq n) (xs ++ n ∷ ys) ≡ length xs
place-behind n [] ys h = rw (name-self n) refl
place-behind n (x ∷ xs) ys h =
    let parts = or_parts (bytes_eq n x) (contains xs n) h in
    let later = place-behind n xs ys parts.1 in
    let sum : 1 + position_or_len (bytes_eq n) (xs ++ n ∷ ys) ≡ suc (length xs) = omega (arith, later) in
    rw parts.0 sum

module _ (names : List Name) where
  abbrev pub number : Name → ℕ
  number n = (symbol_in names n).0

  place-within : (n : Name) (xs : List Name) → contains xs n ≡ true → position_or_len (bytes_eq n) xs < length xs
  place-within n [] h = absurd cc
  place-within n (x ∷ xs) h = elim (cases_Bool (bytes_eq n x)) [
    | inl e ↦ rw e (omega arith)
    | inr e ↦ let rest : contains xs n ≡ true = rw e at h in let less = place-within n xs rest in let more : 1 + position_or_len (bytes_eq n) xs < suc (length xs) = omega (arith, less) in rw e more
  ]

  place-outside : (n : Name) (xs : List Name) → contains xs n ≡ false → position_or_len (bytes_eq n) xs ≡ length xs
  place-outside n [] h = refl
  place-outside n (x ∷ xs) h =
      let parts = or_parts (bytes_eq n x) (contains xs n) h in
      let later = place-outside n xs parts.1 in
      let sum : 1 + position_or_len (bytes_eq n) xs ≡ suc (length xs) = omega (arith, later) in
      rw parts.0 sum

  pub place-name : (n : Name) (xs : List Name) → contains xs n ≡ true → get_or xs (position_or_len (bytes_eq n) xs) [] ≡ n
  place-name n [] h = absurd cc
  place-name n (x ∷ xs) h = elim (cases_Bool (bytes_eq n x)) [
    | inl e ↦ rw e (sym (same-names n x e))
    | inr e ↦
        let rest : contains xs n ≡ true = rw e at h in
        let later = place-name n xs rest in
        let one : 1 + position_or_len (bytes_eq n) xs ≡ suc (position_or_len (bytes_eq n) xs) = omega arith in
        rw (e, one) later
  ]

  pub number-within : (n : Name) → contains names n ≡ true → number n < length names
  number-within n h = place-within n names h

  pub number-outside : (n : Name) → contains names n ≡ false → number n ≡ length names
  number-outside n h = place-outside n names h

  -- a name is known where its number is below their count
  pub known-by : (n : Name) → number n < length names → contains names n ≡ true
  known-by n h = elim (cases_Bool (contains names n)) [ inl e ↦ e | inr e ↦ let is = number-outside n e in let bad : ⊥ = omega (arith, is, h) in absurd bad ]

  -- a known name is another where their numbers are one
  pub test-number : (v x : Name) → contains names v ≡ true → bytes_eq v x ≡ nat_eq (number v) (number x)
  test-number v x known = elim (cases_Bool (bytes_eq v x)) [
    | inl e ↦ let same : number v ≡ number x = ap number (same-names v x e) in let t : eqb (number v) (number x) ≡ true = grind (arith, nat_tests, same) in e ∙ sym t
    | inr e ↦ elim (cases_Bool (eqb (number v) (number x))) [
      | inl t ↦
          let same : number v ≡ number x = grind (arith, nat_tests) in
          let other : contains names x ≡ true = known-by x (subst (λ (k : ℕ). k < length names) same (number-within v known)) in
          let is : v ≡ x = sym (place-name v names known) ∙ ap (λ (k : ℕ). get_or names k []) same ∙ place-name x names other in
          let bad : true ≡ false = sym (ap (bytes_eq v) (sym is) ∙ name-self v) ∙ e in absurd (clash bad)
      | inr t ↦ e ∙ sym t
    ]
  ]
    where
      clash : true ≡ false → ⊥
      clash bad = cc

  pub contains-numbers : (v : Name) (xs : List Name) → contains names v ≡ true → contains xs v ≡ has (map number xs) (number v)
  contains-numbers v [] known = refl
  contains-numbers v (x ∷ xs) known = ap (λ b. b || contains xs v) (test-number v x known) ∙ ap (λ b. nat_eq (number v) (number x) || b) (contains-numbers v xs known)

  pub contains-symbols : (v : Name) (xs : List Name) → contains names v ≡ true → contains xs v ≡ has_symbol (map (symbol_in names) xs) (number v)
  contains-symbols v [] known = refl
  contains-symbols v (x ∷ xs) known = ap (λ b. b || contains xs v) (test-number v x known) ∙ ap (λ b. nat_eq (number v) (number x) || b) (contains-symbols v xs known)

  -- ---- the names that pass a test, by number

  abbrev pub numbers_passing : (Name → Bool) → List Name → List ℕ
  numbers_passing q xs = map number (filter q xs)

  least-cmp : (a b : ℕ) → a < b → nat_cmp a b ≡ Less
  least-cmp a b h = let l : ltb a b ≡ true = grind (arith, nat_tests, h) in rw l refl

  number-here : (seen rest : List Name) (x : Name) → names ≡ reverse seen ++ x ∷ rest → contains seen x ≡ false → number x ≡ length seen
  number-here seen rest x whole new =
      ap (λ l. position_or_len (bytes_eq x) l) whole ∙ place-behind x (reverse seen) rest (any-turned (bytes_eq x) seen ∙ new) ∙ length-reverse seen

  whole-next : (seen rest : List Name) (x : Name) → names ≡ reverse seen ++ x ∷ rest → names ≡ reverse (x ∷ seen) ++ rest
  whole-next seen rest x whole = whole ∙ sym (append_assoc (reverse seen) (x ∷ []) rest) ∙ ap (λ l. l ++ rest) (sym (reverse-append (x ∷ []) seen))

  record RiseFrom (low : ℕ) (js : List ℕ) : Type 0 where
    pub rises : IsStrictlySortedBy nat_cmp js
    pub above : AllByRecursion (λ j. low ≤ j) js

  less-above : (low : ℕ) (js : List ℕ) → AllByRecursion (λ j. suc low ≤ j) js → AllByRecursion (λ j. nat_cmp low j ≡ Less) js × AllByRecursion (λ j. low ≤ j) js
  less-above low [] h = (tt, tt)
  less-above low (j ∷ js) h = let r = less-above low js h.1 in ((least-cmp low j (omega (arith, h.0)), r.0), (omega (arith, h.0), r.1))

  rise-from : (q : Name → Bool) (seen rest : List Name) → names ≡ reverse seen ++ rest → Fresh seen rest → RiseFrom (length seen) (numbers_passing q rest)
  rise-from q seen [] whole h = record { rises = sorted_none nat_cmp; above = tt }
  rise-from q seen (x ∷ rest) whole h =
      let later = rise-from q (x ∷ seen) rest (whole-next seen rest x whole) h.1 in
      let less = less-above (length seen) (numbers_passing q rest) later.above in
      let here : number x ≡ length seen = number-here seen rest x whole h.0 in
      elim (cases_Bool (q x)) [
        | inl e ↦ rw e (record {
          rises = sorted_cons nat_cmp (number x) (numbers_passing q rest) (subst (λ (k : ℕ). AllByRecursion (λ j. nat_cmp k j ≡ Less) (numbers_passing q rest)) (sym here) less.0) later.rises;
          above = (omega (arith, here), less.1);
        })
        | inr e ↦ rw e (record { rises = later.rises; above = less.1 })
      ]

  pub passing-rise : (q : Name → Bool) → Fresh [] names → IsStrictlySortedBy nat_cmp (numbers_passing q names)
  passing-rise q fresh = (rise-from q [] names refl fresh).rises

  -- the name of a number below their count has it
  number-at : (seen rest : List Name) (k : ℕ) → names ≡ reverse seen ++ rest → Fresh seen rest → k < length rest → (n : Name) × (contains rest n ≡ true) × (number n ≡ length seen + k)
  number-at seen [] k whole h less = let bad : ⊥ = omega (arith, less) in absurd bad
  number-at seen (x ∷ rest) zero whole h less = (x, or_left (bytes_eq x x) (contains rest x) (name-self x), omega (arith, number-here seen rest x whole h.0))
  number-at seen (x ∷ rest) (suc k) whole h less =
      let later = number-at (x ∷ seen) rest k (whole-next seen rest x whole) h.1 (omega (arith, less)) in
      (later.0, or_right (bytes_eq later.0 x) (contains rest later.0) later.1, omega (arith, later.2))

  pub in-passing : (q : Name → Bool) (xs : List Name) (j : ℕ) → In j (numbers_passing q xs) → (n : Name) × (contains xs n ≡ true) × (q n ≡ true) × (number n ≡ j)
  in-passing q [] j i = absurd i
  in-passing q (x ∷ xs) j i = elim (cases_Bool (q x)) [
    | inl e ↦ first e (λ k. in-passing q xs j k) (rw e at i)
    | inr e ↦ let r = in-passing q xs j (rw e at i) in (r.0, or_right (bytes_eq r.0 x) (contains xs r.0) r.1, r.2, r.3)
  ]
    where
      first : q x ≡ true → (In j (numbers_passing q xs) → (n : Name) × (contains xs n ≡ true) × (q n ≡ true) × (number n ≡ j))
          → In j (number x ∷ numbers_passing q xs) → (n : Name) × (contains (x ∷ xs) n ≡ true) × (q n ≡ true) × (number n ≡ j)
      first e f i = elim i [
        | inl d ↦ (x, or_left (bytes_eq x x) (contains xs x) (name-self x), e, sym d)
        | inr k ↦ let r = f k in (r.0, or_right (bytes_eq r.0 x) (contains xs r.0) r.1, r.2, r.3)
      ]

  pub passing-in : (q : Name → Bool) (xs : List Name) (n : Name) → contains xs n ≡ true → q n ≡ true → In (number n) (numbers_passing q xs)
  passing-in q [] n h e = absurd cc
  passing-in q (x ∷ xs) n h e = elim (or_cases (bytes_eq n x) (contains xs n) h) [
    | inl d ↦ let same : n ≡ x = same-names n x d in let pass : q x ≡ true = ap q (sym same) ∙ e in rw pass (inl (ap number same))
    | inr d ↦ let later = passing-in q xs n d e in elim (cases_Bool (q x)) [ inl p ↦ rw p (inr later) | inr p ↦ rw p later ]
  ]

  -- a number of the set is that of a name that passes, and the other way
  pub to-passing : (q : Name → Bool) (set : List ℕ) → Fresh [] names → ((j : ℕ) → has set j ≡ true → j < length names)
      → ((n : Name) → contains names n ≡ true → q n ≡ has set (number n)) → (j : ℕ) → has set j ≡ true → In j (numbers_passing q names)
  to-passing q set fresh within law j there =
      let n = number-at [] names j refl fresh (within j there) in
      let is : number n.0 ≡ j = omega (arith, n.2) in
      let passes : q n.0 ≡ true = law n.0 n.1 ∙ ap (has set) is ∙ there in
      subst (λ (k : ℕ). In k (numbers_passing q names)) is (passing-in q names n.0 n.1 passes)

  pub from-passing : (q : Name → Bool) (set : List ℕ) → ((n : Name) → contains names n ≡ true → q n ≡ has set (number n)) → (j : ℕ) → In j (numbers_passing q names) → has set j ≡ true
  from-passing q set law j i = let r = in-passing q names j i in ap (has set) (sym r.3) ∙ sym (law r.0 r.1) ∙ r.2

  -- numbers in order, each of a name that passes
  pub ordered-is : (q : Name → Bool) (set ns : List ℕ) → Fresh [] names → Ordered Rises set ns → ((j : ℕ) → has set j ≡ true → j < length names)
      → ((n : Name) → contains names n ≡ true → q n ≡ has set (number n))
      → ns ≡ numbers_passing q names
  ordered-is q set ns fresh o within law =
      unique nat_cmp nat_cmp_total ns (numbers_passing q names) o.rises (passing-rise q fresh)
      (λ j i. to-passing q set fresh within law j (in_has j set (contains_in j set (o.adds_none j (in_contains j ns i)))))
      (λ j i. contains_in j ns (o.keeps j (in_contains j set (has_in j set (from-passing q set law j i)))))

-- ---- a variable that is declared is known

kept_names : (seen ns : List Name) (n : Name) → contains ns n ≡ true → contains seen n ≡ false → contains (without_repeats seen ns) n ≡ true
kept_names seen [] n h new = h
kept_names seen (x ∷ ns) n h new = elim (cases_Bool (contains seen x)) [
  | inl d ↦ elim (or_cases (bytes_eq n x) (contains ns n) h) [
    | inl g ↦ let bad : true ≡ false = sym d ∙ ap (contains seen) (sym (same-names n x g)) ∙ new in absurd cc
    | inr g ↦ rw d (kept_names seen ns n g new)
  ]
  | inr d ↦ elim (cases_Bool (bytes_eq n x)) [
    | inl g ↦ rw d (or_left (bytes_eq n x) (contains (without_repeats (x ∷ seen) ns) n) g)
    | inr g ↦
        let later : contains ns n ≡ true = rw g at h in
        let unseen : contains (x ∷ seen) n ≡ false = rw g new in
        rw d (or_right (bytes_eq n x) (contains (without_repeats (x ∷ seen) ns) n) (kept_names (x ∷ seen) ns n later unseen))
  ]
]

-- a `$c` or a `$v`
abbrev pub declaring : Statement → Bool
declaring s = has_one_of (codes "$c" ∷ codes "$v" ∷ []) s

declares : (s : Statement) → has_keyword (codes "$v") s ≡ true → declaring s ≡ true
declares s h = go (body s) h
  where
    go : (ws : List Word) → list_any (is (codes "$v")) (take 1 ws) ≡ true → list_any (is_one_of (codes "$c" ∷ codes "$v" ∷ [])) (take 1 ws) ≡ true
    go [] h = absurd cc
    go (w ∷ ws) h = elim (cases_Bool (is (codes "$v") w)) [
      | inl e ↦ elim (cases_Bool (is (codes "$c") w)) [ inl d ↦ rw d refl | inr d ↦ rw (d, e) refl ]
      | inr e ↦ let bad : false ≡ true = rw e at h in absurd cc
    ]

pub declares-constants : (s : Statement) → has_keyword (codes "$c") s ≡ true → declaring s ≡ true
declares-constants s h = go (body s) h
  where
    go : (ws : List Word) → list_any (is (codes "$c")) (take 1 ws) ≡ true → list_any (is_one_of (codes "$c" ∷ codes "$v" ∷ [])) (take 1 ws) ≡ true
    go [] h = absurd cc
    go (w ∷ ws) h = elim (cases_Bool (is (codes "$c") w)) [
      | inl e ↦ rw e refl
      | inr e ↦ let bad : false ≡ true = rw e at h in absurd cc
    ]

stands : (ss : List Statement) (k : ℕ) (s : Statement) (n : Name) → slice_get ss k ≡ Some s → declaring s ≡ true → contains (symbols_in s) n ≡ true
    → contains (flat_map symbols_in (filter declaring ss)) n ≡ true
stands [] k s n at v h = absurd cc
stands (x ∷ ss) zero s n at v h =
    let same : s ≡ x = cc in
    let there : declaring x ≡ true = ap declaring (sym same) ∙ v in
    rw there (list_any-append (bytes_eq n) (symbols_in x) (flat_map symbols_in (filter declaring ss)) ∙ or_left (contains (symbols_in x) n) _ (ap (λ y. contains (symbols_in y) n) (sym same) ∙ h))
stands (x ∷ ss) (suc k) s n at v h =
    let later = stands ss k s n at v h in
    elim (cases_Bool (declaring x)) [
      | inl e ↦ rw e (list_any-append (bytes_eq n) (symbols_in x) (flat_map symbols_in (filter declaring ss)) ∙ or_right (contains (symbols_in x) n) _ later)
      | inr e ↦ rw e later
    ]

pub declared-known : (ss : List Statement) (k : ℕ) (s : Statement) (n : Name) → slice_get ss k ≡ Some s → declaring s ≡ true → contains (symbols_in s) n ≡ true → contains (symbols ss) n ≡ true
declared-known ss k s n at v h = kept_names [] (flat_map symbols_in (filter declaring ss)) n (stands ss k s n at v h) refl

pub variable-known : (ss : List Statement) (k : ℕ) (s : Statement) (n : Name) → slice_get ss k ≡ Some s → has_keyword (codes "$v") s ≡ true
    → contains (symbols_in s) n ≡ true → contains (symbols ss) n ≡ true
variable-known ss k s n at v h = declared-known ss k s n at (declares s v) h
