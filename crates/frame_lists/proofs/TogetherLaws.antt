-- What is noted of pairs of variables, as `$d` are taken in and left out.
use Rattle.std.proofs.Common.{◌≡◌, ℕ, zero, suc, ◌+◌, ◌<◌, ◌≤◌, Bool, true, false, not, cond, ◌&&◌, ◌||◌, ◌⊎◌, List, [], ◌∷◌, ◌++◌, length, take, drop, map}
use Rattle.std.proofs.Common.{Option, Some, None, append-nil, get_or, slice_get, nat_eq, nat_lt, refl, sym, ap, ◌∙◌, arith, inl, inr, subst}
use Rattle.std.specs.List.{list_any, filter}
use Rattle.std.proofs.lemmas.Bool.{cases_Bool, or_cases, or_left, or_right, and_parts, and_from, eqb-true}
use Rattle.std.proofs.lemmas.Bool.Decides.{nat_tests}
use Rattle.std.proofs.lemmas.List.Folds.{list_any-append}
use Rattle.std.proofs.lemmas.List.{take_more}
use Rattle.mm_base.specs.declared.symbols.Sym.{Sym}
use Rattle.mm_base.specs.declared.symbols.Pair.{Pair}
use Rattle.frame_lists.specs.declared.listed.Listed.{Listed}
use Rattle.frame_lists.specs.declared.together.Together.{Together}
use Rattle.frame_lists.specs.declared.entry.EntryKind.{EntryKind}
use Rattle.frame_lists.specs.declared.entry.EntryKind.TheVariants as entry
use Rattle.frame_lists.specs.declared.entry.StatementKind.TheVariants as kind
use Rattle.frame_lists.specs.declared.scope.Scope.{Scope}
use Rattle.frame_lists.specs.declared.scope.Block.{Block}
use Rattle.frame_lists.specs.Orders.{ArePairs, Ordered, PairsRise}
use Rattle.frame_lists.specs.Steps.{has, symbols_at, pairs_all, found_pairs, pair_of, passed, closed_at, last_block}
use Rattle.frame_lists.specs.Together.{known_pairs, same_pair, stand, place_of, is_there, has_pair, IsNoted, IsEarlier, IsTogether, IsFront}
use Rattle.frame_lists.proofs.Members.{In, in_contains, contains_in, in_append, in_left, in_right, in_has, has_in, in_filter, filter_in, any_found, any_there}
use Rattle.frame_lists.proofs.Added.{float-distinct}
use Rattle.frame_lists.proofs.PairLaws.{in_all_pairs, all_in, in_found, found_base, found_in}

same-pair : (p q : ℕ × ℕ) → same_pair p q ≡ true → p ≡ q
same-pair p q e =
    let both = and_parts (nat_eq p.0 q.0) (nat_eq p.1 q.1) e in
    let make : ℕ → ℕ → ℕ × ℕ = λ a b. (a, b) in
    ap (λ x. make x p.1) (eqb-true p.0 q.0 both.0) ∙ ap (λ y. make q.0 y) (eqb-true p.1 q.1 both.1)

eq-self : (n : ℕ) → nat_eq n n ≡ true
eq-self n = grind (arith, nat_tests)

pair-self : (p : ℕ × ℕ) → same_pair p p ≡ true
pair-self p = and_from (nat_eq p.0 p.0) (nat_eq p.1 p.1) (eq-self p.0) (eq-self p.1)

-- ---- one more pair is noted

abbrev pub put_at : Bool → Bool → ℕ → Option ℕ → Option ℕ
put_at a b n o = cond (a && not b) (Some n) o

put-cases : (a b : Bool) (n : ℕ) (o : Option ℕ) → (put_at a b n o ≡ o) ⊎ ((a ≡ true) × (b ≡ false) × (put_at a b n o ≡ Some n))
put-cases true true n o = inl refl
put-cases true false n o = inr (refl, refl, refl)
put-cases false b n o = inl refl

put-new : (a b : Bool) (n : ℕ) (o : Option ℕ) → a ≡ true → b ≡ false → put_at a b n o ≡ Some n
put-new true false n o h k = refl
put-new true true n o h k = absurd cc
put-new false b n o h k = absurd cc

module _ (old : Together) (number : ℕ) where
  pub noted-more : (ps : List (ℕ × ℕ)) (p : ℕ × ℕ) (m new : Together) → IsNoted old number ps m → new.numbers ≡ m.numbers
      → ((q : ℕ × ℕ) → place_of new q ≡ put_at (same_pair p q) (has_pair m p) number (place_of m q)) → IsNoted old number (ps ++ p ∷ []) new
  noted-more ps p m new i numbers places = record {
    numbers = numbers ∙ i.numbers;
    noted = λ q. elim (put-cases (same_pair p q) (has_pair m p) number (place_of m q)) [
      | inl same ↦ elim (i.noted q) [
        | inl e ↦ inl (places q ∙ same ∙ e)
        | inr e ↦ inr (places q ∙ same ∙ e.0, in_contains q (ps ++ p ∷ []) (in_left q ps (p ∷ []) (contains_in q ps e.1)))
      ]
      | inr put ↦ inr (places q ∙ put.2, in_contains q (ps ++ p ∷ []) (in_right q ps (p ∷ []) (inl (sym (same-pair p q put.0)))))
    ];
    kept = λ q h. elim (put-cases (same_pair p q) (has_pair m p) number (place_of m q)) [
      | inl same ↦ places q ∙ same ∙ i.kept q h
      | inr put ↦
          let there : has_pair m q ≡ true = ap (λ ns. is_there ns (place_of m q)) i.numbers ∙ ap (λ o. is_there old.numbers o) (i.kept q h) ∙ h in
          let none : has_pair m q ≡ false = ap (λ r. has_pair m r) (sym (same-pair p q put.0)) ∙ put.1 in
          absurd (apart (has_pair m q) there none)
    ];
    all = λ q c. elim (in_append q ps (p ∷ []) (contains_in q (ps ++ p ∷ []) c)) [
      | inl k ↦ elim (i.all q (in_contains q ps k)) [
        | inl h ↦ inl h
        | inr e ↦ elim (put-cases (same_pair p q) (has_pair m p) number (place_of m q)) [
          | inl same ↦ inr (places q ∙ same ∙ e)
          | inr put ↦ inr (places q ∙ put.2)
        ]
      ]
      | inr k ↦ elim k [
        | inl e ↦ subst (λ (r : ℕ × ℕ). (has_pair old r ≡ true) ⊎ (place_of new r ≡ Some number)) (sym e) here
        | inr none ↦ absurd none
      ]
    ];
  }
    where
      apart : (b : Bool) → b ≡ true → b ≡ false → ⊥
      apart true h k = absurd cc
      apart false h k = absurd cc

      kept-there : has_pair m p ≡ true → (has_pair old p ≡ true) ⊎ (place_of new p ≡ Some number)
      kept-there h = elim (i.noted p) [
        | inl e ↦ inl (ap (λ o. is_there old.numbers o) (sym e) ∙ ap (λ ns. is_there ns (place_of m p)) (sym i.numbers) ∙ h)
        | inr e ↦ elim (put-cases (same_pair p p) (has_pair m p) number (place_of m p)) [
          | inl same ↦ inr (places p ∙ same ∙ e.0)
          | inr put ↦ inr (places p ∙ put.2)
        ]
      ]

      here : (has_pair old p ≡ true) ⊎ (place_of new p ≡ Some number)
      here = elim (cases_Bool (has_pair m p)) [
        | inl h ↦ kept-there h
        | inr h ↦ inr (places p ∙ put-new (same_pair p p) (has_pair m p) number (place_of m p) (pair-self p) h)
      ]

-- ---- lists and places

some_is : (a b : ℕ) → Some a ≡ Some b → a ≡ b
some_is a b e = cc

get-front : (xs ys : List ℕ) (k n : ℕ) → slice_get xs k ≡ Some n → slice_get (xs ++ ys) k ≡ Some n
get-front [] ys k n e = absurd (none-of k e)
  where
    none-of : (k : ℕ) → slice_get [] k ≡ Some n → ⊥
    none-of zero e = absurd cc
    none-of (suc k) e = absurd cc
get-front (x ∷ xs) ys zero n e = e
get-front (x ∷ xs) ys (suc k) n e = get-front xs ys k n e

get-last : (xs : List ℕ) (n : ℕ) → slice_get (xs ++ n ∷ []) (length xs) ≡ Some n
get-last [] n = refl
get-last (x ∷ xs) n = get-last xs n

get-below : (xs : List ℕ) (k n : ℕ) → slice_get xs k ≡ Some n → k < length xs
get-below [] zero n e = absurd cc
get-below [] (suc k) n e = absurd cc
get-below (x ∷ xs) zero n e = omega arith
get-below (x ∷ xs) (suc k) n e = let less = get-below xs k n e in omega (arith, less)

last-or : (xs : List ℕ) (m k n : ℕ) → slice_get (xs ++ m ∷ []) k ≡ Some n → (slice_get xs k ≡ Some n) ⊎ ((k ≡ length xs) × (n ≡ m))
last-or [] m zero n e = inr (refl, sym (some_is m n e))
last-or [] m (suc k) n e = absurd cc
last-or (x ∷ xs) m zero n e = inl e
last-or (x ∷ xs) m (suc k) n e = elim (last-or xs m k n e) [ inl h ↦ inl h | inr h ↦ inr (ap (λ (j : ℕ). suc j) h.0, h.1) ]

get-taken : (xs : List ℕ) (c k n : ℕ) → slice_get (take c xs) k ≡ Some n → (k < c) × (slice_get xs k ≡ Some n)
get-taken xs zero zero n e = absurd cc
get-taken xs zero (suc k) n e = absurd cc
get-taken [] (suc c) k n e = absurd (none-of k e)
  where
    none-of : (k : ℕ) → slice_get [] k ≡ Some n → ⊥
    none-of zero e = absurd cc
    none-of (suc k) e = absurd cc
get-taken (x ∷ xs) (suc c) zero n e = (omega arith, e)
get-taken (x ∷ xs) (suc c) (suc k) n e = let r = get-taken xs c k n e in (omega (arith, r.0), r.1)

taken-get : (xs : List ℕ) (c k n : ℕ) → k < c → slice_get xs k ≡ Some n → slice_get (take c xs) k ≡ Some n
taken-get xs zero k n h e = let bad : ⊥ = omega (arith, h) in absurd bad
taken-get [] (suc c) k n h e = e
taken-get (x ∷ xs) (suc c) zero n h e = e
taken-get (x ∷ xs) (suc c) (suc k) n h e = taken-get xs c k n (omega (arith, h)) e

in-get : (n : ℕ) (xs : List ℕ) → In n xs → (k : ℕ) × (slice_get xs k ≡ Some n)
in-get n [] i = absurd i
in-get n (x ∷ xs) i = elim i [ inl e ↦ (0, ap (λ (m : ℕ). Some m) (sym e)) | inr j ↦ let r = in-get n xs j in (suc r.0, r.1) ]

get-in : (n k : ℕ) (xs : List ℕ) → slice_get xs k ≡ Some n → In n xs
get-in n zero [] e = absurd cc
get-in n (suc k) [] e = absurd cc
get-in n zero (x ∷ xs) e = inl (sym (some_is x n e))
get-in n (suc k) (x ∷ xs) e = inr (get-in n k xs e)

record Noted (t : Together) (q : ℕ × ℕ) : Type 0 where
  pub number : ℕ
  pub is_noted : place_of t q ≡ Some number
  pub is_in : In number t.numbers

noted-number : (t : Together) (q : ℕ × ℕ) → has_pair t q ≡ true → Noted t q
noted-number t q h = at (place_of t q) refl h
  where
    at : (o : Option ℕ) → place_of t q ≡ o → is_there t.numbers (place_of t q) ≡ true → Noted t q
    at None e h = let bad : false ≡ true = ap (λ o. is_there t.numbers o) (sym e) ∙ h in absurd cc
    at (Some n) e h = record { number = n; is_noted = e; is_in = has_in n t.numbers (ap (λ o. is_there t.numbers o) (sym e) ∙ h) }

number-noted : (t : Together) (q : ℕ × ℕ) (n : ℕ) → place_of t q ≡ Some n → In n t.numbers → has_pair t q ≡ true
number-noted t q n e i = ap (λ o. is_there t.numbers o) e ∙ in_has n t.numbers i

-- ---- taking in and leaving out

pub pushed : (l : Listed) (old noted new : Together) (number : ℕ) (ps : List (ℕ × ℕ)) → IsTogether l old → IsNoted old number ps noted
    → ((q : ℕ × ℕ) → In q ps → stand l q number ≡ true) → ((q : ℕ × ℕ) → nat_lt q.0 q.1 ≡ true → stand l q number ≡ true → In q ps)
    → new.numbers ≡ old.numbers ++ number ∷ [] → ((q : ℕ × ℕ) → place_of new q ≡ place_of noted q) → IsTogether l new
pushed l old noted new number ps is n they all numbers places = record {
  sound = λ q d e. elim (n.noted q) [
    | inl same ↦ is.sound q d (sym same ∙ sym (places q) ∙ e)
    | inr put ↦ subst (λ (m : ℕ). stand l q m ≡ true) (some_is number d (sym put.0 ∙ sym (places q) ∙ e)) (they q (contains_in q ps put.1))
  ];
  whole = λ k d q at less both. elim (last-or old.numbers number k d (ap (λ ns. slice_get ns k) (sym numbers) ∙ at)) [
    | inl before ↦ from-old k q (is.whole k d q before less both)
    | inr last ↦ elim (n.all q (in_contains q ps (all q less (subst (λ (m : ℕ). stand l q m ≡ true) last.1 both)))) [
      | inl h ↦
          let r = noted-number old q h in
          let g = in-get r.number old.numbers r.is_in in
          let low = get-below old.numbers g.0 r.number g.1 in
          let long = last.0 in
          from-old k q (record { number = r.number; at = g.0; is_noted = r.is_noted; is_at = g.1; is_before = omega (arith, low, long) })
      | inr e ↦
          let long = last.0 in
          record {
            number = number;
            at = length old.numbers;
            is_noted = places q ∙ e;
            is_at = ap (λ ns. slice_get ns (length old.numbers)) numbers ∙ get-last old.numbers number;
            is_before = omega (arith, long);
          }
    ]
  ];
}
  where
    from-old : (k : ℕ) (q : ℕ × ℕ) → IsEarlier old k q → IsEarlier new k q
    from-old k q x = record {
      number = x.number;
      at = x.at;
      is_noted = places q ∙ n.kept q (number-noted old q x.number x.is_noted (get-in x.number x.at old.numbers x.is_at)) ∙ x.is_noted;
      is_at = ap (λ ns. slice_get ns x.at) numbers ∙ get-front old.numbers (number ∷ []) x.at x.number x.is_at;
      is_before = x.is_before;
    }

pub cut-together : (l : Listed) (old new : Together) (c : ℕ) → new.numbers ≡ take c old.numbers → ((q : ℕ × ℕ) → place_of new q ≡ place_of old q) → IsTogether l old → IsTogether l new
cut-together l old new c numbers places is = record {
  sound = λ q d e. is.sound q d (sym (places q) ∙ e);
  whole = λ k d q at less both.
      let r = get-taken old.numbers c k d (ap (λ ns. slice_get ns k) (sym numbers) ∙ at) in
      let x = is.whole k d q r.1 less both in
      let before = x.is_before in
      let within = r.0 in
      record {
        number = x.number;
        at = x.at;
        is_noted = places q ∙ x.is_noted;
        is_at = ap (λ ns. slice_get ns x.at) numbers ∙ taken-get old.numbers c x.at x.number (omega (arith, before, within)) x.is_at;
        is_before = x.is_before;
      };
}

-- ---- the pairs of a `$d`

symbol-in : (n : ℕ) (ss : List Sym) → In n (map (λ (s : Sym). s.0) ss) → list_any (λ (s : Sym). nat_eq n s.0) ss ≡ true
symbol-in n [] i = absurd i
symbol-in n (s ∷ ss) i = elim i [
  | inl e ↦ or_left (nat_eq n s.0) (list_any (λ (r : Sym). nat_eq n r.0) ss) (ap (λ m. nat_eq n m) (sym e) ∙ eq-self n)
  | inr k ↦ or_right (nat_eq n s.0) (list_any (λ (r : Sym). nat_eq n r.0) ss) (symbol-in n ss k)
]

in-symbol : (n : ℕ) (ss : List Sym) → list_any (λ (s : Sym). nat_eq n s.0) ss ≡ true → In n (map (λ (s : Sym). s.0) ss)
in-symbol n [] h = absurd cc
in-symbol n (s ∷ ss) h = elim (or_cases (nat_eq n s.0) (list_any (λ (r : Sym). nat_eq n r.0) ss) h) [
  | inl e ↦ inl (eqb-true n s.0 e)
  | inr k ↦ inr (in-symbol n ss k)
]

abbrev pub all_pairs : List Sym → List (ℕ × ℕ)
all_pairs ss = pairs_all [] (map (λ (s : Sym). s.0) ss)

pairs-stand : (ss : List Sym) (q : ℕ × ℕ) → In q (all_pairs ss) → (list_any (λ (s : Sym). nat_eq q.0 s.0) ss && list_any (λ (s : Sym). nat_eq q.1 s.0) ss) ≡ true
pairs-stand ss q i = elim (in_all_pairs (map (λ (s : Sym). s.0) ss) [] (map (λ (s : Sym). s.0) ss) q i) [
  | inl none ↦ absurd none
  | inr b ↦ and_from (list_any (λ (s : Sym). nat_eq q.0 s.0) ss) (list_any (λ (s : Sym). nat_eq q.1 s.0) ss) (symbol-in q.0 ss b.one) (symbol-in q.1 ss b.other)
]

stand-pairs : (ss : List Sym) (q : ℕ × ℕ) → nat_lt q.0 q.1 ≡ true → (list_any (λ (s : Sym). nat_eq q.0 s.0) ss && list_any (λ (s : Sym). nat_eq q.1 s.0) ss) ≡ true → In q (all_pairs ss)
stand-pairs ss q less h =
    let both = and_parts (list_any (λ (s : Sym). nat_eq q.0 s.0) ss) (list_any (λ (s : Sym). nat_eq q.1 s.0) ss) h in
    all_in (map (λ (s : Sym). s.0) ss) [] (map (λ (s : Sym). s.0) ss) q.0 q.1 (in-symbol q.0 ss both.0) (in-symbol q.1 ss both.1) less

pub pushed-all : (l : Listed) (old noted new : Together) (number : ℕ) (ps : List (ℕ × ℕ)) → ps ≡ all_pairs (symbols_at l number) → IsNoted old number ps noted
    → new.numbers ≡ old.numbers ++ number ∷ [] → ((q : ℕ × ℕ) → place_of new q ≡ place_of noted q) → IsTogether l old → IsTogether l new
pushed-all l old noted new number ps e n numbers places is =
    pushed l old noted new number ps is n
    (λ q i. pairs-stand (symbols_at l number) q (subst (λ (qs : List (ℕ × ℕ)). In q qs) e i))
    (λ q less h. subst (λ (qs : List (ℕ × ℕ)). In q qs) (sym e) (stand-pairs (symbols_at l number) q less h)) numbers places

-- ---- the first of the active `$d`, as a statement is passed

pub none-front : (l : Listed) (t : Together) → t.numbers ≡ [] → ((q : ℕ × ℕ) → place_of t q ≡ None) → IsFront l [] t
none-front l t numbers places = record {
  together = record {
    sound = λ q n e. let bad : None ≡ Some n = sym (places q) ∙ e in absurd cc;
    whole = λ k n q at less h. nothing k n (ap (λ ns. slice_get ns k) (sym numbers) ∙ at);
  };
  first = numbers ∙ sym (ap (λ ns. take (length ns) []) numbers);
}
  where
    nothing : (k n : ℕ) → slice_get [] k ≡ Some n → {A : Type 0} → A
    nothing zero n e = absurd cc
    nothing (suc k) n e = absurd cc

take-none : (c : ℕ) → (let none : List ℕ = [] in take c none ≡ none)
take-none zero = refl
take-none (suc c) = refl

-- what is cut to the length of a list begins it
abbrev Front : List ℕ → List ℕ → Type 0
Front ns es = take (length es) ns ≡ take (length (take (length es) ns)) es

front-none : (es : List ℕ) → Front [] es
front-none es = take-none (length es) ∙ sym (ap (λ ns. take (length ns) es) (take-none (length es)))

front-grown : (ns rest zs : List ℕ) → Front ns ((ns ++ rest) ++ zs)
front-grown [] rest zs = front-none (rest ++ zs)
front-grown (n ∷ ns) rest zs = ap (λ ms. n ∷ ms) (front-grown ns rest zs)

front-cut : (ns rest : List ℕ) (b : ℕ) → Front ns (take b (ns ++ rest))
front-cut [] rest b = front-none (take b rest)
front-cut (n ∷ ns) rest zero = refl
front-cut (n ∷ ns) rest (suc b) = ap (λ ms. n ∷ ms) (front-cut ns rest b)

abbrev Moved : List ℕ → List ℕ → Type 0
Moved ds es = ((zs : List ℕ) × (es ≡ ds ++ zs)) ⊎ ((b : ℕ) × (es ≡ take b ds))

stays : (ds : List ℕ) → Moved ds ds
stays ds = inl ([], sym (append-nil ds))

moved : (k : EntryKind) (ss : List Sym) (at n : ℕ) (s : Scope) → Moved s.distinct (passed k ss at n s).distinct
moved entry.OpenBlock ss at n s = stays s.distinct
moved entry.CloseBlock ss at n s = closed (last_block s.blocks)
  where
    closed : (o : Option Block) → Moved s.distinct (closed_at o s).distinct
    closed None = stays s.distinct
    closed (Some b) = inr (b.distinct, refl)
moved (entry.Statement kind.Constants) ss at n s = stays s.distinct
moved (entry.Statement kind.Variables) ss at n s = stays s.distinct
moved (entry.Statement kind.Distinct) ss at n s = inl (at ∷ [], refl)
moved (entry.Statement kind.Floating) ss at n s = inl ([], float-distinct (record s { hyps = s.hyps ++ n ∷ [] }) n ss ∙ sym (append-nil s.distinct))
moved (entry.Statement kind.Essential) ss at n s = stays s.distinct
moved (entry.Statement kind.Axiom) ss at n s = stays s.distinct
moved (entry.Statement kind.Provable) ss at n s = stays s.distinct

split : (c : ℕ) (xs : List ℕ) → xs ≡ take c xs ++ drop c xs
split zero xs = refl
split (suc c) [] = refl
split (suc c) (x ∷ xs) = ap (λ ys. x ∷ ys) (split c xs)

front-moved : (ns ds es : List ℕ) → ns ≡ take (length ns) ds → Moved ds es → Front ns es
front-moved ns ds es first m =
    let rest = drop (length ns) ds in
    let whole : ds ≡ ns ++ rest = split (length ns) ds ∙ ap (λ ms. ms ++ rest) (sym first) in
    elim m [
      | inl g ↦ subst (λ (xs : List ℕ). Front ns xs) (sym (g.1 ∙ ap (λ xs. xs ++ g.0) whole)) (front-grown ns rest g.0)
      | inr c ↦ subst (λ (xs : List ℕ). Front ns xs) (sym (c.1 ∙ ap (λ xs. take c.0 xs) whole)) (front-cut ns rest c.0)
    ]

pub front-passed : (l : Listed) (k : EntryKind) (ss : List Sym) (at n c : ℕ) (s new : Scope) (t u : Together) → new ≡ passed k ss at n s → c ≡ length new.distinct
    → u.numbers ≡ take c t.numbers → ((q : ℕ × ℕ) → place_of u q ≡ place_of t q) → IsFront l s.distinct t → IsFront l new.distinct u
front-passed l k ss at n c s new t u is long numbers places f = record {
  together = cut-together l t u c numbers places f.together;
  first =
      let m : Moved s.distinct new.distinct = subst (λ (x : Scope). Moved s.distinct x.distinct) (sym is) (moved k ss at n s) in
      let cut : u.numbers ≡ take (length new.distinct) t.numbers = numbers ∙ ap (λ j. take j t.numbers) long in
      cut ∙ front-moved t.numbers s.distinct new.distinct f.first m ∙ ap (λ ns. take (length ns) new.distinct) (sym cut);
}

-- ---- one more of them is taken in

length-push : (ns : List ℕ) (n : ℕ) → length (ns ++ n ∷ []) ≡ suc (length ns)
length-push [] n = refl
length-push (m ∷ ns) n = ap (λ (k : ℕ). suc k) (length-push ns n)

abbrev pub IsTaken : Listed → List ℕ → ℕ → Together → Type 0
IsTaken l ds place t = IsTogether l t × (t.numbers ≡ take place ds) × (length t.numbers ≡ place)

pub taken-start : (l : Listed) (ds : List ℕ) (t : Together) (place : ℕ) → place ≡ length t.numbers → IsFront l ds t → IsTaken l ds place t
taken-start l ds t place e f = (f.together, f.first ∙ ap (λ k. take k ds) (sym e), sym e)

pub taken-front : (l : Listed) (ds : List ℕ) (t : Together) (place : ℕ) → IsTaken l ds place t → IsFront l ds t
taken-front l ds t place i = record { together = i.0; first = i.1 ∙ ap (λ k. take k ds) (sym i.2) }

pub taken-more : (l : Listed) (ds : List ℕ) (old new : Together) (place number : ℕ) → place < length ds → number ≡ get_or ds place number → IsTaken l ds place old
    → (IsTogether l old → IsTogether l new) → new.numbers ≡ old.numbers ++ number ∷ [] → IsTaken l ds (place + 1) new
taken-more l ds old new place number less at i whole numbers =
    let grown = length-push old.numbers number in
    let long = i.2 in
    let same = ap (λ ns. length ns) numbers in (
      whole i.0,
      numbers ∙ ap (λ ns. ns ++ number ∷ []) i.1 ∙ ap (λ (m : ℕ). take place ds ++ m ∷ []) at ∙ sym (take_more ds place number less),
      omega (arith, grown, long, same),
    )

pub front-within : (l : Listed) (ds : List ℕ) (t : Together) → IsFront l ds t → length t.numbers ≤ length ds
front-within l ds t f = let less = shorter (length t.numbers) ds in let same = ap (λ ns. length ns) f.first in omega (arith, less, same)
  where
    shorter : (c : ℕ) (xs : List ℕ) → length (take c xs) ≤ length xs
    shorter zero xs = omega arith
    shorter (suc c) [] = omega arith
    shorter (suc c) (x ∷ xs) = let less = shorter c xs in omega (arith, less)

-- ---- what is found by them

pub found-there : (l : Listed) (t : Together) (q : ℕ × ℕ) → IsTogether l t → has_pair t q ≡ true → list_any (stand l q) t.numbers ≡ true
found-there l t q is h = let r = noted-number t q h in any_there (stand l q) r.number t.numbers r.is_in (is.sound q r.number r.is_noted)

pub there-found : (l : Listed) (t : Together) (q : ℕ × ℕ) → IsTogether l t → nat_lt q.0 q.1 ≡ true → list_any (stand l q) t.numbers ≡ true → has_pair t q ≡ true
there-found l t q is less h =
    let r = any_found (stand l q) t.numbers h in
    let g = in-get r.0 t.numbers r.1 in
    let x = is.whole g.0 r.0 q g.1 less r.2 in
    number-noted t q x.number x.is_noted (get-in x.number x.at t.numbers x.is_at)

-- ---- the pairs of a set

any-split : (p : ℕ → Bool) (c : ℕ) (xs : List ℕ) → list_any p xs ≡ (list_any p (take c xs) || list_any p (drop c xs))
any-split p c xs = ap (λ ys. list_any p ys) (split c xs) ∙ list_any-append p (take c xs) (drop c xs)

module _ (l : Listed) (ds : List ℕ) (t : Together) (set : List ℕ) (front : IsFront l ds t) where
  abbrev rest : List ℕ
  rest = drop (length t.numbers) ds

  abbrev base : List (ℕ × ℕ)
  base = filter (has_pair t) (pairs_all [] set)

  stands : (p : ℕ × ℕ) → list_any (stand l p) ds ≡ (list_any (stand l p) t.numbers || list_any (stand l p) rest)
  stands p = any-split (stand l p) (length t.numbers) ds ∙ ap (λ ns. list_any (stand l p) ns || list_any (stand l p) rest) (sym front.first)

  is-found : (p : ℕ × ℕ) → has set p.0 ≡ true → has set p.1 ≡ true → nat_lt p.0 p.1 ≡ true → list_any (stand l p) ds ≡ true → In p (found_pairs l ds set)
  is-found p a b less h = found_in l set [] ds p.0 p.1 a b less h

  known-found : (p : ℕ × ℕ) → In p (known_pairs l ds t set) → In p (found_pairs l ds set)
  known-found p i = elim (in_found l set base rest p i) [
    | inl k ↦
        let f = in_filter (has_pair t) p (pairs_all [] set) k in
        elim (in_all_pairs set [] set p f.0) [
          | inl none ↦ absurd none
          | inr b ↦ is-found p (in_has p.0 set b.one) (in_has p.1 set b.other) b.less
              (stands p ∙ or_left (list_any (stand l p) t.numbers) (list_any (stand l p) rest) (found-there l t p front.together f.1))
        ]
    | inr f ↦ is-found p f.one f.other f.less (stands p ∙ or_right (list_any (stand l p) t.numbers) (list_any (stand l p) rest) f.stand)
  ]

  found-known : (p : ℕ × ℕ) → In p (found_pairs l ds set) → In p (known_pairs l ds t set)
  found-known p i = elim (in_found l set [] ds p i) [
    | inl none ↦ absurd none
    | inr f ↦ elim (or_cases (list_any (stand l p) t.numbers) (list_any (stand l p) rest) (sym (stands p) ∙ f.stand)) [
      | inl h ↦ found_base l set base rest p
          (filter_in (has_pair t) p (pairs_all [] set) (all_in set [] set p.0 p.1 (has_in p.0 set f.one) (has_in p.1 set f.other) f.less)
          (there-found l t p front.together f.less h))
      | inr h ↦ found_in l set base rest p.0 p.1 f.one f.other f.less h
    ]
  ]

  pub known-are : (ps : List (ℕ × ℕ)) (pairs : List Pair) → Ordered PairsRise (known_pairs l ds t set) ps → pairs ≡ map pair_of ps → ArePairs l ds set pairs
  known-are ps pairs o e = (
    ps,
    record {
      rises = o.rises;
      keeps = λ p c. o.keeps p (in_contains p (known_pairs l ds t set) (found-known p (contains_in p (found_pairs l ds set) c)));
      adds_none = λ p c. in_contains p (found_pairs l ds set) (known-found p (contains_in p (known_pairs l ds t set) (o.adds_none p c)));
    },
    e,
  )
