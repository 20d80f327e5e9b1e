-- Searches in a mapped list.
use Rattle.std.proofs.Common.{◌≡◌, ℕ, zero, suc, get_or, ◌+◌, ◌<◌, ◌≤◌, Bool, true, false, cond, not, ◌||◌, ltb, List, [], ◌∷◌, ◌++◌, length, map}
use Rattle.std.proofs.Common.{take, take_while, drop, drop-cons, subst, position, Option, Some, None, option_map, refl, sym, ap, ◌∙◌, inl, inr, arith}
use Rattle.std.proofs.Common.{Bor}
use Rattle.std.specs.List.{list_any, prefix_len, position_or_len}
use Rattle.std.specs.Str.{bytes_eq}
use Rattle.std.proofs.lemmas.Bool.{cases_Bool}
use Rattle.std.proofs.lemmas.Bool.Decides.{nat_tests}
use Rattle.std.proofs.lemmas.Slice.Eq.{bytes_eq-Decides}
use Rattle.std.specs.Prelude.{nat_lt}
use Rattle.std.proofs.lemmas.List.{length-map, map-append}
use Rattle.mm_model.specs.Names.{contains, has_twice, first_number}
use Rattle.sheet_text.specs.TextFaults.{is_end, without_end, is_bad_distinct}
use Rattle.sheet_text.specs.declared.sheet.Given.TheVariants as given
use Rattle.sheet_text.specs.Forms.{is_gap, entry_of}
use Rattle.sheet_text.specs.Reads.{given_of}
use Rattle.sheet_read.specs.Parts.{targets}
use Rattle.sheet_read.specs.Reading.{is_unknown}
use Rattle.sheet_read.proofs.Codes.{contains-end}
use Rattle.sheet_read.proofs.Copies.{Sees}
use Rattle.sheet_read.proofs.Basics.{cond_then, cond_else}

pub any-map : {K X : Type 0} (p : X → Bool) (f : K → X) (ks : List K) → list_any (λ k. p (f k)) ks ≡ list_any p (map f ks)
any-map p f [] = refl
any-map p f (k ∷ ks) = ap (λ (b : Bool). p (f k) || b) (any-map p f ks)

pub prefix-map : {K X : Type 0} (p : X → Bool) (f : K → X) (ks : List K) → prefix_len (λ k. p (f k)) ks ≡ prefix_len p (map f ks)
prefix-map p f [] = refl
prefix-map p f (k ∷ ks) = ap (λ (n : ℕ). cond (p (f k)) (1 + n) 0) (prefix-map p f ks)

pub map-take : {K X : Type 0} (f : K → X) (n : ℕ) (ks : List K) → map f (take n ks) ≡ take n (map f ks)
map-take f zero ks = refl
map-take f (suc n) [] = refl
map-take f (suc n) (k ∷ ks) = ap (λ l. f k ∷ l) (map-take f n ks)

pub front-map : {K X : Type 0} (p : X → Bool) (f : K → X) (n : ℕ) (ks : List K) → n ≡ prefix_len (λ k. p (f k)) ks → map f (take n ks) ≡ take_while p (map f ks)
front-map p f n ks e = map-take f n ks ∙ ap (λ (m : ℕ). take m (map f ks)) (e ∙ prefix-map p f ks)

-- ---- the number of a name

pub first-position : (p : List ℕ → Bool) (xs : List (List ℕ)) → first_number p xs ≡ position p xs
first-position p [] = refl
first-position p (x ∷ xs) =
    let q = position_or_len p xs in
    let rest = first-position p xs in
    elim (cases_Bool (p x)) [
      | inl e ↦ rw e (sym (cond_then (ltb 0 (suc (length xs))) (Some 0) None (grind (arith, nat_tests))))
      | inr e ↦ rw e (elim (cases_Bool (ltb q (length xs))) [
        | inl h ↦
            let above : ltb (1 + q) (suc (length xs)) ≡ true = grind (arith, nat_tests) in
            let one : suc q ≡ 1 + q = omega arith in
            ap (option_map suc) (rest ∙ cond_then (ltb q (length xs)) (Some q) None h) ∙ ap (λ (n : ℕ). Some n) one ∙ sym (cond_then (ltb (1 + q) (suc (length xs))) (Some (1 + q)) None above)
        | inr h ↦
            let above : ltb (1 + q) (suc (length xs)) ≡ false = grind (arith, nat_tests) in
            ap (option_map suc) (rest ∙ cond_else (ltb q (length xs)) (Some q) None h) ∙ sym (cond_else (ltb (1 + q) (suc (length xs))) (Some (1 + q)) None above)
      ])
    ]

pub number-none : (p : List ℕ → Bool) (xs : List (List ℕ)) → first_number p xs ≡ None → list_any p xs ≡ false
number-none p [] e = refl
number-none p (x ∷ xs) e =
    elim (cases_Bool (p x)) [
      | inl h ↦ absurd (let bad : Some 0 ≡ None = rw h at e in cc)
      | inr h ↦ rw h (number-none p xs (below (first_number p xs) (rw h at e)))
    ]
  where
    below : (o : Option ℕ) → option_map suc o ≡ None → o ≡ None
    below None h = refl
    below (Some n) h = absurd cc

below-some : (o : Option ℕ) (n : ℕ) → option_map suc o ≡ Some n → (m : ℕ) × (o ≡ Some m)
below-some None n h = absurd cc
below-some (Some m) n h = (m, refl)

pub number-some : (p : List ℕ → Bool) (xs : List (List ℕ)) (n : ℕ) → first_number p xs ≡ Some n → list_any p xs ≡ true
number-some p [] n e = absurd cc
number-some p (x ∷ xs) n e =
    elim (cases_Bool (p x)) [
      | inl h ↦ rw h refl
      | inr h ↦
          let b = below-some (first_number p xs) n (rw h at e) in
          rw h (number-some p xs b.0 b.1)
    ]

-- ---- an entry of a step

pub entry-unknown : (names : List (List ℕ)) (entry : List ℕ) (more : List (List ℕ)) → is_gap entry ≡ false → contains names entry ≡ false → is_unknown names (map entry_of (entry ∷ more)) ≡ true
entry-unknown names entry more g h = rw (g, h) refl

pub entry-known : (names : List (List ℕ)) (entry : List ℕ) (more : List (List ℕ)) → is_gap entry ≡ false → contains names entry ≡ true
    → is_unknown names (map entry_of (entry ∷ more)) ≡ is_unknown names (map entry_of more)
entry-known names entry more g h = rw (g, h) refl

pub entry-given : (names : List (List ℕ)) (entry : List ℕ) (n : ℕ) → is_gap entry ≡ false → first_number (bytes_eq entry) names ≡ Some n → given.Step n ≡ given_of names (entry_of entry)
entry-given names entry n g h = rw (g, h) refl

pub gap-known : (names : List (List ℕ)) (entry : List ℕ) (more : List (List ℕ)) → is_gap entry ≡ true → is_unknown names (map entry_of (entry ∷ more)) ≡ is_unknown names (map entry_of more)
gap-known names entry more g = rw g refl

pub gap-given : (names : List (List ℕ)) (entry : List ℕ) → is_gap entry ≡ true → given.Gap ≡ given_of names (entry_of entry)
gap-given names entry g = rw g refl

-- ---- a last `$.`

pub end-cut : (ts : List (Bor (List ℕ))) (n : ℕ) (d : Bor (List ℕ)) → length ts ≡ suc n → is_end (get_or ts n d).now ≡ true → targets (take n ts) ≡ without_end (targets ts)
end-cut [] n d len e = absurd (omega arith)
end-cut (t ∷ []) n d len e =
    let none : n ≡ 0 = omega arith in
    let last : is_end t.now ≡ true = ap (λ (m : ℕ). is_end (get_or (t ∷ []) m d).now) (sym none) ∙ e in
    ap (λ (m : ℕ). targets (take m (t ∷ []))) none ∙ sym (cond_then (is_end t.now) [] (t.now ∷ []) last)
end-cut (t ∷ u ∷ us) zero d len e = absurd (omega arith)
end-cut (t ∷ u ∷ us) (suc n) d len e = ap (λ (l : List (List ℕ)). t.now ∷ l) (end-cut (u ∷ us) n d (omega arith) e)

pub end-kept : (ts : List (Bor (List ℕ))) (n : ℕ) (d : Bor (List ℕ)) → length ts ≡ suc n → is_end (get_or ts n d).now ≡ false → targets ts ≡ without_end (targets ts)
end-kept [] n d len e = absurd (omega arith)
end-kept (t ∷ []) n d len e =
    let none : n ≡ 0 = omega arith in
    let last : is_end t.now ≡ false = ap (λ (m : ℕ). is_end (get_or (t ∷ []) m d).now) (sym none) ∙ e in
    sym (cond_else (is_end t.now) [] (t.now ∷ []) last)
end-kept (t ∷ u ∷ us) zero d len e = absurd (omega arith)
end-kept (t ∷ u ∷ us) (suc n) d len e = ap (λ (l : List (List ℕ)). t.now ∷ l) (end-kept (u ∷ us) n d (omega arith) e)

-- ---- names that were seen

bytes-swap : (a b : List ℕ) → bytes_eq a b ≡ bytes_eq b a
bytes-swap a b =
    elim (cases_Bool (bytes_eq a b)) [
      | inl e ↦ e ∙ sym ((bytes_eq-Decides b a).1 (sym ((bytes_eq-Decides a b).0 e)))
      | inr e ↦ elim (cases_Bool (bytes_eq b a)) [
        | inl f ↦ (bytes_eq-Decides a b).1 (sym ((bytes_eq-Decides b a).0 f)) ∙ sym f
        | inr f ↦ e ∙ sym f
      ]
    ]

or-four : (a b c d : Bool) → ((a || b) || (c || d)) ≡ ((a || c) || (b || d))
or-four true b c d = refl
or-four false true true d = refl
or-four false true false d = refl
or-four false false c d = refl

none-seen : (names : List (List ℕ)) → list_any (contains []) names ≡ false
none-seen [] = refl
none-seen (n ∷ ns) = none-seen ns

seen-more : (seen names : List (List ℕ)) (n : List ℕ) → list_any (contains (seen ++ n ∷ [])) names ≡ (list_any (contains seen) names || contains names n)
seen-more seen [] n = refl
seen-more seen (m ∷ ms) n =
    ap (λ (b : Bool). b || list_any (contains (seen ++ n ∷ [])) ms) (contains-end seen n m ∙ ap (λ (b : Bool). contains seen m || b) (bytes-swap m n))
    ∙ ap (λ (b : Bool). (contains seen m || bytes_eq n m) || b) (seen-more seen ms n)
    ∙ or-four (contains seen m) (bytes_eq n m) (list_any (contains seen) ms) (contains ms n)

pub sees-start : (names : List (List ℕ)) → Sees [] names names
sees-start names = record { eq = ap (λ (b : Bool). b || has_twice names) (none-seen names) }

pub sees-twice : (seen : List (List ℕ)) (n : List ℕ) (rest all : List (List ℕ)) → contains seen n ≡ true → Sees seen (n ∷ rest) all → true ≡ has_twice all
sees-twice seen n rest all e h = sym (ap (λ (b : Bool). (b || list_any (contains seen) rest) || has_twice (n ∷ rest)) e) ∙ h.eq

or-assoc : (a b c : Bool) → ((a || b) || c) ≡ (a || (b || c))
or-assoc true b c = refl
or-assoc false b c = refl

pub sees-more : (seen : List (List ℕ)) (n : List ℕ) (rest all : List (List ℕ)) → contains seen n ≡ false → Sees seen (n ∷ rest) all → Sees (seen ++ n ∷ []) rest all
sees-more seen n rest all e h = record {
  eq =
      ap (λ (b : Bool). b || has_twice rest) (seen-more seen rest n)
      ∙ or-assoc (list_any (contains seen) rest) (contains rest n) (has_twice rest)
      ∙ ap (λ (b : Bool). (b || list_any (contains seen) rest) || has_twice (n ∷ rest)) (sym e)
      ∙ h.eq;
}

-- ---- symbols of a `$d`

same_len : (ts : List (Bor (List ℕ))) (b : Bool) → nat_lt (length ts) 2 ≡ b → nat_lt (length (targets ts)) 2 ≡ b
same_len ts b few = ap (λ (n : ℕ). nat_lt n 2) (length-map ts (λ t. t.now)) ∙ few

pub bad-few : (ts : List (Bor (List ℕ))) → length ts < 2 → true ≡ is_bad_distinct (targets ts)
bad-few ts lt = let len : nat_lt (length (targets ts)) 2 ≡ true = same_len ts true (grind (arith, nat_tests)) in rw len refl

pub bad-twice : (ts : List (Bor (List ℕ))) → 2 ≤ length ts → true ≡ has_twice (targets ts) → true ≡ is_bad_distinct (targets ts)
bad-twice ts few e =
    let len : nat_lt (length (targets ts)) 2 ≡ false = same_len ts false (grind (arith, nat_tests)) in
    let twice : has_twice (targets ts) ≡ true = sym e in
    rw (len, twice) refl

pub bad-any : (ts : List (Bor (List ℕ))) (ends : Bool) → 2 ≤ length ts → false ≡ has_twice (targets ts) → ends ≡ list_any (λ t. is_end t.now) ts → ends ≡ is_bad_distinct (targets ts)
bad-any ts ends few e any =
    let len : nat_lt (length (targets ts)) 2 ≡ false = same_len ts false (grind (arith, nat_tests)) in
    let no : has_twice (targets ts) ≡ false = sym e in
    rw (len, no) (any ∙ any-map is_end (λ t. t.now) ts)

-- ---- the loop that looks for a name that stands twice

abbrev seen_test : Bor (List ℕ) → Bor (List ℕ) → Bool
seen_test x k = bytes_eq x.now k.now

rest-cons : (ts : List (Bor (List ℕ))) (i : ℕ) (d : Bor (List ℕ)) → i < length ts → targets (drop i ts) ≡ (get_or ts i d).now ∷ targets (drop (i + 1) ts)
rest-cons ts i d lt = let one : suc i ≡ i + 1 = omega arith in ap targets (drop-cons ts i d lt) ∙ ap (λ (k : ℕ). (get_or ts i d).now ∷ targets (drop k ts)) one

not-not : (r b : Bool) → r ≡ not b → r ≡ false → b ≡ true
not-not r true e f = refl
not-not r false e f = absurd cc

not-true : (r b : Bool) → r ≡ not b → r ≡ true → b ≡ false
not-true r true e f = absurd cc
not-true r false e f = refl

pub set-twice : (ts keys : List (Bor (List ℕ))) (i : ℕ) (d : Bor (List ℕ)) (r : Bool) → i < length ts
    → r ≡ not (list_any (seen_test (get_or ts i d)) keys) → r ≡ false → Sees (targets keys) (targets (drop i ts)) (targets ts)
    → true ≡ has_twice (targets ts)
set-twice ts keys i d r lt e f h =
    let name = (get_or ts i d).now in
    let seen : contains (targets keys) name ≡ true = sym (any-map (bytes_eq name) (λ k. k.now) keys) ∙ not-not r (list_any (seen_test (get_or ts i d)) keys) e f in
    let here : Sees (targets keys) (name ∷ targets (drop (i + 1) ts)) (targets ts) = subst (λ (l : List (List ℕ)). Sees (targets keys) l (targets ts)) (rest-cons ts i d lt) h in
    sees-twice (targets keys) name (targets (drop (i + 1) ts)) (targets ts) seen here

pub set-more : (ts keys new : List (Bor (List ℕ))) (i : ℕ) (d : Bor (List ℕ)) (r : Bool) → i < length ts
    → r ≡ not (list_any (seen_test (get_or ts i d)) keys) → r ≡ true
    → new ≡ cond (list_any (seen_test (get_or ts i d)) keys) keys (keys ++ get_or ts i d ∷ [])
    → Sees (targets keys) (targets (drop i ts)) (targets ts) → Sees (targets new) (targets (drop (i + 1) ts)) (targets ts)
set-more ts keys new i d r lt e f k h =
    let name = (get_or ts i d).now in
    let none = not-true r (list_any (seen_test (get_or ts i d)) keys) e f in
    let unseen : contains (targets keys) name ≡ false = sym (any-map (bytes_eq name) (λ k. k.now) keys) ∙ none in
    let here : Sees (targets keys) (name ∷ targets (drop (i + 1) ts)) (targets ts) = subst (λ (l : List (List ℕ)). Sees (targets keys) l (targets ts)) (rest-cons ts i d lt) h in
    let put : targets new ≡ targets keys ++ name ∷ [] =
    ap targets (k ∙ cond_else (list_any (seen_test (get_or ts i d)) keys) keys (keys ++ get_or ts i d ∷ []) none)
    ∙ map-append (λ k. k.now) keys (get_or ts i d ∷ []) in
    subst (λ (l : List (List ℕ)). Sees l (targets (drop (i + 1) ts)) (targets ts)) (sym put) (sees-more (targets keys) name (targets (drop (i + 1) ts)) (targets ts) unseen here)

pub set-start : (ts keys : List (Bor (List ℕ))) → keys ≡ [] → Sees (targets keys) (targets ts) (targets ts)
set-start ts keys e = subst (λ (l : List (Bor (List ℕ))). Sees (targets l) (targets ts) (targets ts)) (sym e) (sees-start (targets ts))
