-- Where constants are declared, and typecodes of `$f`.
use Rattle.std.proofs.Common.{◌≡◌, ℕ, zero, suc, ◌+◌, ◌<◌, ◌≤◌, ◌==◌, ◌^◌, Bool, true, false, cond, ◌&&◌, ◌||◌, List, [], ◌∷◌, ◌++◌, append-nil}
use Rattle.std.proofs.Common.{append_assoc, length, take, map, reverse, flat_map, fold, Some, slice_get, option_map, slice_set, get_or, nat_lt, refl}
use Rattle.std.proofs.Common.{sym, ap, ◌∙◌, arith, subst, inl, inr, codes, replicate}
use Rattle.std.specs.Str.{bytes_eq}
use Rattle.std.proofs.lemmas.Bool.{cases_Bool, or_left, or_right}
use Rattle.std.proofs.lemmas.Bool.Decides.{nat_tests}
use Rattle.mm_base.specs.declared.symbols.Typecode.{Typecode}
use Rattle.mm_model.specs.Names.{Name, contains, typecode}
use Rattle.mm_model.specs.Statements.{Statement, has_keyword, symbols_in, with_keyword}
use Rattle.mm_model.specs.Frames.{symbols, symbol_in, below}
use Rattle.model_laws.specs.StatementLaws.{AreSound, IsSound}
use Rattle.frame_lists.specs.declared.entry.Entry.{Entry}
use Rattle.frame_lists.specs.Entries.{entry_in, kind_in}
use Rattle.frame_lists.specs.Listings.{declared_by, constant_places, codes_of}
use Rattle.frame_lists.specs.Places.{is_constants, no_place, noted_more, noted, noted_entry, noted_at, places_upto, codes_more, with_first}
use Rattle.frame_lists.specs.Steps.{is_floating}
use Rattle.frame_lists.proofs.Keywords.{kind-is_floating, constants-kind, no-keyword}
use Rattle.frame_lists.proofs.Placed.{below-next, below-length}
use Rattle.frame_lists.proofs.ByNumber.{Fresh, names-fresh, number, number-within, place-name, same-names, name-self, declares-constants, declared-known}
use Rattle.frame_lists.proofs.MandatoryLaws.{get-map}
use Rattle.frame_lists.proofs.UptoLaws.{statement-at, sound-below}

-- ---- typecodes

abbrev code : List Name → Name → Typecode
code names n = typecode (symbol_in names n)

abbrev firsts_of : List Statement → List Name
firsts_of ss = flat_map (λ x. take 1 (symbols_in x)) (with_keyword (codes "$f") ss)

codes-from : (names : List Name) (cs : List Typecode) (ss : List Statement) → fold codes_more cs (map (entry_in names) ss) ≡ cs ++ map (code names) (firsts_of ss)
codes-from names cs [] = sym (append-nil cs)
codes-from names cs (s ∷ ss) = elim (cases_Bool (has_keyword (codes "$f") s)) [
  | inl k ↦ first (sym (kind-is_floating s) ∙ k)
      ∙ sym
      (ap (λ b. cs
      ++ map (code names)
      (flat_map (λ x. take 1 (symbols_in x)) (cond b (s ∷ with_keyword (codes "$f") ss) (with_keyword (codes "$f") ss)))) k
      ∙ sym (a_float (symbols_in s) (λ ds. codes-from names ds ss)))
  | inr k ↦ first (sym (kind-is_floating s) ∙ k)
      ∙ sym
      (ap (λ b. cs
      ++ map (code names)
      (flat_map (λ x. take 1 (symbols_in x)) (cond b (s ∷ with_keyword (codes "$f") ss) (with_keyword (codes "$f") ss)))) k
      ∙ sym (codes-from names cs ss))
]
  where
    first : {b : Bool} → is_floating (kind_in s) ≡ b
        → fold codes_more cs (map (entry_in names) (s ∷ ss))
        ≡ fold codes_more (cond b (with_first cs (map (symbol_in names) (symbols_in s))) cs) (map (entry_in names) ss)
    first e = ap (λ b. fold codes_more (cond b (with_first cs (map (symbol_in names) (symbols_in s))) cs) (map (entry_in names) ss)) e

    a_float : (us : List Name) → ((ds : List Typecode) → fold codes_more ds (map (entry_in names) ss) ≡ ds ++ map (code names) (firsts_of ss))
        → fold codes_more (with_first cs (map (symbol_in names) us)) (map (entry_in names) ss) ≡ cs ++ map (code names) (take 1 us ++ firsts_of ss)
    a_float [] f = f cs
    a_float (u ∷ us) f = f (cs ++ code names u ∷ []) ∙ append_assoc cs (code names u ∷ []) (map (code names) (firsts_of ss))

pub codes-law : (names : List Name) (ss : List Statement) → fold codes_more [] (map (entry_in names) ss) ≡ codes_of names ss
codes-law names ss = codes-from names [] ss

-- ---- one symbol of a `$c`

map-same : (f g : Name → ℕ) (xs : List Name) → ((n : Name) → f n ≡ g n) → map f xs ≡ map g xs
map-same f g [] h = refl
map-same f g (x ∷ xs) h = ap (λ (k : ℕ). k ∷ map f xs) (h x) ∙ ap (λ l. g x ∷ l) (map-same f g xs h)

mapped-length : {X Y : Type 0} (f : X → Y) (xs : List X) → length (map f xs) ≡ length xs
mapped-length f [] = refl
mapped-length f (x ∷ xs) = ap (λ (n : ℕ). suc n) (mapped-length f xs)

get-mapped : (f : Name → ℕ) (xs : List Name) (k d : ℕ) → k < length xs → get_or (map f xs) k d ≡ f (get_or xs k [])
get-mapped f [] k d h = let bad : ⊥ = omega (arith, h) in absurd bad
get-mapped f (x ∷ xs) zero d h = refl
get-mapped f (x ∷ xs) (suc k) d h = get-mapped f xs k d (omega (arith, h))

eq-swap : (a b : Name) → bytes_eq a b ≡ bytes_eq b a
eq-swap a b = elim (cases_Bool (bytes_eq a b)) [
  | inl h ↦ h ∙ sym (ap (λ (x : Name). bytes_eq b x) (same-names a b h) ∙ name-self b)
  | inr h ↦ elim (cases_Bool (bytes_eq b a)) [
    | inl k ↦ let bad : true ≡ false = sym (ap (λ (x : Name). bytes_eq a x) (same-names b a k) ∙ name-self a) ∙ h in absurd (clash bad)
    | inr k ↦ h ∙ sym k
  ]
]
  where
    clash : true ≡ false → ⊥
    clash bad = cc

module _ (at : ℕ) (f : Name → ℕ) (u : Name) where
  abbrev put : Name → ℕ
  put n = cond (bytes_eq n u) at (f n)

  -- behind the name that is seen none is it
  no-more : (seen xs : List Name) → contains seen u ≡ true → Fresh seen xs → map f xs ≡ map put xs
  no-more seen [] s h = refl
  no-more seen (x ∷ xs) s h =
      let other : bytes_eq x u ≡ false = differ (bytes_eq x u) refl in
      let here : f x ≡ put x = rw other refl in
      ap (λ (k : ℕ). k ∷ map f xs) here ∙ ap (λ l. put x ∷ l) (no-more (x ∷ seen) xs (in_more (bytes_eq u x)) h.1)
    where
      in_more : (b : Bool) → (b || contains seen u) ≡ true
      in_more true = refl
      in_more false = s

      differ : (b : Bool) → bytes_eq x u ≡ b → b ≡ false
      differ true e = let bad : true ≡ false = sym s ∙ ap (contains seen) (sym (same-names x u e)) ∙ h.0 in absurd cc
      differ false e = refl

  set-mapped : (seen xs : List Name) → Fresh seen xs → contains xs u ≡ true → slice_set (map f xs) (number xs u) at ≡ map put xs
  set-mapped seen [] h k = absurd cc
  set-mapped seen (x ∷ xs) h k = elim (cases_Bool (bytes_eq u x)) [
    | inl e ↦ let same : bytes_eq x u ≡ true = eq-swap x u ∙ e in rw (e, same) (ap (λ l. at ∷ l) (no-more (x ∷ seen) xs (or_left (bytes_eq u x) (contains seen u) e) h.1))
    | inr e ↦
        let other : bytes_eq x u ≡ false = eq-swap x u ∙ e in
        let rest : contains xs u ≡ true = rw e at k in
        let one : 1 + number xs u ≡ suc (number xs u) = omega arith in
        rw (e, other, one) (ap (λ l. f x ∷ l) (set-mapped (x ∷ seen) xs h.1 rest))
  ]

  -- where it has no place
  abbrev put_new : Name → ℕ
  put_new n = cond (f n == no_place && bytes_eq n u) at (f n)

  new-same : (f u == no_place) ≡ true → (n : Name) → put n ≡ put_new n
  new-same h n = elim (cases_Bool (bytes_eq n u)) [
    | inl e ↦ let there : (f n == no_place) ≡ true = ap (λ m. f m == no_place) (same-names n u e) ∙ h in rw (e, there) refl
    | inr e ↦ rw e (none (f n == no_place))
  ]
    where
      none : (b : Bool) → f n ≡ cond (b && false) at (f n)
      none true = refl
      none false = refl

  old-same : (f u == no_place) ≡ false → (n : Name) → f n ≡ put_new n
  old-same h n = elim (cases_Bool (bytes_eq n u)) [
    | inl e ↦ let there : (f n == no_place) ≡ false = ap (λ m. f m == no_place) (same-names n u e) ∙ h in rw there refl
    | inr e ↦ rw e (none (f n == no_place))
  ]
    where
      none : (b : Bool) → f n ≡ cond (b && false) at (f n)
      none true = refl
      none false = refl

  noted-one : (names : List Name) → Fresh [] names → contains names u ≡ true → noted_more at (map f names) (number names u) ≡ map put_new names
  noted-one names fresh known =
      let within = number-within names u known in
      let long = mapped-length f names in
      let inside : nat_lt (number names u) (length (map f names)) ≡ true = grind (arith, nat_tests, within, long) in
      let value : get_or (map f names) (number names u) 0 ≡ f u = get-mapped f names (number names u) 0 within ∙ ap f (place-name names u names known) in
      elim (cases_Bool (f u == no_place)) [
        | inl h ↦ rw (inside, ap (λ (k : ℕ). k == no_place) value ∙ h) (set-mapped [] names fresh known ∙ map-same put put_new names (new-same h))
        | inr h ↦ rw (inside, ap (λ (k : ℕ). k == no_place) value ∙ h) (map-same f put_new names (old-same h))
      ]

-- ---- all symbols of a `$c`

module _ (names : List Name) (fresh : Fresh [] names) (at : ℕ) (small : at < no_place) where
  abbrev put_all : (Name → ℕ) → List Name → Name → ℕ
  put_all f us n = cond (f n == no_place && contains us n) at (f n)

  at-other : (at == no_place) ≡ false
  at-other = grind (arith, nat_tests, small)

  join : (f : Name → ℕ) (u : Name) (us : List Name) (n : Name) → put_all (put_new at f u) us n ≡ put_all f (u ∷ us) n
  join f u us n = elim (cases_Bool (f n == no_place)) [
    | inl h ↦ elim (cases_Bool (bytes_eq n u)) [
      | inl e ↦ rw (h, e, at-other) refl
      | inr e ↦ rw (h, e, h) refl
    ]
    | inr h ↦ rw (h, h) refl
  ]

  noted-all : (f : Name → ℕ) (us : List Name) → ((u : Name) → contains us u ≡ true → contains names u ≡ true) → noted at (map f names) (map (symbol_in names) us) ≡ map (put_all f us) names
  noted-all f [] known = map-same f (put_all f []) names (λ n. none (f n == no_place) n)
    where
      none : (b : Bool) (n : Name) → f n ≡ cond (b && false) at (f n)
      none true n = refl
      none false n = refl
  noted-all f (u ∷ us) known =
      ap (λ ps. noted at ps (map (symbol_in names) us)) (noted-one at f u names fresh (known u (or_left (bytes_eq u u) (contains us u) (name-self u))))
      ∙ noted-all (put_new at f u) us (λ v h. known v (more v h)) ∙ map-same (put_all (put_new at f u) us) (put_all f (u ∷ us)) names (join f u us)
    where
      more : (v : Name) → contains us v ≡ true → contains (u ∷ us) v ≡ true
      more v h = or_right (bytes_eq v u) (contains us v) h

-- ---- all statements

replicated : (n : ℕ) (xs : List Name) → n ≡ length xs → replicate n no_place ≡ map (declared_by []) xs
replicated zero [] h = refl
replicated zero (x ∷ xs) h = let bad : ⊥ = omega (arith, h) in absurd bad
replicated (suc n) [] h = let bad : ⊥ = omega (arith, h) in absurd bad
replicated (suc n) (x ∷ xs) h = ap (λ l. no_place ∷ l) (replicated n xs (omega (arith, h)))

module _ (ss : List Statement) (sound : AreSound (reverse ss)) (few : length ss < 2 ^ 32) where
  abbrev names : List Name
  names = symbols ss

  abbrev entries : List Entry
  entries = map (entry_in names) ss

  statement-noted : (k : ℕ) (s : Statement) → slice_get ss k ≡ Some s → IsSound (below ss k) s → k < no_place → length (below ss k) ≡ k
      → noted_entry k (map (declared_by (below ss k)) names) (entry_in names s) ≡ map (declared_by (s ∷ below ss k)) names
  statement-noted k s h sound_s small long =
      let e = below ss k in
      let f = declared_by e in
      let fresh = names-fresh [] _ in
      elim (cases_Bool (has_keyword (codes "$c") s)) [
        | inl c ↦ rw (constants-kind s c) (
            noted-all names fresh k small f (symbols_in s) (λ u i. declared-known ss k s u h (declares-constants s c) i)
            ∙ map-same (put_all names fresh k small f (symbols_in s)) (declared_by (s ∷ e)) names (λ n. rw c (ap (λ (m : ℕ). cond (f n == no_place && contains (symbols_in s) n) m (f n)) (sym long))))
        | inr c ↦ unchanged c (is_constants (kind_in s)) refl
      ]
    where
      none : (n : Name) (b : Bool) → declared_by (below ss k) n ≡ cond (b && false) (length (below ss k)) (declared_by (below ss k) n)
      none n true = refl
      none n false = refl

      same : has_keyword (codes "$c") s ≡ false → map (declared_by (below ss k)) names ≡ map (declared_by (s ∷ below ss k)) names
      same c = map-same (declared_by (below ss k)) (declared_by (s ∷ below ss k)) names (λ n. rw c (none n (declared_by (below ss k) n == no_place)))

      unchanged : has_keyword (codes "$c") s ≡ false → (b : Bool) → is_constants (kind_in s) ≡ b
          → noted_entry k (map (declared_by (below ss k)) names) (entry_in names s) ≡ map (declared_by (s ∷ below ss k)) names
      unchanged c true is =
          let no_symbols = sound_s.has_keyword_or_none (no-keyword s c is) in
          ap (λ b. cond b (noted k (map (declared_by (below ss k)) names) (map (symbol_in names) (symbols_in s))) (map (declared_by (below ss k)) names)) is
          ∙ ap (λ us. noted k (map (declared_by (below ss k)) names) (map (symbol_in names) us)) no_symbols ∙ same c
      unchanged c false is = ap (λ b. cond b (noted k (map (declared_by (below ss k)) names) (map (symbol_in names) (symbols_in s))) (map (declared_by (below ss k)) names)) is ∙ same c

  places-law : (k : ℕ) → k ≤ length ss → places_upto (length names) entries k ≡ map (declared_by (below ss k)) names
  places-law zero h = replicated (length names) names refl
  places-law (suc k) h =
      let s = statement-at ss k (omega (arith, h)) in
      let next = below-next ss k s.0 s.1 in
      let sound_s : IsSound (below ss k) s.0 = (subst AreSound next (sound-below ss (suc k) sound)).0 in
      ap (λ o. noted_at k (places_upto (length names) entries k) o) (get-map (entry_in names) ss k ∙ ap (λ o. option_map (entry_in names) o) s.1)
      ∙ ap (λ ps. noted_entry k ps (entry_in names s.0)) (places-law k (omega (arith, h)))
      ∙ statement-noted k s.0 s.1 sound_s (omega (arith, h, few)) (below-length ss k (omega (arith, h)))
      ∙ ap (λ b. map (declared_by b) names) (sym next)

  pub places-are : places_upto (length names) entries (length entries) ≡ constant_places ss
  places-are =
      ap (λ (k : ℕ). places_upto (length names) entries k) (mapped-length (entry_in names) ss) ∙ places-law (length ss) (omega arith)
      ∙ ap (λ b. map (declared_by b) names) (ap (λ l. reverse l) (take-all ss))
    where
      take-all : (xs : List Statement) → take (length xs) xs ≡ xs
      take-all [] = refl
      take-all (x ∷ xs) = ap (λ l. x ∷ l) (take-all xs)
