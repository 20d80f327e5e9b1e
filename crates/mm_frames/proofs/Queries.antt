-- What the lists of a database tell is what the definitions say.
use Rattle.std.proofs.Common.{◌≡◌, ℕ, zero, suc, ◌+◌, ◌<◌, ◌≤◌, ◌==◌, ◌&&◌, ◌||◌, Bool, true, false, cond, List, [], ◌∷◌, ◌++◌, length, take, drop}
use Rattle.std.proofs.Common.{map, flat_map, reverse, Option, None, Some, refl, sym, ap, ◌∙◌, arith, inl, inr, codes, get_or, nat_lt, ltb, slice_get}
use Rattle.std.proofs.Common.{option_map, option_and_then}
use Rattle.std.specs.List.{range_with_len}
use Rattle.std.specs.Str.{bytes_eq}
use Rattle.std.proofs.lemmas.Bool.{cases_Bool, cases_lt}
use Rattle.std.proofs.lemmas.Bool.Decides.{nat_tests}
use Rattle.std.proofs.lemmas.List.{length-append, length-reverse, reverse-append}
use Rattle.std.proofs.lemmas.List.Folds.{list_any-append}
use Rattle.mm_base.specs.declared.symbols.Sym.{Sym}
use Rattle.mm_model.specs.Names.{label, contains}
use Rattle.mm_model.specs.Words.{Word}
use Rattle.mm_model.specs.declared.frames.Frame.{Frame}
use Rattle.frame_lists.specs.Listings.{declared_by, constant_places, frames_of}
use Rattle.mm_base.specs.declared.symbols.Label.{Label}
use Rattle.mm_model.specs.Names.{Name}
use Rattle.mm_model.specs.Statements.{Statement, statements, labels, labels_in, constants, symbols_in, has_keyword}
use Rattle.mm_model.specs.Frames.{symbols, positions, positions_from, proof_range, frame_of, is_assertion, frame_at as frame_there, below, is_constant_at}
use Rattle.frame_lists.specs.declared.entry.Entry.{Entry}
use Rattle.frame_lists.specs.Entries.{entry_in, proof_of}
use Rattle.mm_frames.proofs.Empty.{no-empty}
use Rattle.mm_frames.specs.Contents.{Contents, contents_of, proof_at, frame_at}

get-entry : (names : List Name) (ss : List Statement) (i : ℕ) → slice_get (map (entry_in names) ss) i ≡ option_map (entry_in names) (slice_get ss i)
get-entry names [] zero = refl
get-entry names [] (suc i) = refl
get-entry names (s ∷ ss) zero = refl
get-entry names (s ∷ ss) (suc i) = get-entry names ss i

proof-of : (names : List Name) (at : ℕ) (o : Option Statement)
    → option_and_then (λ (x : Entry). x.proof) (option_map (entry_in names) o)
    ≡ option_and_then (λ (p : ℕ × Statement). proof_of p.1) (option_map (λ s. (at, s)) o)
proof-of names at None = refl
proof-of names at (Some s) = refl

at-label : (names : List Name) (ss : List Statement) (o : Option ℕ)
    → option_and_then (λ at. option_and_then (λ (x : Entry). x.proof) (slice_get (map (entry_in names) ss) at)) o
    ≡ option_and_then (λ (p : ℕ × Statement). proof_of p.1) (option_and_then (λ at. option_map (λ s. (at, s)) (slice_get ss at)) o)
at-label names ss None = refl
at-label names ss (Some at) = ap (λ (x : Option Entry). option_and_then (λ (y : Entry). y.proof) x) (get-entry names ss at) ∙ proof-of names at (slice_get ss at)

pub proof-is : (c : Contents) (l : Label) (text : List ℕ) → c ≡ contents_of text → proof_at c l ≡ proof_range (statements text) l
proof-is c l text h = ap (λ (d : Contents). proof_at d l) h ∙ at-label (symbols (statements text)) (statements text) (slice_get (positions (statements text)) l.0)

-- ---- frames

get-map : {X Y : Type 0} (f : X → Y) (xs : List X) (k : ℕ) → slice_get (map f xs) k ≡ option_map f (slice_get xs k)
get-map f [] zero = refl
get-map f [] (suc k) = refl
get-map f (x ∷ xs) zero = refl
get-map f (x ∷ xs) (suc k) = get-map f xs k

in-range : (a n k : ℕ) → k < n → slice_get (range_with_len a n) k ≡ Some (a + k)
in-range a zero k h = let bad : ⊥ = omega (arith, h) in absurd bad
in-range a (suc n) zero h = let e : a ≡ a + 0 = omega arith in ap (λ (m : ℕ). Some m) e
in-range a (suc n) (suc k) h = let e : a + 1 + k ≡ a + suc k = omega arith in in-range (a + 1) n k (omega (arith, h)) ∙ ap (λ (m : ℕ). Some m) e

past : {X : Type 0} (xs : List X) (k : ℕ) → length xs ≤ k → slice_get xs k ≡ None
past [] zero h = refl
past [] (suc k) h = refl
past (x ∷ xs) zero h = let bad : ⊥ = omega (arith, h) in absurd bad
past (x ∷ xs) (suc k) h = past xs k (omega (arith, h))

range-length : (a n : ℕ) → length (range_with_len a n) ≡ n
range-length a zero = refl
range-length a (suc n) = ap (λ (m : ℕ). suc m) (range-length (a + 1) n)

map-length : {A B : Type 0} (f : A → B) (xs : List A) → length (map f xs) ≡ length xs
map-length f [] = refl
map-length f (x ∷ xs) = ap (λ (n : ℕ). suc n) (map-length f xs)

positions-long : (at : ℕ) (ss : List Statement) → length (positions_from at ss) ≡ length (labels ss)
positions-long at [] = refl
positions-long at (s ∷ ss) =
    let byte_names : List Word → List Name = λ ws. map (λ (w : Word). w.bytes) ws in
    let rest = flat_map labels_in ss in
    let whole = length-append (map (λ (w : Word). at) (labels_in s)) (positions_from (suc at) ss) in
    let here = map-length (λ (w : Word). at) (labels_in s) in
    let later = positions-long (suc at) ss ∙ map-length (λ (w : Word). w.bytes) rest in
    let split = map-length (λ (w : Word). w.bytes) (labels_in s ++ rest) ∙ length-append (labels_in s) rest in
    omega (arith, whole, here, later, split)

pub frame-is : (c : Contents) (l : Label) (text : List ℕ) → c ≡ contents_of text → frame_at c l ≡ frame_of (statements text) l
frame-is c l text h =
    let ss = statements text in
    let n = length (labels ss) in
    let g : ℕ → Option Frame = λ k. frame_of ss (label k) in
    ap (λ (d : Contents). frame_at d l) h
    ∙ elim (cases_lt l.0 n) as (λ w. option_and_then (λ (f : Option Frame). f) (slice_get (frames_of ss) l.0) ≡ frame_of ss l) [
      | inl less ↦ ap (λ o. option_and_then (λ (f : Option Frame). f) o) (get-map g (range_with_len 0 n) l.0 ∙ ap (λ o. option_map g o) (in-range 0 n l.0 less)) ∙ ap g (zero-sum l.0)
      | inr more ↦
          let none = past (frames_of ss) l.0 (at-most (length (frames_of ss)) n l.0 (map-length g (range_with_len 0 n) ∙ range-length 0 n) more) in
          let no_place = past (positions ss) l.0 (at-most (length (positions ss)) n l.0 (positions-long 0 ss) more) in
          ap (λ o. option_and_then (λ (f : Option Frame). f) o) none ∙ sym (nowhere ss l no_place)
    ]
  where
    zero-sum : (k : ℕ) → 0 + k ≡ k
    zero-sum k = omega arith

    at-most : (a n k : ℕ) → a ≡ n → n ≤ k → a ≤ k
    at-most a n k e h = omega (arith, e, h)

    nowhere : (ss : List Statement) (l : Label) → slice_get (positions ss) l.0 ≡ None → frame_of ss l ≡ None
    nowhere ss l e =
        ap (λ o. option_and_then (λ (p : ℕ × Statement). cond (is_assertion p.1) (Some (frame_there ss l p.0 p.1)) None)
        (option_and_then (λ at. option_map (λ s. (at, s)) (slice_get ss at)) o)) e

-- ---- constants

abbrev declares : Statement → Name → Bool
declares s n = has_keyword (codes "$c") s && contains (symbols_in s) n

-- a place that is known is below the statements' count
placed : (e : List Statement) (n : Name) → (declared_by e n == 4294967295) ≡ false → declared_by e n < length e
placed [] n h = absurd cc
placed (s ∷ e) n h = elim (cases_Bool (declared_by e n == 4294967295)) [
  | inl u ↦ elim (cases_Bool (declares s n)) [
    | inl d ↦ rw (u, d) (omega arith)
    | inr d ↦ absurd (clash u (rw (u, d) at h))
  ]
  | inr u ↦ let less = placed e n u in rw u (omega (arith, less))
]
  where
    clash : (declared_by e n == 4294967295) ≡ true → (declared_by e n == 4294967295) ≡ false → ⊥
    clash t f = let bad : true ≡ false = sym t ∙ f in absurd cc

constants-cons : (s : Statement) (e : List Statement) (n : Name) → contains (constants (s ∷ e)) n ≡ (declares s n || contains (constants e) n)
constants-cons s e n = elim (cases_Bool (has_keyword (codes "$c") s)) [
  | inl k ↦ rw k (list_any-append (bytes_eq n) (symbols_in s) (constants e))
  | inr k ↦ rw k refl
]

declared-below : (e : List Statement) (n : Name) → length e < 4294967296 → nat_lt (declared_by e n) (length e) ≡ contains (constants e) n
declared-below [] n h = refl
declared-below (s ∷ e) n h =
    let before = declared-below e n (omega (arith, h)) in
    sym (constants-cons s e n ∙ elim (cases_Bool (declared_by e n == 4294967295)) as (λ w. (declares s n || contains (constants e) n) ≡ nat_lt (declared_by (s ∷ e) n) (suc (length e))) [
      | inl u ↦
          let is : declared_by e n ≡ 4294967295 = grind (arith, nat_tests, u) in
          let none : contains (constants e) n ≡ false = sym before ∙ (let big : ltb (declared_by e n) (length e) ≡ false = grind (arith, nat_tests, is, h) in big) in
          elim (cases_Bool (declares s n)) as (λ w. (declares s n || contains (constants e) n) ≡ nat_lt (declared_by (s ∷ e) n) (suc (length e))) [
            | inl d ↦ let less : ltb (length e) (suc (length e)) ≡ true = grind (arith, nat_tests) in rw (u, d) (sym less)
            | inr d ↦ let big : ltb (declared_by e n) (suc (length e)) ≡ false = grind (arith, nat_tests, is, h) in rw (u, d, none) (sym big)
          ]
      | inr u ↦
          let less = placed e n u in
          let small : ltb (declared_by e n) (suc (length e)) ≡ true = grind (arith, nat_tests, less) in
          let there : contains (constants e) n ≡ true = sym before ∙ (let yes : ltb (declared_by e n) (length e) ≡ true = grind (arith, nat_tests, less) in yes) in
          rw (u, there, small) (or-true (declares s n))
    ])
  where
    or-true : (a : Bool) → (a || true) ≡ true
    or-true true = refl
    or-true false = refl

-- later statements do not matter for what is below a place
later-same : (xs e : List Statement) (n : Name) (place : ℕ) → place ≤ length e → place ≤ 4294967295 → nat_lt (declared_by (xs ++ e) n) place ≡ nat_lt (declared_by e n) place
later-same [] e n place h k = refl
later-same (s ∷ xs) e n place h k =
    let before = later-same xs e n place h k in
    let long = length-append xs e in
    elim (cases_Bool (declared_by (xs ++ e) n == 4294967295)) [
      | inl u ↦
          let is : declared_by (xs ++ e) n ≡ 4294967295 = grind (arith, nat_tests, u) in
          let big : ltb (declared_by (xs ++ e) n) place ≡ false = grind (arith, nat_tests, is, k) in
          elim (cases_Bool (declares s n)) [
            | inl d ↦ let far : ltb (length (xs ++ e)) place ≡ false = grind (arith, nat_tests, long, h) in rw (u, d) (far ∙ sym big ∙ before)
            | inr d ↦ rw (u, d) before
          ]
      | inr u ↦ rw u before
    ]

take-drop : (k : ℕ) (ss : List Statement) → take k ss ++ drop k ss ≡ ss
take-drop zero ss = refl
take-drop (suc k) [] = refl
take-drop (suc k) (s ∷ ss) = ap (λ l. s ∷ l) (take-drop k ss)

below-long : (ss : List Statement) (k : ℕ) → k ≤ length ss → length (below ss k) ≡ k
below-long ss k h = length-reverse (take k ss) ∙ go k ss h
  where
    go : (k : ℕ) (ss : List Statement) → k ≤ length ss → length (take k ss) ≡ k
    go zero ss h = refl
    go (suc k) [] h = let bad : ⊥ = omega (arith, h) in absurd bad
    go (suc k) (s ∷ ss) h = ap (λ (n : ℕ). suc n) (go k ss (omega (arith, h)))

constant-law : (ss : List Statement) (n : Name) (place : ℕ) → place ≤ length ss → length ss < 4294967296 → nat_lt (declared_by (reverse ss) n) place ≡ contains (constants (below ss place)) n
constant-law ss n place h few =
    let e = below ss place in
    let long = below-long ss place h in
    let whole : reverse ss ≡ reverse (drop place ss) ++ e = ap (λ l. reverse l) (sym (take-drop place ss)) ∙ reverse-append (take place ss) (drop place ss) in
    ap (λ b. nat_lt (declared_by b n) place) whole ∙ later-same (reverse (drop place ss)) e n place (omega (arith, long)) (omega (arith, h, few))
    ∙ ap (λ (k : ℕ). nat_lt (declared_by e n) k) (sym long) ∙ declared-below e n (omega (arith, long, h, few))

get-mapped : (f : Name → ℕ) (xs : List Name) (k d : ℕ) → k < length xs → get_or (map f xs) k d ≡ f (get_or xs k [])
get-mapped f [] k d h = let bad : ⊥ = omega (arith, h) in absurd bad
get-mapped f (x ∷ xs) zero d h = refl
get-mapped f (x ∷ xs) (suc k) d h = get-mapped f xs k d (omega (arith, h))

get-past : {X : Type 0} (xs : List X) (k : ℕ) (d : X) → length xs ≤ k → get_or xs k d ≡ d
get-past [] zero d h = refl
get-past [] (suc k) d h = refl
get-past (x ∷ xs) zero d h = let bad : ⊥ = omega (arith, h) in absurd bad
get-past (x ∷ xs) (suc k) d h = get-past xs k d (omega (arith, h))

pub constant-is : (c : Contents) (s : Sym) (place : ℕ) (text : List ℕ) → c ≡ contents_of text → place ≤ length c.entries → length c.entries < 4294967296
    → nat_lt (get_or c.constants s.0 4294967295) place ≡ is_constant_at (statements text) s place
constant-is c s place text h within few =
    let ss = statements text in
    let long : length c.entries ≡ length ss = ap (λ (d : Contents). length d.entries) h ∙ map-length (entry_in (symbols ss)) ss in
    ap (λ (d : Contents). nat_lt (get_or d.constants s.0 4294967295) place) h
    ∙ elim (cases_lt s.0 (length (symbols ss))) as (λ w. nat_lt (get_or (constant_places ss) s.0 4294967295) place ≡ is_constant_at ss s place) [
      | inl known ↦
          ap (λ (k : ℕ). nat_lt k place) (get-mapped (declared_by (reverse ss)) (symbols ss) s.0 4294967295 known)
          ∙ constant-law ss (get_or (symbols ss) s.0 []) place (omega (arith, long, within)) (omega (arith, long, few))
      | inr out ↦
          let none = get-past (constant_places ss) s.0 4294967295 (at-most (length (constant_places ss)) (length (symbols ss)) s.0 (map-length (declared_by (reverse ss)) (symbols ss)) out) in
          let big : ltb 4294967295 place ≡ false = grind (arith, nat_tests, within, few) in
          ap (λ (k : ℕ). nat_lt k place) none ∙ big ∙ sym (ap (λ n. contains (constants (below ss place)) n) (get-past (symbols ss) s.0 [] out) ∙ no-empty text place)
    ]
  where
    at-most : (a n k : ℕ) → a ≡ n → n ≤ k → a ≤ k
    at-most a n k e h = omega (arith, e, h)

-- ---- statements below a place

pub taken : (names : List Name) (ss : List Statement) (xs : List Entry) (k : ℕ) → xs ≡ map (entry_in names) ss → take k xs ≡ map (entry_in names) (take k ss)
taken names ss xs k h = ap (λ l. take k l) h ∙ go k ss
  where
    go : (k : ℕ) (ss : List Statement) → take k (map (entry_in names) ss) ≡ map (entry_in names) (take k ss)
    go zero ss = refl
    go (suc k) [] = refl
    go (suc k) (s ∷ ss) = ap (λ l. entry_in names s ∷ l) (go k ss)
