-- The numbers of active statements, and of their labels.
use Rattle.std.proofs.Common.{◌≡◌, ℕ, zero, suc, ◌+◌, ◌≤◌, ◌==◌, Bool, false, not, List, [], ◌∷◌, ◌++◌, append-nil, append_assoc, length, take, drop}
use Rattle.std.proofs.Common.{map, reverse, Option, Some, None, slice_get, option_map, unwrap_or, flat_map, nat_eq, refl, sym, ap, ◌∙◌, arith, inl}
use Rattle.std.proofs.Common.{inr}
use Rattle.std.specs.List.{AllByRecursion, ends_with}
use Rattle.std.proofs.lemmas.Bool.{cases_Bool}
use Rattle.std.proofs.lemmas.Bool.Decides.{nat_tests}
use Rattle.std.proofs.lemmas.List.{reverse-append, length-reverse, map-append, length-append, reverse-reverse}
use Rattle.std.proofs.lemmas.Grind.{flat_map-append}
use Rattle.mm_model.specs.Words.{Word}
use Rattle.mm_model.specs.Statements.{Statement, labels_in, labels, path, is_empty}
use Rattle.mm_model.specs.Frames.{positions, positions_from, label_in, below}
use Rattle.frame_lists.proofs.Numbered.{Numbered, item, count, on}

pub get-middle : {X : Type 0} (xs : List X) (x : X) (ys : List X) (k : ℕ) → length xs ≡ k → slice_get (xs ++ x ∷ ys) k ≡ Some x
get-middle [] x ys zero h = refl
get-middle [] x ys (suc k) h = let bad : ⊥ = omega (arith, h) in absurd bad
get-middle (y ∷ xs) x ys zero h = let bad : ⊥ = omega (arith, h) in absurd bad
get-middle (y ∷ xs) x ys (suc k) h = get-middle xs x ys k (omega (arith, h))

-- the first of what stands behind
pub get-behind : {X : Type 0} (xs ys : List X) (k : ℕ) → length xs ≡ k → slice_get (xs ++ ys) k ≡ slice_get ys 0
get-behind [] ys zero h = refl
get-behind [] ys (suc k) h = let bad : ⊥ = omega (arith, h) in absurd bad
get-behind (y ∷ xs) ys zero h = let bad : ⊥ = omega (arith, h) in absurd bad
get-behind (y ∷ xs) ys (suc k) h = get-behind xs ys k (omega (arith, h))

positions-append : (at : ℕ) (xs ys : List Statement) → positions_from at (xs ++ ys) ≡ positions_from at xs ++ positions_from (at + length xs) ys
positions-append at [] ys = let e : at ≡ at + 0 = omega arith in ap (λ (k : ℕ). positions_from k ys) e
positions-append at (x ∷ xs) ys =
    let e : suc at + length xs ≡ at + suc (length xs) = omega arith in
    ap (λ l. map (λ (w : Word). at) (labels_in x) ++ l) (positions-append (suc at) xs ys ∙ ap (λ (k : ℕ). positions_from (suc at) xs ++ positions_from k ys) e)
    ∙ sym (append_assoc (map (λ (w : Word). at) (labels_in x)) (positions_from (suc at) xs) (positions_from (at + suc (length xs)) ys))

labels-append : (xs ys : List Statement) → labels (xs ++ ys) ≡ labels xs ++ labels ys
labels-append xs ys = ap (λ (ws : List Word). map (λ (w : Word). w.bytes) ws) (flat_map-append labels_in xs ys) ∙ map-append (λ (w : Word). w.bytes) (flat_map labels_in xs) (flat_map labels_in ys)

length-map : {A B : Type 0} (f : A → B) (xs : List A) → length (map f xs) ≡ length xs
length-map f [] = refl
length-map f (x ∷ xs) = ap (λ (n : ℕ). suc n) (length-map f xs)

last-first : (s : Statement) (e : List Statement) → reverse (s ∷ e) ≡ reverse e ++ s ∷ []
last-first s e = reverse-append (s ∷ []) e

pub count-labels : (e : List Statement) → length (labels (reverse e)) ≡ count e
count-labels [] = refl
count-labels (s ∷ e) =
    let one : length (labels (s ∷ [])) ≡ length (labels_in s) =
    ap (λ (ws : List Word). length (map (λ (w : Word). w.bytes) ws)) (append-nil (labels_in s))
    ∙ length-map (λ (w : Word). w.bytes) (labels_in s) in
    let whole : length (labels (reverse (s ∷ e))) ≡ length (labels (reverse e) ++ labels (s ∷ [])) = ap (λ l. length l) (ap labels (last-first s e) ∙ labels-append (reverse e) (s ∷ [])) in
    omega (arith, one, whole, length-append (labels (reverse e)) (labels (s ∷ [])), count-labels e)

pub count-positions : (e : List Statement) → length (positions (reverse e)) ≡ count e
count-positions [] = refl
count-positions (s ∷ e) =
    let at = 0 + length (reverse e) in
    let one : length (positions_from at (s ∷ [])) ≡ length (labels_in s) =
    ap (λ (l : List ℕ). length l) (append-nil (map (λ (w : Word). at) (labels_in s))) ∙ length-map (λ (w : Word). at) (labels_in s) in
    let whole : length (positions (reverse (s ∷ e))) ≡ length (positions (reverse e) ++ positions_from at (s ∷ [])) =
    ap (λ l. length l) (ap positions (last-first s e) ∙ positions-append 0 (reverse e) (s ∷ [])) in
    omega (arith, one, whole, length-append (positions (reverse e)) (positions_from at (s ∷ [])), count-positions e)

-- a statement with its number, and its label
pub record IsPlaced (ss : List Statement) (i : Numbered) : Type 0 where
  pub there : slice_get ss i.at ≡ Some i.statement
  pub position : length (labels_in i.statement) ≡ 1 → slice_get (positions ss) i.label ≡ Some i.at
  pub label : length (labels_in i.statement) ≡ 1 → slice_get (labels ss) i.label ≡ Some (label_in i.statement)

one-word : (ws : List Word) → length ws ≡ 1 → (w : Word) × (ws ≡ w ∷ [])
one-word [] h = let bad : ⊥ = omega (arith, h) in absurd bad
one-word (w ∷ []) h = (w, refl)
one-word (w ∷ v ∷ ws) h = let bad : ⊥ = omega (arith, h) in absurd bad

split : (s : Statement) (e rest ss : List Statement) → ss ≡ reverse (s ∷ e) ++ rest → ss ≡ reverse e ++ s ∷ rest
split s e rest ss h = h ∙ ap (λ l. l ++ rest) (last-first s e) ∙ append_assoc (reverse e) (s ∷ []) rest

positions-behind : (s : Statement) (e rest : List Statement) → positions (reverse e ++ s ∷ rest) ≡ positions (reverse e) ++ positions_from (length e) (s ∷ rest)
positions-behind s e rest = let at : 0 + length (reverse e) ≡ length e = omega (arith, length-reverse e) in
    positions-append 0 (reverse e) (s ∷ rest) ∙ ap (λ (k : ℕ). positions (reverse e) ++ positions_from k (s ∷ rest)) at

pub item-placed : (s : Statement) (e rest ss : List Statement) → ss ≡ reverse (s ∷ e) ++ rest → IsPlaced ss (item s e)
item-placed s e rest ss h = record {
  there = ap (λ l. slice_get l (length e)) (split s e rest ss h) ∙ get-middle (reverse e) s rest (length e) (length-reverse e);
  position = λ one.
      let w = one-word (labels_in s) one in
      ap (λ l. slice_get (positions l) (count e)) (split s e rest ss h) ∙ ap (λ l. slice_get l (count e)) (positions-behind s e rest)
      ∙ ap (λ (ws : List Word). slice_get (positions (reverse e) ++ (map (λ (v : Word). length e) ws ++ positions_from (suc (length e)) rest)) (count e)) w.1
      ∙ get-middle (positions (reverse e)) (length e) (positions_from (suc (length e)) rest) (count e) (count-positions e);
  label = λ one.
      let w = one-word (labels_in s) one in
      ap (λ l. slice_get (labels l) (count e)) (split s e rest ss h) ∙ ap (λ l. slice_get l (count e)) (labels-append (reverse e) (s ∷ rest))
      ∙ ap (λ (ws : List Word). slice_get (labels (reverse e) ++ map (λ (v : Word). v.bytes) (ws ++ flat_map labels_in rest)) (count e)) w.1
      ∙ get-middle (labels (reverse e)) w.0.bytes (map (λ (v : Word). v.bytes) (flat_map labels_in rest)) (count e) (count-labels e)
      ∙ named s w.0 w.1;
}
  where
    named : (s : Statement) (w : Word) → labels_in s ≡ w ∷ [] → Some w.bytes ≡ Some (label_in s)
    named s w e = rw e refl

pub all-placed : (e rest ss : List Statement) → ss ≡ reverse e ++ rest → (p : List ℕ) → AllByRecursion (IsPlaced ss) (on p e)
all-placed [] rest ss h p = tt
all-placed (s ∷ e) rest ss h p =
    let later = all-placed e (s ∷ rest) ss (split s e rest ss h) p in
    elim (cases_Bool (ends_with nat_eq p (path e))) [
      | inl d ↦ rw d (item-placed s e rest ss h, later)
      | inr d ↦ rw d later
    ]

-- ---- whether the label that comes next is that of a statement

past : (at : ℕ) (ss : List Statement) → (m : ℕ) → slice_get (positions_from at ss) 0 ≡ Some m → at ≤ m
past at [] m h = absurd cc
past at (s ∷ ss) m h = go (labels_in s) (λ q. past (suc at) ss m q) h
  where
    go : (ws : List Word) → (slice_get (positions_from (suc at) ss) 0 ≡ Some m → suc at ≤ m) → slice_get (map (λ (w : Word). at) ws ++ positions_from (suc at) ss) 0 ≡ Some m → at ≤ m
    go [] r h = let more = r h in omega (arith, more)
    go (w ∷ ws) r h = let same : at ≡ m = cc in omega (arith, same)

abbrev pub is_at : Option ℕ → ℕ → Bool
is_at o at = unwrap_or (option_map (λ p. p == at) o) false

pub next-label : (s : Statement) (e rest ss : List Statement) → ss ≡ reverse (s ∷ e) ++ rest → length (labels_in s) ≤ 1
    → is_at (slice_get (positions ss) (count e)) (length e) ≡ not (is_empty (labels_in s))
next-label s e rest ss h few =
    ap (λ l. is_at (slice_get (positions l) (count e)) (length e)) (split s e rest ss h) ∙ ap (λ l. is_at (slice_get l (count e)) (length e)) (positions-behind s e rest)
    ∙ ap (λ o. is_at o (length e)) (get-behind (positions (reverse e)) (positions_from (length e) (s ∷ rest)) (count e) (count-positions e)) ∙ go (labels_in s)
  where
    nowhere : (o : Option ℕ) (at : ℕ) → ((m : ℕ) → o ≡ Some m → suc at ≤ m) → is_at o at ≡ false
    nowhere None at f = refl
    nowhere (Some m) at f = let more = f m refl in grind (arith, nat_tests, more)

    go : (ws : List Word) → is_at (slice_get (map (λ (w : Word). length e) ws ++ positions_from (suc (length e)) rest) 0) (length e) ≡ not (is_empty ws)
    go [] = nowhere (slice_get (positions_from (suc (length e)) rest) 0) (length e) (λ m q. past (suc (length e)) rest m q)
    go (w ∷ ws) = grind (arith, nat_tests)

-- ---- the statements below the next place

pub take-next : {X : Type 0} (xs : List X) (k : ℕ) (x : X) → slice_get xs k ≡ Some x → take (suc k) xs ≡ take k xs ++ x ∷ []
take-next [] k x h = absurd cc
take-next (y ∷ xs) zero x h = let same : y ≡ x = cc in ap (λ z. z ∷ []) same
take-next (y ∷ xs) (suc k) x h = ap (λ l. y ∷ l) (take-next xs k x h)

pub below-next : (ss : List Statement) (k : ℕ) (s : Statement) → slice_get ss k ≡ Some s → below ss (suc k) ≡ s ∷ below ss k
below-next ss k s h = ap (λ l. reverse l) (take-next ss k s h) ∙ reverse-append (take k ss) (s ∷ [])

pub below-whole : (ss : List Statement) (k : ℕ) → ss ≡ reverse (below ss k) ++ drop k ss
below-whole ss k = sym (ap (λ l. l ++ drop k ss) (reverse-reverse (take k ss)) ∙ whole k ss)
  where
    whole : (k : ℕ) (ss : List Statement) → take k ss ++ drop k ss ≡ ss
    whole zero ss = refl
    whole (suc k) [] = refl
    whole (suc k) (s ∷ ss) = ap (λ l. s ∷ l) (whole k ss)

pub below-length : (ss : List Statement) (k : ℕ) → k ≤ length ss → length (below ss k) ≡ k
below-length ss k h = length-reverse (take k ss) ∙ go k ss h
  where
    go : (k : ℕ) (ss : List Statement) → k ≤ length ss → length (take k ss) ≡ k
    go zero ss h = refl
    go (suc k) [] h = let bad : ⊥ = omega (arith, h) in absurd bad
    go (suc k) (s ∷ ss) h = ap (λ (n : ℕ). suc n) (go k ss (omega (arith, h)))
