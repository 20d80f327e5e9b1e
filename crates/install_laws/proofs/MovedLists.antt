-- Lists into which others are put.
use Rattle.std.proofs.Common.{◌≡◌, ◌≤◌, ◌<◌, ℕ, zero, suc, ◌+◌, Bool, true, false, cond, List, [], ◌∷◌, ◌++◌, length, map, Option}
use Rattle.std.proofs.Common.{Some, None, option_map, refl, sym, ap, ◌∙◌, arith, inl, inr}
use Rattle.std.specs.Prelude.{nat_lt, position, slice_get}
use Rattle.std.specs.List.{position_or_len, AllByRecursion}
use Rattle.std.proofs.lemmas.Bool.{cases_Bool}
use Rattle.std.proofs.lemmas.Bool.Decides.{nat_tests}
use Rattle.std.proofs.lemmas.List.{map-append}
use Rattle.std.proofs.lemmas.Option.{slice_get-map}
use Rattle.install_model.specs.Moved.{moved}

-- ---- a moved number

pub moved_low : (b k n : ℕ) → n < b → moved b k n ≡ n
moved_low b k n h = let yes : nat_lt n b ≡ true = grind (arith, nat_tests, h) in rw yes refl

pub moved_high : (b k n : ℕ) → b ≤ n → moved b k n ≡ n + k
moved_high b k n h = let no : nat_lt n b ≡ false = grind (arith, nat_tests, h) in rw no refl

moved_suc : (b k n : ℕ) → moved (suc b) k (suc n) ≡ suc (moved b k n)
moved_suc b k n = elim (cases_Bool (nat_lt n b)) [
  | inl e ↦
      let h : n < b = grind (arith, nat_tests, e) in let l : suc n < suc b = omega (arith, h) in
      moved_low (suc b) k (suc n) l ∙ ap suc (sym (moved_low b k n h))
  | inr e ↦
      let h : b ≤ n = grind (arith, nat_tests, e) in let l : suc b ≤ suc n = omega (arith, h) in
      let more : suc n + k ≡ suc (n + k) = omega arith in
      moved_high (suc b) k (suc n) l ∙ more ∙ ap suc (sym (moved_high b k n h))
]

-- ---- the item at a number

pub get_behind : {X : Type 0} (new ys : List X) (i : ℕ) → slice_get (new ++ ys) (i + length new) ≡ slice_get ys i
get_behind [] ys i = let same : i + 0 ≡ i = omega arith in ap (slice_get ys) same
get_behind (x ∷ new) ys i = let same : i + suc (length new) ≡ suc (i + length new) = omega arith in ap (slice_get (x ∷ (new ++ ys))) same ∙ get_behind new ys i

pub get_moved : {X : Type 0} (xs new ys : List X) (i : ℕ) → slice_get (xs ++ (new ++ ys)) (moved (length xs) (length new) i) ≡ slice_get (xs ++ ys) i
get_moved [] new ys i = let h : 0 ≤ i = omega arith in ap (slice_get (new ++ ys)) (moved_high 0 (length new) i h) ∙ get_behind new ys i
get_moved (x ∷ xs) new ys zero = let h : 0 < suc (length xs) = omega arith in ap (slice_get (x ∷ (xs ++ (new ++ ys)))) (moved_low (suc (length xs)) (length new) 0 h)
get_moved (x ∷ xs) new ys (suc i) = ap (slice_get (x ∷ (xs ++ (new ++ ys)))) (moved_suc (length xs) (length new) i) ∙ get_moved xs new ys i

-- ---- the first number that passes

pub position_here : {X : Type 0} (p : X → Bool) (x : X) (xs : List X) → p x ≡ true → position p (x ∷ xs) ≡ Some 0
position_here p x xs e = let l : nat_lt 0 (suc (length xs)) ≡ true = grind (arith, nat_tests) in rw e (rw l refl)

pub position_later : {X : Type 0} (p : X → Bool) (x : X) (xs : List X) → p x ≡ false → position p (x ∷ xs) ≡ option_map suc (position p xs)
position_later p x xs e =
    let k = position_or_len p xs in
    let n = length xs in
    let one : 1 + k ≡ suc k = omega arith in
    let is : position p (x ∷ xs) ≡ cond (nat_lt (suc k) (suc n)) (Some (suc k)) None = rw (e, one) refl in
    elim (cases_Bool (nat_lt k n)) [
      | inl l ↦ let yes : nat_lt (suc k) (suc n) ≡ true = grind (arith, nat_tests, l) in is ∙ rw (yes, l) refl
      | inr l ↦ let no : nat_lt (suc k) (suc n) ≡ false = grind (arith, nat_tests, l) in is ∙ rw (no, l) refl
    ]

map_map : (f g h : ℕ → ℕ) → ((n : ℕ) → f (g n) ≡ h n) → (o : Option ℕ) → option_map f (option_map g o) ≡ option_map h o
map_map f g h same None = refl
map_map f g h same (Some n) = ap Some (same n)

pub position_behind : {X : Type 0} (p : X → Bool) (new ys : List X) → AllByRecursion (λ x. p x ≡ false) new → position p (new ++ ys) ≡ option_map (λ n. n + length new) (position p ys)
position_behind p [] ys h = sym (none_more (position p ys))
  where
    none_more : (o : Option ℕ) → option_map (λ n. n + 0) o ≡ o
    none_more None = refl
    none_more (Some n) = let same : n + 0 ≡ n = omega arith in ap Some same
position_behind p (x ∷ new) ys h =
    position_later p x (new ++ ys) h.0 ∙ ap (option_map suc) (position_behind p new ys h.1)
    ∙ map_map suc (λ n. n + length new) (λ n. n + suc (length new)) (λ n. let same : suc (n + length new) ≡ n + suc (length new) = omega arith in same) (position p ys)

pub position_moved : {X : Type 0} (p : X → Bool) (xs new ys : List X) → AllByRecursion (λ x. p x ≡ false) new
    → position p (xs ++ (new ++ ys)) ≡ option_map (moved (length xs) (length new)) (position p (xs ++ ys))
position_moved p [] new ys h = position_behind p new ys h ∙ all_high (position p ys)
  where
    all_high : (o : Option ℕ) → option_map (λ n. n + length new) o ≡ option_map (moved 0 (length new)) o
    all_high None = refl
    all_high (Some n) = let l : 0 ≤ n = omega arith in ap Some (sym (moved_high 0 (length new) n l))
position_moved p (x ∷ xs) new ys h = elim (cases_Bool (p x)) [
  | inl e ↦
      let l : 0 < suc (length xs) = omega arith in
      position_here p x (xs ++ (new ++ ys)) e ∙ ap Some (sym (moved_low (suc (length xs)) (length new) 0 l))
      ∙ ap (option_map (moved (suc (length xs)) (length new))) (sym (position_here p x (xs ++ ys) e))
  | inr e ↦
      position_later p x (xs ++ (new ++ ys)) e ∙ ap (option_map suc) (position_moved p xs new ys h)
      ∙ map_map suc (moved (length xs) (length new)) (λ n. suc (moved (length xs) (length new) n)) (λ n. refl) (position p (xs ++ ys))
      ∙ sym (map_map (moved (suc (length xs)) (length new)) suc (λ n. suc (moved (length xs) (length new) n)) (moved_suc (length xs) (length new)) (position p (xs ++ ys)))
      ∙ ap (option_map (moved (suc (length xs)) (length new))) (sym (position_later p x (xs ++ ys) e))
]

-- ---- numbers on both sides of a bound

moved_all_low : (b k : ℕ) (xs : List ℕ) → AllByRecursion (λ n. n < b) xs → map (moved b k) xs ≡ xs
moved_all_low b k [] h = refl
moved_all_low b k (x ∷ xs) h = ap (λ y. y ∷ map (moved b k) xs) (moved_low b k x h.0) ∙ ap (λ ys. x ∷ ys) (moved_all_low b k xs h.1)

moved_all_high : (b k : ℕ) (xs : List ℕ) → AllByRecursion (λ n. b ≤ n) xs → map (moved b k) xs ≡ map (λ n. n + k) xs
moved_all_high b k [] h = refl
moved_all_high b k (x ∷ xs) h = ap (λ y. y ∷ map (moved b k) xs) (moved_high b k x h.0) ∙ ap (λ ys. (x + k) ∷ ys) (moved_all_high b k xs h.1)

pub get_numbers : (b k : ℕ) (xs new ys : List ℕ) → AllByRecursion (λ n. n < b) xs → AllByRecursion (λ n. b ≤ n) ys → (i : ℕ)
    → slice_get (xs ++ (new ++ map (λ n. n + k) ys)) (moved (length xs) (length new) i) ≡ option_map (moved b k) (slice_get (xs ++ ys) i)
get_numbers b k xs new ys low high i =
    get_moved xs new (map (λ n. n + k) ys) i
    ∙ ap (λ zs. slice_get zs i)
    (ap (λ zs. zs ++ map (λ n. n + k) ys) (sym (moved_all_low b k xs low))
    ∙ ap (λ zs. map (moved b k) xs ++ zs) (sym (moved_all_high b k ys high)) ∙ sym (map-append (moved b k) xs ys))
    ∙ slice_get-map (moved b k) (xs ++ ys) i
