-- Which variables stand together in the first ones of the active `$d`. This is part of the proof, and not of the claim.
use Rattle.std.specs.Prelude.{ℕ, Bool, true, false, ◌≡◌, ◌≤◌, ◌&&◌, ◌⊎◌, List, [], length, take, drop, Option, Some, None, nat_eq, nat_lt, slice_get, Contains}
use Rattle.std.specs.List.{list_any, filter}
use Rattle.std.specs.HashMap.{get}
use Rattle.mm_base.specs.declared.symbols.Sym.{Sym}
use Rattle.frame_lists.specs.declared.listed.Listed.{Listed}
use Rattle.frame_lists.specs.declared.together.Together.{Together}
use Rattle.frame_lists.specs.Steps.{has, symbols_at, pairs_all, found_more}

abbrev pub same_pair : ℕ × ℕ → ℕ × ℕ → Bool
same_pair a b = nat_eq a.0 b.0 && nat_eq a.1 b.1

-- both stand in the statement of this number
abbrev pub stand : Listed → ℕ × ℕ → ℕ → Bool
stand l p at = list_any (λ (s : Sym). nat_eq p.0 s.0) (symbols_at l at) && list_any (λ (s : Sym). nat_eq p.1 s.0) (symbols_at l at)

-- the number that is noted for a pair
abbrev pub place_of : Together → ℕ × ℕ → Option ℕ
place_of t p = get same_pair t.places p

abbrev pub is_there : List ℕ → Option ℕ → Bool
is_there ns None = false
is_there ns (Some n) = has ns n

-- the number that is noted is one of the `$d`
abbrev pub has_pair : Together → ℕ × ℕ → Bool
has_pair t p = is_there t.numbers (place_of t p)

-- this number is noted for those of the pairs that had none
pub record IsNoted (old : Together) (number : ℕ) (pairs : List (ℕ × ℕ)) (new : Together) : Type 0 where
  pub numbers : new.numbers ≡ old.numbers
  pub noted : (q : ℕ × ℕ) → (place_of new q ≡ place_of old q) ⊎ ((place_of new q ≡ Some number) × Contains pairs q)
  pub kept : (q : ℕ × ℕ) → has_pair old q ≡ true → place_of new q ≡ place_of old q
  pub all : (q : ℕ × ℕ) → Contains pairs q → (has_pair old q ≡ true) ⊎ (place_of new q ≡ Some number)

-- a number no later than this place is noted for the pair
pub record IsEarlier (t : Together) (place : ℕ) (q : ℕ × ℕ) : Type 0 where
  pub number : ℕ
  pub at : ℕ
  pub is_noted : place_of t q ≡ Some number
  pub is_at : slice_get t.numbers at ≡ Some number
  pub is_before : at ≤ place

-- the pairs that are noted stand together, and all that stand together are noted no later than they first do
pub record IsTogether (l : Listed) (t : Together) : Type 0 where
  pub sound : (q : ℕ × ℕ) (n : ℕ) → place_of t q ≡ Some n → stand l q n ≡ true
  pub whole : (place n : ℕ) (q : ℕ × ℕ) → slice_get t.numbers place ≡ Some n → nat_lt q.0 q.1 ≡ true → stand l q n ≡ true → IsEarlier t place q

-- they are the first of these `$d`
pub record IsFront (l : Listed) (distinct : List ℕ) (t : Together) : Type 0 where
  pub together : IsTogether l t
  pub first : t.numbers ≡ take (length t.numbers) distinct

-- the pairs of a set that stand together, by those that are noted and the `$d` past the first
abbrev pub known_pairs : Listed → List ℕ → Together → List ℕ → List (ℕ × ℕ)
known_pairs l distinct t set = found_more l set (filter (has_pair t) (pairs_all [] set)) (drop (length t.numbers) distinct)
