-- Where the search for the least free number goes on.
use Rattle.std.specs.Prelude.{◌≡◌, ◌<◌, ◌≤◌, ◌^◌, ℕ, true, false, List, length, map, slice_index_or}
use Rattle.std.specs.List.{AllByRecursion, IsDistinct}
use Rattle.mm_base.specs.Limits.{most_database_bytes}
use Rattle.mm_model.specs.Names.{Name}
use Rattle.leaf_names.specs.Leaves.{FreshLeaf}
use Rattle.leaf_names.specs.Tables.{NamedLeaf, same_leaf, is_unused, is_taken}

-- the last number that was given for a typecode; 0 where none was
abbrev pub last_number : List ℕ → ℕ → ℕ
last_number last c = slice_index_or last c 0

-- up to the last number of a typecode none is free, and above it none is taken; the leaves differ, and the numbers are small
pub record IsKept (symbols : List Name) (read : List (ℕ × ℕ)) (given : List NamedLeaf) (last : List ℕ) : Type 0 where
  pub covers : (c n : ℕ) → 1 ≤ n → n ≤ last_number last c → is_unused symbols read c n ≡ true → is_taken given c n ≡ true
  pub above : (c n : ℕ) → last_number last c < n → is_taken given c n ≡ false
  pub differ : IsDistinct same_leaf (map (λ (g : NamedLeaf). g.0) given)
  pub small : AllByRecursion (λ (g : NamedLeaf). g.0.1 < 2 ^ 31) given
  pub in_range : AllByRecursion (λ (g : NamedLeaf). g.1 < 2 ^ 32) given

-- the symbols and the work variables that were read are few beside the numbers that a work variable may have
pub record AreFew (symbols : List Name) (read : List (ℕ × ℕ)) : Type 0 where
  pub symbols_few : length symbols ≤ most_database_bytes
  pub read_few : length read ≤ 2 ^ 28

-- the numbers of these leaves are small
abbrev pub AreSmall : List FreshLeaf → Type 0
AreSmall leaves = AllByRecursion (λ (x : FreshLeaf). x.1 < 2 ^ 31) leaves

-- some number above the last one is not used
pub record HasRoom (symbols : List Name) (read : List (ℕ × ℕ)) (last : List ℕ) (c : ℕ) : Type 0 where
  pub number : ℕ
  pub above : last_number last c < number
  pub in_range : number < 2 ^ 32
  pub unused : is_unused symbols read c number ≡ true

-- the first number from one on that is not used
pub record IsFirstUnused (symbols : List Name) (read : List (ℕ × ℕ)) (c from n : ℕ) : Type 0 where
  pub from_there : from ≤ n
  pub unused : is_unused symbols read c n ≡ true
  pub first : (m : ℕ) → from ≤ m → is_unused symbols read c m ≡ true → n ≤ m

-- behind one number and before another none is unused
pub record NoneUnused (symbols : List Name) (read : List (ℕ × ℕ)) (c last n : ℕ) : Type 0 where
  pub behind : last < n
  pub none : (m : ℕ) → last < m → m < n → is_unused symbols read c m ≡ false
