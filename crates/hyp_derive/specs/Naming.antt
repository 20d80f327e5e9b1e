-- Names of new steps, by their numbers.
use Rattle.std.specs.Prelude.{◌≡◌, ℕ, ◌<◌, ◌≤◌, ◌^◌, ◌++◌, true, false, List, [], ◌∷◌, length, decimal, codes, if◌then◌else◌}
use Rattle.mm_model.specs.Names.{Name, contains}
use Rattle.sheet_text.specs.declared.sheet.SheetItem.{SheetItem}
use Rattle.sheet_text.specs.declared.sheet.SheetItem.TheVariants as item
use Rattle.solve_model.specs.Firsts.{IsLeast}
use Rattle.work_vars.specs.Free.{is_used}

abbrev pub numbered_name : ℕ → Name
numbered_name n = codes "d" ++ decimal n

-- the name is `d` and the least number from 1 that makes a name not used
pub record IsLeastName (used : List Name) (name : Name) : Type 0 where
  pub number : ℕ
  pub named : name ≡ numbered_name number
  pub least : IsLeast (λ n. contains used (numbered_name n) ≡ false) number

-- a number is one of these where its name is one of those
pub record AreNumbersOf (used : List Name) (numbers : List ℕ) : Type 0 where
  pub bounded : length numbers ≤ length used
  pub same : (n : ℕ) → n < 2 ^ 64 → is_used numbers n ≡ contains used (numbered_name n)

-- two lists have the same names
pub record HaveSameNames (one other : List Name) : Type 0 where
  pub same : (name : Name) → contains one name ≡ contains other name

-- the names with one more, unless it is there
abbrev pub with_name : List Name → Name → List Name
with_name used name = if contains used name then used else used ++ name ∷ []

-- each number from 1 and below this one makes a name that is used
pub record AreUsedBelow (used : List Name) (number : ℕ) : Type 0 where
  pub from_one : 1 ≤ number
  pub are_used : (n : ℕ) → 1 ≤ n → n < number → contains used (numbered_name n) ≡ true

-- the number is the least from 1 that makes a name not used
abbrev pub IsLeastNew : List Name → ℕ → Type 0
IsLeastNew used number = IsLeast (λ n. contains used (numbered_name n) ≡ false) number

-- the name of an item that is a step
abbrev pub item_names : SheetItem → List Name
item_names (item.Comment lines) = []
item_names (item.Step s) = s.name ∷ []
