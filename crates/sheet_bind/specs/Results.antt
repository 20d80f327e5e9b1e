-- What `bind_sheet` answers.
use Rattle.std.specs.Prelude.{◌≡◌, ◌-◌, ◌^◌, ◌<◌, ◌≤◌, ℕ, List, [], fold, length, map, min, sum, Some, None, is_some}
use Rattle.mm_base.specs.declared.symbols.Pair.{Pair}
use Rattle.mm_base.specs.Limits.{most_work_size}
use Rattle.mm_model.specs.Book.{Database}
use Rattle.mm_model.specs.Faults.{fault}
use Rattle.mm_database.specs.Opened.{Opened}
use Rattle.sheet_text.specs.declared.sheet.Sheet.{Sheet}
use Rattle.solve_model.specs.declared.bound.Bound.{Bound}
use Rattle.solve_model.specs.declared.bound.BoundStep.{BoundStep}
use Rattle.solve_model.specs.BindFaults.{IsBindFault}
use Rattle.solve_model.specs.Bound.{Binds, work_size}
use Rattle.sheet_bind.specs.declared.binding.Proved.{Proved}
use Rattle.sheet_bind.specs.declared.faults.BindFault.{BindFault}
use Rattle.sheet_bind.specs.declared.faults.BindFault.TheVariants.{At, TooMuch, Memory}
use Rattle.sheet_bind.specs.declared.setting.Place.{Place}
use Rattle.sheet_bind.specs.Found.{number_of}
use Rattle.sheet_bind.specs.Judging.{Scene, IsJudged}
use Rattle.sheet_bind.specs.GivenPairs.{put_line}
use Rattle.sheet_bind.specs.Sizes.{size_in}
use Rattle.sheet_bind.specs.Theorems.{theorem_in}

-- ---- by the definitions

-- the worksheet is bound, and its work size is within the limit
pub record IsBound (db : Database) (s : Sheet) (b : Bound) : Type 0 where
  pub binds : Binds db s b
  pub size : work_size db b ≤ most_work_size

-- the worksheet has no fault, and this is its work size, which is over the limit; or the size is larger than this, 2^64 - 1
pub record IsTooMuch (db : Database) (s : Sheet) (n : ℕ) : Type 0 where
  pub bound : Bound
  pub binds : Binds db s bound
  pub size : n ≡ min (work_size db bound) (2 ^ 64 - 1)
  pub over : most_work_size < work_size db bound

-- the first fault, or too large a work size, or want of memory
abbrev pub IsRefused : Database → Sheet → BindFault → Type 0
IsRefused db s (At code line) = IsBindFault db s (fault line (number_of code))
IsRefused db s (TooMuch n) = IsTooMuch db s n
IsRefused db s Memory = Unit {0}

-- ---- by what is kept

abbrev pub pairs_in : Opened → Sheet → List Pair
pairs_in d s = fold (put_line d.contents.symbols) [] s.pairs

-- the bound worksheet, where these are its steps
abbrev pub bound_in : Opened → Sheet → Place → List BoundStep → Bound
bound_in d s p steps = record {
  place = p.setting.place;
  existing = is_some p.setting.conclusion;
  steps = steps;
  pairs = pairs_in d s;
  theorem = theorem_in d.contents.symbols p.setting.place p.hyps (length p.setting.given) s.items (pairs_in d s);
}

abbrev pub size_of : Opened → Place → List BoundStep → ℕ
size_of d p steps = sum (map (size_in d p.setting.place) steps)

module _ (g : Scene) (s : Sheet) (p : Place) where
  pub record IsBoundAt (b : Bound) : Type 0 where
    pub steps : List BoundStep
    pub judged : IsJudged g s None steps
    pub bound_is : b ≡ bound_in g.opened s p steps
    pub small : min (size_of g.opened p steps) (2 ^ 64 - 1) ≤ most_work_size

  pub record IsTooMuchAt (n : ℕ) : Type 0 where
    pub steps : List BoundStep
    pub judged : IsJudged g s None steps
    pub size : n ≡ min (size_of g.opened p steps) (2 ^ 64 - 1)
    pub over : most_work_size < n

  pub record IsFaultAt (line code : ℕ) : Type 0 where
    pub steps : List BoundStep
    pub judged : IsJudged g s (Some (fault line code)) steps

  abbrev pub IsRefusedAt : BindFault → Type 0
  IsRefusedAt (At code line) = IsFaultAt line (number_of code)
  IsRefusedAt (TooMuch n) = IsTooMuchAt n
  IsRefusedAt Memory = Unit {0}

-- the pairs and the theorem, and what is kept of the place
abbrev pub proved_in : Opened → Sheet → Place → Proved
proved_in d s p = record {
  place = p.setting.place;
  existing = is_some p.setting.conclusion;
  pairs = pairs_in d s;
  theorem = theorem_in d.contents.symbols p.setting.place p.hyps (length p.setting.given) s.items (pairs_in d s);
}

-- the work size is over the limit, or memory ran out
abbrev pub IsOver : ℕ → BindFault → Type 0
IsOver size (At code line) = ⊥
IsOver size (TooMuch n) = (n ≡ size) × (most_work_size < n)
IsOver size Memory = Unit {0}
