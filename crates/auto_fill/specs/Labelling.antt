-- The first of some labels whose assertion serves. But for `IsSound` this is part of the proof, and not of the claim.
use Rattle.std.specs.Prelude.{ℕ, ◌<◌, ◌≤◌, List, [], ◌++◌, Option, Some, None, option_map}
use Rattle.std.specs.List.{AllByRecursion}
use Rattle.mm_base.specs.declared.symbols.Label.{Label}
use Rattle.mm_base.specs.declared.symbols.Pair.{Pair}
use Rattle.mm_base.specs.declared.tree.Tree.{Tree}
use Rattle.mm_model.specs.Book.{Database, Assertion}
use Rattle.solve_model.specs.Firsts.{IsFirstOrNone}
use Rattle.mm_database.specs.declared.assertions.Parsed.{Parsed}
use Rattle.mm_database.specs.ByHead.{by_head}
use Rattle.mm_database.specs.Opened.{Opened}
use Rattle.auto_model.specs.AutoFilled.{step_tuples}
use Rattle.auto_model.specs.declared.auto.Auto.{Auto}
use Rattle.ref_search.specs.declared.wanted.Wanted.{Wanted}
use Rattle.ref_search.specs.Searching.{FitsAs, FitsLabel, IsSoundUse, head_of}
use Rattle.auto_fill.specs.declared.walking.Fit.{Fit}
use Rattle.auto_fill.specs.Walking.{HasFit}

-- as many `$e` as a tuple may have
pub record IsCount (n : ℕ) : Type 0 where
  pub least : 1 ≤ n
  pub most : n ≤ 3

-- the label serves with no tuple of these places
abbrev pub NoTuple : Database → Option (List Pair) → Wanted → List ℕ → Label → Type 0
NoTuple db given w places l = IsFirstOrNone (FitsLabel db given w l) (step_tuples places) None

-- the first tuple with which the label serves, with its values; or there is none
pub record IsLabelFit (db : Database) (given : Option (List Pair)) (w : Wanted) (places : List ℕ) (l : Label) (o : Option Fit) : Type 0 where
  pub first : IsFirstOrNone (FitsLabel db given w l) (step_tuples places) (option_map (λ (fit : Fit). fit.places) o)
  pub values : HasFit (λ fit. (a : Assertion) × FitsAs db given w l fit.places a fit.trees) o

abbrev pub HasAuto : (Auto → Type 0) → Option Auto → Type 0
HasAuto P None = Unit {0}
HasAuto P (Some a) = P a

-- the number of the label that serves, else the bound
abbrev pub upto : ℕ → Option Auto → ℕ
upto bound None = bound
upto bound (Some a) = a.label.0

-- the label is below a bound and that of a usable assertion, and each of its variables has a value
pub record IsSound (d : Opened) (bound : ℕ) (a : Auto) : Type 0 where
  pub below : a.label.0 < bound
  pub by : IsSoundUse d a.label a.trees

abbrev pub as_fit : Auto → Fit
as_fit a = record { places = a.places; trees = a.trees }

-- the label is below the bound, and serves as it is said
pub record IsAutoAt (db : Database) (given : Option (List Pair)) (w : Wanted) (places : List ℕ) (bound : ℕ) (a : Auto) : Type 0 where
  pub below : a.label.0 < bound
  pub fits : IsLabelFit db given w places a.label (Some (as_fit a))

-- the first of these labels that is below the bound and serves
pub record IsFirstAmong (db : Database) (given : Option (List Pair)) (w : Wanted) (places : List ℕ) (labels : List Label) (bound : ℕ) (o : Option Auto) : Type 0 where
  pub before : AllByRecursion (λ (l : Label). l.0 < upto bound o → NoTuple db given w places l) labels
  pub found : HasAuto (IsAutoAt db given w places bound) o

-- the one that was found last, else the one before
abbrev pub last_found : Option Auto → Option Auto → Option Auto
last_found None early = early
last_found (Some a) early = Some a

abbrev pub at_head : List (Option Parsed) → Option Label → ℕ → List Label
at_head parsed None n = []
at_head parsed (Some h) n = by_head parsed (Some h) n

-- the labels of so many `$e` whose conclusion is a variable or has the head of the formula
abbrev pub of_count : List (Option Parsed) → Tree → ℕ → List Label
of_count parsed formula n = by_head parsed None n ++ at_head parsed (head_of formula) n

-- of one, two or three
abbrev pub of_counts : List (Option Parsed) → Tree → List Label
of_counts parsed formula = (of_count parsed formula 1 ++ of_count parsed formula 2) ++ of_count parsed formula 3
