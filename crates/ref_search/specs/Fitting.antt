-- The labels that fit in some order. But for `AreAnswer` this is part of the proof, and not of the claim.
use Rattle.std.specs.Prelude.{ℕ, ◌+◌, ◌<◌, ◌≤◌, ◌++◌, [], ◌∷◌, Bool, true, false, List, length, Contains, if◌then◌else◌, Option}
use Rattle.std.specs.BTreeSet.{insert_key}
use Rattle.std.specs.List.{AllByRecursion}
use Rattle.std.specs.Ordering.{nat_cmp}
use Rattle.mm_base.specs.declared.kinds.Kinds.{Kinds}
use Rattle.mm_base.specs.declared.symbols.Label.{Label}
use Rattle.mm_base.specs.declared.symbols.Pair.{Pair}
use Rattle.mm_model.specs.Names.{label}
use Rattle.mm_model.specs.Book.{Database}
use Rattle.written_model.specs.declared.options.DvMode.{DvMode}
use Rattle.written_model.specs.Fitting.{AreThoseWith, AreFitting}
use Rattle.written_model.specs.WrittenSteps.{WrittenStep}
use Rattle.mm_database.specs.Opened.{Opened, IsOpened}
use Rattle.ref_search.specs.declared.wanted.Wanted.{Wanted}
use Rattle.ref_search.specs.Placing.{orders_of}
use Rattle.ref_search.specs.Searching.{book, FitsLabel, NoFit}
use Rattle.ref_search.specs.Wholes.{IsAllowed, IsWantedBy}

-- the label fits in some order
pub record DoesFit (db : Database) (given : Option (List Pair)) (w : Wanted) (l : Label) : Type 0 where
  pub order : List ℕ
  pub among : Contains (orders_of (length w.hyps)) order
  pub fits : FitsLabel db given w l order

-- whether it does
abbrev pub IsFitting : Database → Option (List Pair) → Wanted → Label → Bool → Type 0
IsFitting db given w l true = DoesFit db given w l
IsFitting db given w l false = NoFit db given w l

-- and it is below the bound
pub record FitsBelow (db : Database) (given : Option (List Pair)) (w : Wanted) (bound : ℕ) (l : Label) : Type 0 where
  pub below : l.0 < bound
  pub does : DoesFit db given w l

-- those of the labels that do, in order
pub record AreFittingAmong (db : Database) (given : Option (List Pair)) (w : Wanted) (bound : ℕ) (labels found : List Label) : Type 0 where
  pub those : AreThoseWith (FitsBelow db given w bound) labels found

abbrev pub put_if : Bool → List Label → Label → List Label
put_if fits ls l = if fits then ls ++ l ∷ [] else ls

-- the number of one more label in a set of numbers
abbrev pub put_label : List ℕ → Label → List ℕ
put_label ns l = insert_key nat_cmp ns l.0

abbrev pub NumbersRise : ℕ → List ℕ → Type 0
NumbersRise low [] = Unit {0}
NumbersRise low (n ∷ ns) = (low ≤ n) × NumbersRise (n + 1) ns

-- all labels that do, by their numbers
pub record AreAllBelow (db : Database) (given : Option (List Pair)) (w : Wanted) (bound : ℕ) (numbers : List ℕ) : Type 0 where
  pub rise : NumbersRise 0 numbers
  pub each : AllByRecursion (λ n. FitsBelow db given w bound (label n)) numbers
  pub none_left_out : (n : ℕ) → FitsBelow db given w bound (label n) → Contains numbers n

-- in each text from which the database is opened, the labels that fit each step of which these trees are wanted
abbrev pub AreAnswer : Opened → ℕ → Wanted → Option (List Pair) → List Label → Type 0
AreAnswer d place w allowed ls =
    (kinds : Kinds) (text : List ℕ) (mode : DvMode) (pairs : List Pair) (es : List WrittenStep) (e : WrittenStep) → IsOpened kinds text d → IsAllowed mode pairs allowed → IsWantedBy es e w
    → AreFitting (book kinds text d) place mode pairs es e ls
