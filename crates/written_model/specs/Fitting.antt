-- All assertions that fit a written step.
use Rattle.std.specs.Prelude.{◌≡◌, ℕ, ◌⊎◌, List, [], ◌∷◌, length, map, Contains}
use Rattle.std.specs.List.{range_with_len}
use Rattle.mm_base.specs.declared.symbols.Label.{Label}
use Rattle.mm_base.specs.declared.symbols.Pair.{Pair}
use Rattle.mm_model.specs.Names.{label}
use Rattle.mm_model.specs.Book.{Database}
use Rattle.sheet_text.specs.declared.sheet.Given.{Given}
use Rattle.written_model.specs.declared.options.DvMode.{DvMode}
use Rattle.written_model.specs.Found.{search_orders, Fits}
use Rattle.written_model.specs.WrittenSteps.{WrittenStep}

-- the elements with a property, in order
abbrev pub AreThoseWith : {X : Type 0} → (X → Type 0) → List X → List X → Type 0
AreThoseWith P [] found = found ≡ []
AreThoseWith {X} P (y ∷ ys) found = ((more : List X) × (found ≡ y ∷ more) × P y × AreThoseWith P ys more) ⊎ ((P y → ⊥) × AreThoseWith P ys found)

-- the assertion of a label fits the step in some order of its places, whatever its reference is
abbrev pub FitsInSomeOrder : Database → ℕ → DvMode → List Pair → List WrittenStep → WrittenStep → Label → Type 0
FitsInSomeOrder db place mode allowed es e l =
    (places : List Given) × Contains (search_orders e) places × Fits db place mode allowed es e (record { label = l; places = places })

-- the labels of a database, in order
abbrev pub all_labels : Database → List Label
all_labels db = map label (range_with_len 0 (length db.labels))

-- all labels that fit the step, in the order of the database
abbrev pub AreFitting : Database → ℕ → DvMode → List Pair → List WrittenStep → WrittenStep → List Label → Type 0
AreFitting db place mode allowed es e ls = AreThoseWith (FitsInSomeOrder db place mode allowed es e) (all_labels db) ls
