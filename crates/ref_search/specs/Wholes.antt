-- What the search says of a step.
use Rattle.std.specs.Prelude.{◌≡◌, ℕ, List, map, slice_index_or, Option, Some, None, option_map}
use Rattle.mm_base.specs.declared.kinds.Kinds.{Kinds}
use Rattle.mm_base.specs.declared.symbols.Pair.{Pair}
use Rattle.mm_model.specs.Book.{Database, Assertion}
use Rattle.sheet_text.specs.declared.sheet.Given.{Given}
use Rattle.sheet_text.specs.declared.sheet.Given.TheVariants as given
use Rattle.written_model.specs.declared.options.DvMode.{DvMode}
use Rattle.written_model.specs.declared.options.DvMode.TheVariants as dv
use Rattle.written_model.specs.WrittenSteps.{WrittenStep, place_tree}
use Rattle.written_model.specs.Found.{Choice, FitsUse, IsFound}
use Rattle.mm_database.specs.Opened.{Opened, IsOpened}
use Rattle.ref_search.specs.declared.wanted.Wanted.{Wanted}
use Rattle.ref_search.specs.declared.wanted.Found.{Found}
use Rattle.ref_search.specs.Completing.{use_of}
use Rattle.ref_search.specs.Searching.{book, HasFound}

-- the step's formula and those of its places are wanted
pub record IsWantedBy (es : List WrittenStep) (e : WrittenStep) (w : Wanted) : Type 0 where
  pub formula : e.tree ≡ w.formula
  pub hyps : map (place_tree es) e.places ≡ map (λ t. Some t) w.hyps

-- the pairs that are allowed, where the search keeps to the given ones
abbrev pub IsAllowed : DvMode → List Pair → Option (List Pair) → Type 0
IsAllowed dv.Add pairs o = o ≡ None
IsAllowed dv.Given pairs o = o ≡ Some pairs

-- the step's places in an order
abbrev pub places_at : WrittenStep → List ℕ → List Given
places_at e order = map (λ k. slice_index_or e.places k given.Gap) order

abbrev pub choice_of : WrittenStep → Found → Choice
choice_of e found = record { label = found.label; places = places_at e found.order }

-- it is found of the step, with the values that were found; or nothing fits it
pub record IsFoundFor (db : Database) (place : ℕ) (mode : DvMode) (pairs : List Pair) (es : List WrittenStep) (e : WrittenStep) (o : Option Found) : Type 0 where
  pub found : IsFound db place mode pairs es e (option_map (choice_of e) o)
  pub values : HasFound (λ found. (a : Assertion) × FitsUse db place mode pairs es e (choice_of e found) (use_of a found.trees)) o

-- so for each step of which these trees are wanted, in each text from which the database is opened
abbrev pub IsAnswer : Opened → ℕ → Wanted → Option (List Pair) → Option Found → Type 0
IsAnswer d place w allowed o =
    (kinds : Kinds) (text : List ℕ) (mode : DvMode) (pairs : List Pair) (es : List WrittenStep) (e : WrittenStep) → IsOpened kinds text d → IsAllowed mode pairs allowed → IsWantedBy es e w
    → IsFoundFor (book kinds text d) place mode pairs es e o
