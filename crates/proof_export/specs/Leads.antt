-- What the steps so far become with the pushes that follow. This is part of the proof, and not of the claim.
use Rattle.std.specs.Prelude.{◌≡◌, Bool, true, false, not, List, ◌++◌, length, map, filter}
use Rattle.std.specs.List.{zip}
use Rattle.mm_model.specs.Book.{Database}
use Rattle.mm_model.specs.declared.frames.Hyp.{Hyp}
use Rattle.mm_model.specs.Names.{Name}
use Rattle.proof_model.specs.Machine.{Entry, Formula}
use Rattle.sheet_text.specs.declared.sheet.Given.{Given}
use Rattle.sheet_text.specs.declared.sheet.SheetItem.{SheetItem}
use Rattle.sheet_text.specs.declared.sheet.SheetItem.TheVariants as item
use Rattle.sheet_text.specs.declared.sheet.SheetStep.{SheetStep}
use Rattle.export_model.specs.Exported.{Push, place_in, push_steps}
use Rattle.proof_export.specs.Places.{AreSteps}
use Rattle.proof_export.specs.declared.steps.Steps.{Steps}

abbrev pub items_of : List SheetStep → List SheetItem
items_of ss = map (λ s. item.Step s) ss

-- these are the formulas of the steps
pub record HasFormulas (s : Steps) (formulas : List Formula) : Type 0 where
  pub count : length s.items.items ≡ length formulas
  pub places : AreSteps formulas s.places.entries

-- the entries that are taken for the `$e` among these hypotheses
abbrev pub taken_for : List Hyp → List Formula → List Formula
taken_for hyps entries = map (λ (e : Entry). e.1) (filter (λ (e : Entry). not e.0.floating) (zip hyps entries))

-- each is the place of one of these formulas
pub record ArePlaces (s : Steps) (places : List Given) (taken : List Formula) : Type 0 where
  pub each : (fs : List Formula) → HasFormulas s fs → places ≡ map (place_in fs) taken

abbrev pub push_with : Name → List Formula → Formula → Push
push_with label taken formula = record { label = label; taken = taken; formula = formula }

-- the steps with these pushes behind them become the same as those with these
pub record LeadsTo (db : Database) (theorem : Formula) (old : Steps) (before : List Push) (new : Steps) (behind : List Push) : Type 0 where
  pub each : (fs : List Formula) → HasFormulas old fs
      → (gs : List Formula) × HasFormulas new gs
      × (old.items.items ++ items_of (push_steps db theorem fs before) ≡ new.items.items ++ items_of (push_steps db theorem gs behind))

-- they become these steps
pub record Ends (db : Database) (theorem : Formula) (old : Steps) (before : List Push) (new : Steps) : Type 0 where
  pub each : (fs : List Formula) → HasFormulas old fs → old.items.items ++ items_of (push_steps db theorem fs before) ≡ new.items.items

-- where the last step was made nothing follows
abbrev pub Goes : Bool → Database → Formula → Steps → List Push → Steps → List Push → Type 0
Goes true db theorem old before new behind = Ends db theorem old before new
Goes false db theorem old before new behind = LeadsTo db theorem old before new behind
