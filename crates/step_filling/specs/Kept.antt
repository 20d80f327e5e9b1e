-- What is written so far, as the code keeps it.
use Rattle.std.specs.Prelude.{◌≡◌, ℕ, false, List, [], ◌∷◌, ◌++◌, length, map, zip, Option, None}
use Rattle.mm_base.specs.declared.tree.Tree.{Tree}
use Rattle.mm_model.specs.Names.{Name}
use Rattle.mm_database.specs.Opened.{Opened}
use Rattle.sheet_text.specs.declared.sheet.Given.{Given}
use Rattle.sheet_text.specs.declared.sheet.Sheet.{Sheet}
use Rattle.sheet_text.specs.declared.sheet.SheetStep.{SheetStep}
use Rattle.sheet_text.specs.Layout.{step_names}
use Rattle.written_model.specs.declared.report.ReportVerdict.{ReportVerdict}
use Rattle.written_model.specs.declared.report.ReportVerdict.TheVariants as report
use Rattle.written_model.specs.WrittenSteps.{WrittenStep, steps_in, trees}
use Rattle.written_model.specs.Filled.{Filling, derived_names}
use Rattle.hyp_derive.specs.Naming.{HaveSameNames}
use Rattle.written_steps.specs.declared.draft.DraftStep.{DraftStep}
use Rattle.written_steps.specs.declared.draft.DraftItem.{DraftItem}
use Rattle.written_steps.specs.declared.draft.DraftItem.TheVariants as draft
use Rattle.written_steps.specs.declared.draft.StepUse.{StepUse}
use Rattle.written_steps.specs.Drafts.{items_in, AreSound}

-- the items, the numbers of the worksheet's steps among the written ones, the trees of the written steps, and the names that are used
pub record Kept : Type 0 where
  pub items : List DraftItem
  pub numbers : List ℕ
  pub trees : List Tree
  pub names : List Name

abbrev pub derived_draft : Name → Tree → DraftStep
derived_draft name tree = record { hyp = false; name = name; places = []; reference = None; tree = tree; verdict = report.NoRef; by = None }

abbrev pub derived_item : Name × Tree → DraftItem
derived_item p = draft.Step (derived_draft p.0 p.1)

abbrev pub draft_of : SheetStep → List Given → Tree → ReportVerdict → Option StepUse → DraftStep
draft_of s places tree verdict by = record { hyp = s.hyp; name = s.name; places = places; reference = s.reference; tree = tree; verdict = verdict; by = by }

abbrev pub with_comment : Kept → List Name → Kept
with_comment k lines = record k { items = k.items ++ draft.Comment lines ∷ [] }

-- nothing is written
pub record IsBegun (sheet : Sheet) (k : Kept) : Type 0 where
  pub items : k.items ≡ []
  pub numbers : k.numbers ≡ []
  pub trees : k.trees ≡ []
  pub names : HaveSameNames k.names (step_names sheet)

-- new steps of these trees are put in, each with a new name
pub record AreDerivedPut (old_items items : List DraftItem) (old_trees trees : List Tree) (old_names names : List Name) (made : List Tree) : Type 0 where
  pub trees_are : trees ≡ old_trees ++ made
  pub items_are : (used : List Name) → HaveSameNames old_names used → items ≡ old_items ++ map derived_item (zip (derived_names (length made) used) made)
  pub names_are : (used : List Name) → HaveSameNames old_names used → HaveSameNames names (used ++ derived_names (length made) used)

-- new steps of these trees are put in
pub record AreMade (old new : Kept) (made : List Tree) : Type 0 where
  pub numbers : new.numbers ≡ old.numbers
  pub put : AreDerivedPut old.items new.items old.trees new.trees old.names new.names made

-- a step of the worksheet is put in
pub record IsOwnPut (old new : Kept) (s : DraftStep) : Type 0 where
  pub numbers : new.numbers ≡ old.numbers ++ length old.trees ∷ []
  pub trees : new.trees ≡ old.trees ++ s.tree ∷ []
  pub items : new.items ≡ old.items ++ draft.Step s ∷ []
  pub names : (used : List Name) → HaveSameNames old.names used → HaveSameNames new.names (used ++ s.name ∷ [])

-- as the definitions have it
abbrev pub filling_in : Opened → Kept → Filling
filling_in d k = record { items = items_in d k.items; numbers = k.numbers }

abbrev pub names_in : Opened → Kept → List Name
names_in d k = map (λ (e : WrittenStep). e.name) (steps_in (items_in d k.items))

-- the trees and the names are those of what is written, where the worksheet's steps have these names, and each use is sound
pub record IsInStep (d : Opened) (used : List Name) (k : Kept) : Type 0 where
  pub trees : k.trees ≡ trees (steps_in (items_in d k.items))
  pub names : HaveSameNames k.names (used ++ names_in d k)
  pub sound : AreSound d k.items
