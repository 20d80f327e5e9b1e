-- A worksheet without faults over its database, and what stands of each step before anything is solved.
use Rattle.std.specs.Prelude.{◌≡◌, ℕ, ◌+◌, Bool, List, [], length, map, nat_lt, nat_le, sum, if◌then◌else◌, Option, Some, None, is_some}
use Rattle.std.specs.List.{AllZip}
use Rattle.std.specs.Option.{option_map_or}
use Rattle.mm_base.specs.declared.symbols.Label.{Label}
use Rattle.mm_base.specs.declared.tree.Tree.{Tree}
use Rattle.mm_model.specs.declared.frames.Frame.{Frame}
use Rattle.mm_model.specs.Names.{Name}
use Rattle.mm_model.specs.Sizes.{nodes}
use Rattle.mm_model.specs.Book.{Database, Assertion, label_of, position_of}
use Rattle.sheet_text.specs.declared.sheet.Sheet.{Sheet}
use Rattle.sheet_text.specs.declared.sheet.SheetStep.{SheetStep}
use Rattle.sheet_text.specs.Layout.{steps}
use Rattle.solve_model.specs.declared.bound.BoundStep.{BoundStep}
use Rattle.solve_model.specs.declared.bound.Bound.{Bound}
use Rattle.solve_model.specs.declared.verdict.Verdict.{Verdict}
use Rattle.solve_model.specs.declared.verdict.Verdict.TheVariants as verdict
use Rattle.solve_model.specs.Formulas.{IsTheTree}
use Rattle.solve_model.specs.Binding.{existing, place_of, given_pairs, theorem_of}
use Rattle.solve_model.specs.BindFaults.{BindFaultAt}

-- the one tree of a formula at a place; none where it is blank
abbrev pub HasTree : Database → ℕ → List Name → Option Tree → Type 0
HasTree db place tokens None = tokens ≡ []
HasTree db place tokens (Some t) = IsTheTree db place tokens t

-- a step as it was read, with the tree of its formula; nothing rests on the number of its line
pub record IsBoundStep (db : Database) (place : ℕ) (s : SheetStep) (b : BoundStep) : Type 0 where
  pub hyp : b.hyp ≡ s.hyp
  pub name : b.name ≡ s.name
  pub places : b.places ≡ s.places
  pub reference : b.reference ≡ s.reference
  pub tree : HasTree db place s.formula b.tree

-- the worksheet has no fault over the database, and this is its place, and its steps with their trees
pub record Binds (db : Database) (s : Sheet) (bound : Bound) : Type 0 where
  pub sound : (line code : ℕ) → BindFaultAt db s line code → ⊥
  pub place : bound.place ≡ place_of db s
  pub existing : bound.existing ≡ is_some (existing db s)
  pub steps : AllZip (IsBoundStep db (place_of db s)) (steps s) bound.steps
  pub pairs : bound.pairs ≡ given_pairs db s
  pub theorem : bound.theorem ≡ theorem_of db s

-- ---- what stands of a step

-- a verdict that needs no solution, or a candidate with its assertion
pub data Standing : Type 0 where
  settled : Verdict → Standing
  candidate : Assertion → Standing

abbrev pub has_places_for : BoundStep → Assertion → Bool
has_places_for s a = nat_le (length s.places) (length a.hyps)

abbrev pub standing_usable : BoundStep → Option Assertion → Standing
standing_usable s None = settled verdict.NotUsable
standing_usable s (Some a) = if has_places_for s a then candidate a else settled verdict.TooManyHyps

-- an assertion that is not before the place, or is not usable; that has fewer `$e` than the step lists places; else a candidate
abbrev pub standing_of_frame : Database → ℕ → BoundStep → Label → Option Frame → Standing
standing_of_frame db place s l None = settled verdict.UnknownRef
standing_of_frame db place s l (Some f) = if nat_lt (position_of db l) place then standing_usable s (db.usable l) else settled verdict.NotUsable

abbrev pub standing_of_label : Database → ℕ → BoundStep → Option Label → Standing
standing_of_label db place s None = settled verdict.UnknownRef
standing_of_label db place s (Some l) = standing_of_frame db place s l (db.frame l)

abbrev pub standing_of_reference : Database → ℕ → BoundStep → Option Name → Standing
standing_of_reference db place s None = settled verdict.NoRef
standing_of_reference db place s (Some r) = standing_of_label db place s (label_of db r)

abbrev pub standing : Database → ℕ → BoundStep → Standing
standing db place s = if s.hyp then settled verdict.Hyp else standing_of_reference db place s s.reference

-- ---- the work size

abbrev pub standing_size : Standing → ℕ
standing_size (settled v) = 0
standing_size (candidate a) = nodes a.tree + sum (map nodes a.hyps)

-- the nodes of the formula's tree, 1 where it is blank, and of a candidate those of its assertion's trees
abbrev pub step_size : Database → ℕ → BoundStep → ℕ
step_size db place s = option_map_or nodes s.tree 1 + standing_size (standing db place s)

abbrev pub work_size : Database → Bound → ℕ
work_size db bound = sum (map (step_size db bound.place) bound.steps)
