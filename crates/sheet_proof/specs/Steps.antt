-- What proves the steps of a draft, each by those before it. This is part of the proof, and not of the claim.
use Rattle.std.specs.Prelude.{ℕ, Bool, false, ◌&&◌, ◌==◌, List, [], ◌∷◌, ◌++◌, length, fold, filter_map, unwrap_or, if◌then◌else◌, Option, Some, None}
use Rattle.std.specs.List.{list_all}
use Rattle.std.specs.Option.{option_map_or}
use Rattle.mm_base.specs.declared.symbols.Label.{Label}
use Rattle.mm_model.specs.Book.{Assertion}
use Rattle.mm_database.specs.Opened.{Opened}
use Rattle.sheet_text.specs.declared.sheet.Given.{Given}
use Rattle.sheet_text.specs.declared.sheet.Given.TheVariants as place
use Rattle.proof_tree.specs.declared.building.ProofStep.{ProofStep}
use Rattle.proof_tree.specs.declared.building.ProofStep.TheVariants as given
use Rattle.proof_tree.specs.Given.{used_at}
use Rattle.written_steps.specs.declared.draft.StepUse.{StepUse}
use Rattle.written_steps.specs.declared.draft.DraftStep.{DraftStep}
use Rattle.written_steps.specs.declared.draft.DraftItem.{DraftItem}
use Rattle.written_steps.specs.declared.draft.DraftItem.TheVariants as draft
use Rattle.written_steps.specs.Drafts.{usable_in}

-- the place names a step that is used
abbrev pub is_used_place : List ProofStep → Given → Bool
is_used_place before place.Gap = false
is_used_place before (place.Step k) = used_at before k

abbrev pub are_used : List ProofStep → List Given → Bool
are_used before places = list_all (is_used_place before) places

abbrev pub number_of : Given → Option ℕ
number_of place.Gap = None
number_of (place.Step k) = Some k

-- the numbers of the steps that places name
abbrev pub step_numbers : List Given → List ℕ
step_numbers places = filter_map number_of places

-- how many `$e` the assertion of a label has
abbrev pub hyps_in : Opened → Label → ℕ
hyps_in d l = option_map_or (λ (a : Assertion). length a.hyps) (usable_in d l) 0

-- the use has all its places, and each is used
abbrev pub is_whole : Opened → List ProofStep → List Given → StepUse → Bool
is_whole d before places u = length places == hyps_in d u.label && are_used before places

abbrev pub use_step : Opened → List ProofStep → List Given → StepUse → ProofStep
use_step d before places u = if is_whole d before places u then given.Ref u.label u.values (step_numbers places) else given.Unused

-- of a step without a use: a hypothesis by its label
abbrev pub bare_step : DraftStep → ProofStep
bare_step s = if s.hyp then given.Hyp (unwrap_or s.reference []) else given.Unused

abbrev pub step_by : Opened → List ProofStep → DraftStep → Option StepUse → ProofStep
step_by d before s None = bare_step s
step_by d before s (Some u) = use_step d before s.places u

abbrev pub proof_step : Opened → List ProofStep → DraftStep → ProofStep
proof_step d before s = step_by d before s s.by

abbrev pub put_step : Opened → List ProofStep → DraftStep → List ProofStep
put_step d before s = before ++ proof_step d before s ∷ []

abbrev pub put_item : Opened → List ProofStep → DraftItem → List ProofStep
put_item d before (draft.Comment lines) = before
put_item d before (draft.Step s) = put_step d before s

abbrev pub proof_steps : Opened → List DraftItem → List ProofStep
proof_steps d items = fold (put_item d) [] items
