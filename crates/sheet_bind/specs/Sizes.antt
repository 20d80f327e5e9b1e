-- The work size of a worksheet, by what is kept of usable assertions.
use Rattle.std.specs.Prelude.{ℕ, Bool, ◌+◌, ◌&&◌, length, map, sum, nat_lt, nat_le, slice_index_or, if◌then◌else◌, Option, Some, None, is_some, option_and_then}
use Rattle.std.specs.Option.{option_map_or}
use Rattle.mm_base.specs.declared.symbols.Label.{Label}
use Rattle.mm_model.specs.Names.{Name, label_named}
use Rattle.mm_model.specs.Sizes.{nodes}
use Rattle.mm_database.specs.declared.assertions.Parsed.{Parsed}
use Rattle.mm_database.specs.Books.{parsed_at}
use Rattle.mm_database.specs.Opened.{Opened}
use Rattle.solve_model.specs.declared.bound.BoundStep.{BoundStep}

-- the label, where it is that of a usable assertion before the place
abbrev pub usable_at : Opened → ℕ → Label → Option Label
usable_at d place l = if nat_lt (slice_index_or d.contents.positions l.0 0) place && is_some (parsed_at d.parsed l) then Some l else None

abbrev pub candidate_of : Opened → ℕ → Option Name → Option Label
candidate_of d place None = None
candidate_of d place (Some r) = option_and_then (usable_at d place) (label_named d.contents.labels r)

-- the label of the candidate that a step names
abbrev pub candidate_at : Opened → ℕ → Bool → Option Name → Option Label
candidate_at d place hyp reference = if hyp then None else candidate_of d place reference

abbrev pub parsed_size : ℕ → Option Parsed → ℕ
parsed_size places None = 0
parsed_size places (Some p) = if nat_le places (length p.hyps) then nodes p.tree + sum (map nodes p.hyps) else 0

abbrev pub size_at : Opened → Label → ℕ → ℕ
size_at d l places = parsed_size places (parsed_at d.parsed l)

-- the nodes of the trees of the candidate of a step that has so many places
abbrev pub standing_at : Opened → ℕ → Bool → Option Name → ℕ → ℕ
standing_at d place hyp reference places = option_map_or (λ l. size_at d l places) (candidate_at d place hyp reference) 0

abbrev pub standing_in : Opened → ℕ → BoundStep → ℕ
standing_in d place s = standing_at d place s.hyp s.reference (length s.places)

abbrev pub size_in : Opened → ℕ → BoundStep → ℕ
size_in d place s = option_map_or nodes s.tree 1 + standing_in d place s
