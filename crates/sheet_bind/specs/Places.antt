-- The theorem's place in a database, and what is kept of it. This is part of the proof, and not of the claim.
use Rattle.std.specs.Prelude.{ℕ, ◌==◌, ◌&&◌, not, Bool, false, List, [], ◌∷◌, ◌++◌, length, fold, replicate, if◌then◌else◌, Option, None, option_map, option_and_then}
use Rattle.std.specs.List.{list_any}
use Rattle.std.specs.Option.{option_map_or}
use Rattle.mm_base.specs.declared.symbols.Typecode.{Typecode}
use Rattle.mm_model.specs.declared.frames.Active.{Active}
use Rattle.mm_model.specs.declared.frames.Frame.{Frame}
use Rattle.mm_model.specs.declared.frames.Hyp.{Hyp}
use Rattle.mm_model.specs.Frames.{symbol_in, active_at, float_codes, place_after}
use Rattle.mm_model.specs.Names.{Name, typecode, label_named}
use Rattle.mm_model.specs.Productions.{essentials}
use Rattle.mm_model.specs.Statements.{statements}
use Rattle.mm_frames.specs.Contents.{Contents}
use Rattle.sheet_text.specs.declared.sheet.Sheet.{Sheet}
use Rattle.sheet_bind.specs.declared.setting.Setting.{Setting}
use Rattle.sheet_bind.specs.declared.setting.Place.{Place}
use Rattle.sheet_bind.specs.Marks.{mark, put_hyp}
use Rattle.sheet_bind.specs.Seen.{existing_in, is_constant_below}

-- the typecode is a constant of the database
abbrev pub is_declared : Contents → Typecode → Bool
is_declared c code = is_constant_below c.constants (length c.entries) code.0

-- the typecode is among these
abbrev pub has_code : List Typecode → Typecode → Bool
has_code kept code = list_any (λ (k : Typecode). k.0.0 == code.0.0) kept

-- one more, where it is a constant and not among them yet
abbrev pub put_declared : Contents → List Typecode → Typecode → List Typecode
put_declared c kept code = if is_declared c code && not (has_code kept code) then kept ++ code ∷ [] else kept

abbrev pub put_essential : List Hyp → Hyp → List Hyp
put_essential kept h = if h.floating then kept else kept ++ h ∷ []

-- what is kept of a place where this is active
abbrev pub setting_in : Contents → Name → ℕ → Option Frame → Active → List Typecode → Setting
setting_in c logic place frame active codes = record {
  place = place;
  conclusion = option_map (λ (f : Frame). f.formula) frame;
  given = option_map_or (λ (f : Frame). essentials f.hyps) frame (essentials active.hyps);
  variables = fold mark (replicate (length c.symbols) false) active.variables;
  codes = fold put_hyp (replicate (length c.symbols) None) active.hyps;
  work = fold (put_declared c) [] (typecode (symbol_in c.symbols logic) ∷ codes);
  logic = typecode (symbol_in c.symbols logic);
}

abbrev pub place_in : Contents → Name → ℕ → Option Frame → Active → List Typecode → Place
place_in c logic place frame active codes = record { setting = setting_in c logic place frame active codes; hyps = active.hyps }

-- the number of the place, where this is the frame of an existing theorem
abbrev pub place_number : List ℕ → Contents → Option Frame → Option Name → ℕ
place_number text c frame loc = option_map_or (λ (f : Frame). f.at) frame (option_map_or (place_after (statements text)) (option_and_then (label_named c.labels) loc) (length c.entries))

abbrev pub place_by : List ℕ → Contents → Name → Option Frame → ℕ → Place
place_by text c logic frame place = place_in c logic place frame (active_at (statements text) place) (float_codes (statements text) place)

-- the place of a worksheet
abbrev pub sheet_place : List ℕ → Contents → Name → Sheet → Place
sheet_place text c logic s = place_by text c logic (existing_in c s.theorem) (place_number text c (existing_in c s.theorem) s.loc)
