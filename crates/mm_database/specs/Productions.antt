-- The productions of frames, as the code makes them. This is part of the proof, and not of the claim.
use Rattle.std.specs.Prelude.{ℕ, ◌==◌, Bool, false, List, [], ◌∷◌, map, position, if◌then◌else◌, Option, Some, None, option_and_then}
use Rattle.std.specs.List.{filter_map, list_all}
use Rattle.mm_base.specs.declared.symbols.Sym.{Sym}
use Rattle.mm_model.specs.declared.frames.Hyp.{Hyp}
use Rattle.mm_model.specs.declared.frames.Frame.{Frame}
use Rattle.mm_model.specs.declared.rows.Item.{Item}
use Rattle.mm_model.specs.declared.rows.Item.TheVariants.{Const, Slot}
use Rattle.mm_model.specs.declared.rows.Production.{Production}
use Rattle.mm_model.specs.Names.{typecode}
use Rattle.mm_model.specs.Rows.{slot_order}
use Rattle.mm_model.specs.Productions.{has_repeats, row_of_frame}
use Rattle.mm_database.specs.declared.variables.FrameVariable.{FrameVariable}
use Rattle.mm_database.specs.Variables.{frame_variables}

abbrev pub all_floating : List Hyp → Bool
all_floating hyps = list_all (λ (h : Hyp). h.floating) hyps

abbrev pub is_slot : ℕ → Item → Bool
is_slot k (Const s) = false
is_slot k (Slot j) = k == j

abbrev pub item_at : Sym → Option ℕ → Item
item_at s None = Const s
item_at s (Some k) = Slot k

abbrev pub item_of : List FrameVariable → Sym → Item
item_of vars s = item_at s (position (λ (v : FrameVariable). v.sym.0 == s.0) vars)

abbrev pub with_items : Frame → Sym → List Item → Option Production
with_items f code items = if has_repeats (slot_order items) then None else Some (record {
  label = f.label;
  at = f.at;
  gives = typecode code;
  items = items;
  slots = map (λ (v : FrameVariable). v.code) (frame_variables f.hyps);
})

-- the production of a frame with that text behind its typecode
abbrev pub with_text : Frame → Sym → List Sym → Option Production
with_text f code [] = None
with_text f code (s ∷ rest) = with_items f code (map (item_of (frame_variables f.hyps)) (s ∷ rest))

-- the production of the frame, if there is one
abbrev pub row_in : Sym → Option Frame → Option Production
row_in provable o = option_and_then (row_of_frame provable) o

abbrev pub rows_of : Sym → List (Option Frame) → List Production
rows_of provable frames = filter_map (row_in provable) frames
