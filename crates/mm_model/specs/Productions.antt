-- The productions of a database: its syntax axioms, from their frames.
use Rattle.std.specs.Prelude.{ℕ, ◌==◌, Bool, true, false, not, ◌&&◌, List, [], ◌∷◌, length, map, filter, position, option_and_then, nat_eq, Option, Some, None, if◌then◌else◌}
use Rattle.std.specs.List.{list_any, filter_map, flat_map, range_with_len}
use Rattle.mm_base.specs.declared.symbols.Sym.{Sym}
use Rattle.mm_base.specs.declared.symbols.Typecode.{Typecode}
use Rattle.mm_model.specs.declared.frames.Hyp.{Hyp}
use Rattle.mm_model.specs.declared.frames.Frame.{Frame}
use Rattle.mm_model.specs.declared.rows.Item.{Item}
use Rattle.mm_model.specs.declared.rows.Item.TheVariants.{Const, Slot}
use Rattle.mm_model.specs.declared.rows.Production.{Production}
use Rattle.mm_model.specs.Names.{Name, label, typecode}
use Rattle.mm_model.specs.Statements.{Statement, is_empty, labels}
use Rattle.mm_model.specs.Frames.{symbols, symbol_in, frame_of}
use Rattle.mm_model.specs.Chains.{kept}
use Rattle.mm_model.specs.Rows.{slot_order}

-- the `$f`, and the `$e`, among hypotheses
abbrev pub floats : List Hyp → List Hyp
floats hyps = filter (λ h. h.floating) hyps

abbrev pub essentials : List Hyp → List Hyp
essentials hyps = filter (λ h. not h.floating) hyps

-- a variable with its typecode
pub record TypedVariable : Type 0 where
  pub sym : Sym
  pub code : Typecode

-- the variable of a `$f`, which has two symbols
abbrev pub typed_by : List Sym → List TypedVariable
typed_by [] = []
typed_by (c ∷ []) = []
typed_by (c ∷ v ∷ rest) = record { sym = v; code = typecode c } ∷ []

-- the variables of the `$f` among hypotheses, in their order
abbrev pub typed_variables : List Hyp → List TypedVariable
typed_variables hyps = flat_map (λ h. typed_by h.formula) (floats hyps)

-- a variable of the frame is the slot of its number there, any other symbol is a constant
abbrev pub item_of : List TypedVariable → Sym → Item
item_of vars s = by_place (position (λ (v : TypedVariable). v.sym.0 == s.0) vars)
  where
    by_place : Option ℕ → Item
    by_place None = Const s
    by_place (Some k) = Slot k

-- a number stands twice
abbrev pub has_repeats : List ℕ → Bool
has_repeats [] = false
has_repeats (n ∷ ns) = if list_any (nat_eq n) ns then true else has_repeats ns

-- the row of an assertion's frame with this formula: none where there is nothing behind the typecode
abbrev pub row_with : Frame → List Sym → Option Production
row_with f [] = None
row_with f (c ∷ []) = None
row_with f (c ∷ s ∷ rest) = Some (record {
  label = f.label;
  at = f.at;
  gives = typecode c;
  items = map (item_of (typed_variables f.hyps)) (s ∷ rest);
  slots = map (λ (v : TypedVariable). v.code) (typed_variables f.hyps);
})

-- whether a symbol string begins with this symbol
abbrev pub begins_with : Sym → List Sym → Bool
begins_with c [] = false
begins_with c (s ∷ rest) = s.0 == c.0

-- whether an axiom can be a production: it is not provable, and has no `$e` and no pair of distinct variables
abbrev pub is_syntax : Sym → Frame → Bool
is_syntax provable f = f.is_axiom && not (begins_with provable f.formula) && is_empty (essentials f.hyps) && is_empty f.pairs

-- the production that a frame gives; none where it cannot be one, or a variable stands in its text twice
abbrev pub row_of_frame : Sym → Frame → Option Production
row_of_frame provable f =
    if is_syntax provable f then option_and_then (λ (r : Production). if has_repeats (slot_order r.items) then None else Some r) (row_with f f.formula) else None

-- the frames of a database, by position
abbrev pub frames : List Statement → List Frame
frames ss = filter_map (λ n. frame_of ss (label n)) (range_with_len 0 (length (labels ss)))

-- the productions of a database, by position, where this is the name of the provable typecode
abbrev pub rows : Name → List Statement → List Production
rows provable ss = filter_map (row_of_frame (symbol_in (symbols ss) provable)) (frames ss)

-- the productions by which trees are made
abbrev pub kept_rows : Name → List Statement → List Production
kept_rows provable ss = kept (rows provable ss)
