-- Tables by symbol number: which symbols are marked, and the typecodes of variables. This is part of the proof, and not of the claim.
use Rattle.std.specs.Prelude.{Bool, true, List, [], ◌∷◌, slice_set, slice_index_or, if◌then◌else◌, Option, Some, None, is_none}
use Rattle.mm_base.specs.declared.symbols.Sym.{Sym}
use Rattle.mm_base.specs.declared.symbols.Typecode.{Typecode}
use Rattle.mm_model.specs.declared.frames.Hyp.{Hyp}
use Rattle.mm_model.specs.Names.{typecode}

-- one symbol more; one past the end is left out
abbrev pub mark : List Bool → Sym → List Bool
mark marks s = slice_set marks s.0 true

-- the typecode of a variable, where there is none yet
abbrev pub put_typed : List (Option Typecode) → Sym → Typecode → List (Option Typecode)
put_typed codes s c = if is_none (slice_index_or codes s.0 None) then slice_set codes s.0 (Some c) else codes

abbrev pub put_formula : List (Option Typecode) → List Sym → List (Option Typecode)
put_formula codes [] = codes
put_formula codes (c ∷ []) = codes
put_formula codes (c ∷ v ∷ rest) = put_typed codes v (typecode c)

-- what a `$f` says of its variable
abbrev pub put_hyp : List (Option Typecode) → Hyp → List (Option Typecode)
put_hyp codes h = if h.floating then put_formula codes h.formula else codes
