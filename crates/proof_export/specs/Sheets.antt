-- Statements of a worksheet, by the names of symbols. This is part of the proof, and not of the claim.
use Rattle.std.specs.Prelude.{List, [], ◌∷◌, slice_index_or}
use Rattle.mm_base.specs.declared.symbols.Sym.{Sym}
use Rattle.mm_base.specs.declared.symbols.Pair.{Pair}
use Rattle.mm_model.specs.Names.{Name}
use Rattle.sheet_text.specs.declared.sheet.PairLine.{PairLine}

abbrev pub token_in : List Name → Sym → Name
token_in symbols s = slice_index_or symbols s.0 []

abbrev pub line_in : List Name → Pair → PairLine
line_in symbols p = record { line = 0; names = token_in symbols p.a ∷ token_in symbols p.b ∷ [] }
