-- Given pairs, put in one after the other. This is part of the proof, and not of the claim.
use Rattle.std.specs.Prelude.{List, [], ◌∷◌, fold, filter_map}
use Rattle.mm_base.specs.declared.symbols.Sym.{Sym}
use Rattle.mm_base.specs.declared.symbols.Pair.{Pair}
use Rattle.mm_model.specs.Names.{Name, symbol_named}
use Rattle.sheet_text.specs.declared.sheet.PairLine.{PairLine}
use Rattle.solve_model.specs.PairSets.{ordered, put_pair}

-- a variable with each of a list
abbrev pub put_row : Sym → List Pair → List Sym → List Pair
put_row v ps ws = fold (λ acc w. put_pair acc (ordered v w)) ps ws

-- any two of a list
abbrev pub put_two : List Pair → List Sym → List Pair
put_two ps [] = ps
put_two ps (v ∷ vs) = put_two (put_row v ps vs) vs

-- the pairs of a `$d` statement
abbrev pub put_line : List Name → List Pair → PairLine → List Pair
put_line symbols ps p = put_two ps (filter_map (symbol_named symbols) p.names)
