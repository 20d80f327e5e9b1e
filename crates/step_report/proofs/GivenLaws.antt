-- The given pairs of a worksheet have the lesser variable first.
use Rattle.std.specs.Prelude.{List, [], ◌∷◌, ◌++◌, map, filter_map, flat_map}
use Rattle.mm_base.specs.declared.symbols.Sym.{Sym}
use Rattle.mm_base.specs.declared.symbols.Pair.{Pair}
use Rattle.mm_model.specs.Book.{Database, symbol_of}
use Rattle.sheet_text.specs.declared.sheet.Sheet.{Sheet}
use Rattle.sheet_text.specs.declared.sheet.PairLine.{PairLine}
use Rattle.solve_model.specs.Binding.{two_of, given_pairs}
use Rattle.solve_model.specs.PairSets.{ordered}
use Rattle.step_report.specs.PutPairs.{AreOrdered}
use Rattle.step_report.proofs.PairLaws.{ordered_is, set_ordered}

both : (ps qs : List Pair) → AreOrdered ps → AreOrdered qs → AreOrdered (ps ++ qs)
both [] qs h k = k
both (p ∷ ps) qs h k = (h.0, both ps qs h.1 k)

row_ordered : (v : Sym) (ws : List Sym) → AreOrdered (map (ordered v) ws)
row_ordered v [] = tt
row_ordered v (w ∷ ws) = (ordered_is v w, row_ordered v ws)

two_ordered : (vs : List Sym) → AreOrdered (two_of vs)
two_ordered [] = tt
two_ordered (v ∷ vs) = both (map (ordered v) vs) (two_of vs) (row_ordered v vs) (two_ordered vs)

lines_ordered : (db : Database) (ps : List PairLine) → AreOrdered (flat_map (λ (p : PairLine). two_of (filter_map (symbol_of db) p.names)) ps)
lines_ordered db [] = tt
lines_ordered db (p ∷ ps) =
    both (two_of (filter_map (symbol_of db) p.names)) (flat_map (λ (q : PairLine). two_of (filter_map (symbol_of db) q.names)) ps) (two_ordered (filter_map (symbol_of db) p.names))
    (lines_ordered db ps)

-- so for the pairs of a bound worksheet
pub given_ordered : (db : Database) (s : Sheet) → AreOrdered (given_pairs db s)
given_ordered db s = set_ordered (flat_map (λ (p : PairLine). two_of (filter_map (symbol_of db) p.names)) s.pairs) [] tt (lines_ordered db s.pairs)
