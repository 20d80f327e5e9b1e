-- Sets of pairs of distinct variables.
use Rattle.std.specs.Prelude.{Bool, ◌&&◌, ◌||◌, ◌==◌, List, [], ◌∷◌, fold, nat_lt, if◌then◌else◌}
use Rattle.std.specs.List.{list_any}
use Rattle.mm_base.specs.declared.symbols.Sym.{Sym}
use Rattle.mm_base.specs.declared.symbols.Pair.{Pair}

-- the pair of two variables, the lesser symbol number first
abbrev pub ordered : Sym → Sym → Pair
ordered v w = if nat_lt v.0 w.0 then record { a = v; b = w } else record { a = w; b = v }

-- by lesser and then greater symbol number
abbrev pub stands_before : Pair → Pair → Bool
stands_before p q = nat_lt p.a.0 q.a.0 || (p.a.0 == q.a.0 && nat_lt p.b.0 q.b.0)

abbrev pub same_pair : Pair → Pair → Bool
same_pair p q = p.a.0 == q.a.0 && p.b.0 == q.b.0

abbrev pub is_pair_in : List Pair → Pair → Bool
is_pair_in ps p = list_any (same_pair p) ps

abbrev pub put_pair : List Pair → Pair → List Pair
put_pair [] p = p ∷ []
put_pair (q ∷ qs) p = if same_pair p q then q ∷ qs else (if stands_before p q then p ∷ q ∷ qs else q ∷ put_pair qs p)

-- the pairs, each once, in that order
abbrev pub pair_set : List Pair → List Pair
pair_set ps = fold put_pair [] ps
