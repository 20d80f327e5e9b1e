-- What a set of pairs holds, and in which order.
use Rattle.std.specs.Prelude.{◌≡◌, ◌↔◌, true, List, [], ◌∷◌, Contains}
use Rattle.mm_base.specs.declared.symbols.Pair.{Pair}
use Rattle.solve_model.specs.PairSets.{stands_before, pair_set}

-- the set of pairs holds just these pairs
abbrev pub PairSetHoldsSame : Type 0
PairSetHoldsSame = (ps : List Pair) (p : Pair) → Contains (pair_set ps) p ↔ Contains ps p

abbrev pub StandsBeforeNext : Pair → List Pair → Type 0
StandsBeforeNext p [] = Unit {0}
StandsBeforeNext p (q ∷ qs) = stands_before p q ≡ true

-- each pair stands before the next, and so each stands once
abbrev pub AreInOrder : List Pair → Type 0
AreInOrder [] = Unit {0}
AreInOrder (p ∷ ps) = StandsBeforeNext p ps × AreInOrder ps

abbrev pub PairSetIsInOrder : Type 0
PairSetIsInOrder = (ps : List Pair) → AreInOrder (pair_set ps)
