-- Pairs as keys: two numbers, the lesser first.
use Rattle.std.specs.Prelude.{ℕ, List, map}
use Rattle.std.specs.BTreeSet.{BTreeSet}
use Rattle.mm_base.specs.declared.symbols.Pair.{Pair}
use Rattle.mm_model.specs.Names.{sym}

abbrev pub pair_of : ℕ × ℕ → Pair
pair_of k = record { a = sym k.0; b = sym k.1 }

-- the pairs of a set of keys
abbrev pub pairs_of : BTreeSet (ℕ × ℕ) → List Pair
pairs_of keys = map pair_of keys.keys
