-- Part of the proof, and not of the claim: tests of what is asked of the rows of a grammar.
use Rattle.std.specs.Prelude.{◌==◌, ◌&&◌, ℕ, zero, suc, Bool, true, List, [], ◌∷◌, length, nat_lt}
use Rattle.mm_model.specs.Rows.{place_of}

-- the numbers are below n, and the first places at which they stand in a list are those from a place on
abbrev pub stand_first : List ℕ → List ℕ → ℕ → ℕ → Bool
stand_first all [] at n = true
stand_first all (k ∷ rest) at n = nat_lt k n && ((place_of k all == at) && stand_first all rest (suc at) n)

-- each number below n stands in the list
abbrev pub all_stand : List ℕ → ℕ → Bool
all_stand order zero = true
all_stand order (suc k) = all_stand order k && nat_lt (place_of k order) (length order)
