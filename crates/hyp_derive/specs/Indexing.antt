-- Trees by their hashes.
use Rattle.std.specs.Prelude.{◌≡◌, ℕ, ◌+◌, ◌==◌, ◌<◌, ◌^◌, Bool, List, [], ◌∷◌, length, slice_get, false, if◌then◌else◌}
use Rattle.std.specs.Option.{option_map_or}
use Rattle.mm_base.specs.declared.tree.Tree.{Tree}
use Rattle.mm_base.specs.declared.rows.Rows.{Rows}
use Rattle.mm_base.specs.Rows.{row_at}
use Rattle.solve_model.specs.Trees.{same_tree}
use Rattle.hyp_derive.specs.Hashing.{hash_of}

-- the numbers of the elements that pass, where the first has this number
abbrev pub numbers_from : {X : Type 0} → (X → Bool) → ℕ → List X → List ℕ
numbers_from test k [] = []
numbers_from test k (x ∷ xs) = if test x then k ∷ numbers_from test (k + 1) xs else numbers_from test (k + 1) xs

abbrev pub has_hash : ℕ → Tree → Bool
has_hash q t = hash_of t == q

-- the tree with this number is equal
abbrev pub is_at : List Tree → Tree → ℕ → Bool
is_at trees t n = option_map_or (same_tree t) (slice_get trees n) false

-- at each key stand the numbers of the trees that have it as their hash
pub record IsIndexOf (places : Rows ℕ) (trees : List Tree) : Type 0 where
  pub small : length trees < 2 ^ 32
  pub at : (q : ℕ) → row_at places q ≡ numbers_from (has_hash q) 0 trees
