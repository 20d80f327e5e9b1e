-- The numbers that leaves have.
use Rattle.std.specs.Prelude.{◌≡◌, ◌<◌, ◌^◌, ℕ, true, false, Bool, List, [], ◌∷◌, Some, refl}
use Rattle.std.specs.List.{AllByRecursion}
use Rattle.std.specs.Map.{lookup}
use Rattle.std.proofs.Common.{subst}
use Rattle.leaf_names.specs.Leaves.{FreshLeaf}
use Rattle.leaf_names.specs.Tables.{NamedLeaf, same_leaf}

-- each number that is looked up is in range
pub numbers_of : (given : List NamedLeaf) (x : FreshLeaf) (k : ℕ) → AllByRecursion (λ (g : NamedLeaf). g.1 < 2 ^ 32) given → lookup (same_leaf x) given ≡ Some k → k < 2 ^ 32
numbers_of [] x k h e = absurd (cc)
numbers_of (g ∷ gs) x k h e = by (numbers_of gs x k h.1) (same_leaf x g.0) refl
  where
    here : Some g.1 ≡ Some k → g.1 ≡ k
    here q = cc

    by : (lookup (same_leaf x) gs ≡ Some k → k < 2 ^ 32) → (b : Bool) → same_leaf x g.0 ≡ b → k < 2 ^ 32
    by rest true is = subst (λ m. m < 2 ^ 32) (here (rw is at e)) h.0
    by rest false is = rest (rw is at e)
