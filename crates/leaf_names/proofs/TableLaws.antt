-- What a table says after leaves were named.
use Rattle.std.specs.Prelude.{◌≡◌, ℕ, take}
use Rattle.std.proofs.Common.{subst}
use Rattle.mm_base.specs.declared.tree.Tree.{Tree}
use Rattle.leaf_names.specs.Leaves.{fresh_leaves}
use Rattle.leaf_names.specs.Tables.{Table, Adds}
use Rattle.leaf_names.specs.Named.{AddsTo}

pub adds_to : (inside old new : Table) → inside ≡ old → (tree : Tree) (k : ℕ) → Adds inside.symbols inside.read (take k (fresh_leaves inside.rows tree)) inside.given new.given
    → new.symbols ≡ inside.symbols → new.rows ≡ inside.rows → new.read ≡ inside.read → AddsTo (take k (fresh_leaves old.rows tree)) old new
adds_to inside old new is tree k given symbols rows read =
    subst (λ (o : Table). AddsTo (take k (fresh_leaves o.rows tree)) o new) is (record { symbols = symbols; rows = rows; read = read; given = given })
