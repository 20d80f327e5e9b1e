-- The hash of a tree.
use Rattle.std.specs.Prelude.{ℕ, ◌*◌, ◌/◌, ◌%◌, ◌^◌, fold, bit_xor}
use Rattle.mm_base.specs.declared.tree.Tree.{Tree}
use Rattle.mm_base.specs.declared.tree.Tree.TheOpen.{Tree-F}
use Rattle.mm_base.specs.declared.tree.Tree.TheFolds.{fold-Tree}

unfoldable pub spread : ℕ → ℕ
spread product = bit_xor product (product / 2 ^ 32)

-- a word is put to a hash
unfoldable pub mix : ℕ → ℕ → ℕ
mix hash word = spread ((bit_xor hash word * 11400714819323198485) % 2 ^ 64)

abbrev pub hash_layer : Tree-F ℕ → ℕ
hash_layer (Tree-F.Var s c) = mix (mix 1 s.0) c.0.0
hash_layer (Tree-F.Work c n) = mix (mix 2 n) c.0.0
hash_layer (Tree-F.Fresh c n) = mix (mix 3 n) c.0.0
hash_layer (Tree-F.Node l c hashes) = fold mix (mix 4 l.0) hashes

unfoldable pub hash_of : Tree → ℕ
hash_of = fold-Tree ℕ hash_layer
