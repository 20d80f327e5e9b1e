-- What is kept to read trees off a store.
use Rattle.std.specs.Prelude.{◌≡◌, ℕ, ◌+◌, ◌<◌, ◌≤◌, nat_le, List, length, slice_index_or, if◌then◌else◌, Option, Some, None, Result, Ok, Err}
use Rattle.mm_base.specs.declared.symbols.Label.{Label}
use Rattle.mm_base.specs.declared.tree.Tree.{Tree}
use Rattle.mm_base.specs.Limits.{most_formula_tokens}
use Rattle.term_model.specs.Terms.{Term}
use Rattle.term_model.specs.Links.{Link}
use Rattle.term_model.specs.Store.{IsSolved}
use Rattle.term_model.specs.Sizes.{saturated, tokens, HaveConstants, AreTreeSizes}
use Rattle.chain_laws.specs.declared.leaves.WorkNode.{WorkNode}
use Rattle.chain_laws.specs.Leaves.{least_at}
use Rattle.chain_laws.specs.Reading.{value_at, AreWorkNodes}
use Rattle.step_chain.specs.declared.reading.TreeFault.{TreeFault}
use Rattle.step_chain.specs.declared.reading.TreeFault.TheVariants.{TooLong, Memory}

-- the one of lesser number, or the first
abbrev pub kept : Option WorkNode → WorkNode → WorkNode
kept None v = v
kept (Some w) v = if nat_le w.number v.number then w else v

-- of each node the least work variable whose bindings end there
pub record AreNames (links : List Link) (works : List WorkNode) (n : ℕ) (names : List (Option WorkNode)) : Type 0 where
  pub count : length names ≡ n
  pub each : (e : ℕ) → e < n → slice_index_or names e None ≡ least_at links e works

-- what is read from: the store's nodes and bindings, and the nodes of its work variables
pub record Readable : Type 0 where
  pub nodes : List Term
  pub links : List Link
  pub works : List WorkNode

-- it is a solved store, with the names of its nodes and the tokens of their trees
pub record IsReadable (nodes : List Term) (links : List Link) (works : List WorkNode) (names : List (Option WorkNode)) (sizes : List ℕ) : Type 0 where
  pub solved : IsSolved nodes links
  pub names_are : AreNames links works (length nodes) names
  pub count : length sizes ≡ length nodes
  pub sizes_are : AreTreeSizes nodes links sizes

-- the tree is read, unless it has too many tokens with a typecode
abbrev pub IsRead : (Label → ℕ) → Tree → Result Tree TreeFault → Type 0
IsRead constants t (Ok u) = (u ≡ t) × (saturated (tokens constants t + 1) ≤ most_formula_tokens)
IsRead constants t (Err (TooLong n)) = (n ≡ saturated (tokens constants t + 1)) × (most_formula_tokens < n)
IsRead constants t (Err Memory) = Unit {0}

-- what was read of a node of a store, where the work variables have free nodes and productions their labels' constants
abbrev pub IsReadOff : List Term → List Link → List WorkNode → ℕ → Result Tree TreeFault → Type 0
IsReadOff nodes links works i r = (constants : Label → ℕ) → HaveConstants constants nodes → AreWorkNodes nodes works → IsRead constants (value_at nodes links works i) r
