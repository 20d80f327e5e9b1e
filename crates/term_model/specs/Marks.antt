-- Marks on the nodes whose trees are known to be finite.
use Rattle.std.specs.Prelude.{◌≡◌, ℕ, ◌+◌, ◌<◌, Bool, true, false, ◌&&◌, Option, Some, None, List, [], ◌∷◌, length, map, slice_index_or, not, count_by, ◌⊎◌}
use Rattle.std.specs.List.{AllByRecursion}
use Rattle.mm_base.specs.declared.tree.Tree.{Tree}
use Rattle.term_model.specs.declared.shape.Id.{Id}
use Rattle.term_model.specs.Terms.{Term, children_of, term_at}
use Rattle.term_model.specs.Links.{Link, target_of}
use Rattle.term_model.specs.Store.{tree_at, Fits}

-- the terms by place, and what each node is bound to
pub record Graph : Type 0 where
  pub nodes : List Term
  pub bound : List (Option ℕ)

-- what a node is bound to, as the table says
abbrev pub bound_at : List (Option ℕ) → ℕ → Option ℕ
bound_at bound i = slice_index_or bound i None

-- the table is that of the links
pub record IsTableOf (bound : List (Option ℕ)) (links : List Link) : Type 0 where
  pub each : (i : ℕ) → bound_at bound i ≡ target_of links i

-- what a node's tree is made of: the node that it is bound to, or else its children
abbrev pub parts_at : Option ℕ → Term → List ℕ
parts_at (Some j) e = j ∷ []
parts_at None e = map (λ (id : Id). id.0) (children_of e)

abbrev pub parts_of : List Term → List (Option ℕ) → ℕ → List ℕ
parts_of nodes bound i = parts_at (bound_at bound i) (term_at nodes i)

-- a number is one of these
abbrev pub IsIn : ℕ → List ℕ → Type 0
IsIn j [] = ⊥
IsIn j (x ∷ xs) = (j ≡ x) ⊎ IsIn j xs

abbrev pub is_marked : List Bool → ℕ → Bool
is_marked marks i = slice_index_or marks i false

abbrev pub are_marked : List Bool → List ℕ → Bool
are_marked marks [] = true
are_marked marks (j ∷ js) = is_marked marks j && are_marked marks js

-- a node's tree, where the nodes that it is made of have these trees
abbrev pub FitsAt : List Tree → Tree → Term → Option ℕ → Type 0
FitsAt trees t e (Some j) = t ≡ tree_at trees j
FitsAt trees t e None = Fits trees t e

-- how many nodes are not marked
abbrev pub unmarked_count : List Bool → ℕ
unmarked_count marks = count_by not marks

abbrev pub rank_at : List ℕ → ℕ → ℕ
rank_at ranks i = slice_index_or ranks i 0

-- a marked node has a tree, made of trees of marked nodes, and a number above theirs
pub record IsMarkedWell (nodes : List Term) (bound : List (Option ℕ)) (marks : List Bool) (trees : List Tree) (ranks : List ℕ) (i : ℕ) : Type 0 where
  pub parts : are_marked marks (parts_of nodes bound i) ≡ true
  pub fits : FitsAt trees (tree_at trees i) (term_at nodes i) (bound_at bound i)
  pub lower : (j : ℕ) → IsIn j (parts_of nodes bound i) → rank_at ranks j < rank_at ranks i
  pub few : rank_at ranks i + unmarked_count marks < length marks

-- the marked nodes have a solution
pub record IsPartlySolved (nodes : List Term) (bound : List (Option ℕ)) (marks : List Bool) : Type 0 where
  pub trees : List Tree
  pub ranks : List ℕ
  pub tree_count : length trees ≡ length nodes
  pub rank_count : length ranks ≡ length nodes
  pub each : (i : ℕ) → i < length nodes → is_marked marks i ≡ true → IsMarkedWell nodes bound marks trees ranks i

-- every place that a node or the table names is in the store
pub record IsGraph (nodes : List Term) (bound : List (Option ℕ)) : Type 0 where
  pub children : (i : ℕ) → i < length nodes → AllByRecursion (λ (id : Id). id.0 < length nodes) (children_of (term_at nodes i))
  pub targets : (i j : ℕ) → bound_at bound i ≡ Some j → j < length nodes

-- each node of the path is a part of the next; the path's last node stands first
abbrev pub IsWay : List Term → List (Option ℕ) → List ℕ → Type 0
IsWay nodes bound [] = Unit {0}
IsWay nodes bound (i ∷ []) = i < length nodes
IsWay nodes bound (i ∷ (j ∷ rest)) = (i < length nodes) × IsIn i (parts_of nodes bound j) × IsWay nodes bound (j ∷ rest)

-- a path whose last node has a part on the path
pub record IsCyclic (nodes : List Term) (bound : List (Option ℕ)) : Type 0 where
  pub last : ℕ
  pub before : List ℕ
  pub is_way : IsWay nodes bound (last ∷ before)
  pub part : ℕ
  pub is_part : IsIn part (parts_of nodes bound last)
  pub closes : IsIn part (last ∷ before)
