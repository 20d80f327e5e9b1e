-- The most general valuation of the accepted steps.
use Rattle.std.specs.Prelude.{◌≡◌, ℕ, ◌≤◌, List}
use Rattle.std.specs.List.{AllByRecursion}
use Rattle.mm_base.specs.declared.tree.Tree.{Tree}
use Rattle.mm_base.specs.declared.tree.Tree.TheVariants.{Var, Work, Fresh}
use Rattle.mm_model.specs.Book.{Database}
use Rattle.solve_model.specs.declared.bound.Bound.{Bound}
use Rattle.solve_model.specs.Trees.{Open, work, fresh, replace, leaf_tree, Occurs}
use Rattle.solve_model.specs.Solutions.{Unknown, named, Valuation, IsValuation, IsUnknown, Asked, Solves}

-- a tree for each open leaf
abbrev pub Refinement : Type 0
Refinement = Open → Tree

-- the tree with its open leaves replaced; variables of the database stay
abbrev pub refine : Refinement → Tree → Tree
refine r t = replace (λ s c. Var s c) r t

-- the second valuation is the first followed by a refinement, on these unknowns
pub record IsInstance (On : Unknown → Type 0) (general special : Valuation) : Type 0 where
  pub by : Refinement
  pub same : (u : Unknown) → On u → special u ≡ refine by (general u)

-- it solves, and each valuation that solves is an instance of it
pub record IsMostGeneral (db : Database) (bound : Bound) (accepted : List Asked) (g : Valuation) : Type 0 where
  pub is_valuation : IsValuation db bound.place (IsUnknown bound accepted) g
  pub solves : AllByRecursion (Solves bound g) accepted
  pub general : (v : Valuation) → IsValuation db bound.place (IsUnknown bound accepted) v → AllByRecursion (Solves bound v) accepted → IsInstance (IsUnknown bound accepted) g v

-- a work variable that occurs is its own value, and the least of those with that value; a fresh leaf is the value of no work variable
abbrev pub IsLeastNamed : (Unknown → Type 0) → Valuation → Open → Type 0
IsLeastNamed On g (work c m) = On (named c m) × (g (named c m) ≡ Work c m) × ((n : ℕ) → On (named c n) → g (named c n) ≡ Work c m → m ≤ n)
IsLeastNamed On g (fresh c m) = (n : ℕ) → On (named c n) → g (named c n) ≡ Fresh c m → ⊥

-- an open leaf is the whole value of some unknown, and the least work variable where some work variable has that value
pub record IsNamedLeaf (On : Unknown → Type 0) (g : Valuation) (x : Open) : Type 0 where
  pub holder : Unknown
  pub is_unknown : On holder
  pub holds : g holder ≡ leaf_tree x
  pub named_least : IsLeastNamed On g x

-- each open leaf that occurs in a value is named so
abbrev pub IsCanonical : (Unknown → Type 0) → Valuation → Type 0
IsCanonical On g = (u : Unknown) (x : Open) → On u → Occurs x (g u) → IsNamedLeaf On g x

-- the most general valuation of the accepted steps
pub record IsTheValuation (db : Database) (bound : Bound) (accepted : List Asked) (g : Valuation) : Type 0 where
  pub most_general : IsMostGeneral db bound accepted g
  pub canonical : IsCanonical (IsUnknown bound accepted) g
