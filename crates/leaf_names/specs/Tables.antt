-- What is kept of the names of fresh leaves.
use Rattle.std.specs.Prelude.{◌≡◌, ℕ, Bool, true, false, not, ◌&&◌, ◌||◌, ◌+◌, ◌≤◌, length, List, [], ◌++◌, map, take, filter_map, flat_map, slice_get, slice_index_or, nat_eq, is_some, Some}
use Rattle.std.specs.List.{list_any}
use Rattle.std.specs.Map.{lookup}
use Rattle.std.specs.Option.{option_map_or}
use Rattle.mm_base.specs.declared.tree.Tree.{Tree}
use Rattle.mm_model.specs.declared.rows.Production.{Production}
use Rattle.mm_model.specs.Names.{Name, sym, typecode, symbol_named}
use Rattle.mm_model.specs.Texts.{text}
use Rattle.solve_model.specs.declared.bound.Bound.{Bound}
use Rattle.solve_model.specs.declared.bound.BoundStep.{BoundStep}
use Rattle.solve_model.specs.Firsts.{IsLeast}
use Rattle.solve_model.specs.Formulas.{spelling}
use Rattle.written_model.specs.Named.{WorkVariable, work_variable, work_leaf, is_in, not_seen, Naming}
use Rattle.leaf_names.specs.Leaves.{FreshLeaf, fresh_leaf}

-- a fresh leaf with the number of its work variable
abbrev pub NamedLeaf : Type 0
NamedLeaf = FreshLeaf × ℕ

abbrev pub named_leaf : FreshLeaf → ℕ → NamedLeaf
named_leaf x n = (x, n)

-- the symbols by number, the productions, the work variables that were read, each by the symbol of its typecode and its
-- number, and the fresh leaves that have a name, in the order in which they got it
pub record Table : Type 0 where
  pub symbols : List Name
  pub rows : List Production
  pub read : List (ℕ × ℕ)
  pub given : List NamedLeaf

-- the work variable of a number, of the typecode of a symbol
abbrev pub variable_at : ℕ → ℕ → WorkVariable
variable_at c n = work_variable (typecode (sym c)) n

-- a fresh leaf as if its number were that of a work variable
abbrev pub as_variable : FreshLeaf → WorkVariable
as_variable x = variable_at x.0 x.1

-- the work variable that a leaf became
abbrev pub name_of : NamedLeaf → WorkVariable
name_of g = variable_at g.0.0 g.1

-- two leaves are one
abbrev pub same_leaf : FreshLeaf → FreshLeaf → Bool
same_leaf a b = nat_eq a.0 b.0 && nat_eq a.1 b.1

-- the number that a leaf has
abbrev pub naming_of : List NamedLeaf → Naming
naming_of given c n = lookup (same_leaf (fresh_leaf c.0.0 n)) given

-- the work variable was read
abbrev pub is_read : List (ℕ × ℕ) → ℕ → ℕ → Bool
is_read read c n = list_any (same_leaf (fresh_leaf c n)) read

-- the database declares its name
abbrev pub is_declared : List Name → ℕ → ℕ → Bool
is_declared symbols c n = is_some (symbol_named symbols (spelling (slice_index_or symbols c []) n))

-- it was not read, and the database does not declare its name
abbrev pub is_unused : List Name → List (ℕ × ℕ) → ℕ → ℕ → Bool
is_unused symbols read c n = not (is_read read c n) && not (is_declared symbols c n)

-- a leaf became this work variable
abbrev pub is_given : ℕ → ℕ → NamedLeaf → Bool
is_given c n g = nat_eq c g.0.0 && nat_eq n g.1

-- one of the leaves became it
abbrev pub is_taken : List NamedLeaf → ℕ → ℕ → Bool
is_taken given c n = list_any (is_given c n) given

-- it was not read, is not declared, and is not that of one of these leaves
pub record IsFree (symbols : List Name) (read : List (ℕ × ℕ)) (given : List NamedLeaf) (c n : ℕ) : Type 0 where
  pub unused : is_unused symbols read c n ≡ true
  pub not_taken : is_taken given c n ≡ false

-- just these leaves have a name: each in its turn, where it first stands, the least number that is free
pub record AreNamed (symbols : List Name) (read : List (ℕ × ℕ)) (given : List NamedLeaf) (leaves : List FreshLeaf) : Type 0 where
  pub in_order : map (λ (g : NamedLeaf). as_variable g.0) given ≡ not_seen [] (map as_variable leaves)
  pub least : (k : ℕ) (g : NamedLeaf) → slice_get given k ≡ Some g → IsLeast (IsFree symbols read (take k given) g.0.0) g.1

-- after these leaves more have a name, and those before keep theirs
pub record Adds (symbols : List Name) (read : List (ℕ × ℕ)) (leaves : List FreshLeaf) (old new : List NamedLeaf) : Type 0 where
  pub named : (before : List FreshLeaf) → AreNamed symbols read old before → AreNamed symbols read new (before ++ leaves)
  pub kept : (more : List NamedLeaf) × (new ≡ old ++ more)

-- the work variables of a step, where these are the productions
abbrev pub step_leaves : List Production → BoundStep → List WorkVariable
step_leaves rows s = option_map_or (λ (t : Tree). filter_map work_leaf (text rows t)) s.tree []

-- the work variables of the worksheet as it was read, where these are the productions
abbrev pub read_leaves : List Production → Bound → List WorkVariable
read_leaves rows bound = flat_map (step_leaves rows) bound.steps

-- these are the work variables that were read, and no more
pub record AreRead (works : List WorkVariable) (read : List (ℕ × ℕ)) : Type 0 where
  pub same : (c n : ℕ) → is_read read c n ≡ is_in works (variable_at c n)
  pub few : length read ≤ length works

-- these are those before with more work variables
pub record AddsRead (works : List WorkVariable) (old new : List (ℕ × ℕ)) : Type 0 where
  pub same : (c n : ℕ) → is_read new c n ≡ (is_read old c n || is_in works (variable_at c n))
  pub few : length new ≤ length old + length works
