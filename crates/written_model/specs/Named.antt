-- The names of new work variables.
use Rattle.std.specs.Prelude.{◌≡◌, ℕ, Bool, false, ◌&&◌, ◌==◌, List, [], ◌∷◌, take, map, filter_map, flat_map, slice_get, Contains, if◌then◌else◌, Option, Some, None, option_map}
use Rattle.std.specs.List.{list_any}
use Rattle.std.specs.Option.{option_map_or}
use Rattle.mm_base.specs.declared.symbols.Typecode.{Typecode}
use Rattle.mm_base.specs.declared.tree.Tree.{Tree}
use Rattle.mm_base.specs.declared.tree.Tree.TheVariants.{Var, Work, Fresh}
use Rattle.mm_model.specs.declared.rows.Leaf.{Leaf}
use Rattle.mm_model.specs.declared.rows.Leaf.TheVariants as leaf
use Rattle.mm_model.specs.Chains.{same_code}
use Rattle.mm_model.specs.Texts.{text}
use Rattle.mm_model.specs.Book.{Database, symbol_of, symbol_name}
use Rattle.solve_model.specs.declared.bound.Bound.{Bound}
use Rattle.solve_model.specs.declared.bound.BoundStep.{BoundStep}
use Rattle.solve_model.specs.Formulas.{spelling}
use Rattle.solve_model.specs.Trees.{Open, work, fresh, replace, Occurs}
use Rattle.solve_model.specs.Firsts.{IsLeast}
use Rattle.written_model.specs.WrittenSteps.{Use, WrittenStep, WrittenItem, over_step}

-- a work variable
pub record WorkVariable : Type 0 where
  pub code : Typecode
  pub number : ℕ

abbrev pub work_variable : Typecode → ℕ → WorkVariable
work_variable c n = record { code = c; number = n }

abbrev pub same_work : WorkVariable → WorkVariable → Bool
same_work a b = same_code a.code b.code && a.number == b.number

abbrev pub is_in : List WorkVariable → WorkVariable → Bool
is_in ws w = list_any (same_work w) ws

abbrev pub work_leaf : Leaf → Option WorkVariable
work_leaf (leaf.Const s) = None
work_leaf (leaf.Var s c) = None
work_leaf (leaf.Work c n) = Some (work_variable c n)

-- the work variables of a tree, in the order of its text
abbrev pub works_in : Database → Tree → List WorkVariable
works_in db t = filter_map work_leaf (text db.rows t)

-- the work variables of the worksheet as it was read
abbrev pub read_works : Database → Bound → List WorkVariable
read_works db bound = flat_map (λ (s : BoundStep). option_map_or (works_in db) s.tree []) bound.steps

-- those that were not seen, each where it first stands
abbrev pub not_seen : List WorkVariable → List WorkVariable → List WorkVariable
not_seen seen [] = []
not_seen seen (w ∷ ws) = if is_in seen w then not_seen seen ws else w ∷ not_seen (w ∷ seen) ws

-- the work variables of these trees that the worksheet as it was read does not have, in order of first appearance
abbrev pub new_works : Database → Bound → List Tree → List WorkVariable
new_works db bound ts = not_seen (read_works db bound) (flat_map (works_in db) ts)

-- a number for each fresh leaf that is written
abbrev pub Naming : Type 0
Naming = Typecode → ℕ → Option ℕ

abbrev pub name_fresh : Typecode → ℕ → Option ℕ → Tree
name_fresh c n None = Fresh c n
name_fresh c n (Some k) = Work c k

abbrev pub name_leaf : Naming → Open → Tree
name_leaf names (work c n) = Work c n
name_leaf names (fresh c n) = name_fresh c n (names c n)

-- the tree with its fresh leaves named
abbrev pub name_tree : Naming → Tree → Tree
name_tree names t = replace (λ s c. Var s c) (name_leaf names) t

abbrev pub name_use : Naming → Option Use → Option Use
name_use names o = option_map (λ (u : Use). record u { values = map (name_tree names) u.values }) o

abbrev pub name_step : Naming → WrittenStep → WrittenStep
name_step names e = record e { tree = name_tree names e.tree; by = name_use names e.by }

abbrev pub name_items : Naming → List WrittenItem → List WrittenItem
name_items names items = map (over_step (name_step names)) items

-- the fresh leaf occurs in one of these trees
abbrev pub IsWrittenLeaf : List Tree → Typecode → ℕ → Type 0
IsWrittenLeaf ts c n = (t : Tree) × Contains ts t × Occurs (fresh c n) t

-- the worksheet as it was read does not have it, the database does not declare its name, and it is none of these
pub record IsUnused (db : Database) (bound : Bound) (taken : List WorkVariable) (w : WorkVariable) : Type 0 where
  pub not_read : is_in (read_works db bound) w ≡ false
  pub not_declared : symbol_of db (spelling (symbol_name db w.code.0) w.number) ≡ None
  pub not_taken : is_in taken w ≡ false

-- each fresh leaf of these trees becomes a work variable of its own that the worksheet as it was read does not have;
-- in order of first appearance each takes the least number that is unused
pub record IsNaming (db : Database) (bound : Bound) (ts : List Tree) (names : Naming) : Type 0 where
  pub named : (c : Typecode) (n : ℕ) → IsWrittenLeaf ts c n → (k : ℕ) × (names c n ≡ Some k) × (is_in (read_works db bound) (work_variable c k) ≡ false)
  pub others : (c : Typecode) (n : ℕ) → (IsWrittenLeaf ts c n → ⊥) → names c n ≡ None
  pub once : (c : Typecode) (n m k : ℕ) → names c n ≡ Some k → names c m ≡ Some k → n ≡ m
  pub least : (k : ℕ) (w : WorkVariable) → slice_get (new_works db bound (map (name_tree names) ts)) k ≡ Some w
      → IsLeast (λ n. IsUnused db bound (take k (new_works db bound (map (name_tree names) ts))) (work_variable w.code n)) w.number
