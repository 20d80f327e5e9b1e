-- The first clash of a use.
use Rattle.std.specs.Prelude.{List, filter_map, slice_get, Option, option_map}
use Rattle.mm_base.specs.declared.symbols.Sym.{Sym}
use Rattle.mm_base.specs.declared.symbols.Pair.{Pair}
use Rattle.mm_base.specs.declared.tree.Tree.{Tree}
use Rattle.written_model.specs.Pairs.{shared_variable}
use Rattle.written_model.specs.WrittenSteps.{Use}
use Rattle.distinct_vars.specs.Values.{shared_at}

-- a pair with a variable that its values share
abbrev pub told : Pair → Sym → Sym × Sym × Sym
told p v = (p.a, p.b, v)

-- the first pair of the frame whose values share a variable, with the least such variable
abbrev pub first_clash : Use → Option (Sym × Sym × Sym)
first_clash u = slice_get (filter_map (λ p. option_map (λ v. told p v) (shared_variable u p)) u.assertion.frame.pairs) 0

-- the same, by variables and trees as lists
abbrev pub first_at : List Sym → List Tree → List Pair → Option (Sym × Sym × Sym)
first_at vars trees ps = slice_get (filter_map (λ p. option_map (λ v. told p v) (shared_at vars trees p)) ps) 0
