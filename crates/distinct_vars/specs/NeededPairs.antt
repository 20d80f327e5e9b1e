-- Needed pairs, put in one after the other. This is part of the proof, and not of the claim.
use Rattle.std.specs.Prelude.{ℕ, List, [], map, fold, if◌then◌else◌}
use Rattle.std.specs.BTreeSet.{insert_key}
use Rattle.std.specs.Ordering.{nat_cmp}
use Rattle.mm_base.specs.declared.symbols.Sym.{Sym}
use Rattle.mm_base.specs.declared.symbols.Pair.{Pair}
use Rattle.mm_base.specs.declared.tree.Tree.{Tree}
use Rattle.mm_model.specs.Names.{sym}
use Rattle.proof_model.specs.Machine.{is_shared}
use Rattle.solve_model.specs.PairSets.{ordered, put_pair}
use Rattle.distinct_vars.specs.Values.{variables_at}

-- two variables that differ are a needed pair
abbrev pub put_needed : List Pair → Sym × Sym → List Pair
put_needed ps q = if is_shared q then ps else put_pair ps (ordered q.0 q.1)

-- a variable with each of a list
abbrev pub put_row : List Sym → List Pair → Sym → List Pair
put_row ys ps v = fold (λ acc w. put_needed acc (v, w)) ps ys

-- each of a list with each of another
abbrev pub put_all : List Sym → List Sym → List Pair → List Pair
put_all xs ys ps = fold (put_row ys) ps xs

-- the number of one more variable in a set of numbers
abbrev pub put_number : List ℕ → Sym → List ℕ
put_number ns s = insert_key nat_cmp ns s.0

-- the variables by their numbers, each once
abbrev pub distinct : List Sym → List Sym
distinct xs = map sym (fold put_number [] xs)

-- what a pair of the frame needs
abbrev pub put_of : List Sym → List Tree → List Pair → Pair → List Pair
put_of vars trees ps p = put_all (distinct (variables_at vars trees p.a)) (distinct (variables_at vars trees p.b)) ps
