-- Pairs of distinct variables that a step needs, and clashes (Metamath book, section 4.1.4).
use Rattle.std.specs.Prelude.{not, List, [], ◌++◌, map, filter, filter_map, slice_get, find, flat_map, fold, nat_lt, if◌then◌else◌, Option, Some, None}
use Rattle.mm_base.specs.declared.symbols.Sym.{Sym}
use Rattle.mm_base.specs.declared.symbols.Pair.{Pair}
use Rattle.proof_model.specs.Machine.{is_shared}
use Rattle.solve_model.specs.Trees.{variables}
use Rattle.solve_model.specs.PairSets.{ordered, is_pair_in, pair_set}
use Rattle.written_model.specs.declared.options.DvMode.{DvMode}
use Rattle.written_model.specs.declared.options.DvMode.TheVariants as dv
use Rattle.written_model.specs.WrittenSteps.{Use, WrittenStep, value_of}

-- each variable of the one value of a pair with each of the other
abbrev pub crossings : Use → Pair → List (Sym × Sym)
crossings u p = flat_map (λ v. map (λ w. (v, w)) (variables (value_of u p.b))) (variables (value_of u p.a))

abbrev pub lesser : Option Sym → Sym → Option Sym
lesser None v = Some v
lesser (Some u) v = if nat_lt v.0 u.0 then Some v else Some u

-- the least variable that both values of a pair have
abbrev pub shared_variable : Use → Pair → Option Sym
shared_variable u p = fold lesser None (map (λ (q : Sym × Sym). q.0) (filter is_shared (crossings u p)))

-- the least variable that the first clashing pair of the frame shares
abbrev pub clash_of : Use → Option Sym
clash_of u = slice_get (filter_map (shared_variable u) u.assertion.frame.pairs) 0

-- the pairs that a use needs, by lesser and then greater symbol number
abbrev pub needed : Use → List Pair
needed u = pair_set (map (λ (q : Sym × Sym). ordered q.0 q.1) (filter (λ q. not (is_shared q)) (flat_map (crossings u) u.assertion.frame.pairs)))

abbrev pub needed_by : Option Use → List Pair
needed_by None = []
needed_by (Some u) = needed u

-- the pairs that are written: the given ones, and where pairs are added those that the steps need
abbrev pub pairs_of : DvMode → List Pair → List WrittenStep → List Pair
pairs_of dv.Given allowed es = allowed
pairs_of dv.Add allowed es = pair_set (allowed ++ flat_map (λ (e : WrittenStep). needed_by e.by) es)

-- where only the given pairs are allowed, the first needed one that is not given
abbrev pub lack_of : DvMode → List Pair → Use → Option Pair
lack_of dv.Add allowed u = None
lack_of dv.Given allowed u = find (λ p. not (is_pair_in allowed p)) (needed u)
