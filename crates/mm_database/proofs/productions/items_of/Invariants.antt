use Rattle.std.proofs.Common.{◌≡◌, map, take}
use Rattle.mm_database.specs.Productions.{item_of}
use Rattle.mm_database.proofs.productions.items_of.Given as goal

abbrev pub invariant-loop-sym : goal.invariant-loop-sym
invariant-loop-sym l = l.items.items ≡ map (item_of l.vars) (take l.sym-index l.symbols)
