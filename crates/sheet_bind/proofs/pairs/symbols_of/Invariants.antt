use Rattle.std.proofs.Common.{◌≡◌, take}
use Rattle.std.specs.List.{filter_map}
use Rattle.mm_model.specs.Names.{symbol_named}
use Rattle.sheet_bind.proofs.pairs.symbols_of.Given as goal

abbrev pub invariant-loop-name : goal.invariant-loop-name
invariant-loop-name l = l.symbols.items ≡ filter_map (symbol_named l.frames.symbols) (take l.name-index l.names)
