-- What a source in memory has left.
use Rattle.std.specs.Prelude.{ℕ, List, drop}
use Rattle.edit_source.specs.declared.memory.MemSource.{MemSource}

abbrev pub source_left : MemSource → List ℕ
source_left source = drop source.place source.bytes

abbrev pub source_most : MemSource → ℕ
source_most source = source.most

abbrev pub source_faults : MemSource → ℕ
source_faults source = source.faults
