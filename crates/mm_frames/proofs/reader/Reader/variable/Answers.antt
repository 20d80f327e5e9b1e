use Rattle.std.proofs.Common.{◌∙◌, sym}
use Rattle.std.specs.Str.{bytes_eq}
use Rattle.mm_frames.proofs.Names.{none-absent}
use Rattle.mm_frames.proofs.reader.Reader.variable.Goals as goal

pub add-requires-clause-absent : goal.add-requires-clause-absent
add-requires-clause-absent c = none-absent (bytes_eq c.args.name.now) c.args.self.now.symbols (sym c.number.ensures ∙ c.in-None.is)
