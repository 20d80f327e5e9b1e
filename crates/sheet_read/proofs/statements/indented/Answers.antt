use Rattle.std.proofs.Common.{not}
use Rattle.sheet_text.specs.Lines.{begins}
use Rattle.sheet_read.specs.Parts.{line_in}
use Rattle.sheet_read.proofs.Mapped.{front-map}
use Rattle.sheet_read.proofs.statements.indented.Goals as goal

pub returns : goal.returns
returns c = front-map (λ m. not (begins m)) line_in c.count_indented.result c.args.lines.now c.count_indented.ensures.count
