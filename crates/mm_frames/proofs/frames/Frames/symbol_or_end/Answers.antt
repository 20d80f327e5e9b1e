use Rattle.std.proofs.Common.{sym, ap, ◌∙◌}
use Rattle.std.specs.Str.{bytes_eq}
use Rattle.mm_model.specs.Names.{sym as symbol}
use Rattle.mm_frames.proofs.Named.{past_last}
use Rattle.mm_frames.proofs.frames.Frames.symbol_or_end.Goals as goal

pub returns-in-None : goal.returns-in-None
returns-in-None c =
    ap symbol (c.symbols.ensures ∙ sym (past_last symbol (bytes_eq c.args.name.now) c.args.self.now.symbols (sym c.symbol.ensures ∙ c.in-None.is)))
