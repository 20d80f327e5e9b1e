use Rattle.std.proofs.Common.{ℕ, List, sym, ap, ◌∙◌}
use Rattle.std.specs.List.{position_or_len}
use Rattle.std.specs.Str.{bytes_eq}
use Rattle.mm_base.specs.declared.symbols.Typecode.{Typecode}
use Rattle.mm_model.specs.Names.{typecode, sym as symbol}
use Rattle.step_chain.proofs.SymbolLaws.{past_last}
use Rattle.step_chain.proofs.begun.logic_code.Goals as goal

abbrev code_with : ℕ → Typecode
code_with n = typecode (symbol n)

pub returns-in-None : goal.returns-in-None
returns-in-None c =
    ap code_with (c.symbols.ensures ∙ sym (past_last symbol (bytes_eq c.as_slice.result.now) c.args.frames.now.symbols (sym c.symbol.ensures ∙ c.in-None.is))
    ∙ ap (λ (n : List ℕ). position_or_len (bytes_eq n) c.args.frames.now.symbols) c.as_slice.ensures)
