use Rattle.std.proofs.Common.{◌≡◌, drop}
use Rattle.solve_model.specs.Binding.{same_tokens}
use Rattle.sheet_bind.specs.Seen.{names_in}
use Rattle.sheet_bind.proofs.symbols.same_tokens.Given as goal

abbrev pub invariant-loop-i : goal.invariant-loop-i
invariant-loop-i l = same_tokens (drop l.i l.tokens) (drop l.i (names_in l.frames.symbols l.formula)) ≡ same_tokens l.tokens (names_in l.frames.symbols l.formula)
