use Rattle.std.proofs.Common.{ap, ◌∙◌, List, ℕ, is_some}
use Rattle.mm_model.specs.Names.{symbol_named}
use Rattle.solve_model.specs.Formulas.{spelling}
use Rattle.leaf_names.proofs.free.is_declared.Goals as goal

pub returns : goal.returns
returns c =
    let symbols = c.args.frames.now.symbols in
    c.is_some.ensures
    ∙ ap (λ o. is_some o) (c.symbol.ensures ∙ ap (symbol_named symbols) (c.as_slice.ensures ∙ c.in_ok-name.ensures ∙ ap (λ (k : List ℕ). spelling k c.args.number) c.code_name.ensures))
