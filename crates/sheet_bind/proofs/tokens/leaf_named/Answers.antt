use Rattle.std.proofs.Common.{◌∙◌, ap, sym, option_map}
use Rattle.mm_model.specs.Names.{Name}
use Rattle.mm_model.specs.declared.rows.Leaf.TheVariants as leaf
use Rattle.sheet_bind.specs.Named.{code_named, leaf_named}
use Rattle.sheet_bind.proofs.tokens.leaf_named.Goals as goal

pub returns-in-Some : goal.returns-in-Some
returns-in-Some c =
    let symbols = c.args.frames.now.symbols in
    let codes = c.args.codes.now in
    c.work_of.ensures ∙ ap (λ (n : Name). option_map (λ d. leaf.Work d c.in-Some.named.1) (code_named symbols codes n)) c.as_slice.ensures
    ∙ ap (leaf_named symbols codes) (sym c.in-Some.is)
