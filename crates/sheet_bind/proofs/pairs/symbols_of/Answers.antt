use Rattle.std.proofs.Common.{◌∙◌, ap, sym, take, List}
use Rattle.std.specs.List.{filter_map}
use Rattle.mm_base.specs.declared.symbols.Sym.{Sym}
use Rattle.mm_model.specs.Names.{symbol_named}
use Rattle.sheet_bind.specs.Lists.{put_some}
use Rattle.sheet_bind.proofs.Lists.{filter_map_more}
use Rattle.sheet_bind.proofs.pairs.symbols_of.Goals as goal

pub loop-name-preserved : goal.loop-name-preserved
loop-name-preserved c =
    let h = symbol_named c.args.frames.now.symbols in
    let ts = c.args.names.now in
    let i = c.loop-name.name-index in
    c.in_ok-push_symbol.ensures ∙ ap (λ (xs : List Sym). put_some xs c.symbol-symbol.result) c.loop-name.invariant
    ∙ ap (put_some (filter_map h (take i ts))) (c.symbol-symbol.ensures ∙ ap h (c.as_slice.ensures ∙ c.name-item.is))
    ∙ sym (filter_map_more h ts i c.name-item.result c.loop-name-test.true)
