use Rattle.std.proofs.Common.{◌∷◌, [], ◌++◌, map, take, sym, ap, ◌∙◌}
use Rattle.mm_model.specs.Names.{sym as symbol}
use Rattle.mm_database.specs.Productions.{item_of}
use Rattle.mm_database.proofs.Lists.{map_more}
use Rattle.mm_database.proofs.productions.items_of.Goals as goal

pub loop-sym-preserved : goal.loop-sym-preserved
loop-sym-preserved c =
    let f = item_of c.args.vars.now in
    let before = map f (take c.loop-sym.sym-index c.args.symbols.now) in
    c.in_ok-push.ensures.items ∙ ap (λ xs. xs ++ c.item_of.result ∷ []) c.loop-sym.invariant ∙ ap (λ x. before ++ x ∷ []) c.item_of.ensures
    ∙ sym (map_more f c.args.symbols.now c.loop-sym.sym-index (symbol 0) c.loop-sym-test.true)
