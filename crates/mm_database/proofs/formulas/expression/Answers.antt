use Rattle.std.proofs.Common.{◌∷◌, [], ◌++◌, Vec, Global, sym, ap, ◌∙◌}
use Rattle.mm_model.specs.Names.{sym as symbol}
use Rattle.mm_model.specs.declared.rows.Leaf.{Leaf}
use Rattle.mm_database.specs.Formulas.{leaf_of}
use Rattle.mm_database.proofs.Lists.{filter_map_found, filter_map_none}
use Rattle.mm_database.proofs.formulas.expression.Goals as goal
use Rattle.mm_database.proofs.formulas.expression.Goals.{in-Some+in_ok-push, in_default}

pub loop-sym-preserved : goal.loop-sym-preserved
loop-sym-preserved c =
    let h = leaf_of c.args.scope.now.constants.now c.args.scope.now.place c.args.scope.now.vars.now in
    let k = c.loop-sym.sym-index in
    elim c.match-leaf_of.branch [
      | in-Some+in_ok-push w ↦ ap (λ (v : Vec Leaf Global). v.items) w.leaves-is ∙ w.in_ok-push.ensures.items ∙ ap (λ xs. xs ++ w.in-Some.leaf ∷ []) c.loop-sym.invariant
          ∙ sym (filter_map_found h c.args.symbols.now k (symbol 0) c.loop-sym-test.true w.in-Some.leaf (sym w.in-Some.ensures))
      | in_default w ↦ ap (λ (v : Vec Leaf Global). v.items) w.leaves-is ∙ c.loop-sym.invariant
          ∙ sym (filter_map_none h c.args.symbols.now k (symbol 0) c.loop-sym-test.true (sym w.in_default.ensures))
    ]
