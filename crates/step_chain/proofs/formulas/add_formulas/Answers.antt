use Rattle.std.proofs.Common.{length, subst, sym, arith}
use Rattle.step_chain.specs.Grown.{AreIdsIn}
use Rattle.step_chain.proofs.AddingLaws.{works_in_more, ids_in_more, ids_in_push, grown_more, grown_longer}
use Rattle.step_chain.proofs.FormulaLaws.{formula_more, blanks_in_more}
use Rattle.step_chain.proofs.formulas.add_formulas.Goals as goal

pub loop-k-preserved : goal.loop-k-preserved
loop-k-preserved c =
    let longer = grown_longer c.loop-k.arena c.add_formula.new.arena c.in_ok-id.ensures.grows in
    record {
      listed =
          formula_more c.args.grammar.now c.args.works.now c.args.logic c.args.arena.now.nodes c.loop-k.arena c.add_formula.new.arena
          c.args.blanks.now c.args.steps.now c.loop-k.k c.index-steps-k.result c.loop-k.ids.items c.push.new.self.items c.in_ok-id.id
          (omega (arith, c.requires.count, c.loop-k-test.true)) c.loop-k-test.true c.loop-k.invariant.listed c.in_ok-id.ensures.added c.in_ok-push.ensures.items;
      grown = grown_more c.args.arena.now c.loop-k.arena c.add_formula.new.arena c.loop-k.invariant.grown c.in_ok-id.ensures.grows;
      works_in = works_in_more _ _ _ longer c.loop-k.invariant.works_in;
      blanks_in = blanks_in_more _ _ _ longer c.loop-k.invariant.blanks_in;
      inside = subst (AreIdsIn (length c.add_formula.new.arena.nodes)) (sym c.in_ok-push.ensures.items)
          (ids_in_push _ c.loop-k.ids.items c.in_ok-id.id (ids_in_more _ _ c.loop-k.ids.items longer c.loop-k.invariant.inside) c.in_ok-id.ensures.within);
    }
