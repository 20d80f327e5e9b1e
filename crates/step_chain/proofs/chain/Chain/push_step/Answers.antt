use Rattle.std.proofs.Common.{refl, sym, subst, ◌∙◌, ap, List, [], ◌∷◌, ◌++◌}
use Rattle.step_chain.specs.declared.judged.Pushed.{Pushed}
use Rattle.step_chain.specs.Grown.{AreIdsIn}
use Rattle.step_chain.proofs.ChainLaws.{sound_of, push_whole, push_told}
use Rattle.step_chain.proofs.chain.Chain.push_step.Goals as goal

pub judge-requires-clause-formulas : goal.judge-requires-clause-formulas
judge-requires-clause-formulas c = subst (AreIdsIn _) (sym c.as_slice.ensures) (sound_of _ c.self.invariant).formulas_in

pub judge-requires-clause-solved : goal.judge-requires-clause-solved
judge-requires-clause-solved c = (sound_of _ c.self.invariant).solved

pub invariant_of-self-2 : goal.invariant_of-self-2
invariant_of-self-2 c =
    push_whole _ c.args.self.now c.self.view_is c.self.invariant c.as_slice.result.now c.as_slice.ensures c.args.i c.requires.next c.requires.step
    c.self.inside.arena c.judge.new.arena refl refl c.mark-mark.result c.mark-mark.ensures.nodes c.mark-mark.ensures.trail c.in_ok-judged.judged
    c.in_ok-judged.ensures.next c.put.new.steps.items
    (c.put.ensures
    ∙ ap (λ (xs : List Pushed). xs ++ record { mark = c.mark-mark.result; judged = c.in_ok-judged.judged } ∷ []) c.reserve.ensures.items)

pub returns-clause-ok : goal.returns-clause-ok
returns-clause-ok c =
    push_told _ c.args.self.now c.self.view_is c.self.invariant c.as_slice.result.now c.as_slice.ensures c.args.i c.requires.next c.requires.step
    c.self.inside.arena c.judge.new.arena refl refl c.mark-mark.result c.mark-mark.ensures.nodes c.mark-mark.ensures.trail c.in_ok-judged.judged
    c.in_ok-judged.ensures.next c.put.new.steps.items
    (c.put.ensures
    ∙ ap
    (λ (xs : List Pushed). xs
    ++ record { mark = c.mark-mark.result; judged = c.in_ok-judged.judged }
    ∷ []) c.reserve.ensures.items) c.verdict_of-verdict.result c.verdict_of-verdict.ensures
