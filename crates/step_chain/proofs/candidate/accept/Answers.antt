use Rattle.std.proofs.Common.{◌≡◌, ap, sym, subst, length, List, Option, ℕ}
use Rattle.step_chain.specs.Tried.{IsTaken}
use Rattle.step_chain.specs.Grown.{AreIdsIn, AreVariablesIn}
use Rattle.step_chain.specs.declared.judged.Accepted.{Accepted}
use Rattle.step_chain.proofs.AcceptLaws.{taken_none, taken_some}
use Rattle.step_chain.proofs.candidate.accept.Goals as goal

pub returns-in-None-clause-taken : goal.returns-in-None-clause-taken
returns-in-None-clause-taken c =
    taken_none c.args.db.now c.args.label c.frame_of-frame.result.now c.tree.result.now c.as_slice-2.result.now c.frame_of-frame.ensures
    c.tree.ensures
    (λ p e. subst (λ ts. ts ≡ p.hyps) (sym c.as_slice-2.ensures) (c.hyp_trees.ensures p e))
    c.grammar.result.now c.as_slice.result.now c.args.formulas.now c.args.formula c.args.places.now c.args.arena.now c.take.new.arena c.grammar.ensures c.as_slice.ensures
    (subst
    (λ (r : Option
    (List
    ℕ)). IsTaken c.grammar.result.now c.as_slice.result.now c.tree.result.now c.as_slice-2.result.now c.args.formulas.now c.args.formula c.args.places.now c.args.arena.now c.take.new.arena r) c.in-None.is c.in_ok-nodes.ensures.taken)

pub returns-in-Some-clause-taken : goal.returns-in-Some-clause-taken
returns-in-Some-clause-taken c =
    taken_some c.args.db.now c.args.label c.frame_of-frame.result.now c.tree.result.now c.as_slice-2.result.now c.frame_of-frame.ensures
    c.tree.ensures
    (λ p e. subst (λ ts. ts ≡ p.hyps) (sym c.as_slice-2.ensures) (c.hyp_trees.ensures p e))
    c.grammar.result.now c.as_slice.result.now c.args.formulas.now c.args.formula c.args.places.now c.args.arena.now c.take.new.arena c.grammar.ensures c.as_slice.ensures
    c.kept_of.result c.in-Some.order c.in_ok-nodes.nodes.hyps.items c.in_ok-nodes.nodes.variables.items c.kept_of.ensures c.in_ok-nodes.ensures.variables c.in_ok-nodes.ensures.hyps
    (subst
    (λ (r : Option
    (List
    ℕ)). IsTaken c.grammar.result.now c.as_slice.result.now c.tree.result.now c.as_slice-2.result.now c.args.formulas.now c.args.formula c.args.places.now c.args.arena.now c.take.new.arena r) c.in-Some.is c.in_ok-nodes.ensures.taken)

pub returns-in-Some-clause-kept_in : goal.returns-in-Some-clause-kept_in
returns-in-Some-clause-kept_in c =
    let n = length c.take.new.arena.nodes in (
      subst (AreIdsIn n) (sym (ap (λ (x : Accepted). x.hyps) c.kept_of.ensures)) c.in_ok-nodes.ensures.hyps_in,
      subst (AreVariablesIn n) (sym (ap (λ (x : Accepted). x.variables) c.kept_of.ensures)) c.in_ok-nodes.ensures.variables_in,
    )
