use Rattle.std.proofs.Common.{rules, sym, subst, ap, ◌∙◌, None, Some}
use Rattle.solve_model.specs.declared.bound.BoundStep.{BoundStep}
use Rattle.step_chain.specs.Accepted.{IsSameStore}
use Rattle.step_chain.proofs.NextLaws.{kept_below, cut_back, taken_same, kept_some, next_none, next_some}
use Rattle.step_chain.proofs.judging.judge_candidate.Goals as goal

pub undo_to-requires-clause-kept : goal.undo_to-requires-clause-kept
undo_to-requires-clause-kept c =
    kept_below c.args.arena.now c.accept.new.arena c.mark-mark.result c.mark-mark.ensures.nodes c.mark-mark.ensures.trail c.mark-mark.ensures.store
    c.accept.ensures.extended

pub undo_to-requires-in-Ok-None-clause-kept : goal.undo_to-requires-in-Ok-None-clause-kept
undo_to-requires-in-Ok-None-clause-kept c =
    kept_below c.args.arena.now c.accept.new.arena c.mark-mark.result c.mark-mark.ensures.nodes c.mark-mark.ensures.trail c.mark-mark.ensures.store
    c.accept.ensures.extended

pub returns-in-Ok-None-clause-next : goal.returns-in-Ok-None-clause-next
returns-in-Ok-None-clause-next c =
    let d = c.args.db.now in
    let bound = c.args.bound.now in
    let formulas = c.args.formulas.now in
    let old = c.args.arena.now in
    next_none c.candidates_are_ready.ensures c.has_database_facts.ensures c.assertions_are_whole.ensures d bound c.requires.placed formulas c.args.i
    c.requires.step c.args.label c.requires.candidate old c.accept.new.arena
    c.undo_to-in-Ok-None.new.self c.mark-mark.ensures.store c.requires.solved
    (subst (IsSameStore old) (sym c.undo_to-in-Ok-None.ensures) (cut_back old c.accept.new.arena c.mark-mark.result c.mark-mark.ensures.nodes c.mark-mark.ensures.trail c.accept.ensures.extended))
    (taken_same c.candidates_are_ready.ensures c.has_database_facts.ensures c.assertions_are_whole.ensures d bound c.requires.placed formulas c.args.i
    c.requires.step c.args.label c.requires.candidate old c.accept.new.arena
    c.formula_at-formula.result c.as_slice-places.result.now c.formula_at-formula.ensures
    (c.as_slice-places.ensures
    ∙ ap (λ (s : BoundStep). s.places) c.step_at.ensures) None c.in-Ok-None.field-0 c.in-Ok-None.field-0-is c.in-Ok-None.ensures.taken)

pub returns-in-Ok-Some-clause-next : goal.returns-in-Ok-Some-clause-next
returns-in-Ok-Some-clause-next c =
    let d = c.args.db.now in
    let bound = c.args.bound.now in
    let formulas = c.args.formulas.now in
    let old = c.args.arena.now in
    next_some c.candidates_are_ready.ensures c.has_database_facts.ensures c.assertions_are_whole.ensures d bound c.requires.placed formulas c.args.i
    c.requires.step c.args.label c.requires.candidate old c.accept.new.arena
    c.in-Ok-Some.accepted (search rules) c.accept.ensures.extended c.in-Ok-Some.ensures.store c.in-Ok-Some.ensures.solved
    (kept_some _ c.in-Ok-Some.field-0 c.in-Ok-Some.accepted c.in-Ok-Some.field-0-is c.in-Ok-Some.ensures.kept_in)
    (taken_same c.candidates_are_ready.ensures c.has_database_facts.ensures c.assertions_are_whole.ensures d bound c.requires.placed formulas c.args.i
    c.requires.step c.args.label c.requires.candidate old c.accept.new.arena
    c.formula_at-formula.result c.as_slice-places.result.now c.formula_at-formula.ensures
    (c.as_slice-places.ensures ∙ ap (λ (s : BoundStep). s.places) c.step_at.ensures)
    (Some c.in-Ok-Some.accepted) c.in-Ok-Some.field-0 c.in-Ok-Some.field-0-is c.in-Ok-Some.ensures.taken)
