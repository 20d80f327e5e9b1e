use Rattle.std.proofs.Common.{sym, ap, ◌∙◌}
use Rattle.term_arena.proofs.StepLaws.{GoesOn, goes_on, comes_back, walk_begins, head_split, last_below}
use Rattle.term_arena.proofs.cycles.settle.Goals as goal

pub loop-last-init : goal.loop-last-init
loop-last-init c =
    let terms = c.args.terms.now in
    walk_begins terms.nodes terms.bound c.args.root c.args.walk.now c.open.new.self c.requires.root c.requires.room c.requires.idle c.requires.solved
    (sym c.is_settled.ensures ∙ c.if-is_settled.false)
    (ap (λ walk. walk.states) c.open.ensures) (ap (λ walk. walk.path) c.open.ensures)

pub step-requires-clause-last : goal.step-requires-clause-last
step-requires-clause-last c = head_split c.loop-last.walk.path c.in-Some.last c.in-Some.ensures.0

pub step-requires-clause-within : goal.step-requires-clause-within
step-requires-clause-within c = last_below c.args.terms.now.nodes c.args.terms.now.bound c.loop-last.walk.path c.in-Some.last c.in-Some.ensures.0 c.loop-last.invariant.way

pub returns-in-Cycle-clause-cycle : goal.returns-in-Cycle-clause-cycle
returns-in-Cycle-clause-cycle c =
    let terms = c.args.terms.now in
    let split = head_split c.loop-last.walk.path c.in-Some.last c.in-Some.ensures.0 in
    comes_back terms.nodes terms.bound c.args.root c.args.walk.now c.loop-last.walk c.step.new.walk c.in-Some.last split.0 c.requires.graph c.requires.room
    c.loop-last.invariant split.1 c.in-Some.ensures.1 c.step.result c.step.ensures c.in-Cycle.is

after_step : (c : goal.In_default-step) → GoesOn c.args.terms.now.nodes c.args.terms.now.bound c.args.root c.args.walk.now c.loop-last.walk c.step.new.walk
after_step c =
    let terms = c.args.terms.now in
    let split = head_split c.loop-last.walk.path c.in-Some.last c.in-Some.ensures.0 in
    goes_on terms.nodes terms.bound c.args.root c.args.walk.now c.loop-last.walk c.step.new.walk c.in-Some.last split.0 c.requires.graph c.requires.room
    c.loop-last.invariant split.1 c.in-Some.ensures.1 c.step.result c.step.ensures c.in_default-step.not-Cycle

pub loop-last-preserved : goal.loop-last-preserved
loop-last-preserved c = (after_step c).walking

pub loop-last-smaller : goal.loop-last-smaller
loop-last-smaller c = (after_step c).less
