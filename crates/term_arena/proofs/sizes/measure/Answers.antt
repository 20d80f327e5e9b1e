use Rattle.std.proofs.Common.{sym, ap, ◌∙◌}
use Rattle.term_arena.proofs.StepLaws.{GoesOn, goes_on, comes_back, walk_begins, head_split, last_below}
use Rattle.term_arena.proofs.MeasureLaws.{measures_on, measure_begins}
use Rattle.term_arena.proofs.sizes.measure.Goals as goal

pub loop-last-init : goal.loop-last-init
loop-last-init c =
    let terms = c.args.terms.now in
    let fresh = sym c.is_settled.ensures ∙ c.if-is_settled.false in
    record {
      walking = walk_begins terms.nodes terms.bound c.args.root c.args.walk.now c.open.new.self c.requires.root c.requires.room c.requires.idle c.requires.solved fresh
          (ap (λ walk. walk.states) c.open.ensures) (ap (λ walk. walk.path) c.open.ensures);
      measured = measure_begins terms.nodes terms.bound c.args.root c.args.walk.now c.open.new.self c.args.sizes.now.items fresh (ap (λ walk. walk.states) c.open.ensures) c.requires.measured;
    }

pub step-did-requires-clause-last : goal.step-did-requires-clause-last
step-did-requires-clause-last c = head_split c.loop-last.walk.path c.in-Some.last c.in-Some.ensures.0

pub step-did-requires-clause-within : goal.step-did-requires-clause-within
step-did-requires-clause-within c = last_below c.args.terms.now.nodes c.args.terms.now.bound c.loop-last.walk.path c.in-Some.last c.in-Some.ensures.0 c.loop-last.invariant.walking.way

-- a path that comes back is not there
none : (c : goal.In-Cycle) → ⊥
none c =
    let terms = c.args.terms.now in
    let split = head_split c.loop-last.walk.path c.in-Some.last c.in-Some.ensures.0 in
    c.requires.acyclic (comes_back terms.nodes terms.bound c.args.root c.args.walk.now c.loop-last.walk c.step-did.new.walk c.in-Some.last split.0 c.requires.graph c.requires.room
    c.loop-last.invariant.walking split.1 c.in-Some.ensures.1 c.step-did.result c.step-did.ensures c.in-Cycle.is)

pub returns-in-Cycle-clause-idle : goal.returns-in-Cycle-clause-idle
returns-in-Cycle-clause-idle c = absurd (none c)

pub returns-in-Cycle-clause-settled : goal.returns-in-Cycle-clause-settled
returns-in-Cycle-clause-settled c = absurd (none c)

pub count-requires : goal.count-requires
count-requires c = record {
  graph = c.requires.graph;
  sizes = c.loop-last.invariant.measured.count;
  node = last_below c.args.terms.now.nodes c.args.terms.now.bound c.loop-last.walk.path c.in-Some.last c.in-Some.ensures.0 c.loop-last.invariant.walking.way;
}

after_step : (c : goal.After-count) → GoesOn c.args.terms.now.nodes c.args.terms.now.bound c.args.root c.args.walk.now c.loop-last.walk c.step-did.new.walk
after_step c =
    let terms = c.args.terms.now in
    let split = head_split c.loop-last.walk.path c.in-Some.last c.in-Some.ensures.0 in
    goes_on terms.nodes terms.bound c.args.root c.args.walk.now c.loop-last.walk c.step-did.new.walk c.in-Some.last split.0 c.requires.graph c.requires.room
    c.loop-last.invariant.walking split.1 c.in-Some.ensures.1 c.step-did.result c.step-did.ensures c.in_default-did.not-Cycle

pub loop-last-preserved : goal.loop-last-preserved
loop-last-preserved c =
    let terms = c.args.terms.now in
    record {
      walking = (after_step c).walking;
      measured = measures_on terms.nodes terms.bound c.in-Some.last c.loop-last.walk c.step-did.new.walk c.loop-last.sizes.items c.count.new.sizes.items
          (last_below terms.nodes terms.bound c.loop-last.walk.path c.in-Some.last c.in-Some.ensures.0 c.loop-last.invariant.walking.way) c.in-Some.ensures.1
          c.step-did.result c.step-did.ensures c.in_default-did.not-Cycle c.count.ensures c.loop-last.invariant.measured;
    }

pub loop-last-smaller : goal.loop-last-smaller
loop-last-smaller c = (after_step c).less
