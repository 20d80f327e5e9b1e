use Rattle.std.proofs.Common.{◌≡◌, None, length, refl, sym, ◌∙◌, inl}
use Rattle.term_model.specs.Marks.{bound_at}
use Rattle.term_arena.specs.Walks.{marks_of}
use Rattle.term_arena.proofs.StepLaws.{scan_ahead, scan_next, scanned_all}
use Rattle.term_arena.proofs.cycles.unsettled_part.Goals as goal

pub loop-child-init : goal.loop-child-init
loop-child-init c = record { within = rw c.children-child-items.ensures (c.requires.graph.children c.args.node c.requires.node); rest = refl; among = λ j h. h }

pub returns-then-not-is_settled : goal.returns-then-not-is_settled
returns-then-not-is_settled c =
    let free : bound_at c.args.terms.now.bound c.args.node ≡ None = sym c.target.ensures ∙ c.in_default.is in
    let s = scan_ahead (length c.args.terms.now.nodes) (marks_of c.args.walk.now.states) c.children-child-items.result.now c.loop-child.child-index _ c.loop-child-test.true c.loop-child.invariant in
    rw (free, ← c.children-child-items.ensures) (s.among _ (inl refl), sym c.is_settled-in-loop-child.ensures ∙ c.if-not-is_settled.true, s.within.0)

pub loop-child-preserved : goal.loop-child-preserved
loop-child-preserved c =
    let s = scan_ahead (length c.args.terms.now.nodes) (marks_of c.args.walk.now.states) c.children-child-items.result.now c.loop-child.child-index _ c.loop-child-test.true c.loop-child.invariant in
    scan_next (length c.args.terms.now.nodes) (marks_of c.args.walk.now.states) c.children-child-items.result.now c.loop-child.child-index _ s
    (sym c.is_settled-in-loop-child.ensures ∙ c.if-not-is_settled.false)

pub returns : goal.returns
returns c =
    let free : bound_at c.args.terms.now.bound c.args.node ≡ None = sym c.target.ensures ∙ c.in_default.is in
    rw (free, ← c.children-child-items.ensures)
    (scanned_all (length c.args.terms.now.nodes)
    (marks_of
    c.args.walk.now.states) c.children-child-items.result.now c.loop-child.child-index c.loop-child-test.false c.loop-child.invariant)
