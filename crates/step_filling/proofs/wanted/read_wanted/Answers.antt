use Rattle.std.proofs.Common.{◌≡◌, ℕ, subst, sym, length, Some, Err, slice_get}
use Rattle.mm_base.specs.declared.tree.Tree.{Tree}
use Rattle.solve_model.specs.Solutions.{instance}
use Rattle.step_chain.specs.declared.reading.TreeFault.{TreeFault}
use Rattle.step_chain.specs.Held.{Held}
use Rattle.step_chain.specs.Values.{value_of}
use Rattle.step_chain.specs.Readings.{IsRead}
use Rattle.step_chain.specs.Answers.{OfAccepted, constants_of}
use Rattle.step_filling.specs.Wanted.{wanted_from, AreWanted}
use Rattle.step_filling.proofs.WantedLaws.{IsReadTo, read_none, read_more, read_long, read_all}
use Rattle.step_filling.proofs.wanted.read_wanted.Goals as goal

pub loop-k-init : goal.loop-k-init
loop-k-init c = subst (IsReadTo c.args.trees.now c.args.i c.args.first c.args.first) (sym c.new-found.ensures.items) (read_none c.args.trees.now c.args.i c.args.first)

pub loop-k-preserved : goal.loop-k-preserved
loop-k-preserved c =
    let n = c.hyps-k-end.result in
    read_more c.args.trees.now c.args.i c.args.first c.loop-k.k n c.loop-k.found.items
    (subst (λ (h : Held). OfAccepted h c.args.i (λ y. n ≡ length y.assertion.hyps)) c.chain.ensures c.hyps-k-end.ensures.count) c.loop-k.invariant
    c.loop-k-test.true c.push.new.self.items c.in-Ok.tree c.in-Ok.ensures c.in_ok-push-in-Ok.ensures.items

pub returns-in-Err-TooLong : goal.returns-in-Err-TooLong
returns-in-Err-TooLong c =
    let n = c.hyps-k-end.result in
    let h = c.args.trees.now in
    subst
    (λ (m : ℕ). OfAccepted h c.args.i
    (λ y. AreWanted (constants_of h) (wanted_from (value_of h) c.args.i c.args.first y.assertion.hyps) c.loop-k.found.items (Some m)))
    (sym c.in-Err-TooLong.tokens-is)
    (read_long h c.args.i c.args.first c.loop-k.k n c.loop-k.found.items
    (subst (λ (k : Held). OfAccepted k c.args.i (λ y. n ≡ length y.assertion.hyps)) c.chain.ensures c.hyps-k-end.ensures.count) c.loop-k.invariant
    c.loop-k-test.true c.in-Err-TooLong.tokens
    (subst (λ (f : TreeFault). OfAccepted h c.args.i (λ y. (e : Tree) → slice_get y.assertion.hyps c.loop-k.k ≡ Some e → IsRead (constants_of h) (instance (value_of h) c.args.i e) (Err f)))
    c.in-Err-TooLong.field-0-is c.in-Err-TooLong.ensures))

pub returns : goal.returns
returns c =
    let n = c.hyps-k-end.result in
    read_all c.args.trees.now c.args.i c.args.first c.loop-k.k n c.loop-k.found.items
    (subst (λ (h : Held). OfAccepted h c.args.i (λ y. n ≡ length y.assertion.hyps)) c.chain.ensures c.hyps-k-end.ensures.count) c.loop-k.invariant
    c.loop-k-test.false
