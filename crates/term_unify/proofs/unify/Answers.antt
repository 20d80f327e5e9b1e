use Rattle.std.proofs.Common.{◌≡◌, ℕ, List, refl, ◌↔◌}
use Rattle.mm_base.specs.declared.tree.Tree.{Tree}
use Rattle.term_model.specs.Store.{Store, Solution}
use Rattle.term_unify.specs.Steps.{Extends, Forces, HaveSameTree, KeepsSolutions}
use Rattle.term_model.specs.Links.{end_of}
use Rattle.term_unify.proofs.StepLaws.{extends_trans, extends_end, start_closed, undo_kept, exact}
use Rattle.term_unify.proofs.unify.Goals as goal

pub close_all-requires-clause-closed : goal.close_all-requires-clause-closed
close_all-requires-clause-closed c = rw c.mark-mark.ensures.trail (start_closed c.args.arena.now c.merge.new.arena c.requires.solved.closed c.merge.ensures.extends)

pub undo_to-requires-clause-kept : goal.undo_to-requires-clause-kept
undo_to-requires-clause-kept c =
    let s = c.args.arena.now in
    rw (c.mark-mark.ensures.nodes, c.mark-mark.ensures.trail)
    (undo_kept s c.close_all.new.arena c.mark-mark.ensures.store (extends_trans s c.merge.new.arena c.close_all.new.arena c.merge.ensures.extends c.close_all.ensures.extends))

pub undo_to-requires-then-not-acyclic_since-clause-kept : goal.undo_to-requires-then-not-acyclic_since-clause-kept
undo_to-requires-then-not-acyclic_since-clause-kept c =
    let s = c.args.arena.now in
    rw (c.mark-mark.ensures.nodes, c.mark-mark.ensures.trail, c.acyclic_since.ensures.same)
    (undo_kept s c.close_all.new.arena c.mark-mark.ensures.store (extends_trans s c.merge.new.arena c.close_all.new.arena c.merge.ensures.extends c.close_all.ensures.extends))

-- what holds where it fits
solved : (s t u v : Store) (a b : ℕ) → Extends s t → end_of t.links a ≡ end_of t.links b → Forces s t (HaveSameTree a b) → Extends t u
    → KeepsSolutions t u → v ≡ u → (trees : List Tree) → Solution v.nodes v.links trees ↔ (Solution s.nodes s.links trees × HaveSameTree a b trees)
solved s t u v a b p joined forced q kept e = rw e (exact s u a b (extends_trans s t u p q) (extends_end t u a b q joined) (λ trees sol same. kept trees (forced trees sol same)))

pub returns-clause-solutions : goal.returns-clause-solutions
returns-clause-solutions c =
    solved c.args.arena.now c.merge.new.arena c.close_all.new.arena c.acyclic_since.new.self c.args.a.0 c.args.b.0 c.merge.ensures.extends c.if-not-merge.ensures.joined c.if-not-merge.ensures.forced
    c.close_all.ensures.extends c.if-not-close_all.ensures.kept c.acyclic_since.ensures.same

pub returns-clause-fits : goal.returns-clause-fits
returns-clause-fits c =
    let one = c.acyclic_since.ensures.solvable.0 c.if-not-acyclic_since.false in
    let both =
    (solved c.args.arena.now c.merge.new.arena c.close_all.new.arena c.close_all.new.arena c.args.a.0 c.args.b.0 c.merge.ensures.extends
    c.if-not-merge.ensures.joined c.if-not-merge.ensures.forced
    c.close_all.ensures.extends c.if-not-close_all.ensures.kept refl one.0).0 one.1 in
    (λ _. (one.0, both.0, both.1), λ _. refl)

pub returns-clause-bindings : goal.returns-clause-bindings
returns-clause-bindings c =
    let p = extends_trans c.args.arena.now c.merge.new.arena c.close_all.new.arena c.merge.ensures.extends c.close_all.ensures.extends in
    (p.more, rw c.acyclic_since.ensures.same p.links)
