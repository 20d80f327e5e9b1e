use Rattle.std.proofs.Common.{◌≡◌, ℕ, Some, true, sym, subst, ap, ◌∙◌, inl, inr, arith}
use Rattle.std.specs.List.{slice_get}
use Rattle.std.proofs.lemmas.Bool.{cases_eq}
use Rattle.std.proofs.lemmas.List.{length-map}
use Rattle.term_model.specs.Marks.{is_marked}
use Rattle.term_arena.specs.Walks.{marks_of, is_settled}
use Rattle.term_model.proofs.MarkLaws.{none_marked}
use Rattle.term_arena.proofs.WalkLaws.{mark_of_state}
use Rattle.term_arena.proofs.StepLaws.{entry_below}
use Rattle.term_arena.proofs.cycles.settle_since.Goals as goal

pub loop-k-init : goal.loop-k-init
loop-k-init c = record {
  room = c.clear.ensures.count;
  idle = c.clear.ensures.idle;
  solved = none_marked c.args.terms.now.nodes c.args.terms.now.bound _ (λ i. mark_of_state c.clear.new.self.states i ∙ ap is_settled (c.clear.ensures.fresh i));
  each = λ m i from below e. absurd (omega (arith, from, below));
}

pub loop-k-preserved : goal.loop-k-preserved
loop-k-preserved c =
    let inv = c.loop-k.invariant in
    let done = c.if-not-settle.ensures in
    record {
      room = done.room ∙ inv.room;
      idle = done.idle;
      solved = done.solved;
      each = λ m i from below e. elim (cases_eq m c.loop-k.k) [
        | inl at ↦
            let both : Some c.entry.result ≡ Some i = sym c.entry.ensures ∙ subst (λ (n : ℕ). slice_get c.args.trail.now.entries n ≡ Some i) at e in
            let same : c.entry.result ≡ i = cc in
            subst (λ (n : ℕ). is_marked (marks_of c.settle.new.walk.states) n ≡ true) same done.settled
        | inr past ↦ done.kept i (inv.each m i from (omega (arith, below)) e)
      ];
    }

pub returns-clause-settled : goal.returns-clause-settled
returns-clause-settled c = record {
  marks = marks_of c.loop-k.walk.states;
  long = omega (arith, c.requires.room, c.loop-k.invariant.room, length-map c.loop-k.walk.states is_settled);
  solved = c.loop-k.invariant.solved;
  each = λ m i from e. c.loop-k.invariant.each m i from (omega (arith, entry_below c.args.trail.now.entries m i e, c.loop-k-test.false, c.mark-k-end.ensures)) e;
}
