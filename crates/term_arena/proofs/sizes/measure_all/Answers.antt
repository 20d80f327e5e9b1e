use Rattle.std.proofs.Common.{ap, ◌∙◌, arith}
use Rattle.term_arena.specs.Walks.{is_settled}
use Rattle.term_model.proofs.MarkLaws.{none_marked}
use Rattle.term_arena.proofs.WalkLaws.{mark_of_state}
use Rattle.term_model.proofs.SizeLaws.{none_measured}
use Rattle.term_arena.proofs.sizes.measure_all.Goals as goal

pub loop-root-init : goal.loop-root-init
loop-root-init c =
    let terms = c.args.terms.now in
    record {
      room = omega (arith, c.clear.ensures.count, c.in_ok-reserve.ensures.long, c.count-nodes.ensures.count);
      idle = c.clear.ensures.idle;
      solved = none_marked terms.nodes terms.bound _ (λ i. mark_of_state c.clear.new.self.states i ∙ ap is_settled (c.clear.ensures.fresh i));
      measured = none_measured terms.nodes terms.bound _ _ (λ i. mark_of_state c.clear.new.self.states i ∙ ap is_settled (c.clear.ensures.fresh i))
          (omega (arith, c.in_ok-sizes.ensures.len, c.count-nodes.ensures.count));
      each = λ i below. absurd (omega (arith, below));
    }
