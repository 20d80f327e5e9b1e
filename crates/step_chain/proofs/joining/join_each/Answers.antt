use Rattle.std.proofs.Common.{get_or, ap, sym, ◌∙◌, List, true, false, ◌≡◌, ◌++◌}
use Rattle.std.proofs.lemmas.List.{append_assoc}
use Rattle.term_model.specs.declared.shape.Id.{Id}
use Rattle.term_model.specs.Links.{Link}
use Rattle.step_chain.proofs.JoinLaws.{joins_after, cannot_after, same_default}
use Rattle.step_chain.proofs.joining.join_each.Goals as goal

zero_pair : Id × Id
zero_pair = (record { 0 = 0 }, record { 0 = 0 })

pub loop-pair-preserved : goal.loop-pair-preserved
unfolding zero_pair
loop-pair-preserved c =
    let pairs = c.args.pairs.now in
    let k = c.loop-pair.pair-index in
    let p = get_or pairs k zero_pair in
    let kept = c.loop-pair.invariant.kept in
    let more = c.in-Ok.ensures.bindings in
    let all : c.unify.new.arena.links ≡ c.args.arena.now.links ++ (kept.more ++ more.0) =
    more.1 ∙ ap (λ (ls : List Link). ls ++ more.0) kept.links ∙ append_assoc c.args.arena.now.links kept.more more.0 in
    record {
      kept = record { nodes = c.unify.ensures.nodes ∙ kept.nodes; ready = c.unify.ensures.ready ∙ sym c.requires.ready; more = kept.more ++ more.0; links = all };
      solved = c.unify.ensures.solved;
      joined =
          joins_after c.args.arena.now.nodes c.args.arena.now.links c.loop-pair.arena.links pairs k p
          (same_default pairs k zero_pair p c.loop-pair-test.true) c.loop-pair-test.true c.loop-pair.invariant.joined
          c.loop-pair.arena.nodes c.unify.new.arena.nodes c.unify.new.arena.links kept.nodes (c.unify.ensures.nodes ∙ kept.nodes) c.in-Ok.ensures.solutions;
    }

pub returns-in-Err-clause-cannot : goal.returns-in-Err-clause-cannot
unfolding zero_pair
returns-in-Err-clause-cannot c =
    let pairs = c.args.pairs.now in
    let k = c.loop-pair.pair-index in
    let p = get_or pairs k zero_pair in
    let kept = c.loop-pair.invariant.kept in
    cannot_after c.args.arena.now.nodes c.args.arena.now.links c.loop-pair.arena.links pairs k p
    (same_default pairs k zero_pair p c.loop-pair-test.true) c.loop-pair-test.true c.loop-pair.invariant.joined
    c.loop-pair.arena.nodes kept.nodes (λ trees s e. let impossible : false ≡ true = c.in-Err.ensures.fits.1 (trees, s, e) in absurd (cc))
