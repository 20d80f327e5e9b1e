use Rattle.std.proofs.Common.{ℕ, List, map, ap, ◌∙◌, subst}
use Rattle.std.proofs.lemmas.Result.{IfOk-weaker}
use Rattle.frame_lists.specs.Orders.{Ordered, PairsRise}
use Rattle.frame_lists.specs.Steps.{pair_of}
use Rattle.frame_lists.proofs.TogetherLaws.{known-are}
use Rattle.frame_lists.proofs.pairs.pairs_known.Goals as goal

pub returns : goal.returns
returns c =
    let ps = c.rising_pairs-pairs.result.items in
    let ordered = subst (λ (qs : List (ℕ × ℕ)). Ordered PairsRise qs ps) c.in_ok-known_pairs.ensures c.rising_pairs-pairs.ensures in
    IfOk-weaker c.as_pairs.result _ _
    (λ pairs is. known-are c.args.listed.now c.args.distinct.now c.args.together.now c.args.set.now c.requires ps pairs ordered
    (is ∙ ap (λ (qs : List (ℕ × ℕ)). map pair_of qs) c.as_slice.ensures.value)) c.as_pairs.ensures
