use Rattle.std.proofs.lemmas.List.Filters.{dedup_is}
use Rattle.std.proofs.lemmas.List.Kept.{Contains-dedup, Contains-from_dedup, IsStrictlySortedBy-dedup}
use Rattle.std.proofs.lemmas.List.Sorted.{Contains-permutation, IsPermutation-sym}
use Rattle.frame_lists.proofs.PairOrder.{pair_total, pair_ties, pair_same, pair_equivalence}
use Rattle.frame_lists.proofs.sorted.rising_pairs.Goals as goal

pub returns : goal.returns
returns c =
    let is = dedup_is _ _ _ c.dedup.ensures.filtered in
    let moved = c.sort_unstable.ensures.permutation in
    record {
      rises = rw is (IsStrictlySortedBy-dedup pair_total pair_ties _ c.sort_unstable.ensures.sorted);
      keeps = λ x h. rw is (Contains-dedup pair_equivalence pair_same _ x (Contains-permutation _ _ x moved h));
      adds_none = λ x h. Contains-permutation _ _ x (IsPermutation-sym _ _ moved) (Contains-from_dedup _ _ x (rw is at h));
    }
