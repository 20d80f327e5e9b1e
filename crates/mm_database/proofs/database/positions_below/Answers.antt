use Rattle.std.proofs.Common.{rules, of_calls, nat_lt, get_or, length, sym, arith}
use Rattle.std.proofs.lemmas.Fn.{always_returns_same}
use Rattle.std.proofs.lemmas.List.Sorted.{IsPartitionedBy-ltb}
use Rattle.mm_database.proofs.Counts.{passing_first, non_decreasing, parts}
use Rattle.mm_database.proofs.database.positions_below.Goals as goal

pub returns : goal.returns
returns c =
    let ns = c.args.positions.now in
    let place = c.args.place in
    let k = c.partition_point.result in
    let parted = c.partition_point.ensures.partitioned (λ n. nat_lt n place) (always_returns_same _ _ _ (λ a r f k. search (rules, of_calls)))
    (IsPartitionedBy-ltb (λ n. n) ns place (non_decreasing ns c.requires)) in
    let within = c.partition_point.ensures.bound in
    record {
      within = within;
      first = parts ns place k parted.0 parted.1;
      count = sym (passing_first (λ l. nat_lt (get_or ns l 0) place) 0 k (length ns) within
          (λ i _ h. parted.0 i 0 (omega arith) (omega (arith, h))) (λ i m h. parted.1 i 0 (omega (arith, m)) (omega (arith, h))));
    }
