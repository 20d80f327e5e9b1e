use Rattle.std.proofs.Common.{◌≡◌, ℕ, List, Some, ap, ◌∙◌, sym, subst, rules}
use Rattle.std.specs.List.{range_with_len}
use Rattle.hyp_order.specs.Orders.{IsFirstOrder}
use Rattle.hyp_order.proofs.FallLaws.{range_rises, range_next}
use Rattle.hyp_order.proofs.ListedLaws.{first_listed}
use Rattle.hyp_order.proofs.NextLaws.{is_first}
use Rattle.hyp_order.proofs.first_order.Goals as goal

pub loop-place-preserved : goal.loop-place-preserved
loop-place-preserved c = cc (range_next c.loop-place.place, c.in_ok-push.ensures.items)

pub returns-clause-first : goal.returns-clause-first
returns-clause-first c =
    let numbers : c.from_vec.result ≡ range_with_len 0 c.args.n = search rules in
    subst IsFirstOrder (sym numbers) (is_first (range_with_len 0 c.args.n) (range_rises 0 c.args.n))

pub returns-clause-listed : goal.returns-clause-listed
returns-clause-listed c =
    let numbers : c.from_vec.result ≡ range_with_len 0 c.args.n = search rules in
    first_listed c.args.n ∙ ap (λ (o : List ℕ). Some o) (sym numbers)
