use Rattle.std.proofs.Common.{◌≡◌, List, ℕ, Some, None, if◌then◌else◌, sym, ap, ◌∙◌}
use Rattle.hyp_order.proofs.ListedLaws.{listed_next, put_back}
use Rattle.hyp_order.proofs.next_order.Goals as goal

pub returns-clause-listed : goal.returns-clause-listed
returns-clause-listed c n k e =
    let before : c.as_mut_slice.result.now ≡ c.args.order.now = c.as_mut_slice.ensures.value ∙ c.into_vec-items.ensures ∙ c.replace.ensures.value in
    let behind : c.from_vec.result ≡ c.advance-is_next.new.order =
    c.from_vec.ensures
    ∙ put_back c.into_vec-items.result.len c.advance-is_next.new.order c.into_vec-items.result.items c.as_mut_slice.result.now c.into_vec-items.result.ok.0
    c.advance-is_next.auto.order c.as_mut_slice.ensures.value in
    listed_next n k c.as_mut_slice.result.now c.advance-is_next.new.order c.advance-is_next.result c.advance-is_next.ensures (e ∙ ap (λ (o : List ℕ). Some o) (sym before))
    ∙ ap (λ (o : List ℕ). if c.advance-is_next.result then Some o else None) (sym behind)
