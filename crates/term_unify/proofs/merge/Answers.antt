use Rattle.std.proofs.Common.{true, false, sym, ◌∙◌}
use Rattle.std.proofs.lemmas.Bool.{both_ways}
use Rattle.term_model.proofs.LinkLaws.{end_of_unbound}
use Rattle.term_unify.proofs.StepLaws.{IsJoined, bound_step, joined_swap, codes_exclude, look_code, look_free, same_codes, other_codes, ends_apart}
use Rattle.term_unify.proofs.merge.Goals as goal

pub returns-then-ne-clause-none : goal.returns-then-ne-clause-none
returns-then-ne-clause-none c =
    let s = c.args.arena.now in
    let left = look_code s.nodes c.follow-left.result.0 c.look-first.result c.code.result c.look-first.ensures c.code.ensures in
    let right = look_code s.nodes c.follow-right.result.0 c.look-second.result c.code-2.result c.look-second.ensures c.code-2.ensures in
    let apart = other_codes c.code.result c.code-2.result c.ne.result c.ne.ensures c.if-ne.true in
    codes_exclude s c.args.x.0 c.args.y.0
    (rw (← c.follow-left.ensures.end) c.follow-left.ensures.below) (rw (← c.follow-right.ensures.end) c.follow-right.ensures.below)
    (rw (← c.follow-left.ensures.end, ← c.follow-right.ensures.end) (λ e. apart (left ∙ e ∙ sym right)))

pub bind-requires-clause-apart : goal.bind-requires-clause-apart
bind-requires-clause-apart c =
    let s = c.args.arena.now in
    λ e. ends_apart c.follow-left.result.0 c.follow-right.result.0 c.eq.result c.eq.ensures c.if-eq.false (e ∙ end_of_unbound s.links c.follow-right.result.0 c.follow-right.ensures.unbound)

pub bind-requires-clause-code : goal.bind-requires-clause-code
bind-requires-clause-code c =
    let s = c.args.arena.now in
    let left = look_code s.nodes c.follow-left.result.0 c.look-first.result c.code.result c.look-first.ensures c.code.ensures in
    let right = look_code s.nodes c.follow-right.result.0 c.look-second.result c.code-2.result c.look-second.ensures c.code-2.ensures in
    let same = same_codes c.code.result c.code-2.result c.ne.result c.ne.ensures c.if-ne.false in
    rw (end_of_unbound s.links c.follow-right.result.0 c.follow-right.ensures.unbound) (sym left ∙ same ∙ right)

pub bind-requires-else-is_free-clause-apart : goal.bind-requires-else-is_free-clause-apart
bind-requires-else-is_free-clause-apart c =
    let s = c.args.arena.now in
    λ e. ends_apart c.follow-left.result.0 c.follow-right.result.0 c.eq.result c.eq.ensures c.if-eq.false (sym (e ∙ end_of_unbound s.links c.follow-left.result.0 c.follow-left.ensures.unbound))

pub bind-requires-else-is_free-clause-code : goal.bind-requires-else-is_free-clause-code
bind-requires-else-is_free-clause-code c =
    let s = c.args.arena.now in
    let left = look_code s.nodes c.follow-left.result.0 c.look-first.result c.code.result c.look-first.ensures c.code.ensures in
    let right = look_code s.nodes c.follow-right.result.0 c.look-second.result c.code-2.result c.look-second.ensures c.code-2.ensures in
    let same = same_codes c.code.result c.code-2.result c.ne.result c.ne.ensures c.if-ne.false in
    rw (end_of_unbound s.links c.follow-left.result.0 c.follow-left.ensures.unbound) (sym right ∙ sym same ∙ left)

-- the first branch joins the two nodes
forward : (c : goal.After-bind) → IsJoined c.args.arena.now c.bind.new.self c.args.x.0 c.args.y.0
forward c =
    let s = c.args.arena.now in
    let free = look_free s.nodes c.follow-left.result.0 c.look-first.result c.is_free.result true c.look-first.ensures c.is_free.ensures c.if-is_free.true in
    bound_step s c.bind.new.self c.args.x.0 c.args.y.0 c.follow-left.result.0 c.follow-right.result.0 c.follow-left.ensures.end c.follow-right.ensures.end
    (ends_apart c.follow-left.result.0 c.follow-right.result.0 c.eq.result c.eq.ensures c.if-eq.false) (λ _. free) c.follow-right.ensures.unbound c.bind.ensures

-- and so does the second, the other way round
backward : (c : goal.After-bind-else-is_free) → IsJoined c.args.arena.now c.bind-else-is_free.new.self c.args.x.0 c.args.y.0
backward c =
    let s = c.args.arena.now in
    let bound = look_free s.nodes c.follow-left.result.0 c.look-first.result c.is_free.result false c.look-first.ensures c.is_free.ensures c.if-is_free.false in
    joined_swap s c.bind-else-is_free.new.self c.args.y.0 c.args.x.0
    (bound_step s c.bind-else-is_free.new.self c.args.y.0 c.args.x.0 c.follow-right.result.0 c.follow-left.result.0 c.follow-right.ensures.end c.follow-left.ensures.end
    (λ e. ends_apart c.follow-left.result.0 c.follow-right.result.0 c.eq.result c.eq.ensures c.if-eq.false (sym e))
    (λ free. absurd (both_ways _ bound free)) c.follow-left.ensures.unbound c.bind-else-is_free.ensures)

pub returns-then-is_free-clause-joined : goal.returns-then-is_free-clause-joined
returns-then-is_free-clause-joined c = (forward c).joined

pub returns-then-is_free-clause-forced : goal.returns-then-is_free-clause-forced
returns-then-is_free-clause-forced c = (forward c).forced

pub returns-else-is_free-clause-extends : goal.returns-else-is_free-clause-extends
returns-else-is_free-clause-extends c = (backward c).extends

pub returns-else-is_free-clause-joined : goal.returns-else-is_free-clause-joined
returns-else-is_free-clause-joined c = (backward c).joined

pub returns-else-is_free-clause-forced : goal.returns-else-is_free-clause-forced
returns-else-is_free-clause-forced c = (backward c).forced
