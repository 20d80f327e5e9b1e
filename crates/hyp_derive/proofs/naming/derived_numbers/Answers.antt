use Rattle.std.proofs.Common.{List, ℕ, ◌+◌, take, sym, subst, ap, ◌∙◌}
use Rattle.hyp_derive.specs.Naming.{AreNumbersOf}
use Rattle.hyp_derive.proofs.NameLaws.{numbers_more, numbers_same}
use Rattle.hyp_derive.proofs.naming.derived_numbers.Goals as goal
use Rattle.hyp_derive.proofs.naming.derived_numbers.Goals.{in-Some+in_ok-push, in_default}

pub loop-name-preserved : goal.loop-name-preserved
loop-name-preserved c = elim c.match-derived_number.branch [
  | in-Some+in_ok-push w ↦
      numbers_more c.args.used.now c.loop-name.numbers.items c.match-derived_number.numbers.items c.loop-name.name-index w.in-Some.number c.name-item.result c.as_slice.result.now
      c.loop-name-test.true c.name-item.is c.as_slice.ensures c.loop-name.invariant w.in-Some.ensures.below w.in-Some.ensures.named (ap (λ v. v.items) w.numbers-is ∙ w.in_ok-push.ensures.items)
  | in_default w ↦
      subst (λ (ns : List ℕ). AreNumbersOf (take (c.loop-name.name-index + 1) c.args.used.now) ns) (sym (ap (λ v. v.items) w.numbers-is))
      (numbers_same c.args.used.now c.loop-name.numbers.items c.loop-name.name-index c.name-item.result c.as_slice.result.now c.loop-name-test.true c.name-item.is c.as_slice.ensures
      c.loop-name.invariant w.in_default.ensures.named)
]
