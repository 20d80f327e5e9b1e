use Rattle.std.proofs.Common.{◌+◌, Some, take, sym, ap, ◌∙◌, subst}
use Rattle.std.proofs.lemmas.Option.{slice_get-get_or}
use Rattle.mm_database.specs.Heads.{AreHeads}
use Rattle.mm_database.proofs.HeadLaws.{heads_added, heads_skipped}
use Rattle.mm_database.proofs.heads.Heads.of.Goals as goal
use Rattle.mm_database.proofs.heads.Heads.of.Goals.{in-Some+in_ok-add, in_default}

pub loop-number-preserved : goal.loop-number-preserved
loop-number-preserved c =
    let ps = c.args.parsed.now in
    let k = c.loop-number.number in
    let p = c.index-parsed-number.result in
    let at = slice_get-get_or ps k p c.loop-number-test.true ∙ ap (λ x. Some x) (sym c.index-parsed-number.is) in
    elim c.match-key.branch [
      | in-Some+in_ok-add w ↦ subst (AreHeads (take (k + 1) ps)) (sym w.heads-is)
          (heads_added ps k p at c.loop-number.heads w.add.new.self w.in-Some.found (sym w.in-Some.ensures) w.in_ok-add.ensures c.loop-number.invariant)
      | in_default w ↦ subst (AreHeads (take (k + 1) ps)) (sym w.heads-is)
          (heads_skipped ps k p at c.loop-number.heads (sym w.in_default.ensures) c.loop-number.invariant)
    ]
