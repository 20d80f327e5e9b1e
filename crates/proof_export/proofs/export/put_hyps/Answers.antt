use Rattle.std.proofs.Common.{◌≡◌, [], ◌+◌, take, sym, subst}
use Rattle.mm_model.specs.Productions.{essentials}
use Rattle.export_model.specs.Exported.{hyp_steps}
use Rattle.proof_export.specs.Leads.{HasFormulas, items_of}
use Rattle.proof_export.specs.declared.steps.Steps.{Steps}
use Rattle.proof_export.specs.Books.{book_in}
use Rattle.proof_export.proofs.Rounds.{formulas_of, hyps_more, hyps_same}
use Rattle.proof_export.proofs.export.put_hyps.Goals as goal
use Rattle.proof_export.proofs.export.put_hyps.Goals.{then-not-hyp+in_ok-put_hyp, else-not-hyp}

pub loop-hyp-preserved : goal.loop-hyp-preserved
loop-hyp-preserved c =
    let db = book_in c.args.frames.now [] in
    let hs = c.args.hyps.now in
    let i = c.loop-hyp.hyp-index in
    let h = c.hyp-item.result in
    let old = c.loop-hyp.steps in
    let new = c.if-not-hyp.steps in
    let was = c.loop-hyp.invariant in
    elim c.if-not-hyp.branch [
      | then-not-hyp+in_ok-put_hyp w ↦
          let both = subst (λ (s : Steps). HasFormulas s (formulas_of (take (i + 1) hs)) × (s.items.items ≡ items_of (hyp_steps db 0 (essentials (take (i + 1) hs))))) (sym w.steps-is)
          (hyps_more db hs i h old w.put_hyp.new.self c.loop-hyp-test.true c.hyp-item.is was.formulas was.items w.if-not-hyp.true w.in_ok-put_hyp.ensures.formulas w.in_ok-put_hyp.ensures.items) in
          record { formulas = both.0; items = both.1 }
      | else-not-hyp w ↦
          let both = hyps_same db hs i h old new c.loop-hyp-test.true c.hyp-item.is was.formulas was.items w.if-not-hyp.false w.steps-is in
          record { formulas = both.0; items = both.1 }
    ]
