use Rattle.std.proofs.Common.{◌≡◌, map, take, []}
use Rattle.mm_model.specs.declared.frames.Hyp.{Hyp}
use Rattle.mm_model.specs.Productions.{essentials}
use Rattle.export_model.specs.Exported.{hyp_steps}
use Rattle.proof_export.specs.Books.{book_in}
use Rattle.proof_export.specs.Leads.{HasFormulas, items_of}
use Rattle.proof_export.proofs.export.put_hyps.Given as goal

abbrev pub invariant-loop-hyp : goal.invariant-loop-hyp
invariant-loop-hyp l = record {
  formulas : HasFormulas l.steps (map (λ (h : Hyp). h.formula) (essentials (take l.hyp-index l.hyps)));
  items : l.steps.items.items ≡ items_of (hyp_steps (book_in l.frames []) 0 (essentials (take l.hyp-index l.hyps)));
}
