use Rattle.std.proofs.Common.{◌≡◌, ◌+◌, List, [], ◌∷◌, ◌++◌, drop, subst, ap, ◌∙◌, false, None}
use Rattle.std.specs.Prelude.{codes}
use Rattle.std.proofs.lemmas.List.{drop_all}
use Rattle.std.proofs.lemmas.Result.{on_ok_weaker}
use Rattle.proof_model.specs.declared.code.Step.{Step}
use Rattle.proof_model.specs.Machine.{Formula, start}
use Rattle.sheet_text.specs.declared.sheet.Given.{Given}
use Rattle.sheet_text.specs.declared.sheet.SheetItem.TheVariants as item
use Rattle.export_model.specs.Exported.{pushes_from, step_with}
use Rattle.proof_export.specs.Books.{book_in}
use Rattle.proof_export.specs.Machines.{state}
use Rattle.proof_export.proofs.Applying.{next_of}
use Rattle.proof_export.proofs.Stepping.{loop_open, loop_runs, loop_leads, loop_ends}
use Rattle.proof_export.proofs.export.put_proof.Goals as goal

pub returns-then-last : goal.returns-then-last
returns-then-last c =
    let db = book_in c.args.frames.now c.args.kinds.now.provable in
    let thm = c.args.theorem.now in
    let labels = c.args.code.now.labels in
    let steps = c.args.code.now.steps in
    let i = c.loop-step.step-index in
    loop_ends db thm labels c.as_slice-labels.result.now c.as_slice-labels.ensures (drop i steps) _ (drop (i + 1) steps) (state c.loop-step.machine)
    (next_of steps c.as_slice-step-items.result.now i _ c.as_slice-step-items.ensures c.loop-step-test.true) c.loop-step.invariant.runs
    c.args.steps.now c.loop-step.steps c.use_step.new.steps (pushes_from db thm labels steps start) (state c.use_step.new.machine) c.loop-step.invariant.leads c.in_ok-last.ensures.state
    c.in_ok-last.last c.if-last.true (c.in_ok-last.ensures.goes (pushes_from db thm labels (drop (i + 1) steps) (state c.use_step.new.machine)))

pub loop-step-preserved : goal.loop-step-preserved
loop-step-preserved c =
    let db = book_in c.args.frames.now c.args.kinds.now.provable in
    let thm = c.args.theorem.now in
    let labels = c.args.code.now.labels in
    let steps = c.args.code.now.steps in
    let i = c.loop-step.step-index in
    record {
      runs = loop_runs db thm labels c.as_slice-labels.result.now c.as_slice-labels.ensures (drop i steps) _ (drop (i + 1) steps) (state c.loop-step.machine)
          (next_of steps c.as_slice-step-items.result.now i _ c.as_slice-step-items.ensures c.loop-step-test.true) c.loop-step.invariant.runs
          c.args.steps.now c.loop-step.steps c.use_step.new.steps (pushes_from db thm labels steps start) (state c.use_step.new.machine) c.loop-step.invariant.leads c.in_ok-last.ensures.state;
      leads = loop_leads db thm labels c.as_slice-labels.result.now c.as_slice-labels.ensures (drop i steps) _ (drop (i + 1) steps) (state c.loop-step.machine)
          (next_of steps c.as_slice-step-items.result.now i _ c.as_slice-step-items.ensures c.loop-step-test.true) c.loop-step.invariant.runs
          c.args.steps.now c.loop-step.steps c.use_step.new.steps (pushes_from db thm labels steps start) (state c.use_step.new.machine) c.loop-step.invariant.leads c.in_ok-last.ensures.state
          c.in_ok-last.last c.if-last.false (c.in_ok-last.ensures.goes (pushes_from db thm labels (drop (i + 1) steps) (state c.use_step.new.machine)));
    }

pub returns : goal.returns
returns c =
    let db = book_in c.args.frames.now c.args.kinds.now.provable in
    let thm = c.args.theorem.now in
    let labels = c.args.code.now.labels in
    let steps = c.args.code.now.steps in
    let i = c.loop-step.step-index in
    let end = subst (λ (l : List Step). drop i l ≡ []) c.as_slice-step-items.ensures (drop_all i c.as_slice-step-items.result.now c.loop-step-test.false) in
    let old = c.loop-step.steps.items.items in
    let book = book_in c.args.frames.now [] in
    on_ok_weaker c.put_qed.result (λ items.
    loop_open db thm labels c.as_slice-labels.result.now c.as_slice-labels.ensures c.args.steps.now c.loop-step.steps c.put_qed.new.self (pushes_from db thm labels steps start) (drop i steps)
    (state c.loop-step.machine) end c.loop-step.invariant.leads
    (items ∙ ap (λ (gs : List Given). old ++ item.Step (step_with book false (codes "qed") gs None c.as_slice-2.result.now) ∷ []) (c.from_vec-none.ensures ∙ c.new.ensures.items)
    ∙ ap (λ (f : Formula). old ++ item.Step (step_with book false (codes "qed") [] None f) ∷ []) c.as_slice-2.ensures))
    c.put_qed.ensures
