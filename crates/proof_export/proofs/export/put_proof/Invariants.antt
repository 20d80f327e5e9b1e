use Rattle.std.proofs.Common.{drop}
use Rattle.proof_model.specs.Machine.{start}
use Rattle.written_model.specs.Written.{frames_of}
use Rattle.export_model.specs.Exported.{pushes_from}
use Rattle.proof_export.specs.Books.{book_in}
use Rattle.proof_export.specs.Leads.{LeadsTo}
use Rattle.proof_export.specs.Machines.{state}
use Rattle.proof_export.specs.Proofs.{Runs}
use Rattle.proof_export.proofs.export.put_proof.Given as goal

abbrev pub invariant-loop-step : goal.invariant-loop-step
invariant-loop-step l = record {
  runs : Runs (frames_of (book_in l.frames l.kinds.provable)) l.theorem l.code.labels (drop l.step-index l.code.steps) (state l.machine);
  leads : LeadsTo (book_in l.frames l.kinds.provable) l.theorem.formula l.initial.steps (pushes_from (book_in l.frames l.kinds.provable) l.theorem l.code.labels l.code.steps start) l.steps
      (pushes_from (book_in l.frames l.kinds.provable) l.theorem l.code.labels (drop l.step-index l.code.steps) (state l.machine));
}
