use Rattle.auto_laws.proofs.FilledAnswers.{filled_answered}
use Rattle.auto_laws.proofs.filled_answer_is_unified.Goals as goal

pub returns : goal.returns
returns c = record {
  accepted = λ db text options w o answers finished.
      let a = filled_answered db text options w answers in
      c.written_proof_is_accepted.ensures db a.text options w o a.writes a.late finished;
  no_proof = λ db text options w o answers unfinished.
      let a = filled_answered db text options w answers in
      c.written_without_proof.ensures db a.text options w o a.writes a.late unfinished;
  fixed = λ db text options w o answers.
      let a = filled_answered db text options w answers in
      c.answer_is_fixed.ensures db a.text options w o a.writes a.late;
}
