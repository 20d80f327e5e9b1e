use Rattle.ref_select.proofs.AnswerLaws.{selection_answers}
use Rattle.ref_select.proofs.laws.selection_is_the_answer.Goals as goal

pub returns : goal.returns
returns c = selection_answers
