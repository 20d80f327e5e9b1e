use Rattle.sheet_filling.proofs.ItemLaws.{filling_answers}
use Rattle.sheet_filling.proofs.laws.filling_is_the_answer.Goals as goal

pub returns : goal.returns
returns c = filling_answers
