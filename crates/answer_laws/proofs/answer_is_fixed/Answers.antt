use Rattle.answer_laws.proofs.answer_is_fixed.Goals as goal

pub returns : goal.returns
returns c = λ db text options w. c.written_is_fixed.ensures db text options w (c.is_written_again.ensures db text options w)
