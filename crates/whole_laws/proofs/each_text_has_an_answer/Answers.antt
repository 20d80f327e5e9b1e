use Rattle.answer_laws.proofs.Elements.{all_with}
use Rattle.chain_laws.specs.Layout.{IsReadyAsked}
use Rattle.written_model.specs.Existence.{IsCandidate}
use Rattle.whole_laws.proofs.each_text_has_an_answer.Goals as goal

pub returns : goal.returns
returns c = λ db text options opened.
    c.has_answer_by_parts.ensures db text options
    (λ s bound binds asked candidates.
    c.solving_is_decided.ensures db bound asked (c.bound_is_ready.ensures db s bound binds)
    (all_with (IsCandidate db bound) (IsReadyAsked db bound) (λ x h. c.candidates_are_ready.ensures options.kinds db bound x opened h) asked candidates))
    (λ s bound accepted. c.has_most_general.ensures options.kinds db s bound accepted) opened
