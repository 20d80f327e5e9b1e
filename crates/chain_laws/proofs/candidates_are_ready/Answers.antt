use Rattle.mm_model.specs.BookFacts.{IsDatabase}
use Rattle.model_laws.specs.FrameLaws.{ShowsText}
use Rattle.chain_laws.proofs.Usable.{candidate_ready}
use Rattle.chain_laws.proofs.candidates_are_ready.Goals as goal

pub returns : goal.returns
returns c = λ kinds db bound x opened candidate.
    let is = opened.is_database in
    let facts : IsDatabase db = c.has_database_facts.ensures kinds opened.text db is opened.sound in
    let shows : ShowsText opened.text db = record { symbols = is.symbols; frame = is.frame; active_at = is.active_at; is_constant_at = is.is_constant_at } in
    let usable = facts.usable x.assertion.label x.assertion candidate.usable in
    candidate_ready db bound x candidate facts opened.text (c.frames_have_own_expressions.ensures opened.text db shows opened.sound x.assertion.label x.assertion.frame usable.frame)
