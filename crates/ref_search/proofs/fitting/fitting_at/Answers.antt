use Rattle.std.proofs.Common.{length, ap, ◌∙◌}
use Rattle.mm_database.specs.ByHead.{by_head}
use Rattle.ref_search.proofs.SearchLaws.{candidates_of, rise_of}
use Rattle.ref_search.proofs.fitting.fitting_at.Goals as goal

pub fitting_among-requires-clause-candidates : goal.fitting_among-requires-clause-candidates
fitting_among-requires-clause-candidates c =
    candidates_of c.args.db.now.parsed c.args.head (length c.args.sought.now.wanted.now.hyps) c.as_slice-labels.result.now
    (c.as_slice-labels.ensures ∙ c.by_head.ensures ∙ ap (λ hs. by_head c.args.db.now.parsed c.args.head (length hs)) c.as_slice-count.ensures)

pub fitting_among-requires-clause-rise : goal.fitting_among-requires-clause-rise
fitting_among-requires-clause-rise c =
    rise_of c.args.db.now.parsed c.args.head (length c.args.sought.now.wanted.now.hyps) c.as_slice-labels.result.now
    (c.as_slice-labels.ensures ∙ c.by_head.ensures ∙ ap (λ hs. by_head c.args.db.now.parsed c.args.head (length hs)) c.as_slice-count.ensures)
