use Rattle.std.proofs.Common.{length, ap, ◌∙◌}
use Rattle.std.specs.Option.{option_copied}
use Rattle.mm_database.specs.ByHead.{by_head}
use Rattle.ref_search.proofs.SearchLaws.{candidates_of, rise_of, among_of}
use Rattle.ref_search.proofs.searching.first_at.Goals as goal

pub first_among-requires-clause-candidates : goal.first_among-requires-clause-candidates
first_among-requires-clause-candidates c =
    candidates_of c.args.db.now.parsed c.args.head (length c.args.sought.now.wanted.now.hyps) c.as_slice-labels.result.now
    (c.as_slice-labels.ensures ∙ c.by_head.ensures ∙ ap (λ hs. by_head c.args.db.now.parsed c.args.head (length hs)) c.as_slice-count.ensures)

pub first_among-requires-clause-rise : goal.first_among-requires-clause-rise
first_among-requires-clause-rise c =
    rise_of c.args.db.now.parsed c.args.head (length c.args.sought.now.wanted.now.hyps) c.as_slice-labels.result.now
    (c.as_slice-labels.ensures ∙ c.by_head.ensures ∙ ap (λ hs. by_head c.args.db.now.parsed c.args.head (length hs)) c.as_slice-count.ensures)

pub returns-clause-first : goal.returns-clause-first
returns-clause-first c =
    among_of c.args.db.now (option_copied c.args.sought.now.given) c.args.sought.now.wanted.now c.as_slice-labels.result.now (by_head c.args.db.now.parsed c.args.head (length c.args.sought.now.wanted.now.hyps)) c.args.bound
    c.first_among.result (c.as_slice-labels.ensures ∙ c.by_head.ensures ∙ ap (λ hs. by_head c.args.db.now.parsed c.args.head (length hs)) c.as_slice-count.ensures) c.first_among.ensures.first
