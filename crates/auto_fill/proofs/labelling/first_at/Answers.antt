use Rattle.std.proofs.Common.{◌∙◌, subst, IfOk}
use Rattle.std.specs.Option.{option_copied}
use Rattle.ref_search.specs.Searching.{ForEachText}
use Rattle.ref_search.proofs.SearchLaws.{candidates_of, rise_of}
use Rattle.auto_fill.specs.Walking.{wanted_of}
use Rattle.auto_fill.specs.Labelling.{IsFirstAmong}
use Rattle.auto_fill.proofs.labelling.first_at.Goals as goal

pub first_among-requires-clause-candidates : goal.first_among-requires-clause-candidates
first_among-requires-clause-candidates c = candidates_of c.args.db.now.parsed c.args.head c.args.count c.as_slice-labels.result.now (c.as_slice-labels.ensures ∙ c.by_head.ensures)

pub first_among-requires-clause-rise : goal.first_among-requires-clause-rise
first_among-requires-clause-rise c = rise_of c.args.db.now.parsed c.args.head c.args.count c.as_slice-labels.result.now (c.as_slice-labels.ensures ∙ c.by_head.ensures)

pub returns-clause-first : goal.returns-clause-first
returns-clause-first c =
    subst (λ ls. IfOk c.first_among.result (λ o. ForEachText c.args.db.now (λ d.
    IsFirstAmong d (option_copied c.args.sought.now.given) (wanted_of c.args.sought.now.trees.now c.args.sought.now.number) c.args.sought.now.places.now ls c.args.bound o)))
    (c.as_slice-labels.ensures ∙ c.by_head.ensures) c.first_among.ensures.first
