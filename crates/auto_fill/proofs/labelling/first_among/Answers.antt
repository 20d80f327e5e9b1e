use Rattle.std.proofs.Common.{get_or, Some, refl, sym, subst, arith}
use Rattle.std.specs.Option.{option_copied}
use Rattle.ref_search.specs.Searching.{book, IsCandidate}
use Rattle.ref_search.proofs.Lists.{all_at}
use Rattle.ref_search.proofs.SearchLaws.{one_more_of}
use Rattle.auto_fill.specs.Walking.{wanted_of}
use Rattle.auto_fill.specs.Labelling.{NoTuple, IsLabelFit, IsFirstAmong}
use Rattle.auto_fill.proofs.SearchLaws.{stopped, found_there}
use Rattle.auto_fill.proofs.labelling.first_among.Goals as goal

pub returns-then-label-bound-clause-first : goal.returns-then-label-bound-clause-first
returns-then-label-bound-clause-first c = λ kinds text opened.
    stopped (book kinds text c.args.db.now) (option_copied c.args.sought.now.given) (wanted_of c.args.sought.now.trees.now c.args.sought.now.number) c.args.sought.now.places.now c.args.labels.now
    c.requires.rise c.args.bound c.loop-label.label-index (record { 0 = 0 }) (c.loop-label.invariant kinds text opened) (λ h. c.if-label-bound.true)

pub fit_label-requires-clause-candidate : goal.fit_label-requires-clause-candidate
fit_label-requires-clause-candidate c =
    all_at (IsCandidate c.args.db.now.parsed c.args.count) c.args.labels.now c.loop-label.label-index (record { 0 = 0 }) c.requires.candidates c.loop-label-test.true

pub returns-in-Some-clause-first : goal.returns-in-Some-clause-first
returns-in-Some-clause-first c = λ kinds text opened.
    let w = wanted_of c.args.sought.now.trees.now c.args.sought.now.number in
    subst (λ a. IsFirstAmong (book kinds text c.args.db.now) (option_copied c.args.sought.now.given) w c.args.sought.now.places.now c.args.labels.now c.args.bound (Some a)) (sym c.auto_by.ensures)
    (found_there (book kinds text c.args.db.now) (option_copied c.args.sought.now.given) w c.args.sought.now.places.now c.args.labels.now c.requires.rise c.args.bound c.loop-label.label-index
    (record { 0 = 0 }) (c.loop-label.invariant kinds text opened) _ refl c.if-label-bound.false
    (subst (λ o. IsLabelFit (book kinds text c.args.db.now) (option_copied c.args.sought.now.given) w c.args.sought.now.places.now (get_or c.args.labels.now c.loop-label.label-index (record { 0 = 0 })) o)
    c.in-Some.is (c.in_ok-fit_label.ensures.first kinds text opened)))

pub loop-label-preserved : goal.loop-label-preserved
loop-label-preserved c = λ kinds text opened.
    let w = wanted_of c.args.sought.now.trees.now c.args.sought.now.number in
    one_more_of (NoTuple (book kinds text c.args.db.now) (option_copied c.args.sought.now.given) w c.args.sought.now.places.now) c.args.labels.now c.loop-label.label-index (record { 0 = 0 })
    c.loop-label-test.true (c.loop-label.invariant kinds text opened)
    (subst (λ o. IsLabelFit (book kinds text c.args.db.now) (option_copied c.args.sought.now.given) w c.args.sought.now.places.now (get_or c.args.labels.now c.loop-label.label-index (record { 0 = 0 })) o)
    c.in-None.is (c.in_ok-fit_label.ensures.first kinds text opened)).first

pub returns-clause-first : goal.returns-clause-first
returns-clause-first c = λ kinds text opened.
    stopped (book kinds text c.args.db.now) (option_copied c.args.sought.now.given) (wanted_of c.args.sought.now.trees.now c.args.sought.now.number) c.args.sought.now.places.now c.args.labels.now
    c.requires.rise c.args.bound c.loop-label.label-index (record { 0 = 0 }) (c.loop-label.invariant kinds text opened) (λ h. absurd (omega (arith, h, c.loop-label-test.false)))
