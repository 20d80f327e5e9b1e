use Rattle.std.proofs.Common.{length}
use Rattle.std.specs.Option.{option_copied}
use Rattle.ref_search.specs.Searching.{book, IsCandidate}
use Rattle.ref_search.proofs.Lists.{all_at}
use Rattle.ref_search.proofs.FittingLaws.{stopped_at, label_looked_at, ended}
use Rattle.ref_search.proofs.fitting.fitting_among.Goals as goal

pub returns-then-label-bound : goal.returns-then-label-bound
returns-then-label-bound c = λ kinds text opened.
    stopped_at (book kinds text c.args.db.now) (option_copied c.args.sought.now.given) c.args.sought.now.wanted.now c.args.bound c.args.labels.now c.loop-label.label-index (record { 0 = 0 }) c.loop-label.fitting.items
    (c.loop-label.invariant kinds text opened) c.requires.rise c.loop-label-test.true c.if-label-bound.true

pub does_fit-requires-clause-candidate : goal.does_fit-requires-clause-candidate
does_fit-requires-clause-candidate c =
    all_at (IsCandidate c.args.db.now.parsed (length c.args.sought.now.wanted.now.hyps)) c.args.labels.now c.loop-label.label-index (record { 0 = 0 }) c.requires.candidates c.loop-label-test.true

pub loop-label-preserved : goal.loop-label-preserved
loop-label-preserved c = λ kinds text opened.
    label_looked_at (book kinds text c.args.db.now)
    (option_copied c.args.sought.now.given) c.args.sought.now.wanted.now c.args.bound c.args.labels.now c.loop-label.label-index
    (record { 0 = 0 }) c.loop-label.fitting.items
    (c.loop-label.invariant kinds text opened) c.loop-label-test.true c.if-label-bound.false c.in_ok-fits.fits
    (c.in_ok-fits.ensures kinds text opened) c.push_if.new.labels.items c.in_ok-push_if.ensures

pub returns : goal.returns
returns c = λ kinds text opened.
    ended (book kinds text c.args.db.now) (option_copied c.args.sought.now.given) c.args.sought.now.wanted.now c.args.bound c.args.labels.now c.loop-label.label-index (record { 0 = 0 }) c.loop-label.fitting.items
    (c.loop-label.invariant kinds text opened) c.loop-label-test.false
