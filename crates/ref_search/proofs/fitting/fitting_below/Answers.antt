use Rattle.std.proofs.Common.{sym, ◌∙◌, [], fold}
use Rattle.std.specs.Option.{option_copied}
use Rattle.ref_search.specs.Fitting.{put_label}
use Rattle.ref_search.proofs.FittingLaws.{early_all, both_all, numbers_of}
use Rattle.ref_search.proofs.fitting.fitting_below.Goals as goal

pub returns-in_default : goal.returns-in_default
returns-in_default c = λ kinds text opened.
    early_all kinds text c.args.db.now (option_copied c.args.sought.now.given) c.args.sought.now.wanted.now c.requires.closed c.args.bound c.in_ok-early.early.items (c.in_ok-early.ensures kinds text opened)
    (sym c.head.ensures ∙ c.in_default.is) c.add_labels.new.numbers.keys
    (numbers_of c.add_labels.new.numbers.keys c.new-numbers.result.keys [] c.as_slice.result.now c.in_ok-early.early.items c.in_ok-add_labels.ensures
    c.new-numbers.ensures.empty c.as_slice.ensures.value)

pub returns : goal.returns
returns c = λ kinds text opened.
    both_all kinds text c.args.db.now (option_copied c.args.sought.now.given) c.args.sought.now.wanted.now c.requires.closed c.args.bound c.in_ok-early.early.items (c.in_ok-early.ensures kinds text opened)
    c.in-Some.label (sym c.head.ensures ∙ c.in-Some.is) c.in_ok-late.late.items (c.in_ok-late.ensures kinds text opened) c.add_labels-2.new.numbers.keys
    (numbers_of c.add_labels-2.new.numbers.keys c.add_labels.new.numbers.keys
    (fold put_label [] c.in_ok-early.early.items) c.as_slice-2.result.now c.in_ok-late.late.items c.in_ok-add_labels-2.ensures
    (numbers_of c.add_labels.new.numbers.keys c.new-numbers.result.keys [] c.as_slice.result.now c.in_ok-early.early.items c.in_ok-add_labels.ensures
    c.new-numbers.ensures.empty c.as_slice.ensures.value)
    c.as_slice-2.ensures.value)
