use Rattle.std.proofs.Common.{None, slice_index_or, sym, ap, ◌∙◌}
use Rattle.std.specs.Option.{option_copied}
use Rattle.written_model.specs.WrittenSteps.{no_tree}
use Rattle.mm_database.specs.ByHead.{by_head}
use Rattle.ref_search.specs.Searching.{book, head_of}
use Rattle.ref_search.proofs.PlaceLaws.{tree_there}
use Rattle.auto_fill.specs.Walking.{wanted_of}
use Rattle.auto_fill.specs.Labelling.{at_head}
use Rattle.auto_fill.proofs.SearchLaws.{first_joined, sound_joined}
use Rattle.auto_fill.proofs.labelling.first_of_count.Goals as goal

pub returns-clause-first : goal.returns-clause-first
returns-clause-first c = λ kinds text opened.
    let trees = c.args.sought.now.trees.now in
    let number = c.args.sought.now.number in
    let there = tree_there trees number c.index-sought-sought.result c.args.sought.now.ready.step.within c.index-sought-sought.is in
    first_joined (book kinds text c.args.db.now) (option_copied c.args.sought.now.given) (wanted_of trees number) c.args.sought.now.places.now (by_head c.args.db.now.parsed None c.args.count)
    (at_head c.args.db.now.parsed (head_of (slice_index_or trees number no_tree)) c.args.count) (at_head c.args.db.now.parsed c.head-head.result c.args.count) c.args.bound c.below.result
    c.in_ok-early.early c.in_ok-late.late c.last.result (ap (λ h. at_head c.args.db.now.parsed h c.args.count) (c.head-head.ensures ∙ ap head_of (sym c.index-sought-sought.is ∙ there))) c.below.ensures c.last.ensures
    (c.in_ok-early.ensures.first kinds text opened) (c.in_ok-late.ensures.first kinds text opened)

pub returns-clause-sound : goal.returns-clause-sound
returns-clause-sound c =
    sound_joined c.args.db.now c.args.bound c.below.result c.in_ok-early.early c.in_ok-late.late c.last.result c.below.ensures c.last.ensures c.in_ok-early.ensures.sound c.in_ok-late.ensures.sound
