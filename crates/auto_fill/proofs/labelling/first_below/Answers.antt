use Rattle.std.proofs.Common.{◌++◌, slice_index_or, refl}
use Rattle.std.specs.Option.{option_copied}
use Rattle.written_model.specs.WrittenSteps.{no_tree}
use Rattle.ref_search.specs.Searching.{book}
use Rattle.auto_fill.specs.Walking.{wanted_of}
use Rattle.auto_fill.specs.Labelling.{of_count}
use Rattle.auto_fill.proofs.SearchLaws.{first_joined, sound_joined}
use Rattle.auto_fill.proofs.labelling.first_below.Goals as goal

pub returns-clause-first : goal.returns-clause-first
returns-clause-first c = λ kinds text opened.
    let db = book kinds text c.args.db.now in
    let given = option_copied c.args.sought.now.given in
    let w = wanted_of c.args.sought.now.trees.now c.args.sought.now.number in
    let places = c.args.sought.now.places.now in
    let parsed = c.args.db.now.parsed in
    let formula = slice_index_or c.args.sought.now.trees.now c.args.sought.now.number no_tree in
    first_joined db given w places (of_count parsed formula 1 ++ of_count parsed formula 2) (of_count parsed formula 3) (of_count parsed formula 3) c.args.bound c.below-2.result c.last-found.result
    c.in_ok-three.three c.last.result refl c.below-2.ensures c.last.ensures
    (first_joined db given w places (of_count parsed formula 1) (of_count parsed formula 2) (of_count parsed formula 2) c.args.bound c.below.result c.in_ok-one.one c.in_ok-two.two c.last-found.result refl
    c.below.ensures c.last-found.ensures (c.in_ok-one.ensures.first kinds text opened) (c.in_ok-two.ensures.first kinds text opened))
    (c.in_ok-three.ensures.first kinds text opened)

pub returns-clause-sound : goal.returns-clause-sound
returns-clause-sound c =
    sound_joined c.args.db.now c.args.bound c.below-2.result c.last-found.result c.in_ok-three.three c.last.result c.below-2.ensures c.last.ensures
    (sound_joined c.args.db.now c.args.bound c.below.result c.in_ok-one.one c.in_ok-two.two c.last-found.result c.below.ensures c.last-found.ensures c.in_ok-one.ensures.sound c.in_ok-two.ensures.sound)
    c.in_ok-three.ensures.sound
