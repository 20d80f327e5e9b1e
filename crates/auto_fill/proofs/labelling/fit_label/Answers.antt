use Rattle.std.specs.Option.{option_copied}
use Rattle.std.proofs.Common.{◌∙◌, sym, ap}
use Rattle.std.proofs.lemmas.Result.{IfOk-weaker}
use Rattle.mm_frames.specs.Contents.{frame_at}
use Rattle.ref_search.proofs.LabelLaws.{frame_of_text}
use Rattle.auto_fill.specs.Walking.{wanted_of}
use Rattle.auto_fill.proofs.LabelLaws.{frame_none, frame_some, label_sound}
use Rattle.auto_fill.proofs.labelling.fit_label.Goals as goal

pub returns-in-None-clause-first : goal.returns-in-None-clause-first
returns-in-None-clause-first c = λ kinds text opened.
    frame_none kinds text c.args.db.now opened (option_copied c.args.sought.now.given) (wanted_of c.args.sought.now.trees.now c.args.sought.now.number) c.args.sought.now.places.now c.args.label
    c.frame_of.result c.in-None.is (frame_of_text c.args.db.now c.args.label c.frames.result.now (option_copied c.frame_of.result) c.frames.ensures c.frame_of.ensures)

pub returns-in-Some-clause-first : goal.returns-in-Some-clause-first
returns-in-Some-clause-first c =
    let p = c.requires.candidate.0 in
    let kept = c.requires.candidate.1 in
    frame_some c.frames_are_whole.ensures c.args.db.now (option_copied c.args.sought.now.given) (wanted_of c.args.sought.now.trees.now c.args.sought.now.number) c.args.sought.now.places.now c.args.label
    c.args.count c.requires.count p kept c.requires.candidate.2 c.frame_of.result c.in-Some.frame c.in-Some.is
    (frame_of_text c.args.db.now c.args.label c.frames.result.now (option_copied c.frame_of.result) c.frames.ensures c.frame_of.ensures)
    c.vars.result.now c.tree.result.now c.hyp_trees.result.now (c.vars.ensures p kept) (c.tree.ensures p kept) (c.hyp_trees.ensures p kept) c.fit_to.result c.fit_to.ensures.fit

pub returns-in-Some-clause-sound : goal.returns-in-Some-clause-sound
returns-in-Some-clause-sound c =
    let p = c.requires.candidate.0 in
    let kept = c.requires.candidate.1 in
    IfOk-weaker c.fit_to.result _ _
    (λ o h. label_sound c.args.db.now c.args.label c.in-Some.frame.now p o
    (ap (λ x. frame_at x c.args.label) (sym c.frames.ensures) ∙ sym c.frame_of.ensures ∙ ap option_copied c.in-Some.is) kept h) c.fit_to.ensures.count
