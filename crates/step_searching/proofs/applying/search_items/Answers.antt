use Rattle.std.proofs.lemmas.Result.{IfOk-weaker}
use Rattle.step_searching.proofs.FindLaws.{put_to, new_sound, new_searched}
use Rattle.step_searching.proofs.applying.search_items.Goals as goal

pub returns-clause-sound : goal.returns-clause-sound
returns-clause-sound c =
    IfOk-weaker c.with_found.result _ _
    (λ new h. new_sound c.args.db.now c.args.items new c.in_ok-found.found.items
    (put_to c.args.db.now c.frames.result.now c.args.items c.into_vec.result.items new c.in_ok-found.found.items c.frames.ensures c.into_vec.ensures h) c.requires c.in_ok-found.ensures.sound)
    c.with_found.ensures

pub returns-clause-searched : goal.returns-clause-searched
returns-clause-searched c =
    IfOk-weaker c.with_found.result _ _
    (λ new h kinds text opened.
    new_searched kinds text c.args.db.now opened c.args.place c.args.mode c.args.given.now c.args.items c.as_slice.result.now new c.in_ok-found.found.items c.as_slice.ensures
    (put_to c.args.db.now c.frames.result.now c.args.items c.into_vec.result.items new c.in_ok-found.found.items c.frames.ensures c.into_vec.ensures h)
    (c.in_ok-found.ensures.searched kinds text opened)) c.with_found.ensures
