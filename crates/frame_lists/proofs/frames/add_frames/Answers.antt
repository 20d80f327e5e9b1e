use Rattle.std.proofs.Common.{◌≡◌, ℕ, ◌<◌, List, length, get_or, ap, ◌∙◌, arith}
use Rattle.mm_model.specs.Statements.{statements}
use Rattle.frame_lists.specs.declared.entry.Entry.{Entry}
use Rattle.frame_lists.specs.Steps.{label_upto}
use Rattle.frame_lists.proofs.Upto.{entry-here, scope-step}
use Rattle.frame_lists.proofs.FrameLaws.{framed-next, framed-whole}
use Rattle.frame_lists.proofs.TogetherLaws.{front-passed}
use Rattle.frame_lists.proofs.frames.add_frames.Goals as goal

pub loop-number-preserved : goal.loop-number-preserved
loop-number-preserved c =
    let l = c.args.listed.now in
    let k = c.loop-number.number in
    let x = c.index-entries-number.result in
    let inv = c.loop-number.invariant in
    let end_ = ap (λ (xs : List Entry). length xs) c.as_slice-entries.ensures in
    let test = c.loop-number-test.true in
    let inside : k < length l.entries = omega (arith, test, end_) in
    let is : x ≡ get_or l.entries k x = c.index-entries-number.is ∙ ap (λ (xs : List Entry). get_or xs k x) c.as_slice-entries.ensures in
    let at = entry-here l.entries k x inside is in
    let next = framed-next l k c.len-label.result x c.loop-number.scope c.loop-number.frames c.add_frame.new.frames at inv.0 inv.1 inv.2 c.len-label.ensures inv.3 c.in_ok-add_frame.ensures.added in
    let front =
    front-passed l x.kind x.symbols k c.len-label.result c.len.result c.loop-number.scope c.pass.new.self c.add_frame.new.together c.cut.new.self c.in_ok-pass.ensures
    c.len.ensures c.cut.ensures.numbers c.cut.ensures.places c.in_ok-add_frame.ensures.front in
    (c.in_ok-pass.ensures ∙ scope-step l k c.len-label.result x c.loop-number.scope at inv.0 (c.len-label.ensures ∙ inv.1), next.long, next.small, next.framed, front)

pub returns : goal.returns
returns c = λ text ok of.
    let l = c.args.listed.now in
    let inv = c.loop-number.invariant in
    let end_ = ap (λ (xs : List Entry). length xs) c.as_slice-entries.ensures in
    let test = c.loop-number-test.false in
    let last = c.loop-number.auto.number-end in
    let stop : c.loop-number.number ≡ length l.entries = omega (arith, test, end_, last) in
    framed-whole l c.loop-number.frames (statements text) (inv.1 ∙ ap (λ (m : ℕ). label_upto l m) stop) inv.3 (c.statements_are_sound.ensures text ok) of
