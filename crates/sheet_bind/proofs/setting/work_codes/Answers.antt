use Rattle.std.proofs.Common.{◌∙◌, ap, fold}
use Rattle.std.proofs.lemmas.List.{take_all}
use Rattle.sheet_bind.specs.Places.{put_declared}
use Rattle.sheet_bind.proofs.setting.work_codes.Goals as goal

pub returns : goal.returns
returns c =
    let d = c.args.frames.now in
    let codes = c.args.codes.now in
    c.from_vec.ensures ∙ c.loop-code.invariant ∙ ap (fold (put_declared d) _) (take_all c.loop-code.code-index codes c.loop-code-test.false)
    ∙ ap (λ kept. fold (put_declared d) kept codes) (c.in_ok-push_declared.ensures ∙ ap (λ kept. put_declared d kept c.args.logic) c.new-kept.ensures.items)
