use Rattle.std.proofs.Common.{◌∙◌, ap, fold, []}
use Rattle.std.proofs.lemmas.List.{take_all}
use Rattle.mm_model.specs.declared.frames.Hyp.{Hyp}
use Rattle.sheet_bind.specs.Places.{put_essential}
use Rattle.sheet_bind.proofs.Lists.{fold_left_out}
use Rattle.sheet_bind.proofs.setting.essentials.Goals as goal

pub returns : goal.returns
returns c =
    let hs = c.args.hyps.now in
    c.from_vec.ensures ∙ c.loop-hyp.invariant ∙ ap (fold put_essential []) (take_all c.loop-hyp.hyp-index hs c.loop-hyp-test.false) ∙ fold_left_out (λ (h : Hyp). h.floating) hs
