use Rattle.std.proofs.Common.{◌∙◌, ap, sym, option_map, Bool}
use Rattle.std.proofs.lemmas.Result.{IfOk-weaker}
use Rattle.mm_model.specs.Faults.{fault, earlier}
use Rattle.mm_frames.specs.Contents.{Contents}
use Rattle.sheet_bind.specs.Found.{found}
use Rattle.sheet_bind.specs.Rules.{word_tests, asks}
use Rattle.sheet_bind.specs.Seen.{are_known}
use Rattle.sheet_bind.specs.Tests.{first_true}
use Rattle.sheet_bind.specs.declared.steps.StepJudged.{StepJudged}
use Rattle.sheet_bind.specs.Judging.{scene_of, IsTreeIn, IsTreeJudged, IsStepJudged}
use Rattle.sheet_bind.proofs.JudgeLaws.{asks_none, asks_tree, not_worth}
use Rattle.sheet_bind.proofs.steps.judge_step.Goals as goal

pub returns-then-not-asks_for_tree : goal.returns-then-not-asks_for_tree
returns-then-not-asks_for_tree c =
    let g = scene_of c.args.here.now in
    let t = c.args.step.now in
    let a = option_map found c.args.first in
    let b = option_map found c.with_words-first.result in
    let known = c.in_ok-known.ensures ∙ ap (λ (e : Contents). are_known e g.setting c.as_slice.result.now) c.frames-frames.ensures ∙ ap (are_known g.opened.contents g.setting) c.as_slice.ensures in
    let words = c.with_words-first.ensures
    ∙ ap (λ (e : Contents). earlier a (option_map (fault t.line) (first_true (word_tests e g.provable g.theorem g.setting c.args.hyps.now c.in_ok-known.known t)))) c.frames-frames.ensures
    ∙ ap (λ (k : Bool). earlier a (option_map (fault t.line) (first_true (word_tests g.opened.contents g.provable g.theorem g.setting c.args.hyps.now k t)))) known in
    asks_none g c.args.hyps.now t a b words (sym (c.if-not-asks_for_tree.ensures ∙ ap (λ (k : Bool). asks g.provable k t) known))

pub returns-then-not-is_worth : goal.returns-then-not-is_worth
returns-then-not-is_worth c =
    let g = scene_of c.args.here.now in
    let t = c.args.step.now in
    let a = option_map found c.args.first in
    let b = option_map found c.with_words-first.result in
    let known = c.in_ok-known.ensures ∙ ap (λ (e : Contents). are_known e g.setting c.as_slice.result.now) c.frames-frames.ensures ∙ ap (are_known g.opened.contents g.setting) c.as_slice.ensures in
    let words = c.with_words-first.ensures
    ∙ ap (λ (e : Contents). earlier a (option_map (fault t.line) (first_true (word_tests e g.provable g.theorem g.setting c.args.hyps.now c.in_ok-known.known t)))) c.frames-frames.ensures
    ∙ ap (λ (k : Bool). earlier a (option_map (fault t.line) (first_true (word_tests g.opened.contents g.provable g.theorem g.setting c.args.hyps.now k t)))) known in
    not_worth g c.args.hyps.now t a b words (sym (c.if-not-asks_for_tree.ensures ∙ ap (λ (k : Bool). asks g.provable k t) known)) (sym c.if-not-is_worth.ensures)

pub returns : goal.returns
returns c =
    let g = scene_of c.args.here.now in
    let t = c.args.step.now in
    let a = option_map found c.args.first in
    let b = option_map found c.with_words-first.result in
    let known = c.in_ok-known.ensures ∙ ap (λ (e : Contents). are_known e g.setting c.as_slice.result.now) c.frames-frames.ensures ∙ ap (are_known g.opened.contents g.setting) c.as_slice.ensures in
    let words = c.with_words-first.ensures
    ∙ ap (λ (e : Contents). earlier a (option_map (fault t.line) (first_true (word_tests e g.provable g.theorem g.setting c.args.hyps.now c.in_ok-known.known t)))) c.frames-frames.ensures
    ∙ ap (λ (k : Bool). earlier a (option_map (fault t.line) (first_true (word_tests g.opened.contents g.provable g.theorem g.setting c.args.hyps.now k t)))) known in
    IfOk-weaker c.judge_tree.result (λ (r : StepJudged). IsTreeJudged (IsTreeIn g t) t.line b (option_map found r.first) r.tree)
    (λ (r : StepJudged). IsStepJudged g c.args.hyps.now t a (option_map found r.first) r.tree)
    (λ r x. asks_tree g c.args.hyps.now t a b (option_map found r.first) r.tree words (sym (c.if-not-asks_for_tree.ensures ∙ ap (λ (k : Bool). asks g.provable k t) known)) x) c.judge_tree.ensures
