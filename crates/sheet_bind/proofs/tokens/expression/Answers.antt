use Rattle.std.proofs.Common.{◌∙◌, ◌≤◌, ap, sym, subst, length, take, List}
use Rattle.std.proofs.lemmas.List.{take_all}
use Rattle.mm_model.specs.declared.rows.Leaf.{Leaf}
use Rattle.sheet_bind.specs.Lists.{put_some}
use Rattle.sheet_bind.specs.Seen.{leaf_at, expression_at}
use Rattle.sheet_bind.proofs.Lists.{filter_map_more}
use Rattle.mm_database.proofs.Lists.{length-filter_map}
use Rattle.sheet_bind.proofs.tokens.expression.Goals as goal

pub loop-token-preserved : goal.loop-token-preserved
loop-token-preserved c =
    let h = leaf_at c.args.frames.now c.args.setting.now in
    let ts = c.args.tokens.now in
    let i = c.loop-token.token-index in
    c.in_ok-push_leaf.ensures ∙ ap (λ (xs : List Leaf). put_some xs c.in_ok-leaf.leaf) c.loop-token.invariant
    ∙ ap (put_some (expression_at c.args.frames.now c.args.setting.now (take i ts))) (c.in_ok-leaf.ensures ∙ ap h (c.as_slice.ensures ∙ c.token-item.is))
    ∙ sym (filter_map_more h ts i c.token-item.result c.loop-token-test.true)

pub returns-clause-few : goal.returns-clause-few
returns-clause-few c =
    let h = leaf_at c.args.frames.now c.args.setting.now in
    let ts = c.args.tokens.now in
    let same = c.from_vec.ensures ∙ c.loop-token.invariant ∙ ap (expression_at c.args.frames.now c.args.setting.now) (take_all c.loop-token.token-index ts c.loop-token-test.false) in
    subst (λ (l : List Leaf). length l ≤ length ts) (sym same) (length-filter_map h ts)
