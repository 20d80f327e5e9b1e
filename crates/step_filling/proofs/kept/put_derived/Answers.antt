use Rattle.std.proofs.Common.{◌≡◌, ap, sym, length, arith, ◌∙◌, refl, ◌∷◌, ◌++◌, []}
use Rattle.std.proofs.lemmas.List.{map-id}
use Rattle.std.proofs.lemmas.Iterator.Adapters.{YieldsList-from_vec}
use Rattle.std.proofs.lemmas.Iterator.Consumers.{YieldsList-end}
use Rattle.written_steps.specs.declared.draft.DraftStep.{DraftStep}
use Rattle.written_steps.specs.declared.draft.DraftItem.TheVariants as draft
use Rattle.step_filling.proofs.NameLaws.{put_none, put_more, put_all}
use Rattle.step_filling.proofs.kept.put_derived.Goals as goal

pub loop-tree-init : goal.loop-tree-init
loop-tree-init c = put_none _ _ _

pub loop-tree-preserved : goal.loop-tree-preserved
loop-tree-preserved c =
    put_more c.args.items.now.items c.args.index.now c.args.names.now c.loop-tree.items.items c.loop-tree.index c.loop-tree.names c.loop-tree.yielded c.loop-tree.invariant
    c.put.new.items.items c.put.new.index c.derive.new.self c.in_ok-name.name c.in-Some.tree _ c.in_ok-name.ensures.name c.in_ok-name.ensures.added
    (c.in_ok-put.ensures.items ∙ ap (λ (s : DraftStep). c.loop-tree.items.items ++ draft.Step s ∷ []) c.derived_step.ensures)
    (c.in_ok-put.ensures.index ∙ ap (λ (s : DraftStep). c.loop-tree.index ++ s.tree ∷ []) c.derived_step.ensures) refl

pub returns : goal.returns
returns c =
    let given = c.into_iter-tree-iterator.ensures.into_iter_gives in
    let items = c.into_vec-tree-items.ensures in
    let yields = YieldsList-from_vec c.args.made (given.0 ∙ items) (omega (arith, given.1, c.into_vec-tree-items.result.ok.0, ap length items)) in
    let end = YieldsList-end yields c.loop-tree.yielded c.loop-tree.tree-iterator c.loop-tree.yielded_by c.next.result c.next.new.self c.in-None.is c.next.ensures.steps in
    let all : c.loop-tree.yielded ≡ c.args.made = sym (map-id c.loop-tree.yielded) ∙ end.0 in
    put_all c.args.items.now.items c.args.index.now c.args.names.now c.loop-tree.items.items c.loop-tree.index c.loop-tree.names c.loop-tree.yielded c.loop-tree.invariant c.args.made all
