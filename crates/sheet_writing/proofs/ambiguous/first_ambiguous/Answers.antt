use Rattle.std.proofs.Common.{sym, ap, subst, ◌∙◌, inl, refl, Some}
use Rattle.std.specs.Prelude.{List}
use Rattle.mm_model.specs.Names.{Name}
use Rattle.solve_model.specs.Firsts.{IsFirstOrNone}
use Rattle.written_steps.specs.declared.draft.DraftStep.{DraftStep}
use Rattle.written_steps.specs.Drafts.{step_in}
use Rattle.sheet_writing.specs.Ambiguous.{HasTwoReadings}
use Rattle.sheet_writing.proofs.DraftSteps.{step_there, from_step}
use Rattle.sheet_writing.proofs.ambiguous.first_ambiguous.Goals as goal

pub is_ambiguous-requires : goal.is_ambiguous-requires
is_ambiguous-requires c =
    let d = c.args.db.now in
    let s = c.in-Step.step in
    c.requires (step_in d s) (step_there d c.args.items.now c.loop-item.item-index c.item-item.result s c.loop-item-test.true (sym c.item-item.is ∙ c.in-Step.is))

pub returns-then-branch : goal.returns-then-branch
returns-then-branch c =
    let s = c.in-Step.step in
    let P = HasTwoReadings c.args.db.now.rows c.args.place in
    let there = from_step c.args.items.now c.loop-item.item-index c.item-item.result s c.loop-item-test.true (sym c.item-item.is ∙ c.in-Step.is) in
    let two = c.in_ok-is_ambiguous.ensures.0 c.if-branch.true in
    record {
      found = Some s;
      is_first = c.loop-item.invariant (Some s) (subst (λ (ss : List DraftStep). IsFirstOrNone P ss (Some s)) (sym there) (inl (refl, two)));
      is_named = ap (λ (n : Name). Some n) (c.in_ok-name.ensures ∙ c.as_slice.ensures);
    }
