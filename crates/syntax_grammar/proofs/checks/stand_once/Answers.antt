use Rattle.std.proofs.Common.{◌∙◌, sym}
use Rattle.std.proofs.lemmas.Bool.{both_ways}
use Rattle.mm_model.specs.Rows.{slot_order}
use Rattle.syntax_grammar.proofs.CheckLaws.{each_once_from, first_of_once, stand_of_once}
use Rattle.syntax_grammar.proofs.checks.stand_once.Goals as goal

pub returns-then-stand_first : goal.returns-then-stand_first
returns-then-stand_first c =
    let order = slot_order c.args.items.now in (
      λ h. each_once_from order c.args.slots (sym c.stand_first.ensures ∙ c.if-stand_first.true) (sym c.all_stand.ensures ∙ h),
      λ h. c.all_stand.ensures ∙ stand_of_once order c.args.slots h,
    )

pub returns-else-stand_first : goal.returns-else-stand_first
returns-else-stand_first c =
    let order = slot_order c.args.items.now in (
      λ h. absurd (both_ways c.stand_first.result c.if-stand_first.false h),
      λ h. absurd (both_ways c.stand_first.result c.if-stand_first.false (c.stand_first.ensures ∙ first_of_once order c.args.slots h)),
    )
