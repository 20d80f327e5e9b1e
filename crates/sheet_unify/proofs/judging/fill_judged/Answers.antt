use Rattle.std.proofs.Common.{subst}
use Rattle.step_filling.specs.Answers.{IsFillFault}
use Rattle.sheet_unify.proofs.JudgedLaws.{counted_over, filled_by, refused_by, sound_by, none_long}
use Rattle.sheet_unify.proofs.judging.fill_judged.Goals as goal

pub fill_items-requires-clause-steps : goal.fill_items-requires-clause-steps
fill_items-requires-clause-steps c =
    let h = c.args.chain.now in
    let counts = c.bound_is_counted.ensures in
    (counted_over counts.counted counts.short c.requires.kinds h.book c.args.sheet.now h.bound c.requires.texts).count

pub returns-in-Ok-clause-sound : goal.returns-in-Ok-clause-sound
returns-in-Ok-clause-sound c =
    let h = c.args.chain.now in
    let counts = c.bound_is_counted.ensures in
    sound_by h c.args.sheet.now c.chain_tells.ensures counts.counted counts.short c.leaves_are_small.ensures c.requires c.in-Ok.items c.in-Ok.ensures.filled

pub returns-in-Ok-clause-filled : goal.returns-in-Ok-clause-filled
returns-in-Ok-clause-filled c =
    let h = c.args.chain.now in
    let counts = c.bound_is_counted.ensures in
    filled_by h c.args.sheet.now c.chain_tells.ensures counts.counted counts.short c.fronts_are_counted.ensures c.long_is_first.ensures.short c.in-Ok.items c.in-Ok.ensures.filled

pub returns-in-Err-TooLong-clause-fault : goal.returns-in-Err-TooLong-clause-fault
returns-in-Err-TooLong-clause-fault c =
    let h = c.args.chain.now in
    let counts = c.bound_is_counted.ensures in
    let long = c.long_is_first.ensures in
    refused_by h c.args.sheet.now c.chain_tells.ensures counts.counted counts.short c.fronts_are_counted.ensures long.first long.short
    c.long_formula_is_answered.ensures c.in-Err-TooLong.name c.in-Err-TooLong.tokens
    (subst (IsFillFault h c.args.sheet.now) c.in-Err-TooLong.field-0-is c.in-Err-TooLong.ensures.fault)

pub unreachable-requires : goal.unreachable-requires
unreachable-requires c =
    let h = c.args.chain.now in
    let counts = c.bound_is_counted.ensures in
    none_long h c.args.sheet.now c.chain_tells.ensures counts.counted counts.short c.values_are_short.ensures.short c.values_are_short.ensures.earlier c.requires
    (subst (IsFillFault h c.args.sheet.now) c.in-Err-LongValue.field-0-is c.in-Err-LongValue.ensures.fault)
