use Rattle.std.proofs.Common.{List, [], fold, ap, ◌∙◌, arith}
use Rattle.std.proofs.lemmas.List.{take_all}
use Rattle.frame_lists.specs.declared.entry.Entry.{Entry}
use Rattle.frame_lists.specs.Places.{codes_more}
use Rattle.frame_lists.proofs.ConstantLaws.{codes-law}
use Rattle.frame_lists.proofs.constants.float_codes.Goals as goal

pub returns : goal.returns
returns c = λ names ss is.
    let stop = c.loop-entry-test.false in
    c.from_vec.ensures ∙ c.loop-entry.invariant
    ∙ ap (λ (xs : List Entry). fold codes_more [] xs) (take_all c.loop-entry.entry-index c.args.entries.now (omega (arith, stop)) ∙ is)
    ∙ codes-law names ss
