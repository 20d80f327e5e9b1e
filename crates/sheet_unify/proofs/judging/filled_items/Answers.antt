use Rattle.std.proofs.lemmas.Result.{IfOk-weaker, IfErr-weaker}
use Rattle.written_steps.specs.Drafts.{book}
use Rattle.sheet_unify.specs.Answered.{IsFaultOf}
use Rattle.sheet_unify.specs.Judged.{IsFilledBy, IsRefusedBy}
use Rattle.sheet_unify.specs.Made.{IsFilled}
use Rattle.sheet_unify.proofs.JudgedLaws.{counted_over, judged_over, filled_for, refused_for}
use Rattle.sheet_unify.proofs.judging.filled_items.Goals as goal

pub judged_chain-requires-clause-placed : goal.judged_chain-requires-clause-placed
judged_chain-requires-clause-placed c =
    let counts = c.bound_is_counted.ensures in
    (counted_over counts.counted counts.short c.args.options.now.kinds c.args.db.now c.args.sheet.now c.args.bound.now c.requires.texts).placed

pub judged_chain-requires-clause-few : goal.judged_chain-requires-clause-few
judged_chain-requires-clause-few c =
    let counts = c.bound_is_counted.ensures in
    (counted_over counts.counted counts.short c.args.options.now.kinds c.args.db.now c.args.sheet.now c.args.bound.now c.requires.texts).few

pub fill_judged-requires : goal.fill_judged-requires
fill_judged-requires c = judged_over c.args.options.now.kinds c.args.db.now c.args.sheet.now c.args.bound.now c.in_ok-chain.chain c.in_ok-chain.ensures c.requires.texts

pub returns-clause-filled : goal.returns-clause-filled
returns-clause-filled c = λ database text opened bound_sheet.
    let d = c.args.db.now in
    let sheet = c.args.sheet.now in
    let bound = c.args.bound.now in
    let kinds = c.args.options.now.kinds in
    let h = c.in_ok-chain.chain in
    IfOk-weaker c.fill_judged.result (IsFilledBy h sheet) (IsFilled (book kinds database d) d text sheet bound)
    (λ items filled. filled_for kinds d sheet bound h c.in_ok-chain.ensures items filled database text opened bound_sheet) c.fill_judged.ensures.filled

pub returns-clause-fault : goal.returns-clause-fault
returns-clause-fault c = λ database text opened bound_sheet.
    let d = c.args.db.now in
    let sheet = c.args.sheet.now in
    let bound = c.args.bound.now in
    let options = c.args.options.now in
    let h = c.in_ok-chain.chain in
    IfErr-weaker c.fill_judged.result (IsRefusedBy h sheet) (IsFaultOf (book options.kinds database d) text options)
    (λ fault refused. refused_for options d sheet bound h c.in_ok-chain.ensures fault refused database text opened bound_sheet) c.fill_judged.ensures.fault
