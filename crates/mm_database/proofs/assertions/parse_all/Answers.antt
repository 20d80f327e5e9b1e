use Rattle.std.proofs.Common.{◌++◌, ◌∷◌, [], List, Option, take, get_or, sym, subst}
use Rattle.std.specs.List.{AllZip}
use Rattle.std.proofs.lemmas.List.{take_more}
use Rattle.mm_model.specs.declared.frames.Frame.{Frame}
use Rattle.mm_database.specs.declared.assertions.Parsed.{Parsed}
use Rattle.mm_database.specs.Assertions.{IsKept}
use Rattle.mm_database.proofs.Zips.{zip_append}
use Rattle.mm_database.proofs.assertions.parse_all.Goals as goal

pub loop-entry-preserved : goal.loop-entry-preserved
loop-entry-preserved c =
    let R = IsKept c.args.kinds c.args.grammar.now c.args.constants.now in
    let frames = c.args.frames.now in
    let k = c.loop-entry.entry-index in
    let item = c.entry-item.result in
    let own = subst (λ (f : Option Frame). R f c.in_ok-kept.kept) c.entry-item.is c.in_ok-kept.ensures in
    let next = zip_append R (take k frames) (get_or frames k item ∷ []) c.loop-entry.parsed.items (c.in_ok-kept.kept ∷ []) c.loop-entry.invariant (own, tt) in
    subst (λ fs. AllZip R fs c.push.new.self.items) (sym (take_more frames k item c.loop-entry-test.true))
    (subst (λ (os : List (Option Parsed)). AllZip R (take k frames ++ get_or frames k item ∷ []) os) (sym c.in_ok-push.ensures.items) next)
