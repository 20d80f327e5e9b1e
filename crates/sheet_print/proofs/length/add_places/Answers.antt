use Rattle.std.proofs.Common.{ap, sym, ◌∙◌, ◌+◌}
use Rattle.sheet_print.specs.Pieces.{counted}
use Rattle.sheet_print.proofs.Counts.{both, places_len}
use Rattle.sheet_print.proofs.length.add_places.Goals as goal

pub returns-in-Some : goal.returns-in-Some
returns-in-Some c =
    both _ _ _ _ _ (rw c.place_len.ensures at c.add-total.ensures) c.add_more_places.ensures
    ∙ ap (λ n. counted (c.args.total + n)) (sym (places_len _ c.in-Some.first.now c.in-Some.more.now c.args.places.now c.in-Some.ensures.cases.0))
