use Rattle.sheet_print.proofs.Pieces.{places_parts}
use Rattle.sheet_print.proofs.text.put_places.Goals as goal

pub returns-in_ok-put_more_places : goal.returns-in_ok-put_more_places
returns-in_ok-put_more_places c = places_parts _ _ _ _ _ _ _ c.in-Some.ensures.cases.0 (rw c.place_text.ensures at c.in_ok-put.ensures) c.in_ok-put_more_places.ensures
