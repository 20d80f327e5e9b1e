use Rattle.std.proofs.Common.{◌≡◌, ◌++◌, take, map}
use Rattle.sheet_text.specs.Layout.{place_text}
use Rattle.sheet_print.specs.Pieces.{behind_commas, shown}
use Rattle.sheet_print.proofs.text.put_more_places.Given as goal

abbrev pub invariant-loop-given : goal.invariant-loop-given
invariant-loop-given l = l.text.items ≡ l.initial.text.items ++ behind_commas (map (place_text (shown l.names)) (take l.given-index l.places))
