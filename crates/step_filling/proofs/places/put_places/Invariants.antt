use Rattle.std.proofs.Common.{◌≡◌, ◌++◌, map, take}
use Rattle.written_model.specs.Filled.{written_place}
use Rattle.step_filling.proofs.places.put_places.Given as goal

abbrev pub invariant-loop-place : goal.invariant-loop-place
invariant-loop-place l = l.written.items ≡ l.initial.written.items ++ map (written_place l.numbers) (take l.place-index l.places)
