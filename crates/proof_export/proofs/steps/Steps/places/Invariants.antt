use Rattle.std.proofs.Common.{◌≡◌, List, map, take}
use Rattle.proof_model.specs.Machine.{Formula}
use Rattle.export_model.specs.Exported.{place_in}
use Rattle.proof_export.specs.Leads.{HasFormulas, taken_for}
use Rattle.proof_export.proofs.steps.Steps.places.Given as goal

abbrev pub invariant-loop-place : goal.invariant-loop-place
invariant-loop-place l = (fs : List Formula) → HasFormulas l.self fs → l.places.items ≡ map (place_in fs) (taken_for (take l.place l.hyps) (take l.place l.entries))
