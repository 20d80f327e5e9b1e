-- The endings that say one line. This is part of the proof, and not of the claim.
use Rattle.std.specs.Prelude.{ℕ, List, []}
use Rattle.call_answers.specs.declared.ending.Ending.{Ending}
use Rattle.call_answers.specs.CommandLine.{usage_line}
use Rattle.mm_base.specs.declared.status.Status.{Status}
use Rattle.mm_base.specs.declared.status.Status.TheVariants.{Words}
use Rattle.sheet_text.specs.Layout.{ended}

-- nothing on the output, and one line in the log
abbrev pub refusal : Status → List ℕ → Ending
refusal status text = record { out = []; log = ended text; status = status }

abbrev pub usage : Ending
usage = refusal Words usage_line
