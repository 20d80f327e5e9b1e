use Rattle.std.proofs.Common.{◌≡◌, ℕ, List, take}
use Rattle.mm_model.specs.Statements.{statements}
use Rattle.mm_frames.specs.Contents.{contents_of}
use Rattle.proof_model.specs.DatabaseProofs.{frames_of_database}
use Rattle.stack_verify.specs.Lookups.{AreFound}
use Rattle.stack_verify.proofs.accepting.find_labels.Given as goal

abbrev pub invariant-loop-label : goal.invariant-loop-label
invariant-loop-label l = (text : List ℕ) → l.frames ≡ contents_of text → AreFound (frames_of_database (statements text)) l.theorem (take l.label-index l.labels) l.table.items
