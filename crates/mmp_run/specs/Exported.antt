-- What the text of a database, a label and options give. This is part of the proof, and not of the claim.
use Rattle.std.specs.Prelude.{◌≡◌, ◌≢◌, ℕ, List}
use Rattle.call_answers.specs.declared.ending.Ending.{Ending}
use Rattle.call_answers.specs.Exports.{IsAccepted, Exports}
use Rattle.call_answers.specs.Verified.{Verdict, accepted, IsVerdict}
use Rattle.mm_model.specs.Book.{Database, IsDatabaseOf}
use Rattle.mmp_run.specs.Verify.{ending_of}
use Rattle.proof_model.specs.declared.code.Code.{Code}
use Rattle.proof_model.specs.declared.theorem.Theorem.{Theorem}
use Rattle.written_model.specs.declared.options.Options.{Options}

-- the ending for a label over a database without a fault: why its proof is not accepted, or what its worksheet gives
pub data IsExported (options : Options) (database theorem : List ℕ) (end : Ending) : Type 0 where
  refused : (v : Verdict) → IsVerdict database theorem v → v ≢ accepted → end ≡ ending_of theorem v → IsExported options database theorem end
  exported : {db : Database} {t : Theorem} {code : Code} → IsDatabaseOf options.kinds database db → IsAccepted database db theorem t code
      → Exports db options theorem t code end → IsExported options database theorem end
