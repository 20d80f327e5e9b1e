-- A written code, read again.
use Rattle.std.specs.Prelude.{◌≡◌, ℕ, false, List, length, None}
use Rattle.std.specs.List.{list_any}
use Rattle.mm_model.specs.Names.{contains}
use Rattle.proof_model.specs.declared.code.Code.{Code}
use Rattle.proof_model.specs.ProofCode.{Spells, IsWritable, code_fault, spelled}

-- the text that is written spells the code
abbrev pub WrittenSpells : Type 0
WrittenSpells = (mandatory : List (List ℕ)) (code : Code) → IsWritable (length mandatory) code → Spells (spelled (length mandatory) code) mandatory code

-- and has no fault, where the code lists no mandatory hypothesis
abbrev pub WrittenIsSound : Type 0
WrittenIsSound = (mandatory : List (List ℕ)) (code : Code) → IsWritable (length mandatory) code → list_any (contains mandatory) code.labels ≡ false
    → code_fault (spelled (length mandatory) code) mandatory ≡ None

-- no text spells two codes
abbrev pub SpellsOne : Type 0
SpellsOne = (text : List ℕ) (mandatory : List (List ℕ)) (one other : Code) → Spells text mandatory one → Spells text mandatory other → one ≡ other

-- each text without a fault spells one
abbrev pub SoundSpells : Type 0
SoundSpells = (text : List ℕ) (mandatory : List (List ℕ)) → code_fault text mandatory ≡ None → (code : Code) × Spells text mandatory code
