-- What reading a text answers.
use Rattle.std.specs.Prelude.{◌≡◌, ℕ, ◌-◌, ◌⊎◌, ◌^◌, min, false, List, length, Some, None, Result, Ok, Err}
use Rattle.std.specs.List.{list_any}
use Rattle.mm_model.specs.Faults.{fault}
use Rattle.mm_model.specs.Names.{contains}
use Rattle.proof_model.specs.declared.code.Code.{Code}
use Rattle.proof_model.specs.ProofCode.{Spells, IsWritable, code_fault, label_told, number_told, spelled}
use Rattle.compressed_proof.specs.declared.fault.CodeFault.{CodeFault}
use Rattle.compressed_proof.specs.declared.fault.CodeFault.TheVariants as faults

-- a number that does not fit 64 bits is told as the largest that does
abbrev pub capped : ℕ → ℕ
capped n = min n (2 ^ 64 - 1)

-- the error is want of memory, or the first fault of the text with what is told of it
abbrev pub IsFault : List ℕ → List (List ℕ) → CodeFault → Type 0
IsFault text mandatory faults.Memory = Unit {0}
IsFault text mandatory (faults.BadLetter i) = code_fault text mandatory ≡ Some (fault i 1)
IsFault text mandatory (faults.NumberTooLarge i n) = (code_fault text mandatory ≡ Some (fault i 2)) × (n ≡ capped (number_told text i))
IsFault text mandatory (faults.MarkAtStart i) = code_fault text mandatory ≡ Some (fault i 3)
IsFault text mandatory (faults.MarkTwice i) = code_fault text mandatory ≡ Some (fault i 4)
IsFault text mandatory (faults.UnendedNumber i) = code_fault text mandatory ≡ Some (fault i 5)
IsFault text mandatory (faults.NoBracket i) = code_fault text mandatory ≡ Some (fault i 6)
IsFault text mandatory (faults.MandatoryListed i label) = (code_fault text mandatory ≡ Some (fault i 7)) × (label ≡ label_told text i)
IsFault text mandatory (faults.LabelTwice i label) = (code_fault text mandatory ≡ Some (fault i 8)) × (label ≡ label_told text i)

-- what `decode` answers: the code that a text without a fault spells, or else the fault
abbrev pub IsDecoded : List ℕ → List (List ℕ) → Result Code CodeFault → Type 0
IsDecoded text mandatory (Ok code) = (code_fault text mandatory ≡ None) × Spells text mandatory code
IsDecoded text mandatory (Err e) = IsFault text mandatory e

-- a code that can be written and lists no mandatory hypothesis is what its text is read as, unless memory runs out
abbrev pub DecodeUndoesEncode : Type 0
DecodeUndoesEncode = (mandatory : List (List ℕ)) (code : Code) (result : Result Code CodeFault) → IsWritable (length mandatory) code → list_any (contains mandatory) code.labels ≡ false
    → IsDecoded (spelled (length mandatory) code) mandatory result → (result ≡ Ok code) ⊎ (result ≡ Err faults.Memory)
