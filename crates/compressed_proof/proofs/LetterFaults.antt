-- The error of reading letters is their first fault, with what is told of it.
use Rattle.std.proofs.Common.{◌≡◌, ◌<◌, ℕ, ◌+◌, ◌-◌, ◌^◌, List, [], length, Err, refl, sym, ap, ◌∙◌, arith, subst}
use Rattle.proof_model.specs.ProofCode.{letter_fault}
use Rattle.compressed_proof.specs.declared.steps.Prior.TheVariants as prior
use Rattle.compressed_proof.specs.declared.fault.CodeFault.{CodeFault}
use Rattle.compressed_proof.specs.declared.fault.CodeFault.TheVariants as faults
use Rattle.compressed_proof.specs.Parts.{IsLetterFault}
use Rattle.compressed_proof.specs.Reading.{read_letters, FailsWith}
use Rattle.compressed_proof.proofs.FaultLaw.{fault_in, fault_of, fault_law}
use Rattle.compressed_proof.proofs.NumberLaw.{HasNumber, number_there, number_law}

first : (m n : ℕ) (letters : List ℕ) (e : CodeFault) → m + n + length letters < 2 ^ 64 - 1 → read_letters m n 0 prior.Start 0 letters ≡ Err e → letter_fault (m + n) letters ≡ fault_of e
first m n letters e room h = sym (fault_law m n 0 prior.Start [] letters refl refl (omega arith)) ∙ ap fault_in h

number_found : (m n : ℕ) (letters : List ℕ) (i k : ℕ) → read_letters m n 0 prior.Start 0 letters ≡ Err (faults.NumberTooLarge i k) → k ≡ number_there letters i
number_found m n letters i k h = subst (HasNumber letters) h (number_law m n 0 prior.Start [] letters refl)

pub fault_read : (m n : ℕ) (letters : List ℕ) (e : CodeFault) → m + n + length letters < 2 ^ 64 - 1 → FailsWith e (read_letters m n 0 prior.Start 0 letters) → IsLetterFault (m + n) letters e
fault_read m n letters faults.Memory room h = tt
fault_read m n letters (faults.BadLetter i) room h = first m n letters (faults.BadLetter i) room h
fault_read m n letters (faults.NumberTooLarge i k) room h = (first m n letters (faults.NumberTooLarge i k) room h, number_found m n letters i k h)
fault_read m n letters (faults.MarkAtStart i) room h = first m n letters (faults.MarkAtStart i) room h
fault_read m n letters (faults.MarkTwice i) room h = first m n letters (faults.MarkTwice i) room h
fault_read m n letters (faults.UnendedNumber i) room h = first m n letters (faults.UnendedNumber i) room h
fault_read m n letters (faults.NoBracket i) room h = h
fault_read m n letters (faults.MandatoryListed i l) room h = h
fault_read m n letters (faults.LabelTwice i l) room h = h
