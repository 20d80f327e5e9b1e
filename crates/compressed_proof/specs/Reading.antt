-- Reading letters from the front, with the first fault that is met. This is part of the proof, and not of the claim.
use Rattle.std.specs.Prelude.{◌≡◌, ℕ, suc, ◌+◌, ◌-◌, ◌*◌, Bool, true, false, ◌==◌, List, [], ◌∷◌, ◌++◌, nat_lt, Result, Ok, Err, if◌then◌else◌}
use Rattle.compressed_proof.specs.Decoded.{capped}
use Rattle.proof_model.specs.ProofCode.{is_last, is_leading}
use Rattle.proof_model.specs.declared.code.What.{What}
use Rattle.proof_model.specs.declared.code.What.TheVariants.{Hyp, Listed, Again, Unknown}
use Rattle.proof_model.specs.declared.code.Step.{Step}
use Rattle.compressed_proof.specs.declared.steps.Prior.{Prior}
use Rattle.compressed_proof.specs.declared.steps.Prior.TheVariants as prior
use Rattle.compressed_proof.specs.declared.fault.CodeFault.{CodeFault}
use Rattle.compressed_proof.specs.declared.fault.CodeFault.TheVariants as faults

abbrev pub value_of : Prior → ℕ
value_of (prior.Digits v) = v
value_of (prior.Step w) = 0
value_of prior.Start = 0
value_of prior.Mark = 0

abbrev pub with_digit : Prior → ℕ → ℕ
with_digit p b = capped (capped (5 * value_of p) + (b - 84))

abbrev pub with_last : Prior → ℕ → ℕ
with_last p b = capped (capped (20 * value_of p) + (b - 64))

abbrev pub plain : What → Step
plain w = record { what = w; marked = false }

abbrev pub marked : What → Step
marked w = record { what = w; marked = true }

-- what a number names
abbrev pub what_of : ℕ → ℕ → ℕ → What
what_of m n number = if nat_lt number (m + 1) then Hyp (number - 1) else (if nat_lt number (m + n + 1) then Listed (number - m - 1) else Again (number - m - n - 1))

abbrev pub with_front : List Step → Result (List Step) CodeFault → Result (List Step) CodeFault
with_front front (Ok ss) = Ok (front ++ ss)
with_front front (Err f) = Err f

-- a step before that was not marked
abbrev pub pending : Prior → List Step
pending (prior.Step w) = plain w ∷ []
pending (prior.Digits v) = []
pending prior.Start = []
pending prior.Mark = []

abbrev pub is_digits : Prior → Bool
is_digits (prior.Digits v) = true
is_digits (prior.Step w) = false
is_digits prior.Start = false
is_digits prior.Mark = false

abbrev pub read_letters : ℕ → ℕ → ℕ → Prior → ℕ → List ℕ → Result (List Step) CodeFault
read_letters m n marks p i [] = if is_digits p then Err (faults.UnendedNumber i) else Ok (pending p)
read_letters m n marks p i (b ∷ bs) =
    if is_leading b then with_front (pending p) (read_letters m n marks (prior.Digits (with_digit p b)) (suc i) bs)
    else
    (if is_last b then
    (if nat_lt (m + n + marks) (with_last p b) then Err (faults.NumberTooLarge i (with_last p b)) else with_front (pending p)
    (read_letters m n marks (prior.Step (what_of m n (with_last p b))) (suc i) bs))
    else (if b == 63 then (if is_digits p then Err (faults.UnendedNumber i) else with_front (pending p) (read_letters m n marks (prior.Step Unknown) (suc i) bs))
    else (if b == 90 then (elim p [
      | prior.Start ↦ Err (faults.MarkAtStart i)
      | prior.Digits v ↦ Err (faults.UnendedNumber i)
      | prior.Step w ↦ with_front (marked w ∷ []) (read_letters m n (suc marks) prior.Mark (suc i) bs)
      | prior.Mark ↦ Err (faults.MarkTwice i)
    ]) else Err (faults.BadLetter i))))

-- the error is want of memory, or the fault of the letters that reading meets
abbrev pub FailsWith : CodeFault → Result (List Step) CodeFault → Type 0
FailsWith faults.Memory read = Unit {0}
FailsWith (faults.BadLetter i) read = read ≡ Err (faults.BadLetter i)
FailsWith (faults.NumberTooLarge i n) read = read ≡ Err (faults.NumberTooLarge i n)
FailsWith (faults.MarkAtStart i) read = read ≡ Err (faults.MarkAtStart i)
FailsWith (faults.MarkTwice i) read = read ≡ Err (faults.MarkTwice i)
FailsWith (faults.UnendedNumber i) read = read ≡ Err (faults.UnendedNumber i)
FailsWith _ read = ⊥
