-- Refused worksheets: one with a fault against its database; one whose written text is too large.
use Rattle.std.specs.Prelude.{◌≡◌, ◌≤◌, ◌-◌, ◌^◌, ℕ, [], ◌∷◌, length, map, codes, refl}
use Rattle.std.proofs.Common.{subst, arith}
use Rattle.mm_model.specs.Faults.{fault}
use Rattle.solve_model.specs.Example.{P}
use Rattle.solve_model.specs.ExampleSheets.{sheet_text}
use Rattle.solve_model.proofs.FirstFaultExample.{taken_first}
use Rattle.fault_lines.specs.Refusals.{Refusal, at_line, too_large, told_number}
use Rattle.written_model.specs.Written.{Writing, refused, Answers, LateFault, IsLate, written_text}
use Rattle.written_model.specs.WrittenExample.{compressed}

-- ---- one with the name of an assertion

pub refused_name : Answers P (sheet_text (codes "ax-1") (codes "?") (codes "qed:: |- foo" ∷ [])) compressed (refused (at_line (fault 1 61)))
refused_name = Answers.unbound refl (record { sound = refl; says = refl }) taken_first

-- ---- numbers that are told

pub told : map told_number (7 ∷ (2 ^ 64 - 1) ∷ (2 ^ 64) ∷ []) ≡ 7 ∷ (2 ^ 64 - 1) ∷ (2 ^ 64 - 1) ∷ []
told = refl

-- a text of one byte more than are allowed is told by its bytes, where no fault comes before
pub large : (w : Writing) → length (written_text P compressed w) ≡ 16777217 → ((k : ℕ) (r : Refusal) → LateFault P compressed w k r → 4 ≤ k) → IsLate P compressed w (too_large 16777217)
large w n first = record { rank = 4; stands = subst (λ m. LateFault P compressed w 4 (too_large (told_number m))) n (LateFault.large (omega (arith, n))); is_first = first }
