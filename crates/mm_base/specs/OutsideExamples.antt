-- Counts, files and calls, computed.
use Rattle.std.specs.Prelude.{◌≡◌, ◌-◌, ◌^◌, ℕ, [], ◌∷◌, true, false, Some, None, codes, refl}
use Rattle.mm_base.specs.Outside.{one_more}
use Rattle.mm_base.specs.Files.{entry_of, kept_file}
use Rattle.mm_base.specs.Calls.{fails_next}

pub first_fault : one_more 0 ≡ 1
first_fault = refl

pub last_fault : one_more (2 ^ 64 - 1) ≡ 2 ^ 64 - 1
last_fault = refl

-- of two entries of one name the first counts
pub first_entry : entry_of {X = ℕ} ((codes "a", 1) ∷ (codes "b", 2) ∷ (codes "a", 3) ∷ []) (codes "a") ≡ Some 1
first_entry = refl

pub no_entry : entry_of {X = ℕ} ((codes "a", 1) ∷ []) (codes "b") ≡ None
no_entry = refl

-- the room is at least what the bytes need
pub room : kept_file 2 (codes "a", codes "four") ≡ (codes "a", record { bytes = codes "four"; room = 4 })
room = refl

-- calls are numbered from 1
pub first_call : fails_next (record { fails = 1 ∷ []; count = 0 }) ≡ true
first_call = refl

pub second_call : fails_next (record { fails = 1 ∷ []; count = 1 }) ≡ false
second_call = refl
