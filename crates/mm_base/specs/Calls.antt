-- The calls of a fake: how many there were, and which of them fail.
use Rattle.std.specs.Prelude.{◌==◌, ℕ, Bool}
use Rattle.std.specs.List.{list_any}
use Rattle.mm_base.specs.Outside.{one_more}
use Rattle.mm_base.specs.declared.calls.Calls.{Calls}

-- the number of the next call, which stands still at its last value
abbrev pub next_number : Calls → ℕ
next_number calls = one_more calls.count

-- whether the next call is one of those that fail
abbrev pub fails_next : Calls → Bool
fails_next calls = list_any (λ number. number == next_number calls) calls.fails

-- one more call
abbrev pub after_one : Calls → Calls
after_one calls = record calls { count = next_number calls }
