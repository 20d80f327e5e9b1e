-- A line that reads as a value, and one that does not.
use Rattle.std.proofs.Common.{◌≡◌, ℕ, Bool, true, false, List, if◌then◌else◌, Some, None, refl}
use Rattle.std.proofs.lemmas.Str.{IsUtf8-from_is_utf8, is_utf8-from_IsUtf8}
use Rattle.std.specs.Option.{option_and_then}
use Rattle.std.specs.Str.{IsUtf8, is_utf8}
use Rattle.edit_model.specs.Requests.{request_in, request_of}
use Rattle.serde_json.specs.Data.{Data}
use Rattle.serde_json.specs.Read.{read}

pub of_value : (line : List ℕ) (d : Data) → IsUtf8 line × (read line ≡ Some d) → request_in line ≡ request_of d
of_value line d (utf8, is) = rw (is_utf8-from_IsUtf8 line utf8, is) refl

pub of_none : (line : List ℕ) → (IsUtf8 line → read line ≡ None) → request_in line ≡ None
of_none line none = by (is_utf8 line) (λ e. none (IsUtf8-from_is_utf8 line e))
  where
    by : (b : Bool) → (b ≡ true → read line ≡ None) → (if b then option_and_then request_of (read line) else None) ≡ None
    by true h = rw (h refl) refl
    by false h = refl
