-- The forms of a header and of a step.
use Rattle.std.specs.Prelude.{ℕ, Bool, true, false, not, ◌&&◌, ◌||◌, ◌==◌, List, [], ◌∷◌, length, map, drop, nat_eq, if◌then◌else◌, Option, Some, None, option_and_then, codes}
use Rattle.std.specs.Bool.{then_some}
use Rattle.std.specs.Str.{bytes_eq}
use Rattle.std.specs.List.{list_all, starts_with, slice_split}
use Rattle.mm_model.specs.Labels.{is_label}

abbrev pub is_gap : List ℕ → Bool
is_gap bytes = bytes_eq bytes (codes "?")

-- what follows a prefix
abbrev pub after_prefix : List ℕ → List ℕ → Option (List ℕ)
after_prefix p bytes = then_some (starts_with nat_eq bytes p) (drop (length p) bytes)

-- a header: the theorem's name, and the label of LOC_AFTER where one is given
pub record Header : Type 0 where
  pub theorem : List ℕ
  pub loc : Option (List ℕ)

-- nothing, `?` or a label
abbrev pub loc_of : List ℕ → Option (Option (List ℕ))
loc_of bytes = if length bytes == 0 || is_gap bytes then Some None else then_some (is_label bytes) (Some bytes)

-- at most one token: `LOC_AFTER=` with nothing, `?` or a label
abbrev pub loc_in : List (List ℕ) → Option (Option (List ℕ))
loc_in [] = Some None
loc_in (token ∷ []) = option_and_then loc_of (after_prefix (codes "LOC_AFTER=") token)
loc_in (token ∷ t ∷ ts) = None

-- the name has a byte or more
abbrev pub header_with : Option (List ℕ) → Option (Option (List ℕ)) → Option Header
header_with (Some (b ∷ bs)) (Some loc) = Some (record { theorem = b ∷ bs; loc = loc })
header_with _ _ = None

-- the tokens `$(`, `<MM>`, `<PROOF_ASST>`, `THEOREM=` with a name, and LOC_AFTER
abbrev pub header_of : List (List ℕ) → Option Header
header_of (a ∷ b ∷ c ∷ token ∷ more) =
    if bytes_eq a (codes "$(") && bytes_eq b (codes "<MM>") && bytes_eq c (codes "<PROOF_ASST>")
    then header_with (after_prefix (codes "THEOREM=") token) (loc_in more) else None
header_of _ = None

-- a step as it is written: its places are names, or None for `?`
pub record StepForm : Type 0 where
  pub hyp : Bool
  pub name : List ℕ
  pub entries : List (Option (List ℕ))
  pub reference : Option (List ℕ)
  pub formula : List (List ℕ)

-- whether the leading `h` of a hypothesis stands, and the name
abbrev pub marked_name : List ℕ → Bool × List ℕ
marked_name [] = (false, [])
marked_name (b ∷ bs) = if b == 104 then (true, bs) else (false, b ∷ bs)

abbrev pub is_entry : List ℕ → Bool
is_entry bytes = is_gap bytes || is_label bytes

abbrev pub entry_of : List ℕ → Option (List ℕ)
entry_of bytes = if is_gap bytes then None else Some bytes

-- the entries between the commas; no bytes are no entries
abbrev pub parts_of : List ℕ → List (List ℕ)
parts_of [] = []
parts_of (b ∷ bs) = slice_split (λ c. c == 44) (b ∷ bs)

-- a hypothesis has a label; another step has a label, `?` or nothing
abbrev pub is_reference : Bool → List ℕ → Bool
is_reference hyp bytes = is_label bytes || (not hyp && (length bytes == 0 || is_gap bytes))

abbrev pub reference_of : List ℕ → Option (List ℕ)
reference_of bytes = then_some (is_label bytes) bytes

abbrev pub step_with : Bool → List ℕ → List (List ℕ) → List ℕ → List (List ℕ) → Option StepForm
step_with hyp name parts reference formula =
    then_some (is_label name && list_all is_entry parts && is_reference hyp reference)
    (record { hyp = hyp; name = name; entries = map entry_of parts; reference = reference_of reference; formula = formula })

-- the token is `name:places:reference`, with two colons
abbrev pub step_parts : List (List ℕ) → List (List ℕ) → Option StepForm
step_parts (name ∷ places ∷ reference ∷ []) formula = step_with (marked_name name).0 (marked_name name).1 (parts_of places) reference formula
step_parts _ formula = None

-- that token, and the formula
abbrev pub step_of : List (List ℕ) → Option StepForm
step_of [] = None
step_of (token ∷ formula) = step_parts (slice_split (λ c. c == 58) token) formula
