-- The editor session: the texts of the open sheets, and the replies to the lines of the input.
use Rattle.std.specs.Prelude.{◌≡◌, ℕ, Bool, true, false, not, ◌&&◌, List, [], ◌∷◌, length, map, flat_map, nat_le, nat_lt, slice_index, is_some, if◌then◌else◌, Option, Some, None, codes}
use Rattle.std.specs.List.{replace_range}
use Rattle.std.specs.Str.{bytes_eq}
use Rattle.std.specs.Str.Lossy.{utf8_lossy}
use Rattle.auto_model.specs.AutoFilled.{is_unfilled, IsAutoChoice}
use Rattle.edit_model.specs.declared.request.Action.{Action}
use Rattle.edit_model.specs.declared.request.Action.TheVariants as action
use Rattle.edit_model.specs.declared.request.Request.TheVariants as request
use Rattle.edit_model.specs.Requests.{request_in, is_blank}
use Rattle.fault_lines.specs.FaultLines.{refusal_line}
use Rattle.fault_lines.specs.Refusals.{Refusal}
use Rattle.mm_base.specs.Limits.{most_sheet_bytes}
use Rattle.mm_model.specs.Book.{Database, label_name}
use Rattle.mm_model.specs.Names.{Name, first_number}
use Rattle.select_model.specs.Selected.{step_named}
use Rattle.serde_json.specs.Data.{Data, null, boolean, string, array, object, Items, no_members, member}
use Rattle.serde_json.specs.View.{items_of}
use Rattle.serde_json.specs.Written.{compact_text}
use Rattle.sheet_text.specs.Layout.{ended, place_text}
use Rattle.written_model.specs.declared.options.Options.{Options}
use Rattle.written_model.specs.Found.{Choice}
use Rattle.written_model.specs.WrittenSteps.{WrittenStep, steps_in}
use Rattle.written_model.specs.Written.{Writing, Answers, refused, wrote, written_text, written_log}

-- ---- replies. Their keys stand in order; what comes from bytes is told as text, with U+FFFD for what is none

abbrev pub text_of : List ℕ → Data
text_of bytes = string (utf8_lossy bytes)

abbrev pub texts_of : List (List ℕ) → Items
texts_of texts = items_of (map text_of texts)

abbrev pub not_a_request : Data
not_a_request = object (member (codes "error") (string (codes "not a request")) no_members)

abbrev pub error_reply : Name → List ℕ → Data
error_reply name why = object (member (codes "error") (text_of why) (member (codes "name") (string name) no_members))

abbrev pub ok_reply : Name → Data
ok_reply name = object (member (codes "name") (string name) (member (codes "ok") (boolean true) no_members))

-- the written text and its report
abbrev pub unify_reply : Name → Bool → List (List ℕ) → List ℕ → Data
unify_reply name finished report text = object (member (codes "finished") (boolean finished) (member (codes "name") (string name)
    (member (codes "report") (array (texts_of report)) (member (codes "text") (text_of text) no_members))))

-- the names of the steps that an assertion takes, and its label
abbrev pub suggest_reply : Name → List Name → Data → Data
suggest_reply name places reference = object (member (codes "name") (string name)
    (member (codes "places") (array (texts_of places)) (member (codes "reference") reference no_members)))

-- ---- the text of a sheet

-- a character of the text begins at this byte, or the text ends there
abbrev pub is_boundary : List ℕ → ℕ → Bool
is_boundary text at = nat_le at (length text) && not (nat_le 128 (slice_index text at) && nat_lt (slice_index text at) 192)

abbrev pub is_range : List ℕ → ℕ → ℕ → Bool
is_range text from to = nat_le from to && is_boundary text from && is_boundary text to

-- why a text is refused
abbrev pub if_too_big : List ℕ → Option (List ℕ)
if_too_big text = if nat_lt most_sheet_bytes (length text) then Some (codes "too big") else None

-- why an action is refused on a sheet with this text, or on one that is not open
abbrev pub refusal : Option (List ℕ) → Action → Option (List ℕ)
refusal (Some text) (action.Open new) = Some (codes "already open")
refusal None (action.Open new) = if_too_big new
refusal None _ = Some (codes "not open")
refusal (Some text) (action.Edit from to new) = if is_range text from to then if_too_big (replace_range text from to new) else Some (codes "bad range")
refusal (Some text) _ = None

-- the text behind an action that is not refused
abbrev pub changed : Option (List ℕ) → Action → Option (List ℕ)
changed sheet (action.Open new) = Some new
changed (Some text) (action.Edit from to new) = Some (replace_range text from to new)
changed sheet action.Close = None
changed sheet _ = sheet

-- a refused action changes nothing
abbrev pub text_after : Option (List ℕ) → Action → Option (List ℕ)
text_after sheet asked = if is_some (refusal sheet asked) then sheet else changed sheet asked

-- ---- the reply to one request

-- the action changes the text, and no more is answered
abbrev pub is_change : Action → Bool
is_change (action.Open new) = true
is_change (action.Edit from to new) = true
is_change action.Close = true
is_change action.Unify = false
is_change (action.Suggest step) = false

abbrev pub written_names : Writing → List Name
written_names w = map (λ (e : WrittenStep). e.name) (steps_in w.items)

abbrev pub choice_reply : Database → Name → Writing → Option Choice → Data
choice_reply db name w None = suggest_reply name [] null
choice_reply db name w (Some c) = suggest_reply name (map (place_text (written_names w)) c.places) (text_of (label_name db c.label))

module _ (db : Database) (options : Options) (name : Name) where
  -- what the step of a name in a written worksheet can rest on: there is no such step; it is a hypothesis, lists a place or has a
  -- work variable; or the first assertion that serves it, or none
  pub data IsSuggested (w : Writing) (step : Name) : Data → Type 0 where
    no_such_step : step_named w step ≡ None → IsSuggested w step (error_reply name (codes "no such step"))
    step_open : {e : WrittenStep} → step_named w step ≡ Some e → is_unfilled e ≡ false → IsSuggested w step (error_reply name (codes "step open"))
    suggested : {e : WrittenStep} {k : ℕ} (o : Option Choice) → step_named w step ≡ Some e → first_number (bytes_eq step) (written_names w) ≡ Some k
        → is_unfilled e ≡ true → IsAutoChoice db options w k e o → IsSuggested w step (choice_reply db name w o)

  -- the reply to an action, by the sheet's text where it is open: it is refused; it changes the text; the sheet has a fault;
  -- it is unified; or a step is looked at
  pub data IsReply : Option (List ℕ) → Action → Data → Type 0 where
    refuses : {sheet : Option (List ℕ)} {asked : Action} {why : List ℕ} → refusal sheet asked ≡ Some why → IsReply sheet asked (error_reply name why)
    changes : {sheet : Option (List ℕ)} {asked : Action} → refusal sheet asked ≡ None → is_change asked ≡ true → IsReply sheet asked (ok_reply name)
    has_fault : {text : List ℕ} {asked : Action} {r : Refusal} → is_change asked ≡ false → Answers db text options (refused r)
        → IsReply (Some text) asked (error_reply name (refusal_line r))
    unifies : {text : List ℕ} {w : Writing} → Answers db text options (wrote w)
        → IsReply (Some text) action.Unify (unify_reply name w.finished (written_log db options w) (written_text db options w))
    suggests : {text : List ℕ} {w : Writing} {step : Name} {d : Data} → Answers db text options (wrote w) → IsSuggested w step d → IsReply (Some text) (action.Suggest step) d

-- ---- the session

-- the texts of the open sheets, by their names
abbrev pub Sheets : Type 0
Sheets = Name → Option (List ℕ)

abbrev pub none_open : Sheets
none_open name = None

-- one sheet with another text, or closed
abbrev pub with_sheet : Name → Option (List ℕ) → Sheets → Sheets
with_sheet name text sheets other = if bytes_eq other name then text else sheets other

abbrev pub sheets_after : Sheets → Name → Action → Sheets
sheets_after sheets name asked = with_sheet name (text_after (sheets name) asked) sheets

module _ (db : Database) (options : Options) where
  -- the replies to these lines, up to `quit`
  pub data AreReplies : Sheets → List (List ℕ) → List Data → Type 0 where
    ends : {sheets : Sheets} → AreReplies sheets [] []
    blank : {sheets : Sheets} {line : List ℕ} {more : List (List ℕ)} {ds : List Data} → is_blank line ≡ true → AreReplies sheets more ds → AreReplies sheets (line ∷ more) ds
    no_request : {sheets : Sheets} {line : List ℕ} {more : List (List ℕ)} {ds : List Data} → is_blank line ≡ false → request_in line ≡ None → AreReplies sheets more ds
        → AreReplies sheets (line ∷ more) (not_a_request ∷ ds)
    quits : {sheets : Sheets} {line : List ℕ} {more : List (List ℕ)} → is_blank line ≡ false → request_in line ≡ Some request.Quit → AreReplies sheets (line ∷ more) []
    asks : {sheets : Sheets} {line : List ℕ} {more : List (List ℕ)} {name : Name} {asked : Action} {d : Data} {ds : List Data} → is_blank line ≡ false
        → request_in line ≡ Some (request.Ask name asked) → IsReply db options name (sheets name) asked d → AreReplies (sheets_after sheets name asked) more ds
        → AreReplies sheets (line ∷ more) (d ∷ ds)

  -- a session begins with no open sheet
  abbrev pub IsSession : List (List ℕ) → List Data → Type 0
  IsSession lines ds = AreReplies none_open lines ds

-- the bytes of replies, one on each line
abbrev pub reply_text : List Data → List ℕ
reply_text ds = flat_map (λ d. ended (compact_text d)) ds
