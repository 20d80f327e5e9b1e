-- Lines of a session and their requests, the texts of replies, and a whole session over the smallest database.
use Rattle.std.specs.Prelude.{◌≡◌, ℕ, List, [], ◌∷◌, ◌++◌, map, flat_map, Some, None, codes, refl}
use Rattle.std.specs.Str.{is_utf8, chars}
use Rattle.std.specs.Str.Lossy.{utf8_lossy, utf8_valid_len, utf8_error_len}
use Rattle.edit_model.specs.declared.request.Action.TheVariants as action
use Rattle.edit_model.specs.declared.request.Request.TheVariants as request
use Rattle.edit_model.specs.Requests.{request_in}
use Rattle.edit_model.specs.Sessions.{AreReplies, IsReply, IsSession, ok_reply, error_reply, not_a_request, suggest_reply, text_of, unify_reply, reply_text}
use Rattle.serde_json.proofs.OnLiterals.{serde_json_on_literals}
use Rattle.serde_json.specs.Data.{null}
use Rattle.sheet_text.specs.Layout.{ended}
use Rattle.written_model.proofs.WholeExample.{answers}
use Rattle.written_model.specs.WholeExample.{db, options, read_text, writing}
use Rattle.written_model.specs.Written.{written_text, written_log}

pub opens : request_in (codes "{\"op\":\"open\",\"name\":\"a\",\"text\":\"$)\\n\"}") ≡ Some (request.Ask (codes "a") (action.Open (codes "$)" ++ 10 ∷ [])))
unfolding serde_json_on_literals is_utf8 chars
opens = refl

pub edits : request_in (codes "{\"op\":\"edit\",\"name\":\"a\",\"from\":85,\"to\":85,\"text\":\"1,2\"}") ≡ Some (request.Ask (codes "a") (action.Edit 85 85 (codes "1,2")))
unfolding serde_json_on_literals is_utf8 chars
edits = refl

pub others : map request_in (codes "{\"op\":\"close\",\"name\":\"a\"}" ∷ codes " { \"name\" : \"a\", \"op\" : \"unify\" }" ∷ codes "{\"op\":\"suggest\",\"name\":\"a\",\"step\":\"qed\"}" ∷ codes "{\"op\":\"quit\"}" ∷ [])
    ≡ Some (request.Ask (codes "a") action.Close) ∷ Some (request.Ask (codes "a") action.Unify) ∷ Some (request.Ask (codes "a") (action.Suggest (codes "qed"))) ∷ Some request.Quit ∷ []
unfolding serde_json_on_literals is_utf8 chars
others = refl

-- of equal keys the last counts
pub last_key : request_in (codes "{\"op\":\"quit\",\"op\":\"close\",\"name\":\"b\",\"name\":\"a\"}") ≡ Some (request.Ask (codes "a") action.Close)
unfolding serde_json_on_literals is_utf8 chars
last_key = refl

-- an array; text behind the value; bytes that are no UTF-8; numbers below 0, with a fraction, and above 2^64 - 1; a lone surrogate
pub no_requests : map request_in (codes "[]" ∷ codes "{\"op\":\"quit\"} x" ∷ (codes "{\"op\":\"close\",\"name\":\"" ++ 255 ∷ codes "\"}")
    ∷ codes "{\"op\":\"edit\",\"name\":\"a\",\"from\":-1,\"to\":85,\"text\":\"1,2\"}" ∷ codes "{\"op\":\"edit\",\"name\":\"a\",\"from\":1.0,\"to\":85,\"text\":\"1,2\"}"
    ∷ codes "{\"op\":\"edit\",\"name\":\"a\",\"from\":1,\"to\":18446744073709551616,\"text\":\"1,2\"}" ∷ codes "{\"op\":\"close\",\"name\":\"\\ud800\"}" ∷ [])
    ≡ None ∷ None ∷ None ∷ None ∷ None ∷ None ∷ None ∷ []
unfolding serde_json_on_literals is_utf8 chars
no_requests = refl

pub replies : reply_text (ok_reply (codes "a") ∷ not_a_request ∷ suggest_reply (codes "a") [] null ∷ suggest_reply (codes "a") (codes "1" ∷ codes "2" ∷ []) (text_of (codes "ax-mp"))
    ∷ error_reply (codes "a") (codes "bad range") ∷ [])
    ≡ flat_map ended (codes "{\"name\":\"a\",\"ok\":true}" ∷ codes "{\"error\":\"not a request\"}" ∷ codes "{\"name\":\"a\",\"places\":[],\"reference\":null}"
    ∷ codes "{\"name\":\"a\",\"places\":[\"1\",\"2\"],\"reference\":\"ax-mp\"}" ∷ codes "{\"error\":\"bad range\",\"name\":\"a\"}" ∷ [])
unfolding serde_json_on_literals is_utf8 chars utf8_lossy utf8_valid_len utf8_error_len
replies = refl

-- ---- the worksheet of the smallest database is opened and unified, and behind `quit` nothing is read

abbrev open_line : List ℕ
open_line = codes "{\"op\":\"open\",\"name\":\"t\",\"text\":\"$( <MM> <PROOF_ASST> THEOREM=t LOC_AFTER=?\\nqed::any |- ps\\n$)\\n\"}"

abbrev unify_line : List ℕ
unify_line = codes "{\"op\":\"unify\",\"name\":\"t\"}"

abbrev quit_line : List ℕ
quit_line = codes "{\"op\":\"quit\"}"

opens_sheet : request_in open_line ≡ Some (request.Ask (codes "t") (action.Open read_text))
unfolding serde_json_on_literals is_utf8 chars
opens_sheet = refl

unifies_sheet : request_in unify_line ≡ Some (request.Ask (codes "t") action.Unify)
unfolding serde_json_on_literals is_utf8 chars
unifies_sheet = refl

quits_session : request_in quit_line ≡ Some request.Quit
unfolding serde_json_on_literals is_utf8 chars
quits_session = refl

pub session : IsSession db options (open_line ∷ [] ∷ unify_line ∷ quit_line ∷ unify_line ∷ [])
    (ok_reply (codes "t") ∷ unify_reply (codes "t") writing.finished (written_log db options writing) (written_text db options writing) ∷ [])
session = AreReplies.asks refl opens_sheet (IsReply.changes refl refl)
    (AreReplies.blank refl (AreReplies.asks refl unifies_sheet (IsReply.unifies answers) (AreReplies.quits refl quits_session)))
