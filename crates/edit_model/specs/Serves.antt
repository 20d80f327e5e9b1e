-- What the program of the editor session takes from its input and writes, by its status.
use Rattle.std.specs.Prelude.{◌≡◌, ◌≤◌, ◌<◌, ◌+◌, ◌==◌, ◌^◌, ◌⊎◌, ◌&&◌, ℕ, Bool, true, false, not, List, [], ◌∷◌, ◌++◌, length, take, filter, nat_lt, Contains, if◌then◌else◌, Option, Some, None, option_and_then, codes}
use Rattle.std.specs.List.{list_any}
use Rattle.call_answers.specs.CommandLine.{is_name, leading, behind, options_of}
use Rattle.edit_model.specs.declared.request.Request.{Request}
use Rattle.edit_model.specs.declared.request.Request.TheVariants as request
use Rattle.edit_model.specs.Requests.{request_in}
use Rattle.edit_model.specs.Sessions.{IsSession, reply_text}
use Rattle.fault_lines.specs.FaultLines.{database_line}
use Rattle.mm_base.specs.Outside.{Files}
use Rattle.mm_base.specs.declared.status.Status.{Status}
use Rattle.mm_base.specs.declared.status.Status.TheVariants as status
use Rattle.mm_model.specs.Book.{Database, IsDatabaseOf}
use Rattle.mm_model.specs.Faults.{Fault}
use Rattle.mm_model.specs.Names.{Name}
use Rattle.mm_model.specs.Statements.{database_fault}
use Rattle.serde_json.specs.Data.{Data}
use Rattle.sheet_text.specs.Layout.{ended}
use Rattle.sheet_text.specs.Lines.{lines}
use Rattle.written_model.specs.declared.options.Options.{Options}

-- ---- the words

abbrev pub edit_usage_line : List ℕ
edit_usage_line = codes "usage: mmp_edit [options] DB"

-- the options of a session, and the file of its database
pub record EditCommand : Type 0 where
  pub options : Options
  pub database : Name

abbrev pub over_database : List Name → Options → Option EditCommand
over_database (database ∷ []) options = if is_name database then Some (record { options = options; database = database }) else None
over_database words options = None

-- options, and one name behind them
abbrev pub edit_command_of : List Name → Option EditCommand
edit_command_of words = option_and_then (over_database (behind words)) (options_of (leading words))

-- ---- the input

-- the lines that LF ends: as many as there are LF
abbrev pub complete_lines : List ℕ → List (List ℕ)
complete_lines text = take (length (filter (λ b. b == 10) text)) (lines text)

abbrev pub asks_to_quit : Option Request → Bool
asks_to_quit (Some request.Quit) = true
asks_to_quit _ = false

abbrev pub is_quit : List ℕ → Bool
is_quit line = asks_to_quit (request_in line)

-- the most bytes of an input, up to `quit`
abbrev pub most_session_bytes : ℕ
most_session_bytes = 2 ^ 28

-- the most bytes that are taken from the input at once
abbrev pub most_piece_bytes : ℕ
most_piece_bytes = 65536

-- the input is longer, and no complete line of so many first bytes is `quit`
abbrev pub is_session_too_big : List ℕ → Bool
is_session_too_big input = nat_lt most_session_bytes (length input) && not (list_any is_quit (complete_lines (take most_session_bytes input)))

abbrev pub session_too_big_line : List ℕ
session_too_big_line = codes "session error 84 SessionTooBig at byte 268435456"

abbrev pub read_fault_line : Name → List ℕ
read_fault_line what = codes "read fault " ++ what

-- ---- what the output gains

module _ (db : Database) (options : Options) where
  -- all replies to these lines
  pub record IsAnswered (ls : List (List ℕ)) (out : List ℕ) : Type 0 where
    pub replies : List Data
    pub session : IsSession db options ls replies
    pub gained : out ≡ reply_text replies

  -- a front of the replies to the first of these lines
  pub record IsAnsweredInPart (ls : List (List ℕ)) (out : List ℕ) : Type 0 where
    pub count : ℕ
    pub replies : List Data
    pub session : IsSession db options (take count ls) replies
    pub rest : List ℕ
    pub gained : reply_text replies ≡ out ++ rest

  -- complete lines that end the session, or whose replies are not all in the output
  pub record IsLastTaken (out front : List ℕ) : Type 0 where
    pub replies : List Data
    pub session : IsSession db options (complete_lines front) replies
    pub ends : (length out < length (reply_text replies)) ⊎ (list_any is_quit (complete_lines front) ≡ true)

  -- past such lines at most one piece was taken
  abbrev pub IsAnsweredInTime : List ℕ → List ℕ → List ℕ → Type 0
  IsAnsweredInTime input taken out = (front rest : List ℕ) → input ≡ (front ++ 10 ∷ []) ++ rest → IsLastTaken out (front ++ 10 ∷ [])
      → length taken ≤ length (front ++ 10 ∷ []) + most_piece_bytes

-- the bytes are a front of one of these lines
pub record IsFrontOfOne (ls : List (List ℕ)) (bytes : List ℕ) : Type 0 where
  pub rest : List ℕ
  pub line : Contains ls (bytes ++ rest)

-- the input has ended; it is too big; it could not be read further; the output or the log took no more; or memory ran out
pub data IsServedOver (db : Database) (options : Options) (input taken out log : List ℕ) : Status → Type 0 where
  finished : is_session_too_big input ≡ false → IsAnswered db options (lines input) out → log ≡ [] → IsServedOver db options input taken out log status.Finished
  too_big : is_session_too_big input ≡ true → IsAnswered db options (complete_lines (take most_session_bytes input)) out → log ≡ ended session_too_big_line
      → IsServedOver db options input taken out log status.Sheet
  unread : IsAnswered db options (complete_lines taken) out → log ≡ ended (read_fault_line (codes "input")) → IsServedOver db options input taken out log status.Read
  unwritten : IsAnsweredInPart db options (lines input) out → IsFrontOfOne (ended session_too_big_line ∷ ended (read_fault_line (codes "input")) ∷ []) log
      → IsServedOver db options input taken out log status.Write
  no_memory : IsAnsweredInPart db options (lines input) out → log ≡ [] → IsServedOver db options input taken out log status.Memory

-- ---- what is told before the first request

module _ (files : Files) (words : List Name) where
  -- the words fit nothing; the database has a fault; or it could not be read
  pub data Refuses : Status → List ℕ → Type 0 where
    bad_words : edit_command_of words ≡ None → Refuses status.Words edit_usage_line
    bad_database : {command : EditCommand} {database : List ℕ} {f : Fault} → edit_command_of words ≡ Some command → files command.database ≡ Some database
        → database_fault database ≡ Some f → Refuses status.Database (database_line f)
    unread_database : {command : EditCommand} → edit_command_of words ≡ Some command → Refuses status.Read (read_fault_line command.database)

  -- such a line, or a front of it, or nothing where memory ran out; or the session over the database
  pub data IsServed (input taken out log : List ℕ) : Status → Type 0 where
    refused : {s : Status} {line : List ℕ} → Refuses s line → taken ≡ [] → out ≡ [] → log ≡ ended line → IsServed input taken out log s
    refused_in_part : {s : Status} {line : List ℕ} → Refuses s line → taken ≡ [] → out ≡ [] → IsFrontOfOne (ended line ∷ []) log → IsServed input taken out log status.Write
    no_memory : taken ≡ [] → out ≡ [] → log ≡ [] → IsServed input taken out log status.Memory
    served : {command : EditCommand} {database : List ℕ} {db : Database} {s : Status} → edit_command_of words ≡ Some command → files command.database ≡ Some database
        → database_fault database ≡ None → IsDatabaseOf command.options.kinds database db → IsServedOver db command.options input taken out log s
        → IsAnsweredInTime db command.options input taken out → IsServed input taken out log s
