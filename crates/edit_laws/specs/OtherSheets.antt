-- What is asked of one sheet in a session, and the replies that name it.
use Rattle.std.specs.Prelude.{◌≡◌, ℕ, Bool, false, List, [], ◌∷◌, filter, if◌then◌else◌, Option, Some, None, codes}
use Rattle.std.specs.Option.{option_map_or}
use Rattle.std.specs.Str.{bytes_eq}
use Rattle.edit_model.specs.declared.request.Action.{Action}
use Rattle.edit_model.specs.declared.request.Request.{Request}
use Rattle.edit_model.specs.declared.request.Request.TheVariants as request
use Rattle.edit_model.specs.Requests.{request_in, is_blank, text_at}
use Rattle.edit_model.specs.Sessions.{IsReply, IsSession, text_after}
use Rattle.mm_model.specs.Book.{Database}
use Rattle.mm_model.specs.Names.{Name}
use Rattle.serde_json.specs.Data.{Data}
use Rattle.written_model.specs.declared.options.Options.{Options}
use Rattle.written_model.specs.Opened.{IsOpened}

-- a request before these actions on a sheet
abbrev pub put_before : Name → Option Request → List Action → List Action
put_before name None more = more
put_before name (Some request.Quit) more = []
put_before name (Some (request.Ask other asked)) more = if bytes_eq other name then asked ∷ more else more

-- what these lines ask of a sheet, up to `quit`
abbrev pub actions_on : Name → List (List ℕ) → List Action
actions_on name [] = []
actions_on name (line ∷ more) = if is_blank line then actions_on name more else put_before name (request_in line) (actions_on name more)

-- the reply names the sheet
abbrev pub is_on : Name → Data → Bool
is_on name d = option_map_or (λ other. bytes_eq other name) (text_at (codes "name") d) false

abbrev pub replies_on : Name → List Data → List Data
replies_on name ds = filter (is_on name) ds

-- the replies to these actions on a sheet with this text, or one that is not open
pub data AreRepliesOn (db : Database) (options : Options) (name : Name) : Option (List ℕ) → List Action → List Data → Type 0 where
  none : {sheet : Option (List ℕ)} → AreRepliesOn db options name sheet [] []
  next : {sheet : Option (List ℕ)} {asked : Action} {actions : List Action} {d : Data} {ds : List Data} → IsReply db options name sheet asked d
      → AreRepliesOn db options name (text_after sheet asked) actions ds → AreRepliesOn db options name sheet (asked ∷ actions) (d ∷ ds)

-- ---- the laws

-- the replies that name a sheet are those to what is asked of it
abbrev pub EachSheetIsAlone : Type 0
EachSheetIsAlone = (db : Database) (options : Options) (name : Name) (ls : List (List ℕ)) (ds : List Data) → IsSession db options ls ds
    → AreRepliesOn db options name None (actions_on name ls) (replies_on name ds)

-- two replies to one action on one text are the same
abbrev pub RepliesAreOne : Type 0
RepliesAreOne = (db : Database) (options : Options) (name : Name) (sheet : Option (List ℕ)) (asked : Action) (d e : Data) → IsOpened options.kinds db
    → IsReply db options name sheet asked d → IsReply db options name sheet asked e → d ≡ e

-- two sessions that ask the same of a sheet get the same replies that name it
abbrev pub OtherSheetsChangeNothing : Type 0
OtherSheetsChangeNothing = (db : Database) (options : Options) (name : Name) (ls ms : List (List ℕ)) (ds es : List Data) → IsOpened options.kinds db
    → IsSession db options ls ds → IsSession db options ms es → actions_on name ls ≡ actions_on name ms → replies_on name ds ≡ replies_on name es
