-- Values and the requests that they are, computed.
use Rattle.std.specs.Prelude.{◌≡◌, true, false, List, ℕ, [], ◌∷◌, map, Some, None, codes, refl}
use Rattle.edit_model.specs.declared.request.Action.TheVariants as action
use Rattle.edit_model.specs.declared.request.Request.TheVariants as request
use Rattle.edit_model.specs.Requests.{request_of, is_blank}
use Rattle.serde_json.specs.Data.{Data, null, number, string, array, object, unsigned, no_items, no_members, member}

-- an operation on the sheet `a`, with a further key, or with none
abbrev with_key : List ℕ → List ℕ → Data → Data
with_key op key value = object (member (codes "name") (string (codes "a")) (member (codes "op") (string op) (member key value no_members)))

abbrev plain : List ℕ → Data
plain op = object (member (codes "name") (string (codes "a")) (member (codes "op") (string op) no_members))

abbrev alone : List ℕ → Data
alone op = object (member (codes "op") (string op) no_members)

abbrev edit_from : Data → Data
edit_from from = object (member (codes "from") from (member (codes "name") (string (codes "a")) (member (codes "op") (string (codes "edit"))
    (member (codes "text") (string (codes "1,2")) (member (codes "to") (number (unsigned 85)) no_members)))))

pub each_operation : map request_of (with_key (codes "open") (codes "text") (string (codes "$)")) ∷ edit_from (number (unsigned 84)) ∷ plain (codes "close") ∷ plain (codes "unify")
    ∷ with_key (codes "suggest") (codes "step") (string (codes "qed")) ∷ alone (codes "quit") ∷ [])
    ≡ Some (request.Ask (codes "a") (action.Open (codes "$)"))) ∷ Some (request.Ask (codes "a") (action.Edit 84 85 (codes "1,2"))) ∷ Some (request.Ask (codes "a") action.Close)
    ∷ Some (request.Ask (codes "a") action.Unify) ∷ Some (request.Ask (codes "a") (action.Suggest (codes "qed"))) ∷ Some request.Quit ∷ []
each_operation = refl

-- a number that is a text; a text that is none; a key too few; one too many; no such operation; no operation; an array; null
pub no_request : map request_of (edit_from (string (codes "84")) ∷ with_key (codes "open") (codes "text") null ∷ plain (codes "open") ∷ plain (codes "quit") ∷ plain (codes "save") ∷ object no_members
    ∷ array no_items ∷ null ∷ []) ≡ None ∷ None ∷ None ∷ None ∷ None ∷ None ∷ None ∷ None ∷ []
no_request = refl

pub blank : map is_blank ([] ∷ (32 ∷ 9 ∷ 12 ∷ 13 ∷ []) ∷ codes " x" ∷ []) ≡ true ∷ true ∷ false ∷ []
blank = refl
