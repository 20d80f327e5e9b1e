-- The requests of an editor session: objects of JSON, each on a line of its own.
use Rattle.std.specs.Prelude.{ℕ, Bool, List, [], ◌∷◌, find, if◌then◌else◌, Option, Some, None, option_map, option_and_then, codes}
use Rattle.std.specs.Cmp.Lexicographic.{pointwise}
use Rattle.std.specs.List.{list_all}
use Rattle.std.specs.Option.{option_map_or}
use Rattle.std.specs.Str.{bytes_eq, is_utf8}
use Rattle.edit_model.specs.declared.request.Action.{Action}
use Rattle.edit_model.specs.declared.request.Action.TheVariants as action
use Rattle.edit_model.specs.declared.request.Request.{Request}
use Rattle.edit_model.specs.declared.request.Request.TheVariants as request
use Rattle.mm_model.specs.Names.{Name}
use Rattle.mm_model.specs.Words.{is_white}
use Rattle.serde_json.specs.Data.{Data, Members, no_members, member}
use Rattle.serde_json.specs.Find.{get, as_str, as_number, as_u64, as_object}
use Rattle.serde_json.specs.Read.{read}

-- ---- the members of a value

abbrev pub member_keys : Members → List Name
member_keys no_members = []
member_keys (member key value more) = key ∷ member_keys more

-- the keys of an object, in order
abbrev pub keys_of : Data → List Name
keys_of d = option_map_or member_keys (as_object d) []

abbrev pub text_at : Name → Data → Option (List ℕ)
text_at key d = option_and_then as_str (get key d)

-- a whole number from 0 to 2^64 - 1
abbrev pub number_at : Name → Data → Option ℕ
number_at key d = option_and_then as_u64 (option_and_then as_number (get key d))

-- ---- the operations

-- what is asked of the sheet that the value names
abbrev pub of_sheet : (Data → Option Action) → Data → Option Request
of_sheet action_of d = option_and_then (λ name. option_map (request.Ask name) (action_of d)) (text_at (codes "name") d)

abbrev pub edit_of : Data → Option Action
edit_of d = option_and_then (λ from. option_and_then (λ to. option_map (action.Edit from to) (text_at (codes "text") d)) (number_at (codes "to") d)) (number_at (codes "from") d)

-- the name of an operation, the keys of its requests, in order, and what is read from the values of these keys
pub record Operation : Type 0 where
  pub name : Name
  pub keys : List Name
  pub reads : Data → Option Request

abbrev pub operation : Name → List Name → (Data → Option Request) → Operation
operation name keys reads = record { name = name; keys = keys; reads = reads }

abbrev pub open_operation : Operation
open_operation = operation (codes "open") (codes "name" ∷ codes "op" ∷ codes "text" ∷ []) (of_sheet (λ d. option_map action.Open (text_at (codes "text") d)))

abbrev pub edit_operation : Operation
edit_operation = operation (codes "edit") (codes "from" ∷ codes "name" ∷ codes "op" ∷ codes "text" ∷ codes "to" ∷ []) (of_sheet edit_of)

abbrev pub close_operation : Operation
close_operation = operation (codes "close") (codes "name" ∷ codes "op" ∷ []) (of_sheet (λ d. Some action.Close))

abbrev pub unify_operation : Operation
unify_operation = operation (codes "unify") (codes "name" ∷ codes "op" ∷ []) (of_sheet (λ d. Some action.Unify))

abbrev pub suggest_operation : Operation
suggest_operation = operation (codes "suggest") (codes "name" ∷ codes "op" ∷ codes "step" ∷ []) (of_sheet (λ d. option_map action.Suggest (text_at (codes "step") d)))

abbrev pub quit_operation : Operation
quit_operation = operation (codes "quit") (codes "op" ∷ []) (λ d. Some request.Quit)

abbrev pub operations : List Operation
operations = open_operation ∷ edit_operation ∷ close_operation ∷ unify_operation ∷ suggest_operation ∷ quit_operation ∷ []

-- ---- requests

-- the value is an object with the keys of the operation and no other
abbrev pub has_keys : Operation → Data → Bool
has_keys o d = pointwise bytes_eq o.keys (keys_of d)

abbrev pub request_by : Operation → Data → Option Request
request_by o d = if has_keys o d then o.reads d else None

abbrev pub operation_named : Name → Option Operation
operation_named name = find (λ (o : Operation). bytes_eq name o.name) operations

-- the request that a value is, if it is one
abbrev pub request_of : Data → Option Request
request_of d = option_and_then (λ (o : Operation). request_by o d) (option_and_then operation_named (text_at (codes "op") d))

-- the request that a line is, if it is one. Of equal keys in an object the last counts
abbrev pub request_in : List ℕ → Option Request
request_in line = if is_utf8 line then option_and_then request_of (read line) else None

-- a line of white space alone is passed over
abbrev pub is_blank : List ℕ → Bool
is_blank line = list_all is_white line
