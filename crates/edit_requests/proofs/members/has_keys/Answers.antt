use Rattle.std.proofs.Common.{sym, ap, ◌∙◌, map}
use Rattle.std.specs.Cmp.Lexicographic.{pointwise}
use Rattle.std.specs.Str.{bytes_eq}
use Rattle.serde_json.specs.View.{view}
use Rattle.edit_requests.proofs.MemberKeys.{keys_seen}
use Rattle.edit_requests.proofs.members.has_keys.Goals as goal

pub returns-in-Some : goal.returns-in-Some
returns-in-Some c =
    c.are_keys.ensures ∙ ap (λ ks. pointwise bytes_eq (map (λ name. name.now) c.args.names.now) ks) (sym (keys_seen (view c.args.value.now) c.in-Some.object.now c.in-Some.ensures))
