-- The keys of an object, as its map has them and as its members do.
use Rattle.std.proofs.Common.{◌≡◌, List, [], ◌∷◌, map, Some, String, Global, BTreeMap, string_bytes, refl, sym, ap, ◌∙◌}
use Rattle.std.specs.BTreeMap.{keys}
use Rattle.std.specs.Option.{option_map_or}
use Rattle.edit_model.specs.Requests.{member_keys, keys_of}
use Rattle.serde_json.specs.Data.{Data}
use Rattle.serde_json.specs.Find.{as_object}
use Rattle.serde_json.specs.View.{members_view}
use Rattle.serde_json.specs.declared.value.Value.{Value}

keys_in_order : (es : List (String Global × Value)) → member_keys (members_view es) ≡ map string_bytes (map (λ e. e.0) es)
keys_in_order [] = refl
keys_in_order (e ∷ es) = ap (λ ks. string_bytes e.0 ∷ ks) (keys_in_order es)

-- the keys of a value that is seen as this map
pub keys_seen : (d : Data) (object : BTreeMap (String Global) Value) → Some (members_view object.entries) ≡ as_object d → keys_of d ≡ map string_bytes (keys object)
keys_seen d object is = ap (λ o. option_map_or member_keys o []) (sym is) ∙ keys_in_order object.entries
