-- A list of texts has no number.
use Rattle.std.proofs.Common.{◌≡◌, ℕ, false, List, [], ◌∷◌, map, refl}
use Rattle.edit_model.specs.Sessions.{text_of}
use Rattle.serde_json.specs.View.{items_of}
use Rattle.serde_json.specs.Written.{items_have_float}

pub no_float : (texts : List (List ℕ)) → items_have_float (items_of (map text_of texts)) ≡ false
no_float [] = refl
no_float (bytes ∷ more) = no_float more
