-- Labels, computed.
use Rattle.std.specs.Prelude.{◌≡◌, true, false, [], ◌∷◌, codes, map, refl}
use Rattle.mm_model.specs.Labels.{is_label}

pub some_labels : map is_label (codes "ax-mp" ∷ codes "a1i.1" ∷ codes "_Z9" ∷ [] ∷ codes "a!" ∷ codes "a b" ∷ codes "?" ∷ codes "@A[`a{/0:" ∷ [])
    ≡ true ∷ true ∷ true ∷ false ∷ false ∷ false ∷ false ∷ false ∷ []
some_labels = refl
