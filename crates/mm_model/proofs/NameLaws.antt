-- The number of a name that stands in a list of distinct names.
use Rattle.std.proofs.Common.{◌≡◌, ◌<◌, ℕ, List, [], length, Some, None, cond, option_map, refl, sym, ap, ◌∙◌, arith, get_or, nat_lt}
use Rattle.std.specs.List.{position, position_or_len}
use Rattle.std.specs.Str.{bytes_eq}
use Rattle.std.proofs.lemmas.Bool.{lt-ltb, false_from_ne_true}
use Rattle.std.proofs.lemmas.List.Sums.{position_or_len_is}
use Rattle.std.proofs.lemmas.Option.{slice_get-get_or}
use Rattle.std.proofs.lemmas.Slice.Eq.{bytes_eq-Decides}
use Rattle.mm_model.specs.Names.{Name, sym as symbol, label, symbol_named, label_named}
use Rattle.mm_model.specs.BookFacts.{NamesDiffer}

abbrev name_at : List Name → ℕ → Name
name_at names k = get_or names k []

-- it is found at its own place
own_place : (names : List Name) → NamesDiffer names → (k : ℕ) → k < length names → position_or_len (bytes_eq (name_at names k)) names ≡ k
own_place names differ k l =
    position_or_len_is (bytes_eq (name_at names k)) names k [] (omega (arith, l))
    (λ j less. false_from_ne_true (bytes_eq (name_at names k) (name_at names j)) (λ e.
    let same : name_at names k ≡ name_at names j = (bytes_eq-Decides (name_at names k) (name_at names j)).0 e in
    let place : k ≡ j = differ k j (name_at names k) (slice_get-get_or names k [] l) (slice_get-get_or names j [] (omega (arith, l, less)) ∙ ap (λ n. Some n) (sym same)) in
    let bad : ⊥ = omega (arith, place, less) in
    bad))
    (λ h. (bytes_eq-Decides (name_at names k) (name_at names k)).1 refl)

own_position : (names : List Name) → NamesDiffer names → (k : ℕ) → k < length names → position (bytes_eq (name_at names k)) names ≡ Some k
own_position names differ k l =
    ap (λ (n : ℕ). cond (nat_lt n (length names)) (Some n) None) (own_place names differ k l) ∙ ap (λ b. cond b (Some k) None) (lt-ltb k (length names) l)

-- the name of a symbol, or of a label, leads back to it
pub symbol_back : (names : List Name) → NamesDiffer names → (k : ℕ) → k < length names → symbol_named names (name_at names k) ≡ Some (symbol k)
symbol_back names differ k l = ap (option_map symbol) (own_position names differ k l)

pub label_back : (names : List Name) → NamesDiffer names → (k : ℕ) → k < length names → label_named names (name_at names k) ≡ Some (label k)
label_back names differ k l = ap (option_map label) (own_position names differ k l)
