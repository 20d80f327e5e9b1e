-- Slots that stand in a text twice.
use Rattle.std.specs.Prelude.{◌≡◌, ◌≤◌, ◌-◌, ◌==◌, ◌||◌, ℕ, true, false, List, [], ◌∷◌, length, take, drop, nat_eq, refl}
use Rattle.std.specs.List.{list_any}
use Rattle.std.proofs.Common.{arith, sym, ap, ◌∙◌, get_or, cond}
use Rattle.std.proofs.lemmas.List.{take_all}
use Rattle.mm_model.specs.declared.rows.Item.{Item}
use Rattle.mm_model.specs.declared.rows.Item.TheVariants.{Const, Slot}
use Rattle.mm_model.specs.Rows.{slot_order}
use Rattle.mm_model.specs.Productions.{has_repeats}
use Rattle.mm_database.specs.Productions.{is_slot}

any_slots : (k : ℕ) (items : List Item) → list_any (is_slot k) items ≡ list_any (nat_eq k) (slot_order items)
any_slots k [] = refl
any_slots k (Const s ∷ items) = any_slots k items
any_slots k (Slot j ∷ items) = ap (λ b. (k == j) || b) (any_slots k items)

pub first_of : {X : Type 0} (left : List X) (d x : X) → 1 ≤ length left → get_or left 0 d ≡ x → left ≡ x ∷ take (length left - 1) (drop 1 left)
first_of [] d x l e = absurd (omega arith)
first_of (y ∷ ys) d x l e = ap (λ z. z ∷ ys) e ∙ ap (λ zs. x ∷ zs) (sym (take_all (length (y ∷ ys) - 1) ys (omega arith)))

-- the slot in front stands behind it too
pub slot_repeated : (left : List Item) (d : Item) (k : ℕ) → 1 ≤ length left → get_or left 0 d ≡ Slot k
    → list_any (is_slot k) (take (length left - 1) (drop 1 left)) ≡ true → has_repeats (slot_order left) ≡ true
slot_repeated left d k l e any =
    let rest = slot_order (take (length left - 1) (drop 1 left)) in
    ap (λ items. has_repeats (slot_order items)) (first_of left d (Slot k) l e)
    ∙ ap (λ b. cond b true (has_repeats rest)) (sym (any_slots k (take (length left - 1) (drop 1 left))) ∙ any)

-- it does not
pub slot_new : (left : List Item) (d : Item) (k : ℕ) → 1 ≤ length left → get_or left 0 d ≡ Slot k → list_any (is_slot k) (take (length left - 1) (drop 1 left)) ≡ false
    → has_repeats (slot_order left) ≡ has_repeats (slot_order (take (length left - 1) (drop 1 left)))
slot_new left d k l e any =
    let rest = slot_order (take (length left - 1) (drop 1 left)) in
    ap (λ items. has_repeats (slot_order items)) (first_of left d (Slot k) l e)
    ∙ ap (λ b. cond b true (has_repeats rest)) (sym (any_slots k (take (length left - 1) (drop 1 left))) ∙ any)

-- a constant in front
pub const_passed : (left : List Item) (d x : Item) → 1 ≤ length left → get_or left 0 d ≡ x → slot_order (x ∷ []) ≡ []
    → has_repeats (slot_order left) ≡ has_repeats (slot_order (take (length left - 1) (drop 1 left)))
const_passed left d (Const s) l e none = ap (λ items. has_repeats (slot_order items)) (first_of left d (Const s) l e)
const_passed left d (Slot k) l e none = absurd (cc)
