-- Where items lead whose first is a slot.
use Rattle.std.specs.Prelude.{◌≡◌, ℕ, List, ◌∷◌, Some, slice_get}
use Rattle.std.proofs.Common.{sym, ◌∙◌, subst}
use Rattle.mm_base.specs.declared.symbols.Typecode.{Typecode}
use Rattle.mm_model.specs.declared.rows.Item.{Item}
use Rattle.mm_model.specs.declared.rows.Item.TheVariants.{Slot}
use Rattle.mm_model.specs.declared.rows.Leaf.{Leaf}
use Rattle.formula_parse.specs.declared.reach.Entry.{Entry}
use Rattle.formula_parse.specs.declared.reach.Ends.{Ends}
use Rattle.formula_parse.specs.Charts.{IsEntry, CanLead, Reaches}
use Rattle.formula_parse.specs.Ends.{IsAmong}
use Rattle.formula_parse.proofs.Lists.{can_of}

-- the slot's end is one of those that were found, and the rest leads on from there
pub slot_among : (leaves : List Leaf) (chart : List (List Entry)) (slots : List Typecode) (items rest : List Item) (k : ℕ) (code : Typecode) (q e : ℕ)
    (ends : Ends)
    → items ≡ Slot k ∷ rest → slice_get slots k ≡ Some code
    → ((m : ℕ) → IsEntry chart q m code → CanLead leaves rest m → IsAmong ends m) → Reaches leaves chart slots items q e → (m : ℕ) × IsAmong ends m × Reaches leaves chart slots rest m e
slot_among leaves chart slots items rest k code q e ends split slot found r =
    let at = subst (λ xs. Reaches leaves chart slots xs q e) split r in
    let same : at.1 ≡ code = (let a = sym at.2 ∙ slot in cc) in
    (at.0, found at.0 (subst (λ d. IsEntry chart q at.0 d) same at.3) (can_of leaves chart slots rest at.0 e at.4), at.4)
