-- Lists that grow, element by element.
use Rattle.std.specs.Prelude.{◌≡◌, ◌<◌, ◌≤◌, ◌+◌, ◌++◌, ◌⊎◌, ℕ, zero, suc, List, [], ◌∷◌, length, Some, slice_get, refl}
use Rattle.std.proofs.Common.{arith, ap, ◌∙◌, subst, ⊎_elim, inl, inr}
use Rattle.std.proofs.lemmas.Bool.{cases_lt}
use Rattle.mm_base.specs.declared.symbols.Typecode.{Typecode}
use Rattle.mm_model.specs.declared.rows.Item.{Item}
use Rattle.mm_model.specs.declared.rows.Item.TheVariants.{Const, Slot}
use Rattle.mm_model.specs.declared.rows.Leaf.{Leaf}
use Rattle.formula_parse.specs.declared.reach.Entry.{Entry}
use Rattle.formula_parse.specs.Charts.{IsIn, Stays, CanLead, Reaches}
use Rattle.formula_parse.proofs.Places.{some_at}

pub stays_refl : {X : Type 0} (xs : List X) → Stays xs xs
stays_refl xs j x e = e

pub stays_then : {X : Type 0} (xs ys zs : List X) → Stays xs ys → Stays ys zs → Stays xs zs
stays_then xs ys zs h k j x e = k j x (h j x e)

pub stays_in : {X : Type 0} (xs ys : List X) → Stays xs ys → (x : X) → IsIn xs x → IsIn ys x
stays_in xs ys h x i = (i.0, h i.0 x i.1)

-- what stands early in the longer list stood in the shorter one
pub stays_back : {X : Type 0} (xs ys : List X) → Stays xs ys → (j : ℕ) → j < length xs → (x : X) → slice_get ys j ≡ Some x → slice_get xs j ≡ Some x
stays_back xs ys h j l x e =
    let at = some_at xs j l in
    let there = h j at.0 at.1 in
    let same : at.0 ≡ x = cc in
    at.1 ∙ ap (λ y. Some y) same

-- one more at the end
pub stays_pushed : {X : Type 0} (xs : List X) (y : X) → Stays xs (xs ++ y ∷ [])
stays_pushed [] y j x e = absurd cc
stays_pushed (z ∷ xs) y zero x e = e
stays_pushed (z ∷ xs) y (suc j) x e = stays_pushed xs y j x e

pub last_pushed : {X : Type 0} (xs : List X) (y : X) → slice_get (xs ++ y ∷ []) (length xs) ≡ Some y
last_pushed [] y = refl
last_pushed (z ∷ xs) y = last_pushed xs y

-- an item of a longer list is one of the list or the new one
pub last_or : {X : Type 0} (xs : List X) (y : X) (i : ℕ) (x : X) → slice_get (xs ++ y ∷ []) i ≡ Some x → (slice_get xs i ≡ Some x) ⊎ ((i ≡ length xs) × (x ≡ y))
last_or [] y zero x e = let same : x ≡ y = cc in inr (refl, same)
last_or [] y (suc i) x e = absurd cc
last_or (z ∷ xs) y zero x e = inl e
last_or (z ∷ xs) y (suc i) x e = elim (last_or xs y i x e) [ inl h ↦ inl h | inr h ↦ inr (ap (λ (m : ℕ). suc m) h.0, h.1) ]

-- at a place below the next: before it, or at it
pub at_turn : {X : Type 0} (P : X → Type 0) (xs : List X) (n : ℕ) (x : X) → slice_get xs n ≡ Some x → ((j : ℕ) (y : X) → j < n → slice_get xs j ≡ Some y → P y) → P x
    → (j : ℕ) (y : X) → j < n + 1 → slice_get xs j ≡ Some y → P y
at_turn P xs n x at before here j y l e = ⊎_elim (λ (i : j < n). before j y i e)
    (λ (i : n ≤ j).
    let is : j ≡ n = omega arith in
    let there : slice_get xs n ≡ Some y = subst (λ k. slice_get xs k ≡ Some y) is e in
    let same : x ≡ y = cc in
    subst P same here) (cases_lt j n)

-- where the items lead, they can begin
pub can_of : (leaves : List Leaf) (chart : List (List Entry)) (slots : List Typecode) (items : List Item) (q e : ℕ) → Reaches leaves chart slots items q e → CanLead leaves items q
can_of leaves chart slots [] q e h = tt
can_of leaves chart slots (Const s ∷ items) q e h = h.0
can_of leaves chart slots (Slot k ∷ items) q e h = tt
