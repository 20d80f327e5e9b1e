-- Elements of lists by their places.
use Rattle.std.specs.Prelude.{◌≡◌, ◌<◌, ◌≤◌, ◌-◌, take, drop, ℕ, zero, suc, List, [], ◌∷◌, length, map, Option, Some, slice_get, refl}
use Rattle.std.specs.Option.{option_map}
use Rattle.std.proofs.lemmas.List.{take_all}
use Rattle.std.proofs.Common.{arith, sym, ap, ◌∙◌, get_or, subst}
use Rattle.std.proofs.lemmas.Option.{slice_get-map, get_or_from_slice_get}
use Rattle.mm_base.specs.declared.tree.Tree.{Tree}
use Rattle.mm_base.specs.Trees.{Each}

pub some_at : {X : Type 0} (xs : List X) (k : ℕ) → k < length xs → (x : X) × (slice_get xs k ≡ Some x)
some_at [] k h = absurd (omega arith)
some_at (x ∷ xs) zero h = (x, refl)
some_at (x ∷ xs) (suc k) h = some_at xs k (omega arith)

-- a fact of each tree, at a place
pub each_get : (P : Tree → Type 0) (ts : List Tree) → Each P ts → (k : ℕ) (t : Tree) → slice_get ts k ≡ Some t → P t
each_get P [] h k t e = absurd (cc)
each_get P (x ∷ ts) h zero t e = let same : x ≡ t = cc in subst P same h.0
each_get P (x ∷ ts) h (suc k) t e = each_get P ts h.1 k t e

-- a fact at each place is one of each tree
pub each_from : (P : Tree → Type 0) (ts : List Tree) → ((k : ℕ) (t : Tree) → slice_get ts k ≡ Some t → P t) → Each P ts
each_from P [] h = tt
each_from P (x ∷ ts) h = (h 0 x refl, each_from P ts (λ k t e. h (suc k) t e))

-- lists of one length are equal where what stands in the one stands in the other
pub same_by_get : {X : Type 0} (xs ys : List X) → length xs ≡ length ys → ((k : ℕ) (x : X) → slice_get xs k ≡ Some x → slice_get ys k ≡ Some x) → xs ≡ ys
same_by_get [] [] e h = refl
same_by_get [] (y ∷ ys) e h = absurd (omega arith)
same_by_get (x ∷ xs) [] e h = absurd (omega arith)
same_by_get (x ∷ xs) (y ∷ ys) e h =
    let first : ◌≡◌ {A = Option _} (Some y) (Some x) = h 0 x refl in
    let rest = same_by_get xs ys (omega arith) (λ k z i. h (suc k) z i) in
    cc

-- a mapped list, at a place
pub get_or_mapped : {X Y : Type 0} (f : X → Y) (xs : List X) (k : ℕ) (x : X) (d : Y) → slice_get xs k ≡ Some x → get_or (map f xs) k d ≡ f x
get_or_mapped f xs k x d e = get_or_from_slice_get (map f xs) k (f x) d (slice_get-map f xs k ∙ ap (option_map f) e)

pub slice_get_mapped : {X Y : Type 0} (f : X → Y) (xs : List X) (k : ℕ) (x : X) → slice_get xs k ≡ Some x → slice_get (map f xs) k ≡ Some (f x)
slice_get_mapped f xs k x e = slice_get-map f xs k ∙ ap (option_map f) e

-- a list is its first element and the rest, as a pattern on a slice has it
pub cons_of : {X : Type 0} (xs : List X) (d x : X) → 1 ≤ length xs → get_or xs 0 d ≡ x → xs ≡ x ∷ take (length xs - 1) (drop 1 xs)
cons_of [] d x l e = absurd (omega arith)
cons_of (y ∷ ys) d x l e =
    let rest = take_all (length (y ∷ ys) - 1) ys (omega arith) in
    ap (λ z. z ∷ ys) e ∙ ap (λ zs. x ∷ zs) (sym rest)
