-- Parts of a text.
use Rattle.std.specs.Prelude.{◌≡◌, ◌≤◌, ◌+◌, ◌-◌, ℕ, zero, suc, List, [], ◌∷◌, length, take, drop, Some, slice_get, refl}
use Rattle.std.proofs.Common.{arith, sym, ap, ◌∙◌, zero-add}
use Rattle.std.proofs.lemmas.List.{length-take, length-drop, drop-take, take_all}
use Rattle.std.proofs.Math.Seq.{drop-nil}
use Rattle.mm_model.specs.declared.rows.Leaf.{Leaf}
use Rattle.formula_parse.specs.Charts.{span}

pub take_take_le : {X : Type 0} (n m : ℕ) (xs : List X) → n ≤ m → take n (take m xs) ≡ take n xs
take_take_le zero m xs l = refl
take_take_le (suc n) zero xs l = absurd (omega arith)
take_take_le (suc n) (suc m) [] l = refl
take_take_le (suc n) (suc m) (x ∷ xs) l = ap (λ ys. x ∷ ys) (take_take_le n m xs (omega arith))

pub drop_drop_add : {X : Type 0} (m n : ℕ) (xs : List X) → drop n (drop m xs) ≡ drop (m + n) xs
drop_drop_add zero n xs = ap (λ k. drop k xs) (sym (zero-add n))
drop_drop_add (suc m) n [] = drop-nil n ∙ sym (drop-nil (suc m + n))
drop_drop_add (suc m) n (x ∷ xs) =
    let k : suc m + n ≡ suc (m + n) = omega arith in
    drop_drop_add m n xs ∙ sym (ap (λ i. drop i (x ∷ xs)) k)

pub taken_first : {X : Type 0} (n b : ℕ) (x : X) (ys xs : List X) → take n (drop b xs) ≡ x ∷ ys → slice_get xs b ≡ Some x
taken_first zero b x ys xs e = absurd (omega (arith, ap length e))
taken_first (suc n) zero x ys [] e = absurd (omega (arith, ap length e))
taken_first (suc n) zero x ys (z ∷ xs) e = (let same : z ≡ x = (let a = e in cc) in ap (λ y. Some y) same)
taken_first (suc n) (suc b) x ys [] e = absurd (omega (arith, ap length e))
taken_first (suc n) (suc b) x ys (z ∷ xs) e = taken_first (suc n) b x ys xs e

pub drop_at_cons : {X : Type 0} (b : ℕ) (x : X) (xs : List X) → slice_get xs b ≡ Some x → drop b xs ≡ x ∷ drop (b + 1) xs
drop_at_cons b x [] e = absurd (cc)
drop_at_cons zero x (z ∷ xs) e = (let same : z ≡ x = (let a = e in cc) in ap (λ y. y ∷ xs) same)
drop_at_cons (suc b) x (z ∷ xs) e =
    let k : suc b + 1 ≡ suc (b + 1) = omega arith in
    drop_at_cons b x xs e ∙ ap (λ ys. x ∷ ys) (sym (ap (λ i. drop i (z ∷ xs)) k))

module _ (leaves : List Leaf) where
  pub span_length : (b e : ℕ) → b ≤ e → e ≤ length leaves → length (span leaves b e) ≡ e - b
  span_length b e l m = omega (arith, length-take (e - b) (drop b leaves), length-drop b leaves)

  pub span_take : (b e n : ℕ) → b + n ≤ e → take n (span leaves b e) ≡ span leaves b (b + n)
  span_take b e n l =
      let k : b + n - b ≡ n = omega arith in
      take_take_le n (e - b) (drop b leaves) (omega arith) ∙ ap (λ i. take i (drop b leaves)) (sym k)

  pub span_drop : (b e n : ℕ) → b + n ≤ e → drop n (span leaves b e) ≡ span leaves (b + n) e
  span_drop b e n l =
      let k : e - b ≡ n + (e - (b + n)) = omega arith in
      ap (λ i. drop n (take i (drop b leaves))) k ∙ drop-take n (e - (b + n)) (drop b leaves) ∙ ap (take (e - (b + n))) (drop_drop_add b n leaves)

  pub span_empty : (b e : ℕ) → b ≤ e → e ≤ length leaves → span leaves b e ≡ [] → b ≡ e
  span_empty b e l m is = omega (arith, span_length b e l m, ap length is)

  pub span_front : (b e : ℕ) (x : Leaf) (xs : List Leaf) → b ≤ e → e ≤ length leaves → span leaves b e ≡ x ∷ xs → b + 1 ≤ e
  span_front b e x xs l m is = omega (arith, span_length b e l m, ap length is)

  -- the first leaf of a part
  pub span_first : (b e : ℕ) (x : Leaf) (xs : List Leaf) → span leaves b e ≡ x ∷ xs → slice_get leaves b ≡ Some x
  span_first b e x xs is = taken_first (e - b) b x xs leaves is

  -- the other leaves of a part
  pub span_rest : (b e : ℕ) (x : Leaf) (xs : List Leaf) → b + 1 ≤ e → span leaves b e ≡ x ∷ xs → xs ≡ span leaves (b + 1) e
  span_rest b e x xs l is = ap (drop 1) (sym is) ∙ span_drop b e 1 l

  -- the part as a cons
  pub span_cons : (b e : ℕ) (x : Leaf) → b + 1 ≤ e → slice_get leaves b ≡ Some x → span leaves b e ≡ x ∷ span leaves (b + 1) e
  span_cons b e x l is =
      let k : e - b ≡ suc (e - (b + 1)) = omega arith in
      ap (λ i. take i (drop b leaves)) k ∙ ap (take (suc (e - (b + 1)))) (drop_at_cons b x leaves is)

  pub span_whole : span leaves 0 (length leaves) ≡ leaves
  span_whole =
      let k : length leaves - 0 ≡ length leaves = omega arith in
      ap (λ i. take i leaves) k ∙ take_all (length leaves) leaves (omega arith)
