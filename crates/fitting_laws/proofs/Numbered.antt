-- The names of numbered steps are labels and differ.
use Rattle.std.specs.Prelude.{◌≡◌, ◌<◌, ◌^◌, ◌==◌, ◌||◌, not, ℕ, suc, Bool, true, false, List, [], ◌∷◌, length, map, decimal, codes, slice_get, Option, Some, None}
use Rattle.std.specs.Prelude.{option_map, refl}
use Rattle.std.specs.List.{list_all, last_or}
use Rattle.std.specs.Str.{all_ascii_digits}
use Rattle.std.specs.Char.{is_ascii_digit}
use Rattle.std.proofs.Common.{sym, ap, subst, ◌∙◌, arith, inl, inr, cond, eqb-true, eq-eqb}
use Rattle.std.proofs.lemmas.Bool.{cases_Bool, and_parts, and_from}
use Rattle.std.proofs.lemmas.Bool.Decides.{nat_tests}
use Rattle.std.proofs.lemmas.Fmt.{decimal_injective, decimal_nonempty}
use Rattle.mm_model.specs.Labels.{is_label, is_label_byte}
use Rattle.mm_model.specs.Names.{Name, contains, has_twice}
use Rattle.sheet_text.specs.Forms.{marked_name}
use Rattle.work_vars.proofs.NameLaws.{decimal_digits}
use Rattle.push_laws.proofs.ActiveHyps.{contains_in}
use Rattle.again_laws.proofs.Lists.{contains_get}
use Rattle.fitting_laws.specs.FitsAsWritten.{numbered_name}

digits_label : (bs : List ℕ) → all_ascii_digits bs ≡ true → list_all is_label_byte bs ≡ true
digits_label [] e = refl
digits_label (c ∷ cs) e =
    let both = and_parts (is_ascii_digit c) (all_ascii_digits cs) e in
    let digit : is_ascii_digit c ≡ true = both.0 in
    let one : is_label_byte c ≡ true = rw digit refl in
    and_from (is_label_byte c) (list_all is_label_byte cs) one (digits_label cs both.1)

-- a step's name, without a leading `h`
pub record IsGoodName (n : Name) : Type 0 where
  pub label : is_label n ≡ true
  pub unmarked : (marked_name n).0 ≡ false

digits_good : (bs : List ℕ) → 0 < length bs → all_ascii_digits bs ≡ true → IsGoodName bs
digits_good [] l e = absurd (omega (arith, l))
digits_good (c ∷ cs) l e =
    let both = and_parts (is_ascii_digit c) (all_ascii_digits cs) e in
    let some : (suc (length cs) == 0) ≡ false = grind (arith, nat_tests) in
    record {
      label = and_from (not (length (c ∷ cs) == 0)) (list_all is_label_byte (c ∷ cs)) (ap not some) (digits_label (c ∷ cs) e);
      unmarked = (let other = no_h c both.0 in ap (λ b. (let p : Bool × List ℕ = cond b (true, cs) (false, c ∷ cs) in p).0) other);
    }
  where
    no_h : (b : ℕ) → is_ascii_digit b ≡ true → (b == 104) ≡ false
    no_h b d = elim (cases_Bool (b == 104)) [
      | inl y ↦ let same : b ≡ 104 = eqb-true b 104 y in let bad : is_ascii_digit 104 ≡ true = subst (λ n. is_ascii_digit n ≡ true) same d in absurd (clash bad)
      | inr n ↦ n
    ]
      where
        clash : false ≡ true → ⊥
        clash q = cc

decimal_good : (n : ℕ) → n < 2 ^ 64 → IsGoodName (decimal n)
decimal_good n l = digits_good (decimal n) (decimal_nonempty n l) (decimal_digits n l)

no_qed : (n : ℕ) → n < 2 ^ 64 → decimal n ≡ codes "qed" → ⊥
no_qed n l e = let bad : all_ascii_digits (codes "qed") ≡ true = subst (λ bs. all_ascii_digits bs ≡ true) e (decimal_digits n l) in clash bad
  where
    clash : false ≡ true → ⊥
    clash q = cc

pub numbered_good : (count i : ℕ) → count < 2 ^ 64 → i < count → IsGoodName (numbered_name count i)
numbered_good count i small less = by (suc i == count)
  where
    by : (b : Bool) → IsGoodName (cond b (codes "qed") (decimal (suc i)))
    by true = record { label = refl; unmarked = refl }
    by false = decimal_good (suc i) (omega (arith, small, less))

-- the last is `qed`, and no other
pub numbered_last : (count i : ℕ) → suc i ≡ count → numbered_name count i ≡ codes "qed"
numbered_last count i e = ap (λ b. cond b (codes "qed") (decimal (suc i))) (eq-eqb (suc i) count e)

pub numbered_qed : (count i : ℕ) → count < 2 ^ 64 → i < count → numbered_name count i ≡ codes "qed" → suc i ≡ count
numbered_qed count i small less = by (suc i == count) refl
  where
    by : (b : Bool) → (suc i == count) ≡ b → cond b (codes "qed") (decimal (suc i)) ≡ codes "qed" → suc i ≡ count
    by true e q = eqb-true (suc i) count e
    by false e q = absurd (no_qed (suc i) (omega (arith, small, less)) q)

pub numbered_differ : (count i j : ℕ) → count < 2 ^ 64 → i < count → j < count → numbered_name count i ≡ numbered_name count j → i ≡ j
numbered_differ count i j small li lj = by (suc i == count) refl (suc j == count) refl
  where
    by : (b : Bool) → (suc i == count) ≡ b → (c : Bool) → (suc j == count) ≡ c → cond b (codes "qed") (decimal (suc i)) ≡ cond c (codes "qed") (decimal (suc j)) → i ≡ j
    by true e true f q = let x = eqb-true (suc i) count e in let y = eqb-true (suc j) count f in omega (arith, x, y)
    by true e false f q = absurd (no_qed (suc j) (omega (arith, small, lj)) (sym q))
    by false e true f q = absurd (no_qed (suc i) (omega (arith, small, li)) q)
    by false e false f q = let same = decimal_injective (suc i) (suc j) (omega (arith, small, li)) (omega (arith, small, lj)) q in omega (arith, same)

-- names that differ by their places
pub none_twice : (xs : List Name) → ((i j : ℕ) (x : Name) → slice_get xs i ≡ Some x → slice_get xs j ≡ Some x → i ≡ j) → has_twice xs ≡ false
none_twice [] d = refl
none_twice (x ∷ xs) d = elim (cases_Bool (contains xs x)) [
  | inl y ↦ let at = contains_get xs x (contains_in xs x y) in let bad : 0 ≡ suc at.0 = d 0 (suc at.0) x refl at.1 in absurd (omega (arith, bad))
  | inr n ↦ ap (λ b. b || has_twice xs) n ∙ none_twice xs (λ i j y p q. let r : suc i ≡ suc j = d (suc i) (suc j) y p q in omega (arith, r))
]

-- the last of a list, by its place
pub last_at : {X : Type 0} (o : Option X) (xs : List X) (x : X) → last_or o xs ≡ Some x → (o ≡ Some x → ⊥) → (k : ℕ) × (suc k ≡ length xs) × (slice_get xs k ≡ Some x)
last_at o [] x e no_ = absurd (no_ e)
last_at o (y ∷ []) x e no_ = (0, refl, e)
last_at o (y ∷ z ∷ zs) x e no_ = let r = last_more z zs x e in let long = r.1 in (suc r.0, omega (arith, long), r.2)
  where
    last_more : {Y : Type 0} (z : Y) (zs : List Y) (x : Y) → last_or (Some z) zs ≡ Some x → (k : ℕ) × (suc k ≡ length (z ∷ zs)) × (slice_get (z ∷ zs) k ≡ Some x)
    last_more z [] x e = (0, refl, e)
    last_more z (w ∷ ws) x e = let r = last_more w ws x e in let long = r.1 in (suc r.0, omega (arith, long), r.2)

pub last_map : {X Y : Type 0} (f : X → Y) (xs : List X) (x : X) → last_or None xs ≡ Some x → last_or None (map f xs) ≡ Some (f x)
last_map {X = X} f [] x e = absurd cc
last_map {X = X} f (y ∷ xs) x e = go y xs e
  where
    go : (z : X) (zs : List X) → last_or (Some z) zs ≡ Some x → last_or (Some (f z)) (map f zs) ≡ Some (f x)
    go z [] q = ap (λ o. option_map f o) q
    go z (w ∷ ws) q = go w ws q
