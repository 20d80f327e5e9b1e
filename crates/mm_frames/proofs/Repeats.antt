-- Names each where it first stands, as a name is put behind them.
use Rattle.std.proofs.Common.{◌≡◌, ℕ, Bool, true, false, cond, ◌||◌, List, [], ◌∷◌, ◌++◌, refl, sym, ap, ◌∙◌, inl, inr, append-nil}
use Rattle.std.specs.Str.{bytes_eq}
use Rattle.std.proofs.lemmas.Bool.{cases_Bool}
use Rattle.std.proofs.lemmas.Slice.Eq.{bytes_eq-Decides}
use Rattle.mm_model.specs.Statements.{contains}
use Rattle.mm_model.specs.Frames.{without_repeats}
use Rattle.mm_model.proofs.Scopes.{cond_then, cond_else}

or_swap : (a b c : Bool) → ((a || b) || c) ≡ (b || (a || c))
or_swap true true c = refl
or_swap true false c = refl
or_swap false true c = refl
or_swap false false c = refl

or_known : (a b c : Bool) → (a ≡ true → b ≡ true) → (b || (a || c)) ≡ (b || c)
or_known true b c h = let e : b ≡ true = h refl in rw e refl
or_known false b c h = refl

-- what equals a name that was seen was seen
seen-too : (seen : List (List ℕ)) (n x : List ℕ) → contains seen x ≡ true → bytes_eq n x ≡ true → contains seen n ≡ true
seen-too seen n x h e = ap (λ m. contains seen m) ((bytes_eq-Decides n x).0 e) ∙ h

pub repeats-end : (seen xs : List (List ℕ)) (n : List ℕ) → without_repeats seen (xs ++ n ∷ []) ≡ without_repeats seen xs ++ cond (contains seen n || contains xs n) [] (n ∷ [])
repeats-end seen [] n = elim (contains seen n) as (λ b. cond b [] (n ∷ []) ≡ cond (b || false) [] (n ∷ [])) [ true ↦ refl | false ↦ refl ]
repeats-end seen (x ∷ xs) n =
    elim (cases_Bool (contains seen x)) [
      | inl h ↦
          cond_then (contains seen x) (without_repeats seen (xs ++ n ∷ [])) (x ∷ without_repeats (x ∷ seen) (xs ++ n ∷ [])) h
          ∙ repeats-end seen xs n
          ∙ ap (λ (b : Bool). without_repeats seen xs ++ cond b [] (n ∷ [])) (sym (or_known (bytes_eq n x) (contains seen n) (contains xs n) (λ e. seen-too seen n x h e)))
          ∙ ap (λ l. l ++ cond (contains seen n || contains (x ∷ xs) n) [] (n ∷ [])) (sym (cond_then (contains seen x) (without_repeats seen xs) (x ∷ without_repeats (x ∷ seen) xs) h))
      | inr h ↦
          cond_else (contains seen x) (without_repeats seen (xs ++ n ∷ [])) (x ∷ without_repeats (x ∷ seen) (xs ++ n ∷ [])) h
          ∙ ap (λ l. x ∷ l) (repeats-end (x ∷ seen) xs n)
          ∙ ap (λ (b : Bool). x ∷ (without_repeats (x ∷ seen) xs ++ cond b [] (n ∷ []))) (or_swap (bytes_eq n x) (contains seen n) (contains xs n))
          ∙ ap (λ l. l ++ cond (contains seen n || contains (x ∷ xs) n) [] (n ∷ [])) (sym (cond_else (contains seen x) (without_repeats seen xs) (x ∷ without_repeats (x ∷ seen) xs) h))
    ]

-- the same names stand in it
pub repeats-contains : (seen xs : List (List ℕ)) (n : List ℕ) → (contains seen n || contains (without_repeats seen xs) n) ≡ (contains seen n || contains xs n)
repeats-contains seen [] n = refl
repeats-contains seen (x ∷ xs) n =
    elim (cases_Bool (contains seen x)) [
      | inl h ↦
          ap (λ l. contains seen n || contains l n) (cond_then (contains seen x) (without_repeats seen xs) (x ∷ without_repeats (x ∷ seen) xs) h)
          ∙ repeats-contains seen xs n
          ∙ sym (or_known (bytes_eq n x) (contains seen n) (contains xs n) (λ e. seen-too seen n x h e))
      | inr h ↦
          ap (λ l. contains seen n || contains l n) (cond_else (contains seen x) (without_repeats seen xs) (x ∷ without_repeats (x ∷ seen) xs) h)
          ∙ sym (or_swap (bytes_eq n x) (contains seen n) (contains (without_repeats (x ∷ seen) xs) n))
          ∙ repeats-contains (x ∷ seen) xs n
          ∙ or_swap (bytes_eq n x) (contains seen n) (contains xs n)
    ]

-- a name that is new is put behind, one that is not changes nothing
pub repeats-new : (xs : List (List ℕ)) (n : List ℕ) → contains (without_repeats [] xs) n ≡ false → without_repeats [] xs ++ n ∷ [] ≡ without_repeats [] (xs ++ n ∷ [])
repeats-new xs n h =
    let none : contains xs n ≡ false = sym (repeats-contains [] xs n) ∙ h in
    ap (λ (b : Bool). without_repeats [] xs ++ cond b [] (n ∷ [])) (sym none) ∙ sym (repeats-end [] xs n)

pub repeats-old : (xs : List (List ℕ)) (n : List ℕ) → contains (without_repeats [] xs) n ≡ true → without_repeats [] xs ≡ without_repeats [] (xs ++ n ∷ [])
repeats-old xs n h =
    let there : contains xs n ≡ true = sym (repeats-contains [] xs n) ∙ h in
    sym (append-nil (without_repeats [] xs)) ∙ ap (λ (b : Bool). without_repeats [] xs ++ cond b [] (n ∷ [])) (sym there) ∙ sym (repeats-end [] xs n)
