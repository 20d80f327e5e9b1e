-- Numbers by key, put in one after the other.
use Rattle.std.proofs.Common.{◌≡◌, ℕ, suc, Bool, true, false, cond, List, [], ◌∷◌, ◌++◌, length, Option, Some, None, option_map, refl, sym, ap, ◌∙◌}
use Rattle.std.specs.Map.{lookup}
use Rattle.std.specs.Global.{Vec}
use Rattle.std.specs.Str.{bytes_eq}
use Rattle.std.proofs.lemmas.Slice.Eq.{bytes_eq-Decides}
use Rattle.mm_model.specs.Names.{first_number}
use Rattle.stack_verify.proofs.Lookup.{or_at}
use Rattle.proof_export.specs.Places.{number_at}

behind : (o : Option ℕ) (t : Bool) (n : ℕ) → option_map (λ (n : ℕ). suc n) (or_at o (cond t (Some n) None)) ≡ or_at (option_map (λ (n : ℕ). suc n) o) (cond t (Some (suc n)) None)
behind (Some k) t n = refl
behind None true n = refl
behind None false n = refl

one_more : (b t : Bool) (o : Option ℕ) (n : ℕ)
    → cond b (Some 0) (option_map (λ (n : ℕ). suc n) (or_at o (cond t (Some n) None)))
    ≡ or_at (cond b (Some 0) (option_map (λ (n : ℕ). suc n) o)) (cond t (Some (suc n)) None)
one_more true t o n = refl
one_more false t o n = behind o t n

first_more : {X : Type 0} (p : X → Bool) (xs : List X) (x : X) → first_number p (xs ++ x ∷ []) ≡ or_at (first_number p xs) (cond (p x) (Some (length xs)) None)
first_more p [] x = refl
first_more p (y ∷ xs) x =
    ap (λ (o : Option ℕ). cond (p y) (Some 0) (option_map (λ (n : ℕ). suc n) o)) (first_more p xs x) ∙ one_more (p y) (p x) (first_number p xs) (length xs)

found_or : (t : Bool) (n : ℕ) (a b : Option ℕ) → cond t (Some n) (or_at a b) ≡ or_at (cond t (Some n) a) b
found_or true n a b = refl
found_or false n a b = refl

lookup_more : {K : Type 0} (t : K → Bool) (es : List (K × ℕ)) (k : K) (n : ℕ) → lookup t (es ++ (k, n) ∷ []) ≡ or_at (lookup t es) (cond (t k) (Some n) None)
lookup_more t [] k n = refl
lookup_more t (e ∷ es) k n =
    ap (λ (o : Option ℕ). cond (t e.0) (Some e.1) o) (lookup_more t es k n) ∙ found_or (t e.0) e.1 (lookup t es) (cond (t k) (Some n) None)

-- a key that is not there
pub put_first : {X : Type 0} (p : X → Bool) (xs : List X) (x : X) (entries new : List (Vec ℕ × ℕ)) (key : List ℕ) (k : Vec ℕ) (n : ℕ)
    → new ≡ entries ++ (k, n) ∷ [] → length xs ≡ n → bytes_eq key k.items ≡ p x → number_at entries key ≡ first_number p xs
    → number_at new key ≡ first_number p (xs ++ x ∷ [])
put_first p xs x entries new key k n e m t is =
    ap (λ (l : List (Vec ℕ × ℕ)). number_at l key) e ∙ lookup_more (λ (v : Vec ℕ). bytes_eq key v.items) entries k n
    ∙ ap (λ (o : Option ℕ). or_at o (cond (bytes_eq key k.items) (Some n) None)) is
    ∙ ap (λ (b : Bool). or_at (first_number p xs) (cond b (Some n) None)) t
    ∙ ap (λ (j : ℕ). or_at (first_number p xs) (cond (p x) (Some j) None)) (sym m) ∙ sym (first_more p xs x)

kept : (o : Option ℕ) (t : Bool) (n : ℕ) → (t ≡ true → o ≡ None → ⊥) → o ≡ or_at o (cond t (Some n) None)
kept (Some k) t n h = refl
kept None true n h = absurd (h refl refl)
kept None false n h = refl

-- a key that is there
pub keep_first : {X : Type 0} (p : X → Bool) (xs : List X) (x : X) (entries : List (Vec ℕ × ℕ)) (key there : List ℕ)
    → bytes_eq key there ≡ p x → (number_at entries there ≡ None → ⊥) → number_at entries key ≡ first_number p xs
    → number_at entries key ≡ first_number p (xs ++ x ∷ [])
keep_first p xs x entries key there t here is =
    let same : p x ≡ true → first_number p xs ≡ None → ⊥ =
    λ (h : p x ≡ true) (none : first_number p xs ≡ None).
    let keys : key ≡ there = (bytes_eq-Decides key there).0 (t ∙ h) in
    here (ap (number_at entries) (sym keys) ∙ is ∙ none) in
    is ∙ kept (first_number p xs) (p x) (length xs) same ∙ sym (first_more p xs x)
