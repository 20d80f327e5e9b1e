-- Tokens compared one by one.
use Rattle.std.specs.Prelude.{◌≡◌, ◌<◌, ◌+◌, ◌&&◌, ℕ, Bool, true, false, List, [], ◌∷◌, length, map, drop, suc, zero, refl}
use Rattle.std.specs.Str.{bytes_eq}
use Rattle.std.proofs.Common.{arith, sym, ap, ◌∙◌, get_or}
use Rattle.std.proofs.lemmas.List.{drop_more, length-map}
use Rattle.std.proofs.lemmas.Slice.Eq.{bytes_eq-Decides}
use Rattle.mm_base.specs.declared.symbols.Sym.{Sym}
use Rattle.mm_model.specs.Names.{Name}
use Rattle.solve_model.specs.Binding.{same_tokens}
use Rattle.sheet_bind.specs.Seen.{name_in, names_in}

false_and : (a : Bool) → (a && false) ≡ false
false_and true = refl
false_and false = refl

pub lengths_differ : (ts us : List Name) → (length ts ≡ length us → ⊥) → same_tokens ts us ≡ false
lengths_differ [] [] h = absurd (h refl)
lengths_differ [] (u ∷ us) h = refl
lengths_differ (t ∷ ts) [] h = refl
lengths_differ (t ∷ ts) (u ∷ us) h = ap (λ b. bytes_eq t u && b) (lengths_differ ts us (λ e. h (ap (λ (n : ℕ). suc n) e))) ∙ false_and (bytes_eq t u)

both : (a b : Bool) → (a ≡ true → b ≡ true) → (b ≡ true → a ≡ true) → a ≡ b
both true b f g = sym (f refl)
both false true f g = g refl
both false false f g = refl

pub turned : (a b : List ℕ) → bytes_eq a b ≡ bytes_eq b a
turned a b = both (bytes_eq a b) (bytes_eq b a)
    (λ e. (bytes_eq-Decides b a).1 (sym ((bytes_eq-Decides a b).0 e)))
    (λ e. (bytes_eq-Decides a b).1 (sym ((bytes_eq-Decides b a).0 e)))

-- the token and the name at one place
same_more : (ts us : List Name) (i : ℕ) (d e : Name) → i < length ts → i < length us
    → same_tokens (drop i ts) (drop i us) ≡ (bytes_eq (get_or ts i d) (get_or us i e) && same_tokens (drop (i + 1) ts) (drop (i + 1) us))
same_more ts us i d e l m = ap (λ xs. same_tokens xs (drop i us)) (drop_more ts i d l) ∙ ap (same_tokens (get_or ts i d ∷ drop (i + 1) ts)) (drop_more us i e m)

at-map : {X Y : Type 0} (g : X → Y) (xs : List X) (i : ℕ) (d : X) → get_or (map g xs) i (g d) ≡ g (get_or xs i d)
at-map g [] i d = refl
at-map g (x ∷ xs) zero d = refl
at-map g (x ∷ xs) (suc i) d = at-map g xs i d

pub token_step : (symbols ts : List Name) (f : List Sym) (i : ℕ) (t e : Name) (d : Sym) (b : Bool) → i < length ts → length ts ≡ length f → t ≡ get_or ts i e
    → b ≡ bytes_eq (name_in symbols (get_or f i d)) t
    → same_tokens (drop i ts) (drop i (names_in symbols f)) ≡ (b && same_tokens (drop (i + 1) ts) (drop (i + 1) (names_in symbols f)))
token_step symbols ts f i t e d b l same is h =
    let us = names_in symbols f in
    let long : i < length us = (let n = length-map f (name_in symbols) in omega (arith, l, same, n)) in
    same_more ts us i e (name_in symbols d) l long
    ∙ ap (λ c. c && same_tokens (drop (i + 1) ts) (drop (i + 1) us))
    (ap (bytes_eq (get_or ts i e)) (at-map (name_in symbols) f i d) ∙ turned (get_or ts i e) (name_in symbols (get_or f i d)) ∙ ap (bytes_eq (name_in symbols (get_or f i d))) (sym is) ∙ sym h)
