-- What a symbol stands for, by the place of its `$f` among the hypotheses.
use Rattle.std.proofs.Common.{◌≡◌, ℕ, suc, Bool, List, [], ◌∷◌, length, get_or, position, Option, Some, None, option_map, refl, sym, ap, ◌∙◌, arith, inl, inr}
use Rattle.std.specs.Prelude.{find, drop}
use Rattle.std.specs.List.{zip}
use Rattle.std.specs.Option.{option_map_or}
use Rattle.std.proofs.lemmas.Bool.{cases_Bool}
use Rattle.mm_base.proofs.Positions.{position-cons}
use Rattle.mm_base.specs.declared.symbols.Sym.{Sym}
use Rattle.mm_model.specs.declared.frames.Hyp.{Hyp}
use Rattle.proof_model.specs.Machine.{Entry, Formula, is_float_of, substitute}
use Rattle.stack_verify.proofs.Substitutes.{cond_then, cond_else}

-- the second of the two at a place
abbrev second : {F : Type 0} → List F → F → ℕ → F
second fs d k = get_or fs k d

past : {F : Type 0} (f : F) (fs : List F) (d : F) (o : Option ℕ) → option_map (second (f ∷ fs) d) (option_map (λ n. suc n) o) ≡ option_map (second fs d) o
past f fs d None = refl
past f fs d (Some k) = refl

find_second : {H F : Type 0} (p : H → Bool) (hs : List H) (fs : List F) (d : F) → length fs ≡ length hs
    → option_map (λ (e : H × F). e.1) (find (λ (e : H × F). p e.0) (zip hs fs)) ≡ option_map (second fs d) (position p hs)
find_second p [] fs d e = refl
find_second p (h ∷ hs) [] d e = absurd (omega arith)
find_second {H} {F} p (h ∷ hs) (f ∷ fs) d e =
    let rest = find_second p hs fs d (omega arith) in
    let next : Option ℕ = option_map (λ n. suc n) (position p hs) in
    elim (cases_Bool (p h)) [
      | inl t ↦
          ap (option_map (λ (e : H × F). e.1)) (cond_then (p h) (Some (h, f)) (find (λ (e : H × F). p e.0) (zip hs fs)) t)
          ∙ ap (option_map (second (f ∷ fs) d)) (sym (position-cons p h hs ∙ cond_then (p h) (Some 0) next t))
      | inr t ↦
          ap (option_map (λ (e : H × F). e.1)) (cond_else (p h) (Some (h, f)) (find (λ (e : H × F). p e.0) (zip hs fs)) t) ∙ rest
          ∙ sym (past f fs d (position p hs)) ∙ ap (option_map (second (f ∷ fs) d)) (sym (position-cons p h hs ∙ cond_else (p h) (Some 0) next t))
    ]

apart : (o : Option Entry) (rest : Formula) → option_map_or (λ (e : Entry). drop 1 e.1) o rest ≡ option_map_or (λ (f : Formula). drop 1 f) (option_map (λ (e : Entry). e.1) o) rest
apart None rest = refl
apart (Some e) rest = refl

stands : (hyps : List Hyp) (fs : List Formula) (s : Sym) (d : Formula) → length fs ≡ length hyps
    → substitute (zip hyps fs) s ≡ option_map_or (λ (f : Formula). drop 1 f) (option_map (second fs d) (position (is_float_of s) hyps)) (s ∷ [])
stands hyps fs s d e =
    apart (find (λ (e : Entry). is_float_of s e.0) (zip hyps fs)) (s ∷ [])
    ∙ ap (λ (o : Option Formula). option_map_or (λ (f : Formula). drop 1 f) o (s ∷ [])) (find_second (is_float_of s) hyps fs d e)

-- a symbol without a `$f` stands for itself
pub stands_for_itself : (hyps : List Hyp) (fs : List Formula) (s : Sym) → length fs ≡ length hyps → position (is_float_of s) hyps ≡ None → substitute (zip hyps fs) s ≡ s ∷ []
stands_for_itself hyps fs s e n = stands hyps fs s [] e ∙ ap (λ (o : Option ℕ). option_map_or (λ (f : Formula). drop 1 f) (option_map (second fs []) o) (s ∷ [])) n

pub stands_for : (hyps : List Hyp) (fs : List Formula) (s : Sym) (k : ℕ) (d : Formula) → length fs ≡ length hyps → position (is_float_of s) hyps ≡ Some k
    → substitute (zip hyps fs) s ≡ drop 1 (get_or fs k d)
stands_for hyps fs s k d e n = stands hyps fs s d e ∙ ap (λ (o : Option ℕ). option_map_or (λ (f : Formula). drop 1 f) (option_map (second fs d) o) (s ∷ [])) n
