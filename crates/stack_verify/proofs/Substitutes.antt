-- What a symbol stands for, by the place of its `$f` among the hypotheses.
use Rattle.std.proofs.Common.{◌≡◌, ◌<◌, ℕ, suc, Bool, true, false, cond, ltb, List, [], ◌∷◌, length, get_or, position, Option, Some, None, option_map, refl, sym, ap, ◌∙◌, arith, inl, inr}
use Rattle.std.specs.Prelude.{find, drop}
use Rattle.std.specs.List.{zip, position_or_len}
use Rattle.std.specs.Option.{option_map_or}
use Rattle.std.proofs.lemmas.Bool.{cases_Bool, ltb-true}
use Rattle.std.proofs.lemmas.List.{get_or-map, length-map}
use Rattle.mm_base.proofs.Positions.{position-cons}
use Rattle.mm_base.specs.declared.symbols.Sym.{Sym}
use Rattle.mm_model.specs.declared.frames.Hyp.{Hyp}
use Rattle.proof_model.specs.Machine.{Entry, is_float_of, substitute}
use Rattle.stack_verify.specs.declared.formula.Span.{Span}
use Rattle.stack_verify.specs.Stacks.{formula_in, formulas_in, entries_of}

pub cond_then : {X : Type 0} (b : Bool) (x y : X) → b ≡ true → cond b x y ≡ x
cond_then true x y e = refl
cond_then false x y e = absurd cc

pub cond_else : {X : Type 0} (b : Bool) (x y : X) → b ≡ false → cond b x y ≡ y
cond_else true x y e = absurd cc
cond_else false x y e = refl

-- the two at a place
abbrev both : {H F : Type 0} → List H → List F → H → F → ℕ → H × F
both hs fs dh df k = (get_or hs k dh, get_or fs k df)

past : {H F : Type 0} (h : H) (hs : List H) (f : F) (fs : List F) (dh : H) (df : F) (o : Option ℕ)
    → option_map (both (h ∷ hs) (f ∷ fs) dh df) (option_map (λ n. suc n) o) ≡ option_map (both hs fs dh df) o
past h hs f fs dh df None = refl
past h hs f fs dh df (Some k) = refl

find_both : {H F : Type 0} (p : H → Bool) (hs : List H) (fs : List F) (dh : H) (df : F) → length fs ≡ length hs
    → find (λ (e : H × F). p e.0) (zip hs fs) ≡ option_map (both hs fs dh df) (position p hs)
find_both p [] fs dh df e = refl
find_both p (h ∷ hs) [] dh df e = absurd (omega arith)
find_both {H} {F} p (h ∷ hs) (f ∷ fs) dh df e =
    let rest = find_both p hs fs dh df (omega arith) in
    elim (cases_Bool (p h)) [
      | inl t ↦
          cond_then (p h) (Some (h, f)) (find (λ (e : H × F). p e.0) (zip hs fs)) t
          ∙ ap (option_map (both (h ∷ hs) (f ∷ fs) dh df)) (sym (position-cons p h hs ∙ cond_then (p h) (Some 0) (option_map (λ n. suc n) (position p hs)) t))
      | inr t ↦
          cond_else (p h) (Some (h, f)) (find (λ (e : H × F). p e.0) (zip hs fs)) t ∙ rest ∙ sym (past h hs f fs dh df (position p hs))
          ∙ ap (option_map (both (h ∷ hs) (f ∷ fs) dh df)) (sym (position-cons p h hs ∙ cond_else (p h) (Some 0) (option_map (λ n. suc n) (position p hs)) t))
    ]

the_entry : (hyps : List Hyp) (symbols : List Sym) (spans : List Span) (s : Sym) (dh : Hyp) (item : Span) → length spans ≡ length hyps
    → substitute (entries_of hyps symbols spans) s
    ≡ option_map_or (λ (e : Entry). drop 1 e.1)
    (option_map (both hyps (formulas_in symbols spans) dh (formula_in symbols item)) (position (is_float_of s) hyps)) (s ∷ [])
the_entry hyps symbols spans s dh item e =
    ap (λ (o : Option Entry). option_map_or (λ (e : Entry). drop 1 e.1) o (s ∷ []))
    (find_both (is_float_of s) hyps (formulas_in symbols spans) dh (formula_in symbols item) (length-map spans (formula_in symbols) ∙ e))

no_hyp : Hyp
no_hyp = record { name = []; floating = false; formula = [] }

-- a symbol without a `$f` stands for itself
pub stands_for_itself : (hyps : List Hyp) (symbols : List Sym) (spans : List Span) (s : Sym) → length spans ≡ length hyps
    → position (is_float_of s) hyps ≡ None → substitute (entries_of hyps symbols spans) s ≡ s ∷ []
stands_for_itself hyps symbols spans s e n =
    the_entry hyps symbols spans s no_hyp (record { from = 0; to = 0 }) e
    ∙ ap (λ (o : Option ℕ). option_map_or (λ (e : Entry). drop 1 e.1) (option_map (both hyps (formulas_in symbols spans) no_hyp (formula_in symbols (record { from = 0; to = 0 }))) o) (s ∷ [])) n

pub position_within : {H : Type 0} (p : H → Bool) (hs : List H) (k : ℕ) → position p hs ≡ Some k → k < length hs
position_within p hs k e =
    let n = position_or_len p hs in
    elim (cases_Bool (ltb n (length hs))) [
      | inl t ↦ let same : Some n ≡ Some k = sym (cond_then (ltb n (length hs)) (Some n) None t) ∙ e in let is : n ≡ k = cc in let low = ltb-true n (length hs) t in omega arith
      | inr t ↦ let none : None ≡ Some k = sym (cond_else (ltb n (length hs)) (Some n) None t) ∙ e in absurd cc
    ]

pub stands_for : (hyps : List Hyp) (symbols : List Sym) (spans : List Span) (s : Sym) (k : ℕ) (d : Span) → length spans ≡ length hyps → position (is_float_of s) hyps ≡ Some k
    → substitute (entries_of hyps symbols spans) s ≡ drop 1 (formula_in symbols (get_or spans k d))
stands_for hyps symbols spans s k d e n =
    let low = position_within (is_float_of s) hyps k n in
    the_entry hyps symbols spans s no_hyp d e
    ∙ ap (λ (o : Option ℕ). option_map_or (λ (e : Entry). drop 1 e.1) (option_map (both hyps (formulas_in symbols spans) no_hyp (formula_in symbols d)) o) (s ∷ [])) n
    ∙ ap (drop 1) (get_or-map (formula_in symbols) spans k d (formula_in symbols d) (omega arith))
