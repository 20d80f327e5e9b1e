-- Tables by symbol number say which symbols are listed, and the typecodes that `$f` give.
use Rattle.std.specs.Prelude.{◌≡◌, ◌<◌, ℕ, ◌||◌, ◌==◌, Bool, true, false, List, [], ◌∷◌, ◌++◌, length, fold, find, replicate, Option, Some, None, option_map, is_none, slice_index_or, refl}
use Rattle.std.specs.List.{list_any}
use Rattle.std.specs.Option.{option_or}
use Rattle.std.proofs.Common.{arith, sym, ap, subst, ◌∙◌, get_or, set, cond, inl, inr}
use Rattle.std.proofs.lemmas.Bool.{cases_Bool}
use Rattle.std.proofs.lemmas.Bool.Decides.{nat_tests}
use Rattle.std.proofs.lemmas.List.{get_or-set_same, get_or-set_other, length-set, get_or-replicate, length-replicate}
use Rattle.mm_base.specs.declared.symbols.Sym.{Sym}
use Rattle.mm_base.specs.declared.symbols.Typecode.{Typecode}
use Rattle.mm_model.specs.declared.frames.Hyp.{Hyp}
use Rattle.mm_model.specs.Names.{sym as symbol, typecode}
use Rattle.mm_model.specs.Book.{float_of}
use Rattle.mm_model.specs.Productions.{TypedVariable, typed_by, typed_variables}
use Rattle.sheet_bind.specs.Marks.{mark, put_typed, put_formula, put_hyp}

-- ---- marks

or_false : (a : Bool) → (a || false) ≡ a
or_false true = refl
or_false false = refl

same_number : (a b : ℕ) → (a == b) ≡ true → a ≡ b
same_number a b h = grind (arith, nat_tests, h)

other_number : (a b : ℕ) → (a == b) ≡ false → b ≡ a → ⊥
other_number a b h e = grind (arith, nat_tests, h, e)

marked_one : (marks : List Bool) (n k : ℕ) (rest : Bool) → k < length marks → (get_or (set marks n true) k false || rest) ≡ (get_or marks k false || ((n == k) || rest))
marked_one marks n k rest l = elim (cases_Bool (n == k)) [
  | inl e ↦
      let there : get_or (set marks n true) k false ≡ true = subst (λ (i : ℕ). get_or (set marks i true) k false ≡ true) (sym (same_number n k e)) (get_or-set_same marks k true false l) in
      rw (there, e) (sym (or_true (get_or marks k false)))
  | inr e ↦ rw (get_or-set_other marks n k true false (other_number n k e), e) refl
]
  where
    or_true : (a : Bool) → (a || true) ≡ true
    or_true true = refl
    or_true false = refl

marked : (vs : List Sym) (marks : List Bool) (k : ℕ) → k < length marks → get_or (fold mark marks vs) k false ≡ (get_or marks k false || list_any (λ (w : Sym). w.0 == k) vs)
marked [] marks k l = sym (or_false (get_or marks k false))
marked (v ∷ vs) marks k l =
    marked vs (set marks v.0 true) k (subst (λ (n : ℕ). k < n) (sym (length-set marks v.0 true)) l) ∙ marked_one marks v.0 k (list_any (λ (w : Sym). w.0 == k) vs) l

length-replicated : {X : Type 0} (n : ℕ) (x : X) → length (replicate n x) ≡ n
length-replicated n x = length-replicate n x

-- a symbol below the count is marked where it is listed
pub marks_say : (n : ℕ) (vs : List Sym) (s : Sym) → s.0 < n → slice_index_or (fold mark (replicate n false) vs) s.0 false ≡ list_any (λ (w : Sym). w.0 == s.0) vs
marks_say n vs s l =
    marked vs (replicate n false) s.0 (subst (λ (m : ℕ). s.0 < m) (sym (length-replicated n false)) l)
    ∙ ap (λ (b : Bool). b || list_any (λ (w : Sym). w.0 == s.0) vs) (get_or-replicate n s.0 false false l)

-- ---- typecodes

typed_if : Bool → Typecode → Option Typecode
typed_if b c = cond b (Some c) None

or_none : {X : Type 0} (o : Option X) → option_or o None ≡ o
or_none None = refl
or_none (Some x) = refl

or_assoc : {X : Type 0} (a b c : Option X) → option_or (option_or a b) c ≡ option_or a (option_or b c)
or_assoc None b c = refl
or_assoc (Some x) b c = refl

-- one variable's typecode, where there is none yet
typed_one : (codes : List (Option Typecode)) (v : Sym) (c : Typecode) (k : ℕ) → k < length codes → get_or (put_typed codes v c) k None ≡ option_or (get_or codes k None) (typed_if (v.0 == k) c)
unfolding typed_if
typed_one codes v c k l = elim (cases_Bool (v.0 == k)) [
  | inl e ↦ rw e (subst (λ (i : ℕ). get_or (put_typed codes (symbol i) c) k None ≡ option_or (get_or codes k None) (Some c)) (sym (same_number v.0 k e)) (here (get_or codes k None) refl))
  | inr e ↦ rw e (there (is_none (get_or codes v.0 None)) (other_number v.0 k e) ∙ sym (or_none (get_or codes k None)))
]
  where
    here : (o : Option Typecode) → get_or codes k None ≡ o → get_or (cond (is_none (get_or codes k None)) (set codes k (Some c)) codes) k None ≡ option_or (get_or codes k None) (Some c)
    here None e = rw e (get_or-set_same codes k (Some c) None l)
    here (Some x) e = rw e e

    there : (b : Bool) → (k ≡ v.0 → ⊥) → get_or (cond b (set codes v.0 (Some c)) codes) k None ≡ get_or codes k None
    there true d = get_or-set_other codes v.0 k (Some c) None d
    there false d = refl

abbrev code_in : List TypedVariable → ℕ → Option Typecode
code_in vars k = option_map (λ (v : TypedVariable). v.code) (find (λ (v : TypedVariable). v.sym.0 == k) vars)

found_one : (v : Sym) (c : Typecode) (k : ℕ) (rest : List TypedVariable) → option_or (typed_if (v.0 == k) c) (code_in rest k) ≡ code_in (record { sym = v; code = c } ∷ rest) k
unfolding typed_if
found_one v c k rest = elim (cases_Bool (v.0 == k)) [ inl e ↦ rw e refl | inr e ↦ rw e refl ]

put_more : (codes : List (Option Typecode)) (f : List Sym) (k : ℕ) (rest : List TypedVariable) → k < length codes
    → option_or (get_or (put_formula codes f) k None) (code_in rest k) ≡ option_or (get_or codes k None) (code_in (typed_by f ++ rest) k)
put_more codes [] k rest l = refl
put_more codes (c ∷ []) k rest l = refl
put_more codes (c ∷ v ∷ more) k rest l =
    ap (λ (o : Option Typecode). option_or o (code_in rest k)) (typed_one codes v (typecode c) k l)
    ∙ or_assoc (get_or codes k None) (typed_if (v.0 == k) (typecode c)) (code_in rest k)
    ∙ ap (option_or (get_or codes k None)) (found_one v (typecode c) k rest)

put_length : (codes : List (Option Typecode)) (f : List Sym) → length (put_formula codes f) ≡ length codes
put_length codes [] = refl
put_length codes (c ∷ []) = refl
put_length codes (c ∷ v ∷ more) = by (is_none (get_or codes v.0 None))
  where
    by : (b : Bool) → length (cond b (set codes v.0 (Some (typecode c))) codes) ≡ length codes
    by true = length-set codes v.0 (Some (typecode c))
    by false = refl

typed : (hs : List Hyp) (codes : List (Option Typecode)) (k : ℕ) → k < length codes → get_or (fold put_hyp codes hs) k None ≡ option_or (get_or codes k None) (code_in (typed_variables hs) k)
typed [] codes k l = sym (or_none (get_or codes k None))
typed (h ∷ hs) codes k l = elim (cases_Bool h.floating) [
  | inl e ↦ rw e (typed hs (put_formula codes h.formula) k (subst (λ (n : ℕ). k < n) (sym (put_length codes h.formula)) l) ∙ put_more codes h.formula k (typed_variables hs) l)
  | inr e ↦ rw e (typed hs codes k l)
]

-- a symbol below the count has the typecode that the first `$f` of it gives
pub codes_say : (n : ℕ) (hs : List Hyp) (s : Sym) → s.0 < n → slice_index_or (fold put_hyp (replicate n None) hs) s.0 None ≡ float_of s hs
codes_say n hs s l =
    typed hs (replicate n None) s.0 (subst (λ (m : ℕ). s.0 < m) (sym (length-replicated n None)) l)
    ∙ ap (λ (o : Option Typecode). option_or o (code_in (typed_variables hs) s.0)) (get_or-replicate n s.0 None None l)
