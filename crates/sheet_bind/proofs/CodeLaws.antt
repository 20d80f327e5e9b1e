-- The typecodes of work variables, each once: the first that reads a token stays.
use Rattle.std.specs.Prelude.{◌≡◌, ℕ, ◌==◌, ◌&&◌, ◌||◌, not, Bool, true, false, List, [], ◌∷◌, ◌++◌, fold, filter_map, slice_get, Option, Some, None, refl}
use Rattle.std.specs.List.{cons_option}
use Rattle.std.specs.Option.{option_or}
use Rattle.std.proofs.Common.{arith, sym, ap, ◌∙◌, cond, inl, inr}
use Rattle.std.proofs.lemmas.Bool.{cases_Bool}
use Rattle.std.proofs.lemmas.Bool.Decides.{nat_tests}
use Rattle.std.proofs.lemmas.List.Elements.{filter_map-append}
use Rattle.mm_base.specs.declared.symbols.Typecode.{Typecode}
use Rattle.mm_model.specs.Names.{sym as symbol, typecode}
use Rattle.sheet_bind.specs.Places.{has_code}

or_none : {X : Type 0} (o : Option X) → option_or o None ≡ o
or_none None = refl
or_none (Some x) = refl

or_assoc : {X : Type 0} (a b c : Option X) → option_or (option_or a b) c ≡ option_or a (option_or b c)
or_assoc None b c = refl
or_assoc (Some x) b c = refl

get_appended : {X : Type 0} (xs ys : List X) → slice_get (xs ++ ys) 0 ≡ option_or (slice_get xs 0) (slice_get ys 0)
get_appended [] ys = refl
get_appended (x ∷ xs) ys = refl

get_consed : {X : Type 0} (o : Option X) (xs : List X) → slice_get (cons_option o xs) 0 ≡ option_or o (slice_get xs 0)
get_consed None xs = refl
get_consed (Some x) xs = refl

module _ {X : Type 0} (f : Typecode → Option X) where
  first : List Typecode → Option X
  first cs = slice_get (filter_map f cs) 0

  same_code : (c e : Typecode) → (c.0.0 == e.0.0) ≡ true → f c ≡ f e
  same_code c e h = let number : c.0.0 ≡ e.0.0 = grind (arith, nat_tests, h) in ap (λ (n : ℕ). f (typecode (symbol n))) number

  head_none : (o : Option X) (xs : List X) → slice_get (cons_option o xs) 0 ≡ None → (o ≡ None) × (slice_get xs 0 ≡ None)
  head_none None xs h = (refl, h)
  head_none (Some x) xs h = absurd (cc)

  -- a typecode that is there reads nothing where none there does
  none_there : (kept : List Typecode) (c : Typecode) → has_code kept c ≡ true → first kept ≡ None → f c ≡ None
  unfolding first
  none_there [] c h e = absurd (cc)
  none_there (k ∷ ks) c h e = elim (cases_Bool (k.0.0 == c.0.0)) [
    | inl s ↦ sym (same_code k c s) ∙ (head_none (f k) (filter_map f ks) e).0
    | inr s ↦ none_there ks c (sym (ap (λ (b : Bool). b || has_code ks c) s) ∙ h) (head_none (f k) (filter_map f ks) e).1
  ]

  or_there : (o q : Option X) → (o ≡ None → q ≡ None) → o ≡ option_or o q
  or_there None q h = sym (h refl)
  or_there (Some x) q h = refl

  appended : (kept : List Typecode) (c : Typecode) → first (kept ++ c ∷ []) ≡ option_or (first kept) (f c)
  unfolding first
  appended kept c =
      ap (λ (xs : List X). slice_get xs 0) (filter_map-append f kept (c ∷ []))
      ∙ get_appended (filter_map f kept) (cons_option (f c) [])
      ∙ ap (option_or (slice_get (filter_map f kept) 0)) (get_consed (f c) [] ∙ or_none (f c))

  -- one more, where it is not there
  first_put : (p b : Bool) (kept : List Typecode) (c : Typecode) → has_code kept c ≡ b → first (cond (p && not b) (kept ++ c ∷ []) kept) ≡ option_or (first kept) (cond p (f c) None)
  first_put true true kept c h = or_there (first kept) (f c) (none_there kept c h)
  first_put true false kept c h = appended kept c
  first_put false b kept c h = sym (or_none (first kept))

  module _ (p q : Typecode → Bool) (same : (c : Typecode) → p c ≡ q c) where
    first_fold : (cs kept : List Typecode) → first (fold (λ (ks : List Typecode) (c : Typecode). cond (p c && not (has_code ks c)) (ks ++ c ∷ []) ks) kept cs)
        ≡ option_or (first kept) (slice_get (filter_map (λ (c : Typecode). cond (q c) (f c) None) cs) 0)
    first_fold [] kept = sym (or_none (first kept))
    first_fold (c ∷ cs) kept =
        let rest = slice_get (filter_map (λ (c : Typecode). cond (q c) (f c) None) cs) 0 in
        first_fold cs (cond (p c && not (has_code kept c)) (kept ++ c ∷ []) kept)
        ∙ ap (λ (o : Option X). option_or o rest) (first_put (p c) (has_code kept c) kept c refl ∙ ap (λ (b : Bool). option_or (first kept) (cond b (f c) None)) (same c))
        ∙ or_assoc (first kept) (cond (q c) (f c) None) rest
        ∙ ap (option_or (first kept)) (sym (get_consed (cond (q c) (f c) None) (filter_map (λ (c : Typecode). cond (q c) (f c) None) cs)))

    -- of typecodes that pass, each once, the first that reads a token is the first that passes and reads it
    pub first_once : (cs : List Typecode) → slice_get (filter_map f (fold (λ (ks : List Typecode) (c : Typecode). cond (p c && not (has_code ks c)) (ks ++ c ∷ []) ks) [] cs)) 0
        ≡ slice_get (filter_map (λ (c : Typecode). cond (q c) (f c) None) cs) 0
    unfolding first
    first_once cs = first_fold cs []
