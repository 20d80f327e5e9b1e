-- The active pairs of a theorem, put in one after the other; and what is known tests as the definitions do.
use Rattle.std.proofs.Common.{◌≡◌, ◌<◌, ℕ, suc, ◌+◌, Bool, true, false, cond, ◌||◌, eqb, List, [], ◌∷◌, ◌++◌, length, take, get_or, refl, sym, ap, ◌∙◌, arith, subst, inl, inr}
use Rattle.std.specs.List.{list_any}
use Rattle.std.proofs.lemmas.Bool.{and_parts, cases_Bool, eqb-true}
use Rattle.std.proofs.lemmas.List.Folds.{list_any-append}
use Rattle.std.proofs.Math.Seq.{take-suc}
use Rattle.mm_base.specs.declared.symbols.Pair.{Pair}
use Rattle.stack_verify.specs.Contexts.{SamePairs, is_pair}
use Rattle.stack_verify.proofs.Substitutes.{cond_then, cond_else}

or_same : (a b : Bool) → (b ≡ true → a ≡ true) → a ≡ (a || (b || false))
or_same true b h = refl
or_same false true h = h refl
or_same false false h = refl

-- numbers that have a pair already, or get it
pub with_pair : (old new : List (ℕ × ℕ)) (a b v w : ℕ) → new ≡ cond (list_any (is_pair a b) old) old (old ++ (a, b) ∷ [])
    → list_any (is_pair v w) new ≡ (list_any (is_pair v w) old || (is_pair v w (a, b) || false))
with_pair old new a b v w e =
    elim (cases_Bool (list_any (is_pair a b) old)) [
      | inl t ↦
          let there : is_pair v w (a, b) ≡ true → list_any (is_pair v w) old ≡ true =
          λ (q : is_pair v w (a, b) ≡ true).
          let parts = and_parts (eqb v a) (eqb w b) q in
          let first : v ≡ a = eqb-true v a parts.0 in
          let second : w ≡ b = eqb-true w b parts.1 in
          subst (λ (x : ℕ). list_any (is_pair x w) old ≡ true) (sym first) (subst (λ (y : ℕ). list_any (is_pair a y) old ≡ true) (sym second) t) in
          ap (list_any (is_pair v w)) (e ∙ cond_then (list_any (is_pair a b) old) old (old ++ (a, b) ∷ []) t) ∙ or_same (list_any (is_pair v w) old) (is_pair v w (a, b)) there
      | inr t ↦ ap (list_any (is_pair v w)) (e ∙ cond_else (list_any (is_pair a b) old) old (old ++ (a, b) ∷ []) t) ∙ list_any-append (is_pair v w) old ((a, b) ∷ [])
    ]

pub pair_put : (old new : List (ℕ × ℕ)) (pairs : List Pair) (i : ℕ) (d : Pair) → i < length pairs
    → new
    ≡ cond (list_any (is_pair (get_or pairs i d).a.0 (get_or pairs i d).b.0) old) old
    (old ++ ((get_or pairs i d).a.0, (get_or pairs i d).b.0) ∷ [])
    → SamePairs (take i pairs) old → SamePairs (take (i + 1) pairs) new
pair_put old new pairs i d low e h = record {
  same = λ v w.
      let test : Pair → Bool = λ (p : Pair). is_pair v w (p.a.0, p.b.0) in
      let p : Pair = get_or pairs i d in
      let one : suc i ≡ i + 1 = omega arith in
      with_pair old new p.a.0 p.b.0 v w e ∙ ap (λ (t : Bool). t || (test p || false)) (h.same v w)
      ∙ sym (list_any-append test (take i pairs) (p ∷ [])) ∙ ap (list_any test) (sym (take-suc pairs i d low) ∙ ap (λ (j : ℕ). take j pairs) one);
}
