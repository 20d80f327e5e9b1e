-- The least pair that breaks a rule, from the last on; and the rules by what is known of the theorem.
use Rattle.std.proofs.Common.{◌≡◌, ◌<◌, ℕ, suc, ◌+◌, Bool, List, [], ◌∷◌, ◌++◌, length, drop, get_or, Option, Some, refl, sym, ap, ◌∙◌, arith, inl, inr}
use Rattle.std.specs.Prelude.{filter, map}
use Rattle.std.proofs.lemmas.Bool.{cases_Bool}
use Rattle.std.proofs.Math.Seq.{drop-cons}
use Rattle.mm_base.specs.declared.symbols.Sym.{Sym}
use Rattle.proof_model.specs.Machine.{least, lesser}
use Rattle.stack_verify.specs.declared.known.Known.{Known}
use Rattle.stack_verify.specs.declared.pairs.Rule.{Rule}
use Rattle.stack_verify.specs.Pairs.{fails, products, least_onto}
use Rattle.stack_verify.proofs.Substitutes.{cond_then, cond_else}

-- the least of the pairs of v with those from this number on
abbrev pub those_with : Known → Rule → Sym → List Sym → List (Sym × Sym)
those_with known rule v ws = filter (fails known rule) (map (λ w. (v, w)) ws)

pub record LeastWith (known : Known) (rule : Rule) (v : Sym) (ws : List Sym) (i : ℕ) (later best : Option (Sym × Sym)) : Type 0 where
  pub is : best ≡ least_onto (those_with known rule v (drop i ws)) later

-- ---- of all products

filter_append : (p : Sym × Sym → Bool) (xs ys : List (Sym × Sym)) → filter p (xs ++ ys) ≡ filter p xs ++ filter p ys
filter_append p [] ys = refl
filter_append p (x ∷ xs) ys =
    elim (cases_Bool (p x)) [
      | inl t ↦ cond_then (p x) (x ∷ filter p (xs ++ ys)) (filter p (xs ++ ys)) t ∙ ap (λ (l : List (Sym × Sym)). x ∷ l) (filter_append p xs ys)
          ∙ ap (λ (l : List (Sym × Sym)). l ++ filter p ys) (sym (cond_then (p x) (x ∷ filter p xs) (filter p xs) t))
      | inr t ↦ cond_else (p x) (x ∷ filter p (xs ++ ys)) (filter p (xs ++ ys)) t ∙ filter_append p xs ys
          ∙ ap (λ (l : List (Sym × Sym)). l ++ filter p ys) (sym (cond_else (p x) (x ∷ filter p xs) (filter p xs) t))
    ]

least_append : (xs ys : List (Sym × Sym)) → least (xs ++ ys) ≡ least_onto xs (least ys)
least_append [] ys = refl
least_append (x ∷ xs) ys = ap (λ (o : Option (Sym × Sym)). Some (lesser x o)) (least_append xs ys)

pub record LeastOf (known : Known) (rule : Rule) (vs ws : List Sym) (i : ℕ) (best : Option (Sym × Sym)) : Type 0 where
  pub is : best ≡ least (filter (fails known rule) (products (drop i vs) ws))

pub one_more : (known : Known) (rule : Rule) (vs ws : List Sym) (i j : ℕ) (d : Sym) (best new : Option (Sym × Sym)) → j ≡ i + 1 → i < length vs
    → new ≡ least_onto (those_with known rule (get_or vs i d) ws) best → LeastOf known rule vs ws j best → LeastOf known rule vs ws i new
one_more known rule vs ws i j d best new k low n h =
    let v : Sym = get_or vs i d in
    let step : j ≡ suc i = omega arith in
    let old : best ≡ least (filter (fails known rule) (products (drop (suc i) vs) ws)) = h.is ∙ ap (λ (m : ℕ). least (filter (fails known rule) (products (drop m vs) ws))) step in
    record {
      is = n ∙ ap (least_onto (those_with known rule v ws)) old
          ∙ sym (least_append (those_with known rule v ws) (filter (fails known rule) (products (drop (suc i) vs) ws)))
          ∙ ap least (sym (filter_append (fails known rule) (map (λ w. (v, w)) ws) (products (drop (suc i) vs) ws)))
          ∙ ap (λ (l : List Sym). least (filter (fails known rule) (products l ws))) (sym (drop-cons vs i d low));
    }
