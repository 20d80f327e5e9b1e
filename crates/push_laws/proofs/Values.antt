-- The value of a variable, looked up beside the variables of a frame.
use Rattle.std.specs.Prelude.{◌≡◌, ◌==◌, ℕ, zero, suc, Bool, false, List, [], ◌∷◌, length, find, zip, slice_get, Some, refl}
use Rattle.std.specs.List.{AllZip, AllByRecursion}
use Rattle.std.specs.Option.{option_map_or}
use Rattle.std.proofs.Common.{ap, ◌∙◌, cond, arith}
use Rattle.std.proofs.lemmas.Bool.{eq-eqb, false_from_ne_true}
use Rattle.mm_base.specs.declared.symbols.Sym.{Sym}
use Rattle.mm_base.specs.declared.tree.Tree.{Tree}
use Rattle.mm_model.specs.Productions.{TypedVariable}
use Rattle.mm_model.specs.BookFacts.{VariablesDiffer}
use Rattle.push_laws.proofs.Entries.{same_symbol}
use Rattle.push_laws.proofs.Lists.{zip_left}

module _ {X : Type 0} (g : Tree → X) (d : X) where
  -- what stands beside the variable
  abbrev pub beside : List (TypedVariable × Tree) → Sym → X
  beside ps s = option_map_or (λ (p : TypedVariable × Tree). g p.1) (find (λ (p : TypedVariable × Tree). p.0.sym.0 == s.0) ps) d

  abbrev Unlike : TypedVariable → TypedVariable → Type 0
  Unlike v w = v.sym ≡ w.sym → ⊥

  all_unlike : (v : TypedVariable) (vs : List TypedVariable) → ((k : ℕ) (w : TypedVariable) → slice_get vs k ≡ Some w → Unlike v w) → AllByRecursion (Unlike v) vs
  all_unlike v [] f = tt
  all_unlike v (w ∷ vs) f = (f 0 w refl, all_unlike v vs (λ k x e. f (suc k) x e))

  abbrev at : List (TypedVariable × Tree) → TypedVariable × Tree → Sym → Bool → X
  at ps p s b = option_map_or (λ (q : TypedVariable × Tree). g q.1) (cond b (Some p) (find (λ (q : TypedVariable × Tree). q.0.sym.0 == s.0) ps)) d

  abbrev IsBeside : List (TypedVariable × Tree) → TypedVariable → Tree → Type 0
  IsBeside ps v t = beside ps v.sym ≡ g t

  past : (v : TypedVariable) (t : Tree) (ps : List (TypedVariable × Tree)) (w : TypedVariable) (u : Tree) → Unlike v w → IsBeside ps w u → IsBeside ((v, t) ∷ ps) w u
  past v t ps w u other h =
      let differs : (v.sym.0 == w.sym.0) ≡ false = false_from_ne_true (v.sym.0 == w.sym.0) (λ e. other (same_symbol v.sym w.sym e)) in
      ap (at ps (v, t) w.sym) differs ∙ h

  -- each variable has its own
  pub all_beside : (vars : List TypedVariable) (ts : List Tree) → VariablesDiffer vars → length vars ≡ length ts → AllZip (IsBeside (zip vars ts)) vars ts
  all_beside [] [] differ e = tt
  all_beside [] (t ∷ ts) differ e = let bad : ⊥ = omega (arith, e) in absurd bad
  all_beside (v ∷ vs) [] differ e = let bad : ⊥ = omega (arith, e) in absurd bad
  all_beside (v ∷ vs) (t ∷ ts) differ e =
      let others = all_unlike v vs (λ k w is same. let place : zero ≡ suc k = differ 0 (suc k) v w refl is same in omega (arith, place)) in
      let rest = all_beside vs ts (λ i j x y p q same. let place : suc i ≡ suc j = differ (suc i) (suc j) x y p q same in omega (arith, place)) (omega (arith, e)) in (
        ap (at (zip vs ts) (v, t) v.sym) (eq-eqb v.sym.0 v.sym.0 refl),
        zip_left (IsBeside (zip vs ts)) (IsBeside ((v, t) ∷ zip vs ts)) (Unlike v) (λ w u other h. past v t (zip vs ts) w u other h) vs ts others rest,
      )
