-- A proof is accepted exactly where it ends with the theorem's formula alone.
use Rattle.std.specs.Prelude.{◌≡◌, ℕ, Bool, true, false, ◌==◌, List, [], ◌∷◌, length, Some, None, option_map, Ok, Err, refl}
use Rattle.std.proofs.Common.{ap, ◌∙◌, cond, arith}
use Rattle.std.proofs.lemmas.Bool.{and_parts, and_from}
use Rattle.std.proofs.lemmas.Bool.Decides.{nat_tests}
use Rattle.mm_base.specs.declared.symbols.Sym.{Sym}
use Rattle.proof_model.specs.declared.theorem.Theorem.{Theorem}
use Rattle.proof_model.specs.Machine.{Formula, Frames, State, MachineFault, result_differs, start, and_then, same_formula, run_steps, end_fault, ended_fault}
use Rattle.proof_laws.specs.Accepted.{EndsWithTheorem}
use Rattle.proof_laws.proofs.StepLaws.{Ended}

same_sym : (a b : Sym) → (a.0 == b.0) ≡ true → a ≡ b
same_sym a b e =
    let n : a.0 ≡ b.0 = grind (arith, nat_tests) in
    let sym_of : ℕ → Sym = λ k. record { 0 = k } in
    ap sym_of n

sym_self : (a : Sym) → (a.0 == a.0) ≡ true
sym_self a = grind (arith, nat_tests)

pub formulas_are : (f g : Formula) → same_formula f g ≡ true → f ≡ g
formulas_are [] [] e = refl
formulas_are [] (b ∷ bs) e = absurd (cc)
formulas_are (a ∷ more) [] e = absurd (cc)
formulas_are (a ∷ more) (b ∷ bs) e =
    let parts = and_parts (a.0 == b.0) (same_formula more bs) e in
    let first = same_sym a b parts.0 in
    let rest = formulas_are more bs parts.1 in
    cc

pub formula_self : (f : Formula) → same_formula f f ≡ true
formula_self [] = refl
formula_self (a ∷ more) = and_from (a.0 == a.0) (same_formula more more) (sym_self a) (formula_self more)

module _ (frames : Frames) (thm : Theorem) where
  equal_end : (f : Formula) (b : Bool) (n : ℕ) → same_formula f thm.formula ≡ b → option_map {U = ℕ × MachineFault} (λ x. (n, x)) (cond b None (Some result_differs))
      ≡ None → f ≡ thm.formula
  equal_end f true n is e = formulas_are f thm.formula is
  equal_end f false n is e = absurd (cc)

  the_end : (stack : List Formula) (n : ℕ) → option_map {U = ℕ × MachineFault} (λ x. (n, x)) (end_fault thm stack) ≡ None → stack ≡ thm.formula ∷ []
  the_end [] n e = absurd (cc)
  the_end (f ∷ []) n e = ap (λ (g : Formula). g ∷ []) (equal_end f (same_formula f thm.formula) n refl e)
  the_end (f ∷ g ∷ fs) n e = absurd (cc)

  accepted_ends : (o : Ended) (n : ℕ) → ended_fault thm n o ≡ None → and_then (λ (st : State). Ok st.stack) o ≡ Ok (thm.formula ∷ [])
  accepted_ends (Err x) n e = absurd (cc)
  accepted_ends (Ok st) n e = ap (λ (s : List Formula). Ok s) (the_end st.stack n e)

  ends_accepted : (o : Ended) (n : ℕ) → and_then (λ (st : State). Ok st.stack) o ≡ Ok (thm.formula ∷ []) → ended_fault thm n o ≡ None
  ends_accepted (Err x) n e = absurd (cc)
  ends_accepted (Ok st) n e =
      let stack : st.stack ≡ thm.formula ∷ [] = cc in
      ap (λ (s : List Formula). option_map {U = ℕ × MachineFault} (λ x. (n, x)) (end_fault thm s)) stack
      ∙ ap (λ b. option_map {U = ℕ × MachineFault} (λ x. (n, x)) (cond b None (Some result_differs))) (formula_self thm.formula)

  pub ends_with_theorem : EndsWithTheorem frames thm
  ends_with_theorem code = (
    accepted_ends (run_steps frames thm code.labels 0 code.steps start) (length code.steps),
    ends_accepted (run_steps frames thm code.labels 0 code.steps start) (length code.steps),
  )
