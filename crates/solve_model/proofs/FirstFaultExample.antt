-- The first fault of a worksheet: one that is named `ax-1`, as an assertion of the database is, and whose step has an unknown token.
use Rattle.std.specs.Prelude.{◌≡◌, ℕ, zero, suc, Bool, true, false, [], ◌∷◌, Option, Some, None, slice_get, codes, refl}
use Rattle.std.proofs.Common.{ap, subst}
use Rattle.mm_model.specs.Faults.{fault, comes_first}
use Rattle.sheet_text.specs.declared.sheet.Sheet.{Sheet}
use Rattle.sheet_text.specs.declared.sheet.SheetStep.{SheetStep}
use Rattle.sheet_text.specs.Layout.{steps}
use Rattle.solve_model.specs.BindFaults.{BindFaultAt, at_header, at_step, at_pairs, no_tree, two_trees, IsBindFault}
use Rattle.solve_model.specs.Example.{P}
use Rattle.solve_model.specs.ExampleSheets.{sheet}

abbrev taken : Sheet
taken = sheet (codes "ax-1") (codes "qed:: |- foo" ∷ [])

abbrev qed : SheetStep
qed = record { line = 2; hyp = false; name = codes "qed"; places = []; reference = None; formula = codes "|-" ∷ codes "foo" ∷ [] }

its_steps : steps taken ≡ qed ∷ []
its_steps = refl

abbrev Rule : Type 0
Rule = ℕ × (Sheet → Bool)

some_is : {X : Type 0} (a b : X) → Some a ≡ Some b → a ≡ b
some_is a b e = cc

abbrev IsLater : ℕ → ℕ → Type 0
IsLater place code = comes_first (fault 1 61) (fault place code) ≡ true

-- a rule that fails does not hold
no_rule : (n code : ℕ) (a rule : Sheet → Bool) → ◌≡◌ {A = Option Rule} (Some (n, a)) (Some (code, rule)) → a taken ≡ false → rule taken ≡ true → ⊥
no_rule n code a rule e f h = let value : a taken ≡ rule taken = ap (λ (r : Rule). r.1 taken) (some_is {X = Rule} (n, a) (code, rule) e) in cc

its_code : (n code : ℕ) (a rule : Sheet → Bool) → ◌≡◌ {A = Option Rule} (Some (n, a)) (Some (code, rule)) → n ≡ code
its_code n code a rule e = ap (λ (r : Rule). r.0) (some_is {X = Rule} (n, a) (code, rule) e)

-- the step stands behind the header
behind : (i code : ℕ) (t : SheetStep) → slice_get (qed ∷ []) i ≡ Some t → IsLater t.line code
behind zero code t s = subst (λ (u : SheetStep). IsLater u.line code) (some_is qed t s) refl
behind (suc i) code t s = absurd (cc)

first : (place code : ℕ) → BindFaultAt P taken place code → IsLater place code
first place code (at_header zero e h) = absurd (no_rule _ _ _ _ e refl h)
first place code (at_header (suc zero) e h) = subst (IsLater 1) (its_code _ _ _ _ e) refl
first place code (at_header (suc (suc zero)) e h) = absurd (no_rule _ _ _ _ e refl h)
first place code (at_header (suc (suc (suc k))) e h) = absurd (cc)
first place code (at_step k i e s h) = behind i code _ s
first place code (at_pairs i e h) = absurd (cc)
first place code (no_tree i s h n) = behind i 67 _ s
first place code (two_trees i s h n) = behind i 68 _ s

-- of 61 at the header and 66 at the step, the one at the lesser line
pub taken_first : IsBindFault P taken (fault 1 61)
taken_first = record { stands = at_header 1 refl refl; is_first = first }

pub unknown_too : BindFaultAt P taken 2 66
unknown_too = at_step 4 0 refl refl refl
