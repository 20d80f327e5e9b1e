-- Labels and formulas, put in one after the other.
use Rattle.std.proofs.Common.{◌≡◌, ℕ, Bool, true, false, Option, Some, ◌&&◌, ◌==◌, List, [], ◌∷◌, ◌++◌, length, None, refl, ap, ◌∙◌}
use Rattle.std.specs.Prelude.{is_some}
use Rattle.std.specs.Global.{Vec}
use Rattle.std.specs.Str.{bytes_eq}
use Rattle.mm_model.specs.declared.frames.Hyp.{Hyp}
use Rattle.proof_model.specs.Machine.{Formula, same_formula}
use Rattle.proof_export.specs.Places.{AreHyps, AreSteps, key_of, number_at}
use Rattle.proof_export.proofs.Firsts.{keep_first, put_first}

pub is_there : (o : Option ℕ) → is_some o ≡ true → o ≡ None → ⊥
is_there None e n = cc
is_there (Some k) e n = cc

pub is_absent : (o : Option ℕ) → is_some o ≡ false → o ≡ None
is_absent None e = refl
is_absent (Some k) e = absurd cc

-- ---- hypotheses

pub hyp_put : (hyps : List Hyp) (h : Hyp) (entries new : List (Vec ℕ × ℕ)) (k : Vec ℕ) (n : ℕ) → new ≡ entries ++ (k, n) ∷ [] → k.items ≡ h.name → length hyps ≡ n
    → AreHyps hyps entries → AreHyps (hyps ++ h ∷ []) new
hyp_put hyps h entries new k n e i m are = record {
  each = λ label. put_first (λ (x : Hyp). bytes_eq label x.name) hyps h entries new label k n e m (ap (bytes_eq label) i) (are.each label);
}

pub hyp_kept : (hyps : List Hyp) (h : Hyp) (entries : List (Vec ℕ × ℕ)) → (number_at entries h.name ≡ None → ⊥) → AreHyps hyps entries → AreHyps (hyps ++ h ∷ []) entries
hyp_kept hyps h entries there are = record {
  each = λ label. keep_first (λ (x : Hyp). bytes_eq label x.name) hyps h entries label h.name refl there (are.each label);
}

-- ---- formulas

same_key : (f g : Formula) → bytes_eq (key_of f) (key_of g) ≡ same_formula f g
same_key [] [] = refl
same_key [] (t ∷ g) = refl
same_key (s ∷ f) [] = refl
same_key (s ∷ f) (t ∷ g) = ap (λ (b : Bool). s.0 == t.0 && b) (same_key f g)

pub step_put : (steps : List Formula) (f : Formula) (entries new : List (Vec ℕ × ℕ)) (k : Vec ℕ) (n : ℕ) → new ≡ entries ++ (k, n) ∷ [] → k.items ≡ key_of f → length steps ≡ n
    → AreSteps steps entries → AreSteps (steps ++ f ∷ []) new
step_put steps f entries new k n e i m are = record {
  each = λ g. put_first (same_formula g) steps f entries new (key_of g) k n e m (ap (bytes_eq (key_of g)) i ∙ same_key g f) (are.each g);
}

pub step_kept : (steps : List Formula) (f : Formula) (entries : List (Vec ℕ × ℕ)) → (number_at entries (key_of f) ≡ None → ⊥) → AreSteps steps entries → AreSteps (steps ++ f ∷ []) entries
step_kept steps f entries there are = record {
  each = λ g. keep_first (same_formula g) steps f entries (key_of g) (key_of f) (same_key g f) there (are.each g);
}
