-- The labels that a proof's code has are labels of the proof.
use Rattle.std.proofs.Common.{◌≡◌, ℕ, zero, suc, Bool, true, false, cond, ◌||◌, List, [], ◌∷◌, refl, sym, ap, ◌∙◌, subst, inl, inr, codes}
use Rattle.std.specs.Prelude.{slice_index_or}
use Rattle.std.specs.List.{join_with_byte}
use Rattle.std.specs.Str.{bytes_eq}
use Rattle.std.proofs.lemmas.Bool.{cases_Bool, or_parts}
use Rattle.call_answers.specs.Kept.{proof_labels}
use Rattle.mm_model.specs.Names.{Name, contains}
use Rattle.mm_model.specs.Frames.{without_repeats}
use Rattle.proof_model.specs.declared.code.Code.{Code}
use Rattle.proof_model.specs.Codes.{other_labels}
use Rattle.proof_model.specs.DatabaseProofs.{is_compressed, IsCodeOf, IsCodeWhere}
use Rattle.proof_model.specs.ProofCode.{labels_of}

-- what is not in a list is not in it without repeats
none_kept : (name : Name) (seen ns : List Name) → contains ns name ≡ false → contains (without_repeats seen ns) name ≡ false
none_kept name seen [] h = refl
none_kept name seen (n ∷ ns) h =
    let both = or_parts (bytes_eq name n) (contains ns name) h in
    by (contains seen n) (none_kept name seen ns both.1) (none_kept name (n ∷ seen) ns both.1) both.0
  where
    by : (b : Bool) → contains (without_repeats seen ns) name ≡ false → contains (without_repeats (n ∷ seen) ns) name ≡ false → bytes_eq name n ≡ false
        → contains (cond b (without_repeats seen ns) (n ∷ without_repeats (n ∷ seen) ns)) name ≡ false
    by true g h o = g
    by false g h o = ap (λ b. b || contains (without_repeats (n ∷ seen) ns) name) o ∙ h

-- what is at a number in a list, or no bytes
pub at_number : (name : Name) (ns : List Name) (k : ℕ) → contains ns name ≡ false → bytes_eq name [] ≡ false → bytes_eq name (slice_index_or ns k []) ≡ false
at_number name [] k h e = e
at_number name (n ∷ ns) zero h e = (or_parts (bytes_eq name n) (contains ns name) h).0
at_number name (n ∷ ns) (suc k) h e = at_number name ns k (or_parts (bytes_eq name n) (contains ns name) h).1 e

pub no_label : (mandatory words : List Name) (code : Code) (name : Name) → IsCodeOf mandatory words code → contains (proof_labels words) name ≡ false → contains code.labels name ≡ false
no_label mandatory words code name is h = by (is_compressed words) is h
  where
    by : (b : Bool) → IsCodeWhere b mandatory words code → contains (cond b (labels_of (join_with_byte 32 words)) words) name ≡ false → contains code.labels name ≡ false
    by true spells g = ap (λ ns. contains ns name) spells.labels ∙ g
    by false e g = ap (λ (c : Code). contains c.labels name) e ∙ none_kept name (codes "?" ∷ mandatory) words g
