-- A finished text with a compressed proof gives its theorem and a proof that is accepted for it; a proof that lists a mandatory hypothesis gives none.
use Rattle.std.specs.Prelude.{◌≡◌, ℕ, false, List, [], ◌∷◌, Some, None, codes, refl}
use Rattle.std.proofs.Common.{lit<}
use Rattle.mm_model.specs.Faults.{fault}
use Rattle.proof_model.specs.declared.code.What.{What}
use Rattle.proof_model.specs.declared.code.What.TheVariants as what
use Rattle.proof_model.specs.declared.code.Step.{Step}
use Rattle.proof_model.specs.declared.code.Code.{Code}
use Rattle.proof_model.specs.ProofCode.{SpellsSteps}
use Rattle.solve_model.specs.Example.{P, split}
use Rattle.solve_model.specs.ExampleSheets.{sheet_after, sheet_text}
use Rattle.written_model.specs.declared.options.ProofStyle.TheVariants as style
use Rattle.written_model.specs.ProvesItself.{IsProofCode, ProvesItself}
use Rattle.written_model.specs.WrittenExample.{compressed}

abbrev lines : List (List ℕ)
lines = codes "h1::u.1 |- ph" ∷ codes "d1::ax-1 |- ( ph -> ( ps -> ph ) )" ∷ codes "qed:1,d1:ax-mp |- ( ps -> ph )" ∷ codes "$= ( wi ax-1 ax-mp ) ABADCABEF $." ∷ []

abbrev tokens : List (List ℕ)
tokens = split (codes "( wi ax-1 ax-mp ) ABADCABEF")

abbrev mandatory : List (List ℕ)
mandatory = codes "wph" ∷ codes "wps" ∷ codes "u.1" ∷ []

abbrev plain : What → Step
plain w = record { what = w; marked = false }

abbrev code : Code
code = record {
  labels = codes "wi" ∷ codes "ax-1" ∷ codes "ax-mp" ∷ [];
  steps =
      plain (what.Hyp 0) ∷ plain (what.Hyp 1) ∷ plain (what.Hyp 0) ∷ plain (what.Listed 0) ∷ plain (what.Hyp 2) ∷ plain (what.Hyp 0)
      ∷ plain (what.Hyp 1) ∷ plain (what.Listed 1) ∷ plain (what.Listed 2) ∷ [];
}

-- each step is one letter
spells : SpellsSteps 3 3 (codes "ABADCABEF") code.steps
spells = (
  codes "A",
  codes "BADCABEF",
  refl,
  record { front = codes "A"; what = (refl, refl); whole = refl },
  (
    codes "B",
    codes "ADCABEF",
    refl,
    record { front = codes "B"; what = (refl, refl); whole = refl },
    (
      codes "A",
      codes "DCABEF",
      refl,
      record { front = codes "A"; what = (refl, refl); whole = refl },
      (
        codes "D",
        codes "CABEF",
        refl,
        record { front = codes "D"; what = (refl, refl); whole = refl },
        (
          codes "C",
          codes "ABEF",
          refl,
          record { front = codes "C"; what = (refl, refl); whole = refl },
          (
            codes "A",
            codes "BEF",
            refl,
            record { front = codes "A"; what = (refl, refl); whole = refl },
            (
              codes "B",
              codes "EF",
              refl,
              record { front = codes "B"; what = (refl, refl); whole = refl },
              (
                codes "E",
                codes "F",
                refl,
                record { front = codes "E"; what = (refl, refl); whole = refl },
                (codes "F", codes "", refl, record { front = codes "F"; what = (refl, refl); whole = refl }, refl),
              ),
            ),
          ),
        ),
      ),
    ),
  ),
)

is_code : IsProofCode style.Compressed mandatory tokens code
is_code = (refl, record { bracketed = refl; labels = refl; steps = spells; in_range = (lit< tt, (lit< tt, (lit< tt, (lit< tt, (lit< tt, (lit< tt, (lit< tt, (lit< tt, (lit< tt, tt))))))))) })

pub proves_itself : ProvesItself P compressed (sheet_text (codes "u") (codes "?") lines)
proves_itself = record {
  sheet = sheet_after (codes "u") (codes "?") lines;
  reads = record { sound = refl; says = refl };
  tokens = tokens;
  has_proof = refl;
  code = code;
  is_code = is_code;
  accepted = refl;
}

pub lists_mandatory : (other : Code) → IsProofCode style.Compressed mandatory (split (codes "( wph wi ax-1 ax-mp ) ABADCABEF")) other → ⊥
lists_mandatory other h = let bad : Some (fault 0 7) ≡ None = h.0 in cc
