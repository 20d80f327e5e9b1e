-- The theorems and proofs of a small database, from its bytes to the machine.
use Rattle.std.specs.Prelude.{◌≡◌, ℕ, false, List, [], ◌∷◌, Option, Some, None, option_and_then, option_map, map, codes, refl}
use Rattle.mm_model.specs.Faults.{fault}
use Rattle.mm_model.specs.Names.{label_named}
use Rattle.mm_model.specs.Statements.{Statement, statements, labels, database_fault}
use Rattle.proof_model.specs.declared.theorem.Theorem.{Theorem}
use Rattle.proof_model.specs.declared.code.What.TheVariants as what
use Rattle.proof_model.specs.declared.code.Code.{Code}
use Rattle.proof_model.specs.Machine.{MachineFault, result_differs, unknown, left_over, proof_fault}
use Rattle.proof_model.specs.Codes.{step, normal_code}
use Rattle.proof_model.specs.DatabaseProofs.{frames_of_database, theorem_of_frame, proof_of, proof_code_fault, IsCodeOf}
use Rattle.proof_model.specs.ExampleFrames.{split}

-- the first axiom of implication, and theorems with a compressed proof, one with a fault, another formula, a `?` and no words
abbrev V : List ℕ
V = codes
    "$c ( ) -> wff |- $. $v ph ps $. wph $f wff ph $. wps $f wff ps $. ax-1 $a |- ( ph -> ( ps -> ph ) ) $. good $p |- ( ph -> ( ps -> ph ) ) $= ( ax-1 ) A $( the others $) BC $. bad $p |- ( ph -> ( ps -> ph ) ) $= ( ) ZA $. wrong $p |- ( ph -> ( ph -> ph ) ) $= wph wps ax-1 $. open $p |- ph $= ? $. empty $p |- ph $= $."

abbrev stated : List Statement
stated = statements V

pub no_fault : database_fault V ≡ None
no_fault = refl

abbrev words_of : List ℕ → Option (List (List ℕ))
words_of name = option_and_then (proof_of stated) (label_named (labels stated) name)

abbrev mandatory_of : List ℕ → Option (List (List ℕ))
mandatory_of name = option_map (λ f. (theorem_of_frame stated f).mandatory) (frames_of_database stated name)

-- ---- what stands between `$=` and `$.`

pub proofs : map words_of (codes "good" ∷ codes "bad" ∷ codes "open" ∷ codes "empty" ∷ codes "ax-1" ∷ codes "wph" ∷ codes "other" ∷ [])
    ≡ Some (split (codes "( ax-1 ) A BC")) ∷ Some (split (codes "( ) ZA")) ∷ Some (codes "?" ∷ []) ∷ Some [] ∷ None ∷ None ∷ None ∷ []
proofs = refl

pub mandatory : map mandatory_of (codes "good" ∷ codes "wrong" ∷ codes "wph" ∷ []) ≡ Some (split (codes "wph wps")) ∷ Some (codes "wph" ∷ []) ∷ None ∷ []
mandatory = refl

-- ---- faults of the code

pub good_code : proof_code_fault (split (codes "wph wps")) (split (codes "( ax-1 ) A BC")) ≡ None
good_code = refl

pub bad_code : proof_code_fault (split (codes "wph wps")) (split (codes "( ) ZA")) ≡ Some (fault 0 3)
bad_code = refl

-- a normal proof has none
pub normal_codes : map (λ text. proof_code_fault (codes "wph" ∷ []) (split text)) (codes "wph wps ax-1" ∷ codes "?" ∷ [] ∷ []) ≡ None ∷ None ∷ None ∷ []
normal_codes = refl

-- ---- on the machine

-- the fault of a code for the theorem of this name
abbrev refused : List ℕ → (Theorem → Code) → Option (Option (ℕ × MachineFault))
refused name code =
    option_map (λ f. proof_fault (frames_of_database stated) (theorem_of_frame stated f) (code (theorem_of_frame stated f))) (frames_of_database stated name)

abbrev normal : List ℕ → Theorem → Code
normal text thm = normal_code thm.mandatory (split text)

pub good_accepted : refused (codes "good") (λ thm. record {
  labels = codes "ax-1" ∷ [];
  steps = step (what.Hyp 0) false ∷ step (what.Hyp 1) false ∷ step (what.Listed 0) false ∷ [];
}) ≡ Some None
good_accepted = refl

pub wrong_refused : refused (codes "wrong") (normal (codes "wph wps ax-1")) ≡ Some (Some (3, result_differs))
wrong_refused = refl

pub open_refused : refused (codes "open") (normal (codes "?")) ≡ Some (Some (0, unknown))
open_refused = refl

pub empty_refused : refused (codes "empty") (normal []) ≡ Some (Some (0, left_over 0))
empty_refused = refl

-- the code of a normal proof
pub wrong_code : IsCodeOf (codes "wph" ∷ []) (split (codes "wph wps ax-1")) (record {
  labels = split (codes "wps ax-1");
  steps = step (what.Hyp 0) false ∷ step (what.Listed 0) false ∷ step (what.Listed 1) false ∷ [];
})
wrong_code = refl
