-- What `verify` says of the labels of a small database, computed.
use Rattle.std.specs.Prelude.{ℕ, List, codes, refl}
use Rattle.mm_model.specs.Faults.{fault}
use Rattle.mm_model.specs.Statements.{Statement, statements}
use Rattle.proof_model.specs.Codes.{normal_code}
use Rattle.proof_model.specs.ExampleFrames.{split}
use Rattle.call_answers.specs.Verified.{no_theorem, bad_code, refused, accepted, IsVerdictOver}

-- the first axiom of implication, and theorems with a normal proof, a fault of the code, another formula and no words
abbrev text : List ℕ
text =
    codes
    "$c ( ) -> wff |- $. $v ph ps $. wph $f wff ph $. wps $f wff ps $. ax-1 $a |- ( ph -> ( ps -> ph ) ) $. good $p |- ( ps -> ( ph -> ps ) ) $= wps wph ax-1 $. bad $p |- ( ph -> ( ps -> ph ) ) $= ( ) ZA $. wrong $p |- ( ph -> ( ph -> ph ) ) $= wph wps ax-1 $. empty $p |- ph $= $."

abbrev stated : List Statement
stated = statements text

pub of_axiom : IsVerdictOver stated (codes "ax-1") no_theorem
of_axiom = refl

pub of_code : IsVerdictOver stated (codes "bad") (bad_code (fault 0 3))
of_code = refl

pub of_good : IsVerdictOver stated (codes "good") accepted
of_good = (normal_code (split (codes "wph wps")) (split (codes "wps wph ax-1")), refl, refl)

pub of_wrong : IsVerdictOver stated (codes "wrong") (refused (fault 3 8))
of_wrong = (normal_code (split (codes "wph")) (split (codes "wph wps ax-1")), refl, refl)

pub of_empty : IsVerdictOver stated (codes "empty") (refused (fault 0 7))
of_empty = (normal_code (split (codes "wph")) (split (codes "")), refl, refl)
