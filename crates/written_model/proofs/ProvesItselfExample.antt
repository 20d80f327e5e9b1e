-- What a finished text says of itself.
use Rattle.std.specs.Prelude.{List, ℕ, [], ◌∷◌, codes, refl}
use Rattle.proof_model.specs.Codes.{normal_code}
use Rattle.solve_model.specs.Example.{P, split}
use Rattle.solve_model.specs.ExampleSheets.{sheet_after, sheet_text}
use Rattle.written_model.specs.ProvesItself.{ProvesItself}
use Rattle.written_model.specs.WrittenExample.{normal}

abbrev lines : List (List ℕ)
lines = codes "h1::u.1 |- ph" ∷ codes "d1::ax-1 |- ( ph -> ( ps -> ph ) )" ∷ codes "qed:1,d1:ax-mp |- ( ps -> ph )" ∷ codes "$= wph wps wph wi u.1 wph wps ax-1 ax-mp $." ∷ []

abbrev tokens : List (List ℕ)
tokens = split (codes "wph wps wph wi u.1 wph wps ax-1 ax-mp")

pub proves_itself : ProvesItself P normal (sheet_text (codes "u") (codes "?") lines)
proves_itself = record {
  sheet = sheet_after (codes "u") (codes "?") lines;
  reads = record { sound = refl; says = refl };
  tokens = tokens;
  has_proof = refl;
  code = normal_code (codes "wph" ∷ codes "wps" ∷ codes "u.1" ∷ []) tokens;
  is_code = refl;
  accepted = refl;
}
