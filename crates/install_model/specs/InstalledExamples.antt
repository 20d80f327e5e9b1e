-- Theorems put into the text of a small database, computed.
use Rattle.std.specs.Prelude.{◌≡◌, List, ℕ, [], ◌∷◌, ◌++◌, flat_map, None, codes, refl}
use Rattle.mm_model.specs.Statements.{statements, labels, database_fault}
use Rattle.proof_model.specs.ExampleFrames.{split}
use Rattle.sheet_text.specs.Layout.{ended}
use Rattle.install_model.specs.declared.install.NewTheorem.{NewTheorem}
use Rattle.install_model.specs.Installed.{place_byte, block_lines, installed}

-- ---- a theorem with two hypotheses at the end of implication and modus ponens

abbrev implication : List (List ℕ)
implication =
    codes "$c ( ) -> wff |- $." ∷ codes "$v ph ps $." ∷ codes "wph $f wff ph $." ∷ codes "wps $f wff ps $." ∷ codes "wi $a wff ( ph -> ps ) $."
    ∷ codes "${ min $e |- ph $. maj $e |- ( ph -> ps ) $. ax-mp $a |- ps $. $}" ∷ codes "ax-1 $a |- ( ph -> ( ps -> ph ) ) $." ∷ []

abbrev modus_ponens : NewTheorem
modus_ponens = record {
  name = codes "r";
  pairs = [];
  hyps = (codes "r.1", split (codes "|- ph")) ∷ (codes "r.2", split (codes "|- ( ph -> ps )")) ∷ [];
  formula = split (codes "|- ps");
  proof = codes "( ax-mp ) ABCDE";
}

abbrev modus_ponens_block : List (List ℕ)
modus_ponens_block = codes "${" ∷ codes "r.1 $e |- ph $." ∷ codes "r.2 $e |- ( ph -> ps ) $." ∷ codes "r $p |- ps $= ( ax-mp ) ABCDE $." ∷ codes "$}" ∷ []

-- the lines stand between the last `$.` and the LF behind it
pub at_end : installed (flat_map ended implication) 11 modus_ponens ≡ flat_map ended (implication ++ modus_ponens_block ++ [] ∷ [])
at_end = refl

pub end_is_sound : database_fault (installed (flat_map ended implication) 11 modus_ponens) ≡ None
end_is_sound = refl

-- ---- a theorem with a pair

abbrev with_pair : NewTheorem
with_pair = record {
  name = codes "dm";
  pairs = (codes "ph", codes "x") ∷ [];
  hyps = [];
  formula = split (codes "|- ( ph -> ph )");
  proof = codes "( vx ax-5 drop ) ABABCD";
}

pub pair_block : block_lines with_pair ≡ codes "${" ∷ codes "$d ph x $." ∷ codes "dm $p |- ( ph -> ph ) $= ( vx ax-5 drop ) ABABCD $." ∷ codes "$}" ∷ []
pair_block = refl

-- ---- a theorem within a short text

abbrev short : List ℕ
short = codes "$c |- w $. $v p q $. wp $f w p $. wq $f w q $. a $a |- p $. $( none $) b $p |- q $= wq a $."

abbrev t : NewTheorem
t = record { name = codes "t"; pairs = (codes "p", codes "q") ∷ []; hyps = (codes "t.1", split (codes "|- q")) ∷ []; formula = split (codes "|- p"); proof = codes "wp a" }

pub first_byte : place_byte (statements short) 0 ≡ 0
first_byte = refl

-- behind `a`, before the comment
pub byte : place_byte (statements short) 5 ≡ 59
byte = refl

pub within : installed short 5 t
    ≡ codes "$c |- w $. $v p q $. wp $f w p $. wq $f w q $. a $a |- p $."
    ++ 10 ∷ flat_map ended (codes "${" ∷ codes "$d p q $." ∷ codes "t.1 $e |- q $." ∷ codes "t $p |- p $= wp a $." ∷ codes "$}" ∷ [])
    ++ codes " $( none $) b $p |- q $= wq a $."
within = refl

pub within_is_sound : database_fault (installed short 5 t) ≡ None
within_is_sound = refl

pub within_labels : labels (statements (installed short 5 t)) ≡ split (codes "wp wq a t.1 t b")
within_labels = refl
