-- A theorem that can be put in, with a pair and a `$e`.
use Rattle.std.specs.Prelude.{◌≡◌, ℕ, List, [], ◌∷◌, None, false, codes, refl}
use Rattle.std.proofs.Common.{lit≤}
use Rattle.mm_model.specs.Statements.{statements, database_fault}
use Rattle.mm_model.specs.Frames.{below}
use Rattle.proof_model.specs.ExampleFrames.{split}
use Rattle.install_model.specs.declared.install.NewTheorem.{NewTheorem}
use Rattle.install_model.specs.Installed.{installed}
use Rattle.installed_laws.specs.CanBePutIn.{CanBePutIn, is_formula, is_pair}

abbrev text : List ℕ
text = codes "$c |- w $. $v p q $. wp $f w p $. wq $f w q $. a $a |- p $. $( none $) b $p |- q $= wq a $."

abbrev t : NewTheorem
t = record { name = codes "t"; pairs = (codes "p", codes "q") ∷ []; hyps = (codes "t.1", split (codes "|- q")) ∷ []; formula = split (codes "|- p"); proof = codes "wp a" }

pub can : CanBePutIn text 5 t
can = record {
  within = lit≤ tt;
  outside = refl;
  plain = record {
    name = ((refl, tt), refl);
    pairs = ((((refl, tt), refl), ((refl, tt), refl)), tt);
    hyps = ((((refl, (refl, (refl, tt))), refl), (((refl, (refl, tt)), refl), (((refl, tt), refl), tt))), tt);
    formula = (((refl, (refl, tt)), refl), (((refl, tt), refl), tt));
    proof = refl;
  };
  label_bytes = (refl, (refl, tt));
  labels_new = (refl, (refl, tt));
  labels_differ = refl;
  pairs = (refl, tt);
  hyps = (refl, tt);
  formula = refl;
  proof_bytes = refl;
}

pub is_sound : database_fault (installed text 5 t) ≡ None
is_sound = refl

-- at the second place no variable is declared
pub no_pair : is_pair (below (statements text) 1) (codes "p", codes "q") ≡ false
no_pair = refl

-- at the third the variables have no typecode
pub no_formula : is_formula (below (statements text) 2) (split (codes "|- p")) ≡ false
no_formula = refl

-- a formula begins with a constant
pub begins_with_variable : is_formula (below (statements text) 5) (split (codes "p q")) ≡ false
begins_with_variable = refl
