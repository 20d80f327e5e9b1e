-- Words of the command line, computed.
use Rattle.std.specs.Prelude.{◌≡◌, ℕ, Bool, true, false, List, [], ◌∷◌, map, Option, Some, is_some, codes, refl}
use Rattle.std.specs.Fmt.{digits}
use Rattle.proof_model.specs.ExampleFrames.{split}
use Rattle.written_model.specs.declared.options.DvMode.TheVariants as dv
use Rattle.written_model.specs.declared.options.Options.{Options}
use Rattle.written_model.specs.declared.options.ProofStyle.TheVariants as style
use Rattle.call_answers.specs.CommandLine.{Command, unify, verify, trial, export, install, select, auto, sheet_command, theorem_command, trial_number, command_of}

abbrev command : List ℕ → Option Command
command line = command_of (split line)

abbrev compressed : Options
compressed = record { style = style.Compressed; kinds = record { provable = codes "|-"; logic = codes "wff" }; dv = dv.Add }

abbrev changed : Options
changed = record { style = style.Normal; kinds = record { provable = codes "T"; logic = codes "form" }; dv = dv.Given }

abbrev over : Options → Bool → Command
over options is_in_place = unify (sheet_command options (codes "P.mm") (codes "r.mmp")) is_in_place

pub plain : command (codes "unify P.mm r.mmp") ≡ Some (over compressed false)
plain = refl

pub in_any_order : command (codes "unify --logic=form --dv=given --in-place --provable=T --proof=normal P.mm r.mmp")
    ≡ Some (over changed true)
in_any_order = refl

-- a value may hold `=`
pub value_with_sign : command (codes "unify --provable=a=b P.mm r.mmp") ≡ Some (over (record compressed { kinds = record { provable = codes "a=b"; logic = codes "wff" } }) false)
value_with_sign = refl

pub verified : command (codes "verify V.mm good") ≡ Some (verify (theorem_command (codes "V.mm") (codes "good")))
verified = refl

pub exported : command (codes "export --dv=given V.mm good") ≡ Some (export (record compressed { dv = dv.Given }) (theorem_command (codes "V.mm") (codes "good")))
exported = refl

pub exported_in_any_order : command (codes "export --logic=form --dv=given --provable=T --proof=normal V.mm good") ≡ Some (export changed (theorem_command (codes "V.mm") (codes "good")))
exported_in_any_order = refl

pub installed : command (codes "install P.mm r.mmp") ≡ Some (install (sheet_command compressed (codes "P.mm") (codes "r.mmp")))
installed = refl

pub selected : command (codes "select --dv=given P.mm r.mmp qed")
    ≡ Some (select (sheet_command (record compressed { dv = dv.Given }) (codes "P.mm") (codes "r.mmp")) (codes "qed"))
selected = refl

pub filled : command (codes "auto --proof=normal P.mm r.mmp")
    ≡ Some (auto (sheet_command (record compressed { style = style.Normal }) (codes "P.mm") (codes "r.mmp")))
filled = refl

pub tried : command (codes "trial 12") ≡ Some (trial 12)
unfolding digits trial_number
tried = refl

abbrev is_command : List ℕ → Bool
is_command line = is_some (command line)

-- an option twice, also with two values; an option that is none, has no value, an empty one or one too many; one behind the files; one typecode
pub no_options : map is_command (codes "unify --proof=normal --proof=compressed P.mm r.mmp" ∷ codes "unify --in-place --in-place P.mm r.mmp" ∷ codes "unify -- P.mm r.mmp"
    ∷ codes "unify --proof P.mm r.mmp" ∷ codes "unify --logic= P.mm r.mmp" ∷ codes "unify --in-place= P.mm r.mmp" ∷ codes "unify P.mm r.mmp --proof=normal"
    ∷ codes "unify --provable=wff P.mm r.mmp" ∷ codes "unify --logic=|- P.mm r.mmp" ∷ codes "unify --provable=T --logic=T P.mm r.mmp" ∷ [])
    ≡ false ∷ false ∷ false ∷ false ∷ false ∷ false ∷ false ∷ false ∷ false ∷ false ∷ []
no_options = refl

-- `--in-place` of another command than `unify`; an option twice; names too few or too many
pub no_further_command : map is_command (codes "export --in-place V.mm good" ∷ codes "install --in-place P.mm r.mmp" ∷ codes "export --dv=add --dv=given V.mm good"
    ∷ codes "install --provable=wff P.mm r.mmp" ∷ codes "export V.mm" ∷ codes "export V.mm good bad" ∷ codes "export V.mm --good" ∷ codes "install P.mm" ∷ codes "install P.mm r.mmp s"
    ∷ codes "select P.mm r.mmp" ∷ codes "select P.mm r.mmp qed 1" ∷ codes "select P.mm r.mmp --qed" ∷ codes "select --in-place P.mm r.mmp qed" ∷ codes "auto P.mm" ∷ codes "auto P.mm r.mmp qed" ∷ codes "auto --in-place P.mm r.mmp" ∷ [])
    ≡ false ∷ false ∷ false ∷ false ∷ false ∷ false ∷ false ∷ false ∷ false ∷ false ∷ false ∷ false ∷ false ∷ false ∷ false ∷ false ∷ []
no_further_command = refl

-- options of `verify` and `trial`; a name too few or too many; another command; an empty one
pub no_command : map is_command (codes "verify --proof=normal V.mm good" ∷ codes "trial --proof=normal 1" ∷ codes "unify P.mm" ∷ codes "unify P.mm r.mmp s"
    ∷ codes "verify V.mm" ∷ codes "verify V.mm good bad" ∷ codes "verify V.mm --good" ∷ codes "trial" ∷ codes "trial 1 2" ∷ codes "check P.mm" ∷ codes "" ∷ [])
    ≡ false ∷ false ∷ false ∷ false ∷ false ∷ false ∷ false ∷ false ∷ false ∷ false ∷ false ∷ []
no_command = refl

-- no words at all; an empty name
pub no_words : map (λ words. is_some (command_of words)) ([] ∷ (codes "unify" ∷ codes "P.mm" ∷ [] ∷ []) ∷ (codes "verify" ∷ codes "V.mm" ∷ [] ∷ []) ∷ []) ≡ false ∷ false ∷ false ∷ []
no_words = refl

pub no_trial : map is_command (codes "trial 0" ∷ codes "trial 01" ∷ codes "trial 1001" ∷ codes "trial +1" ∷ []) ≡ false ∷ false ∷ false ∷ false ∷ []
unfolding digits trial_number
no_trial = refl

pub most_trial : is_command (codes "trial 1000") ≡ true
unfolding digits trial_number
most_trial = refl
