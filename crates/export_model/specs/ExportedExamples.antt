-- Proofs of databases as worksheets, computed.
use Rattle.std.specs.Prelude.{◌≡◌, ℕ, ◌-◌, ◌==◌, nat_le, if◌then◌else◌, true, false, List, [], ◌∷◌, ◌++◌, map, None, option_and_then, option_map, unwrap_or, codes, refl}
use Rattle.std.specs.Fmt.{digits}
use Rattle.mm_model.specs.Names.{Name, label_named}
use Rattle.mm_model.specs.Statements.{Statement, statements, labels, database_fault}
use Rattle.mm_model.specs.Frames.{symbols, positions, end_of, frame_of, active_at, is_constant_at, place_after, float_codes}
use Rattle.mm_model.specs.Book.{Database}
use Rattle.proof_model.specs.declared.code.What.{What}
use Rattle.proof_model.specs.declared.code.What.TheVariants as what
use Rattle.proof_model.specs.declared.code.Code.{Code}
use Rattle.proof_model.specs.declared.theorem.Theorem.{Theorem}
use Rattle.proof_model.specs.Codes.{step, normal_code}
use Rattle.proof_model.specs.DatabaseProofs.{theorem_of_frame, proof_of}
use Rattle.proof_model.specs.ExampleFrames.{split}
use Rattle.proof_model.specs.Machine.{proof_fault}
use Rattle.solve_model.specs.ExampleSheets.{sheet_text}
use Rattle.written_model.specs.Written.{frames_of}
use Rattle.export_model.specs.Exported.{export_text}

-- ---- theorems by their names

-- the database of these statements, without productions and usable assertions
abbrev book_of : List Statement → Database
book_of ss = record {
  provable = codes "|-";
  logic = codes "wff";
  symbols = symbols ss;
  labels = labels ss;
  positions = positions ss;
  statement_count = end_of ss;
  frame = frame_of ss;
  active_at = active_at ss;
  is_constant_at = is_constant_at ss;
  place_after = place_after ss;
  float_codes = float_codes ss;
  rows = [];
  usable = λ l. None;
}

abbrev no_theorem : Theorem
no_theorem = record { at = 0; formula = []; hyps = []; mandatory = []; pairs = [] }

abbrev stated : List Statement → Name → Theorem
stated ss name = unwrap_or (option_and_then (λ l. option_map (theorem_of_frame ss) (frame_of ss l)) (label_named (labels ss) name)) no_theorem

abbrev words_of : List Statement → Name → List Name
words_of ss name = unwrap_or (option_and_then (proof_of ss) (label_named (labels ss) name)) []

-- the worksheet of a theorem with this code, and that of one with its normal proof
abbrev exported_with : List Statement → Name → Code → List ℕ
exported_with ss name code = export_text (book_of ss) (stated ss name) name code

abbrev exported : List Statement → Name → List ℕ
exported ss name = exported_with ss name (normal_code (stated ss name).mandatory (words_of ss name))

-- ---- implication

abbrev implication : List ℕ
implication =
    codes
    "$c ( ) -> wff |- $. $v ph ps ch $. wph $f wff ph $. wps $f wff ps $. wch $f wff ch $. wi $a wff ( ph -> ps ) $. ${ min $e |- ph $. maj $e |- ( ph -> ps ) $. ax-mp $a |- ps $. $} ax-1 $a |- ( ph -> ( ps -> ph ) ) $. ax-2 $a |- ( ( ph -> ( ps -> ch ) ) -> ( ( ph -> ps ) -> ( ph -> ch ) ) ) $. "

abbrev P : List ℕ
P = implication
    ++ codes
    "good $p |- ( ph -> ( ps -> ph ) ) $= wph wps ax-1 $. id $p |- ( ph -> ph ) $= ( ) A $. ${ i.1 $e |- ph $. idi $p |- ph $= i.1 $. $} ${ s.1 $e |- ( ph -> ( ps -> ch ) ) $. s.2 $e |- ph $. syl $p |- ( ps -> ch ) $= wph wps wch wi s.2 s.1 ax-mp $. $} ${ $d ph ps $. self $p |- ( ph -> ( ph -> ph ) ) $= wph wph ax-1 $. $}"

abbrev S : List Statement
S = statements P

pub sound : database_fault P ≡ None
sound = refl

pub good : exported S (codes "good") ≡ sheet_text (codes "good") (codes "?") (codes "qed::ax-1 |- ( ph -> ( ps -> ph ) )" ∷ [])
unfolding digits
good = refl

-- no assertion gives the formula
pub idi : exported S (codes "idi") ≡ sheet_text (codes "idi") (codes "?") (codes "h1::i.1 |- ph" ∷ codes "qed:: |- ph" ∷ [])
unfolding digits
idi = refl

-- the `$e` are in order of appearance, and each place names the one with its formula
pub syl : exported S (codes "syl")
    ≡ sheet_text (codes "syl") (codes "?")
    (codes "h1::s.1 |- ( ph -> ( ps -> ch ) )" ∷ codes "h2::s.2 |- ph" ∷ codes "qed:2,1:ax-mp |- ( ps -> ch )" ∷ [])
unfolding digits
syl = refl

-- all active pairs are printed
pub self : exported S (codes "self") ≡ sheet_text (codes "self") (codes "?") (codes "qed::ax-1 |- ( ph -> ( ph -> ph ) )" ∷ codes "$d ph ps" ∷ [])
unfolding digits
self = refl

-- ---- formulas that are given before

abbrev again : List Statement
again =
    statements
    (implication
    ++ codes
    "${ x.1 $e |- ph $. x.2 $e |- ( ph -> ph ) $. x $p |- ph $= wph wph wph wph x.1 x.2 ax-mp x.2 ax-mp $. $} ${ y.1 $e |- ph $. y.2 $e |- ( ph -> ps ) $. y.3 $e |- ( ps -> ps ) $. y.4 $e |- ( ps -> ch ) $. y $p |- ch $= wps wch wps wps wph wps y.1 y.2 ax-mp y.3 ax-mp y.4 ax-mp $. $} ${ z.1 $e |- ph $. z.2 $e |- ph $. z.3 $e |- ( ph -> ps ) $. z $p |- ps $= wph wps z.2 z.3 ax-mp $. $}")

-- the first step that gives the theorem's formula is the last one of the worksheet; a `$e` with that formula gives none
pub x : exported again (codes "x") ≡ sheet_text (codes "x") (codes "?") (codes "h1::x.1 |- ph" ∷ codes "h2::x.2 |- ( ph -> ph )" ∷ codes "qed:1,2:ax-mp |- ph" ∷ [])
unfolding digits
x = refl

-- a formula that is given again makes no second step
pub y : exported again (codes "y")
    ≡ sheet_text (codes "y") (codes "?")
    (codes "h1::y.1 |- ph" ∷ codes "h2::y.2 |- ( ph -> ps )" ∷ codes "h3::y.3 |- ( ps -> ps )" ∷ codes "h4::y.4 |- ( ps -> ch )"
    ∷ codes "5:1,2:ax-mp |- ps" ∷ codes "qed:5,4:ax-mp |- ch" ∷ [])
unfolding digits
y = refl

-- of two `$e` with one formula both are steps, and a place names the first
pub z : exported again (codes "z")
    ≡ sheet_text (codes "z") (codes "?")
    (codes "h1::z.1 |- ph" ∷ codes "h2::z.2 |- ph" ∷ codes "h3::z.3 |- ( ph -> ps )" ∷ codes "qed:1,3:ax-mp |- ps" ∷ [])
unfolding digits
z = refl

-- a `$f` of the provable typecode gives no step
abbrev typed : List Statement
typed = statements (codes "$c |- wff $. $v p q $. ff $f |- p $. ${ k.1 $e |- p $. k $a |- p p $. $} th $p |- p p $= ff ff k $.")

pub th : exported typed (codes "th") ≡ sheet_text (codes "th") (codes "?") (codes "qed:?:k |- p p" ∷ [])
unfolding digits
th = refl

-- ---- a compressed proof: what is kept gives no formula again

-- the step of a letter, where one hypothesis is mandatory and four labels are listed
abbrev what_of : ℕ → What
what_of n = if n == 65 then what.Hyp 0 else (if nat_le n 69 then what.Listed (n - 66) else what.Again (n - 70))

-- `wi` of two terms is kept twice
abbrev id_code : Code
id_code = record {
  labels = split (codes "wi ax-1 ax-2 ax-mp");
  steps =
      map (λ n. step (what_of n) false) (codes "AAA")
      ++ step (what.Listed 0) true ∷ step (what.Listed 0) true ∷ map (λ n. step (what_of n) false) (codes "FAACAFABBGFBAFCAFADEE");
}

pub id_accepted : proof_fault (frames_of (book_of S)) (stated S (codes "id")) id_code ≡ None
id_accepted = refl

pub id : exported_with S (codes "id") id_code
    ≡ sheet_text (codes "id") (codes "?") (codes "1::ax-1 |- ( ph -> ( ph -> ph ) )" ∷ codes "2::ax-1 |- ( ph -> ( ( ph -> ph ) -> ph ) )"
    ∷ codes "3::ax-2 |- ( ( ph -> ( ( ph -> ph ) -> ph ) ) -> ( ( ph -> ( ph -> ph ) ) -> ( ph -> ph ) ) )"
    ∷ codes "4:2,3:ax-mp |- ( ( ph -> ( ph -> ph ) ) -> ( ph -> ph ) )" ∷ codes "qed:1,4:ax-mp |- ( ph -> ph )" ∷ [])
unfolding digits
id = refl

-- ---- a label of a theorem of another typecode

abbrev classes : List Statement
classes =
    statements
    (codes
    "$c ( ) -> = wff class setvar |- $. $v ph ps x y A B $. wph $f wff ph $. wps $f wff ps $. vx $f setvar x $. vy $f setvar y $. cA $f class A $. cB $f class B $. wi $a wff ( ph -> ps ) $. cv $a class x $. wceq $a wff A = B $. ax-1 $a |- ( ph -> ( ps -> ph ) ) $. weq2 $p wff x = y $= vx cv vy cv wceq $. eqt $p |- ( x = y -> ( ph -> x = y ) ) $= vx vy weq2 wph ax-1 $.")

pub eqt : exported classes (codes "eqt") ≡ sheet_text (codes "eqt") (codes "?") (codes "qed::ax-1 |- ( x = y -> ( ph -> x = y ) )" ∷ [])
unfolding digits
eqt = refl

-- the theorem's own typecode is another one: no assertion gives its formula
pub weq2 : exported classes (codes "weq2") ≡ sheet_text (codes "weq2") (codes "?") (codes "qed:: wff x = y" ∷ [])
unfolding digits
weq2 = refl
