-- The frames of two small databases, for examples: the first of the Metamath book, and implication with modus ponens.
use Rattle.std.specs.Prelude.{◌≡◌, ℕ, None, refl, true, false, List, [], ◌∷◌, map, find, option_map, unwrap_or, codes}
use Rattle.std.specs.Str.{bytes_eq}
use Rattle.mm_base.specs.declared.symbols.Sym.{Sym}
use Rattle.mm_base.specs.declared.symbols.Pair.{Pair}
use Rattle.mm_model.specs.declared.frames.Hyp.{Hyp}
use Rattle.mm_model.specs.declared.frames.Frame.{Frame}
use Rattle.mm_model.specs.Words.{words}
use Rattle.mm_model.specs.Names.{first_number}
use Rattle.mm_model.specs.Statements.{statements, labels, database_fault}
use Rattle.mm_model.specs.Frames.{active_at, end_of}
use Rattle.proof_model.specs.DatabaseProofs.{frames_of_database}
use Rattle.proof_model.specs.Machine.{Formula, Frames}

-- the words of a text
abbrev pub split : List ℕ → List (List ℕ)
split text = map (λ w. w.bytes) (words text)

-- the symbols of all examples, by number
abbrev symbols : List (List ℕ)
symbols = split (codes "0 + = -> ( ) term wff |- -. setvar class { | } A. t r s P Q ph ps ch x A")

abbrev pub sym : List ℕ → Sym
sym name = record { 0 = unwrap_or (first_number (bytes_eq name) symbols) 99 }

-- the formula that a text writes
abbrev pub formula : List ℕ → Formula
formula text = map sym (split text)

abbrev pub float : List ℕ → List ℕ → Hyp
float name text = record { name = name; floating = true; formula = formula text }

abbrev pub essential : List ℕ → List ℕ → Hyp
essential name text = record { name = name; floating = false; formula = formula text }

abbrev pub pair : List ℕ → List ℕ → Pair
pair a b = record { a = sym a; b = sym b }

-- an assertion by its label, the label's number, its statement's number, its formula, hypotheses and pairs
abbrev pub Named : Type 0
Named = List ℕ × Frame

abbrev pub assertion : List ℕ → ℕ → ℕ → List ℕ → List Hyp → List Pair → Named
assertion name label at text hyps pairs = (name, record { label = record { 0 = label }; is_axiom = true; at = at; formula = formula text; hyps = hyps; pairs = pairs })

abbrev pub frames_of : List Named → Frames
frames_of named label = option_map (λ (n : Named). n.1) (find (λ (n : Named). bytes_eq n.0 label) named)

-- ---- terms with zero and addition

abbrev pub tt' : Hyp
tt' = float (codes "tt") (codes "term t")

abbrev pub tr : Hyp
tr = float (codes "tr") (codes "term r")

abbrev pub ts : Hyp
ts = float (codes "ts") (codes "term s")

abbrev pub wp : Hyp
wp = float (codes "wp") (codes "wff P")

abbrev pub wq : Hyp
wq = float (codes "wq") (codes "wff Q")

abbrev pub demo : Frames
demo = frames_of (assertion (codes "tze") 5 7 (codes "term 0") [] [] ∷ assertion (codes "tpl") 6 8 (codes "term ( t + r )") (tt' ∷ tr ∷ []) []
    ∷ assertion (codes "weq") 7 9 (codes "wff t = r") (tt' ∷ tr ∷ []) [] ∷ assertion (codes "wim") 8 10 (codes "wff ( P -> Q )") (wp ∷ wq ∷ []) []
    ∷ assertion (codes "a1") 9 11 (codes "|- ( t = r -> ( t = s -> r = s ) )") (tt' ∷ tr ∷ ts ∷ []) [] ∷ assertion (codes "a2") 10 12 (codes "|- ( t + 0 ) = t") (tt' ∷ []) []
    ∷ assertion (codes "mp") 13 16 (codes "|- Q") (wp ∷ wq ∷ essential (codes "min") (codes "|- P") ∷ essential (codes "maj") (codes "|- ( P -> Q )") ∷ []) [] ∷ [])

-- a database that states them, with the symbols in the order of the examples
abbrev demo_text : List ℕ
demo_text =
    codes
    "$c 0 + = -> ( ) term wff |- -. setvar class { | } A. $. $v t r s P Q ph ps ch x A $. tt $f term t $. tr $f term r $. ts $f term s $. wp $f wff P $. wq $f wff Q $. tze $a term 0 $. tpl $a term ( t + r ) $. weq $a wff t = r $. wim $a wff ( P -> Q ) $. a1 $a |- ( t = r -> ( t = s -> r = s ) ) $. a2 $a |- ( t + 0 ) = t $. ${ min $e |- P $. maj $e |- ( P -> Q ) $. mp $a |- Q $. $}"

pub demo_fault : database_fault demo_text ≡ None
demo_fault = refl

-- its frames are these, label by label; a label of a hypothesis has none
pub demo_frames : map (frames_of_database (statements demo_text)) (labels (statements demo_text)) ≡ map demo (labels (statements demo_text))
demo_frames = refl

-- ---- implication

abbrev pub wph : Hyp
wph = float (codes "wph") (codes "wff ph")

abbrev pub wps : Hyp
wps = float (codes "wps") (codes "wff ps")

abbrev pub wch : Hyp
wch = float (codes "wch") (codes "wff ch")

abbrev pub vx : Hyp
vx = float (codes "vx") (codes "setvar x")

abbrev pub cA : Hyp
cA = float (codes "cA") (codes "class A")

-- modus ponens, its axioms, two inferences, a quantifier with a pair, and abstractions
abbrev pub logic : Frames
logic = frames_of (assertion (codes "wi") 4 6 (codes "wff ( ph -> ps )") (wph ∷ wps ∷ []) []
    ∷ assertion (codes "ax-mp") 7 10 (codes "|- ps") (wph ∷ wps ∷ essential (codes "min") (codes "|- ph") ∷ essential (codes "maj") (codes "|- ( ph -> ps )") ∷ []) []
    ∷ assertion (codes "ax-1") 8 12 (codes "|- ( ph -> ( ps -> ph ) )") (wph ∷ wps ∷ []) []
    ∷ assertion (codes "ax-2") 9 13 (codes "|- ( ( ph -> ( ps -> ch ) ) -> ( ( ph -> ps ) -> ( ph -> ch ) ) )") (wph ∷ wps ∷ wch ∷ []) []
    ∷ assertion (codes "cab") 11 15 (codes "class { x | ph }") (wph ∷ vx ∷ []) []
    ∷ assertion (codes "wal") 12 16 (codes "wff A. x ph") (wph ∷ vx ∷ []) []
    ∷ assertion (codes "a1i") 14 19 (codes "|- ( ps -> ph )") (wph ∷ wps ∷ essential (codes "a1i.1") (codes "|- ph") ∷ []) []
    ∷ assertion (codes "a2i") 16 23 (codes "|- ( ( ph -> ps ) -> ( ph -> ch ) )") (wph ∷ wps ∷ wch ∷ essential (codes "a2i.1") (codes "|- ( ph -> ( ps -> ch ) )") ∷ []) []
    ∷ assertion (codes "ax-5") 17 27 (codes "|- ( ph -> A. x ph )") (wph ∷ vx ∷ []) (pair (codes "ph") (codes "x") ∷ [])
    ∷ assertion (codes "eqid") 18 29 (codes "|- A = A") (cA ∷ []) []
    ∷ assertion (codes "drop") 20 32 (codes "|- ( ph -> ph )") (wph ∷ vx ∷ essential (codes "drop.1") (codes "|- ( ph -> A. x ph )") ∷ []) [] ∷ [])

-- the variables of the second, as a theorem has them
abbrev pub floats : List Hyp
floats = wph ∷ wps ∷ wch ∷ vx ∷ cA ∷ []

-- a database that states them
abbrev logic_text : List ℕ
logic_text =
    codes
    "$c 0 + = -> ( ) term wff |- -. setvar class { | } A. $. $v t r s P Q ph ps ch x A $. wph $f wff ph $. wps $f wff ps $. wch $f wff ch $. vx $f setvar x $. wi $a wff ( ph -> ps ) $. ${ min $e |- ph $. maj $e |- ( ph -> ps ) $. ax-mp $a |- ps $. $} ax-1 $a |- ( ph -> ( ps -> ph ) ) $. ax-2 $a |- ( ( ph -> ( ps -> ch ) ) -> ( ( ph -> ps ) -> ( ph -> ch ) ) ) $. cA $f class A $. cab $a class { x | ph } $. wal $a wff A. x ph $. ${ a1i.1 $e |- ph $. a1i $a |- ( ps -> ph ) $. $} ${ a2i.1 $e |- ( ph -> ( ps -> ch ) ) $. a2i $a |- ( ( ph -> ps ) -> ( ph -> ch ) ) $. $} ${ $d ph x $. ax-5 $a |- ( ph -> A. x ph ) $. $} eqid $a |- A = A $. ${ drop.1 $e |- ( ph -> A. x ph ) $. drop $a |- ( ph -> ph ) $. $}"

pub logic_fault : database_fault logic_text ≡ None
logic_fault = refl

pub logic_frames : map (frames_of_database (statements logic_text)) (labels (statements logic_text)) ≡ map logic (labels (statements logic_text))
logic_frames = refl

-- its active hypotheses at the end are those variables
pub logic_floats : (active_at (statements logic_text) (end_of (statements logic_text))).hyps ≡ floats
logic_floats = refl
