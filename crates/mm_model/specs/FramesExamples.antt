-- Frames and places of small databases, computed.
use Rattle.std.specs.Prelude.{◌≡◌, ℕ, true, false, List, [], ◌∷◌, ◌++◌, Some, None, map, codes, refl}
use Rattle.mm_base.specs.declared.symbols.Sym.{Sym}
use Rattle.mm_base.specs.declared.symbols.Pair.{Pair}
use Rattle.mm_model.specs.declared.frames.Hyp.{Hyp}
use Rattle.mm_model.specs.Names.{Name, sym, label, typecode}
use Rattle.mm_model.specs.Statements.{Statement, statements, database_fault, labels, path}
use Rattle.mm_model.specs.Frames.{symbols, positions, end_of, below, active_at, is_constant_at, frame_of, place_after, proof_range, float_codes}

abbrev syms : List ℕ → List Sym
syms ns = map sym ns

abbrev float : Name → List ℕ → Hyp
float name formula = record { name = name; floating = true; formula = syms formula }

abbrev essential : Name → List ℕ → Hyp
essential name formula = record { name = name; floating = false; formula = syms formula }

abbrev pair : ℕ → ℕ → Pair
pair a b = record { a = sym a; b = sym b }

-- ---- implication and modus ponens

abbrev pub P : List ℕ
P = codes
    "$c ( ) -> -. wff |- $. $v ph ps ch $. wph $f wff ph $. wps $f wff ps $. wch $f wff ch $. wn $a wff -. ph $. wi $a wff ( ph -> ps ) $. ${ min $e |- ph $. maj $e |- ( ph -> ps ) $. ax-mp $a |- ps $. $} ax-1 $a |- ( ph -> ( ps -> ph ) ) $. ax-2 $a |- ( ( ph -> ( ps -> ch ) ) -> ( ( ph -> ps ) -> ( ph -> ch ) ) ) $."

abbrev S : List Statement
S = statements P

pub P_clean : database_fault P ≡ None
P_clean = refl

pub P_symbols : symbols S ≡ codes "(" ∷ codes ")" ∷ codes "->" ∷ codes "-." ∷ codes "wff" ∷ codes "|-" ∷ codes "ph" ∷ codes "ps" ∷ codes "ch" ∷ []
P_symbols = refl

pub P_labels : labels S ≡ codes "wph" ∷ codes "wps" ∷ codes "wch" ∷ codes "wn" ∷ codes "wi" ∷ codes "min" ∷ codes "maj" ∷ codes "ax-mp" ∷ codes "ax-1" ∷ codes "ax-2" ∷ []
P_labels = refl

pub P_positions : positions S ≡ 2 ∷ 3 ∷ 4 ∷ 5 ∷ 6 ∷ 8 ∷ 9 ∷ 10 ∷ 12 ∷ 13 ∷ []
P_positions = refl

pub P_end : end_of S ≡ 14
P_end = refl

abbrev wph : Hyp
wph = float (codes "wph") (4 ∷ 6 ∷ [])

abbrev wps : Hyp
wps = float (codes "wps") (4 ∷ 7 ∷ [])

abbrev wch : Hyp
wch = float (codes "wch") (4 ∷ 8 ∷ [])

abbrev min : Hyp
min = essential (codes "min") (5 ∷ 6 ∷ [])

abbrev maj : Hyp
maj = essential (codes "maj") (5 ∷ 0 ∷ 6 ∷ 2 ∷ 7 ∷ 1 ∷ [])

pub P_frame_wn : frame_of S (label 3) ≡ Some (record { label = label 3; is_axiom = true; at = 5; formula = syms (4 ∷ 3 ∷ 6 ∷ []); hyps = wph ∷ []; pairs = [] })
P_frame_wn = refl

pub P_frame_ax-mp : frame_of S (label 7) ≡ Some (record { label = label 7; is_axiom = true; at = 10; formula = syms (5 ∷ 7 ∷ []); hyps = wph ∷ wps ∷ min ∷ maj ∷ []; pairs = [] })
P_frame_ax-mp = refl

pub P_frame_ax-1 : frame_of S (label 8)
    ≡ Some
    (record {
      label = label 8;
      is_axiom = true;
      at = 12;
      formula = syms (5 ∷ 0 ∷ 6 ∷ 2 ∷ 0 ∷ 7 ∷ 2 ∷ 6 ∷ 1 ∷ 1 ∷ []);
      hyps = wph ∷ wps ∷ [];
      pairs = [];
    })
P_frame_ax-1 = refl

-- a `$f` and a `$e` have no frame, nor has a number that is no label's
pub P_frame_wph : frame_of S (label 0) ≡ None
P_frame_wph = refl

pub P_frame_min : frame_of S (label 5) ≡ None
P_frame_min = refl

pub P_frame_none : frame_of S (label 10) ≡ None
P_frame_none = refl

-- at the start nothing is active
pub P_active_first : active_at S 0 ≡ record { variables = []; hyps = []; pairs = [] }
P_active_first = refl

-- at ax-mp its `$e` are active, and behind the block no more
pub P_active_inside : active_at S 10 ≡ record { variables = syms (6 ∷ 7 ∷ 8 ∷ []); hyps = wph ∷ wps ∷ wch ∷ min ∷ maj ∷ []; pairs = [] }
P_active_inside = refl

pub P_active_end : active_at S 14 ≡ record { variables = syms (6 ∷ 7 ∷ 8 ∷ []); hyps = wph ∷ wps ∷ wch ∷ []; pairs = [] }
P_active_end = refl

pub P_constant : is_constant_at S (sym 5) 1 ≡ true
P_constant = refl

pub P_constant_later : is_constant_at S (sym 5) 0 ≡ false
P_constant_later = refl

pub P_no_constant : is_constant_at S (sym 6) 14 ≡ false
P_no_constant = refl

-- the place after ax-mp is behind its block, that after wi just behind wi, that after ax-2 the end
pub P_after_ax-mp : place_after S (label 7) ≡ 12
P_after_ax-mp = refl

pub P_after_min : place_after S (label 5) ≡ 12
P_after_min = refl

pub P_after_wi : place_after S (label 4) ≡ 7
P_after_wi = refl

pub P_after_ax-2 : place_after S (label 9) ≡ 14
P_after_ax-2 = refl

pub P_float_codes : float_codes S 4 ≡ typecode (sym 4) ∷ typecode (sym 4) ∷ []
P_float_codes = refl

-- ---- nested blocks, a local variable, distinct variables, and a proof

abbrev nested : List ℕ
nested =
    codes
    "$c |- w s E $. $v p x $. wp $f w p $. sx $f s x $. ${ $v y $. sy $f s y $. $d y x p $. all $a w E x p $. ${ $d p x $. one $e |- p $. two $p |- E x p $= one all $. three $a |- E y p $. $} four $a |- p $. $}"

abbrev N : List Statement
N = statements nested

pub N_clean : database_fault nested ≡ None
N_clean = refl

-- a variable of an active `$f` gets no second one, and a variable of a closed block is no variable
pub N_typed_twice : database_fault (nested ++ codes " sy2 $f s p $.") ≡ Some (record { place = 215; code = 15 })
N_typed_twice = refl

pub N_local : database_fault (nested ++ codes " sy2 $f s y $.") ≡ Some (record { place = 215; code = 13 })
N_local = refl

pub N_symbols : symbols N ≡ codes "|-" ∷ codes "w" ∷ codes "s" ∷ codes "E" ∷ codes "p" ∷ codes "x" ∷ codes "y" ∷ []
N_symbols = refl

pub N_path : path (below N 13) ≡ 9 ∷ 4 ∷ []
N_path = refl

abbrev wp : Hyp
wp = float (codes "wp") (1 ∷ 4 ∷ [])

abbrev sx : Hyp
sx = float (codes "sx") (2 ∷ 5 ∷ [])

abbrev sy : Hyp
sy = float (codes "sy") (2 ∷ 6 ∷ [])

abbrev one : Hyp
one = essential (codes "one") (0 ∷ 4 ∷ [])

-- y is not mandatory
pub N_frame_all : frame_of N (label 3) ≡ Some (record { label = label 3; is_axiom = true; at = 8; formula = syms (1 ∷ 3 ∷ 5 ∷ 4 ∷ []); hyps = wp ∷ sx ∷ []; pairs = pair 4 5 ∷ [] })
N_frame_all = refl

-- the pair stands in two `$d` and is listed once
pub N_frame_two : frame_of N (label 5) ≡ Some (record { label = label 5; is_axiom = false; at = 12; formula = syms (0 ∷ 3 ∷ 5 ∷ 4 ∷ []); hyps = wp ∷ sx ∷ one ∷ []; pairs = pair 4 5 ∷ [] })
N_frame_two = refl

pub N_frame_three : frame_of N (label 6) ≡ Some (record { label = label 6; is_axiom = true; at = 13; formula = syms (0 ∷ 3 ∷ 6 ∷ 4 ∷ []); hyps = wp ∷ sy ∷ one ∷ []; pairs = pair 4 6 ∷ [] })
N_frame_three = refl

pub N_frame_four : frame_of N (label 7) ≡ Some (record { label = label 7; is_axiom = true; at = 15; formula = syms (0 ∷ 4 ∷ []); hyps = wp ∷ []; pairs = [] })
N_frame_four = refl

pub N_active_inside : active_at N 13 ≡ record { variables = syms (4 ∷ 5 ∷ 6 ∷ []); hyps = wp ∷ sx ∷ sy ∷ one ∷ []; pairs = pair 4 5 ∷ pair 4 6 ∷ pair 5 6 ∷ [] }
N_active_inside = refl

pub N_active_outer : active_at N 15 ≡ record { variables = syms (4 ∷ 5 ∷ 6 ∷ []); hyps = wp ∷ sx ∷ sy ∷ []; pairs = pair 4 5 ∷ pair 4 6 ∷ pair 5 6 ∷ [] }
N_active_outer = refl

pub N_active_end : active_at N 17 ≡ record { variables = syms (4 ∷ 5 ∷ []); hyps = wp ∷ sx ∷ []; pairs = [] }
N_active_end = refl

pub N_after_two : place_after N (label 5) ≡ 17
N_after_two = refl

pub N_after_wp : place_after N (label 0) ≡ 3
N_after_wp = refl

pub N_proof_two : proof_range N (label 5) ≡ Some (151, 160)
N_proof_two = refl

pub N_proof_three : proof_range N (label 6) ≡ None
N_proof_three = refl

-- the `$f` of y counts where it is no longer active
pub N_float_codes : float_codes N 17 ≡ typecode (sym 1) ∷ typecode (sym 2) ∷ typecode (sym 2) ∷ []
N_float_codes = refl
