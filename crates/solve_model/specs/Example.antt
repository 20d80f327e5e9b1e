-- Small databases, for examples: implication with modus ponens, the same with a theorem, with a `$e` outside blocks, and with classes and quantifiers.
use Rattle.std.specs.Prelude.{ℕ, true, false, ◌&&◌, ◌||◌, ◌==◌, nat_lt, nat_le, List, [], ◌∷◌, ◌++◌, map, filter, take, slice_index_or, unwrap_or, if◌then◌else◌, Option, Some, None, codes}
use Rattle.std.specs.Str.{bytes_eq}
use Rattle.mm_base.specs.declared.symbols.Sym.{Sym}
use Rattle.mm_base.specs.declared.symbols.Label.{Label}
use Rattle.mm_base.specs.declared.symbols.Typecode.{Typecode}
use Rattle.mm_base.specs.declared.symbols.Pair.{Pair}
use Rattle.mm_base.specs.declared.tree.Tree.{Tree}
use Rattle.mm_base.specs.declared.tree.Tree.TheVariants.{Var, Node}
use Rattle.mm_model.specs.declared.frames.Hyp.{Hyp}
use Rattle.mm_model.specs.declared.frames.Frame.{Frame}
use Rattle.mm_model.specs.declared.frames.Active.{Active}
use Rattle.mm_model.specs.declared.rows.Item.{Item}
use Rattle.mm_model.specs.declared.rows.Item.TheVariants.{Const, Slot}
use Rattle.mm_model.specs.declared.rows.Production.{Production}
use Rattle.mm_model.specs.Names.{Name, sym, label, typecode, first_number}
use Rattle.mm_model.specs.Words.{words}
use Rattle.mm_model.specs.Productions.{TypedVariable, typed_variables}
use Rattle.mm_model.specs.Book.{Assertion, Database}

-- ---- the texts

abbrev pub P_text : List ℕ
P_text =
    codes
    "$c ( ) -> -. wff |- $. $v ph ps ch $. wph $f wff ph $. wps $f wff ps $. wch $f wff ch $. wn $a wff -. ph $. wi $a wff ( ph -> ps ) $. ${ min $e |- ph $. maj $e |- ( ph -> ps ) $. ax-mp $a |- ps $. $} ax-1 $a |- ( ph -> ( ps -> ph ) ) $. ax-2 $a |- ( ( ph -> ( ps -> ch ) ) -> ( ( ph -> ps ) -> ( ph -> ch ) ) ) $."

-- with a theorem of two hypotheses
abbrev pub V_text : List ℕ
V_text = P_text ++ codes " ${ mpi.1 $e |- ph $. mpi.2 $e |- ( ph -> ps ) $. mpi $p |- ps $= wph wps mpi.1 mpi.2 ax-mp $. $}"

-- with a `$e` outside blocks
abbrev pub E_text : List ℕ
E_text = P_text ++ codes " out $e |- ph $."

abbrev pub Q_text : List ℕ
Q_text =
    P_text
    ++ codes
    " $c setvar class { } | = A. $. $v x y A B $. vx $f setvar x $. vy $f setvar y $. cA $f class A $. cB $f class B $. cv $a class x $. cab $a class { x | ph } $. wceq $a wff A = B $. wal $a wff A. x ph $. ${ a1i.1 $e |- ph $. a1i $a |- ( ps -> ph ) $. $} ${ a2i.1 $e |- ( ph -> ( ps -> ch ) ) $. a2i $a |- ( ( ph -> ps ) -> ( ph -> ch ) ) $. $} ${ $d x ph $. ax-5 $a |- ( ph -> A. x ph ) $. $} eqid $a |- A = A $. ${ drop.1 $e |- ( ph -> A. x ph ) $. drop $a |- ( ph -> ph ) $. $} ${ pair.1 $e |- ph $. pair $a |- ( ph -> ph ) $. $} ax-1c $a |- ( ph -> ( ps -> ph ) ) $."

-- the words of a text
abbrev pub split : List ℕ → List Name
split text = map (λ w. w.bytes) (words text)

-- ---- names by number

abbrev pub symbol_names : List Name
symbol_names = codes "(" ∷ codes ")" ∷ codes "->" ∷ codes "-." ∷ codes "wff" ∷ codes "|-" ∷ codes "ph" ∷ codes "ps" ∷ codes "ch"
    ∷ codes "setvar" ∷ codes "class" ∷ codes "{" ∷ codes "}" ∷ codes "|" ∷ codes "=" ∷ codes "A." ∷ codes "x" ∷ codes "y" ∷ codes "A" ∷ codes "B" ∷ []

abbrev pub label_names : List Name
label_names = codes "wph" ∷ codes "wps" ∷ codes "wch" ∷ codes "wn" ∷ codes "wi" ∷ codes "min" ∷ codes "maj" ∷ codes "ax-mp" ∷ codes "ax-1" ∷ codes "ax-2"
    ∷ codes "vx" ∷ codes "vy" ∷ codes "cA" ∷ codes "cB" ∷ codes "cv" ∷ codes "cab" ∷ codes "wceq" ∷ codes "wal" ∷ codes "a1i.1" ∷ codes "a1i" ∷ codes "a2i.1" ∷ codes "a2i"
    ∷ codes "ax-5" ∷ codes "eqid" ∷ codes "drop.1" ∷ codes "drop" ∷ codes "pair.1" ∷ codes "pair" ∷ codes "ax-1c" ∷ []

abbrev pub symbol : Name → Sym
symbol name = sym (unwrap_or (first_number (bytes_eq name) symbol_names) 99)

-- the formula that a text writes
abbrev pub symbols : List ℕ → List Sym
symbols text = map symbol (split text)

-- ---- trees

abbrev pub wff : Typecode
wff = typecode (sym 4)

abbrev pub setvar : Typecode
setvar = typecode (sym 9)

abbrev pub class : Typecode
class = typecode (sym 10)

abbrev pub ph : Tree
ph = Var (sym 6) wff

abbrev pub ps : Tree
ps = Var (sym 7) wff

abbrev pub ch : Tree
ch = Var (sym 8) wff

abbrev pub x : Tree
x = Var (sym 16) setvar

abbrev pub y : Tree
y = Var (sym 17) setvar

abbrev pub A : Tree
A = Var (sym 18) class

abbrev pub wn : Tree → Tree
wn a = Node (label 3) wff (a ∷ [])

abbrev pub wi : Tree → Tree → Tree
wi a b = Node (label 4) wff (a ∷ b ∷ [])

abbrev pub cv : Tree → Tree
cv v = Node (label 14) class (v ∷ [])

-- the mandatory variables are ph and x, in this order
abbrev pub cab : Tree → Tree → Tree
cab a v = Node (label 15) class (a ∷ v ∷ [])

abbrev pub wceq : Tree → Tree → Tree
wceq a b = Node (label 16) wff (a ∷ b ∷ [])

abbrev pub wal : Tree → Tree → Tree
wal a v = Node (label 17) wff (a ∷ v ∷ [])

-- ---- hypotheses and frames

abbrev float : List ℕ → List ℕ → Hyp
float name text = record { name = name; floating = true; formula = symbols text }

abbrev essential : List ℕ → List ℕ → Hyp
essential name text = record { name = name; floating = false; formula = symbols text }

abbrev pub wph : Hyp
wph = float (codes "wph") (codes "wff ph")

abbrev pub wps : Hyp
wps = float (codes "wps") (codes "wff ps")

abbrev pub wch : Hyp
wch = float (codes "wch") (codes "wff ch")

abbrev pub vx : Hyp
vx = float (codes "vx") (codes "setvar x")

abbrev pub vy : Hyp
vy = float (codes "vy") (codes "setvar y")

abbrev pub cA : Hyp
cA = float (codes "cA") (codes "class A")

abbrev pub cB : Hyp
cB = float (codes "cB") (codes "class B")

-- the frame of a label, at a position, with its formula, hypotheses and pairs
abbrev frame : ℕ → ℕ → List ℕ → List Hyp → List Pair → Frame
frame l at text hyps pairs = record { label = label l; is_axiom = true; at = at; formula = symbols text; hyps = hyps; pairs = pairs }

abbrev min : Hyp
min = essential (codes "min") (codes "|- ph")

abbrev maj : Hyp
maj = essential (codes "maj") (codes "|- ( ph -> ps )")

abbrev pub ph_x : Pair
ph_x = record { a = sym 6; b = sym 16 }

-- the frames by label; none for a `$f` and a `$e`
abbrev pub frames : List (Option Frame)
frames = None ∷ None ∷ None ∷ Some (frame 3 5 (codes "wff -. ph") (wph ∷ []) [])
    ∷ Some (frame 4 6 (codes "wff ( ph -> ps )") (wph ∷ wps ∷ []) []) ∷ None ∷ None
    ∷ Some (frame 7 10 (codes "|- ps") (wph ∷ wps ∷ min ∷ maj ∷ []) [])
    ∷ Some (frame 8 12 (codes "|- ( ph -> ( ps -> ph ) )") (wph ∷ wps ∷ []) [])
    ∷ Some (frame 9 13 (codes "|- ( ( ph -> ( ps -> ch ) ) -> ( ( ph -> ps ) -> ( ph -> ch ) ) )") (wph ∷ wps ∷ wch ∷ []) [])
    ∷ None ∷ None ∷ None ∷ None
    ∷ Some (frame 14 20 (codes "class x") (vx ∷ []) []) ∷ Some (frame 15 21 (codes "class { x | ph }") (wph ∷ vx ∷ []) [])
    ∷ Some (frame 16 22 (codes "wff A = B") (cA ∷ cB ∷ []) []) ∷ Some (frame 17 23 (codes "wff A. x ph") (wph ∷ vx ∷ []) [])
    ∷ None ∷ Some (frame 19 26 (codes "|- ( ps -> ph )") (wph ∷ wps ∷ essential (codes "a1i.1") (codes "|- ph") ∷ []) [])
    ∷ None ∷ Some (frame 21 30 (codes "|- ( ( ph -> ps ) -> ( ph -> ch ) )") (wph ∷ wps ∷ wch ∷ essential (codes "a2i.1") (codes "|- ( ph -> ( ps -> ch ) )") ∷ []) [])
    ∷ Some (frame 22 34 (codes "|- ( ph -> A. x ph )") (wph ∷ vx ∷ []) (ph_x ∷ []))
    ∷ Some (frame 23 36 (codes "|- A = A") (cA ∷ []) [])
    ∷ None ∷ Some (frame 25 39 (codes "|- ( ph -> ph )") (wph ∷ vx ∷ essential (codes "drop.1") (codes "|- ( ph -> A. x ph )") ∷ []) [])
    ∷ None ∷ Some (frame 27 43 (codes "|- ( ph -> ph )") (wph ∷ essential (codes "pair.1") (codes "|- ph") ∷ []) [])
    ∷ Some (frame 28 45 (codes "|- ( ph -> ( ps -> ph ) )") (wph ∷ wps ∷ []) []) ∷ []

abbrev pub frame_of_label : ℕ → Label → Option Frame
frame_of_label labels l = if nat_lt l.0 labels then slice_index_or frames l.0 None else None

-- ---- usable assertions

abbrev no_frame : Frame
no_frame = frame 99 99 [] [] []

-- the usable assertion of a label, with its trees
abbrev assertion : ℕ → Tree → List Tree → Assertion
assertion l t hyps =
    let f : Frame = unwrap_or (slice_index_or frames l None) no_frame in
    record { label = label l; frame = f; tree = t; hyps = hyps; vars = typed_variables f.hyps }

abbrev pub ax_mp : Assertion
ax_mp = assertion 7 ps (ph ∷ wi ph ps ∷ [])

abbrev pub ax_1 : Assertion
ax_1 = assertion 8 (wi ph (wi ps ph)) []

abbrev pub ax_2 : Assertion
ax_2 = assertion 9 (wi (wi ph (wi ps ch)) (wi (wi ph ps) (wi ph ch))) []

abbrev pub ax_5 : Assertion
ax_5 = assertion 22 (wi ph (wal ph x)) []

abbrev pub eqid : Assertion
eqid = assertion 23 (wceq A A) []

abbrev pub drop : Assertion
drop = assertion 25 (wi ph ph) (wi ph (wal ph x) ∷ [])

abbrev pub pair : Assertion
pair = assertion 27 (wi ph ph) (ph ∷ [])

abbrev usables : List (Option Assertion)
usables = None ∷ None ∷ None ∷ None ∷ None ∷ None ∷ None ∷ Some ax_mp ∷ Some ax_1 ∷ Some ax_2 ∷ None ∷ None ∷ None ∷ None ∷ None ∷ None ∷ None ∷ None
    ∷ None ∷ Some (assertion 19 (wi ps ph) (ph ∷ [])) ∷ None ∷ Some (assertion 21 (wi (wi ph ps) (wi ph ch)) (wi ph (wi ps ch) ∷ [])) ∷ Some ax_5 ∷ Some eqid
    ∷ None ∷ Some drop ∷ None ∷ Some pair ∷ Some (assertion 28 (wi ph (wi ps ph)) []) ∷ []

abbrev usable_of_label : ℕ → Label → Option Assertion
usable_of_label labels l = if nat_lt l.0 labels then slice_index_or usables l.0 None else None

-- ---- productions

abbrev constant : ℕ → Item
constant n = Const (sym n)

abbrev production : ℕ → ℕ → Typecode → List Item → List Typecode → Production
production l at gives items slots = record { label = label l; at = at; gives = gives; items = items; slots = slots }

abbrev pub rows : List Production
rows = production 3 5 wff (constant 3 ∷ Slot 0 ∷ []) (wff ∷ [])
    ∷ production 4 6 wff (constant 0 ∷ Slot 0 ∷ constant 2 ∷ Slot 1 ∷ constant 1 ∷ []) (wff ∷ wff ∷ [])
    ∷ production 14 20 class (Slot 0 ∷ []) (setvar ∷ [])
    ∷ production 15 21 class (constant 11 ∷ Slot 1 ∷ constant 13 ∷ Slot 0 ∷ constant 12 ∷ []) (wff ∷ setvar ∷ [])
    ∷ production 16 22 wff (Slot 0 ∷ constant 14 ∷ Slot 1 ∷ []) (class ∷ class ∷ [])
    ∷ production 17 23 wff (constant 15 ∷ Slot 1 ∷ Slot 0 ∷ []) (wff ∷ setvar ∷ []) ∷ []

-- ---- the databases

-- the hypotheses outside blocks, with their positions
abbrev placed_floats : List (ℕ × Hyp)
placed_floats = (2, wph) ∷ (3, wps) ∷ (4, wch) ∷ (16, vx) ∷ (17, vy) ∷ (18, cA) ∷ (19, cB) ∷ []

abbrev floats_before : ℕ → List Hyp
floats_before place = map (λ h. h.1) (filter (λ h. nat_lt h.0 place) placed_floats)

abbrev variables_before : ℕ → List Sym
variables_before place = (if nat_lt 1 place then sym 6 ∷ sym 7 ∷ sym 8 ∷ [] else []) ++ (if nat_lt 15 place then sym 16 ∷ sym 17 ∷ sym 18 ∷ sym 19 ∷ [] else [])

-- inside the block of ax-mp its `$e` are active; other blocks are left out
abbrev hyps_before : ℕ → List Hyp
hyps_before place = floats_before place ++ (if nat_lt 8 place && nat_lt place 12 then min ∷ [] else []) ++ (if nat_lt 9 place && nat_lt place 12 then maj ∷ [] else [])

abbrev active_before : ℕ → Active
active_before place = record { variables = variables_before place; hyps = hyps_before place; pairs = [] }

-- the place after each label
abbrev places_after : List ℕ
places_after = 3 ∷ 4 ∷ 5 ∷ 6 ∷ 7 ∷ 12 ∷ 12 ∷ 12 ∷ 13 ∷ 14 ∷ 17 ∷ 18 ∷ 19 ∷ 20 ∷ 21 ∷ 22 ∷ 23 ∷ 24 ∷ 28 ∷ 28 ∷ 32 ∷ 32 ∷ 36 ∷ 37 ∷ 41 ∷ 41 ∷ 45 ∷ 45 ∷ 46 ∷ []

abbrev pub P : Database
P = record {
  provable = codes "|-";
  logic = codes "wff";
  symbols = take 9 symbol_names;
  labels = take 10 label_names;
  positions = 2 ∷ 3 ∷ 4 ∷ 5 ∷ 6 ∷ 8 ∷ 9 ∷ 10 ∷ 12 ∷ 13 ∷ [];
  statement_count = 14;
  frame = frame_of_label 10;
  active_at = active_before;
  is_constant_at = λ s place. nat_lt s.0 6 && nat_lt 0 place;
  place_after = λ l. slice_index_or places_after l.0 14;
  float_codes = λ place. map (λ (v : TypedVariable). v.code) (typed_variables (floats_before place));
  rows = take 2 rows;
  usable = usable_of_label 10;
}

abbrev pub Q : Database
Q = record {
  provable = codes "|-";
  logic = codes "wff";
  symbols = symbol_names;
  labels = label_names;
  positions = 2 ∷ 3 ∷ 4 ∷ 5 ∷ 6 ∷ 8 ∷ 9 ∷ 10 ∷ 12 ∷ 13 ∷ 16 ∷ 17 ∷ 18 ∷ 19 ∷ 20 ∷ 21 ∷ 22 ∷ 23 ∷ 25 ∷ 26 ∷ 29 ∷ 30 ∷ 34 ∷ 36 ∷ 38 ∷ 39 ∷ 42 ∷ 43 ∷ 45 ∷ [];
  statement_count = 46;
  frame = frame_of_label 29;
  active_at = active_before;
  is_constant_at = λ s place. (nat_lt s.0 6 && nat_lt 0 place) || (nat_le 9 s.0 && nat_lt s.0 16 && nat_lt 14 place);
  place_after = λ l. slice_index_or places_after l.0 46;
  float_codes = λ place. map (λ (v : TypedVariable). v.code) (typed_variables (floats_before place));
  rows = rows;
  usable = usable_of_label 29;
}

abbrev mpi_1 : Hyp
mpi_1 = essential (codes "mpi.1") (codes "|- ph")

abbrev mpi_2 : Hyp
mpi_2 = essential (codes "mpi.2") (codes "|- ( ph -> ps )")

-- P with the theorem mpi
abbrev pub mpi : Frame
mpi = record {
  label = label 12;
  is_axiom = false;
  at = 17;
  formula = symbols (codes "|- ps");
  hyps = wph ∷ wps ∷ mpi_1 ∷ mpi_2 ∷ [];
  pairs = [];
}

-- the place in P that has the same symbols and the same hypotheses outside blocks
abbrev place_in_P : ℕ → ℕ
place_in_P place = if nat_lt 14 place then 14 else place

-- inside the block of mpi its `$e` are active
abbrev active_in_V : ℕ → Active
active_in_V place = record {
  variables = variables_before (place_in_P place);
  hyps = hyps_before (place_in_P place) ++ (if nat_lt 15 place && nat_lt place 19 then mpi_1 ∷ [] else []) ++ (if nat_lt 16 place && nat_lt place 19 then mpi_2 ∷ [] else []);
  pairs = [];
}

abbrev pub V : Database
V = record P {
  labels = P.labels ++ codes "mpi.1" ∷ codes "mpi.2" ∷ codes "mpi" ∷ [];
  positions = P.positions ++ 15 ∷ 16 ∷ 17 ∷ [];
  statement_count = 19;
  frame = λ l. if l.0 == 12 then Some mpi else P.frame l;
  active_at = active_in_V;
  place_after = λ l. if nat_le 10 l.0 then 19 else P.place_after l;
  float_codes = λ place. P.float_codes (place_in_P place);
}

-- P with the `$e` named out
abbrev pub out : Hyp
out = essential (codes "out") (codes "|- ph")

abbrev pub E : Database
E = record P {
  labels = P.labels ++ codes "out" ∷ [];
  positions = P.positions ++ 14 ∷ [];
  statement_count = 15;
  active_at = λ place. if nat_lt 14 place then record { variables = variables_before place; hyps = hyps_before place ++ out ∷ []; pairs = [] } else P.active_at place;
  place_after = λ l. if l.0 == 10 then 15 else P.place_after l;
}
