-- A database with a proof that is accepted and exportable, and one that is not exportable, as no assertion gives its formula.
use Rattle.std.specs.Prelude.{◌≡◌, ◌<◌, ◌==◌, ℕ, zero, suc, Bool, true, false, Option, List, [], ◌∷◌, ◌++◌, slice_index_or, Contains, Some, None, if◌then◌else◌, codes, refl}
use Rattle.std.specs.List.{list_any, AllZip}
use Rattle.std.proofs.Common.{sym as back, ap, subst, ◌∙◌, arith, cond}
use Rattle.std.proofs.lemmas.Bool.Decides.{nat_tests}
use Rattle.mm_base.specs.declared.symbols.Label.{Label}
use Rattle.mm_base.specs.declared.tree.Tree.{Tree}
use Rattle.mm_base.specs.declared.tree.Tree.TheVariants.{Var}
use Rattle.mm_model.specs.declared.frames.Hyp.{Hyp}
use Rattle.mm_model.specs.declared.frames.Frame.{Frame}
use Rattle.mm_model.specs.Names.{Name, sym, label}
use Rattle.mm_model.specs.Statements.{Statement, statements, labels, database_fault}
use Rattle.mm_model.specs.Frames.{symbols, positions, end_of, frame_of, active_at, is_constant_at, place_after, float_codes}
use Rattle.mm_model.specs.Productions.{TypedVariable, essentials, typed_variables}
use Rattle.mm_model.specs.Book.{Database, Assertion, IsAssertionFormula, IsTreeAt, IsRead, IsUsable, IsDatabaseOf}
use Rattle.proof_model.specs.declared.code.Code.{Code}
use Rattle.proof_model.specs.declared.theorem.Theorem.{Theorem}
use Rattle.proof_model.specs.Codes.{normal_code}
use Rattle.sheet_text.specs.declared.sheet.SheetStep.{SheetStep}
use Rattle.sheet_text.specs.Layout.{steps}
use Rattle.solve_model.specs.Formulas.{IsTheTree}
use Rattle.written_model.specs.WholeExample.{database_text, wff, frame, any, ps, options}
use Rattle.written_model.proofs.WholeDatabase.{parses_variable, parses_only}
use Rattle.export_model.specs.Exported.{pushes, export_sheet}
use Rattle.call_answers.specs.Exports.{IsAccepted}
use Rattle.call_answers.specs.Exportable.{MayName, hypothesis, usable, IsHypothesisOf, IsBefore, NamesNoProvableFloat, has_no_provable_float, IsReadable}
use Rattle.call_answers.specs.Exportable.{IsExportable, gives_theorem}

-- the small database with `th $p |- ps $= wps any $.`
abbrev text : List ℕ
text = database_text ++ codes " th $p |- ps $= wps any $."

abbrev S : List Statement
S = statements text

pub no_fault : database_fault text ≡ None
no_fault = refl

abbrev wph : Hyp
wph = record { name = codes "wph"; floating = true; formula = sym 1 ∷ sym 2 ∷ [] }

abbrev wps : Hyp
wps = record { name = codes "wps"; floating = true; formula = sym 1 ∷ sym 3 ∷ [] }

abbrev proved_frame : Frame
proved_frame = record { label = label 3; is_axiom = false; at = 5; formula = sym 0 ∷ sym 3 ∷ []; hyps = wps ∷ []; pairs = [] }

-- the theorem can be used, as the axiom `any`
abbrev proved : Assertion
proved = record { label = label 3; frame = proved_frame; tree = ps; hyps = []; vars = record { sym = sym 3; code = wff } ∷ [] }

abbrev usable_there : Label → Option Assertion
usable_there l = if l.0 == 2 then Some any else (if l.0 == 3 then Some proved else None)

abbrev db : Database
db = record {
  provable = codes "|-";
  logic = codes "wff";
  symbols = symbols S;
  labels = labels S;
  positions = positions S;
  statement_count = end_of S;
  frame = frame_of S;
  active_at = active_at S;
  is_constant_at = is_constant_at S;
  place_after = place_after S;
  float_codes = float_codes S;
  rows = [];
  usable = usable_there;
}

abbrev th : Theorem
th = record { at = 5; formula = sym 0 ∷ sym 3 ∷ []; hyps = wph ∷ wps ∷ []; mandatory = codes "wps" ∷ []; pairs = [] }

abbrev code : Code
code = normal_code (codes "wps" ∷ []) (codes "wps" ∷ codes "any" ∷ [])

pub accepted : IsAccepted text db (codes "th") th code
accepted = record { words = codes "wps" ∷ codes "any" ∷ []; is_theorem = refl; sound = refl; is_code = refl; accepts = refl }

-- each of the two labels
each_label : (P : Name → Type 0) → P (codes "wps") → P (codes "any") → (n : Name) → Contains (codes "wps" ∷ codes "any" ∷ []) n → P n
each_label P a b n (zero, l, e) = subst P e a
each_label P a b n (suc zero, l, e) = subst P e b
each_label P a b n (suc (suc k), l, e) = let bad : ⊥ = omega (arith, l) in absurd bad

each_hyp : (P : Hyp → Type 0) → P wph → P wps → (h : Hyp) → Contains th.hyps h → P h
each_hyp P a b h (zero, l, e) = subst P e a
each_hyp P a b h (suc zero, l, e) = subst P e b
each_hyp P a b h (suc (suc k), l, e) = let bad : ⊥ = omega (arith, l) in absurd bad

no_own : (n : Name) (h : Hyp) → IsHypothesisOf th n h → has_no_provable_float db (h ∷ []) ≡ true
no_own n h is = each_hyp (λ (x : Hyp). has_no_provable_float db (x ∷ []) ≡ true) refl refl h is.0

no_frame : (l : Label) (f : Frame) → IsBefore db th (codes "wps") l f → has_no_provable_float db f.hyps ≡ true
no_frame l f is =
    let one : Some (label 1) ≡ Some l = is.0 in
    let same : label 1 ≡ l = cc in
    let none : None ≡ Some f = subst (λ (x : Label). db.frame x ≡ Some f) (back same) is.1 in
    absurd cc

any_frame : (l : Label) (f : Frame) → IsBefore db th (codes "any") l f → has_no_provable_float db f.hyps ≡ true
any_frame l f is =
    let one : Some (label 2) ≡ Some l = is.0 in
    let same : label 2 ≡ l = cc in
    let there : db.frame (label 2) ≡ Some f = ap db.frame same ∙ is.1 in
    let frame_is : frame ≡ f = cc in
    subst (λ (x : Frame). has_no_provable_float db x.hyps ≡ true) frame_is refl

the_tree : IsTheTree db 5 (codes "|-" ∷ codes "ps" ∷ []) ps
the_tree = record { parses = parses_variable 5 3; only = λ u p. parses_only 5 3 u p }

pub exportable : IsExportable db th (codes "th") code
exportable = record {
  labels = each_label (MayName db th) (hypothesis ((1, omega arith, refl), refl)) (usable (refl, refl, omega arith) refl);
  given = refl;
  provable_hyps = refl;
  no_provable_float = each_label (NamesNoProvableFloat db th) (record { own = no_own (codes "wps"); of_frame = no_frame }) (record { own = no_own (codes "any"); of_frame = any_frame });
  formulas = λ k d l. readable k d l;
}
  where
    readable : (k : ℕ) (d : SheetStep) → k < 1 → IsReadable db 5 (slice_index_or (steps (export_sheet db th (codes "th") code)) k d)
    readable zero d l = record { short = omega arith; tree = ps; one_tree = the_tree }
    readable (suc k) d l = let bad : ⊥ = omega (arith, l) in absurd bad

-- ---- the database is that of the text

-- of one `$f` and no `$e`, with the tree of a variable: no other assertion of its label is usable
module _ (l : Label) (f : Frame) (v : ℕ) (there : db.frame l ≡ Some f) (none : essentials f.hyps ≡ []) (begins : IsAssertionFormula db f.formula)
    (parses : IsTreeAt db f.at f.formula (Var (sym v) wff)) (only : (t : Tree) → IsTreeAt db f.at f.formula t → t ≡ Var (sym v) wff) where
  make : Label → Frame → Tree → List Tree → List TypedVariable → Assertion
  make k g t hs vs = record { label = k; frame = g; tree = t; hyps = hs; vars = vs }

  abbrev the_usable : Assertion
  the_usable = record { label = l; frame = f; tree = Var (sym v) wff; hyps = []; vars = typed_variables f.hyps }

  is_usable : IsUsable db l the_usable
  is_usable = record {
    frame = there;
    label = refl;
    conclusion = record { provable = begins; tree = record { parses = parses; only = λ u p. only u p } };
    hyps = subst (λ (hs : List Hyp). AllZip (λ (h : Hyp) (t : Tree). IsRead db f.at h.formula t) hs []) (back none) tt;
    vars = refl;
  }

  is_the_usable : (a : Assertion) → IsUsable db l a → the_usable ≡ a
  unfolding make
  is_the_usable a h =
      let one : f ≡ a.frame = some_is f a.frame (back there ∙ h.frame) in
      let tree : IsRead db f.at f.formula a.tree = subst (λ (g : Frame). IsRead db g.at g.formula a.tree) (back one) h.conclusion in
      let same_tree : a.tree ≡ Var (sym v) wff = only a.tree tree.tree.parses in
      let zipped : AllZip (λ (h : Hyp) (t : Tree). IsRead db f.at h.formula t) (essentials f.hyps) a.hyps =
      subst (λ (g : Frame). AllZip (λ (h : Hyp) (t : Tree). IsRead db g.at h.formula t) (essentials g.hyps) a.hyps) (back one) h.hyps in
      let empty : a.hyps ≡ [] =
      no_hyps a.hyps (λ (h : Hyp) (t : Tree). IsRead db f.at h.formula t) (subst (λ (hs : List Hyp). AllZip (λ (h : Hyp) (t : Tree). IsRead db f.at h.formula t) hs a.hyps) none zipped) in
      let vars : a.vars ≡ typed_variables f.hyps = subst (λ (g : Frame). a.vars ≡ typed_variables g.hyps) (back one) h.vars in
      join a.label a.frame a.tree a.hyps a.vars (back h.label) one (back same_tree) (back empty) (back vars)
    where
      some_is : (g k : Frame) → Some g ≡ Some k → g ≡ k
      some_is g k e = cc

      no_hyps : (hs : List Tree) (P : Hyp → Tree → Type 0) → AllZip P [] hs → hs ≡ []
      no_hyps [] P h = refl
      no_hyps (t ∷ ts) P h = absurd h

      join : (k : Label) (g : Frame) (t : Tree) (hs : List Tree) (vs : List TypedVariable) → l ≡ k → f ≡ g → Var (sym v) wff ≡ t → [] ≡ hs → typed_variables f.hyps ≡ vs
          → make l f (Var (sym v) wff) [] (typed_variables f.hyps) ≡ make k g t hs vs
      join k g t hs vs p q r e u = cc

any_usable : IsUsable db (label 2) any
any_usable = is_usable (label 2) frame 2 refl refl (record { begins = (sym 0, sym 2 ∷ [], refl, refl); short = omega arith }) (parses_variable 4 2) (λ t p. parses_only 4 2 t p)

proved_usable : IsUsable db (label 3) proved
proved_usable =
    is_usable (label 3) proved_frame 3 refl refl (record { begins = (sym 0, sym 3 ∷ [], refl, refl); short = omega arith }) (parses_variable 5 3) (λ t p. parses_only 5 3 t p)

same_label : (n m : ℕ) → (n == m) ≡ true → label n ≡ label m
same_label n m e = let is : n ≡ m = grind (arith, nat_tests) in ap label is

usable_by : (l : Label) (a : Assertion) (b c : Bool) → (l.0 == 2) ≡ b → (l.0 == 3) ≡ c → cond b (Some any) (cond c (Some proved) None) ≡ Some a → IsUsable db l a
usable_by l a true c e d h = let one : label 2 ≡ l = back (same_label l.0 2 e) in let other : any ≡ a = cc in subst (λ k. IsUsable db k a) one (subst (IsUsable db (label 2)) other any_usable)
usable_by l a false true e d h =
    let one : label 3 ≡ l = back (same_label l.0 3 d) in let other : proved ≡ a = cc in subst (λ k. IsUsable db k a) one (subst (IsUsable db (label 3)) other proved_usable)
usable_by l a false false e d h = absurd cc

all_by : (n : ℕ) (a : Assertion) → IsUsable db (label n) a → usable_there (label n) ≡ Some a
all_by zero a h = let none : None ≡ Some a.frame = h.frame in absurd cc
all_by (suc zero) a h = let none : None ≡ Some a.frame = h.frame in absurd cc
all_by (suc (suc zero)) a h =
    ap (λ x. Some x)
    (is_the_usable (label 2) frame 2 refl refl (record { begins = (sym 0, sym 2 ∷ [], refl, refl); short = omega arith }) (parses_variable 4 2) (λ t p. parses_only 4 2 t p) a h)
all_by (suc (suc (suc zero))) a h =
    ap (λ x. Some x)
    (is_the_usable (label 3) proved_frame 3 refl refl (record { begins = (sym 0, sym 3 ∷ [], refl, refl); short = omega arith }) (parses_variable 5 3) (λ t p. parses_only 5 3 t p) a h)
all_by (suc (suc (suc (suc n)))) a h = let none : None ≡ Some a.frame = h.frame in absurd cc

pub is_database : IsDatabaseOf options.kinds text db
is_database = record {
  provable = refl;
  logic = refl;
  symbols = refl;
  labels = refl;
  positions = refl;
  statement_count = refl;
  frame = λ l. refl;
  active_at = λ place. refl;
  is_constant_at = λ s place. refl;
  place_after = λ l. refl;
  float_codes = λ place. refl;
  rows = refl;
  usable_is = λ l a e. usable_by l a (l.0 == 2) (l.0 == 3) refl refl e;
  usable_all = λ l a h. all_by l.0 a h;
}

-- ---- no assertion gives the formula

abbrev given_text : List ℕ
given_text = database_text ++ codes " ${ i.1 $e |- ph $. idi $p |- ph $= i.1 $. $}"

abbrev given_db : Database
given_db = record db { symbols = symbols (statements given_text); labels = labels (statements given_text); frame = frame_of (statements given_text) }

abbrev i1 : Hyp
i1 = record { name = codes "i.1"; floating = false; formula = sym 0 ∷ sym 2 ∷ [] }

abbrev idi : Theorem
idi = record { at = 7; formula = sym 0 ∷ sym 2 ∷ []; hyps = wph ∷ wps ∷ i1 ∷ []; mandatory = codes "wph" ∷ codes "i.1" ∷ []; pairs = [] }

abbrev idi_code : Code
idi_code = normal_code (codes "wph" ∷ codes "i.1" ∷ []) (codes "i.1" ∷ [])

pub idi_accepted : IsAccepted given_text given_db (codes "idi") idi idi_code
idi_accepted = record { words = codes "i.1" ∷ []; is_theorem = refl; sound = refl; is_code = refl; accepts = refl }

pub not_given : list_any (gives_theorem idi) (pushes given_db idi idi_code) ≡ false
not_given = refl
