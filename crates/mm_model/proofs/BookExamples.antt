-- A whole database with one usable assertion.
use Rattle.std.proofs.Common.{◌≡◌, ℕ, zero, suc, true, List, [], ◌∷◌, map, Option, Some, None, refl, sym as turned, ap, ◌∙◌, subst, arith, lit<, lit≤, codes, get_or}
use Rattle.std.specs.List.{slice_get}
use Rattle.std.specs.List.{AllZip}
use Rattle.mm_base.specs.declared.symbols.Sym.{Sym}
use Rattle.mm_base.specs.declared.symbols.Label.{Label}
use Rattle.mm_base.specs.declared.symbols.Typecode.{Typecode}
use Rattle.mm_base.specs.declared.tree.Tree.{Tree}
use Rattle.mm_base.specs.declared.tree.Tree.TheVariants.{Var, Work, Node}
use Rattle.mm_base.specs.declared.kinds.Kinds.{Kinds}
use Rattle.mm_base.specs.Trees.{code_of}
use Rattle.mm_base.proofs.TreeInduction.{tree_ind}
use Rattle.mm_model.specs.declared.frames.Hyp.{Hyp}
use Rattle.mm_model.specs.declared.frames.Frame.{Frame}
use Rattle.mm_model.specs.declared.rows.Item.TheVariants.{Const}
use Rattle.mm_model.specs.declared.rows.Leaf.{Leaf}
use Rattle.mm_model.specs.declared.rows.Leaf.TheVariants as leaf
use Rattle.mm_model.specs.declared.rows.Production.{Production}
use Rattle.mm_model.specs.Names.{sym, label, typecode}
use Rattle.mm_model.specs.Statements.{statements, database_fault}
use Rattle.mm_model.specs.Frames.{frame_of, active_at, is_constant_at, place_after, float_codes}
use Rattle.mm_model.specs.Typed.{Parses}
use Rattle.mm_model.specs.Book.{Database, Assertion, IsDatabaseOf, IsUsable, IsRead, IsTreeAt}
use Rattle.mm_model.specs.Productions.{TypedVariable, essentials, typed_variables}
use Rattle.mm_model.proofs.TextLaws.{text-Var, text-Work, text-Node}
use Rattle.mm_model.proofs.TypedLaws.{code-Node, typed-Node, typed_here, named-Node, fresh_is_not_named}
use Rattle.mm_model.proofs.RowLaws.{row_stands}

abbrev true_text : List ℕ
true_text = codes "$c |- wff T $. wt $a wff T $. tr $a |- T $."

abbrev kinds : Kinds
kinds = record { provable = codes "|-"; logic = codes "wff" }

pub clean : database_fault true_text ≡ None
clean = refl

abbrev wff : Typecode
wff = typecode (sym 1)

abbrev frame_wt : Frame
frame_wt = record { label = label 0; is_axiom = true; at = 1; formula = sym 1 ∷ sym 2 ∷ []; hyps = []; pairs = [] }

abbrev frame_tr : Frame
frame_tr = record { label = label 1; is_axiom = true; at = 2; formula = sym 0 ∷ sym 2 ∷ []; hyps = []; pairs = [] }

abbrev wt : Production
wt = record { label = label 0; at = 1; gives = wff; items = Const (sym 2) ∷ []; slots = [] }

abbrev rows : List Production
rows = wt ∷ []

abbrev true_tree : Tree
true_tree = Node (label 0) wff []

abbrev expression : List Leaf
expression = leaf.Const (sym 2) ∷ []

-- ---- the one tree of `T`

parses : Parses rows 2 expression wff true_tree
parses = record {
  code = code-Node (label 0) wff [];
  typed = typed-Node rows 2 (label 0) wff [] (wt, refl, lit< tt, refl, refl) tt;
  named = named-Node (label 0) wff [] tt;
  written = text-Node rows (label 0) wff [];
}

abbrev IsIt : Tree → Type 0
IsIt t = Parses rows 2 expression wff t → t ≡ true_tree

no_children : (ts : List Tree) → map code_of ts ≡ [] → ts ≡ []
no_children [] e = refl
no_children (t ∷ ts) e = absurd cc

one_row : (k : ℕ) (r : Production) → slice_get rows k ≡ Some r → r ≡ wt
one_row zero r e = cc
one_row (suc k) r e = absurd cc

at_node : (l : Label) (c : Typecode) (ts : List Tree) → Parses rows 2 expression wff (Node l c ts) → Node l c ts ≡ true_tree
at_node l c ts p =
    let here = typed_here rows 2 l c ts p.typed in
    let at = row_stands rows l here.0 here.1 in
    let is : here.0 ≡ wt = one_row at.place here.0 at.stands in
    let l_is : l ≡ label 0 = turned at.label_is ∙ ap (λ (x : Production). x.label) is in
    let c_is : c ≡ wff = turned here.3 ∙ ap (λ (x : Production). x.gives) is in
    let ts_is : ts ≡ [] = no_children ts (here.4 ∙ ap (λ (x : Production). x.slots) is) in
    ap (λ x. Node x c ts) l_is ∙ ap (λ x. Node (label 0) x ts) c_is ∙ ap (λ x. Node (label 0) wff x) ts_is

at_var : (v : Sym) (c : Typecode) → IsIt (Var v c)
at_var v c p = let bad : ◌≡◌ {A = List Leaf} (leaf.Var v c ∷ []) (leaf.Const (sym 2) ∷ []) = turned (text-Var rows v c) ∙ p.written in absurd cc

at_work : (c : Typecode) (n : ℕ) → IsIt (Work c n)
at_work c n p = let bad : ◌≡◌ {A = List Leaf} (leaf.Work c n ∷ []) (leaf.Const (sym 2) ∷ []) = turned (text-Work rows c n) ∙ p.written in absurd cc

only : (t : Tree) → IsIt t
only = tree_ind IsIt at_var at_work (λ c n p. absurd (fresh_is_not_named c n p.named)) (λ l c ts h p. at_node l c ts p)

-- ---- the database

abbrev tr : Assertion
tr = record { label = label 1; frame = frame_tr; tree = true_tree; hyps = []; vars = [] }

abbrev frames : List (Option Frame)
frames = Some frame_wt ∷ Some frame_tr ∷ []

abbrev usables : List (Option Assertion)
usables = None ∷ Some tr ∷ []

abbrev db : Database
db = record {
  provable = codes "|-";
  logic = codes "wff";
  symbols = codes "|-" ∷ codes "wff" ∷ codes "T" ∷ [];
  labels = codes "wt" ∷ codes "tr" ∷ [];
  positions = 1 ∷ 2 ∷ [];
  statement_count = 3;
  frame = λ l. get_or frames l.0 None;
  active_at = λ p. active_at (statements true_text) p;
  is_constant_at = λ s p. is_constant_at (statements true_text) s p;
  place_after = λ l. place_after (statements true_text) l;
  float_codes = λ p. float_codes (statements true_text) p;
  rows = rows;
  usable = λ l. get_or usables l.0 None;
}

frame_is : (n : ℕ) → get_or frames n None ≡ frame_of (statements true_text) (label n)
frame_is zero = refl
frame_is (suc zero) = refl
frame_is (suc (suc n)) = refl

read_tr : IsRead db 2 (sym 0 ∷ sym 2 ∷ []) true_tree
read_tr = record {
  provable = record { begins = (sym 0, sym 2 ∷ [], refl, refl); short = lit≤ tt };
  tree = record { parses = parses; only = only };
}

tr_is_usable : IsUsable db (label 1) tr
tr_is_usable = record { frame = refl; label = refl; conclusion = read_tr; hyps = tt; vars = refl }

usable_is : (n : ℕ) (a : Assertion) → get_or usables n None ≡ Some a → IsUsable db (label n) a
usable_is zero a e = absurd cc
usable_is (suc zero) a e = let same : tr ≡ a = cc in subst (IsUsable db (label 1)) same tr_is_usable
usable_is (suc (suc n)) a e = absurd cc

no_hyps : (ts : List Tree) → AllZip (λ (h : Hyp) (t : Tree). IsRead db 2 h.formula t) [] ts → ts ≡ []
no_hyps [] h = refl
no_hyps (t ∷ ts) h = absurd h

-- an assertion with the frame of `tr` is it
tr_alone : (a : Assertion) → frame_tr ≡ a.frame → IsUsable db (label 1) a → tr ≡ a
tr_alone a is u =
    let tree : Parses rows 2 expression wff a.tree = subst (λ (f : Frame). IsTreeAt db f.at f.formula a.tree) (turned is) u.conclusion.tree.parses in
    let hyps : a.hyps ≡ [] = no_hyps a.hyps (subst (λ (f : Frame). AllZip (λ (h : Hyp) (t : Tree). IsRead db f.at h.formula t) (essentials f.hyps) a.hyps) (turned is) u.hyps) in
    let vars : a.vars ≡ [] = u.vars ∙ ap (λ (f : Frame). typed_variables f.hyps) (turned is) in
    let label_is = u.label in
    let tree_is = only a.tree tree in
    turned (ap (λ l. made l a.frame a.tree a.hyps a.vars) label_is ∙ ap (λ f. made (label 1) f a.tree a.hyps a.vars) (turned is) ∙ ap (λ t. made (label 1) frame_tr t a.hyps a.vars) tree_is
    ∙ ap (λ h. made (label 1) frame_tr true_tree h a.vars) hyps ∙ ap (λ v. made (label 1) frame_tr true_tree [] v) vars)
  where
    made : Label → Frame → Tree → List Tree → List TypedVariable → Assertion
    made l f t h v = record { label = l; frame = f; tree = t; hyps = h; vars = v }

-- `wt` does not begin with the provable typecode
wt_is_not : (a : Assertion) → frame_wt ≡ a.frame → IsUsable db (label 0) a → ⊥
wt_is_not a is u =
    let (s, rest, formula, named) = u.conclusion.provable.begins in
    let begins : sym 1 ∷ sym 2 ∷ [] ≡ s ∷ rest = ap (λ (f : Frame). f.formula) is ∙ formula in
    let first : sym 1 ≡ s = cc in
    let provable : Some (sym 0) ≡ Some s = named in
    let second : sym 0 ≡ s = cc in
    let numbers : 1 ≡ 0 = ap (λ (x : Sym). x.0) (first ∙ turned second) in
    let bad : ⊥ = omega (arith, numbers) in
    bad

usable_all : (n : ℕ) (a : Assertion) → IsUsable db (label n) a → get_or usables n None ≡ Some a
usable_all zero a u = let is : frame_wt ≡ a.frame = let frame = u.frame in cc in absurd (wt_is_not a is u)
usable_all (suc zero) a u = let is : frame_tr ≡ a.frame = let frame = u.frame in cc in ap (λ x. Some x) (tr_alone a is u)
usable_all (suc (suc n)) a u = let frame = u.frame in absurd cc

-- the database of the text; `tr` is usable, and nothing else is
pub is_database : IsDatabaseOf kinds true_text db
is_database = record {
  provable = refl;
  logic = refl;
  symbols = refl;
  labels = refl;
  positions = refl;
  statement_count = refl;
  frame = λ l. frame_is l.0;
  active_at = λ p. refl;
  is_constant_at = λ s p. refl;
  place_after = λ l. refl;
  float_codes = λ p. refl;
  rows = refl;
  usable_is = λ l a e. usable_is l.0 a e;
  usable_all = λ l a u. usable_all l.0 a u;
}
