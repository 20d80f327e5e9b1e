-- An assertion with a `$f` and a `$e` that is usable, and one that is not, as its formula has two trees.
use Rattle.std.specs.Prelude.{◌≡◌, ℕ, List, [], ◌∷◌, ◌++◌, true, false, Some, None, codes, refl}
use Rattle.std.proofs.Common.{ap, subst, ◌∙◌, lit≤, sym as turned}
use Rattle.mm_base.specs.declared.symbols.Sym.{Sym}
use Rattle.mm_base.specs.declared.symbols.Label.{Label}
use Rattle.mm_base.specs.declared.symbols.Typecode.{Typecode}
use Rattle.mm_base.specs.declared.tree.Tree.{Tree}
use Rattle.mm_base.specs.declared.tree.Tree.TheVariants.{Var, Work, Node}
use Rattle.mm_base.proofs.TreeInduction.{tree_ind}
use Rattle.mm_model.specs.declared.frames.Frame.{Frame}
use Rattle.mm_model.specs.declared.rows.Leaf.{Leaf}
use Rattle.mm_model.specs.declared.rows.Leaf.TheVariants as leaf
use Rattle.mm_model.specs.declared.rows.Production.{Production}
use Rattle.mm_model.specs.Names.{sym, label, typecode}
use Rattle.mm_model.specs.Statements.{statements, labels, database_fault}
use Rattle.mm_model.specs.Frames.{symbols, positions, end_of, frame_of, active_at, is_constant_at, place_after, float_codes}
use Rattle.mm_model.specs.Typed.{Parses}
use Rattle.mm_model.specs.Productions.{kept_rows, typed_variables}
use Rattle.mm_model.specs.ProductionsExamples.{equal, kept_equal}
use Rattle.mm_model.specs.Book.{Database, Assertion, IsUsable, IsRead, IsTheTreeAt}
use Rattle.mm_model.proofs.TextLaws.{text-Var, text-Work}
use Rattle.mm_model.proofs.TypedLaws.{code-Var, typed-Var, typed_here, named-Var, fresh_is_not_named}
use Rattle.mm_model.proofs.TreesExamples.{as_sets, as_classes, by_sets, by_classes, trees_differ}

-- what the usable assertions of a text rest on, with these productions; which assertions are usable is not used
abbrev over : List ℕ → List Production → Database
over text rows = record {
  provable = codes "|-";
  logic = codes "wff";
  symbols = symbols (statements text);
  labels = labels (statements text);
  positions = positions (statements text);
  statement_count = end_of (statements text);
  frame = λ l. frame_of (statements text) l;
  active_at = λ p. active_at (statements text) p;
  is_constant_at = λ s p. is_constant_at (statements text) s p;
  place_after = λ l. place_after (statements text) l;
  float_codes = λ p. float_codes (statements text) p;
  rows = rows;
  usable = λ l. None;
}

-- ---- an inference with a `$f` and a `$e`

abbrev inference : List ℕ
inference = codes "$c |- wff $. $v x $. vx $f wff x $. ${ e $e |- x $. r $a |- x $. $}"

pub inference_clean : database_fault inference ≡ None
inference_clean = refl

pub inference_rows : kept_rows (codes "|-") (statements inference) ≡ []
inference_rows = refl

abbrev wff : Typecode
wff = typecode (sym 1)

abbrev x : Tree
x = Var (sym 2) wff

abbrev frame_r : Frame
frame_r = record {
  label = label 2;
  is_axiom = true;
  at = 5;
  formula = sym 0 ∷ sym 2 ∷ [];
  hyps = record { name = codes "vx"; floating = true; formula = sym 1 ∷ sym 2 ∷ [] }
      ∷ record { name = codes "e"; floating = false; formula = sym 0 ∷ sym 2 ∷ [] } ∷ [];
  pairs = [];
}

abbrev r : Assertion
r = record { label = label 2; frame = frame_r; tree = x; hyps = x ∷ []; vars = typed_variables frame_r.hyps }

abbrev written : List Leaf
written = leaf.Var (sym 2) wff ∷ []

abbrev IsX : Tree → Type 0
IsX t = Parses [] 5 written wff t → t ≡ x

x_parses : Parses [] 5 written wff x
x_parses = record { code = code-Var (sym 2) wff; typed = typed-Var [] 5 (sym 2) wff; named = named-Var (sym 2) wff; written = text-Var [] (sym 2) wff }

same_leaf : (v : Sym) (c : Typecode) → ◌≡◌ {A = List Leaf} (leaf.Var v c ∷ []) written → Var v c ≡ x
same_leaf v c e =
    let symbol : v ≡ sym 2 = cc in
    let code : c ≡ wff = cc in
    ap (λ (w : Sym). Var w c) symbol ∙ ap (λ (d : Typecode). Var (sym 2) d) code

at_var : (v : Sym) (c : Typecode) → IsX (Var v c)
at_var v c p = same_leaf v c (turned (text-Var [] v c) ∙ p.written)

at_work : (c : Typecode) (n : ℕ) → IsX (Work c n)
at_work c n p = let bad : ◌≡◌ {A = List Leaf} (leaf.Work c n ∷ []) written = turned (text-Work [] c n) ∙ p.written in absurd cc

at_node : (l : Label) (c : Typecode) (ts : List Tree) → IsX (Node l c ts)
at_node l c ts p = let here = typed_here [] 5 l c ts p.typed in let none = here.1 in absurd cc

only : (t : Tree) → IsX t
only = tree_ind IsX at_var at_work (λ c n p. absurd (fresh_is_not_named c n p.named)) (λ l c ts h p. at_node l c ts p)

x_read : IsRead (over inference []) 5 (sym 0 ∷ sym 2 ∷ []) x
x_read = record {
  provable = record { begins = (sym 0, sym 2 ∷ [], refl, refl); short = lit≤ tt };
  tree = record { parses = x_parses; only = only };
}

-- its variable is x, and its conclusion and its `$e` have the tree x
pub r_usable : IsUsable (over inference []) (label 2) r
r_usable = record { frame = refl; label = refl; conclusion = x_read; hyps = (x_read, tt); vars = refl }

-- ---- an assertion whose formula is one of set variables and one of classes

abbrev two_trees : List ℕ
two_trees = equal ++ codes " ax $a |- x = y $."

pub two_trees_clean : database_fault two_trees ≡ None
two_trees_clean = refl

pub two_trees_rows : kept_rows (codes "|-") (statements two_trees) ≡ kept_equal
two_trees_rows = refl

abbrev frame_ax : Frame
frame_ax = record {
  label = label 7;
  is_axiom = true;
  at = 9;
  formula = sym 4 ∷ sym 5 ∷ sym 3 ∷ sym 6 ∷ [];
  hyps = record { name = codes "vx"; floating = true; formula = sym 2 ∷ sym 5 ∷ [] } ∷ record { name = codes "vy"; floating = true; formula = sym 2 ∷ sym 6 ∷ [] } ∷ [];
  pairs = [];
}

pub ax_not_usable : (a : Assertion) → IsUsable (over two_trees kept_equal) (label 7) a → ⊥
ax_not_usable a u =
    let frame : Some frame_ax ≡ Some a.frame = u.frame in
    let is : frame_ax ≡ a.frame = cc in
    let tree : IsTheTreeAt (over two_trees kept_equal) 9 frame_ax.formula a.tree =
    subst (λ (f : Frame). IsTheTreeAt (over two_trees kept_equal) f.at f.formula a.tree) (turned is) u.conclusion.tree in
    trees_differ (tree.only as_sets by_sets ∙ turned (tree.only as_classes by_classes))
