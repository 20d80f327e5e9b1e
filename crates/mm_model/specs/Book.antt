-- A database, as the definitions on worksheets see it.
use Rattle.std.specs.Prelude.{◌≡◌, ℕ, ◌==◌, ◌≤◌, Bool, List, [], ◌∷◌, length, drop, find, slice_index_or, Option, Some, None, option_map, if◌then◌else◌}
use Rattle.std.specs.List.{AllZip, list_any, filter_map}
use Rattle.mm_base.specs.declared.symbols.Sym.{Sym}
use Rattle.mm_base.specs.declared.symbols.Label.{Label}
use Rattle.mm_base.specs.declared.symbols.Typecode.{Typecode}
use Rattle.mm_base.specs.declared.tree.Tree.{Tree}
use Rattle.mm_base.specs.declared.kinds.Kinds.{Kinds}
use Rattle.mm_base.specs.Limits.{most_formula_tokens}
use Rattle.mm_model.specs.declared.frames.Hyp.{Hyp}
use Rattle.mm_model.specs.declared.frames.Frame.{Frame}
use Rattle.mm_model.specs.declared.frames.Active.{Active}
use Rattle.mm_model.specs.declared.rows.Leaf.{Leaf}
use Rattle.mm_model.specs.declared.rows.Leaf.TheVariants as leaf
use Rattle.mm_model.specs.declared.rows.Production.{Production}
use Rattle.mm_model.specs.Names.{Name, typecode, symbol_named, label_named}
use Rattle.mm_model.specs.Statements.{statements, labels}
use Rattle.mm_model.specs.Frames.{symbols, symbol_in, positions, end_of, frame_of, active_at, is_constant_at, place_after, float_codes}
use Rattle.mm_model.specs.Productions.{TypedVariable, essentials, typed_variables, kept_rows}
use Rattle.mm_model.specs.Typed.{Parses}

-- a usable assertion: the trees of its conclusion and of its `$e`, and its mandatory variables in the order of the frame
pub record Assertion : Type 0 where
  pub label : Label
  pub frame : Frame
  pub tree : Tree
  pub hyps : List Tree
  pub vars : List TypedVariable

-- what a database gives: the two typecodes by name, names by number, positions of labels, the count of statements,
-- frames, what is active, the kept productions, and the usable assertions
pub record Database : Type 0 where
  pub provable : Name
  pub logic : Name
  pub symbols : List Name
  pub labels : List Name
  pub positions : List ℕ
  pub statement_count : ℕ
  pub frame : Label → Option Frame
  pub active_at : ℕ → Active
  pub is_constant_at : Sym → ℕ → Bool
  pub place_after : Label → ℕ
  pub float_codes : ℕ → List Typecode
  pub rows : List Production
  pub usable : Label → Option Assertion

-- the symbol, or the label, of a name
abbrev pub symbol_of : Database → Name → Option Sym
symbol_of db name = symbol_named db.symbols name

abbrev pub label_of : Database → Name → Option Label
label_of db name = label_named db.labels name

-- the name of a symbol, and of a label
abbrev pub symbol_name : Database → Sym → Name
symbol_name db s = slice_index_or db.symbols s.0 []

abbrev pub label_name : Database → Label → Name
label_name db l = slice_index_or db.labels l.0 []

-- the number of a label's statement
abbrev pub position_of : Database → Label → ℕ
position_of db l = slice_index_or db.positions l.0 0

-- the logic typecode; past the last symbol where the database does not declare it
abbrev pub logic_code : Database → Typecode
logic_code db = typecode (symbol_in db.symbols db.logic)

-- ---- the trees of a formula

-- the typecode of a variable by these hypotheses
abbrev pub float_of : Sym → List Hyp → Option Typecode
float_of s hyps = option_map (λ (v : TypedVariable). v.code) (find (λ (v : TypedVariable). v.sym.0 == s.0) (typed_variables hyps))

-- what a symbol is in an expression at a place: a constant, or a variable with an active `$f`
abbrev pub declared_leaf : Database → ℕ → Sym → Option Leaf
declared_leaf db place s =
    if db.is_constant_at s place then Some (leaf.Const s)
    else (if list_any (λ (v : Sym). v.0 == s.0) (db.active_at place).variables
    then option_map (λ c. leaf.Var s c) (float_of s (db.active_at place).hyps)
    else None)

-- the expression behind the typecode of a formula. A symbol that is neither is left out; a frame's formula has none at its place
abbrev pub expression_at : Database → ℕ → List Sym → List Leaf
expression_at db place formula = filter_map (declared_leaf db place) (drop 1 formula)

-- a tree of the formula at the place, of the logic typecode
abbrev pub IsTreeAt : Database → ℕ → List Sym → Tree → Type 0
IsTreeAt db place formula t = Parses db.rows place (expression_at db place formula) (logic_code db) t

-- the formula has exactly this tree
pub record IsTheTreeAt (db : Database) (place : ℕ) (formula : List Sym) (t : Tree) : Type 0 where
  pub parses : IsTreeAt db place formula t
  pub only : (u : Tree) → IsTreeAt db place formula u → u ≡ t

-- ---- usable assertions

-- the formula is one that a usable assertion may have: it begins with the provable typecode, and is not too long
pub record IsAssertionFormula (db : Database) (formula : List Sym) : Type 0 where
  pub begins : (s : Sym) × (rest : List Sym) × (formula ≡ s ∷ rest) × (symbol_of db db.provable ≡ Some s)
  pub short : length formula ≤ most_formula_tokens

-- a formula of a usable assertion, with its one tree below the assertion's position
pub record IsRead (db : Database) (place : ℕ) (formula : List Sym) (t : Tree) : Type 0 where
  pub provable : IsAssertionFormula db formula
  pub tree : IsTheTreeAt db place formula t

-- the assertion of a label is usable, with these trees
pub record IsUsable (db : Database) (l : Label) (a : Assertion) : Type 0 where
  pub frame : db.frame l ≡ Some a.frame
  pub label : a.label ≡ l
  pub conclusion : IsRead db a.frame.at a.frame.formula a.tree
  pub hyps : AllZip (λ (h : Hyp) (t : Tree). IsRead db a.frame.at h.formula t) (essentials a.frame.hyps) a.hyps
  pub vars : a.vars ≡ typed_variables a.frame.hyps

-- ---- the database of a text

-- the database of a text without a fault, under these kinds
pub record IsDatabaseOf (kinds : Kinds) (text : List ℕ) (db : Database) : Type 0 where
  pub provable : db.provable ≡ kinds.provable
  pub logic : db.logic ≡ kinds.logic
  pub symbols : db.symbols ≡ symbols (statements text)
  pub labels : db.labels ≡ labels (statements text)
  pub positions : db.positions ≡ positions (statements text)
  pub statement_count : db.statement_count ≡ end_of (statements text)
  pub frame : (l : Label) → db.frame l ≡ frame_of (statements text) l
  pub active_at : (place : ℕ) → db.active_at place ≡ active_at (statements text) place
  pub is_constant_at : (s : Sym) (place : ℕ) → db.is_constant_at s place ≡ is_constant_at (statements text) s place
  pub place_after : (l : Label) → db.place_after l ≡ place_after (statements text) l
  pub float_codes : (place : ℕ) → db.float_codes place ≡ float_codes (statements text) place
  pub rows : db.rows ≡ kept_rows kinds.provable (statements text)
  pub usable_is : (l : Label) (a : Assertion) → db.usable l ≡ Some a → IsUsable db l a
  pub usable_all : (l : Label) (a : Assertion) → IsUsable db l a → db.usable l ≡ Some a
