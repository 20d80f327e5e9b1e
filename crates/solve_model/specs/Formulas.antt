-- Formulas of a worksheet: what a token is, and the trees of a formula.
use Rattle.std.specs.Prelude.{◌≡◌, ℕ, ◌+◌, ◌-◌, ◌*◌, ◌^◌, Bool, ◌&&◌, List, ◌∷◌, ◌++◌, drop, nat_lt, if◌then◌else◌, fold, filter_map, slice_get}
use Rattle.std.specs.Prelude.{decimal, Option, Some, None, option_map, option_and_then, codes, is_some}
use Rattle.std.specs.Bool.{then_some}
use Rattle.std.specs.Str.{bytes_eq}
use Rattle.mm_base.specs.declared.symbols.Sym.{Sym}
use Rattle.mm_base.specs.declared.symbols.Typecode.{Typecode}
use Rattle.mm_base.specs.declared.tree.Tree.{Tree}
use Rattle.mm_model.specs.declared.rows.Leaf.{Leaf}
use Rattle.mm_model.specs.declared.rows.Leaf.TheVariants as leaf
use Rattle.mm_model.specs.Names.{Name}
use Rattle.mm_model.specs.Typed.{Parses}
use Rattle.mm_model.specs.Book.{Database, symbol_of, symbol_name, logic_code, declared_leaf}
use Rattle.sheet_text.specs.Forms.{after_prefix}

-- what stands before the number in the name of a work variable of a typecode
abbrev pub prefix_of : Name → Name
prefix_of code =
    if bytes_eq code (codes "wff") then codes "&W" else (if bytes_eq code (codes "setvar") then codes "&S" else (if bytes_eq code (codes "class") then codes "&C"
    else codes "&" ++ code ++ codes "."))

-- the name of a work variable, by its typecode and its number
abbrev pub spelling : Name → ℕ → Name
spelling code n = prefix_of code ++ decimal n

abbrev pub number_of : List ℕ → ℕ
number_of digits = fold (λ n d. 10 * n + (d - 48)) 0 digits

-- a number from 1 below 2^32, by its digits, without a leading zero
abbrev pub work_number_of : List ℕ → Option ℕ
work_number_of digits = then_some (nat_lt 0 (number_of digits) && nat_lt (number_of digits) (2 ^ 32) && bytes_eq digits (decimal (number_of digits))) (number_of digits)

-- the number of the work variable of a typecode that a token names
abbrev pub work_number : Name → Name → Option ℕ
work_number code token = option_and_then work_number_of (after_prefix (prefix_of code) token)

-- the typecodes that a work variable at a place may have: the logic one, and those of the `$f` before the place
abbrev pub work_codes : Database → ℕ → List Typecode
work_codes db place = logic_code db ∷ db.float_codes place

-- the work variable that a token names, where the database declares the typecode as a constant
abbrev pub work_of : Database → Name → Typecode → Option Leaf
work_of db token code =
    if db.is_constant_at code.0 db.statement_count then option_map (λ n. leaf.Work code n) (work_number (symbol_name db code.0) token) else None

-- a symbol that the database declares anywhere is that symbol; any other token may be a work variable
abbrev pub leaf_by : Database → ℕ → Name → Option Sym → Option Leaf
leaf_by db place token (Some s) = declared_leaf db place s
leaf_by db place token None = slice_get (filter_map (work_of db token) (work_codes db place)) 0

-- what a formula's token is at a place
abbrev pub leaf_of : Database → ℕ → Name → Option Leaf
leaf_of db place token = leaf_by db place token (symbol_of db token)

abbrev pub is_known : Database → ℕ → Name → Bool
is_known db place token = is_some (leaf_of db place token)

-- a formula is the provable typecode and an expression of the logic typecode
abbrev pub expression_of : Database → ℕ → List Name → List Leaf
expression_of db place tokens = filter_map (leaf_of db place) (drop 1 tokens)

-- a tree of the formula at the place
abbrev pub IsTreeOf : Database → ℕ → List Name → Tree → Type 0
IsTreeOf db place tokens t = Parses db.rows place (expression_of db place tokens) (logic_code db) t

-- the formula has exactly this tree
pub record IsTheTree (db : Database) (place : ℕ) (tokens : List Name) (t : Tree) : Type 0 where
  pub parses : IsTreeOf db place tokens t
  pub only : (u : Tree) → IsTreeOf db place tokens u → u ≡ t

-- the formula has no tree
abbrev pub HasNoTree : Database → ℕ → List Name → Type 0
HasNoTree db place tokens = (t : Tree) → IsTreeOf db place tokens t → ⊥

-- the formula has two different trees
pub record HasTwoTrees (db : Database) (place : ℕ) (tokens : List Name) : Type 0 where
  pub one : Tree
  pub other : Tree
  pub one_parses : IsTreeOf db place tokens one
  pub other_parses : IsTreeOf db place tokens other
  pub differ : one ≡ other → ⊥
