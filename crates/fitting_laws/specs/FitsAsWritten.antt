-- Worksheets that fit as they are written: of a theorem of the database, with whole formulas, and a reference for each step that
-- fits over the places that it lists.
use Rattle.std.specs.Prelude.{◌≡◌, ℕ, suc, ◌<◌, ◌≤◌, ◌==◌, Bool, true, false, List, [], ◌∷◌, length, map, filter, take, if◌then◌else◌, decimal, slice_get, Option}
use Rattle.std.specs.Prelude.{Some, None, is_some, codes}
use Rattle.std.specs.List.{AllByRecursion, AllZip, list_all, last_or}
use Rattle.std.specs.Option.{option_map_or}
use Rattle.std.specs.Str.{bytes_eq}
use Rattle.mm_base.specs.declared.symbols.Label.{Label}
use Rattle.mm_base.specs.declared.symbols.Pair.{Pair}
use Rattle.mm_base.specs.declared.tree.Tree.{Tree}
use Rattle.mm_base.specs.Trees.{code_of}
use Rattle.mm_base.specs.Limits.{most_formula_tokens}
use Rattle.mm_model.specs.declared.frames.Hyp.{Hyp}
use Rattle.mm_model.specs.declared.frames.Frame.{Frame}
use Rattle.mm_model.specs.Names.{Name}
use Rattle.mm_model.specs.Productions.{TypedVariable, essentials}
use Rattle.mm_model.specs.Book.{Database, symbol_of, label_of, position_of, declared_leaf}
use Rattle.sheet_text.specs.declared.sheet.Given.{Given}
use Rattle.sheet_text.specs.declared.sheet.Given.TheVariants as given
use Rattle.sheet_text.specs.declared.sheet.Sheet.{Sheet}
use Rattle.sheet_text.specs.declared.sheet.SheetItem.TheVariants as item
use Rattle.sheet_text.specs.declared.sheet.SheetStep.{SheetStep}
use Rattle.sheet_text.specs.declared.sheet.PairLine.{PairLine}
use Rattle.sheet_text.specs.Layout.{steps}
use Rattle.solve_model.specs.Formulas.{IsTheTree}
use Rattle.solve_model.specs.Binding.{existing, place_of, names_of, given_pairs}
use Rattle.solve_model.specs.BindFaults.{is_variable_at}
use Rattle.written_model.specs.declared.options.DvMode.TheVariants as dv
use Rattle.written_model.specs.WrittenSteps.{Use}
use Rattle.written_model.specs.Found.{valued}
use Rattle.written_model.specs.Pairs.{clash_of, lack_of}

-- ---- formulas

-- the token is an active constant, or an active variable with an active `$f`
abbrev pub is_active : Database → ℕ → Name → Bool
is_active db place token = option_map_or (λ s. is_some (declared_leaf db place s)) (symbol_of db token) false

-- a whole formula: not too long, the provable typecode and active symbols, with one tree at the place, which is this one
pub record IsWhole (db : Database) (place : ℕ) (tokens : List Name) (tree : Tree) : Type 0 where
  pub short : length tokens ≤ most_formula_tokens
  pub rest : List Name
  pub provable : tokens ≡ db.provable ∷ rest
  pub active : list_all (is_active db place) tokens ≡ true
  pub one_tree : IsTheTree db place tokens tree

-- ---- steps

-- the names of so many steps: the last is `qed`, each other one has its number, from 1
abbrev pub numbered_name : ℕ → ℕ → Name
numbered_name count i = if suc i == count then codes "qed" else decimal (suc i)

-- the `h` step of a `$e`: its label and its tokens, and no places
pub record IsHypStep (db : Database) (h : Hyp) (s : SheetStep) : Type 0 where
  pub reference : s.reference ≡ Some h.name
  pub places : s.places ≡ []
  pub formula : s.formula ≡ names_of db h.formula

-- the tree of an earlier step
abbrev pub earlier_tree : List Tree → Given → Option Tree
earlier_tree earlier given.Gap = None
earlier_tree earlier (given.Step k) = slice_get earlier k

-- the step's reference is a usable assertion before the place, of which one substitution makes the conclusion the step's tree, and
-- the `$e`, in the order in which the step lists its places, the trees of these. Nothing clashes, and the needed pairs are given
pub record FitsAsListed (db : Database) (place : ℕ) (pairs : List Pair) (earlier : List Tree) (s : SheetStep) (tree : Tree) : Type 0 where
  pub name : Name
  pub reference : s.reference ≡ Some name
  pub label : Label
  pub is_label : label_of db name ≡ Some label
  pub by : Use
  pub is_usable : db.usable label ≡ Some by.assertion
  pub before : position_of db label < place
  pub typecodes : map code_of by.values ≡ map (λ (v : TypedVariable). v.code) by.assertion.vars
  pub conclusion : valued by by.assertion.tree ≡ tree
  pub hyps : AllZip (λ (h : Tree) (g : Given). earlier_tree earlier g ≡ Some (valued by h)) by.assertion.hyps s.places
  pub no_clash : clash_of by ≡ None
  pub no_lack : lack_of dv.Given pairs by ≡ None

-- a `$d` of two active variables
pub record IsActivePair (db : Database) (place : ℕ) (p : PairLine) : Type 0 where
  pub one : Name
  pub other : Name
  pub names : p.names ≡ one ∷ other ∷ []
  pub differ : bytes_eq one other ≡ false
  pub active : list_all (is_variable_at db place) p.names ≡ true

-- ---- worksheets

-- The worksheet is that of a `$p` of the database. It has steps alone, numbered in order; `qed` is the last and has the theorem's
-- formula; the `h` steps are its `$e` in order; and each other step fits over the places that it lists.
pub record FitsAsWritten (db : Database) (sheet : Sheet) : Type 0 where
  pub frame : Frame
  pub theorem : existing db sheet ≡ Some frame
  pub loc : sheet.loc ≡ None
  pub items : sheet.items ≡ map (λ s. item.Step s) (steps sheet)
  pub pairs : AllByRecursion (IsActivePair db (place_of db sheet)) sheet.pairs
  pub names : (i : ℕ) (s : SheetStep) → slice_get (steps sheet) i ≡ Some s → s.name ≡ numbered_name (length (steps sheet)) i
  pub qed : SheetStep
  pub qed_last : last_or None (steps sheet) ≡ Some qed
  pub qed_no_hyp : qed.hyp ≡ false
  pub qed_formula : qed.formula ≡ names_of db frame.formula
  pub hyps : AllZip (IsHypStep db) (essentials frame.hyps) (filter (λ (s : SheetStep). s.hyp) (steps sheet))
  pub trees : List Tree
  pub whole : AllZip (λ (s : SheetStep) (t : Tree). IsWhole db (place_of db sheet) s.formula t) (steps sheet) trees
  pub fits : (i : ℕ) (s : SheetStep) (t : Tree) → slice_get (steps sheet) i ≡ Some s → slice_get trees i ≡ Some t → s.hyp ≡ false
      → FitsAsListed db (place_of db sheet) (given_pairs db sheet) (take i trees) s t
