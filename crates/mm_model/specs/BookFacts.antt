-- What holds of the database of a text without a fault.
use Rattle.std.specs.Prelude.{◌≡◌, ◌<◌, ℕ, not, true, List, [], ◌∷◌, length, map, drop, filter, slice_get, is_some, Option, Some}
use Rattle.std.specs.List.{AllByRecursion}
use Rattle.mm_base.specs.declared.symbols.Sym.{Sym}
use Rattle.mm_base.specs.declared.symbols.Label.{Label}
use Rattle.mm_model.specs.declared.frames.Hyp.{Hyp}
use Rattle.mm_model.specs.declared.frames.Frame.{Frame}
use Rattle.mm_model.specs.declared.rows.Item.{Item}
use Rattle.mm_model.specs.declared.rows.Item.TheVariants as slot
use Rattle.mm_model.specs.declared.rows.Production.{Production}
use Rattle.mm_model.specs.Names.{Name, sym}
use Rattle.mm_model.specs.Rows.{IsGrammar}
use Rattle.mm_model.specs.Texts.{row_of}
use Rattle.mm_model.specs.Productions.{TypedVariable, typed_variables, floats}
use Rattle.mm_model.specs.Book.{Database, Assertion, IsUsable, position_of, declared_leaf}

-- no two places of the list have one name
abbrev pub NamesDiffer : List Name → Type 0
NamesDiffer names = (i j : ℕ) (n : Name) → slice_get names i ≡ Some n → slice_get names j ≡ Some n → i ≡ j

-- each number is below the next
abbrev pub Rise : List ℕ → Type 0
Rise ns = (i j a b : ℕ) → slice_get ns i ≡ Some a → slice_get ns j ≡ Some b → i < j → a < b

-- no two of the variables are one
abbrev pub VariablesDiffer : List TypedVariable → Type 0
VariablesDiffer vars = (i j : ℕ) (v w : TypedVariable) → slice_get vars i ≡ Some v → slice_get vars j ≡ Some w → v.sym ≡ w.sym → i ≡ j

-- the symbol of an item, where these variables stand in the slots; symbol 0 for a slot that has none, as no row of a grammar has
abbrev pub item_symbol : List TypedVariable → Item → Sym
item_symbol vars (slot.Const s) = s
item_symbol vars (slot.Slot k) = symbol_at (slice_get vars k)
  where
    symbol_at : Option TypedVariable → Sym
    symbol_at (Some v) = v.sym
    symbol_at o = sym 0

-- the formula of the `$f` of a variable
abbrev pub float_formula : TypedVariable → List Sym
float_formula v = v.code.0 ∷ v.sym ∷ []

-- the row is the frame of its label: it has no `$e` and no pairs, the variables of its `$f` stand in the slots, and its formula is
-- the typecode that the row gives and the symbols of its items
pub record IsRowFrame (r : Production) (f : Frame) : Type 0 where
  pub at : f.at ≡ r.at
  pub slots : r.slots ≡ map (λ (v : TypedVariable). v.code) (typed_variables f.hyps)
  pub hyps : map (λ (h : Hyp). h.formula) f.hyps ≡ map float_formula (typed_variables f.hyps)
  pub all_float : filter (λ (h : Hyp). not h.floating) f.hyps ≡ []
  pub formula : f.formula ≡ r.gives.0 ∷ map (item_symbol (typed_variables f.hyps)) r.items
  pub no_pairs : f.pairs ≡ []

-- the symbols of a formula are the database's, and past the first each is a constant or a variable with a typecode at the place
pub record IsKnownAt (db : Database) (place : ℕ) (formula : List Sym) : Type 0 where
  pub symbols : AllByRecursion (λ s. s.0 < length db.symbols) formula
  pub leaves : AllByRecursion (λ s. is_some (declared_leaf db place s) ≡ true) (drop 1 formula)

-- the frame's own facts: its label and position, its `$f` have two symbols each, their variables differ, and its formulas are known
pub record IsFrame (db : Database) (l : Label) (f : Frame) : Type 0 where
  pub label : f.label ≡ l
  pub at : f.at ≡ position_of db l
  pub floats : map (λ (h : Hyp). h.formula) (floats f.hyps) ≡ map float_formula (typed_variables f.hyps)
  pub variables : VariablesDiffer (typed_variables f.hyps)
  pub formula : IsKnownAt db f.at f.formula
  pub hyps : AllByRecursion (λ (h : Hyp). IsKnownAt db f.at h.formula) f.hyps

-- what the worksheet side rests on
pub record IsDatabase (db : Database) : Type 0 where
  pub grammar : IsGrammar db.rows
  pub rows : (l : Label) (r : Production) → row_of db.rows l ≡ Some r → (f : Frame) × (db.frame l ≡ Some f) × IsRowFrame r f
  pub frames : (l : Label) (f : Frame) → db.frame l ≡ Some f → IsFrame db l f
  pub places : length db.positions ≡ length db.labels
  pub rise : Rise db.positions
  pub labels : NamesDiffer db.labels
  pub symbols : NamesDiffer db.symbols
  pub usable : (l : Label) (a : Assertion) → db.usable l ≡ Some a → IsUsable db l a
