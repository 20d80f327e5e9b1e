-- What holds of the database of a text without a fault, law by law.
use Rattle.std.specs.Prelude.{◌≡◌, ◌==◌, ℕ, not, true, false, List, ◌∷◌, length, map, drop, Contains, Some, None, ◌<◌, ◌≤◌}
use Rattle.std.specs.List.{AllByRecursion, list_all, list_any}
use Rattle.mm_base.specs.declared.symbols.Sym.{Sym}
use Rattle.mm_base.specs.declared.symbols.Label.{Label}
use Rattle.mm_base.specs.declared.symbols.Typecode.{Typecode}
use Rattle.mm_base.specs.declared.kinds.Kinds.{Kinds}
use Rattle.mm_base.specs.Limits.{most_database_bytes}
use Rattle.mm_model.specs.declared.frames.Hyp.{Hyp}
use Rattle.mm_model.specs.declared.frames.Frame.{Frame}
use Rattle.mm_model.specs.declared.rows.Production.{Production}
use Rattle.mm_model.specs.Statements.{database_fault}
use Rattle.mm_model.specs.Labels.{is_label}
use Rattle.mm_model.specs.Names.{Name}
use Rattle.mm_model.specs.Words.{is_white}
use Rattle.mm_model.specs.Productions.{TypedVariable, typed_variables, essentials, item_of}
use Rattle.mm_model.specs.Rows.{IsGrammar}
use Rattle.mm_model.specs.Texts.{row_of}
use Rattle.mm_model.specs.Book.{Database, IsDatabaseOf}
use Rattle.mm_model.specs.BookFacts.{NamesDiffer, Rise, IsRowFrame, IsFrame, IsDatabase}

-- a fact of the database of each text without a fault
abbrev pub OfEach : (Database → Type 0) → Type 0
OfEach Fact = (kinds : Kinds) (text : List ℕ) (db : Database) → IsDatabaseOf kinds text db → database_fault text ≡ None → Fact db

-- no two labels are one, as a label used before is a fault
abbrev pub LabelsAreDistinct : Type 0
LabelsAreDistinct = OfEach (λ db. NamesDiffer db.labels)

-- no two symbols by number are one
abbrev pub SymbolsAreDistinct : Type 0
SymbolsAreDistinct = OfEach (λ db. NamesDiffer db.symbols)

-- each label has a position, and later labels have later ones
abbrev pub PositionsRise : Type 0
PositionsRise = OfEach (λ db. (length db.positions ≡ length db.labels) × Rise db.positions)

-- a frame has its label and its label's position; each of its `$f` has two symbols, their variables differ, and the symbols
-- of its formulas are known at its place
abbrev pub FramesAreWhole : Type 0
FramesAreWhole = OfEach (λ db. (l : Label) (f : Frame) → db.frame l ≡ Some f → IsFrame db l f)

-- a symbol's name: not empty, without white space and without a dollar
pub record IsSymbolName (n : Name) : Type 0 where
  pub some : (length n == 0) ≡ false
  pub plain : list_all (λ b. not (is_white b)) n ≡ true
  pub no_dollar : list_any (λ b. b == 36) n ≡ false

-- labels have the bytes of labels, and symbols are words without a dollar
abbrev pub NamesAreWords : Type 0
NamesAreWords = OfEach (λ db. AllByRecursion (λ n. is_label n ≡ true) db.labels × AllByRecursion IsSymbolName db.symbols)

-- the labels of what is active at a place have no white space
abbrev pub ActiveNamesArePlain : Type 0
ActiveNamesArePlain = OfEach (λ db. (place : ℕ) → AllByRecursion (λ (h : Hyp). list_all (λ b. not (is_white b)) h.name ≡ true) (db.active_at place).hyps)

-- the kept productions are a grammar
abbrev pub RowsAreAGrammar : Type 0
RowsAreAGrammar = OfEach (λ db. IsGrammar db.rows)

-- each kept production is as the frame of its label says
abbrev pub RowsAreFrames : Type 0
RowsAreFrames = OfEach (λ db. (l : Label) (r : Production) → row_of db.rows l ≡ Some r → (f : Frame) × (db.frame l ≡ Some f) × IsRowFrame r f)

-- all that worksheets rest on
abbrev pub HasDatabaseFacts : Type 0
HasDatabaseFacts = OfEach (λ db. IsDatabase db)

-- two databases that are one in what they answer
pub record Agree (db other : Database) : Type 0 where
  pub provable : db.provable ≡ other.provable
  pub logic : db.logic ≡ other.logic
  pub symbols : db.symbols ≡ other.symbols
  pub labels : db.labels ≡ other.labels
  pub positions : db.positions ≡ other.positions
  pub statement_count : db.statement_count ≡ other.statement_count
  pub frame : (l : Label) → db.frame l ≡ other.frame l
  pub active_at : (place : ℕ) → db.active_at place ≡ other.active_at place
  pub is_constant_at : (s : Sym) (place : ℕ) → db.is_constant_at s place ≡ other.is_constant_at s place
  pub place_after : (l : Label) → db.place_after l ≡ other.place_after l
  pub float_codes : (place : ℕ) → db.float_codes place ≡ other.float_codes place
  pub rows : db.rows ≡ other.rows
  pub usable : (l : Label) → db.usable l ≡ other.usable l

-- two databases of one text under given kinds answer alike
abbrev pub DatabasesOfATextAgree : Type 0
DatabasesOfATextAgree = (kinds : Kinds) (text : List ℕ) (db other : Database) → IsDatabaseOf kinds text db → IsDatabaseOf kinds text other → Agree db other

-- what places say of symbols and typecodes: what is a constant stays one; a row has the items of its label's frame; an
-- assertion's formula begins with a constant; and the typecodes of `$f` below a place stay, are those of the frames there, and are constants
pub record HasPlaces (db : Database) : Type 0 where
  pub constants_stay : (s : Sym) (p q : ℕ) → p ≤ q → db.is_constant_at s p ≡ true → db.is_constant_at s q ≡ true
  pub constants_end : (s : Sym) (p : ℕ) → db.is_constant_at s p ≡ true → db.is_constant_at s db.statement_count ≡ true
  pub row_items : (l : Label) (r : Production) → row_of db.rows l ≡ Some r → (f : Frame) × (db.frame l ≡ Some f) × (r.items ≡ map (item_of (typed_variables f.hyps)) (drop 1 f.formula))
  pub frame_begins : (l : Label) (f : Frame) (c : Sym) (rest : List Sym) → db.frame l ≡ Some f → f.formula ≡ c ∷ rest → db.is_constant_at c f.at ≡ true
  pub codes_stay : (p q : ℕ) (c : Typecode) → p ≤ q → Contains (db.float_codes p) c → Contains (db.float_codes q) c
  pub frame_codes : (l : Label) (f : Frame) (v : TypedVariable) → db.frame l ≡ Some f → Contains (typed_variables f.hyps) v → Contains (db.float_codes f.at) v.code
  pub codes_are_constants : (p : ℕ) (c : Typecode) → Contains (db.float_codes p) c → (db.is_constant_at c.0 db.statement_count ≡ true) × (c.0.0 < length db.symbols)

abbrev pub HavePlaces : Type 0
HavePlaces = OfEach (λ db. HasPlaces db)

-- a constant is a symbol of the database, the typecode of an active `$f` is one of those below the place, and symbols are no
-- more than a text has bytes
pub record HasSymbols (db : Database) : Type 0 where
  pub few : length db.symbols ≤ most_database_bytes
  pub constants_within : (s : Sym) (p : ℕ) → db.is_constant_at s p ≡ true → s.0 < length db.symbols
  pub active_codes : (p : ℕ) (v : TypedVariable) → Contains (typed_variables (db.active_at p).hyps) v → Contains (db.float_codes p) v.code

abbrev pub HaveSymbols : Type 0
HaveSymbols = OfEach (λ db. HasSymbols db)
