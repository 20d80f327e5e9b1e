-- What the proofs of formulas rest on, of the database of a text without a fault.
use Rattle.std.specs.Prelude.{◌≡◌, ◌<◌, ◌≤◌, is_some, ◌==◌, ◌||◌, ◌&&◌, ℕ, Bool, true, false, not, List, [], ◌∷◌, length, drop, Contains, Some, None}
use Rattle.std.specs.List.{list_any, AllByRecursion}
use Rattle.mm_base.specs.declared.symbols.Sym.{Sym}
use Rattle.mm_base.specs.declared.symbols.Pair.{Pair}
use Rattle.mm_base.specs.declared.symbols.Label.{Label}
use Rattle.mm_model.specs.declared.frames.Hyp.{Hyp}
use Rattle.mm_model.specs.declared.frames.Frame.{Frame}
use Rattle.mm_model.specs.declared.rows.Item.{Item}
use Rattle.mm_model.specs.declared.rows.Item.TheVariants as slot
use Rattle.mm_model.specs.declared.rows.Production.{Production}
use Rattle.mm_model.specs.Labels.{is_label}
use Rattle.mm_model.specs.Names.{Name}
use Rattle.mm_model.specs.Texts.{row_of}
use Rattle.mm_model.specs.Productions.{TypedVariable, typed_variables, essentials}
use Rattle.mm_model.specs.Book.{Database, expression_at}
use Rattle.mm_model.specs.BookFacts.{IsDatabase, IsKnownAt}
use Rattle.proof_model.specs.Machine.{is_float_of}
use Rattle.model_laws.specs.FrameLaws.{own_leaf, own_expression}
use Rattle.model_laws.proofs.Listed.{Pairwise}
use Rattle.proof_laws.specs.Labels.{IsNoGap}
use Rattle.written_model.specs.Written.{frames_of}

-- a constant of a row is a constant at its place, and no variable of its frame
abbrev pub ItemIsApart : Database → Frame → Item → Type 0
ItemIsApart db f (slot.Const s) = (db.is_constant_at s f.at ≡ true) × (list_any (is_float_of s) f.hyps ≡ false)
ItemIsApart db f (slot.Slot k) = Unit {0}

pub record RowIsApart (db : Database) (r : Production) (f : Frame) : Type 0 where
  pub gives : list_any (is_float_of r.gives.0) f.hyps ≡ false
  pub items : AllByRecursion (ItemIsApart db f) r.items

-- a formula begins with a constant of a place
abbrev pub Begins : Database → ℕ → List Sym → Type 0
Begins db place [] = Unit {0}
Begins db place (c ∷ rest) = db.is_constant_at c place ≡ true

-- the symbol stands behind the typecode
abbrev pub stands_in : Sym → List Sym → Bool
stands_in s f = list_any (λ (v : Sym). v.0 == s.0) (drop 1 f)

-- the variable stands in the formula or in a `$e`
abbrev pub IsUsed : Frame → TypedVariable → Type 0
IsUsed f v = (stands_in v.sym f.formula || list_any (λ (h : Hyp). not h.floating && stands_in v.sym h.formula) f.hyps) ≡ true

-- both variables have a `$f`
abbrev pub PairHasFloats : List Hyp → Pair → Type 0
PairHasFloats hyps p = (list_any (is_float_of p.a) hyps ≡ true) × (list_any (is_float_of p.b) hyps ≡ true)

-- the frame's own facts: no constant has a `$f`, formulas begin with constants, the variables of pairs have a `$f`, and each
-- variable with a `$f` stands in the formula or in a `$e`
pub record FrameIsApart (db : Database) (f : Frame) : Type 0 where
  pub constants : (x : Sym) → db.is_constant_at x f.at ≡ true → list_any (is_float_of x) f.hyps ≡ false
  pub begins : Begins db f.at f.formula
  pub hyps_begin : AllByRecursion (λ (h : Hyp). Begins db f.at h.formula) f.hyps
  pub pairs : AllByRecursion (PairHasFloats f.hyps) f.pairs
  pub used : AllByRecursion (IsUsed f) (typed_variables f.hyps)

-- no more than a typecode and a variable
abbrev pub ShortFormula : List Sym → Type 0
ShortFormula [] = Unit {0}
ShortFormula (c ∷ []) = Unit {0}
ShortFormula (c ∷ v ∷ []) = Unit {0}
ShortFormula (c ∷ v ∷ x ∷ rest) = ⊥

abbrev pub ShortHyp : Hyp → Type 0
ShortHyp h = h.floating ≡ true → ShortFormula h.formula

abbrev pub NamesUnlike : Hyp → Hyp → Type 0
NamesUnlike h k = h.name ≡ k.name → ⊥

-- the active hypotheses of a place: no constant has a `$f`, each `$f` is short, their symbols are known, their labels are the database's, differ, and are
-- those of no assertion
pub record HypsAreApart (db : Database) (place : ℕ) : Type 0 where
  pub constants : (x : Sym) → db.is_constant_at x place ≡ true → list_any (is_float_of x) (db.active_at place).hyps ≡ false
  pub short : AllByRecursion ShortHyp (db.active_at place).hyps
  pub known : AllByRecursion (λ (h : Hyp). IsKnownAt db place h.formula) (db.active_at place).hyps
  pub labels : AllByRecursion (λ (h : Hyp). Contains db.labels h.name) (db.active_at place).hyps
  pub no_frames : AllByRecursion (λ (h : Hyp). frames_of db h.name ≡ None) (db.active_at place).hyps
  pub differ : Pairwise NamesUnlike (db.active_at place).hyps

-- the formula is at the frame's place what it is by the frame's own `$f`, and each of its symbols is something
pub record IsOwnFormula (db : Database) (f : Frame) (formula : List Sym) : Type 0 where
  pub leaves : AllByRecursion (λ s. is_some (own_leaf db f s) ≡ true) (drop 1 formula)
  pub expression : own_expression db f formula ≡ expression_at db f.at formula

pub record IsOwnFrame (db : Database) (f : Frame) : Type 0 where
  pub formula : IsOwnFormula db f f.formula
  pub hyps : AllByRecursion (λ (h : Hyp). IsOwnFormula db f h.formula) (essentials f.hyps)

pub record IsBook (db : Database) : Type 0 where
  pub facts : IsDatabase db
  pub within : (l : Label) (f : Frame) → db.frame l ≡ Some f → l.0 < length db.labels
  pub plain : (n : Name) → Contains db.labels n → IsNoGap n
  pub labels_are : (n : Name) → Contains db.labels n → is_label n ≡ true
  pub rows_apart : (l : Label) (r : Production) (f : Frame) → row_of db.rows l ≡ Some r → db.frame l ≡ Some f → RowIsApart db r f
  pub frames_apart : (l : Label) (f : Frame) → db.frame l ≡ Some f → FrameIsApart db f
  pub own : (l : Label) (f : Frame) → db.frame l ≡ Some f → IsOwnFrame db f
  pub constants_stay : (s : Sym) (p q : ℕ) → p ≤ q → db.is_constant_at s p ≡ true → db.is_constant_at s q ≡ true
  pub hyps_apart : (place : ℕ) → HypsAreApart db place
  pub given : (l : Label) (f : Frame) → db.frame l ≡ Some f → AllByRecursion (Contains (db.active_at f.at).hyps) (essentials f.hyps)
