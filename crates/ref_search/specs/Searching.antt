-- The first of some labels whose assertion fits. But for `book`, `ForEachText`, `HasFound`, `IsSoundUse` and `IsSoundBelow` this is part of the proof, and not of the claim.
use Rattle.std.specs.Prelude.{◌≡◌, ℕ, ◌+◌, ◌<◌, ◌≤◌, List, [], ◌∷◌, length, Option, Some, None, option_map}
use Rattle.std.specs.List.{AllByRecursion}
use Rattle.mm_base.specs.declared.kinds.Kinds.{Kinds}
use Rattle.mm_base.specs.declared.symbols.Label.{Label}
use Rattle.mm_base.specs.declared.symbols.Pair.{Pair}
use Rattle.mm_base.specs.declared.tree.Tree.{Tree, out-Tree}
use Rattle.mm_base.specs.declared.tree.Tree.TheOpen.{Tree-F}
use Rattle.mm_model.specs.Book.{Database, Assertion}
use Rattle.solve_model.specs.Firsts.{IsFirstOrNone}
use Rattle.mm_frames.specs.Contents.{frame_at}
use Rattle.mm_database.specs.declared.assertions.Parsed.{Parsed}
use Rattle.mm_database.specs.Books.{parsed_at, usable_with, database_of}
use Rattle.mm_database.specs.Opened.{Opened, IsOpened}
use Rattle.ref_search.specs.declared.placing.Fit.{Fit}
use Rattle.ref_search.specs.declared.wanted.Wanted.{Wanted}
use Rattle.ref_search.specs.declared.wanted.Found.{Found}
use Rattle.ref_search.specs.Placing.{orders_of, FitsWanted, HasValues}

-- the database of the definitions
abbrev pub book : Kinds → List ℕ → Opened → Database
book kinds text d = database_of kinds text d.rows d.parsed

-- the label's usable assertion fits in the order with these values
pub record FitsAs (db : Database) (given : Option (List Pair)) (w : Wanted) (l : Label) (order : List ℕ) (a : Assertion) (values : List Tree) : Type 0 where
  pub usable : db.usable l ≡ Some a
  pub fits : FitsWanted a given w order values

abbrev pub FitsLabel : Database → Option (List Pair) → Wanted → Label → List ℕ → Type 0
FitsLabel db given w l order = (a : Assertion) × (values : List Tree) × FitsAs db given w l order a values

-- the label fits in no order
abbrev pub NoFit : Database → Option (List Pair) → Wanted → Label → Type 0
NoFit db given w l = IsFirstOrNone (FitsLabel db given w l) (orders_of (length w.hyps)) None

-- the first order in which the label fits, with its values; or there is none
pub record IsLabelFit (db : Database) (given : Option (List Pair)) (w : Wanted) (l : Label) (o : Option Fit) : Type 0 where
  pub first : IsFirstOrNone (FitsLabel db given w l) (orders_of (length w.hyps)) (option_map (λ (fit : Fit). fit.order) o)
  pub values : HasValues (λ fit. (a : Assertion) × FitsAs db given w l fit.order a fit.trees) o

-- something is kept of the label, with so many `$e`
abbrev pub IsCandidate : List (Option Parsed) → ℕ → Label → Type 0
IsCandidate parsed n l = (p : Parsed) × (parsed_at parsed l ≡ Some p) × (length p.hyps ≡ n)

-- the numbers rise, from one on
abbrev pub RiseFrom : ℕ → List Label → Type 0
RiseFrom low [] = Unit {0}
RiseFrom low (l ∷ ls) = (low ≤ l.0) × RiseFrom (l.0 + 1) ls

abbrev pub HasFound : (Found → Type 0) → Option Found → Type 0
HasFound P None = Unit {0}
HasFound P (Some found) = P found

-- the number of the label that is found, else the bound
abbrev pub upto : ℕ → Option Found → ℕ
upto bound None = bound
upto bound (Some found) = found.label.0

-- the label is that of a usable assertion, and each of its variables has a value
pub record IsSoundUse (d : Opened) (l : Label) (values : List Tree) : Type 0 where
  pub assertion : Assertion
  pub is_usable : usable_with d.parsed l (frame_at d.contents l) ≡ Some assertion
  pub count : length values ≡ length assertion.vars

-- and it is below a bound
pub record IsSoundBelow (d : Opened) (bound : ℕ) (found : Found) : Type 0 where
  pub below : found.label.0 < bound
  pub by : IsSoundUse d found.label found.trees

abbrev pub as_fit : Found → Fit
as_fit found = record { order = found.order; trees = found.trees }

-- the label that is found is below the bound, and fits as it is found
pub record IsFoundAt (db : Database) (given : Option (List Pair)) (w : Wanted) (bound : ℕ) (found : Found) : Type 0 where
  pub below : found.label.0 < bound
  pub fits : IsLabelFit db given w found.label (Some (as_fit found))

-- the first of these labels that is below the bound and fits
pub record IsFirstAmong (db : Database) (given : Option (List Pair)) (w : Wanted) (labels : List Label) (bound : ℕ) (o : Option Found) : Type 0 where
  pub before : AllByRecursion (λ (l : Label). l.0 < upto bound o → NoFit db given w l) labels
  pub found : HasFound (IsFoundAt db given w bound) o

-- the first of all labels that is below the bound and fits
pub record IsFirstBelow (db : Database) (given : Option (List Pair)) (w : Wanted) (bound : ℕ) (o : Option Found) : Type 0 where
  pub before : (l : Label) → l.0 < upto bound o → NoFit db given w l
  pub found : HasFound (IsFoundAt db given w bound) o

-- the same for every text that the database is opened from
abbrev pub ForEachText : Opened → (Database → Type 0) → Type 0
ForEachText d P = (kinds : Kinds) (text : List ℕ) → IsOpened kinds text d → P (book kinds text d)

-- what stands at the top, where that is a production
abbrev pub layer_head : {X : Type 0} → Tree-F X → Option Label
layer_head (Tree-F.Var s c) = None
layer_head (Tree-F.Work c n) = None
layer_head (Tree-F.Fresh c n) = None
layer_head (Tree-F.Node l c ts) = Some l

abbrev pub head_of : Tree → Option Label
head_of t = layer_head (out-Tree t)
