-- The tuples of steps that serve the `$e` of a frame. All of this is part of the proof, and not of the claim.
use Rattle.std.specs.Prelude.{◌≡◌, ℕ, List, ◌∷◌, length, map, flat_map, drop, slice_get, slice_index_or, Option, Some, None, option_map}
use Rattle.std.specs.List.{AllByRecursion}
use Rattle.mm_base.specs.declared.symbols.Sym.{Sym}
use Rattle.mm_base.specs.declared.symbols.Pair.{Pair}
use Rattle.mm_base.specs.declared.tree.Tree.{Tree}
use Rattle.mm_model.specs.declared.frames.Frame.{Frame}
use Rattle.mm_model.specs.Productions.{typed_variables}
use Rattle.mm_model.specs.Book.{Assertion}
use Rattle.solve_model.specs.Firsts.{IsFirstOrNone}
use Rattle.written_model.specs.WrittenSteps.{no_tree}
use Rattle.auto_model.specs.AutoFilled.{tuples}
use Rattle.ref_search.specs.declared.wanted.Wanted.{Wanted}
use Rattle.ref_search.specs.Matching.{Binding, Agrees, AreBound, Becomes, IsOver}
use Rattle.ref_search.specs.Completing.{Completes, IsRule}
use Rattle.ref_search.specs.Placing.{trees_at, CanComplete, FirstFrom, FitsWanted, CanFit}
use Rattle.auto_fill.specs.declared.walking.Fit.{Fit}

abbrev pub HasFit : (Fit → Type 0) → Option Fit → Type 0
HasFit P None = Unit {0}
HasFit P (Some fit) = P fit

-- each variable of the frame has a value
abbrev pub HasAll : Frame → Option Fit → Type 0
HasAll frame o = HasFit (λ fit. length fit.trees ≡ length (typed_variables frame.hyps)) o

-- the first of these tuples that serves, with its values; or there is none
pub record IsFirstFit (a : Assertion) (given : Option (List Pair)) (bs : List Binding) (hyps wanted : List Tree) (all : List (List ℕ)) (o : Option Fit) : Type 0 where
  pub first : IsFirstOrNone (CanComplete a given bs hyps wanted) all (option_map (λ (fit : Fit). fit.places) o)
  pub values : HasFit (λ fit. Completes a given bs hyps (trees_at wanted fit.places) fit.trees) o

-- the step's formula, and those of all steps
abbrev pub wanted_of : List Tree → ℕ → Wanted
wanted_of trees k = record { formula = slice_index_or trees k no_tree; hyps = trees }

-- the first tuple with which the assertion serves, with its values; or there is none
pub record IsFitOf (a : Assertion) (given : Option (List Pair)) (w : Wanted) (places : List ℕ) (o : Option Fit) : Type 0 where
  pub first : IsFirstOrNone (CanFit a given w) (tuples (length a.hyps) places) (option_map (λ (fit : Fit). fit.places) o)
  pub values : HasFit (λ fit. FitsWanted a given w fit.places fit.trees) o

-- ---- one `$e`

-- whatever agrees with the bindings, the tree of the frame does not become the tree at the place
pub record Differs (vars : List Sym) (bs : List Binding) (hyp : Tree) (wanted : List Tree) (k : ℕ) : Type 0 where
  pub never : (f : Sym → Tree) → IsOver vars f → Agrees f bs → Becomes hyp (slice_index_or wanted k no_tree) f → ⊥

-- it becomes none of the trees at the places
pub record BecomesNone (vars : List Sym) (bs : List Binding) (hyp : Tree) (wanted : List Tree) (places : List ℕ) : Type 0 where
  pub each : AllByRecursion (Differs vars bs hyp wanted) places

-- so one of these trees of the frame
pub record CannotPlace (vars : List Sym) (bs : List Binding) (hyps wanted : List Tree) (places : List ℕ) : Type 0 where
  pub number : ℕ
  pub hyp : Tree
  pub there : slice_get hyps number ≡ Some hyp
  pub none : BecomesNone vars bs hyp wanted places

-- the tuples that begin with a place
abbrev pub begun_with : ℕ → List ℕ → ℕ → List (List ℕ)
begun_with n places k = map (λ more. k ∷ more) (tuples n places)

-- the bindings are as before, and the first tuple is among those that begin with one of the places from a number on
pub record IsWalkedTo (frame : Frame) (vars : List Sym) (old now : List Binding) (hyp : Tree) (hyps wanted : List Tree) (places : List ℕ) (given : Option (List Pair)) (i : ℕ) : Type 0 where
  pub same : now ≡ old
  pub first : (a : Assertion) → IsRule a frame vars → AreBound vars old
      → FirstFrom (CanComplete a given old (hyp ∷ hyps) wanted) (flat_map (begun_with (length hyps) places) (drop i places)) (flat_map (begun_with (length hyps) places) places)
