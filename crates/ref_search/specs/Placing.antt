-- The orders in which given trees fit the `$e` of a frame. But for `IsClosed` this is part of the proof, and not of the claim.
use Rattle.std.specs.Prelude.{◌≡◌, ℕ, List, [], ◌∷◌, true, length, map, flat_map, drop, slice_index_or, nat_le, if◌then◌else◌, Option, Some, None, option_map}
use Rattle.std.specs.List.{range_with_len}
use Rattle.mm_base.specs.declared.symbols.Sym.{Sym}
use Rattle.mm_base.specs.declared.symbols.Pair.{Pair}
use Rattle.mm_base.specs.declared.tree.Tree.{Tree}
use Rattle.mm_base.specs.Limits.{most_ordered_places}
use Rattle.mm_model.specs.declared.frames.Frame.{Frame}
use Rattle.mm_model.specs.Productions.{typed_variables}
use Rattle.mm_model.specs.Book.{Assertion}
use Rattle.solve_model.specs.Firsts.{picks, orders, IsFirstOrNone}
use Rattle.written_model.specs.Found.{is_ground}
use Rattle.written_model.specs.WrittenSteps.{no_tree}
use Rattle.ref_search.specs.declared.placing.Fit.{Fit}
use Rattle.ref_search.specs.declared.wanted.Wanted.{Wanted}
use Rattle.ref_search.specs.Matching.{Binding, AreBound, AreGround}
use Rattle.ref_search.specs.Completing.{Completes, IsRule}

-- the trees in an order, by their places
abbrev pub trees_at : List Tree → List ℕ → List Tree
trees_at ts order = map (λ k. slice_index_or ts k no_tree) order

-- in this order some values make of these trees of the frame the given ones
abbrev pub CanComplete : Assertion → Option (List Pair) → List Binding → List Tree → List Tree → List ℕ → Type 0
CanComplete a given bs hyps wanted order = (values : List Tree) × Completes a given bs hyps (trees_at wanted order) values

-- the orders that begin with a place, where these are left behind it
abbrev pub begun_with : ℕ → ℕ × List ℕ → List (List ℕ)
begun_with n p = map (λ rest. p.0 ∷ rest) (orders n p.1)

-- the first of some is the first of all
pub record FirstFrom {X : Type 0} (P : X → Type 0) (some all : List X) : Type 0 where
  pub first : (o : Option X) → IsFirstOrNone P some o → IsFirstOrNone P all o

abbrev pub HasValues : (Fit → Type 0) → Option Fit → Type 0
HasValues P None = Unit {0}
HasValues P (Some fit) = P fit

-- each variable of the frame has a value
abbrev pub HasAll : Frame → Option Fit → Type 0
HasAll frame o = HasValues (λ fit. length fit.trees ≡ length (typed_variables frame.hyps)) o

-- it is the first order in which they do, with such values; or there is none
pub record IsFirstFit (a : Assertion) (given : Option (List Pair)) (bs : List Binding) (hyps wanted : List Tree) (all : List (List ℕ)) (o : Option Fit) : Type 0 where
  pub first : IsFirstOrNone (CanComplete a given bs hyps wanted) all (option_map (λ (fit : Fit). fit.order) o)
  pub values : HasValues (λ fit. Completes a given bs hyps (trees_at wanted fit.order) fit.trees) o

-- the orders of so many: all where there are at most six, else as they are listed
abbrev pub orders_of : ℕ → List (List ℕ)
orders_of n = if nat_le n most_ordered_places then orders n (range_with_len 0 n) else range_with_len 0 n ∷ []

-- the assertion's trees become the wanted ones, the hypotheses in this order
abbrev pub FitsWanted : Assertion → Option (List Pair) → Wanted → List ℕ → List Tree → Type 0
FitsWanted a given w order values = Completes a given [] (a.tree ∷ a.hyps) (w.formula ∷ trees_at w.hyps order) values

abbrev pub CanFit : Assertion → Option (List Pair) → Wanted → List ℕ → Type 0
CanFit a given w order = (values : List Tree) × FitsWanted a given w order values

-- the first order in which the assertion fits, with its values; or there is none
pub record IsFitOf (a : Assertion) (given : Option (List Pair)) (w : Wanted) (o : Option Fit) : Type 0 where
  pub first : IsFirstOrNone (CanFit a given w) (orders_of (length w.hyps)) (option_map (λ (fit : Fit). fit.order) o)
  pub values : HasValues (λ fit. FitsWanted a given w fit.order fit.trees) o

-- the bindings are as before, and the first order is among those that begin with one of the places from a number on
pub record IsPlacedTo (frame : Frame) (vars : List Sym) (old now : List Binding) (hyp : Tree) (hyps wanted : List Tree) (places : List ℕ) (given : Option (List Pair)) (i : ℕ) : Type 0 where
  pub same : now ≡ old
  pub first : (a : Assertion) → IsRule a frame vars → AreBound vars old
      → FirstFrom (CanComplete a given old (hyp ∷ hyps) wanted) (flat_map (begun_with (length hyps)) (drop i (picks places))) (flat_map (begun_with (length hyps)) (picks places))

-- no wanted tree has an open leaf
pub record IsClosed (w : Wanted) : Type 0 where
  pub formula : is_ground w.formula ≡ true
  pub hyps : AreGround w.hyps
