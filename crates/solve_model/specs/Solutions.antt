-- Unknowns, valuations, and what a valuation solves.
use Rattle.std.specs.Prelude.{◌≡◌, ℕ, Bool, true, false, ◌&&◌, ◌==◌, List, [], ◌∷◌, length, nat_le, if◌then◌else◌, slice_get, slice_index_or, Contains, Option, Some, None}
use Rattle.std.specs.List.{AllByRecursion, list_all}
use Rattle.mm_base.specs.declared.symbols.Sym.{Sym}
use Rattle.mm_base.specs.declared.symbols.Typecode.{Typecode}
use Rattle.mm_base.specs.declared.tree.Tree.{Tree}
use Rattle.mm_base.specs.declared.tree.Tree.TheVariants.{Var, Fresh}
use Rattle.mm_base.specs.Trees.{code_of}
use Rattle.mm_base.specs.Limits.{most_ordered_places}
use Rattle.mm_model.specs.Typed.{IsTyped}
use Rattle.mm_model.specs.Productions.{TypedVariable}
use Rattle.mm_model.specs.Book.{Database, Assertion, logic_code}
use Rattle.sheet_text.specs.declared.sheet.Given.{Given}
use Rattle.sheet_text.specs.declared.sheet.Given.TheVariants as given
use Rattle.solve_model.specs.declared.bound.BoundStep.{BoundStep}
use Rattle.solve_model.specs.declared.bound.Bound.{Bound}
use Rattle.solve_model.specs.Trees.{Open, work, fresh, replace, leaf_tree, Occurs}
use Rattle.solve_model.specs.Firsts.{orders}

-- a work variable, by its typecode and number; the formula of the blank step of a number; a candidate's own copy of a variable of its frame, by the step's number
pub data Unknown : Type 0 where
  named : Typecode → ℕ → Unknown
  blank : ℕ → Unknown
  copy : ℕ → Sym → Typecode → Unknown

-- a tree for each unknown
abbrev pub Valuation : Type 0
Valuation = Unknown → Tree

-- a candidate, by its step's number, with its places in one of its orders
pub record Asked : Type 0 where
  pub step : ℕ
  pub assertion : Assertion
  pub places : List Given

-- the unknowns of a worksheet, of which these candidates are solved
pub data IsUnknown (bound : Bound) (solved : List Asked) : Unknown → Type 0 where
  in_formula : (i : ℕ) (s : BoundStep) (t : Tree) {c : Typecode} {n : ℕ} → slice_get bound.steps i ≡ Some s → s.tree ≡ Some t → Occurs (work c n) t → IsUnknown bound solved (named c n)
  is_blank : (s : BoundStep) {i : ℕ} → slice_get bound.steps i ≡ Some s → s.tree ≡ None → IsUnknown bound solved (blank i)
  in_frame : (x : Asked) (v : TypedVariable) → Contains solved x → Contains x.assertion.vars v → IsUnknown bound solved (copy x.step v.sym v.code)

abbrev pub unknown_code : Database → Unknown → Typecode
unknown_code db (named c n) = c
unknown_code db (blank i) = logic_code db
unknown_code db (copy i s c) = c

-- each of these unknowns has a tree of its typecode, over the productions before the place
pub record IsValuation (db : Database) (place : ℕ) (On : Unknown → Type 0) (v : Valuation) : Type 0 where
  pub code : (u : Unknown) → On u → code_of (v u) ≡ unknown_code db u
  pub typed : (u : Unknown) → On u → IsTyped db.rows place (v u)

abbrev pub open_value : Valuation → Open → Tree
open_value v (work c n) = v (named c n)
open_value v (fresh c n) = Fresh c n

abbrev pub formula_value : Valuation → ℕ → Option Tree → Tree
formula_value v i None = v (blank i)
formula_value v i (Some t) = replace (λ s c. Var s c) (open_value v) t

abbrev pub no_step : BoundStep
no_step = record { line = 0; hyp = false; name = []; places = []; reference = None; tree = None }

-- the formula of the step of a number, valued
abbrev pub formula : Bound → Valuation → ℕ → Tree
formula bound v i = formula_value v i (slice_index_or bound.steps i no_step).tree

-- a tree of an assertion's frame, valued by the copy of the step of a number
abbrev pub instance : Valuation → ℕ → Tree → Tree
instance v i t = replace (λ s c. v (copy i s c)) leaf_tree t

-- a place that names a step asks that the `$e` of its number is that step's formula; a `?` asks nothing
abbrev pub PlacesFit : Bound → Valuation → ℕ → List Given → List Tree → Type 0
PlacesFit bound v i [] hyps = Unit {0}
PlacesFit bound v i (g ∷ gs) [] = ⊥
PlacesFit bound v i (given.Gap ∷ gs) (e ∷ es) = PlacesFit bound v i gs es
PlacesFit bound v i (given.Step k ∷ gs) (e ∷ es) = (instance v i e ≡ formula bound v k) × PlacesFit bound v i gs es

-- the valuation solves a candidate in an order
pub record Solves (bound : Bound) (v : Valuation) (x : Asked) : Type 0 where
  pub conclusion : instance v x.step x.assertion.tree ≡ formula bound v x.step
  pub places : PlacesFit bound v x.step x.places x.assertion.hyps

-- some valuation solves all of them
pub record Solvable (db : Database) (bound : Bound) (asked : List Asked) : Type 0 where
  pub value : Valuation
  pub is_valuation : IsValuation db bound.place (IsUnknown bound asked) value
  pub solves : AllByRecursion (Solves bound value) asked

-- a place names a step, and is no `?`
abbrev pub names_step : Given → Bool
names_step given.Gap = false
names_step (given.Step k) = true

-- as many places as `$e`, two to six, and no `?`
abbrev pub is_free : BoundStep → Assertion → Bool
is_free s a = length s.places == length a.hyps && nat_le 2 (length s.places) && nat_le (length s.places) most_ordered_places && list_all names_step s.places

-- the orders of a candidate's places: the listed one, and where it is free all others
abbrev pub orders_of : BoundStep → Assertion → List (List Given)
orders_of s a = if is_free s a then orders (length s.places) s.places else s.places ∷ []
