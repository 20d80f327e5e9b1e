-- The values of a frame's variables, where all of its trees became given ones. But for `use_of` this is part of the proof, and not of the claim.
use Rattle.std.specs.Prelude.{◌≡◌, ℕ, length, List, [], ◌∷◌, map, slice_get, if◌then◌else◌, Option, Some, None, option_map}
use Rattle.mm_base.specs.declared.symbols.Sym.{Sym}
use Rattle.mm_base.specs.declared.symbols.Pair.{Pair}
use Rattle.mm_base.specs.declared.symbols.Typecode.{Typecode}
use Rattle.mm_base.specs.declared.tree.Tree.{Tree}
use Rattle.mm_base.specs.declared.tree.Tree.TheVariants.{Work}
use Rattle.mm_base.specs.Trees.{code_of}
use Rattle.mm_model.specs.declared.frames.Hyp.{Hyp}
use Rattle.mm_model.specs.declared.frames.Frame.{Frame}
use Rattle.mm_model.specs.Chains.{same_code}
use Rattle.mm_model.specs.Productions.{TypedVariable, typed_by, typed_variables}
use Rattle.mm_model.specs.Book.{Assertion}
use Rattle.mm_model.specs.BookFacts.{VariablesDiffer}
use Rattle.written_model.specs.declared.options.DvMode.TheVariants as dv
use Rattle.written_model.specs.WrittenSteps.{Use, value_of}
use Rattle.written_model.specs.Pairs.{clash_of, lack_of}
use Rattle.ref_search.specs.Matching.{Binding, Agrees, bound_to, valued_by}

-- the variable of a `$f`; none where it is a `$e`
abbrev pub variable_of : Hyp → Option TypedVariable
variable_of h = if h.floating then slice_get (typed_by h.formula) 0 else None

-- the value of a variable of a typecode, by the tree that it is bound to: one that is bound to none is worth a work variable
abbrev pub coded : Typecode → Option Tree → Option Tree
coded c None = Some (Work c 0)
coded c (Some t) = if same_code (code_of t) c then Some t else None

abbrev pub value_for : List Binding → TypedVariable → Option Tree
value_for bs v = coded v.code (bound_to bs v.sym)

abbrev pub with_value : Option Tree → Option (List Tree) → Option (List Tree)
with_value None o = None
with_value (Some t) o = option_map (λ ts. t ∷ ts) o

-- the values of these variables; none where one is bound to a tree of another typecode
abbrev pub values_for : List Binding → List TypedVariable → Option (List Tree)
values_for bs [] = Some []
values_for bs (v ∷ vs) = with_value (value_for bs v) (values_for bs vs)

-- the first needed pair that is not given, where only given pairs are allowed
abbrev pub lack_in : Option (List Pair) → Use → Option Pair
lack_in None u = None
lack_in (Some given) u = lack_of dv.Given given u

abbrev pub use_of : Assertion → List Tree → Use
use_of a values = record { assertion = a; values = values }

-- these are the assertion's frame and its variables
pub record IsRule (a : Assertion) (frame : Frame) (vars : List Sym) : Type 0 where
  pub frame_is : a.frame ≡ frame
  pub vars_are : vars ≡ map (λ (v : TypedVariable). v.sym) a.vars
  pub typed : a.vars ≡ typed_variables frame.hyps
  pub differ : VariablesDiffer a.vars

-- the values agree with the bindings, have the typecodes of their variables, and no pair clashes or lacks
pub record Ends (a : Assertion) (given : Option (List Pair)) (bs : List Binding) (values : List Tree) : Type 0 where
  pub agrees : Agrees (value_of (use_of a values)) bs
  pub codes : map code_of values ≡ map (λ (v : TypedVariable). v.code) a.vars
  pub no_clash : clash_of (use_of a values) ≡ None
  pub no_lack : lack_in given (use_of a values) ≡ None

-- and they make of these trees of the frame those others
pub record Completes (a : Assertion) (given : Option (List Pair)) (bs : List Binding) (hyps trees : List Tree) (values : List Tree) : Type 0 where
  pub ends : Ends a given bs values
  pub hyps_are : map (valued_by (value_of (use_of a values))) hyps ≡ trees

-- so many values
abbrev pub HasCount : ℕ → Option (List Tree) → Type 0
HasCount n None = Unit {0}
HasCount n (Some values) = length values ≡ n

-- values that do, or that there are none
abbrev pub IsEnd : Assertion → Option (List Pair) → List Binding → Option (List Tree) → Type 0
IsEnd a given bs None = (values : List Tree) → Ends a given bs values → ⊥
IsEnd a given bs (Some values) = Ends a given bs values
