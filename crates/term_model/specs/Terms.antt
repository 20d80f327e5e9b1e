-- Terms, as a store keeps them: a term names its children by their places in the store.
use Rattle.std.specs.Prelude.{ℕ, ◌<◌, Bool, true, false, List, [], length, slice_index_or}
use Rattle.std.specs.List.{AllByRecursion}
use Rattle.mm_base.specs.declared.symbols.Sym.{Sym}
use Rattle.mm_base.specs.declared.symbols.Label.{Label}
use Rattle.mm_base.specs.declared.symbols.Typecode.{Typecode}
use Rattle.term_model.specs.declared.shape.Id.{Id}
use Rattle.term_model.specs.declared.shape.Shape.{Shape}

-- a variable, a node that stands for any tree of its typecode, or a production with the number of its constants and its children
pub data Term : Type 0 where
  Var : Sym → Typecode → Term
  Free : Typecode → Term
  Node : Label → Typecode → ℕ → List Id → Term

abbrev pub term_code : Term → Typecode
term_code (Var sym code) = code
term_code (Free code) = code
term_code (Node label code constants children) = code

abbrev pub children_of : Term → List Id
children_of (Var sym code) = []
children_of (Free code) = []
children_of (Node label code constants children) = children

abbrev pub constants_of : Term → ℕ
constants_of (Var sym code) = 0
constants_of (Free code) = 0
constants_of (Node label code constants children) = constants

-- what a look at a term shows
abbrev pub shape_of : Term → Shape
shape_of (Var sym code) = Shape.Var sym code
shape_of (Free code) = Shape.Free code
shape_of (Node label code constants children) = Shape.Node label code (length children)

abbrev pub shape_code : Shape → Typecode
shape_code (Shape.Var sym code) = code
shape_code (Shape.Free code) = code
shape_code (Shape.Node label code count) = code

-- the number of children
abbrev pub shape_count : Shape → ℕ
shape_count (Shape.Var sym code) = 0
shape_count (Shape.Free code) = 0
shape_count (Shape.Node label code count) = count

abbrev pub is_free_shape : Shape → Bool
is_free_shape (Shape.Var sym code) = false
is_free_shape (Shape.Free code) = true
is_free_shape (Shape.Node label code count) = false

abbrev pub is_free : Term → Bool
is_free e = is_free_shape (shape_of e)

-- the term of a shape, with these constants and children
abbrev pub term_of : Shape → ℕ → List Id → Term
term_of (Shape.Var sym code) constants children = Var sym code
term_of (Shape.Free code) constants children = Free code
term_of (Shape.Node label code count) constants children = Node label code constants children

abbrev pub no_code : Typecode
no_code = record { 0 = record { 0 = 0 } }

-- the term at a place
abbrev pub term_at : List Term → ℕ → Term
term_at nodes i = slice_index_or nodes i (Free no_code)

-- each child stands before that place
abbrev pub HasChildrenBelow : ℕ → Term → Type 0
HasChildrenBelow n e = AllByRecursion (λ (id : Id). id.0 < n) (children_of e)
