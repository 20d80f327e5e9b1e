-- Tokens of formulas, computed.
use Rattle.std.specs.Prelude.{◌≡◌, [], ◌∷◌, map, Some, None, codes, refl}
use Rattle.std.specs.Fmt.{digits}
use Rattle.mm_model.specs.declared.rows.Leaf.TheVariants as leaf
use Rattle.mm_model.specs.Names.{sym}
use Rattle.mm_model.specs.Book.{Database}
use Rattle.solve_model.specs.Formulas.{spelling, leaf_of, expression_of}
use Rattle.solve_model.specs.Example.{P, Q, split, wff, setvar}

pub spellings : map (λ code. spelling code 12) (codes "wff" ∷ codes "setvar" ∷ codes "class" ∷ codes "term" ∷ []) ≡ codes "&W12" ∷ codes "&S12" ∷ codes "&C12" ∷ codes "&term.12" ∷ []
unfolding digits
spellings = refl

-- a constant, a variable, a work variable
pub expression : expression_of P 14 (split (codes "|- ( &W12 -> ph )")) ≡ leaf.Const (sym 0) ∷ leaf.Work wff 12 ∷ leaf.Const (sym 2) ∷ leaf.Var (sym 6) wff ∷ leaf.Const (sym 1) ∷ []
unfolding digits
expression = refl

-- no leading zero, no zero, a digit at least, no typecode that the database lacks, and a number below 2^32
pub no_work_variables : map (leaf_of P 14) (split (codes "&W01 &W0 &W &C1 &W4294967296 &w1")) ≡ None ∷ None ∷ None ∷ None ∷ None ∷ None ∷ []
unfolding digits
no_work_variables = refl

pub greatest : leaf_of P 14 (codes "&W4294967295") ≡ Some (leaf.Work wff 4294967295)
unfolding digits
greatest = refl

-- a typecode serves from its first `$f` on
pub from_first_float : map (λ place. leaf_of Q place (codes "&S1")) (16 ∷ 17 ∷ []) ≡ None ∷ Some (leaf.Work setvar 1) ∷ []
unfolding digits
from_first_float = refl

-- a token that the database declares is that symbol, and no work variable
abbrev declaring : Database
declaring = record P { symbols = codes "&W1" ∷ [] }

pub declared : leaf_of declaring 0 (codes "&W1") ≡ None
declared = refl
