-- Typed trees of the example database, and valuations of which all values are.
use Rattle.std.specs.Prelude.{◌≡◌, ◌==◌, ℕ, Bool, true, false, if◌then◌else◌, List, [], ◌∷◌, refl}
use Rattle.std.proofs.Common.{sym, ap, arith, lit<, cond, ◌∙◌}
use Rattle.std.proofs.lemmas.Bool.Decides.{nat_tests}
use Rattle.mm_base.specs.declared.symbols.Typecode.{Typecode}
use Rattle.mm_base.specs.declared.tree.Tree.{Tree}
use Rattle.mm_base.specs.declared.tree.Tree.TheVariants.{Work}
use Rattle.mm_base.specs.Trees.{code_of}
use Rattle.mm_model.specs.Chains.{same_code}
use Rattle.mm_model.specs.Names.{label}
use Rattle.mm_model.specs.Typed.{IsTyped}
use Rattle.mm_model.proofs.TypedLaws.{code-Work, code-Node, typed-Work, typed-Node}
use Rattle.solve_model.specs.Example.{P, wff, wi}

-- a typed tree of the logic typecode
pub record IsFormula (t : Tree) : Type 0 where
  pub code : code_of t ≡ wff
  pub typed : IsTyped P.rows 14 t

two_codes : (a b : Typecode) → a ≡ wff → b ≡ wff → ◌≡◌ {A = List Typecode} (a ∷ b ∷ []) (wff ∷ wff ∷ [])
two_codes a b p q = cc

pub implication : (a b : Tree) → IsFormula a → IsFormula b → IsFormula (wi a b)
implication a b p q = record {
  code = code-Node _ _ _;
  typed = typed-Node P.rows 14 (label 4) wff (a ∷ b ∷ []) (_, refl, lit< tt, refl, two_codes (code_of a) (code_of b) p.code q.code) (p.typed, (q.typed, tt));
}

pub either : (b : Bool) (t u : Tree) → IsFormula t → IsFormula u → IsFormula (cond b t u)
either true t u p q = p
either false t u p q = q

-- a formula where the typecode is the logic one, and else a work variable of the typecode
abbrev pub guarded : Typecode → Tree → Tree
guarded c t = if same_code c wff then t else Work c 0

pub record IsOf (c : Typecode) (t : Tree) : Type 0 where
  pub code : code_of t ≡ c
  pub typed : IsTyped P.rows 14 t

same_number : (n m : ℕ) → (n == m) ≡ true → n ≡ m
same_number n m e = grind (arith, nat_tests)

code_with : ℕ → Typecode
code_with n = record { 0 = record { 0 = n } }

is_wff : (c : Typecode) → same_code c wff ≡ true → c ≡ wff
unfolding code_with
is_wff c e = ap code_with (same_number c.0.0 4 e)

guarded_by : (c : Typecode) (t : Tree) (b : Bool) → same_code c wff ≡ b → IsFormula t → IsOf c (cond b t (Work c 0))
guarded_by c t true e p = record { code = p.code ∙ sym (is_wff c e); typed = p.typed }
guarded_by c t false e p = record { code = code-Work c 0; typed = typed-Work P.rows 14 c 0 }

pub guarded_is : (c : Typecode) (t : Tree) → IsFormula t → IsOf c (guarded c t)
guarded_is c t p = guarded_by c t (same_code c wff) refl p
