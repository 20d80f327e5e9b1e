-- What is asked of a formula of an assertion, by its frame. This is part of the proof, and not of the claim.
use Rattle.std.specs.Prelude.{ℕ, ◌≡◌, ◌==◌, ◌&&◌, Bool, true, false, List, [], ◌∷◌, drop, length, nat_lt, nat_le, slice_get, if◌then◌else◌, Option, Some, None, option_map}
use Rattle.std.specs.List.{filter_map}
use Rattle.std.specs.Option.{option_map_or}
use Rattle.mm_base.specs.declared.symbols.Sym.{Sym}
use Rattle.mm_base.specs.declared.symbols.Typecode.{Typecode}
use Rattle.mm_base.specs.declared.tree.Tree.{Tree}
use Rattle.mm_base.specs.Limits.{most_formula_tokens}
use Rattle.mm_model.specs.declared.rows.Leaf.{Leaf}
use Rattle.mm_model.specs.declared.rows.Leaf.TheVariants as leaf
use Rattle.mm_model.specs.declared.rows.Production.{Production}
use Rattle.mm_model.specs.Typed.{Parses}
use Rattle.mm_database.specs.declared.formulas.KindCodes.{KindCodes}
use Rattle.mm_database.specs.declared.variables.FrameVariable.{FrameVariable}
use Rattle.mm_database.specs.Variables.{code_of}

-- the answer to which value a fact holds of: the only one, or that there is none
abbrev pub IsAnswer : {A : Type 0} → (A → Type 0) → Option A → Type 0
IsAnswer {A} P None = (x : A) → P x → ⊥
IsAnswer {A} P (Some x) = P x × ((y : A) → P y → y ≡ x)

-- a constant is declared below a place, where these are the numbers of the `$c` by symbol
abbrev pub is_constant : List ℕ → ℕ → Sym → Bool
is_constant constants place s = option_map_or (λ declared. nat_lt declared place) (slice_get constants s.0) false

-- what a symbol is: a constant, or one of these variables
abbrev pub leaf_of : List ℕ → ℕ → List FrameVariable → Sym → Option Leaf
leaf_of constants place vars s = if is_constant constants place s then Some (leaf.Const s) else option_map (λ c. leaf.Var s c) (code_of vars s)

-- the tree is the only one of the expression
pub record IsOneTree (rows : List Production) (place : ℕ) (leaves : List Leaf) (logic : Typecode) (t : Tree) : Type 0 where
  pub parses : Parses rows place leaves logic t
  pub only : (u : Tree) → Parses rows place leaves logic u → u ≡ t

-- the formula begins with the provable typecode and is not too long
abbrev pub is_assertion : Option Sym → List Sym → Bool
is_assertion None formula = false
is_assertion (Some s) [] = false
is_assertion (Some s) (c ∷ rest) = c.0 == s.0 && nat_le (length (c ∷ rest)) most_formula_tokens

-- the formula is one of an assertion, and has this one tree at the place
pub record IsReadBy (kinds : KindCodes) (rows : List Production) (constants : List ℕ) (place : ℕ) (vars : List FrameVariable) (formula : List Sym) (t : Tree) : Type 0 where
  pub assertion : is_assertion kinds.provable formula ≡ true
  pub tree : IsOneTree rows place (filter_map (leaf_of constants place vars) (drop 1 formula)) kinds.logic t
