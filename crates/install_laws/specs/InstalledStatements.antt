-- The statements of a text with a theorem in it.
use Rattle.std.specs.Prelude.{◌≡◌, ◌==◌, ◌≤◌, ℕ, false, List, [], ◌∷◌, ◌++◌, length, take, drop, map, codes}
use Rattle.std.specs.List.{list_any, AllByRecursion}
use Rattle.mm_model.specs.Names.{Name}
use Rattle.mm_model.specs.Words.{Word, is_white, words}
use Rattle.mm_model.specs.Statements.{Statement, statements}
use Rattle.install_model.specs.declared.install.NewTheorem.{NewTheorem}
use Rattle.install_model.specs.Installed.{installed}
use Rattle.install_model.specs.Moved.{block_statements}

-- the bytes of words, without their places
abbrev pub names : List Word → List Name
names ws = map (λ (w : Word). w.bytes) ws

-- the tokens of statements
abbrev pub tokens_of : List Statement → List (List Name)
tokens_of ss = map names ss

-- ---- a theorem that can be put in

abbrev pub HasNoDollar : List ℕ → Type 0
HasNoDollar bytes = list_any (λ b. b == 36) bytes ≡ false

-- a symbol or a label: it has bytes, no white space and no `$`
abbrev pub IsPlain : Name → Type 0
IsPlain [] = ⊥
IsPlain (b ∷ bs) = AllByRecursion (λ c. is_white c ≡ false) (b ∷ bs) × HasNoDollar (b ∷ bs)

-- its names are plain, and there is no `$` in its proof
pub record IsPlainTheorem (t : NewTheorem) : Type 0 where
  pub name : IsPlain t.name
  pub pairs : AllByRecursion (λ (p : Name × Name). IsPlain p.0 × IsPlain p.1) t.pairs
  pub hyps : AllByRecursion (λ (h : Name × List Name). IsPlain h.0 × AllByRecursion IsPlain h.1) t.hyps
  pub formula : AllByRecursion IsPlain t.formula
  pub proof : HasNoDollar t.proof

-- the law: those before the place, those of the block, and the others
abbrev pub StatementsArePutIn : Type 0
StatementsArePutIn = (text : List ℕ) (place : ℕ) (t : NewTheorem) → place ≤ length (statements text) → IsPlainTheorem t
    → tokens_of (statements (installed text place t)) ≡ take place (tokens_of (statements text)) ++ block_statements t ++ drop place (tokens_of (statements text))
