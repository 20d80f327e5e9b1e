-- What chains say of one another, in plain words: a path of chains, and the laws of kept rows.
use Rattle.std.specs.Prelude.{◌≡◌, ◌↔◌, true, List, [], ◌∷◌, Contains, Some}
use Rattle.std.specs.List.{AllByRecursion}
use Rattle.mm_base.specs.declared.symbols.Typecode.{Typecode}
use Rattle.mm_model.specs.declared.rows.Production.{Production}
use Rattle.mm_model.specs.Chains.{chain_from, leads, kept}
use Rattle.mm_model.specs.Rows.{AreRows, IsGrammar}

-- chains of which each begins with the typecode that the one before gives
abbrev pub IsPath : List Production → Typecode → Typecode → Type 0
IsPath [] a b = a ≡ b
IsPath (r ∷ rs) a b = (chain_from r ≡ Some a) × IsPath rs r.gives b

-- a path of these rows
pub record IsPathOf (rows path : List Production) (a b : Typecode) : Type 0 where
  pub chains : AllByRecursion (Contains rows) path
  pub joined : IsPath path a b

-- chains lead from one typecode to another exactly where a path of them does
abbrev pub LeadsByPaths : Type 0
LeadsByPaths = (rows : List Production) (a b : Typecode) → (leads rows a b ≡ true) ↔ ((path : List Production) × IsPathOf rows path a b)

-- what is kept of rows is a grammar
abbrev pub KeptAreGrammar : Type 0
KeptAreGrammar = (rows : List Production) → AreRows rows → IsGrammar (kept rows)

-- no path of kept chains comes back to where it began
abbrev pub KeptHaveNoCycle : Type 0
KeptHaveNoCycle = (rows path : List Production) (a : Typecode) → IsPathOf (kept rows) path a a → path ≡ []
