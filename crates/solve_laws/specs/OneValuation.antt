-- The most general valuation is one, up to the numbers of its fresh leaves.
use Rattle.std.specs.Prelude.{◌≡◌, ℕ, List}
use Rattle.mm_base.specs.declared.symbols.Typecode.{Typecode}
use Rattle.mm_base.specs.declared.tree.Tree.TheVariants.{Work, Fresh}
use Rattle.mm_model.specs.Book.{Database}
use Rattle.solve_model.specs.declared.bound.Bound.{Bound}
use Rattle.solve_model.specs.Trees.{work, fresh}
use Rattle.solve_model.specs.Solutions.{Unknown, Valuation, IsUnknown, Asked}
use Rattle.solve_model.specs.MostGeneral.{Refinement, refine, IsTheValuation}

-- fresh leaves get other numbers, and nothing else changes
abbrev pub renumbered : (Typecode → ℕ → ℕ) → Refinement
renumbered f (work c n) = Work c n
renumbered f (fresh c n) = Fresh c (f c n)

-- two valuations differ in the numbers of fresh leaves alone
pub record SameUpToFresh (On : Unknown → Type 0) (g h : Valuation) : Type 0 where
  pub renumber : Typecode → ℕ → ℕ
  pub back : Typecode → ℕ → ℕ
  pub there : (u : Unknown) → On u → h u ≡ refine (renumbered renumber) (g u)
  pub again : (u : Unknown) → On u → g u ≡ refine (renumbered back) (h u)

abbrev pub MostGeneralIsOne : Database → Bound → List Asked → Type 0
MostGeneralIsOne db bound accepted = (g h : Valuation) → IsTheValuation db bound accepted g → IsTheValuation db bound accepted h
    → SameUpToFresh (IsUnknown bound accepted) g h
