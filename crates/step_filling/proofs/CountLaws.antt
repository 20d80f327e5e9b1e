-- A chain's counts are those of the definitions.
use Rattle.std.specs.Prelude.{◌≡◌, ℕ, List, [], ◌∷◌, ◌++◌}
use Rattle.std.proofs.Common.{subst, arith}
use Rattle.mm_base.specs.declared.symbols.Label.{Label}
use Rattle.mm_base.specs.declared.tree.Tree.{Tree}
use Rattle.mm_model.specs.Book.{Database}
use Rattle.fault_lines.specs.Refusals.{told_number}
use Rattle.writing_laws.specs.TokenCounts.{formula_count, IsLong}
use Rattle.writing_laws.specs.HasLong as long
use Rattle.step_chain.specs.Answers.{IsShort}
use Rattle.step_filling.specs.Wanted.{AreShort, IsTooLong}
use Rattle.step_filling.specs.Filled.{IsLongNext}
use Rattle.step_filling.specs.Defined.{IsCounted, AreCounted, LongIsFirst, ShortIsShort}

module _ (db : Database) (c : Label → ℕ) where
  is_short : (t : Tree) → IsCounted db c t → IsShort c t → IsLong db t → ⊥
  is_short t e h l = omega (arith, e, h, l)

  is_long : (t : Tree) (n : ℕ) → IsCounted db c t → IsTooLong c t n → IsLong db t
  is_long t n e h = let one = h.0 in let two = h.1 in omega (arith, e, one, two)

  is_count : (t : Tree) (n : ℕ) → IsCounted db c t → IsTooLong c t n → n ≡ told_number (formula_count db t)
  is_count t n e h = let one = h.0 in omega (arith, e, one)

  are_short : (ts : List Tree) → AreCounted db c ts → AreShort c ts → long.AreShort db ts
  are_short [] e h = tt
  are_short (t ∷ ts) e h = (is_short t e.0 h.0, are_short ts e.1 h.1)

  counted_front : (before more : List Tree) (t : Tree) → AreCounted db c (before ++ t ∷ more) → AreCounted db c before × IsCounted db c t
  counted_front [] more t e = (tt, e.0)
  counted_front (b ∷ bs) more t e = let rest = counted_front bs more t e.1 in ((e.0, rest.0), rest.1)

pub short_is_short : ShortIsShort
short_is_short db c ts e h = are_short db c ts e h

pub long_is_first : LongIsFirst
long_is_first h db names front s name n all one (IsLongNext.own m short too) = record {
  tree = _;
  first = long.IsFirstLong.own (are_short db _ _ all short) (is_long db _ _ m one too);
  count = is_count db _ _ m one too;
}
long_is_first h db names front s name n all one (IsLongNext.wanted before t more m k split short too named) =
    let parts = counted_front db _ before more t (subst (AreCounted db _) split all) in
    record {
      tree = t;
      first = long.IsFirstLong.wanted before t more m split (are_short db _ before parts.0 short) (is_long db _ t k parts.1 too) named;
      count = is_count db _ t k parts.1 too;
    }
