-- Part of the proof, and not of the claim: what is reached along chains. Typecodes stand here as their symbols' numbers.
use Rattle.std.specs.Prelude.{◌≡◌, ◌==◌, ◌&&◌, ◌||◌, ℕ, Bool, true, false, List, ◌++◌, Option, Some, None, nat_eq}
use Rattle.std.specs.List.{list_any}
use Rattle.mm_base.specs.declared.rows.Rows.{Rows}
use Rattle.mm_base.specs.declared.symbols.Typecode.{Typecode}
use Rattle.mm_base.specs.Rows.{row_at}
use Rattle.mm_model.specs.declared.rows.Production.{Production}
use Rattle.mm_model.specs.Chains.{chain_from}

-- the number stands in the list
abbrev pub has : List ℕ → ℕ → Bool
has codes q = list_any (nat_eq q) codes

-- a typecode of the list has the number
abbrev pub has_code : List Typecode → ℕ → Bool
has_code codes q = list_any (λ (c : Typecode). nat_eq q c.0.0) codes

-- the one typecode is noted as one that a chain leads to from the other
abbrev pub is_noted : Rows Typecode → ℕ → ℕ → Bool
is_noted ends q e = has_code (row_at ends q) e

-- a chain is from the one typecode to the other
abbrev pub is_between : Option Typecode → Typecode → ℕ → ℕ → Bool
is_between None to q e = false
is_between (Some from) to q e = from.0.0 == q && e == to.0.0

-- one of the rows is a chain from the one typecode to the other
abbrev pub has_chain : List Production → ℕ → ℕ → Bool
has_chain rows q e = list_any (λ (r : Production). is_between (chain_from r) r.gives q e) rows

-- numbers with those of typecodes
pub record IsReachedToo (old new : List ℕ) (codes : List Typecode) : Type 0 where
  pub more : List ℕ
  pub longer : new ≡ old ++ more
  pub has_new : (q : ℕ) → has new q ≡ (has old q || has_code codes q)

-- the set is closed under the steps
abbrev pub IsClosedUnder : (ℕ → ℕ → Bool) → (ℕ → Bool) → Type 0
IsClosedUnder step S = (q e : ℕ) → S q ≡ true → step q e ≡ true → S e ≡ true

-- the least closed set with a number
pub record IsReached (step : ℕ → ℕ → Bool) (from : ℕ) (codes : List ℕ) : Type 0 where
  pub begun : has codes from ≡ true
  pub closed : IsClosedUnder step (has codes)
  pub least : (S : ℕ → Bool) → S from ≡ true → IsClosedUnder step S → (q : ℕ) → has codes q ≡ true → S q ≡ true
