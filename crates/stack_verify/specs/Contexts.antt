-- What is known of a theorem, for look-ups. This is part of the proof, and not of the claim.
use Rattle.std.specs.Prelude.{◌≡◌, ℕ, Bool, ◌&&◌, ◌||◌, ◌==◌, List, nat_eq}
use Rattle.std.specs.List.{list_any}
use Rattle.mm_base.specs.declared.symbols.Sym.{Sym}
use Rattle.mm_base.specs.declared.symbols.Pair.{Pair}
use Rattle.mm_model.specs.declared.frames.Hyp.{Hyp}
use Rattle.proof_model.specs.declared.theorem.Theorem.{Theorem}
use Rattle.proof_model.specs.Machine.{is_float_of}
use Rattle.stack_verify.specs.declared.known.Known.{Known}

-- these numbers are those of the variables of the hypotheses
pub record SameVariables (hyps : List Hyp) (numbers : List ℕ) : Type 0 where
  pub same : (s : Sym) → list_any (nat_eq s.0) numbers ≡ list_any (is_float_of s) hyps

-- these are the numbers before with those of the symbols
pub record AddsSymbols (old new : List ℕ) (symbols : List Sym) : Type 0 where
  pub same : (n : ℕ) → list_any (nat_eq n) new ≡ (list_any (nat_eq n) old || list_any (λ (v : Sym). v.0 == n) symbols)

-- these are the numbers before with those of the variables of the hypothesis
pub record AddsHyp (old new : List ℕ) (hyp : Hyp) : Type 0 where
  pub same : (s : Sym) → list_any (nat_eq s.0) new ≡ (list_any (nat_eq s.0) old || is_float_of s hyp)

-- the pair is of these two numbers, in this order
abbrev pub is_pair : ℕ → ℕ → ℕ × ℕ → Bool
is_pair v w p = v == p.0 && w == p.1

-- a pair of these two is there, in either order
abbrev pub joins : List (ℕ × ℕ) → Sym × Sym → Bool
joins numbers vw = list_any (is_pair vw.0.0 vw.1.0) numbers || list_any (is_pair vw.1.0 vw.0.0) numbers

-- these numbers are those of the pairs
pub record SamePairs (pairs : List Pair) (numbers : List (ℕ × ℕ)) : Type 0 where
  pub same : (v w : ℕ) → list_any (is_pair v w) numbers ≡ list_any (λ (p : Pair). is_pair v w (p.a.0, p.b.0)) pairs

-- the variables and the active pairs of a theorem
pub record IsKnown (theorem : Theorem) (known : Known) : Type 0 where
  pub variables : SameVariables theorem.hyps known.variables
  pub pairs : SamePairs theorem.pairs known.pairs.keys
