-- Numbers by key. This is part of the proof, and not of the claim.
use Rattle.std.specs.Prelude.{◌≡◌, ℕ, List, map, Option}
use Rattle.std.specs.Global.{Vec}
use Rattle.std.specs.Map.{lookup}
use Rattle.std.specs.Str.{bytes_eq}
use Rattle.mm_base.specs.declared.symbols.Sym.{Sym}
use Rattle.mm_model.specs.declared.frames.Hyp.{Hyp}
use Rattle.mm_model.specs.Names.{Name, first_number}
use Rattle.proof_model.specs.Machine.{Formula, same_formula}

-- the number of a key
abbrev pub number_at : List (Vec ℕ × ℕ) → List ℕ → Option ℕ
number_at entries key = lookup (λ k. bytes_eq key k.items) entries

-- each label has the number of the first hypothesis with it
pub record AreHyps (hyps : List Hyp) (entries : List (Vec ℕ × ℕ)) : Type 0 where
  pub each : (label : Name) → number_at entries label ≡ first_number (λ (h : Hyp). bytes_eq label h.name) hyps

abbrev pub key_of : Formula → List ℕ
key_of f = map (λ (s : Sym). s.0) f

-- each formula has the number of the first of these that is it
pub record AreSteps (steps : List Formula) (entries : List (Vec ℕ × ℕ)) : Type 0 where
  pub each : (f : Formula) → number_at entries (key_of f) ≡ first_number (same_formula f) steps
