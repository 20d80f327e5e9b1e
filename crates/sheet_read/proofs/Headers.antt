-- Tokens that are too few for a header.
use Rattle.std.proofs.Common.{◌≡◌, ℕ, ◌<◌, List, [], ◌∷◌, length, None, refl, arith, Bor}
use Rattle.sheet_text.specs.Forms.{header_of}
use Rattle.sheet_read.specs.Parts.{targets}

pub header-short : (ts : List (Bor (List ℕ))) → length ts < 4 → None ≡ header_of (targets ts)
header-short [] h = refl
header-short (a ∷ []) h = refl
header-short (a ∷ b ∷ []) h = refl
header-short (a ∷ b ∷ c ∷ []) h = refl
header-short (a ∷ b ∷ c ∷ d ∷ ts) h = absurd (omega arith)
