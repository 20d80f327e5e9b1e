-- The words of a text, byte by byte.
use Rattle.std.proofs.Common.{◌≡◌, ℕ, suc, ◌<◌, true, false, cond, eqb, List, [], ◌∷◌, refl, arith}
use Rattle.std.proofs.lemmas.Bool.Decides.{nat_tests}
use Rattle.mm_model.specs.Words.{Word, word, words_from, put_before, is_white}

-- the first of these words, if there is one, stands elsewhere
abbrev pub StandsPast : ℕ → List Word → Type 0
StandsPast at [] = Unit {0}
StandsPast at (w ∷ ws) = at < w.start

pub put_before-StandsPast : (p at b : ℕ) (ws : List Word) → p < at → StandsPast p (put_before at b ws)
put_before-StandsPast p at b [] h = h
put_before-StandsPast p at b (w ∷ ws) h = elim (eqb w.start (suc at)) as (λ t. StandsPast p (cond t (word at (b ∷ w.bytes) ∷ ws) (word at (b ∷ []) ∷ w ∷ ws))) [ true ↦ h | false ↦ h ]

pub words_from-StandsPast : (p at : ℕ) (bs : List ℕ) → p < at → StandsPast p (words_from at bs)
words_from-StandsPast p at [] h = tt
words_from-StandsPast p at (b ∷ bs) h =
    let later : p < suc at = omega arith in
    elim (is_white b) as (λ t. StandsPast p (cond t (words_from (suc at) bs) (put_before at b (words_from (suc at) bs)))) [
      | true ↦ words_from-StandsPast p (suc at) bs later
      | false ↦ put_before-StandsPast p at b (words_from (suc at) bs) h
    ]

pub put_before-apart : (at b : ℕ) (ws : List Word) → StandsPast (suc at) ws → put_before at b ws ≡ word at (b ∷ []) ∷ ws
put_before-apart at b [] h = refl
put_before-apart at b (w ∷ ws) h = let e : eqb w.start (suc at) ≡ false = grind (arith, nat_tests) in rw e refl

pub put_before-joined : (at b : ℕ) (bytes : List ℕ) (ws : List Word) → put_before at b (word (suc at) bytes ∷ ws) ≡ word at (b ∷ bytes) ∷ ws
put_before-joined at b bytes ws = let e : eqb (suc at) (suc at) ≡ true = grind (arith, nat_tests) in rw e refl
