-- What the parts of decoding answer. This is part of the proof, and not of the claim.
use Rattle.std.specs.Prelude.{◌≡◌, ℕ, true, false, List, [], take, drop, reverse, flat_map, map, slice_index_or, Some, codes}
use Rattle.std.specs.List.{list_any, before_first, after_first}
use Rattle.mm_model.specs.Faults.{fault}
use Rattle.mm_model.specs.Names.{contains}
use Rattle.mm_model.specs.Statements.{is}
use Rattle.mm_model.specs.Words.{Word, words_from}
use Rattle.proof_model.specs.ProofCode.{is_bracketed, label_fault, letter_fault, number_at}
use Rattle.compressed_proof.specs.Decoded.{capped}
use Rattle.compressed_proof.specs.declared.fault.CodeFault.{CodeFault}
use Rattle.compressed_proof.specs.declared.fault.CodeFault.TheVariants as faults

-- the letters from a place on
abbrev pub letters_from : ℕ → List ℕ → List ℕ
letters_from from text = flat_map (λ (w : Word). w.bytes) (words_from from (drop from text))

-- of these words, the labels stand before the first `)`, and the rest behind it
pub record IsListed (ws : List Word) (labels : List (List ℕ)) (rest : List Word) : Type 0 where
  pub closed : list_any (is (codes ")")) ws ≡ true
  pub before : map (λ (w : Word). w.bytes) (before_first (is (codes ")")) ws) ≡ labels
  pub after : after_first (is (codes ")")) ws ≡ rest

-- the error is want of memory, or no word is `)`
abbrev pub IsNotClosed : List Word → CodeFault → Type 0
IsNotClosed ws faults.Memory = Unit {0}
IsNotClosed ws (faults.NoBracket i) = (i ≡ 0) × (list_any (is (codes ")")) ws ≡ false)
IsNotClosed ws _ = ⊥

abbrev pub IsNotBracketed : List ℕ → CodeFault → Type 0
IsNotBracketed text faults.Memory = Unit {0}
IsNotBracketed text (faults.NoBracket i) = (i ≡ 0) × (is_bracketed text ≡ false)
IsNotBracketed text _ = ⊥

-- the error is want of memory, or what is wrong with one label, the labels before it known
abbrev pub IsFaultAt : List (List ℕ) → List (List ℕ) → ℕ → List ℕ → CodeFault → Type 0
IsFaultAt mandatory before place label faults.Memory = Unit {0}
IsFaultAt mandatory before place label (faults.MandatoryListed i l) = (i ≡ place) × (l ≡ label) × (contains mandatory label ≡ true)
IsFaultAt mandatory before place label (faults.LabelTwice i l) = (i ≡ place) × (l ≡ label) × (contains mandatory label ≡ false) × (contains before label ≡ true)
IsFaultAt mandatory before place label _ = ⊥

-- the error is want of memory, or the first fault of the labels
abbrev pub IsLabelFault : List (List ℕ) → List (List ℕ) → CodeFault → Type 0
IsLabelFault mandatory labels faults.Memory = Unit {0}
IsLabelFault mandatory labels (faults.MandatoryListed i l) = (label_fault mandatory labels ≡ Some (fault i 7)) × (l ≡ slice_index_or labels i [])
IsLabelFault mandatory labels (faults.LabelTwice i l) = (label_fault mandatory labels ≡ Some (fault i 8)) × (l ≡ slice_index_or labels i [])
IsLabelFault mandatory labels _ = ⊥

-- the error is want of memory, or the first fault of the letters
abbrev pub IsLetterFault : ℕ → List ℕ → CodeFault → Type 0
IsLetterFault known letters faults.Memory = Unit {0}
IsLetterFault known letters (faults.BadLetter i) = letter_fault known letters ≡ Some (fault i 1)
IsLetterFault known letters (faults.NumberTooLarge i n) = (letter_fault known letters ≡ Some (fault i 2)) × (n ≡ capped (number_at (reverse (take i letters)) (slice_index_or letters i 0)))
IsLetterFault known letters (faults.MarkAtStart i) = letter_fault known letters ≡ Some (fault i 3)
IsLetterFault known letters (faults.MarkTwice i) = letter_fault known letters ≡ Some (fault i 4)
IsLetterFault known letters (faults.UnendedNumber i) = letter_fault known letters ≡ Some (fault i 5)
IsLetterFault known letters _ = ⊥
