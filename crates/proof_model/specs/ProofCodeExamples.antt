-- Proof codes, computed.
use Rattle.std.specs.Prelude.{◌≡◌, ℕ, true, false, List, [], ◌∷◌, Option, Some, None, codes, refl, map}
use Rattle.std.proofs.lemmas.Bool.{ltb-true}
use Rattle.mm_model.specs.Faults.{Fault, fault}
use Rattle.proof_model.specs.declared.code.What.TheVariants as what
use Rattle.proof_model.specs.declared.code.Code.{Code}
use Rattle.proof_model.specs.Codes.{step}
use Rattle.proof_model.specs.ProofCode.{SpellsNumber, number_letters, labels_of, letters_of, code_fault, label_told, number_told, spelled, Spells, IsWritable, is_listable}

-- ---- numbers

pub numbers : map number_letters (1 ∷ 20 ∷ 21 ∷ 120 ∷ 121 ∷ 620 ∷ 621 ∷ [])
    ≡ codes "A" ∷ codes "T" ∷ codes "UA" ∷ codes "YT" ∷ codes "UUA" ∷ codes "YYT" ∷ codes "UUUA" ∷ []
numbers = refl

pub spells_21 : SpellsNumber (codes "UA") 21
spells_21 = (refl, (refl, refl))

pub spells_120 : SpellsNumber (codes "YT") 120
spells_120 = (refl, (refl, refl))

pub spells_121 : SpellsNumber (codes "UUA") 121
spells_121 = (refl, (refl, (refl, refl)))

-- ---- the parts of a text; white space in the letters is passed over

pub parts : labels_of (codes "( a b ) AB C Z") ≡ codes "a" ∷ codes "b" ∷ []
parts = refl

pub letters : letters_of (codes "( a b ) AB C Z") ≡ codes "ABCZ"
letters = refl

-- ---- the faults, each at least once; there are two mandatory hypotheses

abbrev mandatory : List (List ℕ)
mandatory = codes "a1" ∷ codes "a2" ∷ []

abbrev faults : List (List ℕ) → List (Option Fault)
faults texts = map (λ t. code_fault t mandatory) texts

abbrev at : ℕ → ℕ → Option Fault
at i code = Some (fault i code)

pub sound : faults (codes "( ) A" ∷ codes "( x ) ABC" ∷ codes "( x ) AB CZD ?Z" ∷ codes "( )" ∷ []) ≡ None ∷ None ∷ None ∷ None ∷ []
sound = refl

pub bad_letter : faults (codes "( ) a" ∷ codes "( ) A B1" ∷ codes "( ) A[" ∷ []) ≡ at 0 1 ∷ at 2 1 ∷ at 1 1 ∷ []
bad_letter = refl

pub number_too_large : faults (codes "( ) C" ∷ codes "( x ) A UA" ∷ codes "( ) AZBZDE" ∷ codes "( ) AE" ∷ []) ≡ at 0 2 ∷ at 2 2 ∷ at 5 2 ∷ at 1 2 ∷ []
number_too_large = refl

pub mark_at_start : faults (codes "( ) ZA" ∷ codes "( x ) Z" ∷ []) ≡ at 0 3 ∷ at 0 3 ∷ []
mark_at_start = refl

pub mark_twice : faults (codes "( ) AZZ" ∷ codes "( ) AZ Z" ∷ codes "( ) ?ZZ" ∷ []) ≡ at 2 4 ∷ at 2 4 ∷ at 2 4 ∷ []
mark_twice = refl

-- before a `Z`, before a `?`, and at the end, where the index is the number of letters
pub unended_number : faults (codes "( ) AUZ" ∷ codes "( ) U?" ∷ codes "( ) AUU" ∷ []) ≡ at 2 5 ∷ at 1 5 ∷ at 3 5 ∷ []
unended_number = refl

-- 5 goes before 3 at one letter
pub unended_first : faults (codes "( ) UZ" ∷ []) ≡ at 1 5 ∷ []
unended_first = refl

pub no_bracket : faults ([] ∷ codes "ABC" ∷ codes "( x ABC" ∷ codes "(x ) A" ∷ codes ") (" ∷ []) ≡ at 0 6 ∷ at 0 6 ∷ at 0 6 ∷ at 0 6 ∷ at 0 6 ∷ []
no_bracket = refl

-- labels go before letters
pub mandatory_listed : faults (codes "( x a2 ) ZZ" ∷ codes "( a1 ) A" ∷ []) ≡ at 1 7 ∷ at 0 7 ∷ []
mandatory_listed = refl

pub label_twice : faults (codes "( x y x ) A" ∷ codes "( x x a1 ) A" ∷ []) ≡ at 2 8 ∷ at 1 8 ∷ []
label_twice = refl

-- what is told of 7, 8 and 2
pub told : label_told (codes "( x a2 ) ZZ") 1 ≡ codes "a2"
told = refl

pub told_number : number_told (codes "( x ) A UA") 2 ≡ 21
told_number = refl

-- ---- what is written, and what it spells

abbrev three : Code
three = record {
  labels = codes "ax-1" ∷ [];
  steps = step (what.Hyp 0) false ∷ step (what.Hyp 1) true ∷ step (what.Listed 0) false ∷ step (what.Again 0) false
      ∷ step what.Unknown false ∷ [];
}

pub three_spelled : spelled 2 three ≡ codes "( ax-1 ) ABZCD?"
three_spelled = refl

pub three_spells : Spells (codes "( ax-1 ) AB ZCD ?") mandatory three
three_spells = record {
  bracketed = refl;
  labels = refl;
  steps = (
    codes "A",
    codes "BZCD?",
    refl,
    record { front = codes "A"; what = (refl, refl); whole = refl },
    (
      codes "BZ",
      codes "CD?",
      refl,
      record { front = codes "B"; what = (refl, refl); whole = refl },
      (
        codes "C",
        codes "D?",
        refl,
        record { front = codes "C"; what = (refl, refl); whole = refl },
        (
          codes "D",
          codes "?",
          refl,
          record { front = codes "D"; what = (refl, refl); whole = refl },
          (codes "?", [], refl, record { front = codes "?"; what = refl; whole = refl }, refl),
        ),
      ),
    ),
  );
  in_range = (ltb-true 0 2 refl, (ltb-true 1 2 refl, (ltb-true 0 1 refl, (ltb-true 0 1 refl, (tt, tt)))));
}

pub three_writable : IsWritable 2 three
three_writable = record { labels = refl; differ = refl; in_range = three_spells.in_range }

pub listable : map is_listable (codes "ax-1" ∷ [] ∷ codes "a b" ∷ codes ")" ∷ codes "(" ∷ []) ≡ true ∷ false ∷ false ∷ false ∷ true ∷ []
listable = refl
