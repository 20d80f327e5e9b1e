-- The number of blocks of a trial, number by number.
use Rattle.std.proofs.Common.{◌≡◌, ◌<◌, ◌≤◌, ℕ, suc, ◌+◌, ◌-◌, List, Bool, true, false, cond, Option, Some, None, refl, sym, ◌∙◌, ap, arith}
use Rattle.std.specs.Prelude.{find, decimal}
use Rattle.std.specs.List.{range_with_len}
use Rattle.std.specs.Str.{bytes_eq}
use Rattle.call_answers.specs.CommandLine.{trial_number}

-- the first of so many numbers from one on that is the word in decimal
unfoldable pub number_from : ℕ → ℕ → List ℕ → Option ℕ
number_from a n word = find (λ k. bytes_eq (decimal k) word) (range_with_len a n)

pub from_one : (word : List ℕ) → trial_number word ≡ number_from 1 1000 word
unfolding trial_number number_from
from_one word = refl

step : (a n : ℕ) (word : List ℕ) → number_from a (suc n) word ≡ cond (bytes_eq (decimal a) word) (Some a) (number_from (a + 1) n word)
unfolding number_from
step a n word = refl

pub next : (a : ℕ) (word : List ℕ) → a < 1001 → number_from a (1001 - a) word ≡ cond (bytes_eq (decimal a) word) (Some a) (number_from (a + 1) (1001 - (a + 1)) word)
next a word h =
    let e : 1001 - a ≡ suc (1001 - (a + 1)) = omega arith in
    ap (λ k. number_from a k word) e ∙ step a (1001 - (a + 1)) word

pub none_left : (a : ℕ) (word : List ℕ) → 1001 ≤ a → number_from a (1001 - a) word ≡ None
unfolding number_from
none_left a word h = let e : 1001 - a ≡ 0 = omega arith in rw e refl

-- what the loop has found
pub found_here : (a : ℕ) (word text : List ℕ) (whole : Option ℕ) → a < 1001 → whole ≡ number_from a (1001 - a) word → text ≡ decimal a → true ≡ bytes_eq text word → Some a ≡ whole
found_here a word text whole h e is same =
    sym (e ∙ next a word h ∙ ap (λ (b : Bool). cond b (Some a) (number_from (a + 1) (1001 - (a + 1)) word)) (ap (λ (t : List ℕ). bytes_eq t word) (sym is) ∙ sym same))

pub not_here : (a : ℕ) (word text : List ℕ) (whole : Option ℕ) → a < 1001 → whole ≡ number_from a (1001 - a) word → text ≡ decimal a
    → false ≡ bytes_eq text word → whole ≡ number_from (a + 1) (1001 - (a + 1)) word
not_here a word text whole h e is other =
    e ∙ next a word h ∙ ap (λ (b : Bool). cond b (Some a) (number_from (a + 1) (1001 - (a + 1)) word)) (ap (λ (t : List ℕ). bytes_eq t word) (sym is) ∙ sym other)
