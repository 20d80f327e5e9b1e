-- What the tests of two numbers answer.
use Rattle.std.proofs.Common.{◌≡◌, ℕ, ◌==◌, ◌<◌, true, false, nat_lt, arith}
use Rattle.std.proofs.lemmas.Bool.Decides.{nat_tests}

pub is_less : (a b : ℕ) → a < b → nat_lt a b ≡ true
is_less a b h = grind (arith, nat_tests)

pub no_less : (a b : ℕ) → b < a → nat_lt a b ≡ false
no_less a b h = grind (arith, nat_tests)

pub no_self : (a b : ℕ) → a ≡ b → nat_lt a b ≡ false
no_self a b h = grind (arith, nat_tests)

pub is_equal : (a b : ℕ) → a ≡ b → (a == b) ≡ true
is_equal a b h = grind (arith, nat_tests)

pub differs : (a b : ℕ) → a < b → (a == b) ≡ false
differs a b h = grind (arith, nat_tests)

pub differs_above : (a b : ℕ) → b < a → (a == b) ≡ false
differs_above a b h = grind (arith, nat_tests)
