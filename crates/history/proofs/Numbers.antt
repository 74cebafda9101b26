-- What a test of two numbers says.
use Rattle.history.proofs.Names.{◌≡◌, ◌≢◌, ℕ, ◌==◌, true, false, arith, nat_tests}

-- a number is itself by the test
pub same_number : (p : ℕ) → (p == p) ≡ true
same_number p = grind (arith, nat_tests)

-- different numbers differ by the test
pub other_number : (p q : ℕ) → p ≢ q → (p == q) ≡ false
other_number p q ne = grind (arith, nat_tests)

-- numbers that are equal by the test are equal
pub is_number : (p q : ℕ) → (p == q) ≡ true → p ≡ q
is_number p q test_is = grind (arith, nat_tests)

-- numbers that differ by the test differ
pub no_number : (p q : ℕ) → (p == q) ≡ false → p ≢ q
no_number p q test_is e = grind (arith, same_number, false)
