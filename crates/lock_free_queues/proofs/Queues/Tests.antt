-- Tests of numbers, as the calls of a queue make them.
use Rattle.lock_free_queues.proofs.Names.{◌≡◌, ℕ, ◌+◌, ◌*◌, ◌-◌, ◌^◌, ◌<◌, ◌≤◌, ◌==◌, min, nat_lt, true, false}
use Rattle.lock_free_queues.proofs.Names.{arith, nat_tests, distance, zero, suc, refl}
use Rattle.lock_free_queues.specs.Queues.Opened.{position_at}

-- A position below the last one is found not to be the last.
pub not_last : (n : ℕ) → n < 2 ^ 64 - 1 → (n == 2 ^ 64 - 1) ≡ false
not_last n low = grind (arith, nat_tests)

-- A capacity that is positive is found not to be 0.
pub some_cells : (c : ℕ) → 0 < c → (c == 0) ≡ false
some_cells c some = grind (arith, nat_tests)

-- A queue whose positions are equal is found not full.
pub not_full : (n c : ℕ) → n < 2 ^ 64 → 0 < c → (distance n n == c) ≡ false
not_full n c low some = (let none : distance n n ≡ 0 = omega arith in grind (arith, nat_tests))

-- A position and the next one are found different.
pub one_apart : (n : ℕ) → ((n + 1) == n) ≡ false
one_apart n = grind (arith, nat_tests)

-- The last word of a cell is found to be the last.
pub at_last : (k size : ℕ) → k + 1 ≡ size → nat_lt (k + 1) size ≡ false
at_last k size is = grind (arith, nat_tests)

-- A word before the last one of a cell is found not to be the last.
pub before_last : (k size : ℕ) → k + 1 < size → nat_lt (k + 1) size ≡ true
before_last k size low = grind (arith, nat_tests)

-- A number that is not below another is found not to be below it.
pub not_below : (n m : ℕ) → m ≤ n → nat_lt n m ≡ false
not_below n m low = grind (arith, nat_tests)

-- At position 0 no word of a cell is used.
pub none_used : (size capacity : ℕ) → size * min 0 capacity ≡ 0
none_used size capacity = grind (arith, min)

-- What holds at position 0 of a queue without capacity, and at this position of a queue with one, holds where a queue
-- opens at this position.
pub from_cells : (P : ℕ → Type 0) (capacity position : ℕ) → (capacity ≡ 0 → P 0) → (0 < capacity → P position)
    → P (position_at capacity position)
from_cells P zero position none some = none refl
from_cells P (suc less) position none some = some (omega arith)
