-- The number in the head of a unique index set, beside what it counts: the indices that are held, and the calls that take
-- one or give one back. No event and no party is in it.
use Rattle.std.proofs.Common.{◌≡◌, ◌≢◌, ℕ, ◌+◌, ◌-◌, ◌%◌, ◌^◌, ◌<◌, ◌≤◌, ◌⊎◌, ⊎_elim, arith}
use Rattle.laws_indices.proofs.Names.{borrowed, locked}
use Rattle.steps.specs.Indices.Unique.{head_taken, head_given_back, head_locked}

-- ---- the heads that calls write

-- a head that is moved to take an index counts one more
pub taken_number : (head next : ℕ) → borrowed head < locked → borrowed (head_taken head next) ≡ borrowed head + 1
taken_number = grind arith

-- a head that is moved to give an index back counts one less
pub given_number : (head index : ℕ) → 1 ≤ borrowed head → borrowed (head_given_back head index) + 1 ≡ borrowed head
given_number = grind arith

-- a head that is moved to lock the set counts as locked
pub locked_number : (head index : ℕ) → borrowed (head_locked head index) ≡ locked
locked_number = grind arith

-- the head's count goes down by one with a subtraction of one, modulo 2 ^ 64
pub less_number : (head : ℕ) → 1 ≤ borrowed head → borrowed ((head + (2 ^ 64 - 1)) % 2 ^ 64) + 1 ≡ borrowed head
less_number = omega arith

-- ---- what it counts

-- the head counts `total`, at most the capacity, or it is locked and `total` is 0
abbrev pub Tally : ℕ → ℕ → ℕ → Type 0
Tally capacity counted total =
    ((counted ≡ total) × (total ≤ capacity)) ⊎ ((counted ≡ locked) × (total ≡ 0))

-- `c` is the capacity, `counted` the number in the head, `total` what it counts
module _ (c counted total : ℕ) (few : c < locked) (h : Tally c counted total) where
  -- an unlocked head counts all, and at most the capacity
  pub counts_all : counted ≢ locked → (counted ≡ total) × (total ≤ c)
  counts_all unlocked = ⊎_elim (λ x. x) (λ x. absurd (unlocked x.0)) h

  -- a locked set has no index in use
  pub counts_none : counted ≡ locked → total ≡ 0
  counts_none = grind arith

  -- while something is counted, the set is not locked
  pub is_open : 1 ≤ total → counted ≢ locked
  is_open some shut = let none = counts_none shut in absurd (omega arith)

  -- the head of a set that is neither locked nor full may count one more
  pub tally_up : (counted' : ℕ) → counted ≢ locked → counted ≢ c → counted' ≡ counted + 1 → Tally c counted' (total + 1)
  tally_up = grind arith

  -- the head may count one less, where there is one less to count
  pub tally_down : (counted' total' : ℕ) → total ≡ total' + 1 → counted' + 1 ≡ counted → Tally c counted' total'
  tally_down = grind arith

  -- the head that counts one may be locked, where there is one less to count
  pub tally_shut : (counted' total' : ℕ) → total ≡ total' + 1 → counted ≡ 1 → counted' ≡ locked → Tally c counted' total'
  tally_shut = grind arith
