-- The parts of the calls on robust index sets, raise, count and lock: the words that they ask for, and where they go on.
use Rattle.history.proofs.Names.{◌≡◌, ℕ, ◌+◌, ◌<◌, refl, arith}
use Rattle.history.proofs.Names.{raise_want, count_want, count_after, lock_want}
use Rattle.history.proofs.Names.{lock_after}
use Rattle.steps.specs.declared.ask.Ask.{Ask}
use Rattle.steps.specs.declared.ask.After.{After}
use Rattle.steps.specs.declared.ask.After.TheVariants.{GoOn}
use Rattle.steps.specs.declared.indices.enums.ReleaseState.{ReleaseState}
use Rattle.steps.specs.declared.indices.robust.parts.Count.{Count}
use Rattle.steps.specs.declared.indices.robust.parts.Lock.{Lock}
use Rattle.history.proofs.Names.{answered}
use Rattle.steps.specs.declared.indices.robust.parts.Raise.{Raise}
use Rattle.steps.specs.declared.ask.After.TheVariants.{Done}
use Rattle.steps.specs.declared.ask.Want.TheVariants as wants
use Rattle.steps.specs.declared.indices.robust.parts.Count.TheVariants as counts
use Rattle.steps.specs.declared.indices.robust.parts.Counted.{Counted}
use Rattle.steps.specs.declared.indices.robust.parts.Lock.TheVariants as locks
use Rattle.steps.specs.declared.indices.robust.parts.Raise.TheVariants as raises
use Rattle.history_owners.specs.Robust.{CountIn, LockIn}
use Rattle.history.proofs.CallsIn.{AsksFor}

-- ---- an ask that is no store is answered by what was found

-- what a count hears of an operation is what the word was before it
pub count_found : (count : Count) (a : Ask) (n : ℕ) → count_want count ≡ wants.Ask a → answered a.op n ≡ n
count_found = grind arith

-- ---- which words the parts ask for

-- a raise asks for the counter of the set
pub raise_asks : (capacity : ℕ) (raise : Raise) → AsksFor (capacity + 1) (raise_want raise)
raise_asks capacity raises.LoadsCounter = (_, omega arith, refl)
raise_asks capacity (raises.ExchangesCounter counter) = (_, omega arith, refl)

-- a count asks for the counter or a cell of the set
pub count_asks : (capacity : ℕ) (count : Count) → CountIn capacity count → AsksFor (capacity + 1) (count_want count)
count_asks capacity counts.LoadsCounter count_in = (_, omega arith, refl)
count_asks capacity (counts.LoadsCell counter index filled) count_in = (_, (let low : 1 + index < capacity + 1 = omega arith in low), refl)
count_asks capacity (counts.ExchangesCounter counter filled) count_in = (_, omega arith, refl)

-- a lock asks for the counter or a cell of the set
pub lock_asks : (capacity : ℕ) (lock : Lock) → LockIn capacity lock → AsksFor (capacity + 1) (lock_want lock)
lock_asks capacity (locks.Counts count) lock_in = count_asks capacity count lock_in
lock_asks capacity (locks.ExchangesCounter counter) lock_in = (_, omega arith, refl)

-- ---- where the parts go on

module _ (capacity : ℕ) where
  -- a count that goes on is at an index of the set
  abbrev pub CountOn : After Count Counted → Type 0
  CountOn (GoOn d) = CountIn capacity d
  CountOn (Done e) = Unit {0}

  -- a lock that goes on is at an index of the set where it counts
  abbrev pub LockOn : After Lock ReleaseState → Type 0
  LockOn (GoOn d) = LockIn capacity d
  LockOn (Done e) = Unit {0}

  module _ (cap : ℕ) (same : cap ≡ capacity) where
    -- after a step a count is at an index of the set, or has ended
    pub count_on : (count : Count) (k : ℕ) → CountOn (count_after cap count k)
    count_on = grind arith

    -- after a step a lock is at an index of the set where it counts, or has ended
    pub lock_on : (lock : Lock) (k : ℕ) → LockOn (lock_after cap lock k)
    lock_on = grind arith
