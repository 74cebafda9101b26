-- The words of a robust set of indices, and the parts that its calls are made of. `.._want` says what a call
-- asks for, and `.._after` where the answer leads: to a next stage (`GoOn`) or to its end (`Done`).
-- `.._goes_back` says whether it begins a loop again.
use Rattle.std.specs.Prelude.{ℕ, ◌+◌, ◌-◌, ◌%◌, ◌^◌, ◌==◌, ◌&&◌, Bool, false, not, if◌then◌else◌, nat_lt}
use Rattle.steps.specs.Queues.Ring.{load}
use Rattle.steps.specs.declared.ask.Op.TheVariants.{Exchange}
use Rattle.steps.specs.declared.ask.Want.{Want}
use Rattle.steps.specs.declared.ask.Want.TheVariants as wants
use Rattle.steps.specs.declared.ask.After.{After}
use Rattle.steps.specs.declared.ask.After.TheVariants.{GoOn, Done}
use Rattle.steps.specs.declared.indices.enums.ReleaseState.{ReleaseState}
use Rattle.steps.specs.declared.indices.enums.ReleaseState.TheVariants.{Locked, Unlocked}
use Rattle.steps.specs.declared.indices.robust.parts.Raise.{Raise}
use Rattle.steps.specs.declared.indices.robust.parts.Raise.TheVariants as raises
use Rattle.steps.specs.declared.indices.robust.parts.Count.{Count}
use Rattle.steps.specs.declared.indices.robust.parts.Count.TheVariants as counts
use Rattle.steps.specs.declared.indices.robust.parts.Counted.{Counted}
use Rattle.steps.specs.declared.indices.robust.parts.Counted.TheVariants as ends
use Rattle.steps.specs.declared.indices.robust.parts.Lock.{Lock}
use Rattle.steps.specs.declared.indices.robust.parts.Lock.TheVariants as locks

-- the word of the cell of an index: behind the counter there is one for each index, with its owner
abbrev pub cell_word : ℕ → ℕ
cell_word index = 1 + index

-- what stands in a cell without an owner
abbrev pub empty : ℕ
empty = 2 ^ 64 - 1

-- the counter of a locked set
abbrev pub locked : ℕ
locked = 2 ^ 64 - 1

-- the counter at its end, where it stays
abbrev pub greatest : ℕ
greatest = 2 ^ 64 - 2

-- the next number; it wraps at 2^64
abbrev pub one_more : ℕ → ℕ
one_more number = (number + 1) % 2 ^ 64

-- an exchange of a word
abbrev pub exchange : (word from to : ℕ) → Want (Unit {0})
exchange word from to = wants.Ask (record { word = word; op = Exchange from to })

-- ---- raise

-- what the raise asks for, step by step: load the counter; exchange it for the next number
abbrev pub raise_want : Raise → Want (Unit {0})
raise_want raises.LoadsCounter = load 0
raise_want (raises.ExchangesCounter counter) = exchange 0 counter (one_more counter)

-- the raise once it has seen this counter: nothing is raised where that is the lock or the greatest number
abbrev pub raise_sees : ℕ → After Raise ReleaseState
raise_sees counter =
    if counter == locked
    then Done Locked
    else if counter == greatest
    then Done Unlocked
    else GoOn (raises.ExchangesCounter counter)

-- Where the raise goes on to from the old value of the counter: it ends once it has exchanged it for the next number,
-- and else goes on from the counter found.
abbrev pub raise_after : Raise → ℕ → After Raise ReleaseState
raise_after raises.LoadsCounter old = raise_sees old
raise_after (raises.ExchangesCounter counter) old =
    if old == counter then Done Unlocked else raise_sees old

-- Whether the exchange of the raise has failed with this old value: another has moved the counter. The raise then goes on
-- from this value, or ends if the value is the lock or the greatest number.
abbrev pub raise_goes_back : Raise → ℕ → Bool
raise_goes_back raises.LoadsCounter old = false
raise_goes_back (raises.ExchangesCounter counter) old = not (old == counter)

-- ---- count

-- what the count asks for, step by step: load the counter; load the cells; exchange the counter for the next number
abbrev pub count_want : Count → Want (Unit {0})
count_want counts.LoadsCounter = load 0
count_want (counts.LoadsCell counter index filled) = load (cell_word index)
count_want (counts.ExchangesCounter counter filled) =
    exchange 0 counter (one_more counter)

-- The count goes on to the next cell; after the last one it exchanges the counter,
-- or ends at once where the counter is at its end.
abbrev pub count_comes_to : (capacity counter index filled : ℕ) → After Count Counted
count_comes_to capacity counter index filled =
    if nat_lt index capacity
    then GoOn (counts.LoadsCell counter index filled)
    else if counter == greatest
    then Done (ends.Filled filled counter)
    else GoOn (counts.ExchangesCounter counter filled)

-- Where the count goes on to from the old value of its word: it counts the filled cells, and ends with their number if
-- the counter has not moved meanwhile. It ends at once if it loads the lock. Else it begins again.
abbrev pub count_after : ℕ → Count → ℕ → After Count Counted
count_after capacity counts.LoadsCounter old =
    if old == locked then Done ends.Locked else count_comes_to capacity old 0 0
count_after capacity (counts.LoadsCell counter index filled) old =
    count_comes_to capacity counter (index + 1)
    (if old == empty then filled else one_more filled)
count_after capacity (counts.ExchangesCounter counter filled) old =
    if old == counter
    then Done (ends.Filled filled (one_more counter))
    else GoOn counts.LoadsCounter

-- whether the count begins again once it is handed this old value: another has moved the counter
abbrev pub count_goes_back : Count → ℕ → Bool
count_goes_back counts.LoadsCounter old = false
count_goes_back (counts.LoadsCell counter index filled) old = false
count_goes_back (counts.ExchangesCounter counter filled) old = not (old == counter)

-- ---- lock

-- a lock before its first step
abbrev pub first_lock : Lock
first_lock = locks.Counts counts.LoadsCounter

-- what the lock asks for, step by step: those of its count; exchange the counter for the lock
abbrev pub lock_want : Lock → Want (Unit {0})
lock_want (locks.Counts count) = count_want count
lock_want (locks.ExchangesCounter counter) = exchange 0 counter locked

-- the lock after a step of its count: only a set without an owner is locked, and none whose counter is at its end
abbrev pub lock_counted : After Count Counted → After Lock ReleaseState
lock_counted (GoOn count) = GoOn (locks.Counts count)
lock_counted (Done ends.Locked) = Done Locked
lock_counted (Done (ends.Filled filled counter)) =
    if (filled == 0) && not (counter == greatest)
    then GoOn (locks.ExchangesCounter counter)
    else Done Unlocked

-- Where the lock goes on to from the old value of its word: it locks only where it has counted no filled cell, and the
-- counter has not moved since.
abbrev pub lock_after : ℕ → Lock → ℕ → After Lock ReleaseState
lock_after capacity (locks.Counts count) old =
    lock_counted (count_after capacity count old)
lock_after capacity (locks.ExchangesCounter counter) old =
    if old == counter then Done Locked else GoOn first_lock

-- whether the lock begins its count again once it is handed this old value: another has moved the counter
abbrev pub lock_goes_back : Lock → ℕ → Bool
lock_goes_back (locks.Counts count) old = count_goes_back count old
lock_goes_back (locks.ExchangesCounter counter) old = not (old == counter)
