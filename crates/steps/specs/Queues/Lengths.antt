-- The number of values that wait in a queue, one step after another. `len_asks` says what the call asks for
-- at each stage, and `len_takes` where the answer leads: to a next stage (`GoOn`) or to its end (`Done`).
use Rattle.std.specs.Prelude.{ℕ, ◌==◌, Bool, false, if◌then◌else◌, not}
use Rattle.steps.specs.Queues.Ring.{distance, load}
use Rattle.steps.specs.declared.ask.Want.{Want}
use Rattle.steps.specs.declared.ask.After.{After}
use Rattle.steps.specs.declared.ask.After.TheVariants.{GoOn, Done}
use Rattle.steps.specs.declared.queues.lengths.Len.{Len}
use Rattle.steps.specs.declared.queues.lengths.LenStage.{LenStage}
use Rattle.steps.specs.declared.queues.lengths.LenStage.TheVariants.{LoadsWrite, LoadsRead, LoadsWriteAgain, LoadsReadAgain}

-- a queue of capacity 0 has no value, whatever its words say
abbrev pub number_waiting : (capacity write read : ℕ) → ℕ
number_waiting capacity write read = if capacity == 0 then 0 else distance write read

-- a call for the length before its first step
abbrev pub first_len : ℕ → Len
first_len capacity = record { capacity = capacity; stage = LoadsWrite }

-- the call for the length, moved to this stage
abbrev pub at_len : Len → LenStage → Len
at_len call stage = record { capacity = call.capacity; stage = stage }

-- what the call for the length asks for, step by step: load write; load read; load write; load read
abbrev pub len_asks : LenStage → Want (Unit {0})
len_asks LoadsWrite = load 0
len_asks (LoadsRead write) = load 1
len_asks (LoadsWriteAgain write read) = load 0
len_asks (LoadsReadAgain write read) = load 1

-- what the call for the length asks for next, at the stage where it stands
abbrev pub len_want : Len → Want (Unit {0})
len_want call = len_asks call.stage

-- Whether the call for the length begins again once it is handed this old value:
-- a position has moved since it was loaded.
abbrev pub turns_back : LenStage → ℕ → Bool
turns_back LoadsWrite old = false
turns_back (LoadsRead write) old = false
turns_back (LoadsWriteAgain write read) old = not (old == write)
turns_back (LoadsReadAgain write read) old = not (old == read)

-- Where the call goes on to from the old value of its word: it loads both positions twice, and begins again unless
-- neither has moved between.
abbrev pub len_takes : Len → LenStage → ℕ → After Len ℕ
len_takes call LoadsWrite old = GoOn (at_len call (LoadsRead old))
len_takes call (LoadsRead write) old = GoOn (at_len call (LoadsWriteAgain write old))
len_takes call (LoadsWriteAgain write read) old =
    if old == write
    then GoOn (at_len call (LoadsReadAgain write read))
    else GoOn (first_len call.capacity)
len_takes call (LoadsReadAgain write read) old =
    if old == read
    then Done (number_waiting call.capacity write read)
    else GoOn (first_len call.capacity)

-- how the call for the length goes on from the stage at which it is, by the old value of its word
abbrev pub len_after : Len → ℕ → After Len ℕ
len_after call old = len_takes call call.stage old
