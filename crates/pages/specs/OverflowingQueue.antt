-- The overflowing queue of a capacity above 0: its words, its calls stage by stage, and the list.
use Rattle.std.specs.Prelude.{ℕ, ◌+◌, ◌-◌, ◌%◌, ◌^◌, ◌==◌, Bool, Option, Some, None, List, [], ◌∷◌, ◌++◌, drop}
use Rattle.std.specs.Prelude.{if◌then◌else◌, length, nat_lt, replicate, slice_get}
use Rattle.pages.specs.Machine.{Operation, Load, Store, Exchange, After, GoOn, Done, Structure, Object}

pub data Call : Type 0 where  -- the calls of the overflowing queue
  Push : (value : ℕ) → Call
  Pop : Call

-- what a call does next, with all that it knows
pub data Stage : Type 0 where
  PushLoadsWrite : (value : ℕ) → Stage
  PushLoadsRead : (value write : ℕ) → Stage
  PushStoresCell : (value write read : ℕ) → Stage
  PushStoresWrite : (value write read : ℕ) → Stage
  PushMovesRead : (value read : ℕ) → Stage
  PushLoadsOldest : (value read : ℕ) → Stage
  PopLoadsRead : Stage
  PopLoadsWrite : (read : ℕ) → Stage
  PopLoadsCell : (read : ℕ) → Stage
  PopMovesRead : (read value : ℕ) → Stage

abbrev pub first : Call → Stage  -- the stage with which a call begins
first (Push value) = PushLoadsWrite value
first Pop = PopLoadsRead

-- Both calls answer None or a value: a push the oldest one, if the queue was full, and a pop the one that it took.
-- A push first stores its value. If the queue was full when it loaded the read position, it then takes the oldest value out,
-- unless a pop has done so meanwhile.
abbrev pub does : ℕ → Stage → ℕ × Operation × (ℕ → After Stage (Option ℕ))
does capacity (PushLoadsWrite value) =
    (0, Load, λ old. if old == 2 ^ 64 - 1 then Done (Some value) else GoOn (PushLoadsRead value old))
does capacity (PushLoadsRead value write) = (1, Load, λ old. GoOn (PushStoresCell value write old))
does capacity (PushStoresCell value write read) =
    (4 + write % (capacity + 1), Store value, λ old. GoOn (PushStoresWrite value write read))
does capacity (PushStoresWrite value write read) = (
  0,
  Store ((write + 1) % 2 ^ 64),
  λ old. if (write + 2 ^ 64 - read) % 2 ^ 64 == capacity then GoOn (PushMovesRead value read) else Done None,
)
does capacity (PushMovesRead value read) =
    (1, Exchange read ((read + 1) % 2 ^ 64), λ old. if old == read then GoOn (PushLoadsOldest value read) else Done None)
does capacity (PushLoadsOldest value read) = (4 + read % (capacity + 1), Load, λ old. Done (Some old))
does capacity PopLoadsRead = (1, Load, λ old. GoOn (PopLoadsWrite old))
does capacity (PopLoadsWrite read) =
    (0, Load, λ old. if old == read then Done None else GoOn (PopLoadsCell read))
does capacity (PopLoadsCell read) = (4 + read % (capacity + 1), Load, λ old. GoOn (PopMovesRead read old))
does capacity (PopMovesRead read value) =
    (1, Exchange read ((read + 1) % 2 ^ 64), λ old. if old == read then Done (Some value) else GoOn (PopLoadsCell old))

-- party 0 is the producer, party 1 the consumer
abbrev pub may : ℕ → Call → Bool
may p (Push value) = p == 0
may p Pop = p == 1

-- write position, read position, a word 0 for each role, since it is taken, and one cell more than the capacity
abbrev pub overflowing_queue : ℕ → Structure Call Stage (Option ℕ)
overflowing_queue capacity =
    record { words = 0 ∷ 0 ∷ 0 ∷ 0 ∷ replicate (capacity + 1) 0; may = may; first = first; does = does capacity }

-- a push that makes the list longer than the capacity takes the oldest off
abbrev pub listed : ℕ → List ℕ → Call → Option ℕ × List ℕ
listed capacity items (Push value) =
    if nat_lt capacity (length (items ++ value ∷ []))
    then (slice_get (items ++ value ∷ []) 0, drop 1 (items ++ value ∷ []))
    else (None, items ++ value ∷ [])
listed capacity items Pop = (slice_get items 0, drop 1 items)

-- the sequential object: a list that keeps at most this many of the latest values
abbrev pub overflowing_list : ℕ → Object Call (Option ℕ) (List ℕ)
overflowing_list capacity = record { opening = []; act = listed capacity }
