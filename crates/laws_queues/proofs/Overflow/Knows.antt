-- What a push and a pop of the overflowing queue know at each stage, how many steps they have taken, and what
-- they have written. `c` is the capacity; `k` has the two positions, the values that wait, and the cells.
use Rattle.laws_queues.proofs.Names.{◌≡◌, ◌-◌, ◌^◌, ℕ, ◌+◌, ◌%◌, ◌<◌, ◌≤◌, ◌==◌, Some, List, [], ◌∷◌, ◌++◌}
use Rattle.laws_queues.proofs.Names.{if◌then◌else◌, get_or, OneWord, Index, QueueStart, PushIndex, Pop, PoppedNone}
use Rattle.laws_queues.proofs.Names.{PoppedIndex, Event, Queues, Published, HandedOut, Acted, Roles, words_of_index}
use Rattle.std.proofs.Common.{arith}
use Rattle.steps.specs.declared.queues.overflow.PushStage.{PushStage}
use Rattle.steps.specs.declared.queues.overflow.PushStage.TheVariants as overflow_pushes
use Rattle.steps.specs.declared.queues.overflow.PopStage.{PopStage}
use Rattle.steps.specs.declared.queues.overflow.PopStage.TheVariants as overflow_pops
use Rattle.model.specs.declared.families.queues.calls.OverflowCall.{OverflowCall}
use Rattle.model.specs.declared.families.queues.calls.OverflowCall.TheVariants as overflows
use Rattle.laws_queues.proofs.Queues.Core.{Core, Holds}
use Rattle.laws_queues.proofs.Queues.Core.{GoesUp}
pub use Rattle.model.specs.Fresh.{IsFreshOver}

-- ---- the calls by their stages

-- the push of `v` into a queue of capacity `c`, with this room, at a stage
abbrev pub overflow_push_at : ℕ → ℕ → OneWord → PushStage → OverflowCall
overflow_push_at c v room stage =
    overflows.Push (record { call = record { capacity = c; stage = stage }; given = v; room = room })

-- the pop from a queue of capacity `c`, with this room, at a stage
abbrev pub overflow_pop_at : ℕ → OneWord → PopStage → OverflowCall
overflow_pop_at c room stage =
    overflows.Pop (record { call = record { capacity = c; stage = stage }; given = tt; room = room })

-- ---- what they know

-- What a push of `v` knows at each stage. The write position stays as it was loaded, since no other party
-- pushes. The read position can have moved on since the push loaded it, by a pop. The push leaves its own
-- value behind, so something waits after its own move of the read position.
abbrev pub KnowsOverflowPush : ℕ → Core ℕ → ℕ → PushStage → Type 0
KnowsOverflowPush c k v overflow_pushes.HandsBack = c ≡ 0
KnowsOverflowPush c k v overflow_pushes.LoadsWrite = 0 < c
KnowsOverflowPush c k v (overflow_pushes.LoadsRead write) = (0 < c) × (write ≡ k.write) × (k.write < 2 ^ 64 - 1)
KnowsOverflowPush c k v (overflow_pushes.StoresCell write read) =
    (0 < c) × (write ≡ k.write) × (read ≤ k.read) × (k.write ≤ read + c) × (k.write < 2 ^ 64 - 1)
KnowsOverflowPush c k v (overflow_pushes.StoresWrite write read) =
    (0 < c) × (write ≡ k.write) × (read ≤ k.read) × (k.write ≤ read + c) × Holds 1 words_of_index (c + 1) k.cells k.write v 1 × (k.write < 2 ^ 64 - 1)
KnowsOverflowPush c k v (overflow_pushes.MovesRead read) =
    (0 < c) × (read ≤ k.read) × (k.write ≡ read + c + 1) × (read ≡ k.read → (others : List ℕ) × (k.waiting ≡ others ++ v ∷ []))
KnowsOverflowPush c k v (overflow_pushes.LoadsCell read) = (0 < c) × (read < k.read) × (k.write ≡ read + c + 1)

-- What a pop knows at each stage: once it has loaded the write position something waits, and once it has
-- loaded the cell its room has the front value, unless the read position has moved on since.
abbrev pub KnowsOverflowPop : ℕ → Core ℕ → OneWord → PopStage → Type 0
KnowsOverflowPop c k room overflow_pops.FindsNone = c ≡ 0
KnowsOverflowPop c k room overflow_pops.LoadsRead = 0 < c
KnowsOverflowPop c k room (overflow_pops.LoadsWrite read) =
    (0 < c) × (read ≤ k.read) × (read < k.read → k.read < k.write)
KnowsOverflowPop c k room (overflow_pops.LoadsCell read) = (0 < c) × (read ≤ k.read) × (k.read < k.write)
KnowsOverflowPop c k room (overflow_pops.MovesRead read) =
    (0 < c) × (read ≤ k.read) × (k.read < k.write) × (read ≡ k.read → (rest : List ℕ) × (k.waiting ≡ room.0 ∷ rest))

-- how many steps a push has taken at most at each stage
abbrev pub overflow_push_number : PushStage → ℕ
overflow_push_number overflow_pushes.HandsBack = 0
overflow_push_number overflow_pushes.LoadsWrite = 0
overflow_push_number (overflow_pushes.LoadsRead write) = 1
overflow_push_number (overflow_pushes.StoresCell write read) = 2
overflow_push_number (overflow_pushes.StoresWrite write read) = 3
overflow_push_number (overflow_pushes.MovesRead read) = 4
overflow_push_number (overflow_pushes.LoadsCell read) = 5

-- how many steps a pop has taken at most at each stage, besides two for each time that it turned back
abbrev pub overflow_pop_number : PopStage → ℕ
overflow_pop_number overflow_pops.FindsNone = 0
overflow_pop_number overflow_pops.LoadsRead = 0
overflow_pop_number (overflow_pops.LoadsWrite read) = 1
overflow_pop_number (overflow_pops.LoadsCell read) = 2
overflow_pop_number (overflow_pops.MovesRead read) = 3

-- What a pop knows of the times that it turned back: each is paid by a change of a word since the pop
-- began, and so is each move of the read position since the pop loaded it, which will turn it back next.
abbrev pub KnowsBacks : {V : Type 0} → Core V → ℕ → ℕ → ℕ → PopStage → Type 0
KnowsBacks k since changes backs overflow_pops.FindsNone = backs + since ≤ changes
KnowsBacks k since changes backs overflow_pops.LoadsRead = backs + since ≤ changes
KnowsBacks k since changes backs (overflow_pops.LoadsWrite read) =
    (read ≤ k.read) × (backs + since + k.read ≤ changes + read)
KnowsBacks k since changes backs (overflow_pops.LoadsCell read) =
    (read ≤ k.read) × (backs + since + k.read ≤ changes + read)
KnowsBacks k since changes backs (overflow_pops.MovesRead read) =
    (read ≤ k.read) × (backs + since + k.read ≤ changes + read)

-- the queue goes from `k` to `k'` in a turn of another party
module _ {V : Type 0} (k k' : Core V) (changes changes' : ℕ) (up : GoesUp k k' changes changes') where
  -- what a pop knows of its turn-backs it knows after another party's turn
  pub backs_keep : (since backs : ℕ) (stage : PopStage) → KnowsBacks k since changes backs stage → KnowsBacks k' since changes' backs stage
  backs_keep = grind arith

module _ {T : Type 0} where
  -- the events that a push of `v` by the party `p` has written since its begin; it writes
  -- none before it publishes
  abbrev pub overflow_wrote : {V : Type 0} → ℕ → Core V → ℕ → ℕ → PushStage → List (Event T)
  overflow_wrote c k p v overflow_pushes.HandsBack = []
  overflow_wrote c k p v overflow_pushes.LoadsWrite = []
  overflow_wrote c k p v (overflow_pushes.LoadsRead write) = []
  overflow_wrote c k p v (overflow_pushes.StoresCell write read) = []
  overflow_wrote c k p v (overflow_pushes.StoresWrite write read) = []
  overflow_wrote c k p v (overflow_pushes.MovesRead read) =
      Published p (Index v) ∷ (if read == k.read then [] else Acted p (Queues (PushIndex v)) PoppedNone ∷ [])
  overflow_wrote c k p v (overflow_pushes.LoadsCell read) =
      Published p (Index v)
      ∷ HandedOut p (Index (get_or k.cells (read % (c + 1)) 0))
      ∷ Acted p (Queues (PushIndex v)) (PoppedIndex (get_or k.cells (read % (c + 1)) 0))
      ∷ []

  -- where a push or a pop stands: its party holds the role, its capacity is the queue's, and it knows what
  -- its stage says
  abbrev pub OverflowAt : ℕ → Roles → Core ℕ → ℕ → QueueStart T → OverflowCall → Type 0
  OverflowAt c ro k p (PushIndex v) (overflows.Push run) =
      (ro.producer ≡ Some p) × (run.call.capacity ≡ c) × (run.given ≡ v) × KnowsOverflowPush c k v run.call.stage
  OverflowAt c ro k p Pop (overflows.Pop run) =
      (ro.consumer ≡ Some p) × (run.call.capacity ≡ c) × KnowsOverflowPop c k run.room run.call.stage
  OverflowAt c ro k p start call = ⊥
