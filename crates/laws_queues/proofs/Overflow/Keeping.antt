-- What a push or a pop of an overflowing queue knows at its stage stays known after a step of another party.
use Rattle.laws_queues.proofs.Names.{◌≡◌, ℕ, ◌+◌, ◌≤◌, List, [], ◌∷◌, ◌++◌, length, ap, OneWord, words_of_index}
use Rattle.std.proofs.Common.{arith}
use Rattle.steps.specs.declared.queues.overflow.PushStage as overflow_pushes
use Rattle.steps.specs.declared.queues.overflow.PopStage.{PopStage}
use Rattle.steps.specs.declared.queues.overflow.PopStage.TheVariants as overflow_pops
use Rattle.laws_queues.proofs.Queues.Core as core
use Rattle.laws_queues.proofs.Queues.Core.{Core, Good, filled, taken}
use Rattle.laws_queues.proofs.Overflow.Knows.{KnowsOverflowPush, KnowsOverflowPop, overflow_wrote}

-- ---- a pop, where a push takes a step

-- a push's store into a cell keeps what a pop knows
pub fill_keeps_pop : (c : ℕ) (k : Core ℕ) (at word : ℕ) (room : OneWord) (stage : PopStage)
    → KnowsOverflowPop c k room stage → KnowsOverflowPop c (filled 1 words_of_index (c + 1) k at word) room stage
fill_keeps_pop = grind arith

-- a push's store of the next write position keeps what a pop knows
pub publish_keeps_pop : (c : ℕ) (k : Core ℕ) (v : ℕ) (room : OneWord) (stage : PopStage)
    → KnowsOverflowPop c k room stage → KnowsOverflowPop c (core.published 1 words_of_index (c + 1) k v) room stage
publish_keeps_pop c k v room overflow_pops.FindsNone knows_overflow_pop = knows_overflow_pop
publish_keeps_pop c k v room overflow_pops.LoadsRead knows_overflow_pop = knows_overflow_pop
publish_keeps_pop c k v room (overflow_pops.LoadsWrite read) knows_overflow_pop =
    (knows_overflow_pop.0, knows_overflow_pop.1, λ moved. let waits = knows_overflow_pop.2 moved in omega arith)
publish_keeps_pop c k v room (overflow_pops.LoadsCell read) knows_overflow_pop = grind arith
publish_keeps_pop c k v room (overflow_pops.MovesRead read) knows_overflow_pop =
    let waits = knows_overflow_pop.2 in (
      knows_overflow_pop.0,
      knows_overflow_pop.1,
      omega arith,
      λ same. let first = knows_overflow_pop.3 same in (first.0 ++ v ∷ [], ap (λ xs. xs ++ v ∷ []) first.1),
    )

-- a push's move of the read position keeps what a pop knows: the newest value still waits, since one more
-- than the capacity waited before
pub take_keeps_pop :
    (c : ℕ) (k : Core ℕ) (rest : List ℕ) → k.write ≡ k.read + c + 1 → (room : OneWord) (stage : PopStage) → KnowsOverflowPop c k room stage
    → KnowsOverflowPop c (taken 1 words_of_index (c + 1) k rest) room stage
take_keeps_pop = grind arith

-- ---- a push, where a pop moves the read position and no push was pending

-- a push under way knows what it knew, and has written the same, once another party's pop has
-- taken the oldest value
pub take_keeps_push :
    {T : Type 0} → (c : ℕ) (k : Core ℕ) (q : ℕ) (rest : List ℕ) → Good 1 words_of_index (c + 1) k
    → length k.waiting ≤ c → (w : ℕ) (stage : overflow_pushes.PushStage) → KnowsOverflowPush c k w stage
    → KnowsOverflowPush c (taken 1 words_of_index (c + 1) k rest) w stage
    × (overflow_wrote {T = T} c (taken 1 words_of_index (c + 1) k rest) q w stage ≡ overflow_wrote c k q w stage)
take_keeps_push = grind arith
