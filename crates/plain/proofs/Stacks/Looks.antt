-- The looks at a unique index set that run alone: each is one load of the head, and leaves the words.
use Rattle.std.proofs.Common.{ℕ, List, arith}
use Rattle.plain.proofs.Names.{load}
use Rattle.steps.specs.Indices.Unique.{borrowed_after, locked_after}
use Rattle.steps.specs.Objects.Stacks.{Stack, out}
use Rattle.steps.specs.declared.indices.looks.BorrowedIndices.{BorrowedIndices}
use Rattle.steps.specs.declared.indices.looks.IsLocked.{IsLocked}
use Rattle.plain_queues.specs.Alone.{BehavesAs}
use Rattle.plain.specs.Unique.{stack_in, Represents}
use Rattle.plain_queues.proofs.Alone.{Runs}
use Rattle.plain.proofs.Stacks.Chains.{chain_length}

module _ (capacity : ℕ) (words : List ℕ) where
  -- the look at the number of borrowed indices, run alone, answers how many indices are out,
  -- and leaves the words
  abbrev pub CountRuns : BorrowedIndices → Type 0
  CountRuns call =
      Runs (λ (c : BorrowedIndices) (given : Unit {0}). load 0) (λ c given old. borrowed_after c old) (λ c (room : Unit {0}) old. room) tt
      (λ end room last. BehavesAs (Represents capacity) (stack_in capacity) out (λ s. s) words end last) call tt words

  -- a look at the number of borrowed indices, run alone, answers how many indices are out
  pub count_runs : (call : BorrowedIndices) → Represents capacity words → CountRuns call
  count_runs = grind (arith, chain_length)

  -- the look at the lock, run alone, answers whether the stack is locked, and leaves the words
  abbrev pub LookRuns : IsLocked → Type 0
  LookRuns call =
      Runs (λ (c : IsLocked) (given : Unit {0}). load 0) (λ c given old. locked_after c old) (λ c (room : Unit {0}) old. room) tt
      (λ end room last. BehavesAs (Represents capacity) (stack_in capacity) (λ (s : Stack). s.locked) (λ s. s) words end last) call tt words

  -- a look at the lock, run alone, answers whether the stack is locked
  pub look_runs : (call : IsLocked) → Represents capacity words → LookRuns call
  look_runs = grind arith
