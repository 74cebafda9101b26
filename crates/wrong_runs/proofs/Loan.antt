-- For each field of what a loan channel promises a run that this field alone refuses here.
use Rattle.std.proofs.Common.{◌≡◌, ⊎_elim, inl, ℕ, ◌<◌, Some, List, [], ◌∷◌, refl, arith}
use Rattle.steps.specs.declared.indices.enums.UniqueIndexSetAcquireFailure.TheVariants as failures
use Rattle.steps.specs.declared.loan.places.Place.TheVariants as places
use Rattle.model.specs.declared.event.Answer.TheVariants.{Index, NoIndex, PoppedIndex}
use Rattle.model.specs.declared.event.Event.{Event}
use Rattle.model.specs.declared.event.Event.TheVariants.{Begun, Published, Claimed, Returned, Died, Acted, Finished}
use Rattle.model.specs.declared.event.Item.TheVariants as items
use Rattle.model.specs.declared.event.Start.{Start}
use Rattle.model.specs.declared.event.Start.TheVariants as starts
use Rattle.model.specs.declared.families.Registry.TheVariants as registries
use Rattle.model.specs.declared.families.loan.Book.{Book}
use Rattle.model.specs.declared.families.loan.LoanStart.TheVariants.{Loan, Receive}
use Rattle.model.specs.declared.turn.Kind.TheVariants as kinds
use Rattle.model.specs.Families.Loan.Promises.{IsChannelOf}
use Rattle.model.specs.World.{Trace}
use Rattle.wrong_runs.proofs.Machines.{machine}

-- a channel of two slots with a submission queue of two, in which nothing was sent yet
abbrev pub fresh : Book
fresh = record { queue = 2; places = []; holders = []; receiver = 1; dead = [] }

-- words: the head, two next indices and the flags; then of each queue its positions, its roles and its cells
abbrev pub still : List ℕ
still = 0 ∷ 1 ∷ 2 ∷ 0 ∷ 0 ∷ 0 ∷ 1 ∷ 1 ∷ 0 ∷ 0 ∷ 0 ∷ 0 ∷ 0 ∷ 1 ∷ 1 ∷ 0 ∷ 0 ∷ []

-- A loan channel with these words and events, and a fresh book.
abbrev pub channel : List ℕ → List (Event ℕ) → Trace ℕ
channel words events = machine kinds.Loan words (registries.Loan fresh) events

abbrev pub loan : Start ℕ
loan = starts.Loan Loan

abbrev pub receive : Start ℕ
receive = starts.Loan Receive

-- an index is claimed that somebody has
claimed_twice : IsChannelOf fresh (channel still (Claimed 0 0 ∷ Claimed 1 0 ∷ [])) → ⊥
claimed_twice channel = cc ((channel.moves (Claimed 0 0 ∷ []) [] (Claimed 1 0) refl).1)

-- the receiver loans
receiver_loans : IsChannelOf fresh (channel still (Begun 1 loan ∷ [])) → ⊥
receiver_loans channel = cc (channel.begins [] [] (Begun 1 loan) refl)

-- a loan fails because of a lock
locked : IsChannelOf fresh (channel still (Finished 0 loan (NoIndex failures.IsLocked) ∷ [])) → ⊥
locked channel = channel.answers [] [] (Finished 0 loan (NoIndex failures.IsLocked)) refl

-- who has died receives
dead_receives : IsChannelOf fresh (channel still (Died 1 ∷ Begun 1 receive ∷ [])) → ⊥
dead_receives channel = cc (channel.lives (Died 1 ∷ []) [] (Begun 1 receive) refl)

-- the sender's table says that an index is loaned that nobody has claimed
abbrev tabled : Book
tabled = record fresh { places = places.Loaned ∷ [] }

-- A table that calls an index loaned which nobody has claimed is refused.
loaned_unclaimed : IsChannelOf tabled (machine kinds.Loan still (registries.Loan tabled) []) → ⊥
loaned_unclaimed channel = cc (channel.table 0)

-- an index is in passing, and its party has no call
passes_nowhere : IsChannelOf fresh (channel still (Claimed 0 0 ∷ [])) → ⊥
passes_nowhere channel = channel.passing 0 0 refl

-- a third party has an index
abbrev third : List (Event ℕ)
third = Finished 2 loan (Index 0) ∷ []

not_party : (n p : ℕ) → p < n → n ≡ p → ⊥
not_party n p far same = absurd (omega arith)

-- An index with a party that is neither the sender nor the receiver is refused.
third_has : IsChannelOf fresh (channel still third) → ⊥
third_has channel = ⊎_elim (not_party 2 0 (omega arith)) (not_party 2 1 (omega arith)) (channel.parties 0 2 (inl refl))

-- a flag stands, and the index is free
abbrev flagged : List ℕ
flagged = 0 ∷ 1 ∷ 2 ∷ 1 ∷ 0 ∷ 0 ∷ 1 ∷ 1 ∷ 0 ∷ 0 ∷ 0 ∷ 0 ∷ 0 ∷ 1 ∷ 1 ∷ 0 ∷ 0 ∷ []

-- A flag that stands for an index that is free is refused.
flag_stands : IsChannelOf fresh (channel flagged []) → ⊥
flag_stands channel = (channel.flags 0 (omega arith)).0 refl refl

-- an index is sent, and waits in no cell
sent_nowhere : IsChannelOf fresh (channel still (Published 0 (items.Index 0) ∷ [])) → ⊥
sent_nowhere channel = cc (channel.sent)

-- the submission queue holds an index that nobody has sent, or one twice
abbrev filled : List ℕ
filled = 0 ∷ 1 ∷ 2 ∷ 0 ∷ 1 ∷ 0 ∷ 1 ∷ 1 ∷ 0 ∷ 0 ∷ 0 ∷ 0 ∷ 0 ∷ 1 ∷ 1 ∷ 0 ∷ 0 ∷ []

-- An index that waits in the submission queue, and that nobody has sent, is refused.
waits_unsent : IsChannelOf fresh (channel filled []) → ⊥
waits_unsent channel = cc ((channel.waits.each 0).0 (0, omega arith, refl))

-- The words of a channel whose submission queue holds index 0 in two cells.
abbrev filled_twice : List ℕ
filled_twice = 0 ∷ 1 ∷ 2 ∷ 0 ∷ 2 ∷ 0 ∷ 1 ∷ 1 ∷ 0 ∷ 0 ∷ 0 ∷ 0 ∷ 0 ∷ 1 ∷ 1 ∷ 0 ∷ 0 ∷ []

-- An index that waits twice in the submission queue is refused.
waits_twice : IsChannelOf fresh (channel filled_twice (Published 0 (items.Index 0) ∷ Published 0 (items.Index 0) ∷ [])) → ⊥
waits_twice channel = channel.waits.once 0 1 (items.Index 0) (omega arith) (omega arith) refl

-- an index is published, and no send has acted
unacted : IsChannelOf fresh (channel filled (Published 0 (items.Index 0) ∷ [])) → ⊥
unacted channel = cc (channel.list)

-- a receive answers an index that nobody has sent
invents : IsChannelOf fresh (channel still (Acted 1 receive (PoppedIndex 0) ∷ [])) → ⊥
invents channel = cc (channel.legal)

-- an index is given back, and waits in no cell
returned_nowhere : IsChannelOf fresh (channel still (Returned 1 0 ∷ [])) → ⊥
returned_nowhere channel = cc (channel.returned)

-- the completion queue holds an index that nobody has given back
abbrev returning : List ℕ
returning = 0 ∷ 1 ∷ 2 ∷ 0 ∷ 0 ∷ 0 ∷ 1 ∷ 1 ∷ 0 ∷ 0 ∷ 0 ∷ 1 ∷ 0 ∷ 1 ∷ 1 ∷ 0 ∷ 0 ∷ []

-- An index that waits in the completion queue, and that nobody has given back, is refused.
returns_unreturned : IsChannelOf fresh (channel returning []) → ⊥
returns_unreturned channel = cc ((channel.returns.each 0).0 (0, omega arith, refl))

-- what is kept says what the events do not: of the table, of who has an index, of the receiver, of the dead
placed : IsChannelOf tabled (machine kinds.Loan still (registries.Loan tabled) []) → ⊥
placed channel = let e = channel.keeps.places 0 in ⊎_elim (λ x. cc) (λ x. cc) e

-- A book that says that party 0 holds index 0.
abbrev named : Book
named = record fresh { holders = Some 0 ∷ [] }

-- A book that says that party 0 has an index, which it does not have by the events, is refused.
unnamed_holder : IsChannelOf named (machine kinds.Loan still (registries.Loan named) []) → ⊥
unnamed_holder channel = cc (channel.keeps.holders 0)

-- A book that says that party 2 is the receiver.
abbrev second : Book
second = record fresh { receiver = 2 }

-- A book that names party 2 the receiver before any reclaim is refused.
other_receiver : IsChannelOf second (machine kinds.Loan still (registries.Loan second) []) → ⊥
other_receiver channel = cc (channel.keeps.receiver)

-- A book that says that party 1 is dead.
abbrev mourned : Book
mourned = record fresh { dead = 1 ∷ [] }

-- A book that has party 1 among the dead, which has not died, is refused.
unnamed_dead : IsChannelOf mourned (machine kinds.Loan still (registries.Loan mourned) []) → ⊥
unnamed_dead channel = cc (channel.keeps.dead 1)
