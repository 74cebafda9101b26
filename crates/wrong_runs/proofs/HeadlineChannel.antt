-- For each field of what `headline` says of the loan channel a run that this field refuses here.
use Rattle.std.proofs.Common.{◌≡◌, ⊎_elim, ℕ, List, [], ◌∷◌, ◌++◌, refl, arith}
use Rattle.std.specs.List.{flat_map}
use Rattle.model.specs.declared.event.Answer.TheVariants.{Index, PoppedIndex, PoppedNone}
use Rattle.model.specs.declared.event.Event.{Event}
use Rattle.model.specs.declared.event.Event.TheVariants.{Begun, Published, HandedOut, Claimed, Freed, Returned, Died, Acted, Finished}
use Rattle.model.specs.declared.event.Item.TheVariants as items
use Rattle.model.specs.declared.event.Start.{Start}
use Rattle.model.specs.declared.event.Start.TheVariants.{Loan}
use Rattle.model.specs.declared.families.loan.LoanStart.TheVariants.{Reclaim}
use Rattle.model.proofs.Readings.{no_more}
use Rattle.headline.specs.Headline.{ChannelRuns, IsLeftOver}
use Rattle.headline.specs.Moments.{act_of}
use Rattle.wrong_runs.proofs.HeadlineSets.{two}
use Rattle.wrong_runs.proofs.Loan.{still, channel, loan, receive}

-- What `headline` says of a loan channel, whose submission queue has capacity 2, holds of these events.
abbrev runs : List (Event ℕ) → Type 0
runs events = ChannelRuns 2 (channel still events)

-- the submission queue has another capacity
other_length : ChannelRuns 3 (channel still []) → ⊥
other_length channel_runs = cc (channel_runs.length)

-- ---- indices

-- an index is claimed that somebody has
claimed_twice : runs (Claimed 0 0 ∷ Claimed 1 0 ∷ []) → ⊥
claimed_twice k = two (1 ∷ 0 ∷ []) (k.no_two_hold (Claimed 0 0 ∷ Claimed 1 0 ∷ []) [] refl 0) refl

-- A loan answers an index that it has not claimed.
loaned_unclaimed : runs (Begun 0 loan ∷ Finished 0 loan (Index 0) ∷ []) → ⊥
loaned_unclaimed k = cc ((k.acquired 0 0 (Begun 0 loan ∷ []) ([], refl)).0)

-- A loan answers an index that the channel does not have.
loaned_past : runs (Begun 0 loan ∷ Claimed 0 5 ∷ Finished 0 loan (Index 5) ∷ []) → ⊥
loaned_past k = absurd (omega (arith, (k.acquired 0 5 (Begun 0 loan ∷ Claimed 0 5 ∷ []) ([], refl)).1))

-- A receive answers an index that it has not taken out.
received_unsent : runs (Begun 1 receive ∷ Finished 1 receive (PoppedIndex 0) ∷ []) → ⊥
received_unsent k = cc ((k.received 1 0 (Begun 1 receive ∷ []) ([], refl)).0)

-- A receive has taken out an index that the channel does not have.
abbrev past : List (Event ℕ)
past = Begun 1 receive ∷ HandedOut 1 (items.Index 5) ∷ []

-- A receive answers an index that the channel does not have.
received_past : runs (past ++ Finished 1 receive (PoppedIndex 5) ∷ []) → ⊥
received_past k = absurd (omega (arith, (k.received 1 5 past ([], refl)).1))

-- Outside of a reclaim no index is left over to free.
not_reclaimed : IsLeftOver {T = ℕ} 0 0 [] → ⊥
not_reclaimed left = cc (left.reclaims)

-- The call that frees what a dead receiver had.
abbrev reclaim : Start ℕ
reclaim = Loan Reclaim

-- A reclaim does not free what a receiver has who lives.
left_by_the_living : IsLeftOver {T = ℕ} 0 0 (Claimed 1 0 ∷ Begun 0 reclaim ∷ []) → ⊥
left_by_the_living left = cc (left.dead)

-- A reclaim does not free what the sender has, though the receiver has died.
left_by_another : IsLeftOver {T = ℕ} 0 0 (Claimed 0 0 ∷ Died 1 ∷ Begun 0 reclaim ∷ []) → ⊥
left_by_another left = cc (left.held)

-- An index is freed that nobody has, and in no reclaim.
freed_unheld : runs (Freed 0 0 ∷ []) → ⊥
freed_unheld k = ⊎_elim (λ held. cc) not_reclaimed (k.freed 0 0 [] ([], refl))

-- ---- sends and receives

-- a receive ends, and has not acted
acts_nowhere : (before since : List (Event ℕ)) → Begun 1 receive ∷ [] ≡ before ++ Begun 1 receive ∷ since
    → flat_map (act_of 1) since ≡ (receive, PoppedNone) ∷ [] → ⊥
acts_nowhere [] since split once =
    let none : since ≡ [] = cc in
    cc (rw none at once)
acts_nowhere (e ∷ before) since split once = let more : [] ≡ before ++ Begun 1 receive ∷ since = cc in no_more before (Begun 1 receive) since more

-- A receive that ends and has not acted is refused.
ends_unacted : runs (Begun 1 receive ∷ Finished 1 receive PoppedNone ∷ []) → ⊥
ends_unacted k =
    let act = k.inside 1 receive PoppedNone (Begun 1 receive ∷ []) refl ([], refl) in acts_nowhere act.before act.since act.is act.once

-- a receive acts twice, and then stops
abbrev twice : List (Event ℕ)
twice = Acted 1 receive PoppedNone ∷ Acted 1 receive PoppedNone ∷ []

-- A receive that acts twice is refused.
acts_twice : runs (Begun 1 receive ∷ twice) → ⊥
acts_twice k = ⊎_elim (λ none. cc) (λ one. cc (one.1)) (k.once 1 receive [] twice [] refl tt)

-- ---- the queues

-- a receive answers an index that nobody has sent
invents : runs (Acted 1 receive (PoppedIndex 0) ∷ []) → ⊥
invents k = cc (k.list)

-- an index is sent, and waits in no cell
sent_nowhere : runs (Published 0 (items.Index 0) ∷ []) → ⊥
sent_nowhere k = cc (k.sent)

-- an index is given back, and waits in no cell
returned_nowhere : runs (Returned 1 0 ∷ []) → ⊥
returned_nowhere k = cc (k.returned)
