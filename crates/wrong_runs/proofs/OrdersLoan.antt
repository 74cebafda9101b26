-- Wrong bodies of the loan channel: for each a run that it makes, and what refuses that.
use Rattle.std.proofs.Common.{⊎_elim, ℕ, List, [], ◌∷◌, ◌++◌, refl}
use Rattle.model.specs.declared.event.Answer.TheVariants.{Index, Number, PoppedNone, PoppedIndex}
use Rattle.model.specs.declared.event.Event.{Event}
use Rattle.model.specs.declared.event.Event.TheVariants.{Begun, Published, HandedOut, Claimed, Freed, Died, Acted, Finished}
use Rattle.model.specs.declared.event.Item.TheVariants as items
use Rattle.model.specs.declared.event.Start.{Start}
use Rattle.model.specs.declared.event.Start.TheVariants.{Loan}
use Rattle.model.specs.declared.families.Registry.TheVariants as registries
use Rattle.model.specs.declared.families.loan.LoanStart.TheVariants.{Send, Reclaim}
use Rattle.model.specs.declared.turn.Kind.TheVariants as kinds
use Rattle.model.specs.Families.Loan.Promises.{IsChannelOf}
use Rattle.model.specs.World.{Trace}
use Rattle.headline.specs.Headline.{ChannelRuns, IsLeftOver}
use Rattle.wrong_runs.proofs.Loan.{fresh, still, channel, loan}
use Rattle.wrong_runs.proofs.Machines.{machine}

abbrev send : ℕ → Start ℕ
send index = Loan (Send index)

abbrev reclaim : Start ℕ
reclaim = Loan Reclaim

-- the sender has loaned an index, and has sent it
abbrev loaned : ℕ → List (Event ℕ)
loaned index = Begun 0 loan ∷ Claimed 0 index ∷ Finished 0 loan (Index index) ∷ []

-- what a send of the index writes down
abbrev sent : ℕ → List (Event ℕ)
sent index =
    Begun 0 (send index)
    ∷ Published 0 (items.Index index)
    ∷ Acted 0 (send index) PoppedNone
    ∷ Finished 0 (send index) PoppedNone
    ∷ []

-- ---- send

-- a channel whose submission queue has the capacity 1
abbrev narrow : List (Event ℕ) → Trace ℕ
narrow events =
    machine kinds.Loan (0 ∷ 1 ∷ 2 ∷ 3 ∷ 2 ∷ 1 ∷ 1 ∷ 1 ∷ 0 ∷ 1 ∷ 0 ∷ 0 ∷ 1 ∷ 1 ∷ 0 ∷ 0 ∷ [])
    (registries.Loan (record fresh { queue = 1 })) events

-- A send finds no room for index 1 and takes index 0 out. It then frees the index that it has sent.
abbrev sends_over : List (Event ℕ)
sends_over =
    loaned 0
    ++ sent 0
    ++ loaned 1
    ++ Begun 0 (send 1)
    ∷ Published 0 (items.Index 1)
    ∷ HandedOut 0 (items.Index 0)
    ∷ Acted 0 (send 1) (PoppedIndex 0)
    ∷ []

-- The index that was sent is not left over, since no reclaim is under way.
not_left : IsLeftOver {T = ℕ} 0 1 sends_over → ⊥
not_left left = cc (left.reclaims)

-- A send that frees the index that it has sent, and not the one that it took out, is refused.
loan_send_releases_its_own : ChannelRuns 1 (narrow (sends_over ++ Freed 0 1 ∷ [])) → ⊥
loan_send_releases_its_own channel_runs = ⊎_elim (λ held. cc) not_left (channel_runs.freed 0 1 sends_over ([], refl))

-- ---- reclaim

-- the receiver dies, and a reclaim ends without having emptied the submission queue
abbrev reclaiming : List (Event ℕ)
reclaiming = loaned 0 ++ sent 0 ++ Died 1 ∷ Begun 0 reclaim ∷ []

-- A reclaim that ends while an index is still sent is refused.
loan_reclaim_leaves_the_queue_filled : IsChannelOf fresh (channel still (reclaiming ++ Finished 0 reclaim (Number 0) ∷ [])) → ⊥
loan_reclaim_leaves_the_queue_filled channel =
    ⊎_elim (λ free. cc) (λ held. cc) (channel.answers reclaiming [] (Finished 0 reclaim (Number 0)) refl 0)
