-- The definitions of the loan channel at worked runs.
use Rattle.model.proofs.Names.{Acted, BadIndex, Begin, Begun, Claimed, Die, Died, Each, Event, Finished, Freed}
use Rattle.model.proofs.Names.{HandedOut, List, Next, None, Number, Option, OwnerIsDead, OwnerLives, PoppedIndex}
use Rattle.model.proofs.Names.{PoppedNone, Published, Refusal, Some, Start, Trace, Turn, [], arith, refl, refusal_of}
use Rattle.model.proofs.Names.{run, ℕ, ◌++◌, ◌∷◌, ◌≡◌}
use Rattle.steps.specs.declared.loan.places.Place.TheVariants as places
use Rattle.model.specs.declared.event.Answer.TheVariants.{Index}
use Rattle.model.specs.declared.event.Item.TheVariants as items
use Rattle.model.specs.declared.event.Start.TheVariants as starts
use Rattle.model.specs.declared.families.loan.LoanStart.TheVariants.{Loan, Send, Receive, GiveBack, Reclaim}
use Rattle.model.specs.declared.turn.Refusal.TheVariants.{NoParty, NoRole, NotHeld}
use Rattle.model.specs.declared.turn.Shape.TheVariants as shapes
use Rattle.model.specs.Families.Loan.Promises.{LivesRight}
use Rattle.model.specs.Families.Loan.Reading.{Free, Passing, With, spot_of, place_of, receiver_of}
use Rattle.model.specs.World.{opening_as}
use Rattle.model.proofs.Readings.{AreRight, Each-append, Each-nil}
use Rattle.model.proofs.Runs.{two_words, begins, nexts}

abbrev loan : Start ℕ
loan = starts.Loan Loan

abbrev send : ℕ → Start ℕ
send index = starts.Loan (Send index)

abbrev receive : Start ℕ
receive = starts.Loan Receive

abbrev give_back : ℕ → Start ℕ
give_back index = starts.Loan (GiveBack index)

abbrev reclaim : Start ℕ
reclaim = starts.Loan Reclaim

-- two slots, a submission queue of capacity 1, and three parties
abbrev ran_on : List (Turn ℕ) → Trace ℕ
ran_on turns = run turns (opening_as two_words (shapes.Loan 2 1) 3)

-- ---- the opening: head, next indices and flags; and the positions, roles and cells of both queues

-- At the opening, a loan channel of two slots with a submission queue of capacity 1 has these words.
pub opening_words : (ran_on []).world.words
    ≡ 0 ∷ 1 ∷ 2 ∷ 0 ∷ 0 ∷ 0 ∷ 1 ∷ 1 ∷ 0 ∷ 0 ∷ 0 ∷ 0 ∷ 1 ∷ 1 ∷ 0 ∷ 0 ∷ []
opening_words = refl

-- ---- a full queue hands the oldest index back, and the receiver dies with the other one

-- The sender, party 0, loans an index and sends it, and loans a second one. Its send of this one has published the index, in a
-- queue of capacity 1, which is full.
abbrev stopped : List (Turn ℕ)
stopped = begins 0 loan 4 ++ begins 0 (send 0) 4 ++ begins 0 loan 4 ++ begins 0 (send 1) 4

-- The events of `stopped`.
abbrev stopped_told : List (Event ℕ)
stopped_told =
    Begun 0 loan
    ∷ Claimed 0 0
    ∷ Finished 0 loan (Index 0)
    ∷ Begun 0 (send 0)
    ∷ Published 0 (items.Index 0)
    ∷ Acted 0 (send 0) PoppedNone
    ∷ Finished 0 (send 0) PoppedNone
    ∷ Begun 0 loan
    ∷ Claimed 0 1
    ∷ Finished 0 loan (Index 1)
    ∷ Begun 0 (send 1)
    ∷ Published 0 (items.Index 1)
    ∷ []

-- The second send goes on to its end.
abbrev sent : List (Turn ℕ)
sent = stopped ++ nexts 0 6

-- The events by which the second send hands the oldest index back and frees it.
abbrev handed_back : List (Event ℕ)
handed_back =
    HandedOut 0 (items.Index 0)
    ∷ Acted 0 (send 1) (PoppedIndex 0)
    ∷ Freed 0 0
    ∷ Finished 0 (send 1) (PoppedIndex 0)
    ∷ []

-- After `sent` party 1 receives an index, the sender loans the other, party 1 dies, and the sender reclaims.
abbrev reclaimed : List (Turn ℕ)
reclaimed = sent ++ (begins 1 receive 4 ++ (begins 0 loan 4 ++ (Die 1 ∷ begins 0 reclaim 8)))

-- the second send hands back the index of the first, which is freed
pub sent_events : (ran_on sent).events
    ≡ stopped_told
    ++ handed_back
sent_events = refl

-- the sender reclaims the index that the dead receiver held
pub reclaimed_events : (ran_on reclaimed).events
    ≡ stopped_told
    ++ handed_back
    ++ Begun 1 receive
    ∷ HandedOut 1 (items.Index 1)
    ∷ Acted 1 receive (PoppedIndex 1)
    ∷ Finished 1 receive (PoppedIndex 1)
    ∷ Begun 0 loan
    ∷ Claimed 0 0
    ∷ Finished 0 loan (Index 0)
    ∷ Died 1
    ∷ Begun 0 reclaim
    ∷ Freed 0 1
    ∷ Finished 0 reclaim (Number 1)
    ∷ []
reclaimed_events = refl

-- ---- where the indices are, by the events and by what is kept

-- After the receive index 0 is free, and index 1 is with the receiver, party 1.
pub places_before : (spot_of 0 (ran_on (sent ++ begins 1 receive 4)).events ≡ Free)
    × (spot_of 1 (ran_on (sent ++ begins 1 receive 4)).events ≡ With 1)
places_before = (refl, refl)

-- After the reclaim index 0 is with the sender, index 1 is free, and party 2 is the receiver.
pub places_after : (spot_of 0 (ran_on reclaimed).events ≡ With 0)
    × (spot_of 1 (ran_on reclaimed).events ≡ Free)
    × (receiver_of (ran_on reclaimed).events ≡ 2)
places_after = (refl, refl, refl)

-- the sender's table says Loaned until an index is published, and Sent until it is free, in passing too
abbrev sending : Trace ℕ
sending = ran_on (begins 0 loan 4 ++ begins 0 (send 0) 2)

-- The receiver has begun to give back the index that it has received.
abbrev giving_back : Trace ℕ
giving_back = ran_on (sent ++ (begins 1 receive 4 ++ begins 1 (give_back 1) 1))

-- While index 0 is being sent the sender's table still calls it Loaned.
pub table_of_a_send : (spot_of 0 sending.events ≡ Passing 0) × (place_of 0 sending.events ≡ places.Loaned)
table_of_a_send = (refl, refl)

-- While an index is being given back the sender's table still calls it Sent, and after the reclaim Free.
pub table_of_a_give_back : (spot_of 1 giving_back.events ≡ Passing 1)
    × (place_of 1 giving_back.events ≡ places.Sent)
    × (place_of 1 (ran_on reclaimed).events ≡ places.Free)
table_of_a_give_back = (refl, refl, refl)

-- ---- refusals, in their order

-- Why `turn` is refused after `turns`, if it is.
abbrev refused_after : List (Turn ℕ) → Turn ℕ → Option Refusal
refused_after turns turn = refusal_of (ran_on turns).world turn

-- A begin is refused that names an index which the channel or the party does not have, or is of
-- the wrong role.
pub of_an_index : (refused_after sent (Begin 1 (send 2)) ≡ Some BadIndex)
    × (refused_after sent (Begin 1 (send 1)) ≡ Some NoRole)
    × (refused_after sent (Begin 0 (send 1)) ≡ Some NotHeld)
    × (refused_after sent (Begin 1 (give_back 1)) ≡ Some NotHeld)
of_an_index = (refl, refl, refl, refl)

-- A reclaim is refused to the receiver, and to the sender while the receiver lives, but not once
-- the receiver has died.
pub of_a_reclaim : (refused_after sent (Begin 1 reclaim) ≡ Some NoRole)
    × (refused_after sent (Begin 0 reclaim) ≡ Some OwnerLives)
    × (refused_after (sent ++ Die 1 ∷ []) (Begin 0 reclaim) ≡ None)
of_a_reclaim = (refl, refl, refl)

-- a turn of a party that has died is refused, and so are a death of no party and a call without a role
pub of_the_dead : (refused_after (sent ++ Die 1 ∷ []) (Begin 1 receive) ≡ Some OwnerIsDead)
    × (refused_after (sent ++ (Begin 1 receive ∷ Die 1 ∷ [])) (Next 1) ≡ Some OwnerIsDead)
    × (refused_after (sent ++ Die 1 ∷ []) (Die 1) ≡ Some OwnerIsDead)
    × (refused_after sent (Die 3) ≡ Some NoParty)
    × (refused_after reclaimed (Begin 1 receive) ≡ Some NoRole)
of_the_dead = (refl, refl, refl, refl, refl)

-- ---- the dead do nothing more

reclaimed_lives : AreRight LivesRight [] (ran_on reclaimed).events
reclaimed_lives = grind arith

-- In the run `reclaimed` no party does anything after its death.
pub no_dead_goes_on : Each LivesRight (ran_on reclaimed).events
no_dead_goes_on = Each-append LivesRight [] (ran_on reclaimed).events (Each-nil LivesRight) reclaimed_lives

-- The receiver dies within a receive.
abbrev died : List (Event ℕ)
died = (ran_on (sent ++ (Begin 1 receive ∷ Die 1 ∷ []))).events

-- It is refused that party 1, which is dead, begins a call.
pub no_begin_of_the_dead : LivesRight died (Begun 1 receive) → ⊥
no_begin_of_the_dead right = cc

-- It is refused that party 1, which is dead, is handed an index.
pub no_index_of_the_dead : LivesRight died (HandedOut 1 (items.Index 1)) → ⊥
no_index_of_the_dead right = cc

-- It is refused that a call of party 1, which is dead, ends.
pub no_end_of_the_dead : LivesRight died (Finished 1 receive PoppedNone) → ⊥
no_end_of_the_dead right = cc

-- It is refused that a call of party 1, which is dead, acts.
pub no_act_of_the_dead : LivesRight died (Acted 1 receive PoppedNone) → ⊥
no_act_of_the_dead right = cc

-- It is refused that party 1, which is dead, dies again.
pub no_second_death : LivesRight died (Died 1) → ⊥
no_second_death right = cc

-- A run is refused in which party 1 begins a call after its death.
pub no_dead_in_a_run : Each LivesRight (died ++ Begun 1 receive ∷ []) → ⊥
no_dead_in_a_run lives = no_begin_of_the_dead (lives died [] (Begun 1 receive) refl)

-- It is refused that the sender begins a reclaim while the receiver lives.
pub no_reclaim_from_the_living : LivesRight (ran_on sent).events (Begun 0 reclaim) → ⊥
no_reclaim_from_the_living right = let dead = right.1 in cc

-- A send that has stopped in a full queue acts as a receive makes room, by handing the oldest index out, though the sender is dead.
pub send_of_the_dead_acts : (ran_on (stopped ++ (Die 0 ∷ begins 1 receive 4))).events
    ≡ stopped_told
    ++ Died 0
    ∷ Begun 1 receive
    ∷ HandedOut 1 (items.Index 0)
    ∷ Acted 1 receive (PoppedIndex 0)
    ∷ Acted 0 (send 1) PoppedNone
    ∷ Finished 1 receive (PoppedIndex 0)
    ∷ []
send_of_the_dead_acts = refl
