-- What a wrong body of a subscriber's call would leave or answer, and which of the call's clauses refuses
-- that. A lemma's name says what the body does.
use Rattle.std.proofs.Common.{◌≡◌, ◌≢◌, ℕ, ◌<◌, Some, [], sym, ◌∙◌, arith}
use Rattle.steps.specs.declared.container.enums.ContainerRemoveError.{ContainerRemoveError}
use Rattle.history.specs.declared.view.View.{View}
use Rattle.lock_free_owners.specs.Robust.Contracts.{WasFreed}
use Rattle.zero_copy_bus.specs.declared.subscriber.Sample.{Sample}
use Rattle.zero_copy_bus.specs.declared.subscriber.Seat.{Seat}
use Rattle.zero_copy_bus.specs.declared.subscriber.Subscriber.{Subscriber}
use Rattle.zero_copy_bus.specs.Ends.{expected_at, first_before, inlet_at, layout_at, members_view, number_of, numbers_of, place_at, received, slots_at}
use Rattle.zero_copy_bus.specs.Ends.{IsAgain, WasKept}
use Rattle.zero_copy_bus.specs.Sequences.{Rises}
use Rattle.zero_copy_slots.specs.declared.Keeps.{Ghosts}
use Rattle.zero_copy_slots.specs.declared.Reading.{Reading}
use Rattle.zero_copy_slots.specs.Slots.{number_in, slot_in}
use Rattle.zero_copy_loans.proofs.WrongEnds.{no_more}

-- `receive` returns a record whose number is below the one expected
pub receive_takes_older_numbers : (from next : ℕ) (sample : Sample) → number_of sample < from → Rises from (numbers_of (Some sample)) next → ⊥
receive_takes_older_numbers from next sample older k = let first = k.0 in absurd (omega arith)

module _ {X K : Type 0} where
  -- `read` reads what lies in another slot than the sample's
  pub read_takes_another_slot : (reading : Reading X K) (sample : Sample) (other : ℕ) → other ≢ received sample → slot_in reading ≡ other
      → (number_in reading ≡ number_of sample) × (slot_in reading ≡ received sample)
      → ⊥
  read_takes_another_slot reading sample other differs is k = differs (sym is ∙ k.1)

  -- `read` reads a record that lies in the slot with a later number
  pub read_takes_later_numbers : (reading : Reading X K) (sample : Sample) → number_of sample < number_in reading
      → (number_in reading ≡ number_of sample) × (slot_in reading ≡ received sample)
      → ⊥
  read_takes_later_numbers reading sample later k = let same = k.0 in absurd (omega arith)

module _ {X K : Type 0} {rule : Ghosts K X} where
  -- a refused `join` gives a seat back with the first number 0, so that a later `join` would
  -- receive older records
  pub join_loses_the_first_number : (old new : Seat X K rule) → 0 < first_before old → first_before new ≡ 0 → first_before new ≡ first_before old → ⊥
  join_loses_the_first_number old new some none k = absurd (omega arith)

  -- `leave` answers that the registry kept the record, without a call of the registry
  pub leave_asks_nobody : (failure : ContainerRemoveError) (old new : Subscriber X K rule) → (members_view new).seen ≡ (members_view old).seen
      → WasKept old new failure
      → ⊥
  leave_asks_nobody failure old new same k = no_more k.before [] (members_view old).seen _ (sym same ∙ k.is) k.since

  -- a refused `leave` gives a subscriber back with another end of a lane
  pub leave_forgets_its_lane : (old new : Subscriber X K rule) → inlet_at new ≢ inlet_at old → IsAgain old new → ⊥
  leave_forgets_its_lane old new differs k = differs k.inlet

  -- a refused `leave` gives a subscriber back that expects a lower number
  pub leave_forgets_what_came : (old new : Subscriber X K rule) → expected_at new < expected_at old → IsAgain old new → ⊥
  leave_forgets_what_came old new less k = let same = k.expected in absurd (omega arith)

  -- a refused `leave` gives a subscriber back with fewer slots, another layout or another place
  pub leave_forgets_a_slot : (old new : Subscriber X K rule) → slots_at new < slots_at old → IsAgain old new → ⊥
  leave_forgets_a_slot old new less k = let same = k.slots in absurd (omega arith)

  pub leave_changes_the_words : (old new : Subscriber X K rule) → layout_at new ≢ layout_at old → IsAgain old new → ⊥
  leave_changes_the_words old new differs k = differs k.layout

  pub leave_takes_another_place : (old new : Subscriber X K rule) → place_at new ≢ place_at old → IsAgain old new → ⊥
  leave_takes_another_place old new differs k = differs k.place

-- `leave` succeeds, and the record stays in the registry
pub leave_removes_nothing : (index owner : ℕ) (v : View ℕ) → WasFreed index owner v v → ⊥
leave_removes_nothing index owner v k = no_more k.before k.after v.seen _ k.is k.since
