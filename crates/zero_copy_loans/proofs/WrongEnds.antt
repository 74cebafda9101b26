-- What a wrong body of a call at one end of a channel would leave or answer, and which of the call's clauses refuses that: the clause
-- is the last hypothesis of a lemma, which it contradicts. A name says what the body does.
use Rattle.std.proofs.Common.{◌≡◌, ◌≢◌, ⊎_elim, ℕ, ◌+◌, ◌-◌, ◌*◌, ◌^◌, ◌%◌, ◌<◌, Some, None, List, [], ◌∷◌, ◌++◌}
use Rattle.std.proofs.Common.{true≢false, length, length-append, sym, ap, subst, ◌∙◌, arith}
use Rattle.std.specs.Prelude.{is_some}
use Rattle.counted_slot.specs.Counting.{readers}
use Rattle.model.specs.declared.event.Event.{Event}
use Rattle.model.specs.Families.Queues.Reading.{published}
use Rattle.history.specs.History.{IsBeginning}
use Rattle.history.specs.declared.view.View.{View}
use Rattle.lock_free_loans.specs.Loan.Sender.{IsLoaned}
use Rattle.threaded.specs.declared.share.Share.{Share}
use Rattle.zero_copy_loans.specs.declared.channel.Channel.{Channel}
use Rattle.zero_copy_loans.specs.declared.error.LoanFailure.TheVariants.{NoValue, StillRead}
use Rattle.zero_copy_loans.specs.declared.error.PoolFailure.TheVariants.{InUse}
use Rattle.zero_copy_loans.specs.declared.error.ReadFailure.TheVariants.{Other, Slot}
use Rattle.zero_copy_loans.specs.declared.pool.Buffer.{Buffer}
use Rattle.zero_copy_loans.specs.declared.pool.Lender.{Lender}
use Rattle.zero_copy_loans.specs.declared.receiver.Receiver.{Receiver}
use Rattle.zero_copy_loans.specs.declared.receiver.ReceiverParts.{ReceiverParts}
use Rattle.zero_copy_loans.specs.declared.receiver.Sample.{Sample}
use Rattle.zero_copy_loans.specs.declared.sender.Back.{Back}
use Rattle.zero_copy_loans.specs.declared.sender.Sender.{Sender}
use Rattle.zero_copy_loans.specs.declared.sender.SenderParts.{SenderParts}
use Rattle.zero_copy_loans.specs.Channels.{next_in, HasOpened, HasRejoined}
use Rattle.zero_copy_loans.specs.Ends.{layout_in, layout_of, next_of, number_of, places_in, received, receives_queue, receives_view, returns_view, sender_of}
use Rattle.zero_copy_loans.specs.Ends.{sends_queue, sends_view, spares_in, word_next, HandsBack, HasReceived, HasSent, HasWord, IsRefused, IsUnread}
use Rattle.zero_copy_loans.specs.Ends.{ReceivedNone, TookNoneBack, TriedToReceive}
use Rattle.zero_copy_loans.specs.Pools.{places_lent, share_lent, IsNotLaid, IsRefusedBuffer, KeepsShare}
use Rattle.zero_copy_slots.specs.declared.error.ReadFailure.TheVariants as reads
use Rattle.zero_copy_slots.specs.declared.error.TakeFailure.{TakeFailure}
use Rattle.zero_copy_slots.specs.declared.error.TakeFailure.TheVariants as takes
use Rattle.zero_copy_slots.specs.declared.Keeps.{Ghosts}
use Rattle.zero_copy_slots.specs.declared.words.Seen.{Seen}
use Rattle.zero_copy_slots.specs.Slots.{slots_in, written_by}
use Rattle.zero_copy_slots.specs.Words.{seen_in, seen_word}

-- what was seen is no beginning of what stands before one of its own events
pub no_more : {T : Type 0} (before after seen : List (Event T)) (event : Event T) → seen ≡ before ++ event ∷ after → IsBeginning seen before → ⊥
no_more before after seen event is since =
    let a = ap length is in
    let b = length-append before (event ∷ after) in
    let c = ap length since.is in
    let d = length-append seen since.rest in
    absurd (omega arith)

-- what a view that stayed has seen
pub same_seen : {T : Type 0} (old new : View T) → new ≡ old → new.seen ≡ old.seen
same_seen old new same = ap (λ v. v.seen) same

module _ {X K : Type 0} {rule : Ghosts K X} where
  -- ---- the sender

  module _ (old new : Sender X K rule) where
    -- `loan` answers that no value is left to write where one is
    pub loan_finds_no_value : (more : ℕ) → spares_in old ≡ 1 + more → IsRefused old new NoValue → ⊥
    loan_finds_no_value more some k = (let none = k.0 in absurd (omega arith))

    -- `loan` answers that a place is still read, and looks at no word: that there is no such slot, where there is one
    pub loan_refuses_without_a_look : (place : ℕ) → place < slots_in (written_by old.writer) → IsRefused old new (StillRead place takes.NoSlot) → ⊥
    loan_refuses_without_a_look place within k = (let past = k.2 in absurd (omega arith))

    -- `loan` answers that a place is still read whose word says that nobody reads or writes it
    pub loan_refuses_a_free_place : (place : ℕ) (seen : Seen) → seen_word seen % 4 ≢ 3 → readers (seen_word seen) ≡ 0
        → IsRefused old new (StillRead place (takes.InUse seen))
        → ⊥
    loan_refuses_a_free_place place seen unwritten unread k = ⊎_elim unwritten (λ read. read unread) k.2.1

    -- `send` hands a value back that could be sent, and pushes nothing
    pub send_hands_back_without_a_push : (place : ℕ) (back : Back) → sends_view new ≡ sends_view old → 0 < (sends_queue old).capacity
        → length (published (sends_view new).seen) < 2 ^ 64 - 1
        → HasWord old place
        → IsLoaned place (sender_of old)
        → HandsBack place back old new
        → ⊥
    send_hands_back_without_a_push place back same room few has loaned k =
        ⊎_elim (λ pushed. ⊎_elim (λ replaced. no_more replaced.1.before replaced.1.after _ _
        (sym (same_seen _ _ same) ∙ replaced.1.is) replaced.1.since)
        (λ none. ⊎_elim (λ taken. absurd (omega (arith, taken.0, room))) (λ end. (let all = end.end in absurd (omega arith))) none.1)
        pushed.1)
        (⊎_elim (λ unsent. ⊎_elim (λ past. absurd (omega (arith, past, has.0))) (λ past. absurd (omega (arith, past, has.1))) unsent.0)
        (λ foreign. foreign.0 loaned))
        k

    -- `send_each` answers that all are sent, and uses no number up
    pub send_each_sends_nothing : (more : ℕ) (back : List ℕ) → next_of new ≡ next_of old → HasSent (1 + more) back old new → ⊥
    send_each_sends_nothing more back same k = (let counted = k.next in absurd (omega arith))

  -- ---- the receiver

  module _ (old new : Receiver X K rule) where
    -- `receive` answers that nothing waits, and pops nothing
    pub receive_finds_none_without_a_pop : receives_view new ≡ receives_view old → 0 < (receives_queue old).capacity → ReceivedNone old new → ⊥
    receive_finds_none_without_a_pop same room k =
        ⊎_elim (λ found. no_more found.1.before found.1.after _ _ (sym (same_seen _ _ same) ∙ found.1.is) found.1.since)
        (⊎_elim (λ none. absurd (omega (arith, none.0, room)))
        (λ other. no_more other.2.1.before other.2.1.after _ _ (sym (same_seen _ _ same) ∙ other.2.1.is) other.2.1.since))
        k

    -- `receive_within` answers that a try found nothing, and pops nothing
    pub receive_within_does_not_try : receives_view new ≡ receives_view old → 0 < (receives_queue old).capacity → TriedToReceive 1 old new → ⊥
    receive_within_does_not_try same room ([], none, still) = absurd (omega (arith, none))
    receive_within_does_not_try same room (last ∷ [], one, each) =
        receive_finds_none_without_a_pop same room (subst (λ r. ReceivedNone r new) each.0 each.1)
    receive_within_does_not_try same room (last ∷ other ∷ more, two, each) = absurd (omega (arith, two))

    -- `receive_within` goes on at another queue
    pub receive_changes_the_queue : (numbers : List ℕ) → receives_queue new ≢ receives_queue old → HasReceived numbers old new → ⊥
    receive_changes_the_queue numbers differs k = differs k.same.0

    -- `give_back` answers that the queue is full, and pushes nothing
    pub give_back_asks_nobody : (place : ℕ) → returns_view new ≡ returns_view old → length (published (returns_view new).seen) < 2 ^ 64 - 1
        → TookNoneBack place old new
        → ⊥
    give_back_asks_nobody place same few k =
        ⊎_elim (λ full. no_more full.1.before full.1.after _ _ (sym (same_seen _ _ same) ∙ full.1.is) full.1.since)
        (λ end. (let all = end.end in absurd (omega arith)))
        k

  -- `read` answers that the value has another number, and it has the sample's
  pub read_refuses_its_number : (r : Receiver X K rule) (sample : Sample) (number : ℕ) → number ≡ number_of sample → IsUnread r sample (Other number) → ⊥
  read_refuses_its_number r sample number same k = k same

  -- `read` looks at another slot than the sample's
  pub read_looks_elsewhere : (r : Receiver X K rule) (sample : Sample) (seen : Seen) → seen_in seen ≢ received sample
      → IsUnread r sample (Slot (reads.NotThere seen))
      → ⊥
  read_looks_elsewhere r sample seen differs k = differs k.0

  -- ---- a channel

  module _ (old new : Channel X K rule) (sends : SenderParts) (receives : ReceiverParts) where
    -- `open` lets the numbers begin anew
    pub open_begins_anew : (more : ℕ) → next_in old ≡ 1 + more → sends.next ≡ 0 → HasOpened old new sends receives → ⊥
    open_begins_anew more some none k = (let goes_on = k.next in absurd (omega arith))

    -- `relayed` forgets how far the numbers came
    pub relayed_forgets_the_numbers : next_in new ≢ sends.next → HasRejoined old new sends receives → ⊥
    relayed_forgets_the_numbers differs k = differs k.next

  -- ---- the pool

  -- `acquire` answers that a slot is in use whose word says that nobody reads or writes it
  pub acquire_refuses_a_free_slot : (l : Lender X K rule) (seen : Seen) → seen_word seen % 4 ≢ 3 → readers (seen_word seen) ≡ 0
      → IsRefusedBuffer l (InUse (takes.InUse seen))
      → ⊥
  acquire_refuses_a_free_slot l seen unwritten unread k = ⊎_elim unwritten (λ read. read unread) k.2.1

  -- `acquire` drops the half of its pass that the set handed back
  pub acquire_drops_a_pass : (old new : Lender X K rule) → (share_lent old).part ≡ 1 → (share_lent old).parts ≡ 1 → (share_lent new).part ≡ 1
      → (share_lent new).parts ≡ 2
      → KeepsShare old new
      → ⊥
  acquire_drops_a_pass old new part parts half halves k =
      let same : 1 * 1 ≡ 1 * 2 = (λ i. sym half i * sym parts i) ∙ (k ∙ (λ i. part i * halves i)) in
      absurd (omega (arith, same))

  -- `give_back` hands a value back where there was none
  pub give_back_makes_a_value : (b : Buffer X K rule) (back : X × TakeFailure) → b.value ≡ None → IsNotLaid b back → ⊥
  give_back_makes_a_value b back none k = true≢false (sym (ap is_some k.0) ∙ ap is_some none)
