-- What a wrong body of a call that tries more than once would leave or answer, and which of the call's
-- clauses refuses that. A lemma's name says what the body does.
use Rattle.std.proofs.Common.{◌≡◌, ◌≢◌, ℕ, ◌+◌, ◌%◌, ◌<◌, ◌≤◌, Some, List, [], ◌∷◌, ◌++◌, map, length, refl, sym, ap, ◌∙◌, inl, inr, arith}
use Rattle.std.proofs.Common.{append_assoc, length-append}
use Rattle.std.proofs.lemmas.List.{length-map, same_from_push}
use Rattle.std.specs.Int.{bit_at}
use Rattle.std.specs.Prelude.{slice_get, Contains, IfSome}
use Rattle.history.specs.History.{Called}
use Rattle.history.specs.declared.view.View.{View}
use Rattle.model.specs.declared.event.Answer.{Answer}
use Rattle.model.specs.declared.event.Answer.TheVariants.{PoppedIndex}
use Rattle.model.specs.declared.event.Event.{Event}
use Rattle.model.specs.declared.event.Event.TheVariants.{Begun, Finished}
use Rattle.model.specs.declared.event.Item.{Item}
use Rattle.model.specs.declared.event.Item.TheVariants.{Index}
use Rattle.model.specs.declared.event.Start.{Start}
use Rattle.model.specs.Families.Queues.Reading.{handed_out}
use Rattle.lock_free_queues.specs.Queues.Contracts.{PopOldest}
use Rattle.zero_copy_bus.specs.declared.loan.Loan.{Loan}
use Rattle.zero_copy_bus.specs.declared.outlet.Outlet.{Outlet}
use Rattle.zero_copy_bus.specs.declared.publisher.Publisher.{Publisher}
use Rattle.zero_copy_bus.specs.declared.subscriber.Sample.{Sample}
use Rattle.zero_copy_bus.specs.declared.subscriber.Subscriber.{Subscriber}
use Rattle.zero_copy_bus.specs.Books.{holders_at, HasSlot, IsLoaned}
use Rattle.zero_copy_bus.specs.Ends.{expected_at, lanes_of, layout_at, layout_of, loaned, next_of, number_of, received, set_in, spares_in, table_of, word_at}
use Rattle.zero_copy_bus.specs.Ends.{CanSendToAll, HasHad, HasTried, TookOut}
use Rattle.zero_copy_bus.specs.Holders.{bit_of}
use Rattle.zero_copy_bus.specs.Outlets.{holder_of, holders_in, open_in, takes_view}
use Rattle.zero_copy_bus.specs.Sequences.{Delivers, Rises}
use Rattle.zero_copy_bus.proofs.Words.{slot_in_word}
use Rattle.zero_copy_slots.specs.declared.Keeps.{Ghosts}

-- if two calls of the same kind are both the last call of one view, they have the same answer
pub same_answer : (p q : ℕ) (start : Start ℕ) (answer other : Answer ℕ) (wrote also : List (Event ℕ)) (u v w : View ℕ)
    → Called p start answer wrote u w
    → Called q start other also v w
    → answer ≡ other
same_answer p q start answer other wrote also u v w one two =
    let first : (u.made ++ Begun p start ∷ wrote) ++ Finished p start answer ∷ [] ≡ w.made =
    append_assoc u.made (Begun p start ∷ wrote) (Finished p start answer ∷ []) ∙ sym one.made in
    let second : (v.made ++ Begun q start ∷ also) ++ Finished q start other ∷ [] ≡ w.made =
    append_assoc v.made (Begun q start ∷ also) (Finished q start other ∷ []) ∙ sym two.made in
    let last : Finished p start answer ≡ Finished q start other =
    (same_from_push (u.made ++ Begun p start ∷ wrote) (v.made ++ Begun q start ∷ also) (Finished p start answer) (Finished q start other)
    (first ∙ sym second)).1 in
    cc

-- the last pop of a view took one word out
pub same_word : (word other : ℕ) (u v w : View ℕ) → PopOldest (Index word) u w → PopOldest (Index other) v w → word ≡ other
same_word word other u v w one two =
    let same : PoppedIndex word ≡ PoppedIndex other = same_answer one.0.by two.0.by _ _ _ _ _ u v w one.0.called two.0.called in
    cc

-- a list that nothing was appended to has got no number more
nothing_more : (items : List (Item ℕ)) (numbers : List ℕ) → items ++ map Index numbers ≡ items → (k : ℕ) → k < length numbers → ⊥
nothing_more items numbers same k lt =
    let back : List (Item ℕ) = map Index numbers in
    let many : length back ≡ length numbers = length-map numbers Index in
    let parts : length (items ++ back) ≡ length items + length back = length-append items back in
    let long : length (items ++ back) ≡ length items = ap length same in
    absurd (omega arith)

module _ {X K : Type 0} {rule : Ghosts K X} where
  -- ---- the subscriber

  -- `receive_waiting` returns the record that was popped with another slot
  pub receive_waiting_gives_another_slot : (sample other : Sample) (old new : Subscriber X K rule) → received sample < (layout_at old).room
      → received other < (layout_at old).room
      → received other ≢ received sample
      → TookOut sample old new
      → TookOut other old new
      → ⊥
  receive_waiting_gives_another_slot sample other old new within small differs took k =
      let room = (layout_at old).room in
      let same : word_at old other ≡ word_at old sample = same_word (word_at old other) (word_at old sample) k.0 took.0 _ k.1 took.1 in
      let its = slot_in_word room (number_of sample) (received sample) (word_at old sample) refl within in
      let given = slot_in_word room (number_of other) (received other) (word_at old other) refl small in
      differs (given ∙ (ap (λ word. word % room) same ∙ sym its))

  -- `receive_within` returns the record that was popped with another slot
  pub receive_within_gives_another_slot : (sample other : Sample) (old new : Subscriber X K rule) → received sample < (layout_at old).room
      → received other < (layout_at old).room
      → received other ≢ received sample
      → TookOut sample old new
      → IfSome (Some other) (λ s. TookOut s old new)
      → ⊥
  receive_within_gives_another_slot sample other old new within small differs took k =
      receive_waiting_gives_another_slot sample other old new within small differs took k

  -- `receive_waiting` drops a record that came, and returns the next one
  pub receive_waiting_drops_a_record : (first second : ℕ) (old new : Subscriber X K rule) → expected_at old ≤ first → first ≢ second
      → HasHad (first ∷ second ∷ []) (second ∷ []) old new
      → ⊥
  receive_waiting_drops_a_record first second old new due differs k = go k.delivers
    where
      go : Delivers (expected_at old) (first ∷ second ∷ []) (second ∷ []) (expected_at new) → ⊥
      go (inl older) = let less = older.0 in absurd (omega arith)
      go (inr given) = let is : second ∷ [] ≡ first ∷ given.1 = given.2 in differs (let same : first ≡ second = cc in same)

  -- `receive_within` drops a record that came, and returns None
  pub receive_within_drops_a_record : (number : ℕ) (old new : Subscriber X K rule) → expected_at old ≤ number → HasHad (number ∷ []) [] old new → ⊥
  receive_within_drops_a_record number old new due k = go k.delivers
    where
      go : Delivers (expected_at old) (number ∷ []) [] (expected_at new) → ⊥
      go (inl older) = let less = older.0 in absurd (omega arith)
      go (inr given) = let is : [] ≡ number ∷ given.1 = given.2 in absurd (cc)

  -- `receive_waiting` returns the record again that it returned last
  pub receive_waiting_gives_one_twice : (sample : Sample) (old new : Subscriber X K rule) → expected_at old ≡ number_of sample + 1
      → Rises (expected_at old) (number_of sample ∷ []) (expected_at new)
      → ⊥
  receive_waiting_gives_one_twice sample old new had k = let due = k.0 in absurd (omega arith)

  -- `receive_waiting` does not move on, so that a later call could return the record again
  pub receive_waiting_forgets_what_it_gave : (sample : Sample) (old new : Subscriber X K rule) → expected_at new ≡ expected_at old
      → Rises (expected_at old) (number_of sample ∷ []) (expected_at new)
      → ⊥
  receive_waiting_forgets_what_it_gave sample old new same k =
      let due = k.0 in
      let next : expected_at new ≡ number_of sample + 1 = k.1 in
      absurd (omega arith)

  -- ---- the publisher

  -- `loan_waiting` loans a slot that was on loan before
  pub loan_waiting_loans_a_slot_twice : (loan : Loan X K) (old : Publisher X K rule) → IsLoaned (table_of old) (loaned loan)
      → ¬ IsLoaned (table_of old) (loaned loan)
      → ⊥
  loan_waiting_loans_a_slot_twice loan old on k = k on

  -- `loan_waiting` loans a slot that a subscriber holds
  pub loan_waiting_loans_what_one_has : (loan : Loan X K) (new : Publisher X K rule) (place : ℕ) (lane : Outlet)
      → slice_get (lanes_of new) place ≡ Some lane → HasSlot (table_of new) (loaned loan) (holder_of lane)
      → CanSendToAll new (loaned loan)
      → ⊥
  loan_waiting_loans_what_one_has loan new place lane there has k = (k place lane there).1 has

  -- `loan_waiting` uses up two records for one loan
  pub loan_waiting_uses_up_two_records : (old new : Publisher X K rule) → spares_in new + 2 ≡ spares_in old → spares_in new + 1 ≡ spares_in old → ⊥
  loan_waiting_uses_up_two_records old new fewer k = absurd (omega arith)

  -- `loan_within` uses up a record although it returns no loan
  pub loan_within_uses_up_a_record : (old new : Publisher X K rule) → spares_in new + 1 ≡ spares_in old → spares_in new ≡ spares_in old → ⊥
  loan_within_uses_up_a_record old new fewer k = absurd (omega arith)

  module _ (old new : Publisher X K rule) (k : HasTried old new) where
    -- `loan_waiting` takes back a slot that is on loan
    pub loan_waiting_forgets_a_loan : (slot : ℕ) → IsLoaned (table_of old) slot → ¬ IsLoaned (table_of new) slot → ⊥
    loan_waiting_forgets_a_loan slot on off = off (k.loans slot on)

    -- `loan_waiting` gives a subscriber a slot that it did not hold
    pub loan_waiting_gives_a_slot_to_one : (slot i : ℕ) → 0 < i → i < 64 → bit_at (holders_at (table_of old) slot).bits i ≢ 1
        → bit_at (holders_at (table_of new) slot).bits i ≡ 1
        → ⊥
    loan_waiting_gives_a_slot_to_one slot i some small lacks has = lacks (k.gains slot i some small has)

    -- `loan_waiting` sends a record by a lane
    pub loan_waiting_sends : (place : ℕ) (lane after : Outlet) → slice_get (lanes_of old) place ≡ Some lane
        → slice_get (lanes_of new) place ≡ Some after → after.sends ≢ lane.sends
        → ⊥
    loan_waiting_sends place lane after was is differs =
        let it = k.back place lane was in
        let same : it.0 ≡ after = (let both : Some it.0 ≡ Some after = sym it.1 ∙ is in cc) in
        differs (sym (ap (λ (o : Outlet). o.sends) same) ∙ it.2.passes.sends)

    -- `loan_waiting` takes a slot from a subscriber that has not given it back
    pub loan_waiting_takes_what_one_has : (slot place : ℕ) (lane after : Outlet) → slice_get (lanes_of old) place ≡ Some lane
        → slice_get (lanes_of new) place ≡ Some after
        → handed_out (takes_view after).seen ≡ handed_out (takes_view lane).seen
        → HasSlot (table_of old) slot (holder_of lane)
        → ¬ HasSlot (table_of new) slot (holder_of lane)
        → ⊥
    loan_waiting_takes_what_one_has slot place lane after was is none had lost =
        let it = k.back place lane was in
        let same : it.0 ≡ after = (let both : Some it.0 ≡ Some after = sym it.1 ∙ is in cc) in
        let all : handed_out (takes_view after).seen ≡ handed_out (takes_view lane).seen ++ map Index it.2.numbers =
        sym (ap (λ (o : Outlet). handed_out (takes_view o).seen) same) ∙ it.2.taken in
        lost
        ((it.2.has slot).1
        (had, λ (c : Contains it.2.numbers slot). nothing_more (handed_out (takes_view lane).seen) it.2.numbers (sym all ∙ none) c.0 c.1))

    -- `loan_waiting` keeps a slot on loan that a subscriber holds
    pub loan_waiting_keeps_what_one_has : (slot : ℕ) (lane : Outlet) → IsLoaned (table_of new) slot → ¬ IsLoaned (table_of old) slot
        → HasSlot (table_of new) slot (holder_of lane)
        → ⊥
    loan_waiting_keeps_what_one_has slot lane on off has = k.alone slot (bit_of (holder_of lane)) on off lane.subscribes lane.holder.within has

    -- `loan_waiting` uses a number up
    pub loan_waiting_uses_a_number : next_of new ≡ next_of old + 1 → ⊥
    loan_waiting_uses_a_number more = let same = k.next in absurd (omega arith)

    -- `loan_waiting` changes which lanes take part
    pub loan_waiting_looks_who_takes_part : open_in (lanes_of new) ≢ open_in (lanes_of old) → ⊥
    loan_waiting_looks_who_takes_part differs = differs k.taking

    -- `loan_waiting` takes a slot of another set
    pub loan_waiting_takes_from_another_set : set_in new ≢ set_in old → ⊥
    loan_waiting_takes_from_another_set differs = differs k.same.pool.set

    -- `loan_waiting` changes a lane's holder
    pub loan_waiting_names_a_lane_anew : holders_in (lanes_of new) ≢ holders_in (lanes_of old) → ⊥
    loan_waiting_names_a_lane_anew differs = differs k.same.lanes

    -- `loan_waiting` changes how words are made
    pub loan_waiting_changes_the_words : layout_of new ≢ layout_of old → ⊥
    loan_waiting_changes_the_words differs = differs k.same.layout
