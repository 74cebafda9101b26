-- What a wrong body of a call would leave or answer, and which of the call's clauses refuses that: the clause
-- is the last hypothesis of a lemma, which it contradicts. A lemma's name says what the body does.
use Rattle.std.proofs.Common.{◌≡◌, ◌≢◌, ◌&&◌, ⊎_elim, inl, inr, ℕ, ◌+◌, ◌-◌, ◌/◌, ◌<◌, Option, Some, None, true, false, true≢false, List, [], ◌∷◌, ◌++◌}
use Rattle.std.proofs.Common.{length, length-append, ap, refl, sym, subst, ◌∙◌, arith}
use Rattle.std.proofs.lemmas.List.{append_cancel_left}
use Rattle.std.specs.Prelude.{is_some, slice_get, Bool, IsTrue}
use Rattle.model.specs.declared.event.Answer.{Answer}
use Rattle.model.specs.declared.event.Answer.TheVariants.{State, Truth}
use Rattle.model.specs.declared.event.Event.{Event}
use Rattle.model.specs.declared.event.Event.TheVariants.{Begun, Finished}
use Rattle.model.specs.declared.event.Item.TheVariants.{Index}
use Rattle.model.specs.declared.event.Start.{Start}
use Rattle.model.specs.declared.event.Start.TheVariants.{Container}
use Rattle.model.specs.declared.families.container.ContainerStart.TheVariants.{Recover, UpdateState}
use Rattle.model.specs.Families.Queues.Reading.{published}
use Rattle.steps.specs.declared.container.enums.ContainerAddFailure.{ContainerAddFailure}
use Rattle.steps.specs.declared.container.enums.ContainerRemoveError.{ContainerRemoveError}
use Rattle.steps.specs.declared.indices.enums.ReleaseMode.TheVariants.{Default}
use Rattle.history_owners.specs.ContainerRecovery.{wrote_visits}
use Rattle.history.specs.Held.{Holds}
use Rattle.history.specs.History.{Called}
use Rattle.history.specs.declared.view.View.{View}
use Rattle.lock_free_queues.specs.Queues.Overflowing.{HasOverflowed, PushAdded}
use Rattle.lock_free_queues.proofs.Queues.Sent.{length_named}
use Rattle.lock_free_owners.specs.Container.Resting.{SettledFrom}
use Rattle.lock_free_sets.specs.Unique.Held.{HoldsNothing}
use Rattle.zero_copy_bus.specs.declared.error.LoanFailure.TheVariants.{NoRecord}
use Rattle.zero_copy_bus.specs.declared.error.SubscribeFailure.TheVariants.{NoSeat, NotLetIn, NotSeen, NotRemoved}
use Rattle.zero_copy_bus.specs.declared.holders.Holders.{Holders}
use Rattle.zero_copy_bus.specs.declared.loan.Emptied.{Emptied}
use Rattle.zero_copy_bus.specs.declared.outlet.Outlet.{Outlet}
use Rattle.zero_copy_bus.specs.declared.publisher.Publisher.{Publisher}
use Rattle.zero_copy_bus.specs.declared.roll.Roll.{Roll}
use Rattle.zero_copy_bus.specs.declared.subscriber.Subscriber.{Subscriber}
use Rattle.zero_copy_bus.specs.Books.{AllFree, CanSend, KeepsSlots}
use Rattle.zero_copy_bus.specs.Ends.{emptied, lanes_of, members_before, members_left, members_view}
use Rattle.zero_copy_bus.specs.Ends.{place_at, place_before, place_left, received, record_of, roll_of}
use Rattle.zero_copy_bus.specs.Ends.{table_of, IsTakenFor, WasNotShown, WasNotSubscribed, WasSeated}
use Rattle.zero_copy_bus.specs.Holders.{bit_of}
use Rattle.zero_copy_bus.specs.Outlets.{holder_of, is_open, sends_view, waits_queue, waits_view, AreShown, FoundEmpty, HasPushed, IsFree, IsServed, IsSettled}
use Rattle.zero_copy_bus.specs.Outlets.{has_end, is_let, is_lost, lets, open_in, place_of, takes_view, EachLane, StaysOrLost}
use Rattle.zero_copy_bus.specs.Outlets.{WasDrained}
use Rattle.zero_copy_bus.specs.Relays.{HasHeard}
use Rattle.zero_copy_bus.specs.Rolls.{look_view, member_view, HasLooked, HasRecovered, IsShown}
use Rattle.zero_copy_bus.specs.Sequences.{AreAll}
use Rattle.zero_copy_bus.proofs.LaneLemmas.{same_holder}
use Rattle.zero_copy_bus.proofs.Words.{number_in_word}
use Rattle.zero_copy_loans.proofs.WrongEnds.{no_more}
use Rattle.zero_copy_loans.specs.Words.{word_of}
use Rattle.zero_copy_loans.specs.declared.words.Layout.{Layout}
use Rattle.zero_copy_slots.specs.declared.Keeps.{Ghosts}
use Rattle.zero_copy_slots.specs.declared.Slots.{Slots}
use Rattle.zero_copy_slots.specs.declared.Writing.{Writing}
use Rattle.zero_copy_slots.specs.Slots.{slot_of}

-- ---- the publisher

-- `drain` frees a lane without a pop that found the queue of waiting words empty
pub drain_leaves_what_waits : (old new : Outlet) → waits_view new ≡ waits_view old → 0 < (waits_queue old).capacity → FoundEmpty old new → ⊥
drain_leaves_what_waits old new same room k =
    let found = k.0 room in
    no_more found.before found.after _ _ (sym (ap (λ (v : View ℕ). v.seen) same) ∙ found.is) found.since

-- `update` frees a lane without a pop that found the queue of waiting words empty
pub update_leaves_what_waits : (roll : Roll) (before after : List Holders) (old new : Outlet) → waits_view new ≡ waits_view old
    → 0 < (waits_queue old).capacity
    → ¬ IsFree old
    → IsFree new
    → IsSettled roll before after old new
    → ⊥
update_leaves_what_waits roll before after old new same room taken free k =
    ⊎_elim taken (λ found. drain_leaves_what_waits old new same room found.1) (k.free free)

-- `update` pops the slots that a subscriber gave back, and does not take out what waits for it: the slots
-- would be forgotten
pub update_forgets_what_came_back : (roll : Roll) (before after : List Holders) (old new : Outlet) → takes_view new ≢ takes_view old
    → ¬ WasDrained old new
    → IsSettled roll before after old new
    → ⊥
update_forgets_what_came_back roll before after old new popped waits k = ⊎_elim popped waits k.popped

-- a call adds to what its pass has made
makes_some : (p : ℕ) (start : Start ℕ) (answer : Answer ℕ) (wrote : List (Event ℕ)) (v w : View ℕ) → Called p start answer wrote v w → 0 < length w.made
makes_some p start answer wrote v w c =
    let all = length-append v.made (Begun p start ∷ (wrote ++ Finished p start answer ∷ [])) in
    let made = ap length c.made in
    omega arith

-- `update` takes out what waits, and drops the pass that took it out
pub update_drops_the_pass_that_drained : (old new : Outlet) (d : WasDrained old new) → (waits_view new).made ≡ d.kept.made → ⊥
update_drops_the_pass_that_drained old new d same =
    let some = makes_some d.ends.1.by _ _ [] d.ended d.left d.ends.1.called in
    let joined = ap length d.both.made in
    let parts = length-append d.kept.made d.left.made in
    let kept = ap length same in
    absurd (omega arith)

-- `loan` refuses by `NoRecord` although a record is left
pub loan_tells_no_record_with_one_left : {X K : Type 0} {rule : Ghosts K X} (records : Slots X K rule) (more : ℕ) (old new : List Holders)
    → IsTakenFor records (1 + more) old new NoRecord → ⊥
loan_tells_no_record_with_one_left records more old new k = let none = k.1 in absurd (omega arith)

-- one push has one word
one_word : (word other : ℕ) (back given : Option ℕ) (v w : View ℕ) → HasOverflowed word back v w → HasOverflowed other given v w → word ≡ other
one_word word other back given v w one two =
    let is = append_cancel_left v.made _ _ (sym one.called.made ∙ two.called.made) in
    cc

-- a pass that has made nothing since has made no call
no_call : (p : ℕ) (start : Start ℕ) (answer : Answer ℕ) (wrote : List (Event ℕ)) (v w : View ℕ) → w.made ≡ v.made
    → Called p start answer wrote v w
    → ⊥
no_call p start answer wrote v w none c =
    let all = length-append v.made (Begun p start ∷ (wrote ++ Finished p start answer ∷ [])) in
    let made = ap length c.made in
    let same = ap length none in
    absurd (omega arith)

-- a pass that has made nothing since has made no call, also if an open call of its had to end first
no_later_call : (p : ℕ) (start : Start ℕ) (answer : Answer ℕ) (wrote : List (Event ℕ)) (v from w : View ℕ) → w.made ≡ v.made → SettledFrom v from
    → Called p start answer wrote from w
    → ⊥
no_later_call p start answer wrote v from w none (inl still) c =
    no_call p start answer wrote from w (none ∙ sym (ap (λ (u : View ℕ). u.made) still.0)) c
no_later_call p start answer wrote v from w none (inr ended) c =
    let made = ap length c.made in
    let all = length-append from.made (Begun p start ∷ (wrote ++ Finished p start answer ∷ [])) in
    let earlier = ap length ended.made in
    let parts = length-append v.made (Finished ended.resting.party ended.resting.start ended.resting.answer ∷ []) in
    let same = ap length none in
    absurd (omega arith)

no_push : (word : ℕ) (back : Option ℕ) (v w : View ℕ) → w.made ≡ v.made → HasOverflowed word back v w → ⊥
no_push word back v w none one = no_call _ _ _ _ v w none one.called

-- `publish` pushes a word with another number than the next one, to a subscriber that takes part and does not
-- hold the slot
pub publish_lays_another_number : (room number other slot : ℕ) (before after : List Holders) (old new : Outlet) → slot < room
    → number ≢ other
    → IsTrue (is_open old)
    → CanSend before slot (holder_of old)
    → PushAdded (word_of room other slot) (sends_view old) (sends_view new)
    → IsServed room number slot before after old new
    → ⊥
publish_lays_another_number room number other slot before after old new within differs takes can wrong k =
    let sent = k.sent takes can in
    go sent.back sent.pushed
  where
    not_both : word_of room number slot ≡ word_of room other slot → ⊥
    not_both is = differs (number_in_word room number slot _ is within ∙ sym (number_in_word room other slot _ refl within))

    -- the word that was pushed is another than the one that the clause names, whatever the push handed back
    go : (back : Option ℕ) → HasPushed (word_of room number slot) back old new → ⊥
    go None pushed = not_both (one_word _ _ _ _ (sends_view old) (sends_view new) pushed.0 wrong.0)
    go (Some back) pushed =
        ⊎_elim (λ replaced. not_both (one_word _ _ _ _ (sends_view old) (sends_view new) replaced.0 wrong.0))
        (λ own. ⊎_elim (λ none. no_push _ _ _ _ (ap (λ (v : View ℕ). v.made) none.1) wrong.0) (λ end. no_push _ _ _ _ end.made wrong.0) own.1)
        pushed

so_many : (from to : ℕ) (numbers : List ℕ) → AreAll from to numbers → to ≡ length numbers + from
so_many from to [] h = let is : to ≡ from = h in omega arith
so_many from to (n ∷ ns) h = let first : n ≡ from = h.0 in let rest = so_many (n + 1) to ns h.1 in omega arith

-- A number is published, and the lane's pass knows of no word that went out by the lane: `publish` left the
-- lane out, or its word was lost.
pub publish_leaves_one_out : (layout : Layout) (from : ℕ) (received : List ℕ) (lane : Outlet) → published (waits_view lane).seen ≡ []
    → HasHeard layout from (from + 1) received lane
    → ⊥
publish_leaves_one_out layout from received lane none k =
    let all = so_many from (from + 1) k.sent k.every in
    let words = sym (length_named (λ word. word / layout.room) k.all.all.words) ∙ ap length k.all.all.numbers in
    let known = ap length k.all.all.passed.list ∙ length_named Index k.all.all.words in
    let seen = ap length none in
    absurd (omega arith)

module _ {X K : Type 0} where
  -- `reclaim` empties a slot with the right to write another one: an `Emptied` would then
  -- be of the other slot
  pub reclaim_takes_another_slot : (slot other : ℕ) (writing : Writing X K) → other ≢ slot → slot_of writing ≡ other → slot_of writing ≡ slot → ⊥
  reclaim_takes_another_slot slot other writing differs is k = differs (sym is ∙ k)

-- `reclaim` returns an `Emptied` of another slot
pub reclaim_answers_another_slot : (slot other : ℕ) (e : Emptied) → other ≢ slot → emptied e ≡ other → emptied e ≡ slot → ⊥
reclaim_answers_another_slot slot other e differs is k = differs (sym is ∙ k)

-- `subscribe` returns a subscriber as taking part whose record the copied state does not show
pub subscribe_shows_who_is_hidden : (roll : Roll) (taking : List Bool) (place : ℕ) → AreShown roll taking → ¬ IsShown roll place
    → slice_get taking place ≡ Some true
    → ⊥
subscribe_shows_who_is_hidden roll taking place shown hidden k = hidden (shown place k)

-- `update` makes no look at the registry
pub update_does_not_look : (changed : Bool) (old new : Roll) → (look_view new).made ≡ (look_view old).made → HasLooked changed old new → ⊥
update_does_not_look changed old new none k =
    no_later_call k.updated.by (Container UpdateState) (Truth changed) k.updated.wrote (look_view old) k.updated.from (look_view new) none
    k.updated.settled k.updated.called

-- `recover` does not ask the registry to take the dead owner's records out
pub recover_takes_nobody_out : (dead : ℕ) (old new : Roll) (k : HasRecovered dead old new)
    → (member_view k.between).made ≡ (member_view old).made
    → ⊥
recover_takes_nobody_out dead old new k none =
    let out = k.taken.recovered in
    no_later_call out.by (Container (Recover dead Default)) (State k.taken.state) (wrote_visits out.by dead out.visits) (member_view old) out.from
    (member_view k.between) none out.settled out.called

-- `recover` makes no look once the dead owner's records are out
pub recover_does_not_look : (dead : ℕ) (old new : Roll) → (look_view new).made ≡ (look_view old).made → HasRecovered dead old new → ⊥
recover_does_not_look dead old new none k =
    update_does_not_look k.changed k.between new (none ∙ sym (ap (λ (v : View ℕ). v.made) k.looks)) k.looked

-- `seat` lets a free lane, and answers that there is no seat
pub seat_tells_none : (place : ℕ) (old new : Outlet) (olds news : List Outlet) → slice_get olds place ≡ Some old
    → slice_get news place ≡ Some new
    → IsFree old
    → is_let new ≡ true
    → EachLane StaysOrLost olds news
    → ⊥
seat_tells_none place old new olds news was is free leased k =
    let it = k place old was in
    let got : slice_get news place ≡ Some it.0 = it.1 in
    let same : it.0 ≡ new = cc in
    go it.0 (ap is_let same ∙ leased) it.2
  where
    go : (lane : Outlet) → is_let lane ≡ true → StaysOrLost old lane → ⊥
    go lane taken (inl still) = true≢false (sym taken ∙ ap (λ t. lets t && has_end lane) (still.tenancy ∙ free))
    go lane taken (inr lost) = true≢false (sym taken ∙ ap (λ t. lets t && has_end lane) lost.1)

-- `seat` loses a lane that is not free
pub seat_loses_a_lane_that_is_let : (old new : Outlet) → ¬ IsFree old → is_lost old.tenancy ≡ false → is_lost new.tenancy ≡ true
    → StaysOrLost old new
    → ⊥
seat_loses_a_lane_that_is_let old new taken had lost (inl still) = true≢false (sym lost ∙ (ap is_lost still.tenancy ∙ had))
seat_loses_a_lane_that_is_let old new taken had lost (inr k) = taken k.0

-- a lane that is let, and then unchanged or lost from free, is still let
still_let : (old new : Outlet) → is_let old ≡ true → StaysOrLost old new → is_let new ≡ true
still_let old new leased (inl still) =
    ap (λ t. lets t && has_end new) still.tenancy ∙ (ap (λ e. lets old.tenancy && is_some e) still.passes.sends ∙ leased)
still_let old new leased (inr lost) = absurd (true≢false (sym leased ∙ ap (λ t. lets t && has_end old) lost.0))

module _ {X K : Type 0} {rule : Ghosts K X} where
  -- ---- what a refused `subscribe` tells: that there is no seat

  -- `subscribe` lets a free lane, and answers `NoSeat`
  pub subscribe_tells_no_seat : (owner place : ℕ) (lane now : Outlet) (old new : Publisher X K rule)
      → slice_get (lanes_of old) place ≡ Some lane
      → slice_get (lanes_of new) place ≡ Some now
      → IsFree lane
      → is_let now ≡ true
      → WasNotSubscribed owner old new NoSeat
      → ⊥
  subscribe_tells_no_seat owner place lane now old new was is free leased k =
      seat_tells_none place lane now (lanes_of old) (lanes_of new) was is free leased k.0

  -- ---- that the registry did not let it in: and no lane was free

  -- No lane of the publisher is free.
  abbrev NoneFree : Publisher X K rule → Type 0
  NoneFree p = (place : ℕ) (lane : Outlet) → slice_get (lanes_of p) place ≡ Some lane → ¬ IsFree lane

  -- `subscribe` answers `NotLetIn` although no lane was free
  pub subscribe_names_no_lane : (owner : ℕ) (failure : ContainerAddFailure) (old new : Publisher X K rule) → NoneFree old
      → WasNotSubscribed owner old new (NotLetIn failure)
      → ⊥
  subscribe_names_no_lane owner failure old new none k =
      let at = k.2 in
      none (place_before k.0) at.0 at.2 at.4.1.free

  -- `subscribe` answers `NotLetIn` without a call of the registry
  pub subscribe_asks_nobody : (owner : ℕ) (failure : ContainerAddFailure) (old new : Publisher X K rule)
      (k : WasNotSubscribed owner old new (NotLetIn failure))
      → (members_before k.1).seen ≡ (members_before k.0).seen
      → ⊥
  subscribe_asks_nobody owner failure old new k same =
      let asked = k.4.answered in
      no_more asked.before [] (members_before k.0).seen _ (sym same ∙ asked.is) asked.since

  -- `subscribe` answers `NotLetIn`, and loses a lane that is let to another
  pub subscribe_not_let_in_loses_another_lane : (owner place : ℕ) (failure : ContainerAddFailure) (lane : Outlet) (old new : Publisher X K rule)
      (k : WasNotSubscribed owner old new (NotLetIn failure))
      → place ≢ place_before k.0
      → slice_get (lanes_of old) place ≡ Some lane
      → ¬ IsFree lane
      → is_lost lane.tenancy ≡ false
      → ((now : Outlet) → slice_get (lanes_of new) place ≡ Some now → is_lost now.tenancy ≡ true)
      → ⊥
  subscribe_not_let_in_loses_another_lane owner place failure lane old new k differs was taken had lost =
      let it = k.3 place lane differs was in
      seat_loses_a_lane_that_is_let lane it.0 taken had (lost it.0 it.1) it.2

  -- ---- that the look did not show it: and another is let in

  pub subscribe_hides_another : (owner other : ℕ) (old new : Publisher X K rule) (s : Subscriber X K rule) → other ≢ owner
      -- `subscribe` answers with a subscriber of another owner.
      → (record_of s).owner ≡ other
      → WasNotShown owner old new s
      → ⊥
  subscribe_hides_another owner other old new s differs is k = differs (sym is ∙ k.its)

  -- `subscribe` answers that the look did not show the subscriber, although no lane was free
  pub subscribe_hides_one_without_a_lane : (owner : ℕ) (old new : Publisher X K rule) (s : Subscriber X K rule) → NoneFree old
      → WasNotShown owner old new s
      → ⊥
  subscribe_hides_one_without_a_lane owner old new s none k =
      let at = k.seated.leased in
      none (place_at s) at.0 at.2 at.4.1.free

  -- `subscribe` answers that the look did not show the subscriber, and made no look
  pub subscribe_does_not_look : (owner : ℕ) (old new : Publisher X K rule) (s : Subscriber X K rule)
      → (look_view (roll_of new)).made ≡ (look_view (roll_of old)).made
      → WasNotShown owner old new s
      → ⊥
  subscribe_does_not_look owner old new s none k = update_does_not_look k.changed (roll_of old) (roll_of new) none k.looked

  -- `subscribe` answers that the look did not show a subscriber whose place is that of no lane
  pub subscribe_hides_nobody : (owner : ℕ) (old new : Publisher X K rule) (s : Subscriber X K rule)
      → slice_get (open_in (lanes_of new)) (place_at s) ≡ None
      → WasNotShown owner old new s
      → ⊥
  subscribe_hides_nobody owner old new s none k = let is = k.hidden in cc

  -- `subscribe` loses a lane that is let to another
  pub subscribe_loses_another_lane : (owner place : ℕ) (lane : Outlet) (old new : Publisher X K rule) (s : Subscriber X K rule)
      → slice_get (lanes_of old) place ≡ Some lane
      → place ≢ place_at s
      → ¬ IsFree lane
      → is_lost lane.tenancy ≡ false
      → ((now : Outlet) → slice_get (lanes_of new) place ≡ Some now → is_lost now.tenancy ≡ true)
      → WasNotShown owner old new s
      → ⊥
  subscribe_loses_another_lane owner place lane old new s was differs taken had lost k =
      let mid = k.seated.others place lane differs was in
      let it = k.seated.settled place mid.0 mid.1 in
      seat_loses_a_lane_that_is_let lane mid.0 taken had (it.2.lost (lost it.0 it.1)) mid.2

  -- `subscribe` answers `NoSeat`, and takes slots of others back
  pub subscribe_with_no_seat_takes_slots_back : (owner : ℕ) (old new : Publisher X K rule) → table_of new ≢ table_of old
      → WasNotSubscribed owner old new NoSeat
      → ⊥
  subscribe_with_no_seat_takes_slots_back owner old new differs k = differs k.1

  -- `subscribe` answers `NotLetIn`, and takes slots of others back
  pub subscribe_not_let_in_takes_slots_back : (owner : ℕ) (failure : ContainerAddFailure) (old new : Publisher X K rule)
      → table_of new ≢ table_of old
      → WasNotSubscribed owner old new (NotLetIn failure)
      → ⊥
  subscribe_not_let_in_takes_slots_back owner failure old new differs k = differs k.5

  -- each lane takes part
  abbrev AllTakePart : Publisher X K rule → Type 0
  AllTakePart p = (place : ℕ) → slice_get (open_in (lanes_of p)) place ≢ Some false

  -- `subscribe` answers `NotSeen` although each lane takes part
  pub subscribe_tells_not_seen : (owner : ℕ) (old new : Publisher X K rule) → AllTakePart new → WasNotSubscribed owner old new NotSeen → ⊥
  subscribe_tells_not_seen owner old new all k = all (place_at k.0) k.2.hidden

  -- `subscribe` answers `NotSeen` and drops the subscriber, so that the registry keeps its record
  pub subscribe_drops_who_is_hidden : (owner : ℕ) (old new : Publisher X K rule) (k : WasNotSubscribed owner old new NotSeen)
      → (members_left k.1).seen ≡ (members_view k.0).seen
      → ⊥
  subscribe_drops_who_is_hidden owner old new k same = no_more k.3.before k.3.after (members_view k.0).seen _ (sym same ∙ k.3.is) k.3.since

  -- `subscribe` answers `NotSeen`, and what the subscriber left is of another lane
  pub subscribe_leaves_another_lane : (owner : ℕ) (old new : Publisher X K rule) (k : WasNotSubscribed owner old new NotSeen)
      → place_left k.1 ≢ place_at k.0
      → ⊥
  subscribe_leaves_another_lane owner old new k differs = differs k.4.place

  -- `subscribe` answers `NotRemoved` although each lane takes part
  pub subscribe_tells_not_removed : (owner : ℕ) (failure : ContainerRemoveError) (old new : Publisher X K rule) → AllTakePart new
      → WasNotSubscribed owner old new (NotRemoved failure)
      → ⊥
  subscribe_tells_not_removed owner failure old new all k = all (place_at k.0) k.2.hidden

  -- `subscribe` answers `NotRemoved` without a call of the registry
  pub subscribe_removes_nobody : (owner : ℕ) (failure : ContainerRemoveError) (old new : Publisher X K rule)
      (k : WasNotSubscribed owner old new (NotRemoved failure))
      → (members_view k.1).seen ≡ (members_view k.0).seen
      → ⊥
  subscribe_removes_nobody owner failure old new k same = no_more k.3.before [] (members_view k.0).seen _ (sym same ∙ k.3.is) k.3.since

  -- `subscribe` answers `NotRemoved` for the record of another subscriber
  pub subscribe_removes_another : (owner : ℕ) (failure : ContainerRemoveError) (old new : Publisher X K rule)
      (k : WasNotSubscribed owner old new (NotRemoved failure))
      → record_of k.1 ≢ record_of k.0
      → ⊥
  subscribe_removes_another owner failure old new k differs = differs k.4.named

  -- ---- and what one that is not refused tells

  -- `subscribe` lets another owner in
  pub subscribe_lets_another_in : (owner other : ℕ) (s : Subscriber X K rule) → other ≢ owner → (record_of s).owner ≡ other
      → (record_of s).owner ≡ owner
      → ⊥
  subscribe_lets_another_in owner other s differs is k = differs (sym is ∙ k)

  -- `subscribe` takes slots of another subscriber back, whose lane does not become free
  pub subscribe_takes_anothers_slots_back : (place : ℕ) (lane : Outlet) (old new : Publisher X K rule) (s : Subscriber X K rule)
      → slice_get (lanes_of old) place ≡ Some lane
      → place ≢ place_at s
      → ((now : Outlet) → slice_get (lanes_of new) place ≡ Some now → ¬ IsFree now)
      → ¬ KeepsSlots (holder_of lane) (table_of old) (table_of new)
      → WasSeated old new s
      → ⊥
  subscribe_takes_anothers_slots_back place lane old new s was differs taken lost k =
      let mid = k.others place lane differs was in
      let it = k.settled place mid.0 mid.1 in
      lost
      (subst (λ h. KeepsSlots h (table_of old) (table_of new)) (same_holder k.between (lanes_of old) place mid.0 lane k.holders mid.1 was)
      (it.2.kept (λ free. absurd (taken it.0 it.1 free))))

  -- `subscribe` closes the lane of another subscriber whom the copied state shows
  pub subscribe_closes_another_lane : (place : ℕ) (lane : Outlet) (old new : Publisher X K rule) (s : Subscriber X K rule)
      → slice_get (lanes_of old) place ≡ Some lane
      → place ≢ place_at s
      → is_let lane ≡ true
      → IsShown (roll_of new) (place_of lane)
      → ((now : Outlet) → slice_get (lanes_of new) place ≡ Some now → is_open now ≡ false)
      → WasSeated old new s
      → ⊥
  subscribe_closes_another_lane place lane old new s was differs leased shown closed k =
      let mid = k.others place lane differs was in
      let it = k.settled place mid.0 mid.1 in
      let same : holder_of mid.0 ≡ holder_of lane = same_holder k.between (lanes_of old) place mid.0 lane k.holders mid.1 was in
      let seen : IsShown (roll_of new) (place_of mid.0) = subst (λ h. IsShown (roll_of new) (bit_of h - 1)) (sym same) shown in
      true≢false (sym (it.2.takes.1 (still_let lane mid.0 leased mid.2, seen)) ∙ closed it.0 it.1)

  -- ---- that the publisher is finished: and its pass still holds a slot that it kept

  -- `finish` gives up a pass that holds a slot, although nobody holds one by the table
  pub finish_keeps_a_slot : (slot : ℕ) (old : Publisher X K rule) (made : List (Event ℕ)) → AllFree (table_of old)
      → Holds slot made
      → (AllFree (table_of old) → HoldsNothing made)
      → ⊥
  finish_keeps_a_slot slot old made free holds nothing = let none = nothing free slot in absurd (omega arith)
