-- For clients: which numbers go out by a lane in each call of the publisher (`HasGoneOut`), and that calls
-- one after the other add up (`HasPublished`).
use Rattle.std.proofs.Common.{◌≡◌, ◌⊎◌, ℕ, ◌+◌, ◌/◌, ◌%◌, ◌^◌, ◌<◌, ◌≤◌, Bool, true, false, true≢false, List, [], ◌∷◌, ◌++◌}
use Rattle.std.proofs.Common.{refl, sym, ap, subst, ◌∙◌, inl, inr, ⊎_elim, arith}
use Rattle.std.proofs.lemmas.Bool.{cases_eq, cases_lt}
use Rattle.std.proofs.lemmas.Nat.{div-add-mod', mod_below}
use Rattle.std.proofs.lemmas.Nat.Bits.{bit_at-zero}
use Rattle.std.specs.Int.{bit_at}
use Rattle.std.specs.Prelude.{Option, Some, None, slice_get}
use Rattle.lock_free_queues.specs.Queues.Overflowing.{PushHandedBack}
use Rattle.lock_free_queues.specs.Queues.Rings.{QueueId, queue_of}
use Rattle.zero_copy_bus.specs.declared.holders.Holder.{Holder}
use Rattle.zero_copy_bus.specs.declared.holders.Holders.{Holders}
use Rattle.zero_copy_bus.specs.declared.outlet.Outlet.{Outlet}
use Rattle.zero_copy_bus.specs.declared.publisher.Publisher.{Publisher}
use Rattle.zero_copy_bus.specs.Books.{holders_at, CanSend, ChangesAt, HasSlot, IsLoaned}
use Rattle.zero_copy_bus.specs.Ends.{lanes_of, layout_of, next_of, room_of, shape_of, slots_of, table_of, CanSendToAll, HasNumber, HasTried}
use Rattle.zero_copy_bus.specs.Holders.{bit_of, is_held, publisher}
use Rattle.zero_copy_bus.specs.Outlets.{holder_of, is_open, open_in, sends_view, waits_queue, EachLane, HasPushed, IsSent, IsServed, IsTakenBack, SamePasses}
use Rattle.zero_copy_bus.specs.Relays.{AreAmong, HasGoneOut, HasPublished}
use Rattle.zero_copy_bus.specs.Sequences.{AreAll}
use Rattle.zero_copy_bus.proofs.BookLemmas.{free_is}
use Rattle.zero_copy_bus.proofs.LaneLemmas.{get_map}
use Rattle.zero_copy_bus.proofs.Leases.{same_sends}
use Rattle.zero_copy_bus.proofs.Rising.{all_then, rises_then}
use Rattle.zero_copy_loans.specs.Numbers.{SendsOn}
use Rattle.zero_copy_loans.specs.Words.{word_of, IsWord}
use Rattle.zero_copy_loans.specs.declared.words.Layout.{Layout}
use Rattle.zero_copy_loans.proofs.Numbers.{sends_back, sends_one, sends_still, sends_then}
use Rattle.zero_copy_slots.specs.declared.Keeps.{Ghosts}

-- ---- numbers

-- the empty list of numbers lies between any two bounds that are in order
pub among_none : (from to : ℕ) → from ≤ to → AreAmong from to []
among_none from to le = record { next = from; rise = refl; below = le }

-- numbers from b on are also numbers from any lower m on
among_from : (m b c : ℕ) (ys : List ℕ) → m ≤ b → AreAmong b c ys → AreAmong m c ys
among_from m b c [] le h = let is : h.next ≡ b = h.rise in let below = h.below in among_none m c (omega arith)
among_from m b c (y ∷ ys) le h = let first = h.rise.0 in record { next = h.next; rise = (omega arith, h.rise.1); below = h.below }

-- numbers from a up to b, and then from b up to c, are numbers from a up to c
among_then : (a b c : ℕ) (xs ys : List ℕ) → AreAmong a b xs → AreAmong b c ys → AreAmong a c (xs ++ ys)
among_then a b c xs ys h k =
    let more = among_from h.next b c ys h.below k in
    record { next = more.next; rise = rises_then a h.next more.next xs ys h.rise more.rise; below = more.below }

-- ---- one lane

-- a call that leaves the lane's passes and whether its subscriber takes part, and leaves the next number if he does, sends nothing by
-- the lane
nothing_out : (layout : Layout) (from to : ℕ) (old new : Outlet) → from ≤ to → (is_open old ≡ true → to ≡ from) → is_open new ≡ is_open old
    → SamePasses old new → HasGoneOut layout from to old new
nothing_out layout from to old new low all taking same =
    record {
      numbers = [];
      back = [];
      sent =
          record {
            waits = same.waits;
            sends = λ some. sends_still (shape_of layout (waits_queue old)) (sends_view old) (sends_view new) (same_sends old new same);
          };
      taking = taking;
      among = among_none from to low;
      all = all;
    }

-- a call that leaves the next number and the lane's passes sends nothing by the lane
pub out_none : (layout : Layout) (from to : ℕ) (old new : Outlet) → to ≡ from → is_open new ≡ is_open old → SamePasses old new
    → HasGoneOut layout from to old new
out_none layout from to old new next taking same = nothing_out layout from to old new (omega arith) (λ on. next) taking same

-- a publish with this number sends nothing by a lane whose subscriber does not take part
out_else : (layout : Layout) (number : ℕ) (old new : Outlet) → (is_open old ≡ true → ⊥) → is_open new ≡ is_open old → SamePasses old new
    → HasGoneOut layout number (number + 1) old new
out_else layout number old new off taking same =
    nothing_out layout number (number + 1) old new (omega arith) (λ on. absurd (off on)) taking same

-- a slot that nobody held, and that the publisher alone holds now, can be sent to each subscriber
can_go : (slot : ℕ) (before after : List Holders) (lane : Outlet) → is_held (holders_at before slot) ≡ false → ChangesAt slot publisher before after
    → IsLoaned after slot
    → CanSend after slot (holder_of lane)
can_go slot before after lane free changes loaned = (loaned, lacks)
  where
    -- the subscriber does not hold the slot: its bit is not the publisher's, and only that has changed
    lacks : HasSlot after slot (holder_of lane) → ⊥
    lacks has =
        let bit = bit_of (holder_of lane) in
        let here : bit_at (holders_at after slot).bits bit ≡ bit_at (holders_at before slot).bits bit =
        changes.here bit lane.holder.within (λ e. (let own = lane.subscribes in let is : bit_of (holder_of lane) ≡ 0 = e in absurd (omega arith))) in
        let none : bit_at (holders_at before slot).bits bit ≡ bit_at 0 bit = ap (λ (h : Holders). bit_at h.bits bit) (free_is (holders_at before slot) free) in
        let one : 1 ≡ 0 = sym has ∙ (here ∙ (none ∙ bit_at-zero bit)) in
        absurd (omega arith)

-- It is decided whether a subscriber takes part and can be sent the slot. The cases are whether it takes
-- part, whether the slot is on loan, and whether it holds the slot.
can_send : (b : Bool) (table : List Holders) (slot : ℕ) (holder : Holder)
    → ((b ≡ true) × CanSend table slot holder) ⊎ (((b ≡ true) × CanSend table slot holder) → ⊥)
can_send false table slot holder = inr (λ x. true≢false (sym x.0))
can_send true table slot holder =
    ⊎_elim
    (λ on.
    ⊎_elim (λ has. inr (λ x. x.1.1 has)) (λ lacks. inl (refl, (on, lacks))) (cases_eq (bit_at (holders_at table slot).bits holder.bit) 1))
    (λ off. inr (λ x. off x.1.0)) (cases_eq (bit_at (holders_at table slot).bits publisher.bit) 1)

-- what `publish` does to a lane (`IsServed`) sends this number by it, or nothing if its
-- subscriber does not take part
pub out_one : (layout : Layout) (number slot : ℕ) (before after : List Holders) (old new : Outlet) → IsWord layout.room layout.places number slot
    → CanSend before slot (holder_of old)
    → is_open new ≡ is_open old
    → IsServed layout.room number slot before after old new → HasGoneOut layout number (number + 1) old new
out_one layout number slot before after old new word can taking served =
    ⊎_elim (λ x. (let s = served.sent x.0 x.1 in sent s s.back s.pushed))
    (λ no. out_else layout number old new (λ on. no (on, can)) taking (record { sends = served.idle no; waits = served.waits }))
    (can_send (is_open old) before slot (holder_of old))
  where
    within : slot < layout.room
    within = let places = layout.fits in let lt = word.0 in omega arith

    some_room : 0 < layout.room
    some_room = let least = layout.some in omega arith

    one : AreAmong number (number + 1) (number ∷ [])
    one = record { next = number + 1; rise = (omega arith, refl); below = omega arith }

    only : AreAll number (number + 1) (number ∷ [])
    only = (refl, refl)

    -- the record goes out by the lane; the cases are whether the push handed a word back
    sent : IsSent layout.room number slot before after old new → (back : Option ℕ) → HasPushed (word_of layout.room number slot) back old new
        → HasGoneOut layout number (number + 1) old new
    sent s None pushed =
        record {
          numbers = number ∷ [];
          back = [];
          sent =
              record {
                waits = served.waits;
                sends =
                    λ some.
                    sends_one (shape_of layout (waits_queue old)) (waits_queue old).capacity some (sends_view old) (sends_view new)
                    (s.goes some) number slot word.0 within pushed;
              };
          taking = taking;
          among = one;
          all = λ on. only;
        }
    sent s (Some back) pushed =
        record {
          numbers = number ∷ [];
          back = (back / layout.room) ∷ [];
          sent =
              record {
                waits = served.waits;
                sends =
                    λ some.
                    sends_back (shape_of layout (waits_queue old)) (waits_queue old).capacity some (sends_view old) (sends_view new)
                    (s.goes some) number slot word.0 within (back / layout.room) (back % layout.room) (mod_below back layout.room some_room)
                    (subst
                    (λ k. PushHandedBack (waits_queue old).capacity (word_of layout.room number slot) k (sends_view old) (sends_view new))
                    (sym (div-add-mod' back layout.room)) pushed);
              };
          taking = taking;
          among = one;
          all = λ on. only;
        }

-- what goes out by two calls, one after the other, goes out by both together
pub out_then : (layout : Layout) (a b c : ℕ) (old mid new : Outlet) → HasGoneOut layout a b old mid → HasGoneOut layout b c mid new
    → HasGoneOut layout a c old new
out_then layout a b c old mid new h k =
    record {
      numbers = h.numbers ++ k.numbers;
      back = h.back ++ k.back;
      sent = record { waits = k.sent.waits ∙ h.sent.waits; sends = both };
      taking = k.taking ∙ h.taking;
      among = among_then a b c h.numbers k.numbers h.among k.among;
      all = λ on. all_then a b c h.numbers k.numbers (h.all on) (k.all (h.taking ∙ on));
    }
  where
    same : waits_queue mid ≡ waits_queue old
    same = ap queue_of h.sent.waits

    -- the guard has pushed the words of both calls, if the queue has room
    both : 0 < (waits_queue old).capacity
        → SendsOn (shape_of layout (waits_queue old)) (h.numbers ++ k.numbers) (h.back ++ k.back) (sends_view old) (sends_view new)
    both some =
        sends_then (shape_of layout (waits_queue old)) h.numbers h.back k.numbers k.back (sends_view old) (sends_view mid) (sends_view new)
        (h.sent.sends some)
        (subst (λ (q : QueueId). SendsOn (shape_of layout q) k.numbers k.back (sends_view mid) (sends_view new)) same
        (k.sent.sends (subst (λ (q : QueueId). 0 < q.capacity) (sym same) some)))

-- ---- all lanes of a publisher

-- if the same lanes take part before and after, this lane takes part after if it did before
same_open : (olds news : List Outlet) (place : ℕ) (old new : Outlet) → open_in news ≡ open_in olds → slice_get olds place ≡ Some old
    → slice_get news place ≡ Some new
    → is_open new ≡ is_open old
same_open olds news place old new taking was is =
    let after : slice_get (open_in news) place ≡ Some (is_open new) = get_map is_open news place new is in
    let before : slice_get (open_in olds) place ≡ Some (is_open old) = get_map is_open olds place old was in
    let same : Some (is_open new) ≡ Some (is_open old) = sym after ∙ (ap (λ bs. slice_get bs place) taking ∙ before) in
    cc

module _ {X K : Type 0} {rule : Ghosts K X} where
  -- a call that leaves the passes of all lanes, and the lanes that take part, publishes nothing
  published_by : (old new : Publisher X K rule) → layout_of new ≡ layout_of old → open_in (lanes_of new) ≡ open_in (lanes_of old)
      → next_of new ≡ next_of old → EachLane SamePasses (lanes_of old) (lanes_of new) → HasPublished old new
  published_by old new layout taking next each =
      record {
        layout = layout;
        taking = taking;
        later = omega arith;
        lanes =
            λ place lane is.
            (let it = each place lane is in (
              it.0,
              it.1,
              out_none (layout_of old) (next_of old) (next_of new) lane it.0 next
                  (same_open (lanes_of old) (lanes_of new) place lane it.0 taking is it.1) it.2,
            ));
      }

  -- a call that leaves all lanes unchanged publishes nothing
  pub published_none : (old new : Publisher X K rule) → layout_of new ≡ layout_of old → next_of new ≡ next_of old → lanes_of new ≡ lanes_of old
      → HasPublished old new
  published_none old new layout next same =
      published_by old new layout (ap open_in same) next
      (λ place lane is. (lane, subst (λ lanes. slice_get lanes place ≡ Some lane) (sym same) is, record { sends = refl; waits = refl }))

  -- `collect` publishes nothing
  pub published_back : (old new : Publisher X K rule) → layout_of new ≡ layout_of old → next_of new ≡ next_of old
      → open_in (lanes_of new) ≡ open_in (lanes_of old)
      → EachLane (IsTakenBack (slots_of old) (table_of old) (table_of new)) (lanes_of old) (lanes_of new)
      → HasPublished old new
  published_back old new layout next taking taken =
      published_by old new layout taking next (λ place lane is. (let it = taken place lane is in (it.0, it.1, it.2.passes)))

  -- tries to loan publish nothing
  pub published_tried : (old new : Publisher X K rule) → HasTried old new → HasPublished old new
  published_tried old new tried =
      published_by old new tried.same.layout tried.taking tried.next
      (λ place lane is. (let it = tried.back place lane is in (it.0, it.1, it.2.passes)))

  -- it is decided whether there is a word of the next number and this slot
  has_number : (p : Publisher X K rule) (slot : ℕ) → HasNumber p slot ⊎ (HasNumber p slot → ⊥)
  has_number p slot =
      ⊎_elim
      (λ lt.
      ⊎_elim (λ small. inl (lt, small)) (λ large. inr (λ x. (let small = x.1 in absurd (omega arith))))
      (cases_lt (word_of (room_of p) (next_of p) slot) (2 ^ 64)))
      (λ le. inr (λ x. (let lt = x.0 in absurd (omega arith)))) (cases_lt slot (slots_of p))

  -- the next number rises by 1 at most, whether or not there was a word for the slot
  pub next_most : (slot : ℕ) (old new : Publisher X K rule) → (HasNumber old slot → next_of new ≡ next_of old + 1)
      → ((HasNumber old slot → ⊥) → next_of new ≡ next_of old)
      → next_of new ≤ next_of old + 1
  next_most slot old new next last =
      ⊎_elim (λ has. (let is = next has in omega arith)) (λ no. (let is = last no in omega arith)) (has_number old slot)

  -- a slot that `loan` has handed out can be sent to each subscriber
  pub can_send_to_all : (slot : ℕ) (old new : Publisher X K rule) → is_held (holders_at (table_of old) slot) ≡ false
      → ChangesAt slot publisher (table_of old) (table_of new)
      → IsLoaned (table_of new) slot
      → CanSendToAll new slot
  can_send_to_all slot old new free changes loaned place lane is = can_go slot (table_of old) (table_of new) lane free changes loaned

  -- a publish of a slot that can go to all has published one record, or none where no number is left
  pub published_one : (slot : ℕ) (old new : Publisher X K rule) → CanSendToAll old slot → layout_of new ≡ layout_of old
      → open_in (lanes_of new) ≡ open_in (lanes_of old)
      → (HasNumber old slot → EachLane (IsServed (room_of old) (next_of old) slot (table_of old) (table_of new)) (lanes_of old) (lanes_of new))
      → (HasNumber old slot → next_of new ≡ next_of old + 1)
      → ((HasNumber old slot → ⊥) → lanes_of new ≡ lanes_of old)
      → ((HasNumber old slot → ⊥) → next_of new ≡ next_of old)
      → HasPublished old new
  published_one slot old new can layout taking served next unsent last =
      ⊎_elim yes (λ no. published_none old new layout (last no) (unsent no)) (has_number old slot)
    where
      many : slots_of old ≡ (layout_of old).places
      many = sym (old.fits ∙ old.sized)

      -- the case that there is a word of the next number: each lane has sent it, or nothing
      yes : HasNumber old slot → HasPublished old new
      yes word =
          record {
            layout = layout;
            taking = taking;
            later = (let more = next word in omega arith);
            lanes =
                λ place lane is.
                (let it = served word place lane is in (
                  it.0,
                  it.1,
                  subst (λ n. HasGoneOut (layout_of old) (next_of old) n lane it.0) (sym (next word))
                      (out_one (layout_of old) (next_of old) slot (table_of old) (table_of new) lane it.0
                      (subst (λ n. IsWord (room_of old) n (next_of old) slot) many word) (can place lane is)
                      (same_open (lanes_of old) (lanes_of new) place lane it.0 taking is it.1) it.2),
                ));
          }

  -- what is published by two calls, one after the other, is published by both
  pub published_then : (p q r : Publisher X K rule) → HasPublished p q → HasPublished q r → HasPublished p r
  published_then p q r h k =
      record {
        layout = k.layout ∙ h.layout;
        taking = k.taking ∙ h.taking;
        later = (let x = h.later in let y = k.later in omega arith);
        lanes =
            λ place lane is.
            (let one = h.lanes place lane is in
            let two = k.lanes place one.0 one.1 in (
              two.0,
              two.1,
              out_then (layout_of p) (next_of p) (next_of q) (next_of r) lane one.0 two.0 one.2
                  (subst (λ (l : Layout). HasGoneOut l (next_of q) (next_of r) one.0 two.0) h.layout two.2),
            ));
      }
