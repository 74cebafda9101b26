-- A lane is let, and then the publisher looks who takes part.
use Rattle.std.proofs.Common.{◌≡◌, ◌&&◌, ℕ, zero, suc, Bool, true, false, true≢false, Some, List, [], ◌∷◌, sym, ap, subst, ◌∙◌, inl, inr}
use Rattle.std.specs.Prelude.{slice_get, slice_set}
use Rattle.history.specs.declared.view.View.{View}
use Rattle.history.specs.Passes.{Goes}
use Rattle.lock_free_queues.specs.Queues.Contracts.{HasAcquired, HasSplit}
use Rattle.steps.specs.declared.queues.roles.Role.TheVariants as roles
use Rattle.lock_free_queues.specs.Queues.Rings.{QueueId, queue_of, view}
use Rattle.zero_copy_bus.specs.declared.holders.Holders.{Holders}
use Rattle.zero_copy_bus.specs.declared.outlet.Outlet.{Outlet}
use Rattle.zero_copy_bus.specs.declared.outlet.Tenancy.{Tenancy}
use Rattle.zero_copy_bus.specs.declared.outlet.Tenancy.TheVariants.{Free, Closed, Open, Lost}
use Rattle.zero_copy_bus.specs.declared.roll.Roll.{Roll}
use Rattle.zero_copy_bus.specs.declared.publisher.Publisher.{Publisher}
use Rattle.zero_copy_bus.specs.declared.subscriber.Seat.{Seat}
use Rattle.zero_copy_bus.specs.declared.subscriber.Subscriber.{Subscriber}
use Rattle.zero_copy_bus.specs.Ends.{lanes_of, place_at, place_before, receives_at, receives_before, receives_queue, receives_view, record_of}
use Rattle.zero_copy_bus.specs.Ends.{roll_of, table_of, WasNotShown, WasSeated}
use Rattle.zero_copy_bus.specs.Outlets.{end_view, has_end, holders_in, is_let, is_open, lets, open_in, opens, sends_view, AreShown}
use Rattle.zero_copy_bus.specs.Outlets.{AtLane, EachLane, EachOther, IsFree, IsSettled, KeepsRest, OthersStay, SamePasses, StaysOrLost, WasLet, WasLetOf}
use Rattle.zero_copy_bus.specs.Rolls.{HasLooked}
use Rattle.zero_copy_bus.proofs.LaneLemmas.{get_map, map_got}
use Rattle.zero_copy_slots.specs.declared.Keeps.{Ghosts}

-- a lane that takes part is let
part_is_let : (t : Tenancy) (b : Bool) → (opens t && b) ≡ true → (lets t && b) ≡ true
part_is_let Free b on = absurd (true≢false (sym on))
part_is_let Closed b on = absurd (true≢false (sym on))
part_is_let Open b on = on
part_is_let Lost b on = absurd (true≢false (sym on))

-- with the same passes the guard knows the same
pub same_sends : (old new : Outlet) → SamePasses old new → sends_view new ≡ sends_view old
same_sends old new same = λ i. end_view (view (same.waits i)) (same.sends i)

-- a lane that was let, and then keeps its passes and takes part, counts as let from before to then
let_still : (theirs : View ℕ) (old mid new : Outlet) → SamePasses mid new → is_open new ≡ true → WasLet theirs old mid → WasLet theirs old new
let_still theirs old mid new same on h =
    record {
      free = h.free;
      is = part_is_let new.tenancy (has_end new) on;
      queue = ap queue_of same.waits ∙ h.queue;
      whole = h.whole;
      from = h.from;
      ours = h.ours;
      half = h.half;
      other = h.other;
      cut = h.cut;
      again = subst (λ v. HasSplit h.half v h.other) (sym (ap view same.waits)) h.again;
      begins = (
        subst (λ v. Goes h.ours v) (sym (same_sends mid new same)) h.begins.0,
        subst (λ v. HasAcquired roles.Producer true h.ours v) (sym (same_sends mid new same)) h.begins.1,
      );
      waits = h.waits;
    }

-- the lane at a place was let, said with an equal place, queue and view
pub moved : {place at : ℕ} {queue other : QueueId} {theirs its : View ℕ} (olds news : List Outlet) → place ≡ at → queue ≡ other
    → theirs ≡ its → AtLane at (WasLetOf other its) olds news → AtLane place (WasLetOf queue theirs) olds news
moved {place} {at} {queue} {other} {theirs} {its} olds news e f g h =
    subst (λ k. AtLane k (WasLetOf queue theirs) olds news) (sym e)
    (subst (λ (q : QueueId). AtLane at (WasLetOf q theirs) olds news) (sym f)
    (subst (λ (v : View ℕ). AtLane at (WasLetOf other v) olds news) (sym g) h))

-- passes that are unchanged by two calls are unchanged by both together
pub both_same : (old mid new : Outlet) → SamePasses old mid → SamePasses mid new → SamePasses old new
both_same old mid new one two = record { sends = two.sends ∙ one.sends; waits = two.waits ∙ one.waits }

-- The lanes were `olds`, then one of them was let (`mids`). The look that follows settles each lane (`news`).
module _ {roll : Roll} {one two : List Holders} (place : ℕ) (olds mids news : List Outlet) (each : EachLane (IsSettled roll one two) mids news) where
  -- the lane that was let, where its subscriber is seen to take part
  pub let_after : (queue : QueueId) (theirs : View ℕ) → AtLane place (WasLetOf queue theirs) olds mids
      → slice_get (open_in news) place ≡ Some true
      → AtLane place (WasLetOf queue theirs) olds news
  let_after queue theirs at open_there =
      let it = each place at.1 at.3 in
      let on = map_got is_open news place true open_there in
      let got : slice_get news place ≡ Some it.0 = it.1 in
      let is_got : slice_get news place ≡ Some on.0 = on.1 in
      let same : on.0 ≡ it.0 = cc in
      let takes : is_open it.0 ≡ true = ap is_open (sym same) ∙ on.2 in
      (at.0, it.0, at.2, it.1, (at.4.0, let_still theirs at.0 at.1 it.0 (it.2.passes takes) takes at.4.1))

  -- if the look does not show the subscriber, its lane does not take part
  pub hidden_after : (queue : QueueId) (theirs : View ℕ) → AtLane place (WasLetOf queue theirs) olds mids
      → (slice_get (open_in news) place ≡ Some true → ⊥)
      → slice_get (open_in news) place ≡ Some false
  hidden_after queue theirs at off =
      let it = each place at.1 at.3 in
      go (is_open it.0) (get_map is_open news place it.0 it.1)
    where
      go : (b : Bool) → slice_get (open_in news) place ≡ Some b → slice_get (open_in news) place ≡ Some false
      go true is = absurd (off is)
      go false is = is

  -- any other lane is unchanged by the seat, or was lost; and one that takes part before and
  -- after keeps its passes
  pub others_after : EachOther place StaysOrLost olds mids → EachOther place OthersStay olds news
  others_after others k old ne got =
      let mid = others k old ne got in
      let it = each k mid.0 mid.1 in
      (it.0, it.1, record { free = free mid.0 it.0 it.2 mid.2; taking = taking mid.0 it.0 it.2 mid.2 })
    where
      -- a lane that was free is free or lost after both calls
      free : (mid new : Outlet) → IsSettled roll one two mid new → StaysOrLost old mid → IsFree old → StaysOrLost old new
      free mid new settled (inl still) none =
          let rest = settled.still (inl (still.tenancy ∙ none)) in
          inl (record { tenancy = rest.tenancy ∙ still.tenancy; passes = both_same old mid new still.passes rest.passes })
      free mid new settled (inr lost) none = inr (none, (settled.still (inr lost.1)).tenancy ∙ lost.1)

      -- a lane that takes part before and after has the same passes
      taking : (mid new : Outlet) → IsSettled roll one two mid new → StaysOrLost old mid → is_open old ≡ true → is_open new ≡ true → SamePasses old new
      taking mid new settled (inl still) was on = both_same old mid new still.passes (settled.passes on)
      taking mid new settled (inr lost) was on =
          let leased : is_let mid ≡ true = (settled.takes.0 on).0 in
          absurd (true≢false (sym leased ∙ ap (λ t. lets t && has_end mid) lost.1))

-- if the lane at one place stops taking part, the lanes that take part are still ones that the roll shows
pub shown_but : (roll : Roll) (taking : List Bool) (place : ℕ) → AreShown roll taking → AreShown roll (slice_set taking place false)
shown_but roll taking place shown k is = shown k (before taking place k is)
  where
    -- a place that takes part once one lane is closed took part before
    before : (xs : List Bool) (n j : ℕ) → slice_get (slice_set xs n false) j ≡ Some true → slice_get xs j ≡ Some true
    before [] n j e = e
    before (x ∷ xs) zero zero e = cc
    before (x ∷ xs) zero (suc j) e = e
    before (x ∷ xs) (suc n) zero e = e
    before (x ∷ xs) (suc n) (suc j) e = before xs n j e

module _ {X K : Type 0} {rule : Ghosts K X} where
  -- A subscriber was given a lane (p to q), and then the publisher looked (q to r).
  pub seated : (p q r : Publisher X K rule) (seat : Seat X K rule) (s : Subscriber X K rule)
      → place_at s ≡ place_before seat
      → receives_queue s ≡ receives_at seat
      → receives_view s ≡ receives_before seat
      → AtLane (place_before seat) (WasLetOf (receives_at seat) (receives_before seat)) (lanes_of p) (lanes_of q)
      → EachOther (place_before seat) StaysOrLost (lanes_of p) (lanes_of q)
      → table_of q ≡ table_of p
      → holders_in (lanes_of q) ≡ holders_in (lanes_of p)
      → EachLane (IsSettled (roll_of r) (table_of q) (table_of r)) (lanes_of q) (lanes_of r)
      → KeepsRest (lanes_of q) (table_of q) (table_of r)
      → WasSeated p r s
  seated p q r seat s at queue theirs leased others table holders settled rest =
      record {
        between = lanes_of q;
        holders = holders;
        leased = moved (lanes_of p) (lanes_of q) at queue theirs leased;
        others = subst (λ k. EachOther k StaysOrLost (lanes_of p) (lanes_of q)) (sym at) others;
        settled = subst (λ t. EachLane (IsSettled (roll_of r) t (table_of r)) (lanes_of q) (lanes_of r)) table settled;
        rest = subst (λ t. KeepsRest (lanes_of q) t (table_of r)) table rest;
      }

  -- the look does not show the subscriber that was given a lane
  pub not_shown : (owner : ℕ) (p r : Publisher X K rule) (s : Subscriber X K rule) → (record_of s).owner ≡ owner
      → WasSeated p r s
      → (changed : Bool)
      → HasLooked changed (roll_of p) (roll_of r)
      → (slice_get (open_in (lanes_of r)) (place_at s) ≡ Some true → ⊥)
      → WasNotShown owner p r s
  not_shown owner p r s its seat changed looked off =
      record {
        its = its;
        seated = seat;
        changed = changed;
        looked = looked;
        hidden =
            hidden_after (place_at s) (lanes_of p) seat.between (lanes_of r) seat.settled (receives_queue s) (receives_view s) seat.leased off;
      }
