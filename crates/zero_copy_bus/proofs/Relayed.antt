-- The law `LanesPassOn` of what went out by a lane, derived from the laws of a channel's
-- two ends (`zero_copy_loans`).
use Rattle.std.proofs.Common.{◌≡◌, ℕ, ◌+◌, ◌-◌, ◌^◌, ◌<◌, List, [], ◌++◌, length, sym, ap, subst, ◌∙◌, append-nil}
use Rattle.history.specs.declared.view.View.{View}
use Rattle.lock_free_queues.specs.Queues.Contracts.{HasJoined, HasReleased}
use Rattle.steps.specs.declared.queues.roles.Role.TheVariants as roles
use Rattle.lock_free_queues.specs.Queues.Rings.{QueueId, queue_of, view}
use Rattle.history.specs.Passes.{Goes}
use Rattle.zero_copy_bus.specs.declared.outlet.Outlet.{Outlet}
use Rattle.zero_copy_bus.specs.Ends.{shape_of}
use Rattle.zero_copy_bus.specs.Outlets.{sends_view, waits_queue, waits_view, FoundEmpty, IsNew, WasDrained, WasLet, WasTakenIn}
use Rattle.zero_copy_bus.specs.Relays.{HasAllOf, HasSentOn, LanesPassOn}
use Rattle.zero_copy_loans.specs.Numbers.{numbers_in, Shape, HasAll, IsPassedOn, ReceivesOn, SendsOn}
use Rattle.zero_copy_loans.specs.declared.words.Layout.{Layout}
use Rattle.lock_free_queues.specs.Queues.Merges.{HasTaken}
use Rattle.lock_free_queues.proofs.Queues.TakenOut.{takes_all, takes_none}
use Rattle.zero_copy_bus.proofs.Drained.{has_drained, none_left}
use Rattle.zero_copy_loans.proofs.Numbers.{received_nothing_yet, receives_all, receives_then, sends_all, sends_then, sent_none}
use Rattle.zero_copy_loans.proofs.Relayed.{passed_on, relays, starts_at}

-- nothing has gone out by a new lane
begins : (layout : Layout) (lane : Outlet) → IsNew lane → HasAllOf layout [] [] [] lane
begins layout lane new =
    record { none = new.none; all = starts_at (shape_of layout (waits_queue lane)) (waits_queue lane).capacity (waits_view lane) new.first }

-- One lane from its opening until its passes are joined again: what was sent by it before (`sent`), what goes out now (`numbers`), and what
-- comes to its subscriber (`came`).
module _ (layout : Layout) (sent back received numbers others came : List ℕ) (first leased last after : Outlet) (theirs end left : View ℕ)
    (known : HasAllOf layout sent back received first) (lets : WasLet theirs first leased) (out : HasSentOn layout numbers others leased last)
    (got : ReceivesOn (shape_of layout (waits_queue first)) came theirs end) (goes : Goes end left) (released : HasReleased roles.Consumer end left)
    (ends : WasTakenIn left last after) (some : 0 < (waits_queue first).capacity) (fits : length sent + length numbers < 2 ^ 64 - 1) where
  abbrev s : Shape
  s = shape_of layout (waits_queue first)

  last_queue : waits_queue last ≡ waits_queue leased
  last_queue = ap queue_of out.waits

  -- the guard's pass has sent, until its role was released, the numbers that went out since the lane was let
  sends : SendsOn s (numbers ++ []) (others ++ []) (sends_view leased) ends.ours.ended
  sends =
      sends_then s numbers others [] [] (sends_view leased) (sends_view last) ends.ours.ended
      (subst (λ (q : QueueId). SendsOn (shape_of layout q) numbers others (sends_view leased) (sends_view last)) lets.queue
      (out.sends (subst (λ (q : QueueId). 0 < q.capacity) (sym lets.queue) some)))
      (sends_all s roles.Producer (sends_view last) ends.ours.ended ends.ours.goes ends.ours.released ends.ours.list)

  -- the subscriber's pass has received the same when its role is released
  receives : ReceivesOn s (came ++ []) theirs left
  receives = receives_then s came [] theirs end left got (receives_all s roles.Consumer end left goes released)

  -- the guard's pass was joined into the lane's, as it was when the lane was let
  joined : HasJoined (waits_view leased) ends.ours.ended ends.half
  joined = subst (λ v. HasJoined v ends.ours.ended ends.half) (ap view out.waits) ends.ours.both

  -- the pass that was split is the lane's own, since there was no guard
  cut_of : lets.whole ≡ waits_view first
  cut_of = lets.from known.none

  -- the publisher's pass knows all that was sent, came back and was received, once the other end is taken in
  all : HasAll s (sent ++ numbers) (back ++ others) (received ++ came) (waits_view after)
  all =
      relays s (waits_queue after).capacity sent back received numbers others came lets.whole lets.half lets.ours (waits_view leased)
      lets.other (sends_view leased) theirs ends.ours.ended left ends.half (waits_view after) fits
      (subst (HasAll s sent back received) (sym cut_of) known.all) lets.cut lets.again
      (sent_none s lets.ours (sends_view leased) roles.Producer lets.begins.0 lets.begins.1)
      (received_nothing_yet s lets.other theirs roles.Consumer lets.waits.0 lets.waits.1)
      (subst (λ ns. SendsOn s ns others (sends_view leased) ends.ours.ended) (append-nil numbers)
      (subst (λ ns. SendsOn s (numbers ++ []) ns (sends_view leased) ends.ours.ended) (append-nil others) sends))
      (subst (λ ns. ReceivesOn s ns theirs left) (append-nil came) receives) joined ends.both ends.all ends.history

  -- what is known of the lane goes on, once the other end is taken in
  goes_on : HasAllOf layout (sent ++ numbers) (back ++ others) (received ++ came) after
  goes_on =
      record {
        none = ends.none;
        all =
            subst (λ (q : QueueId). HasAll (shape_of layout q) (sent ++ numbers) (back ++ others) (received ++ came) (waits_view after))
            (sym (ends.queue ∙ (last_queue ∙ lets.queue))) all;
      }

-- The lane is drained: a pass takes out what waits, finds the queue empty, and ends.
module _ (layout : Layout) (sent back received : List ℕ) (old new : Outlet) (known : HasAllOf layout sent back received old) (d : WasDrained old new)
    (found : FoundEmpty old new) (end : new.sends ≡ old.sends) (some : 0 < (waits_queue old).capacity) (fits : length sent < 2 ^ 64 - 1) where
  abbrev its : Shape
  its = shape_of layout (waits_queue old)

  abbrev words : List ℕ
  words = (d.took some).0

  -- the pass that drained the lane has popped these words
  popped : HasTaken words d.other d.left
  popped =
      takes_all words roles.Consumer d.other d.ended d.left
      ((d.took some).1 d.other [] (takes_none roles.Consumer d.other d.begun d.begins.0 d.begins.1)) d.ends.0 d.ends.1

  -- the numbers of these words count as received
  drained : HasAll its sent back (received ++ numbers_in layout.room words) (waits_view new)
  drained =
      has_drained its (waits_queue new).capacity sent back received words (waits_view old) d.kept d.other d.left (waits_view new) fits
      known.all d.cut popped d.both d.all d.history

  -- what is taken out of a lane that is drained counts as received, and nothing is left then
  drains : (came : List ℕ) × HasAllOf layout sent back (received ++ came) new × (length (received ++ came) + length back ≡ length sent)
  drains = (
    numbers_in layout.room words,
    record {
      none = end ∙ known.none;
      all =
          subst (λ (q : QueueId). HasAll (shape_of layout q) sent back (received ++ numbers_in layout.room words) (waits_view new)) (sym d.queue)
          drained;
    },
    none_left its (waits_queue new).capacity sent back received words (waits_view old) d.kept d.other d.left (waits_view new) fits
        known.all d.cut popped d.both d.all d.history (found.0 some),
  )

-- what the lane's pass knows says that a beginning was received or came back
tells : (layout : Layout) (sent back received : List ℕ) (lane : Outlet) → HasAllOf layout sent back received lane → IsPassedOn sent received back
tells layout sent back received lane h = passed_on (shape_of layout (waits_queue lane)) sent back received (waits_view lane) h.all

pub lanes_pass_on : LanesPassOn
lanes_pass_on = record { begins = begins; goes_on = goes_on; drains = drains; tells = tells }
