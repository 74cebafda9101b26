-- What a wrong body of `rejoin` or `passes_on` would leave, and which of the call's clauses refuses that. A
-- lemma's name says what the body does.
use Rattle.std.proofs.Common.{◌≡◌, ℕ, ◌+◌, ◌-◌, ◌^◌, ◌<◌, None, true, false, true≢false, List, [], ◌∷◌, ◌++◌}
use Rattle.std.proofs.Common.{length, length-append, sum_by, ap, refl, sym, ◌∙◌, arith}
use Rattle.std.specs.Prelude.{is_some}
use Rattle.model.specs.declared.event.Event.{Event}
use Rattle.model.specs.declared.event.Item.{Item}
use Rattle.model.specs.Families.Queues.Reading.{handed_out}
use Rattle.threaded.specs.Shares.{IsAll}
use Rattle.history.specs.declared.view.View.{View}
use Rattle.lock_free_queues.specs.Queues.Overflowing.{HasHistory}
use Rattle.lock_free_queues.specs.Queues.Rings.{consumer_view}
use Rattle.zero_copy_bus.specs.declared.outlet.Outlet.{Outlet}
use Rattle.zero_copy_bus.specs.declared.outlet.Tenancy.{Tenancy}
use Rattle.zero_copy_bus.specs.declared.outlet.Tenancy.TheVariants.{Free, Closed, Open, Lost}
use Rattle.zero_copy_bus.specs.Outlets.{closes, is_lost, lets, takes_view, waits_queue, waits_view, FoundEmpty, IsFree, WasDrained, WasRejoined}
use Rattle.zero_copy_bus.specs.Relays.{HasAllOf, LanesPassOn}
use Rattle.zero_copy_loans.specs.declared.words.Layout.{Layout}

-- `rejoin` takes a pass in, and keeps the publisher's guard of the lane
pub rejoin_keeps_its_end : (theirs : View ℕ) (old new : Outlet) → new.sends ≡ old.sends → is_some old.sends ≡ true → WasRejoined theirs old new
    → ⊥
rejoin_keeps_its_end theirs old new same some k = true≢false (sym some ∙ ap is_some (sym same ∙ (k.1 some).none))

-- a tenancy that is Free after `rejoin` was Free before
closes_free : (t : Tenancy) → closes t ≡ Free → t ≡ Free
closes_free Free is = is
closes_free Closed is = is
closes_free Open is = absurd (true≢false (ap lets is))
closes_free Lost is = is

-- `rejoin` loses no lane
closes_lost : (t : Tenancy) → is_lost (closes t) ≡ is_lost t
closes_lost Free = refl
closes_lost Closed = refl
closes_lost Open = refl
closes_lost Lost = refl

-- `rejoin` frees a lane
pub rejoin_frees_the_lane : (theirs : View ℕ) (old new : Outlet) → ¬ IsFree old → IsFree new → WasRejoined theirs old new → ⊥
rejoin_frees_the_lane theirs old new taken free k = taken (closes_free old.tenancy (sym k.0.tenancy ∙ free))

-- `rejoin` leaves a lane Open
pub rejoin_lets_him_take_part : (theirs : View ℕ) (old new : Outlet) → old.tenancy ≡ Open → new.tenancy ≡ Open → WasRejoined theirs old new → ⊥
rejoin_lets_him_take_part theirs old new was still k =
    let closed : Closed ≡ Open = sym (ap closes was) ∙ (sym k.0.tenancy ∙ still) in
    cc

-- `rejoin` drops the pass of a lane of which the publisher has no guard
pub rejoin_drops_the_pass : (theirs : View ℕ) (old new : Outlet) → old.sends ≡ None → waits_view new ≡ waits_view old → 0 < length theirs.made
    → WasRejoined theirs old new
    → ⊥
rejoin_drops_the_pass theirs old new none same some k =
    let joined = ap length (k.2 none).both.made in
    let parts = length-append (waits_view old).made theirs.made in
    let still = ap (λ (v : View ℕ). length v.made) same in
    absurd (omega arith)

-- `rejoin` loses a lane, so that nobody gets it any more
pub rejoin_loses_the_lane : (theirs : View ℕ) (old new : Outlet) → is_lost old.tenancy ≡ false → is_lost new.tenancy ≡ true
    → WasRejoined theirs old new
    → ⊥
rejoin_loses_the_lane theirs old new had lost k =
    true≢false (sym lost ∙ (ap is_lost k.0.tenancy ∙ (closes_lost old.tenancy ∙ had)))

-- `rejoin` pops a slot that came back, and forgets it
pub rejoin_takes_out_what_came_back : (theirs : View ℕ) (item : Item ℕ) (old new : Outlet)
    → handed_out (takes_view new).seen ≡ handed_out (takes_view old).seen ++ item ∷ []
    → WasRejoined theirs old new
    → ⊥
rejoin_takes_out_what_came_back theirs item old new more k =
    let a = ap length more in
    let b = length-append (handed_out (takes_view old).seen) (item ∷ []) in
    let c = ap length (ap handed_out (ap (λ (v : View ℕ). v.seen) (ap consumer_view k.0.takes))) in
    absurd (omega arith)

-- `rejoin` makes a guard of a lane of which the publisher had none
pub rejoin_makes_an_end : (theirs : View ℕ) (old new : Outlet) → old.sends ≡ None → is_some new.sends ≡ true → WasRejoined theirs old new → ⊥
rejoin_makes_an_end theirs old new none some k = true≢false (sym some ∙ ap is_some (k.2 none).none)

-- The publisher had no guard, and after `rejoin` the lane's pass, with the whole share, has seen more than it
-- has made: what the subscriber's pass had made was left out.
pub rejoin_leaves_out_what_was_made : (theirs : View ℕ) (old new : Outlet) (f : Event ℕ → ℕ) → old.sends ≡ None → IsAll (waits_view new).share
    → sum_by f (waits_view new).made < sum_by f (waits_view new).seen
    → WasRejoined theirs old new
    → ⊥
rejoin_leaves_out_what_was_made theirs old new f none whole less k = let same = (k.2 none).all whole f in absurd (omega arith)

-- the publisher had no guard, and after `rejoin` the lane's pass has seen what no queue of this capacity does
pub rejoin_sees_what_never_was : (theirs : View ℕ) (old new : Outlet) → old.sends ≡ None
    → ¬ HasHistory (waits_queue new).capacity (waits_view new)
    → WasRejoined theirs old new
    → ⊥
rejoin_sees_what_never_was theirs old new none never k = never (k.2 none).history

-- ---- what is known of the lanes

-- an `update` that frees a lane takes out less than what waited
pub passes_on_loses_what_was_drained : (layout : Layout) (sent back received : List ℕ) (old new : Outlet) → HasAllOf layout sent back received old
    → WasDrained old new
    → FoundEmpty old new
    → new.sends ≡ old.sends
    → 0 < (waits_queue old).capacity
    → length sent < 2 ^ 64 - 1
    → ((came : List ℕ) → HasAllOf layout sent back (received ++ came) new → length (received ++ came) + length back < length sent)
    → LanesPassOn
    → ⊥
passes_on_loses_what_was_drained layout sent back received old new all drained empty end room few less k =
    let it = k.drains layout sent back received old new all drained empty end room few in
    let lost = less it.0 it.1 in
    let counted = it.2 in
    absurd (omega arith)
