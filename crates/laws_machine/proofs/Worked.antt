-- The definitions at worked runs, and at what a wrong machine would leave, which they refuse.
use Rattle.laws_machine.proofs.Names.{◌≡◌, ℕ, ◌==◌, if◌then◌else◌, is_some, Bool, true, false, Option, Some, None, List}
use Rattle.laws_machine.proofs.Names.{[], ◌∷◌, ◌++◌, slice_index, refl, arith, change_word, LockIfLastIndex}
use Rattle.laws_machine.proofs.Names.{Default, State, Number, Truth, Event, Begun, Filled, FreedOf, Asked, Finished}
use Rattle.laws_machine.proofs.Names.{Start, Robust, Container, Flight, Going, Turn, Begin, Next, Decide, Die, one_word}
use Rattle.laws_machine.proofs.Names.{IsFilled, asked_of, owned_of, Frees, set_acts_of, IsOneOf, put, ask_in}
use Rattle.laws_machine.proofs.Names.{after_turn, Trace, kept_opened, flight_in, held_now, no_more, find_at}
use Rattle.steps.specs.declared.indices.enums.ReleaseState.TheVariants as states
use Rattle.steps.specs.declared.indices.robust.find.FindStage.TheVariants as finds
use Rattle.steps.specs.declared.indices.robust.recover.RecoverStage.TheVariants as recovers
use Rattle.model.specs.declared.event.Answer.TheVariants.{Index}
use Rattle.model.specs.declared.families.Flight.TheVariants as flights
use Rattle.model.specs.declared.families.container.ContainerStart.TheVariants as containers
use Rattle.model.specs.declared.families.indices.robust.RobustStart.TheVariants.{Acquire, Find, Recover}
use Rattle.model.specs.declared.turn.Kind.TheVariants as kinds
use Rattle.model.proofs.Moments.{so_by_events}
use Rattle.model.proofs.Runs.{begins, ran}
use Rattle.laws_robust.proofs.CallProgress.{recover_at}
use Rattle.laws_machine.specs.Changes.{changes_of, CountsChanges, MeetsChanges}
use Rattle.laws_machine.specs.Others.{queue_in}
use Rattle.laws_machine.specs.Questions.{IsAnswered, AsksAtOnce, FindsAsking, loads_cell}
use Rattle.laws_machine.specs.Recoveries.{LocksRight}

-- the run with another call in place of the party's
abbrev instead : Trace ℕ → ℕ → Start ℕ → Flight ℕ → Trace ℕ
instead t p start flight =
    record {
      world = record t.world { latest = put p (record { start = start; steps = 2; backs = 0; doing = Going flight 0 }) t.world.latest };
      events = t.events;
    }

-- ---- questions of the robust set, whose index 0 of two is filled with owner 1

-- party 0 acquires index 0 for owner 1
abbrev one_filled : List (Turn ℕ)
one_filled = begins 0 (Robust (Acquire 1)) 4

abbrev recover : Start ℕ
recover = Robust (Recover Default)

-- then owner 1 dies, and party 1 begins a recovery
abbrev recovers_it : Trace ℕ
recovers_it = ran one_word kinds.Robust 2 2 (one_filled ++ Die 1 ∷ begins 1 recover 1)

abbrev asks_it : Trace ℕ
asks_it = after_turn recovers_it (Next 1)

-- the turn writes that party 1 asks about index 0 and owner 1
pub it_asks : asks_it.events ≡ recovers_it.events ++ Asked 1 0 1 ∷ []
it_asks = refl

-- after the turns of `asks_it`, party 1 asks owner 1 of index 0
pub asks_now : owned_of one_word (flight_in asks_it.world 1) ≡ Some (0, 1)
asks_now = refl

-- refused: a recovery that writes that it asks, and goes on as after a no
pub no_lost_question : AsksAtOnce recovers_it (instead asks_it 1 recover (flights.Robust (recover_at 2 Default recovers.LoadsCounterAgain))) → ⊥
no_lost_question asks_at_once = apart (asks_at_once (Asked 1 0 1 ∷ []) refl).0
  where
    apart : ◌≡◌ {A = Option (ℕ × ℕ)} None (Some (0, 1)) → ⊥
    apart e = cc

abbrev find : Start ℕ
find = Robust (Find 1)

-- party 1 begins a find of owner 1
abbrev begins_find : Trace ℕ
begins_find = ran one_word kinds.Robust 2 2 (one_filled ++ Begin 1 find ∷ [])

abbrev asks_find : Trace ℕ
asks_find = after_turn begins_find (Next 1)

-- the find loads cell 0 first
pub find_loads : ask_in begins_find.world (Next 1) ≡ Some (loads_cell 0)
find_loads = refl

-- after the turns of `asks_find`, party 1 asks about index 0
pub find_asks : asked_of one_word (flight_in asks_find.world 1) ≡ Some 0
find_asks = refl

-- refused: a find that never asks
pub no_silent_find : FindsAsking begins_find (Next 1) (instead asks_find 1 find (flights.Robust (find_at 2 1 (finds.LoadsCell 1 1)))) → ⊥
no_silent_find finds_asking = apart (finds_asking 1 1 0 refl (refl, tt) refl)
  where
    apart : ◌≡◌ {A = Option ℕ} None (Some 0) → ⊥
    apart e = cc

-- refused: a find that asks twice
pub no_second_question : IsAnswered (Decide 1 true) (instead (after_turn asks_find (Decide 1 true)) 1 find (flights.Robust (find_at 2 1 (finds.Asks 0 1)))) → ⊥
no_second_question answered = apart (answered 1 true refl)
  where
    apart : true ≡ false → ⊥
    apart e = cc

-- ---- the lock of a recovery

abbrev locking : Start ℕ
locking = Robust (Recover LockIfLastIndex)

-- the only index that is filled is freed by a recovery
abbrev last_freed : List (Event ℕ)
last_freed = Filled 0 0 1 ∷ Begun 1 locking ∷ FreedOf 1 0 1 ∷ []

abbrev unlocked : Event ℕ
unlocked = Finished 1 locking (State states.Unlocked)

-- no index is filled afterwards
none_filled : (other : ℕ) → IsFilled other last_freed → ⊥
none_filled other filled = go (0 == other) filled
  where
    -- the cases are whether the index is 0
    go : (b : Bool) → is_some {T = ℕ} (if b then None else (if b then Some 1 else None)) ≡ true → ⊥
    go true is_there = cc
    go false is_there = cc

unfreed : IsOneOf (Frees 0 1) [] → ⊥
unfreed one = no_more one.before (Frees 0 1) one.after one.is

-- refused: a recovery that never locks
pub no_open_end : LocksRight last_freed unlocked → ⊥
no_open_end locks_right =
    let since = locks_right 0 1 (record { before = []; after = []; is = refl }) in
    so_by_events 1 (λ part. IsOneOf (Frees 0 1) (set_acts_of 1 part) × IsFilled since.other part) last_freed
    ((λ h. unfreed h.0), ((λ h. unfreed h.0), ((λ h. unfreed h.0), (λ h. none_filled since.other h.1)))) since.once

-- right: a recovery that does not lock, where another index is filled, with owner 2
pub right_where_one_is_left : LocksRight (Filled 0 1 2 ∷ last_freed) unlocked
right_where_one_is_left index owner frees =
    record { other = 1; once = held_now 1 _ (Filled 0 1 2 ∷ last_freed) (frees, refl) }

-- ---- what a container counts

abbrev get : Start ℕ
get = Container containers.GetState

abbrev update : Start ℕ
update = Container containers.UpdateState

-- party 0 has made a `get_state`
abbrev looked : List (Event ℕ)
looked = Begun 0 get ∷ Finished 0 get (Number 0) ∷ []

-- party 1 ends an `add`
abbrev added : Event ℕ
added = Finished 1 (Container (containers.Add 5 1)) (Index 0)

-- refused: an update that answers true without a change
pub no_idle_true : MeetsChanges (looked ++ Begun 0 update ∷ []) (Finished 0 update (Truth true)) → ⊥
no_idle_true meets_changes = absurd (omega arith)

-- right: an update that answers true after an add
pub true_by_add : MeetsChanges (looked ++ added ∷ Begun 0 update ∷ []) (Finished 0 update (Truth true))
true_by_add = omega arith

-- refused: an update that answers false after an add
pub no_false_by_add : MeetsChanges (looked ++ added ∷ Begun 0 update ∷ []) (Finished 0 update (Truth false)) → ⊥
no_false_by_add meets_changes = apart meets_changes
  where
    apart : ◌≡◌ {A = ℕ} 1 0 → ⊥
    apart e = cc

-- 5 is added, and a recovery of an owner who has nothing comes to its end
abbrev counted : Trace ℕ
counted =
    ran one_word kinds.Container 1 2
    (begins 0 (Container (containers.Add 5 1)) 8 ++ Die 3 ∷ begins 1 (Container (containers.Recover 3 Default)) 4)

-- the add and the recovery are two changes, and the word counts two
pub two_changes : changes_of counted.events ≡ 2
two_changes = refl

-- the word of changes counts two changes
pub two_counted : slice_index counted.world.words (change_word 1) ≡ 2
two_counted = refl

-- refused: a recovery that does not raise the number of changes
pub no_missed_change : CountsChanges (record {
  world = counted.world;
  events = counted.events ++ Finished 1 (Container (containers.Recover 3 Default)) (State states.Unlocked) ∷ [];
}) → ⊥
no_missed_change h = apart h
  where
    apart : ◌≡◌ {A = ℕ} 2 3 → ⊥
    apart e = cc

-- ---- a channel of four slots whose submission queue has room for two

-- a channel opened with a queue of two keeps this capacity
pub queue_of_two : queue_in {T = ℕ} (kept_opened kinds.Loan 4 2) ≡ Some 2
queue_of_two = refl
