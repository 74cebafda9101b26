-- What a step of a recovery of the robust set leaves it knowing of the indices that it has freed; and where
-- it answers Unlocked, what it has found.
use Rattle.laws_machine.proofs.Names.{◌≡◌, ◌≢◌, ⊎_elim, ℕ, ◌+◌, ◌==◌, nat_lt, if◌then◌else◌, is_some, Bool, true, false}
use Rattle.laws_machine.proofs.Names.{Option, Some, List, [], ◌∷◌, ◌++◌, refl, sym, ap, subst, ◌∙◌, append-nil, arith}
use Rattle.laws_machine.proofs.Names.{nat_tests, fold-append, After, GoOn, Done, Ask, ReleaseMode, LockIfLastIndex}
use Rattle.laws_machine.proofs.Names.{Default, ReleaseState, Unlocked, Lock, Raise, empty, locked, raise_want}
use Rattle.laws_machine.proofs.Names.{raise_after, lock_after, lock_goes_back, Event, FreedOf, Asked, Told, ask_of}
use Rattle.laws_machine.proofs.Names.{IsFilled, SetAct, Frees, set_acts, set_acts_of, IsOneOf, locked_by}
use Rattle.laws_machine.proofs.Names.{recover_effects, BeginsNone, old_of, words_after, held_now, AreOwn, Death}
use Rattle.laws_machine.proofs.Names.{counter_of, is_shut, unlocked, IsWorn, Scene, Inv, LockSays, Knows, IsHere}
use Rattle.laws_machine.proofs.Names.{Lengthens, all, now, set_acts_more, LockAt, NoIndex, FoundFilled, filled_locked}
use Rattle.laws_machine.proofs.Names.{filled_last, filled_each}
use Rattle.steps.specs.declared.indices.enums.ReleaseState.TheVariants as states
use Rattle.steps.specs.declared.indices.robust.parts.Count.TheVariants as counts
use Rattle.steps.specs.declared.indices.robust.parts.Lock.TheVariants as parts
use Rattle.steps.specs.declared.indices.robust.parts.Raise.TheVariants as raises
use Rattle.steps.specs.declared.indices.robust.recover.Recover as calls
use Rattle.steps.specs.declared.indices.robust.recover.RecoverStage.{RecoverStage}
use Rattle.steps.specs.declared.indices.robust.recover.RecoverStage.TheVariants as recovers
use Rattle.steps.specs.Indices.Robust.Recover.{recover_asks, recover_takes, recover_comes_to, recover_raised}
use Rattle.steps.specs.Indices.Robust.Recover.{recover_locked}
use Rattle.model.specs.declared.event.Event.TheVariants.{Locked}
use Rattle.model.specs.declared.families.indices.robust.RobustStart.TheVariants.{Recover}
use Rattle.model.specs.Families.Indices.Reading.{locked_after}
use Rattle.laws_robust.proofs.SetActs.{was_one}
use Rattle.laws_robust.proofs.Parts.{lock_ask, lock_step, IsSaid}
use Rattle.laws_robust.proofs.CallProgress.{recover_at, RecoverAt}
use Rattle.laws_machine.specs.Recoveries.{FilledSinceEach}
use Rattle.laws_machine.proofs.LockKnows.{Settled, StageKnows, settled_then}

module _ {T : Type 0} where
  -- what the recovery's answer says: in the mode that locks, Unlocked says that some index was filled after
  -- each that it freed
  abbrev pub EndSays : ReleaseMode → ReleaseState → ℕ → List (Event T) → Type 0
  EndSays LockIfLastIndex Unlocked p events = FilledSinceEach p events
  EndSays mode state p events = Unit {0}

  -- what is to be shown of a step of the recovery: what its next stage knows, or what its answer says
  abbrev pub Tells : ℕ → ReleaseMode → ℕ → List (Event T) → After calls.Recover ReleaseState → Type 0
  Tells c mode p events (GoOn call) = StageKnows c mode p call.stage events
  Tells c mode p events (Done state) = EndSays mode state p events

-- the party `p` recovers in this mode, and an owner is gone as he dies; `c` is the capacity, `ws` the words
-- before the step
module _ {T : Type 0} {scene : Scene T} (inv : Inv scene) (mode : ReleaseMode) (here : IsHere scene (Recover mode)) (dies : scene.by ≡ Death) where
  open scene use {capacity as c, party as p, events as events}

  abbrev ws : List ℕ
  ws = scene.set.words

  -- the recovery at a stage
  abbrev call_at : RecoverStage → calls.Recover
  call_at stage = record { capacity = c; stage = stage }

  -- what `Tells` asks holds after a step that wrote `did`, where `a` is how the recovery goes on or ends
  abbrev TellsAfter : List (Event T) → After calls.Recover ReleaseState → Type 0
  TellsAfter did a = Tells c mode p (events ++ did) a

  -- where an index was filled after each that it freed, a recovery may go on to a cell, or to the second
  -- look at the counter
  comes_to : (stage : RecoverStage) (did : List (Event T)) (index : ℕ) → Settled mode p (events ++ did)
      → TellsAfter did (recover_comes_to (call_at stage) index)
  comes_to stage did index settled = go (nat_lt index c)
    where
      -- the cases are whether the set has this index
      go : (b : Bool) → StageKnows c mode p (if b then recovers.LoadsCell index else recovers.LoadsCounterAgain) (events ++ did)
      go true = settled
      go false = settled

  -- a step that writes nothing leaves what is settled
  calm : Settled mode p events → Settled mode p (events ++ [])
  calm settled = subst (Settled mode p) (sym (append-nil events)) settled

  -- one event that frees nothing leaves what is settled
  once : (e : Event T) (d : SetAct) → AreOwn p (e ∷ []) → BeginsNone p (e ∷ []) → Lengthens (e ∷ [])
      → set_acts (e ∷ []) ≡ d ∷ [] → ((i owner : ℕ) → d ≢ Frees i owner) → Settled mode p events
      → Settled mode p (events ++ e ∷ [])
  once e d own none longer acts_are other settled =
      settled_then p events (e ∷ []) none
      (λ i owner was. ⊎_elim (λ had. had) (λ now. absurd (other i owner now))
      (was_one (Frees i owner) d (set_acts_of p events)
      (subst (IsOneOf (Frees i owner))
      (set_acts_more scene (Recover mode) here (e ∷ []) own longer ∙ ap (λ ds. set_acts_of p events ++ ds) acts_are) was)))
      mode settled

  -- ---- the lock

  -- the recovery is in the lock, after it has freed the index `index`
  module _ (index : ℕ) (lock : Lock) (may_lock : mode ≡ LockIfLastIndex) (at : LockAt c lock)
      (knows : Knows c (recover_at c mode (recovers.Locks index lock)) (now scene))
      (f : LockSays c (FoundFilled p events) lock) where
    -- a step of the lock after which the lock comes to `r` leaves what `Tells` asks of the recovery
    abbrev locks_to : Option Ask → Bool → List (Event T) → After Lock ReleaseState → Type 0
    locks_to ask back did r = TellsAfter did (recover_locked (call_at (recovers.Locks index lock)) index r)

    -- what a lock says that it has found filled holds as it begins, and goes on to hold at each
    -- cell, empty or filled
    said : IsSaid scene inv (FoundFilled p events)
    said =
        record {
          none = λ some. absurd (omega arith);
          empty_next = λ j filled low none h. h;
          filled_next =
              λ j filled o low is h some. record {
                other = j;
                once = held_now p (λ part. IsFilled j part × (set_acts_of p part ≡ set_acts_of p events)) events (ap is_some is, refl);
              };
        }

    -- a step of the lock leaves what `Tells` asks: the recovery is still in the lock, comes to its next
    -- cell, or ends
    locks_step : locks_to (Some (lock_ask lock)) (lock_goes_back lock (old_of ws (Some (lock_ask lock))))
        (locked_by p lock (old_of ws (Some (lock_ask lock)))) (lock_after c lock (old_of ws (Some (lock_ask lock))))
    locks_step =
        lock_step scene inv (FoundFilled p events) said locks_to lock at knows.paid knows.scanned f
        (λ next ask back stays next_at paid scanned says few. subst (λ es. LockSays c (FoundFilled p es) next) (sym (append-nil events)) says)
        (λ ask same shut paid few. comes_to (recovers.Locks index lock) [] (index + 1)
        (calm (λ owner. filled_locked p owner ⊥ mode NoIndex events (is_shut scene inv shut))))
        (λ filled ask stays open_now more says paid few. comes_to (recovers.Locks index lock) []
        (index + 1) (calm (λ owner. filled_last p owner ⊥ mode NoIndex events (says more))))
        (λ ask stays open_now worn paid few. absurd (subst (λ b. IsWorn b (words_after ws ask)) dies worn))
        (λ ask none less new paid few. comes_to (recovers.Locks index lock) (Locked p ∷ []) (index + 1)
        (λ owner. filled_locked p owner ⊥ mode NoIndex (events ++ Locked p ∷ [])
        (fold-append locked_after false events (Locked p ∷ []))))

  -- ---- the raise

  -- whatever the raise of the counter comes to, it leaves what `Tells` asks
  raise_steps : (index : ℕ) (stage : RecoverStage) (m : ReleaseMode) → mode ≡ m → (r : After Raise ReleaseState)
      → TellsAfter [] (recover_raised (call_at stage) index m r)
  raise_steps = grind (arith, comes_to)

  -- ---- the second look at the counter

  -- the second look at the counter ends the recovery, and its answer says what `EndSays` asks
  again : Settled mode p events → (b : Bool) → (counter_of ws == locked) ≡ b → EndSays mode (if b then states.Locked else Unlocked) p (events ++ [])
  again settled b locked_test = subst (EndSays mode (if b then states.Locked else Unlocked) p) (sym (append-nil events)) (go mode refl b locked_test)
    where
      -- the cases are whether the counter is locked
      go : (m : ReleaseMode) → mode ≡ m → (b : Bool) → (counter_of ws == locked) ≡ b → EndSays m (if b then states.Locked else Unlocked) p events
      go LockIfLastIndex mode_is true is_locked = tt
      go Default mode_is true is_locked = tt
      go Default mode_is false not_locked = tt
      go LockIfLastIndex mode_is false not_locked =
          let open_now : counter_of ws ≢ locked = grind (arith, nat_tests) in
          λ index owner freed. ⊎_elim (λ worn. absurd worn) (λ filled. filled)
          (filled_each p owner ⊥ LockIfLastIndex events (unlocked scene inv open_now)
          (subst (λ n. Settled n p events) mode_is settled owner) index freed)

  -- ---- any step

  -- the recovery's step at this stage leaves what `Tells` asks
  abbrev Steps : RecoverStage → Type 0
  Steps stage =
      RecoverAt c mode (all scene) stage → Knows c (recover_at c mode stage) (now scene) → StageKnows c mode p stage events
      → TellsAfter (recover_effects p stage (old_of ws (ask_of (recover_asks stage))))
      (recover_takes (call_at stage) stage mode (old_of ws (ask_of (recover_asks stage))))

  -- a decision leaves what `Tells` asks
  pub decided : (index owner answer : ℕ) → Settled mode p events
      → TellsAfter (recover_effects p (recovers.Asks index owner) answer)
      (recover_takes (call_at (recovers.Asks index owner)) (recovers.Asks index owner) mode answer)
  decided index owner answer settled = go (answer == 0)
    where
      -- the cases are whether the answer is no
      go : (b : Bool) → TellsAfter (if b then [] else Told p index owner ∷ [])
          (if b then recover_comes_to (call_at (recovers.Asks index owner)) (index + 1) else GoOn
          (record { capacity = c; stage = recovers.EmptiesCell index owner }))
      go true = comes_to (recovers.Asks index owner) [] (index + 1) (calm settled)
      go false = once (Told p index owner) _ (refl, tt) tt (λ start w. refl) refl (λ i o e. absurd (cc)) settled

  -- each step leaves what `Tells` asks
  pub steps : (stage : RecoverStage) → Steps stage
  steps recovers.LoadsCounter at k h = go (counter_of ws == locked)
    where
      -- an answer Locked says nothing, in either mode
      shut : (m : ReleaseMode) → EndSays m states.Locked p (events ++ [])
      shut LockIfLastIndex = tt
      shut Default = tt

      -- the cases are whether the counter is locked
      go : (b : Bool) → TellsAfter [] (if b then Done states.Locked else recover_comes_to (call_at recovers.LoadsCounter) 0)
      go true = shut mode
      go false = comes_to recovers.LoadsCounter [] 0 (calm h)
  steps (recovers.LoadsCell index) at k h =
      go (old_of ws (ask_of (recover_asks (recovers.LoadsCell index))))
      (old_of ws (ask_of (recover_asks (recovers.LoadsCell index))) == empty)
    where
      -- the cases are whether the cell is empty
      go : (old : ℕ) (b : Bool)
          → TellsAfter (if b then [] else Asked p index old ∷ [])
          (if b then recover_comes_to (call_at (recovers.LoadsCell index)) (index + 1) else GoOn
          (record { capacity = c; stage = recovers.Asks index old }))
      go old true = comes_to (recovers.LoadsCell index) [] (index + 1) (calm h)
      go old false = once (Asked p index old) _ (refl, tt) tt (λ start w. refl) refl (λ i o e. absurd (cc)) h
  steps (recovers.Asks index owner) at k h = decided index owner 0 h
  steps (recovers.EmptiesCell index owner) at k h = go (old_of ws (ask_of (recover_asks (recovers.EmptiesCell index owner))) == owner)
    where
      -- the cases are whether the cell still has the owner
      go : (b : Bool) → TellsAfter (if b then FreedOf p index owner ∷ [] else [])
          (if b then GoOn (record { capacity = c; stage = recovers.Raises index raises.LoadsCounter })
          else recover_comes_to (call_at (recovers.EmptiesCell index owner)) (index + 1))
      go = grind (arith, comes_to, calm)
  steps (recovers.Raises index raise) at k h =
      raise_steps index (recovers.Raises index raise) mode refl (raise_after raise (old_of ws (ask_of (raise_want raise))))
  steps (recovers.Locks index (parts.Counts counts.LoadsCounter)) at k h =
      locks_step index (parts.Counts counts.LoadsCounter) at.2 at.3 k h
  steps (recovers.Locks index (parts.Counts (counts.LoadsCell number i filled))) at k h =
      locks_step index (parts.Counts (counts.LoadsCell number i filled)) at.2 at.3 k h
  steps (recovers.Locks index (parts.Counts (counts.ExchangesCounter number filled))) at k h =
      locks_step index (parts.Counts (counts.ExchangesCounter number filled)) at.2 at.3 k h
  steps (recovers.Locks index (parts.ExchangesCounter number)) at k h =
      locks_step index (parts.ExchangesCounter number) at.2 at.3 k h
  steps recovers.LoadsCounterAgain at k h = again h (counter_of ws == locked) refl
