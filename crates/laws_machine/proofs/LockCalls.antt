-- What a step of any call of the robust set leaves known of the indices that its recoveries have freed; a
-- recovery in mode LockIfLastIndex is such a call.
use Rattle.std.proofs.Common.{arith}
use Rattle.laws_machine.proofs.Names.{◌≡◌, ◌≢◌, ℕ, ◌-◌, ◌^◌, ◌<◌, true, Option, Some, None, List, [], ◌∷◌, ◌++◌, refl}
use Rattle.laws_machine.proofs.Names.{sym, ap, subst, ◌∙◌, append_assoc, append-nil, AllByRecursion, After}
use Rattle.laws_machine.proofs.Names.{ReleaseMode, ReleaseState, raise_want, lock_want}
use Rattle.laws_machine.proofs.Names.{Running, went_on, Answer, State}
use Rattle.laws_machine.proofs.Names.{Event, Finished, Start, Robust, Flight, RobustStart, RobustFlight, Party}
use Rattle.laws_machine.proofs.Names.{ask_of, is_question, recover_effects, as_it_is, party_of, whose, as_call}
use Rattle.laws_machine.proofs.Names.{answer_in, old_of, ending_of, IsReached, Trace, AreOwn, AreRight, Death}
use Rattle.laws_machine.proofs.Names.{both_ways, Scene, Inv, Knows, raise_asks_none, lock_asks_none, IsHere, all, now}
use Rattle.steps.specs.declared.indices.robust.recover.Recover as recover_calls
use Rattle.steps.specs.declared.indices.robust.recover.RecoverStage.{RecoverStage}
use Rattle.steps.specs.declared.indices.robust.recover.RecoverStage.TheVariants as recovers
use Rattle.steps.specs.Indices.Robust.Recover.{recover_asks, recover_takes}
use Rattle.model.specs.declared.families.indices.robust.RobustStart.TheVariants as starts
use Rattle.model.specs.declared.families.indices.robust.calls.RobustFlight.TheVariants as calls
use Rattle.model.specs.declared.turn.Kind.TheVariants as kinds
use Rattle.model.specs.Families.Indices.Robust.Calls.{want, after}
use Rattle.model.specs.Families.Indices.Robust.Steps.{effects}
use Rattle.model.proofs.Frame as frame
use Rattle.laws_robust.proofs.Invariant.{family}
use Rattle.laws_robust.proofs.Sound.{reached_sound, scene_of, inv_of}
use Rattle.laws_robust.proofs.Stages.{any_call}
use Rattle.laws_robust.proofs.CallProgress.{recover_at, At, RecoverAt}
use Rattle.laws_robust.proofs.Written.{effects_hold}
use Rattle.laws_machine.specs.Recoveries.{LocksRight}
use Rattle.laws_machine.proofs.LockKnows.{CallKnows, FlightKnows}
use Rattle.laws_machine.proofs.LockSteps.{Tells, steps, decided}
use Rattle.laws_machine.proofs.CallTransition.{left_by}

-- ---- of each event that a turn writes, `LocksRight` holds

module _ {T : Type 0} where
  -- where each event of two lists, one behind the other, is right by `P`, each event of both together is
  pub right_append : (P : List (Event T) → Event T → Type 0) (before xs ys : List (Event T)) → AreRight P before xs
      → AreRight P (before ++ xs) ys → AreRight P before (xs ++ ys)
  right_append P before [] ys first_right second_right = rw (← append-nil before) second_right
  right_append P before (x ∷ xs) ys first_right second_right =
      (first_right.0, right_append P (before ++ x ∷ []) xs ys first_right.1 (rw (append_assoc before (x ∷ []) xs) second_right))

  -- `LocksRight` holds of the event, whatever events stand before it
  abbrev pub IsFree : Event T → Type 0
  IsFree e = (before : List (Event T)) → LocksRight before e

  -- if `IsFree` holds of each event, they are right together
  free_right : (before es : List (Event T)) → AllByRecursion IsFree es → AreRight LocksRight before es
  free_right before [] all_free = tt
  free_right before (e ∷ es) all_free = (all_free.0 before, free_right (before ++ e ∷ []) es all_free.1)

  -- the event is one of the party
  abbrev pub IsOf : ℕ → Event T → Type 0
  IsOf p e = whose e ≡ Some p

  -- where the events are of the party, they are its own with the end of its call
  pub all_own : (p : ℕ) (es : List (Event T)) (start : Start T) (outcome : Option (Answer T))
      → AllByRecursion (IsOf p) es → AreOwn p (es ++ ending_of p start outcome)
  all_own p [] start None all_of_party = tt
  all_own p [] start (Some answer) all_of_party = (refl, tt)
  all_own p (e ∷ es) start outcome all_of_party = (all_of_party.0, all_own p es start outcome all_of_party.1)

module _ (T : Type 0) where
  -- `LocksRight` holds of each event that a step of a call writes, the end of the call aside, whatever stands before it
  pub effects_free : (p : ℕ) (call : RobustFlight) (old : ℕ) → AllByRecursion (IsFree {T = T}) (effects {T = T} p call old)
  effects_free = grind (arith, effects_hold)

  -- what a call writes are events of its party
  pub effects_own : (p : ℕ) (call : RobustFlight) (old : ℕ) → AllByRecursion (IsOf {T = T} p) (effects {T = T} p call old)
  effects_own = grind (arith, effects_hold)

-- ---- a step of a call

module _ {T : Type 0} (c p : ℕ) (events : List (Event T)) where
  -- what the call writes for this answer, with its end if it is done
  abbrev pub wrote_by : RobustStart → RobustFlight → ℕ → List (Event T)
  wrote_by start call answer =
      effects p call answer ++ ending_of p (Robust start) (answer_in (any_call (after {T = T} call answer)))

  -- what the step of a call leaves for this answer: the call knows what its stage says, and
  -- the events are right
  pub record Leaves (start : RobustStart) (call : RobustFlight) (answer : ℕ) : Type 0 where
    pub knows : FlightKnows c p (left_by (any_call (after {T = T} call answer))) (events ++ wrote_by start call answer)
    pub right : AreRight LocksRight events (wrote_by start call answer)

  -- ---- a call of which nothing is to be known
  module _ (call : RobustFlight) (answer : ℕ) where
    -- where the end of a call is right whatever stands before it, the step need only show
    -- what the call then knows
    freely : (start : RobustStart)
        → FlightKnows c p (left_by (any_call (after {T = T} call answer))) (events ++ wrote_by start call answer)
        → ((a : Answer T) → IsFree (Finished p (Robust start) a)) → Leaves start call answer
    freely start knows free =
        record {
          knows = knows;
          right =
              right_append LocksRight events (effects p call answer)
              (ending_of p (Robust start) (answer_in (any_call (after {T = T} call answer))))
              (free_right events (effects p call answer) (effects_free T p call answer))
              (ends (answer_in (any_call (after {T = T} call answer))));
        }
      where
        -- if the step ends the call, this end is right, since it is so whatever stands before it
        ends : (o : Option (Answer T)) → AreRight LocksRight (events ++ effects p call answer) (ending_of p (Robust start) o)
        ends None = tt
        ends (Some a) = (free a (events ++ effects p call answer), tt)

  -- ---- a recovery
  module _ (mode : ReleaseMode) (stage : RecoverStage) (answer : ℕ) where
    -- what the step leaves of the recovery
    abbrev outcome : After recover_calls.Recover ReleaseState
    outcome = recover_takes (record { capacity = c; stage = stage }) stage mode answer

    -- the events of the step
    abbrev did : List (Event T)
    did = recover_effects p stage answer

    abbrev as_any : After recover_calls.Recover ReleaseState → After (Flight T) (Answer T)
    as_any a = any_call (as_call calls.Recover State (went_on as_it_is mode tt a))

    -- the event of the recovery's end, if the step ends it
    abbrev ends : After recover_calls.Recover ReleaseState → List (Event T)
    ends a = ending_of p (Robust (starts.Recover mode)) (answer_in (as_any a))

    -- a recovery that goes on knows what its stage says; one that has ended has nothing to know
    knows : (a : After recover_calls.Recover ReleaseState) → Tells c mode p (events ++ did) a → FlightKnows c p (left_by (as_any a)) (events ++ (did ++ ends a))
    knows = grind (arith, append-nil)

    -- if the step ends a recovery, and tells what `Tells` asks, the end is right
    ends_right : (m : ReleaseMode) (a : After recover_calls.Recover ReleaseState) → Tells c m p (events ++ did) a
        → AreRight LocksRight (events ++ did)
        (ending_of p (Robust (starts.Recover m))
        (answer_in (any_call {T = T} (as_call calls.Recover State (went_on as_it_is m tt a)))))
    ends_right = grind arith

    -- where a step of a recovery tells what `Tells` asks, it leaves what `Leaves` asks
    pub recovered : Tells c mode p (events ++ did) outcome → Leaves (starts.Recover mode) (recover_at c mode stage) answer
    recovered = grind (arith, knows, right_append, ends, free_right, effects_free, ends_right)

-- ---- a step of any call

module _ {T : Type 0} where
  -- a call goes on knowing what its stage says, where each call of its kind does
  goes_known : {C G M E A : Type 0} (c p : ℕ) (es : List (Event T)) (f : Running C G M → RobustFlight)
      (g : A → Answer T) (h : E → G → M → A) (given : G) (room : M) (a : After C E)
      → ((r : Running C G M) → CallKnows c p (f r) es)
      → FlightKnows c p (left_by (any_call (as_call f g (went_on h given room a)))) es
  goes_known = grind arith

-- a party of a machine of the robust set, which turns have reached, so few that no counter is at its end
pub record Caller {T : Type 0} (t : Trace T) : Type 0 where
  pub kind_is : t.world.kind ≡ kinds.Robust
  pub reached : IsReached t
  pub p : ℕ
  pub x : Party T
  pub since : ℕ
  pub small : t.world.turns < 2 ^ 64 - 2
  pub found : party_of p t.world.latest ≡ Some x

module _ {T : Type 0} {t : Trace T} (caller : Caller t) where
  open caller use {kind_is, reached, p, x, since, small, found}

  abbrev c : ℕ
  c = t.world.capacity

  abbrev sound : Type 0
  sound = frame.Sound (family t.world.coding t.world.capacity) t

  abbrev s : sound
  s = reached_sound t kind_is reached

  abbrev scene : Scene T
  scene = scene_of Death t.world.coding t.world.capacity t s p x since

  -- the invariant of the set holds before the step
  inv : Inv scene
  inv = let holds_for = inv_of Death t.world.coding t.world.capacity t s in holds_for p x since found small

  -- what the call of `p` knows of the events so far
  abbrev KnowsNow : RobustFlight → Type 0
  KnowsNow call = CallKnows c p call t.events

  -- the step of a call that knows what its stage says leaves what `Leaves` asks
  abbrev StepLeaves : RobustStart → RobustFlight → Type 0
  StepLeaves start call = Knows c call (now scene) → KnowsNow call → Leaves c p t.events start call (old_of s.state.words (ask_of (want call)))

  -- a step of a recovery leaves what `Leaves` asks
  recover_leaves : (mode : ReleaseMode) → IsHere scene (starts.Recover mode) → (stage : RecoverStage)
      → RecoverAt c mode (all scene) stage → StepLeaves (starts.Recover mode) (recover_at c mode stage)
  recover_leaves mode here stage at k h =
      recovered c p t.events mode stage (old_of s.state.words (ask_of (recover_asks stage))) (steps inv mode here refl stage at k h)

  -- a step of any other call leaves what `Leaves` asks
  others_leave : (start : RobustStart) (call : RobustFlight) (answer : ℕ) → At c (all scene) start call
      → ((mode : ReleaseMode) → start ≢ starts.Recover mode) → Leaves c p t.events start call answer
  others_leave = grind (arith, freely, goes_known, as_it_is)

  -- a step of any call leaves what `Leaves` asks, where the call stands at its stage and
  -- knows what the stage says
  pub step_leaves : (start : RobustStart) (call : RobustFlight) → IsHere scene start → At c (all scene) start call → StepLeaves start call
  step_leaves (starts.Recover mode) (calls.Recover run) here at =
      subst (StepLeaves (starts.Recover mode))
      (sym (ap (λ n. recover_at n run.given run.call.stage) at.0 ∙ ap (λ m. recover_at c m run.call.stage) at.1))
      (recover_leaves mode here run.call.stage at.2)
  step_leaves (starts.Acquire owner) call here at =
      λ k h. others_leave (starts.Acquire owner) call (old_of s.state.words (ask_of (want call))) at (λ mode e. absurd (cc))
  step_leaves (starts.Release index owner mode) call here at =
      λ k h. others_leave (starts.Release index owner mode) call
      (old_of s.state.words (ask_of (want call))) at (λ mode e. absurd (cc))
  step_leaves (starts.Find owner) call here at =
      λ k h. others_leave (starts.Find owner) call (old_of s.state.words (ask_of (want call))) at (λ mode e. absurd (cc))
  step_leaves starts.BorrowedIndices call here at =
      λ k h. others_leave starts.BorrowedIndices call (old_of s.state.words (ask_of (want call))) at (λ mode e. absurd (cc))
  step_leaves starts.IsLocked call here at =
      λ k h. others_leave starts.IsLocked call (old_of s.state.words (ask_of (want call))) at (λ mode e. absurd (cc))
  step_leaves start call here at = absurd at

  -- a decision for a call that waits for one leaves what `Leaves` asks
  abbrev DecisionLeaves : ℕ → RobustStart → RobustFlight → Type 0
  DecisionLeaves answer start call = is_question (want call) ≡ true → KnowsNow call → Leaves c p t.events start call answer

  -- a decision for a recovery leaves what `Leaves` asks
  recover_decides : (answer : ℕ) (mode : ReleaseMode) → IsHere scene (starts.Recover mode)
      → (stage : RecoverStage) → DecisionLeaves answer (starts.Recover mode) (recover_at c mode stage)
  recover_decides answer mode here recovers.LoadsCounter due h = absurd (cc)
  recover_decides answer mode here (recovers.LoadsCell index) due h = absurd (cc)
  recover_decides answer mode here (recovers.Asks index owner) due h =
      recovered c p t.events mode (recovers.Asks index owner) answer (decided inv mode here refl index owner answer h)
  recover_decides answer mode here (recovers.EmptiesCell index owner) due h = absurd (cc)
  recover_decides answer mode here (recovers.Raises index raise) due h = both_ways (is_question (raise_want raise)) (raise_asks_none raise) due
  recover_decides answer mode here (recovers.Locks index lock) due h = both_ways (is_question (lock_want lock)) (lock_asks_none lock) due
  recover_decides answer mode here recovers.LoadsCounterAgain due h = absurd (cc)

  -- a decision for any call leaves what `Leaves` asks
  pub decision_leaves : (answer : ℕ) (start : RobustStart) (call : RobustFlight) → IsHere scene start
      → At c (all scene) start call → DecisionLeaves answer start call
  decision_leaves answer (starts.Recover mode) (calls.Recover run) here at =
      subst (DecisionLeaves answer (starts.Recover mode))
      (sym (ap (λ n. recover_at n run.given run.call.stage) at.0 ∙ ap (λ m. recover_at c m run.call.stage) at.1))
      (recover_decides answer mode here run.call.stage)
  decision_leaves answer (starts.Acquire owner) call here at =
      λ due h. others_leave (starts.Acquire owner) call answer at (λ mode e. absurd (cc))
  decision_leaves answer (starts.Release index owner mode) call here at =
      λ due h. others_leave (starts.Release index owner mode) call answer at (λ mode e. absurd (cc))
  decision_leaves answer (starts.Find owner) call here at =
      λ due h. others_leave (starts.Find owner) call answer at (λ mode e. absurd (cc))
  decision_leaves answer starts.BorrowedIndices call here at =
      λ due h. others_leave starts.BorrowedIndices call answer at (λ mode e. absurd (cc))
  decision_leaves answer starts.IsLocked call here at = λ due h. others_leave starts.IsLocked call answer at (λ mode e. absurd (cc))
  decision_leaves answer start call here at = absurd at
