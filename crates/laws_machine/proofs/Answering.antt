-- A call of the robust set puts no question again once it has an answer. Its questions (whether an owner is
-- dead) are put by a find and by a recovery.
use Rattle.std.proofs.Common.{arith}
use Rattle.laws_machine.proofs.Names.{◌≡◌, ℕ, ◌+◌, ◌==◌, nat_lt, Bool, true, false, Option, None, refl, sym}
use Rattle.laws_machine.proofs.Names.{subst, if◌then◌else◌, After, GoOn, Done, ReleaseMode, ReleaseState}
use Rattle.laws_machine.proofs.Names.{raise_want, lock_want, went_on, release_asks, Answer}
use Rattle.laws_machine.proofs.Names.{Number, State, Start, Flight, RobustFlight, Party, Turn, Decide, Coding}
use Rattle.laws_machine.proofs.Names.{goes_of, want_of, is_question, GoesOn, as_it_is, as_call, refusal_of, is_due}
use Rattle.laws_machine.proofs.Names.{number_of, after_turn, IsReached, Trace, flight_in, turn_making, passes}
use Rattle.laws_machine.proofs.Names.{must_be_due, StandsThere, both_ways, robust_keeps, raise_asks_none}
use Rattle.laws_machine.proofs.Names.{count_asks_none, lock_asks_none, acquire_asks_none, release_asks_none, find_at}
use Rattle.steps.specs.declared.indices.robust.find.FindStage.{FindStage}
use Rattle.steps.specs.declared.indices.robust.find.FindStage.TheVariants as finds
use Rattle.steps.specs.declared.indices.robust.recover.RecoverStage.{RecoverStage}
use Rattle.steps.specs.declared.indices.robust.recover.RecoverStage.TheVariants as recovers
use Rattle.model.specs.declared.families.indices.robust.calls.RobustFlight.TheVariants as calls
use Rattle.model.specs.declared.turn.Kind.TheVariants as kinds
use Rattle.model.specs.Families.Indices.Robust.Calls.{want, after}
use Rattle.model.proofs.Frame as frame
use Rattle.laws_robust.proofs.Invariant.{family}
use Rattle.laws_robust.proofs.Sound.{reached_sound}
use Rattle.laws_robust.proofs.Stages.{any_call}
use Rattle.laws_robust.proofs.CallProgress.{recover_at}
use Rattle.laws_machine.specs.Questions.{IsAnswered}
use Rattle.laws_machine.proofs.CallTransition.{left_by, decision_left, under_way}

module _ {T : Type 0} (code : Coding T) where
  -- after this the call waits for a decision
  abbrev due_by : After RobustFlight (Answer T) → Bool
  due_by a = is_due code (left_by (any_call a))

  -- a find that gets an answer to its question does not wait for another decision next
  find_done : (c owner : ℕ) (stage : FindStage) (answer : ℕ) → is_question (want (find_at c owner stage)) ≡ true
      → due_by (after {T = T} (find_at c owner stage) answer) ≡ false
  find_done c owner (finds.LoadsCell i found) answer due = absurd (cc)
  find_done c owner (finds.Asks i found) answer due = go (answer == 0) (nat_lt (i + 1) c)
    where
      -- the cases are whether the answer is no, and whether a further index follows
      go : (b more : Bool) → due_by (as_call {A = ℕ} calls.Find Number
          (went_on as_it_is owner tt
          (if b then Done found else
          (if more then GoOn (record { capacity = c; stage = finds.LoadsCell (i + 1) found }) else Done found))))
          ≡ false
      go true more = refl
      go false true = refl
      go false false = refl

  -- a recovery that gets an answer to its question does not wait for another decision next
  recover_done : (c : ℕ) (mode : ReleaseMode) (stage : RecoverStage) (answer : ℕ)
      → is_question (want (recover_at c mode stage)) ≡ true
      → due_by (after {T = T} (recover_at c mode stage) answer) ≡ false
  recover_done c mode recovers.LoadsCounter answer due = absurd (cc)
  recover_done c mode (recovers.LoadsCell i) answer due = absurd (cc)
  recover_done c mode (recovers.Asks i owner) answer due = go (answer == 0) (nat_lt (i + 1) c)
    where
      -- the cases are whether the answer is no and whether a further index follows
      go : (b more : Bool) → due_by (as_call {A = ReleaseState} calls.Recover State
          (went_on as_it_is mode tt
          (if b then GoOn
          (record { capacity = c; stage = if more then recovers.LoadsCell (i + 1) else recovers.LoadsCounterAgain })
          else GoOn (record { capacity = c; stage = recovers.EmptiesCell i owner }))))
          ≡ false
      go true true = refl
      go true false = refl
      go false more = refl
  recover_done c mode (recovers.EmptiesCell i owner) answer due = absurd (cc)
  recover_done c mode (recovers.Raises i raise) answer due = both_ways (is_question (raise_want raise)) (raise_asks_none raise) due
  recover_done c mode (recovers.Locks i lock) answer due = both_ways (is_question (lock_want lock)) (lock_asks_none lock) due
  recover_done c mode recovers.LoadsCounterAgain answer due = absurd (cc)

  -- no call of the set waits for another decision once it has an answer
  set_done : (flight : RobustFlight) (answer : ℕ) → is_question (want flight) ≡ true → due_by (after {T = T} flight answer) ≡ false
  set_done = grind (arith, both_ways, acquire_asks_none, release_asks, release_asks_none, find_done, recover_done, count_asks_none)

-- in a machine of the robust set that turns have reached
module _ {T : Type 0} (t : Trace T) (kind_is : t.world.kind ≡ kinds.Robust) (reached : IsReached t) where
  abbrev code : Coding T
  code = t.world.coding

  -- the invariant of the set of owners holds after the run
  s : frame.Sound (family t.world.coding t.world.capacity) t
  s = reached_sound t kind_is reached

  -- a call that stands in the machine waits for no other decision once it has an answer
  flight_done : (p : ℕ) (x : Party T) (since : ℕ) (start : Start T) (flight : Flight T) (answer : ℕ)
      → StandsThere (family t.world.coding t.world.capacity) t s p x since start flight
      → is_question (want_of code flight) ≡ true
      → is_due code (left_by (goes_of code p flight answer t.world.kept)) ≡ false
  flight_done = grind (arith, set_done)

  -- once a turn has decided for a party, its call waits for no decision
  by_call : (p : ℕ) (said : Bool) → GoesOn t.world (Decide p said) (after_turn t (Decide p said)).world
      → (o : Option (Flight T)) → flight_in t.world p ≡ o → is_due code o ≡ true
      → is_due code (flight_in (after_turn t (Decide p said)).world p) ≡ false
  by_call = grind (arith, under_way, family, s, decision_left, after_turn, flight_done, number_of)

  -- after a turn that decides for a party, that party waits for no decision
  pub answered : (turn : Turn T) → refusal_of t.world turn ≡ None → IsAnswered turn (after_turn t turn)
  answered turn free p said name =
      let allowed = subst (λ u. refusal_of t.world u ≡ None) name free in
      rw name (subst (λ z. is_due z (flight_in (after_turn t (Decide p said)).world p) ≡ false) (sym (turn_making t.world (Decide p said)).coding)
      (by_call p said (robust_keeps.turn t (Decide p said) kind_is allowed reached).call (flight_in t.world p) refl
      (frame.is_true (is_due t.world.coding (flight_in t.world p)) (must_be_due t.world p said (passes t.world (Decide p said) allowed).on))))
