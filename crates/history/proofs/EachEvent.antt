-- A property of events holds of each event of a run, if it holds of what each step of a call writes, and of
-- every begin and end (`each_event`).
use Rattle.std.proofs.Common.{arith}
use Rattle.history.proofs.Names.{◌≡◌, ◌⊎◌, ℕ, Bool, true, Option, Some, None, List, [], ◌∷◌}
use Rattle.history.proofs.Names.{◌++◌, refl, Answer, Event, Begun, Finished, Died, Start, Flight, Doing, Going, Over}
use Rattle.history.proofs.Names.{Party, Refusal, Turn, Decide, want_of, ask_of}
use Rattle.history.proofs.Names.{party_of, doing_of, flight_of, Each, call_refusal, is_due, after_turn}
use Rattle.history.proofs.Names.{events_of, events_of_next, events_of_decision, events_of_answer, ending_of, old_of, number_of}
use Rattle.history.proofs.Names.{ask_of_doing, unless_refused, run_on, step_in, Trace}
use Rattle.history.proofs.Names.{flight_in, Family, Sound, AreRight, Each-append, LawsWhere, AllMay}
use Rattle.history.proofs.Names.{attempt_sound}

-- what a step of a call is handed: what stands in the word that it asks for, or the answer to its question
abbrev pub IsHanded : {T : Type 0} → Trace T → Flight T → ℕ → Type 0
IsHanded t flight n = (n ≡ old_of t.world.words (ask_of (want_of t.world.coding flight))) ⊎ (is_due t.world.coding (Some flight) ≡ true)

-- F is the family, P what is to be so of each event by those before it
module _ {T : Type 0} {F : Family T} {May : Trace T → Turn T → Type 0} (laws : LawsWhere F May)
    (P : List (Event T) → Event T → Type 0)
    (begun : (before : List (Event T)) (p : ℕ) (start : Start T) → P before (Begun p start))
    (finished : (before : List (Event T)) (p : ℕ) (start : Start T) (answer : Answer T) → P before (Finished p start answer))
    (died : (before : List (Event T)) (owner : ℕ) → P before (Died owner))
    (writes : (t : Trace T) → Sound F t → (p n : ℕ) (x : Party T) (flight : Flight T) (since : ℕ)
    → party_of p t.world.latest ≡ Some x → x.doing ≡ Going flight since → IsHanded t flight n
    → AreRight P t.events (step_in t.world p x flight n).wrote) where
  -- events that are right, and others that are right after anything, are right together
  both : (before xs ys : List (Event T)) → AreRight P before xs → ((b : List (Event T)) → AreRight P b ys) → AreRight P before (xs ++ ys)
  both before [] ys first_right second_right = second_right before
  both before (x ∷ xs) ys first_right second_right = (first_right.0, both (before ++ x ∷ []) xs ys first_right.1 second_right)

  -- the end of a call is right
  ending_right : (p : ℕ) (start : Start T) (o : Option (Answer T)) (before : List (Event T)) → AreRight P before (ending_of p start o)
  ending_right = grind arith

  module _ {t : Trace T} (s : Sound F t) where
    -- what a call at this place is handed with n
    abbrev HandedAt : ℕ → Doing T → Type 0
    HandedAt n (Over others) = Unit {0}
    HandedAt n (Going flight since) = IsHanded t flight n

    -- what the machine writes with an answer of a word or to a question is right
    answer_right : (p n : ℕ) (x : Party T) → party_of p t.world.latest ≡ Some x → (doing : Doing T)
        → x.doing ≡ doing → HandedAt n doing → AreRight P t.events (events_of_answer t.world p x n doing)
    answer_right = grind (arith, both, step_in, ending_right)

    -- what a turn that goes on with a call writes is right
    next_right : (p : ℕ) (o : Option (Party T)) → party_of p t.world.latest ≡ o → AreRight P t.events (events_of_next t.world p o)
    next_right = grind (arith, answer_right, old_of, ask_of_doing)

    -- what the machine writes with an answer to a question is right
    decision_right : (p : ℕ) (said : Bool) (o : Option (Party T)) → party_of p t.world.latest ≡ o
        → is_due t.world.coding (flight_of (doing_of o)) ≡ true
        → AreRight P t.events (events_of_decision t.world p said o)
    decision_right = grind (arith, answer_right, number_of, is_due, flight_of)

    -- an answer that is not refused is one for which a call waits
    due_of : (p : ℕ) (said : Bool) → call_refusal t.world (Decide p said) ≡ None → is_due t.world.coding (flight_in t.world p) ≡ true
    due_of = grind arith

    -- what any turn that is not refused writes is right
    turn_right : (turn : Turn T) → call_refusal t.world turn ≡ None → AreRight P t.events (events_of t.world turn)
    turn_right = grind (arith, next_right, decision_right, due_of)

  -- a turn leaves each event of the history right, whether it is refused or not
  attempt_right : {t : Trace T} (turn : Turn T) (o : Option Refusal) → call_refusal t.world turn ≡ o → Sound F t
      → Each P t.events → Each P (unless_refused t (after_turn t turn) o).events
  attempt_right {t} turn None free sound all = Each-append P t.events (events_of t.world turn) all (turn_right sound turn free)
  attempt_right turn (Some refusal) free sound all = all

  -- in a run each event is right, where all events before its turns were
  pub each_event : (turns : List (Turn T)) {t : Trace T} → AllMay May turns t → Sound F t → Each P t.events → Each P (run_on turns t).events
  each_event [] may sound all = all
  each_event (turn ∷ turns) {t} may sound all =
      each_event turns may.1
      (attempt_sound F May laws t turn (call_refusal t.world turn) refl may.0 sound)
      (attempt_right turn (call_refusal t.world turn) refl sound all)
