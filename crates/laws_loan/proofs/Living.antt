-- A party that has died does nothing more: each event that a turn writes is of a living party, since the
-- rows did not refuse the turn.
use Rattle.laws_loan.proofs.Names.{◌≡◌, ℕ, Bool, false, Option, Some, None, List, [], ◌∷◌, ◌++◌, refl, subst}
use Rattle.laws_loan.proofs.Names.{◌∙◌, fold-append, Event, Begun, Start, Flight, Registry, Doing, Party}
use Rattle.laws_loan.proofs.Names.{Turn, Begin, Next, Decide, Die, Coding, step_of, going_rows, is_dead, has_died}
use Rattle.laws_loan.proofs.Names.{LivesRight, died_after, has_died_by, Each, call_refusal, first_row, events_of_step}
use Rattle.laws_loan.proofs.Names.{events_of_answer, events_of_next, events_of_decision, events_of}
use Rattle.laws_loan.proofs.Names.{number_of, after_turn, Trace, flight_in, AreRight, Each-append}
use Rattle.laws_loan.proofs.Names.{may_begin, may_die, next_passes, decision_passes, MayBegin, stands_there}
use native.Mathlib.Omega.{arith}
use Rattle.model.specs.Parties.{party_of}
use Rattle.model.proofs.Frame as frame
use Rattle.laws_loan.proofs.Channel.{Channel, Represents, kept_is}
use Rattle.laws_loan.proofs.StepLaw.{channel}

module _ {T : Type 0} where
  -- ---- what the step of a living party writes

  -- the event is no death of the party `p`, and it is right where `p` is alive
  abbrev Writes : ℕ → Event T → Type 0
  Writes p e = ((dead : Bool) → died_after p dead e ≡ dead) × ((before : List (Event T)) → has_died_by p before ≡ false → LivesRight before e)

  abbrev AllWritten : ℕ → List (Event T) → Type 0
  AllWritten p [] = Unit {0}
  AllWritten p (e ∷ es) = Writes p e × AllWritten p es

  -- events of which each is as `Writes` asks are right together, where `p` is alive before them
  written_right : (p : ℕ) (before es : List (Event T)) → has_died_by p before ≡ false → AllWritten p es → AreRight LivesRight before es
  written_right p before [] alive all = tt
  written_right p before (e ∷ es) alive all =
      let still : has_died_by p (before ++ e ∷ []) ≡ false = fold-append (died_after p) false before (e ∷ []) ∙ (all.0.0 (has_died_by p before) ∙ alive) in
      (all.0.1 before alive, written_right p (before ++ e ∷ []) es still all.1)

module _ {T : Type 0} (code : Coding T) (slots queue : ℕ) where
  -- the events of a step of a call are each as `Writes` asks
  step_written : (z : Coding T) (words : List ℕ) (push : Option (ℕ × ℕ)) (s : Channel T) (p : ℕ) (start : Start T)
      (flight : Flight T) (old : ℕ) (kept : Registry T)
      → Represents kept words s → (channel code slots queue).At s p start flight
      → AllWritten p (events_of_step p start (step_of z words push p start flight old kept))
  step_written = grind arith

  module _ (t : Trace T) (sound : frame.Sound (channel code slots queue) t) where
    -- a party that is alive by the book is alive by the events
    alive_by : (p : ℕ) → has_died p sound.state.book.dead ≡ false → has_died_by p t.events ≡ false
    alive_by = grind (arith, false)

    -- ---- a call begins

    -- the begin that a turn admits is of a living party
    begins : (p : ℕ) (start : Start T) → MayBegin t.world p start → LivesRight t.events (Begun p start)
    begins = grind arith

    -- ---- a call goes on

    module _ (p : ℕ) (said : Option Bool) (passed : first_row (going_rows t.world.coding t.world.kept (flight_in t.world p) said) ≡ None) where
      -- where no row refuses the step of a call, its party is alive
      goes_alive : (start : Start T) (flight : Flight T) → (channel code slots queue).At sound.state p start flight
          → first_row (going_rows t.world.coding t.world.kept (Some flight) said) ≡ None
          → has_died p sound.state.book.dead ≡ false
      goes_alive = grind arith

      -- the events of a party's step or decision are of a living party
      answered : (x : Party T) (answer : ℕ) (doing : Doing T) → party_of p t.world.latest ≡ Some x → x.doing ≡ doing
          → AreRight LivesRight t.events (events_of_answer t.world p x answer doing)
      answered = grind (arith, stands_there, first_row, written_right, alive_by, goes_alive, step_written)

    -- the events of a party's next turn are as `LivesRight` asks
    next : (p : ℕ) → first_row (going_rows t.world.coding t.world.kept (flight_in t.world p) None) ≡ None
        → (o : Option (Party T)) → party_of p t.world.latest ≡ o
        → AreRight LivesRight t.events (events_of_next t.world p o)
    next = grind (arith, answered)

    -- the events of a decision are as `LivesRight` asks
    decided : (p : ℕ) (said : Bool)
        → first_row (going_rows t.world.coding t.world.kept (flight_in t.world p) (Some said)) ≡ None
        → (o : Option (Party T)) → party_of p t.world.latest ≡ o
        → AreRight LivesRight t.events (events_of_decision t.world p said o)
    decided = grind (arith, answered, number_of)

    -- ---- any turn

    -- each event of a turn that is not refused is of a party that has not died before
    turn_right : (turn : Turn T) → call_refusal t.world turn ≡ None → AreRight LivesRight t.events (events_of t.world turn)
    turn_right (Begin p start) not_refused = (begins p start (may_begin t.world p start not_refused), tt)
    turn_right (Next p) not_refused = next p (next_passes t.world p not_refused) (party_of p t.world.latest) refl
    turn_right (Decide p said) not_refused = decided p said (decision_passes t.world p said not_refused) (party_of p t.world.latest) refl
    turn_right (Die o) not_refused =
        let kept_there = kept_is t.world.kept t.world.words sound.state sound.fit in
        (alive_by o (subst (λ kept. is_dead kept o ≡ false) kept_there.kept (may_die t.world o not_refused).lives), tt)

    -- where each event of a run is of a living party, this holds after a turn that is not refused
    pub turn_lives : (turn : Turn T) → call_refusal t.world turn ≡ None → Each LivesRight t.events → Each LivesRight (after_turn t turn).events
    turn_lives turn not_refused all = Each-append LivesRight t.events (events_of t.world turn) all (turn_right turn not_refused)
