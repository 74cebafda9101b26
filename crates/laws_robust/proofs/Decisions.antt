-- What a decision does: a no ends a find at the index that it asked about, and a yes tells a recovery to free
-- the index that it asked about. No other turn tells a recovery to free an index.
use Rattle.laws_robust.proofs.Names.{◌≡◌, ◌≢◌, ℕ, Bool, true, false, Option, Some, None, is_none, List, ◌++◌, refl}
use Rattle.laws_robust.proofs.Names.{arith, AllByRecursion, ReleaseMode, RecoverStage, Answer, Event, Start, Robust}
use Rattle.laws_robust.proofs.Names.{Flight, Registry, RobustStart, RobustFlight, Going, Party, Turn, Next, Decide}
use Rattle.laws_robust.proofs.Names.{Coding, want_of, ask_of, is_question, beside_of, step_of, want, after, owned_by}
use Rattle.laws_robust.proofs.Names.{IsIn, IsStopped, FindsUpTo, ToldRight, TellsOnce, IsTold, YesTells, effects}
use Rattle.laws_robust.proofs.Names.{party_of, refusal_of, is_due, call_refusal, answer_in, old_of, number_of}
use Rattle.laws_robust.proofs.Names.{events_of_step, events_of, ending_of, after_turn, Trace, flight_in, row_passed}
use Rattle.laws_robust.proofs.Names.{passes, stands_there}
use Rattle.steps.specs.declared.ask.Want.{Want}
use Rattle.model.specs.declared.families.Flight.TheVariants as flights
use Rattle.model.specs.declared.families.Registry.TheVariants as registries
use Rattle.model.specs.declared.families.indices.robust.RobustStart.TheVariants as starts
use Rattle.model.proofs.Frame as frame
use Rattle.laws_robust.proofs.Invariant.{family}
use Rattle.laws_robust.proofs.Knows.{Knows}
use Rattle.laws_robust.specs.Gone.{Death}
use Rattle.laws_robust.proofs.Sound.{scene_of, raise_asks_none, lock_asks_none}
use Rattle.laws_robust.proofs.Stages.{all, now, any_call}
use Rattle.laws_robust.proofs.CallProgress.{recover_at, At}
use Rattle.laws_robust.proofs.Written.{effects_hold}
use Rattle.lemmas_owners.proofs.OneTurn.{by_next, by_decision}
use Rattle.lemmas_owners.proofs.Lists.{all_both}

-- only a question asks about an index of an owner
asks_owned : (w : Want (Unit {0})) (index owner : ℕ) → owned_by w ≡ Some (index, owner) → is_question w ≡ true
asks_owned w index owner owned_is = grind arith

-- `c` is the capacity, `t` the run so far, and `s` says that the invariant holds after it
module _ {T : Type 0} (code : Coding T) (c : ℕ) {t : Trace T} (s : frame.Sound (family code c) t) where
  -- what the step of a call writes for this answer, where the registry is this one
  abbrev writes : ℕ → ℕ → Registry T → Start T → Flight T → List (Event T)
  writes p answer kept start flight =
      events_of_step p start (step_of t.world.coding t.world.words (beside_of t.world.words kept t.world.latest p) p start flight answer kept)

  abbrev own : Registry T
  own = registries.Owners s.state.dead

  -- the registry of the machine lists the dead owners
  same_kept : t.world.kept ≡ own
  same_kept = s.fit.kept

  -- ---- a decision

  -- a call of this begin waits for a decision, and the decision makes it write this
  pub record IsDecided (p : ℕ) (said : Bool) (start : RobustStart) : Type 0 where
    -- the party's call, which asks
    pub party : Party T
    pub since : ℕ
    pub flight : RobustFlight
    pub here : flight_in t.world p ≡ Some (flights.Robust flight)
    pub due : is_question (want flight) ≡ true
    -- where the call stands, and what it knows
    pub at : At c (all (scene_of Death code c t s p party since)) start flight
    pub knows : Knows c flight (now (scene_of Death code c t s p party since))
    -- what the decision makes it write
    pub wrote : events_of t.world (Decide p said)
        ≡ effects p flight (number_of said) ++ ending_of p (Robust start) (answer_in (any_call (after {T = T} flight (number_of said))))

  -- a decision that is not refused is about a call that asks, as `IsDecided` says
  pub decided : (p : ℕ) (said : Bool) (start : RobustStart) → refusal_of t.world (Decide p said) ≡ None → IsIn p (Robust start) t → IsDecided p said start
  decided p said start not_refused under_way = grind arith

  -- ---- a no ends a find

  module _ (p owner : ℕ) where
    -- a no makes this find of the party stop, with what it has counted so far
    abbrev Stops : Party T → ℕ → RobustFlight → Type 0
    Stops x since flight =
        flight_in t.world p ≡ Some (flights.Robust flight) → is_question (want flight) ≡ true
        → Knows c flight (now (scene_of Death code c t s p x since))
        → events_of t.world (Decide p false)
        ≡ effects p flight 0 ++ ending_of p (Robust (starts.Find owner)) (answer_in (any_call (after {T = T} flight 0)))
        → IsStopped p owner t (after_turn t (Decide p false))

    -- a find stops at a no, at whichever stage it is
    find_stops : (x : Party T) (since : ℕ) (flight : RobustFlight)
        → At c (all (scene_of Death code c t s p x since)) (starts.Find owner) flight → Stops x since flight
    find_stops x since flight at = grind arith

  -- each turn that is a no to a find ends it with what it has counted
  pub finds_up_to : (turn : Turn T) → refusal_of t.world turn ≡ None → FindsUpTo t turn (after_turn t turn)
  finds_up_to = grind (arith, decided, false, after_turn, find_stops)

  -- ---- a yes tells a recovery

  module _ (p : ℕ) (mode : ReleaseMode) where
    -- a yes makes this recovery of the party write `Told` of the index that it asked about
    abbrev Hears : RobustFlight → Type 0
    Hears flight =
        is_question (want flight) ≡ true
        → events_of t.world (Decide p true)
        ≡ effects p flight 1 ++ ending_of p (Robust (starts.Recover mode)) (answer_in (any_call (after {T = T} flight 1)))
        → IsTold p t (after_turn t (Decide p true))

    -- this holds of a recovery at any stage
    stage_hears : (capacity : ℕ) (given : ReleaseMode) (stage : RecoverStage) → Hears (recover_at capacity given stage)
    stage_hears = grind (arith, raise_asks_none, lock_asks_none)

    -- this holds of each call that is a recovery in this mode
    recovery_hears : (x : Party T) (since : ℕ) (flight : RobustFlight)
        → At c (all (scene_of Death code c t s p x since)) (starts.Recover mode) flight → Hears flight
    recovery_hears = grind (arith, stage_hears)

  -- each turn that is a yes to a recovery tells it to free the index that it asked about
  pub yes_tells : (turn : Turn T) → refusal_of t.world turn ≡ None → YesTells t turn (after_turn t turn)
  yes_tells = grind (arith, decided, after_turn, recovery_hears)

  -- ---- no other turn tells a recovery to free an index

  -- the turn `turn`, in which the party `q` gets the answer `answer`
  module _ (turn : Turn T) (q answer : ℕ) where
    -- `ToldRight` holds of each of these events
    abbrev Right : List (Event T) → Type 0
    Right es = AllByRecursion (ToldRight t turn) es

    -- a call that asks, and gets another answer than 0, gets it by a yes to its party
    abbrev ByYes : Flight T → Type 0
    ByYes flight = is_question (want_of t.world.coding flight) ≡ true → answer ≢ 0 → turn ≡ Decide q true

    -- the end of a call tells no recovery
    end_right : (start : Start T) (outcome : Option (Answer T)) → Right (ending_of q start outcome)
    end_right start None = tt
    end_right start (Some answer) = (tt, tt)

    -- what the step of a call that stands in the machine writes is right
    step_right : (start : Start T) (flight : Flight T) → (family code c).At s.state q start flight
        → flight_in t.world q ≡ Some flight → ByYes flight → Right (writes q answer own start flight)
    step_right = grind (arith, all_both, effects, effects_hold, asks_owned, want, end_right, after)

    -- what the step of the party's call writes is right
    flight_right : (x : Party T) (since : ℕ) (flight : Flight T) → party_of q t.world.latest ≡ Some x
        → x.doing ≡ Going flight since → ByYes flight → Right (writes q answer t.world.kept x.start flight)
    flight_right = grind (arith, stands_there, family, same_kept, step_right)

  -- each `Told` that a step writes is right
  next_right : (q : ℕ) → is_due t.world.coding (flight_in t.world q) ≡ false → AllByRecursion (ToldRight t (Next q)) (events_of t.world (Next q))
  next_right q free =
      by_next t.world q (λ w es. AllByRecursion (ToldRight t (Next q)) es) tt (λ x flight since has.
      let asks : is_question (want_of t.world.coding flight) ≡ false = rw has.here at free in
      flight_right (Next q) q (old_of t.world.words (ask_of (want_of t.world.coding flight))) x since flight has.found has.doing (λ due some. absurd (cc)))

  -- each `Told` that a decision writes is right
  decision_right : (q : ℕ) (said : Bool) → AllByRecursion (ToldRight t (Decide q said)) (events_of t.world (Decide q said))
  decision_right q said =
      by_decision t.world q (λ w es. AllByRecursion (ToldRight t (Decide q said)) es) tt said (λ x flight since has.
      flight_right (Decide q said) q (number_of said) x since flight has.found has.doing (λ due some. by said some))
    where
      -- only a yes is a number other than 0
      by : (b : Bool) → number_of b ≢ 0 → ◌≡◌ {A = Turn T} (Decide q b) (Decide q true)
      by true some = refl
      by false some = absurd (some refl)

  -- no decision is due in a step
  not_due : (q : ℕ) → call_refusal t.world (Next q) ≡ None → is_due t.world.coding (flight_in t.world q) ≡ false
  not_due = grind (arith, row_passed, is_none)

  -- each `Told` that a turn writes is right
  all_told : (turn : Turn T) → refusal_of t.world turn ≡ None → AllByRecursion (ToldRight t turn) (events_of t.world turn)
  all_told turn refusal_of_is = grind (arith, next_right, not_due, passes, decision_right)

  -- a turn that is not refused tells no more than it may (`TellsOnce`)
  pub tells_once : {turn : Turn T} → refusal_of t.world turn ≡ None → TellsOnce t turn (after_turn t turn)
  tells_once {turn = turn} not_refused = record { wrote = events_of t.world turn; is = refl; told = all_told turn not_refused }
