-- In every reached machine, a recovery of the robust set in mode LockIfLastIndex that answers Unlocked has
-- met an index that was filled after each that it freed.
use Rattle.std.proofs.Common.{arith}
use Rattle.laws_machine.proofs.Names.{◌<◌, ◌-◌, ◌^◌, ◌≡◌, ⊎_elim, ℕ, Bool, true, Option, Some, None, List, [], ◌∷◌, ◌++◌, refl, sym}
use Rattle.laws_machine.proofs.Names.{ap, subst, ◌∙◌, cases_eq, ReleaseMode, Event, Begun, Died, Start, Robust, Flight}
use Rattle.laws_machine.proofs.Names.{Registry, RobustStart, RobustFlight, Party, Turn, Begin, Next, Decide, Die}
use Rattle.laws_machine.proofs.Names.{want_of, ask_of, is_question, goes_of, beside_of, step_of, set_acts_of}
use Rattle.laws_machine.proofs.Names.{set_acts, wrote_in, BeginsNone, party_of, IsParty, Each, refusal_of, is_due}
use Rattle.laws_machine.proofs.Names.{old_of, number_of, events_of}
use Rattle.laws_machine.proofs.Names.{events_of_step, world_after}
use Rattle.laws_machine.proofs.Names.{after_turn, IsReached, Trace, flight_in, others_begin_none, kept_by_runs}
use Rattle.laws_machine.proofs.Names.{reached_more, turn_making, AreOwn, AreRight, Each-append, Each-nil, no_more}
use Rattle.laws_machine.proofs.Names.{span_of-own, span_of-other, span_of-death, passes, may_next, may_decide}
use Rattle.laws_machine.proofs.Names.{must_be_due, StandsThere, Death, robust_keeps, filled_none}
use Rattle.steps.specs.declared.indices.robust.recover.RecoverStage.{RecoverStage}
use Rattle.model.specs.declared.families.Flight.TheVariants as flights
use Rattle.model.specs.declared.families.Registry.TheVariants as registries
use Rattle.model.specs.declared.turn.Kind.TheVariants as kinds
use Rattle.model.specs.Families.Indices.Robust.Calls.{want, after}
use Rattle.model.specs.Families.Indices.Robust.Steps.{effects}
use Rattle.model.proofs.Frame as frame
use Rattle.laws_robust.proofs.Invariant.{family}
use Rattle.laws_robust.proofs.Sound.{reached_sound, is_there}
use Rattle.laws_robust.proofs.CallProgress.{At, RecoverAt}
use Rattle.laws_machine.specs.Recoveries.{LocksRight}
use Rattle.laws_machine.proofs.LockKnows.{StageKnows, CallKnows, FlightKnows, flight_later}
use Rattle.laws_machine.proofs.LockCalls.{Caller, Leaves, all_own, effects_own, step_leaves, decision_leaves}
use Rattle.laws_machine.proofs.Others.{others_stay}
use Rattle.laws_machine.proofs.CallTransition.{left_by, next_left, decision_left, under_way, next_wrote, decision_wrote}

-- what every turn keeps: each party knows what its call says of the indices that it has freed, and each end
-- of a recovery is right
module _ {T : Type 0} where
  pub record Extra (t : Trace T) : Type 0 where
    pub known : (p : ℕ) → FlightKnows t.world.capacity p (flight_in t.world p) t.events
    pub right : Each LocksRight t.events

module _ {T : Type 0} (t : Trace T) (is : t.world.kind ≡ kinds.Robust) (reached : IsReached t) (extra : Extra t) where
  abbrev c : ℕ
  c = t.world.capacity

  abbrev fam : frame.Family T
  fam = family t.world.coding t.world.capacity

  abbrev s : frame.Sound (family t.world.coding t.world.capacity) t
  s = reached_sound t is reached

  -- the machine keeps the owners that died, as the set has them
  same_kept : t.world.kept ≡ registries.Owners s.state.dead
  same_kept = s.fit.kept

  -- the words of the machine are those of the set
  same_words : t.world.words ≡ s.state.words
  same_words = s.fit.words

  -- ---- the other parties

  module _ (turn : Turn T) (es : List (Event T)) where
    -- another party still knows what it knew, where the turn begins no call of it and writes no act of it
    other_known : (q : ℕ) → ¬ IsParty turn q → BeginsNone q es → set_acts_of q (t.events ++ es) ≡ set_acts_of q t.events
        → FlightKnows c q (flight_in (world_after t.world turn) q) (t.events ++ es)
    other_known = grind (arith, others_stay, flight_later)

    -- the turn's events are all of the party `p`, which knows what its call says
    module _ (p : ℕ) (mine : (q : ℕ) → IsParty turn q → q ≡ p) (own : AreOwn p es)
        (here : FlightKnows c p (flight_in (world_after t.world turn) p) (t.events ++ es)) where
      -- then each party knows what its call says
      known_by : (q : ℕ) → FlightKnows c q (flight_in (world_after t.world turn) q) (t.events ++ es)
      known_by q = ⊎_elim (λ same. rw same here)
          (λ ne. other_known q (λ its. ne (mine q its)) (others_begin_none q p es ne own)
          (ap (λ a. set_acts (wrote_in a)) (span_of-other p q t.events es ne own)))
          (cases_eq q p)

  -- ---- a turn of a call under way

  module _ (turn : Turn T) (p : ℕ) (mine : (q : ℕ) → IsParty turn q → q ≡ p) (answer : ℕ) where
    -- what the turn leaves of the party's call, and what it writes, are as that call's step says
    abbrev TurnIsStep : Registry T → Start T → Flight T → Type 0
    TurnIsStep kept start flight =
        (flight_in (world_after t.world turn) p ≡ left_by (goes_of t.world.coding p flight answer kept))
        × (events_of t.world turn
        ≡ events_of_step p start
        (step_of t.world.coding t.world.words (beside_of t.world.words kept t.world.latest p) p start flight answer kept))

    -- where the step leaves what `Leaves` asks, each party knows what its call says, and the events are right
    leaves_it : (start : RobustStart) (call : RobustFlight) → Leaves c p t.events start call answer
        → TurnIsStep (registries.Owners s.state.dead) (Robust start) (flights.Robust call)
        → ((q : ℕ) → FlightKnows c q (flight_in (world_after t.world turn) q) (t.events ++ events_of t.world turn))
        × AreRight LocksRight t.events (events_of t.world turn)
    leaves_it = grind (arith, known_by, all_own, effects, after, effects_own)

    -- these two are what a turn has to show
    after_it : ((q : ℕ) → FlightKnows c q (flight_in (world_after t.world turn) q) (t.events ++ events_of t.world turn))
        × AreRight LocksRight t.events (events_of t.world turn)
        → Extra (after_turn t turn)
    after_it both =
        record {
          known =
              λ q. subst (λ n. FlightKnows n q (flight_in (world_after t.world turn) q) (t.events ++ events_of t.world turn))
              (sym (turn_making t.world turn).capacity) (both.0 q);
          right = Each-append LocksRight t.events (events_of t.world turn) extra.right both.1;
        }

  -- a party that stands in the machine, for the lemmas of its calls
  abbrev caller : (p : ℕ) (x : Party T) (since : ℕ) → t.world.turns < 2 ^ 64 - 2 → party_of p t.world.latest ≡ Some x → Caller t
  caller p x since small found = record { kind_is = is; reached = reached; p = p; x = x; since = since; small = small; found = found }

  module _ (p : ℕ) (free : refusal_of t.world (Next p) ≡ None) where
    -- a step of a call that stands in the machine keeps `Extra`
    by_step : {x : Party T} {since : ℕ} (found : party_of p t.world.latest ≡ Some x) {start : Start T} {flight : Flight T}
        → StandsThere fam t s p x since start flight → FlightKnows c p (Some flight) t.events
        → TurnIsStep (Next p) p (λ q its. its) (old_of s.state.words (ask_of (want_of t.world.coding flight)))
        (registries.Owners s.state.dead) start flight
        → Extra (after_turn t (Next p))
    by_step {x} {since} found {start = (Robust start)} {flight = (flights.Robust call)} stands knows comes =
        let small = (passes t.world (Next p) free).turns in
        let laws_say = is_there Death t.world.coding c t s in
        let there = laws_say p x since found start call stands in
        after_it (Next p) p (λ q its. its) (old_of s.state.words (ask_of (want call)))
        (leaves_it (Next p) p (λ q its. its) (old_of s.state.words (ask_of (want call))) start call
        (step_leaves (caller p x since small found) start call there.here there.at there.knows knows) comes)
    by_step found stands knows comes = absurd stands.at

    -- any step keeps `Extra`
    pub next_kept : Extra (after_turn t (Next p))
    next_kept =
        let allowed = passes t.world (Next p) free in
        let flies = may_next t.world p allowed.on in
        let call = under_way fam t s p flies.flight flies.is in
        let caller = call.party in
        let goes = (robust_keeps.turn t (Next p) is free reached).call in
        let left = next_left t.world (world_after t.world (Next p)) p flies.flight flies.is goes in
        let wrote = next_wrote fam t s p call in
        let by_words =
        subst (λ ws. TurnIsStep (Next p) p (λ q its. its) (old_of ws (ask_of (want_of t.world.coding flies.flight)))
        t.world.kept caller.start flies.flight)
        same_words (left, wrote) in
        by_step call.found call.there (subst (λ o. FlightKnows c p o t.events) flies.is (extra.known p))
        (subst (λ kept. TurnIsStep (Next p) p (λ q its. its)
        (old_of s.state.words (ask_of (want_of t.world.coding flies.flight))) kept caller.start flies.flight)
        same_kept by_words)

  module _ (p : ℕ) (said : Bool) (free : refusal_of t.world (Decide p said) ≡ None) where
    -- a decision for a call that stands in the machine keeps `Extra`
    by_decision : {x : Party T} {since : ℕ} (found : party_of p t.world.latest ≡ Some x) {start : Start T} {flight : Flight T}
        → StandsThere fam t s p x since start flight → is_question (want_of t.world.coding flight) ≡ true
        → FlightKnows c p (Some flight) t.events
        → TurnIsStep (Decide p said) p (λ q its. its) (number_of said) (registries.Owners s.state.dead) start flight
        → Extra (after_turn t (Decide p said))
    by_decision {x} {since} found {start = (Robust start)} {flight = (flights.Robust call)} stands due knows comes =
        let small = (passes t.world (Decide p said) free).turns in
        let laws_say = is_there Death t.world.coding c t s in
        let there = laws_say p x since found start call stands in
        after_it (Decide p said) p (λ q its. its) (number_of said)
        (leaves_it (Decide p said) p (λ q its. its) (number_of said) start call
        (decision_leaves (caller p x since small found) (number_of said) start call there.here there.at due knows)
        comes)
    by_decision found stands due knows comes = absurd stands.at

    -- any decision keeps `Extra`
    pub decision_kept : Extra (after_turn t (Decide p said))
    decision_kept =
        let allowed = passes t.world (Decide p said) free in
        let flies = may_decide t.world p said allowed.on in
        let call = under_way fam t s p flies.flight flies.is in
        let caller = call.party in
        let goes = (robust_keeps.turn t (Decide p said) is free reached).call in
        let left = decision_left t.world (world_after t.world (Decide p said)) p flies.flight flies.is said goes in
        let wrote = decision_wrote fam t s p call said in
        let due =
        subst (λ o. is_due t.world.coding o ≡ true) flies.is
        (frame.is_true (is_due t.world.coding (flight_in t.world p)) (must_be_due t.world p said allowed.on)) in
        by_decision call.found call.there due (subst (λ o. FlightKnows c p o t.events) flies.is (extra.known p))
        (subst (λ kept. TurnIsStep (Decide p said) p (λ q its. its) (number_of said) kept caller.start flies.flight) same_kept (left, wrote))

  -- ---- a call begins, an owner dies

  -- the party `p` begins a call
  module _ (p : ℕ) (start : Start T) (free : refusal_of t.world (Begin p start) ≡ None) where
    -- the run once the call has begun
    abbrev new : Trace T
    new = after_turn t (Begin p start)

    -- the machine is one of a robust set still
    is_new : new.world.kind ≡ kinds.Robust
    is_new = (turn_making t.world (Begin p start)).kind ∙ is

    -- the invariant of the set holds once the call has begun
    s_new : frame.Sound (family new.world.coding new.world.capacity) new
    s_new = reached_sound new is_new (reached_more t (Begin p start) free reached)

    -- a call that has just begun has done nothing yet
    none_yet : set_acts_of p new.events ≡ []
    none_yet = ap (λ a. set_acts (wrote_in a)) (span_of-own p t.events (Begun p start ∷ []) (refl, tt))

    -- at its first stage a recovery knows what the stage says, as it has freed nothing
    first_stage : (mode : ReleaseMode) (stage : RecoverStage) (k : ℕ) → RecoverAt k mode [] stage → StageKnows c mode p stage new.events
    first_stage = grind (arith, filled_none, none_yet, no_more)

    -- what a call of the set that has just begun knows of locks
    first_call : (k : ℕ) (a : RobustStart) (call : RobustFlight) → At k [] a call → CallKnows c p call new.events
    first_call = grind (arith, first_stage)

    -- what a call that has just begun knows of locks
    first_flight : (x : Party T) (since : ℕ) (a : Start T) (flight : Flight T)
        → StandsThere (family new.world.coding new.world.capacity) new s_new p x since a flight
        → FlightKnows c p (Some flight) new.events
    first_flight = grind (arith, first_call, none_yet)

    -- the call that has begun knows what its stage says
    begun : (o : Option (Flight T)) → flight_in new.world p ≡ o → FlightKnows c p o new.events
    begun None flight_is = tt
    begun (Some flight) flight_is =
        let call = under_way (family new.world.coding new.world.capacity) new s_new p flight flight_is in
        first_flight call.party call.since call.party.start flight call.there

    -- a begin keeps `Extra`
    pub begin_kept : Extra (after_turn t (Begin p start))
    begin_kept =
        record {
          known = λ q. subst (λ n. FlightKnows n q (flight_in new.world q) new.events) (sym (turn_making t.world (Begin p start)).capacity)
              (known_by (Begin p start) (Begun p start ∷ []) p (λ q its. its) (refl, tt) (begun (flight_in new.world p) refl) q);
          right = Each-append LocksRight t.events (Begun p start ∷ []) extra.right (tt, tt);
        }

  -- a death keeps `Extra`
  pub death_kept : (owner : ℕ) → Extra (after_turn t (Die owner))
  death_kept owner =
      record {
        known = λ q. other_known (Die owner) (Died owner ∷ []) q (λ none. none) tt (ap (λ a. set_acts (wrote_in a)) (span_of-death q t.events owner));
        right = Each-append LocksRight t.events (Died owner ∷ []) extra.right (tt, tt);
      }

  -- every turn keeps `Extra`
  pub turn_kept : (turn : Turn T) → refusal_of t.world turn ≡ None → Extra (after_turn t turn)
  turn_kept (Begin p start) free = begin_kept p start free
  turn_kept (Next p) free = next_kept p free
  turn_kept (Decide p said) free = decision_kept p said free
  turn_kept (Die owner) free = death_kept owner

-- ---- every run

module _ {T : Type 0} where
  -- the machine is reached, and if it is a robust set's, `Extra` holds
  abbrev HasKept : Trace T → Type 0
  HasKept t = IsReached t × (t.world.kind ≡ kinds.Robust → Extra t)

  -- in every reached machine a recovery that may lock and answers Unlocked has met an index that was filled
  -- after each that it freed
  pub locks : (t : Trace T) → t.world.kind ≡ kinds.Robust → IsReached t → Each LocksRight t.events
  locks t is reached =
      ((kept_by_runs HasKept
      (λ u turn free h. (
        reached_more u turn free h.0,
        λ same. turn_kept u (sym (turn_making u.world turn).kind ∙ same) h.0 (h.1 (sym (turn_making u.world turn).kind ∙ same)) turn free,
      ))
      t
      (λ queue queued. (
        record { coded = reached.coded; admitted = reached.admitted; queue = queue; queued = queued; turns = []; is = refl },
        λ same. record { known = λ p. tt; right = Each-nil LocksRight },
      ))
      reached).1 is).right
