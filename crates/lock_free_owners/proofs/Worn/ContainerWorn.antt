-- The generation counter of a container is at its end only after at least a third of 2^64 - 2 changes.
use Rattle.std.proofs.Common.{◌≡◌, ℕ, ◌<◌, ◌==◌, Bool, true, false, Option, Some, None, option_map, if◌then◌else◌}
use Rattle.std.proofs.Common.{List, length, refl, sym, ap, subst, ◌∙◌, arith}
use Rattle.steps.specs.Indices.Robust.Parts.{locked}
use Rattle.steps.specs.declared.ask.After.{After}
use Rattle.steps.specs.declared.ask.Ask.{Ask}
use Rattle.steps.specs.declared.container.state.ContainerState.{ContainerState}
use Rattle.steps.specs.Container.Remove.{first_remove}
use Rattle.steps.specs.declared.indices.enums.ReleaseMode.{ReleaseMode}
use Rattle.model.specs.declared.event.Answer.{Answer}
use Rattle.model.specs.declared.event.Start.{Start}
use Rattle.model.specs.declared.event.Start.TheVariants.{Container}
use Rattle.model.specs.declared.families.Flight.{Flight}
use Rattle.model.specs.declared.families.Flight.TheVariants as flights
use Rattle.model.specs.declared.families.Registry.{Registry}
use Rattle.model.specs.declared.families.Registry.TheVariants as registries
use Rattle.model.specs.declared.families.container.ContainerStart.{ContainerStart}
use Rattle.model.specs.declared.families.container.calls.ContainerFlight.{ContainerFlight}
use Rattle.model.specs.declared.party.Doing.{Doing}
use Rattle.model.specs.declared.party.Doing.TheVariants.{Going, Over}
use Rattle.model.specs.declared.party.Party.{Party}
use Rattle.model.specs.declared.turn.Kind.TheVariants as kinds
use Rattle.model.specs.declared.turn.Turn.{Turn}
use Rattle.model.specs.Coding.{Coding}
use Rattle.model.specs.Families.{first_of, want_of, ask_of, is_question, beside_of, step_of}
use Rattle.model.specs.Families.Indices.Reading.{is_locked}
use Rattle.model.specs.Families.Container.Calls.{first, want, after}
use Rattle.model.specs.Families.Container.Reading.{Act, acts_of}
use Rattle.model.specs.Families.Container.States.{state_of}
use Rattle.model.specs.Families.Container.Steps as calls
use Rattle.model.specs.Families.Indices.Robust.Reading.{SetAct, set_acts_of}
use Rattle.model.specs.Parties.{party_of, doing_of, flight_of}
use Rattle.model.specs.Reading.{span_of}
use Rattle.model.specs.Step.{Step, as_step, as_call}
use Rattle.model.specs.Turns.{old_of, words_after, number_of, after_turn}
use Rattle.model.specs.World.{Trace, opening, capacity_error}
use Rattle.model.proofs.Frame as frame
use Rattle.model.proofs.Scenes.{stands_there}
use Rattle.laws_robust.specs.Gone.{Word}
use Rattle.model.specs.Open.{open_refusal, IsReachedOpen}
use Rattle.laws_robust.proofs.Opening.{admitted_is}
use Rattle.laws_container.proofs.AllRuns.{shown}
use Rattle.laws_container.proofs.Invariant.{family_by, FlightAt}
use Rattle.laws_container.proofs.OpenRuns.{open_turn_sound}
use Rattle.laws_container.proofs.Sound.{opening_sound}
use Rattle.laws_container.proofs.Terms.{Terms}
use Rattle.lock_free_owners.specs.Worn.{may_lock, is_locking, LocksApart}
use Rattle.laws_robust.proofs.Counter.{counter_of}
use Rattle.lock_free_owners.proofs.Worn.ContainerPays.{remove_credit, remove_late, container_left, container_locks}
use Rattle.laws_container.proofs.Counter.{container_then, container_old}
use Rattle.lock_free_owners.proofs.Worn.ContainerPays.{ContainerStands, SameMode}
use Rattle.laws_container.proofs.Counter.{container_finds, container_leaves}
use Rattle.lock_free_owners.proofs.Worn.ContainerCalls.{container_mode, container_pays}
use Rattle.laws_container.proofs.Counter.{container_asks}
use Rattle.lock_free_owners.proofs.Worn.ContainerCalls.{container_stands, container_may}
use Rattle.lock_free_owners.proofs.Worn.Bounded.{Bounded, locks_of, counter, changes_more}
use Rattle.lock_free_owners.proofs.Worn.Turns.{left, SameLocks, PaysBy, BeginPays, Facts, run_bounded, opening_bounded}

-- Equal options have equal values.
pub some_same : {A : Type 0} (x y : A) → Some x ≡ Some y → x ≡ y
some_same x y e = cc

-- a remove at its first stage has no credit
first_credit : (c index : ℕ) (mode : ReleaseMode) → remove_credit mode (first_remove c index).stage ≡ 0
first_credit c index mode = grind arith

-- a remove at its first stage is not late
first_late : (n c index : ℕ) → remove_late n (first_remove c index).stage ≡ 0
first_late n c index = grind arith

module _ {T : Type 0} (code : Coding T) where
  -- ---- a step, as one of any family

  -- A call of a container, read as a call of any structure.
  abbrev any_call : After (ContainerFlight T) (Answer T) → After (Flight T) (Answer T)
  any_call a = as_call flights.Container (λ answer. answer) a

  -- What it can still add is the same, read as a call of any structure.
  same_left : (new : ℕ) (a : After (ContainerFlight T) (Answer T)) → left new (any_call a) ≡ container_left new a
  same_left new a = grind arith

  -- Whether it may lock is the same, read as a call of any structure.
  same_locks : (may : Bool) (a : After (ContainerFlight T) (Answer T)) → SameMode may a → SameLocks may (any_call a)
  same_locks may a h = grind arith

  -- A step of a call of a container, read as a step of any structure.
  abbrev any_step : ℕ → ContainerFlight T → ℕ → List ℕ → List (ℕ × ContainerState T) → Step (Flight T) (Registry T) T
  any_step p flight answer dead states =
      as_step flights.Container (λ kept. registries.Container kept.0 kept.1) (calls.step code p flight answer dead states)

  -- The party p has a call at this stage, which is one that there is. Its next operation on these words leaves the counter
  -- as the stage says.
  module _ (words : List ℕ) (p : ℕ) (ask : Option Ask) (dead : List ℕ) (states : List (ℕ × ContainerState T)) (flight : ContainerFlight T)
      (stands : ContainerStands flight) (leaves : counter_of (words_after words ask) ≡ container_then flight (counter_of words)) where
    -- the step of the call with this answer pays for what it adds
    abbrev Paid : ℕ → Type 0
    Paid answer = PaysBy words (flights.Container flight) ask (any_step p flight answer dead states)

    -- a step that found this keeps to what its call can still add, and goes on as a call that may
    -- lock just if it is one
    paid_there : (cell : ℕ) → Paid (container_old flight (counter_of words) cell)
    paid_there cell =
        record {
          pays = λ open_now.
              (let keeps =
              container_pays code (state_of p states) (counter_of words) (counter_of (words_after words ask)) p cell flight stands leaves open_now in
              let same =
              same_left (counter_of (words_after words ask))
              (after code (state_of p states) flight (container_old flight (counter_of words) cell)) in
              let more =
              changes_more (calls.effects code p (state_of p states) flight (container_old flight (counter_of words) cell))
              (calls.questions p flight (container_old flight (counter_of words) cell)) in
              omega arith);
          mode =
              same_locks (container_locks flight) (after code (state_of p states) flight (container_old flight (counter_of words) cell))
              (container_mode code (state_of p states) flight (container_old flight (counter_of words) cell));
        }

    -- The step pays for what it adds with each answer that it may find.
    paid : (answer : ℕ) → answer ≡ container_old flight (counter_of words) answer → Paid answer
    paid answer finds = subst Paid (sym finds) (paid_there answer)

module _ {T : Type 0} where
  -- ---- a begin

  -- as it begins, a call has no more credit than its begin is good for, and may lock only if its
  -- name says so
  begins_so : (n c p : ℕ) (start : ContainerStart T) → BeginPays n p (Container start) (flights.Container (first c start))
  begins_so n c p start = grind (arith, first_credit, first_late)

  -- where a begin is admitted, its call has no more than the begin pays for
  begins_by : (n c p : ℕ) (start : ContainerStart T) (flight : Flight T) (b : Bool)
      → option_map flights.Container (if b then Some (first c start) else None) ≡ Some flight → BeginPays n p (Container start) flight
  begins_by n c p start flight b e = grind (arith, begins_so)

  -- Each call that the machine of a container begins has no more than its begin pays for.
  begins_any : (n c p : ℕ) (start : Start T) (kept : Registry T) (flight : Flight T) → first_of kinds.Container c start kept ≡ Some flight
      → BeginPays n p start flight
  begins_any n c p start kept flight e = grind (arith, begins_by)

module _ {T : Type 0} (code : Coding T) (c : ℕ) where
  -- The terms of the laws of any open run: an owner is gone by a recovery's word too, and steps for the
  -- dead are not refused.
  abbrev pub terms : Terms
  terms = record { by = Word; kept = false }

  -- the machine keeps the laws of containers
  abbrev pub Sound : Trace T → Type 0
  Sound t = frame.Sound (family_by terms code c) t

  -- A turn that is not refused keeps the laws of containers.
  pub sound_on : (t : Trace T) (turn : Turn T) → open_refusal t.world turn ≡ None → Sound t → Sound (after_turn t turn)
  sound_on t turn e s = open_turn_sound false code c t s (λ keeps. absurd (cc)) turn e (λ keeps. absurd (cc))

  module _ (t : Trace T) (s : Sound t) where
    -- The words of the machine.
    abbrev ws : List ℕ
    ws = t.world.words

    -- What the machine keeps beside its words: the dead owners and the states.
    abbrev Kept : Registry T
    Kept = registries.Container s.state.dead s.state.states

    -- the step of a call pays for what it adds, in a machine with these words and parties
    abbrev PaysIn : Coding T → ℕ → Option Ask → ℕ → Registry T → Start T → Flight T → Type 0
    PaysIn z p ask answer kept start flight = PaysBy ws flight ask (step_of z ws (beside_of ws kept t.world.latest p) p start flight answer kept)

    -- The machine keeps just that.
    owners : t.world.kept ≡ Kept
    owners = s.fit.kept

    -- the step of a call that stands where it may keeps to what the call can still add
    pays_in : (p : ℕ) (all : List SetAct) (done : List (Act T)) (start : Start T) (flight : Flight T)
        → FlightAt c code.size all done start flight → 0 < length ws
        → PaysIn code p (ask_of (want_of code flight)) (old_of ws (ask_of (want_of code flight))) Kept start flight
    pays_in p all done (Container start) (flights.Container flight) at some =
        paid code ws p (ask_of (want code flight)) s.state.dead s.state.states flight (container_stands code c all done start flight at)
        (container_leaves code ws some flight) (old_of ws (ask_of (want code flight))) (container_finds code ws flight)
    pays_in p all done start flight at some = absurd at

    -- an answer that a call hears keeps to what the call can still add
    decides_in : (p answer : ℕ) (all : List SetAct) (done : List (Act T)) (start : Start T) (flight : Flight T) → FlightAt c code.size all done start flight
        → is_question (want_of code flight) ≡ true → PaysIn code p None answer Kept start flight
    decides_in p answer all done (Container start) (flights.Container flight) at due =
        let asks = container_asks code flight (counter_of ws) answer due in
        paid code ws p None s.state.dead s.state.states flight (container_stands code c all done start flight at) asks.0 answer asks.1
    decides_in p answer all done start flight at due = absurd at

    -- a call that may lock is under way by its span
    locks_in_span : (all : List SetAct) (done : List (Act T)) (start : Start T) (flight : Flight T) → FlightAt c code.size all done start flight
        → locks_of (Some flight) ≡ true → may_lock start ≡ true
    locks_in_span all done (Container start) (flights.Container flight) at e = container_may code c all done start flight at e
    locks_in_span all done start flight at e = absurd at

    -- a party whose call may lock has a span of such a call in the events
    spans_there : (q : ℕ) (o : Option (Party T)) → party_of q t.world.latest ≡ o → locks_of (flight_of (doing_of o)) ≡ true
        → is_locking (span_of q t.events) ≡ true
    spans_there q None found e = absurd (cc)
    spans_there q (Some x) found e = go x.doing refl e
      where
        -- the cases are whether the party's latest call is under way or over
        go : (doing : Doing T) → x.doing ≡ doing → locks_of (flight_of (Some doing)) ≡ true → is_locking (span_of q t.events) ≡ true
        go (Going flight since) d e =
            let there = stands_there (family_by terms code c) t s q x since flight found d in
            ap is_locking there.span ∙ locks_in_span (set_acts_of q s.state.events) (acts_of q s.state.events) x.start flight there.at e
        go (Over others) d e = absurd (cc)

    -- `Facts` of each machine of an open run of a container
    pub facts : Facts t
    facts =
        record {
          steps = λ some p x flight since found doing.
              subst (λ z. PaysBy ws flight (ask_of (want_of z flight))
              (step_of z ws (beside_of ws t.world.kept t.world.latest p) p x.start flight (old_of ws (ask_of (want_of z flight))) t.world.kept)) (sym s.coding)
              (subst (λ kept. PaysIn code p (ask_of (want_of code flight)) (old_of ws (ask_of (want_of code flight))) kept x.start flight) (sym owners)
              (pays_in p (set_acts_of p s.state.events) (acts_of p s.state.events) x.start flight
              (stands_there (family_by terms code c) t s p x since flight found doing).at some));
          decides = λ p x flight since said found doing due.
              subst (λ z. PaysIn z p None (number_of said) t.world.kept x.start flight) (sym s.coding)
              (subst (λ kept. PaysIn code p None (number_of said) kept x.start flight) (sym owners)
              (decides_in p (number_of said) (set_acts_of p s.state.events) (acts_of p s.state.events) x.start flight
              (stands_there (family_by terms code c) t s p x since flight found doing).at
              (subst (λ z. is_question (want_of z flight) ≡ true) s.coding due)));
          begins = λ p start flight e.
              begins_any (counter t) t.world.capacity p start t.world.kept flight
              (subst (λ kind. first_of kind t.world.capacity start t.world.kept ≡ Some flight) s.kind e);
          spans = λ q e. spans_there q (party_of q t.world.latest) refl e;
          lock =
              subst (λ words. (counter_of words == locked) ≡ is_locked t.events) (sym s.fit.words) s.holds.good.lock;
        }

-- ---- any run

module _ {T : Type 0} where
  -- a container opens as a sound trace of its machine
  pub opens_so : (t : Trace T) → t.world.kind ≡ kinds.Container → IsReachedOpen t
      → Sound t.world.coding t.world.capacity (opening t.world.coding t.world.kind t.world.capacity t.world.parties)
  opens_so t is r =
      let w = t.world in
      let may = admitted_is w.capacity (subst (λ kind. capacity_error kind w.capacity ≡ None) is r.admitted) in
      subst (λ kind. Sound w.coding w.capacity (opening w.coding kind w.capacity w.parties))
      (sym is) (opening_sound shown (terms w.coding w.capacity) w.coding w.capacity w.parties r.coded may.0 may.1)

  -- a container opens with its counter bounded
  pub opens_bounded : (t : Trace T) → t.world.kind ≡ kinds.Container
      → Bounded (opening t.world.coding t.world.kind t.world.capacity t.world.parties)
  opens_bounded t is =
      let w = t.world in
      subst (λ kind. Bounded (opening w.coding kind w.capacity w.parties)) (sym is)
      (opening_bounded (opening w.coding kinds.Container w.capacity w.parties) refl refl (omega arith))

  -- the counter of a container in an open run is bounded if no two calls that may lock overlap
  pub reached_bounded : (t : Trace T) → t.world.kind ≡ kinds.Container → IsReachedOpen t → LocksApart t.events → Bounded t
  reached_bounded t is r apart =
      let code = t.world.coding in
      let c = t.world.capacity in
      run_bounded (Sound code c) (facts code c) (sound_on code c) t r (opens_so t is r) (opens_bounded t is) apart
