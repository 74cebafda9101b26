-- The generation counter of a robust index set is at its end only after at least a third of 2^64 - 2 changes.
use Rattle.std.proofs.Common.{◌≡◌, ◌≢◌, ℕ, ◌-◌, ◌*◌, ◌^◌, ◌<◌, ◌≤◌, ◌==◌, Bool, true, Option, Some, None}
use Rattle.std.proofs.Common.{option_map, if◌then◌else◌, List, length, refl, sym, ap, subst, ◌∙◌, arith}
use Rattle.steps.specs.Indices.Robust.Parts.{locked, greatest}
use Rattle.steps.specs.declared.ask.After.{After}
use Rattle.steps.specs.declared.ask.Ask.{Ask}
use Rattle.model.specs.declared.event.Answer.{Answer}
use Rattle.model.specs.declared.event.Start.{Start}
use Rattle.model.specs.declared.event.Start.TheVariants.{Robust}
use Rattle.model.specs.declared.families.Flight.{Flight}
use Rattle.model.specs.declared.families.Flight.TheVariants as flights
use Rattle.model.specs.declared.families.Registry.{Registry}
use Rattle.model.specs.declared.families.Registry.TheVariants as registries
use Rattle.model.specs.declared.families.indices.robust.RobustStart.{RobustStart}
use Rattle.model.specs.declared.families.indices.robust.calls.RobustFlight.{RobustFlight}
use Rattle.model.specs.declared.party.Doing.{Doing}
use Rattle.model.specs.declared.party.Doing.TheVariants.{Going, Over}
use Rattle.model.specs.declared.party.Party.{Party}
use Rattle.model.specs.declared.turn.Kind.TheVariants as kinds
use Rattle.model.specs.Coding.{Coding}
use Rattle.model.specs.Families.{first_of, want_of, ask_of, is_question, beside_of, step_of}
use Rattle.model.specs.Families.Indices.Reading.{is_locked}
use Rattle.model.specs.Families.Indices.Robust.Calls.{first, want, after}
use Rattle.model.specs.Families.Indices.Robust.Reading.{SetAct, set_acts_of}
use Rattle.model.specs.Families.Indices.Robust.Steps as set
use Rattle.model.specs.Parties.{party_of, doing_of, flight_of}
use Rattle.model.specs.Reading.{span_of}
use Rattle.model.specs.Step.{Step, as_step, as_call}
use Rattle.model.specs.Turns.{old_of, words_after, number_of}
use Rattle.model.specs.World.{Trace, opening, capacity_error}
use Rattle.model.proofs.Frame as frame
use Rattle.model.proofs.Scenes.{stands_there}
use Rattle.laws_robust.specs.Gone.{Word}
use Rattle.model.specs.Open.{IsReachedOpen}
use Rattle.laws_robust.proofs.Invariant.{family_by, FlightAt}
use Rattle.laws_robust.proofs.OpenRuns.{open_turn_sound}
use Rattle.laws_robust.proofs.Opening.{admitted_is}
use Rattle.laws_robust.proofs.Sound.{opening_sound}
use Rattle.lock_free_owners.specs.Worn.{changes, may_lock, is_locking, LocksApart}
use Rattle.laws_robust.proofs.Counter.{counter_of}
use Rattle.laws_robust.proofs.Counter.{robust_then, robust_old}
use Rattle.lock_free_owners.proofs.Worn.RobustPays.{robust_left, robust_locks, RobustStands, SameMode, robust_mode, robust_pays}
use Rattle.laws_robust.proofs.Counter.{robust_finds, robust_leaves, robust_asks}
use Rattle.lock_free_owners.proofs.Worn.RobustCalls.{robust_stands, robust_may}
use Rattle.lock_free_owners.proofs.Worn.Bounded.{Bounded, locks_of, counter}
use Rattle.lock_free_owners.proofs.Worn.Turns.{left, SameLocks, PaysBy, BeginPays, Facts, run_bounded, opening_bounded}

module _ {T : Type 0} where
  -- ---- a step, as one of any family

  -- A call of a robust set, read as a call of any structure.
  abbrev any_call : After RobustFlight (Answer T) → After (Flight T) (Answer T)
  any_call a = as_call flights.Robust (λ answer. answer) a

  -- What it can still add is the same, read as a call of any structure.
  same_left : (new : ℕ) (a : After RobustFlight (Answer T)) → left new (any_call a) ≡ robust_left new a
  same_left new a = grind arith

  -- Whether it may lock is the same, read as a call of any structure.
  same_locks : (may : Bool) (a : After RobustFlight (Answer T)) → SameMode may a → SameLocks may (any_call a)
  same_locks may a h = grind arith

  -- A step of a call of a robust set, read as a step of any structure.
  abbrev set_step : ℕ → RobustFlight → ℕ → List ℕ → Step (Flight T) (Registry T) T
  set_step p flight answer dead = as_step flights.Robust registries.Owners (set.step p flight answer dead)

module _ (T : Type 0) where
  -- The party p has a call at this stage, which is one that there is. Its next operation on these words leaves the counter
  -- as the stage says.
  module _ (words : List ℕ) (p : ℕ) (ask : Option Ask) (dead : List ℕ) (flight : RobustFlight) (stands : RobustStands flight)
      (leaves : counter_of (words_after words ask) ≡ robust_then flight (counter_of words)) where
    -- the step of the call with this answer pays for what it adds
    abbrev Paid : ℕ → Type 0
    Paid answer = PaysBy {T = T} words (flights.Robust flight) ask (set_step p flight answer dead)

    -- a step that found this keeps to what its call can still add, and goes on as a call that may
    -- lock just if it is one
    paid_there : (cell : ℕ) → Paid (robust_old flight (counter_of words) cell)
    paid_there cell =
        record {
          pays = λ open_now.
              (let keeps = robust_pays T (counter_of words) (counter_of (words_after words ask)) p cell flight stands leaves open_now in
              let same = same_left (counter_of (words_after words ask)) (after {T = T} flight (robust_old flight (counter_of words) cell)) in
              omega arith);
          mode =
              same_locks (robust_locks flight) (after {T = T} flight (robust_old flight (counter_of words) cell))
              (robust_mode T flight (robust_old flight (counter_of words) cell));
        }

    -- The step pays for what it adds with each answer that it may find.
    paid : (answer : ℕ) → answer ≡ robust_old flight (counter_of words) answer → Paid answer
    paid answer finds = subst Paid (sym finds) (paid_there answer)

module _ {T : Type 0} where
  -- ---- a begin

  -- Each call of a robust index set, as it begins, has no more steps at the counter than its begin pays for.
  begins_so : (n c p : ℕ) (start : RobustStart) → BeginPays {T = T} n p (Robust start) (flights.Robust (first c start))
  begins_so n c p start = grind arith

  -- where a begin is admitted, its call has no more than the begin pays for
  begins_by : (n c p : ℕ) (start : RobustStart) (flight : Flight T) (b : Bool)
      → option_map flights.Robust (if b then Some (first c start) else None) ≡ Some flight → BeginPays n p (Robust start) flight
  begins_by n c p start flight b e = grind (arith, begins_so)

  -- Each call that the machine of a robust set begins has no more than its begin pays for.
  begins_any : (n c p : ℕ) (start : Start T) (kept : Registry T) (flight : Flight T) → first_of kinds.Robust c start kept ≡ Some flight
      → BeginPays n p start flight
  begins_any n c p start kept flight e = grind (arith, begins_by)

module _ {T : Type 0} (code : Coding T) (c : ℕ) where
  -- the machine keeps the laws of robust sets
  abbrev Sound : Trace T → Type 0
  Sound t = frame.Sound (family_by Word code c) t

  module _ (t : Trace T) (s : Sound t) where
    -- The words of the machine.
    abbrev ws : List ℕ
    ws = t.world.words

    -- the step of a call pays for what it adds, in the machine t
    abbrev PaysIn : ℕ → Option Ask → ℕ → Registry T → Start T → Flight T → Type 0
    PaysIn p ask answer kept start flight =
        PaysBy ws flight ask (step_of t.world.coding ws (beside_of ws kept t.world.latest p) p start flight answer kept)

    -- Beside its words the machine keeps the dead owners.
    owners : t.world.kept ≡ registries.Owners s.state.dead
    owners = s.fit.kept

    -- the step of a call that stands where it may keeps to what the call can still add
    pays_in : (p : ℕ) (all : List SetAct) (start : Start T) (flight : Flight T) → FlightAt c all start flight → 0 < length ws
        → PaysIn p (ask_of (want_of t.world.coding flight)) (old_of ws (ask_of (want_of t.world.coding flight)))
        (registries.Owners s.state.dead) start flight
    pays_in p all (Robust start) (flights.Robust flight) at some =
        paid T ws p (ask_of (want flight)) s.state.dead flight (robust_stands c all start flight at) (robust_leaves ws some flight)
        (old_of ws (ask_of (want flight))) (robust_finds ws flight)
    pays_in p all start flight at some = absurd at

    -- an answer that a call hears keeps to what the call can still add
    decides_in : (p answer : ℕ) (all : List SetAct) (start : Start T) (flight : Flight T) → FlightAt c all start flight
        → is_question (want_of t.world.coding flight) ≡ true → PaysIn p None answer (registries.Owners s.state.dead) start flight
    decides_in p answer all (Robust start) (flights.Robust flight) at due =
        let asks = robust_asks flight (counter_of ws) answer due in
        paid T ws p None s.state.dead flight (robust_stands c all start flight at) asks.0 answer asks.1
    decides_in p answer all start flight at due = absurd at

    -- a call that may lock is under way by its span
    locks_in_span : (all : List SetAct) (start : Start T) (flight : Flight T) → FlightAt c all start flight
        → locks_of (Some flight) ≡ true → may_lock start ≡ true
    locks_in_span all (Robust start) (flights.Robust flight) at e = robust_may T c all start flight at e
    locks_in_span all start flight at e = absurd at

    -- a party whose call may lock has a span of such a call in the events
    spans_there : (q : ℕ) (o : Option (Party T)) → party_of q t.world.latest ≡ o → locks_of (flight_of (doing_of o)) ≡ true
        → is_locking (span_of q t.events) ≡ true
    spans_there q None found e = absurd (cc)
    spans_there q (Some x) found e = go x.doing refl e
      where
        -- the cases are whether the party's latest call is under way or over
        go : (doing : Doing T) → x.doing ≡ doing → locks_of (flight_of (Some doing)) ≡ true → is_locking (span_of q t.events) ≡ true
        go (Going flight since) d e =
            let there = stands_there (family_by Word code c) t s q x since flight found d in
            ap is_locking there.span ∙ locks_in_span (set_acts_of q s.state.events) x.start flight there.at e
        go (Over others) d e = absurd (cc)

    -- `Facts` of each machine of an open run of a robust set
    facts : Facts t
    facts =
        record {
          steps = λ some p x flight since found doing.
              subst (λ kept. PaysIn p (ask_of (want_of t.world.coding flight))
              (old_of ws (ask_of (want_of t.world.coding flight))) kept x.start flight)
              (sym owners)
              (pays_in p (set_acts_of p s.state.events) x.start flight (stands_there (family_by Word code c) t s p x since flight found doing).at some);
          decides = λ p x flight since said found doing due.
              subst (λ kept. PaysIn p None (number_of said) kept x.start flight) (sym owners)
              (decides_in p (number_of said) (set_acts_of p s.state.events) x.start flight
              (stands_there (family_by Word code c) t s p x since flight found doing).at due);
          begins = λ p start flight e.
              begins_any (counter t) t.world.capacity p start t.world.kept flight
              (subst (λ kind. first_of kind t.world.capacity start t.world.kept ≡ Some flight) s.kind e);
          spans = λ q e. spans_there q (party_of q t.world.latest) refl e;
          lock =
              subst (λ words. (counter_of words == locked) ≡ is_locked t.events) (sym s.fit.words) s.holds.good.lock;
        }

-- ---- any run

module _ {T : Type 0} where
  -- a robust set opens as a sound trace of its machine
  opens_so : (t : Trace T) → t.world.kind ≡ kinds.Robust → IsReachedOpen t
      → frame.Sound (family_by Word t.world.coding t.world.capacity) (opening t.world.coding t.world.kind t.world.capacity t.world.parties)
  opens_so t is r =
      let w = t.world in
      let may = admitted_is w.capacity (subst (λ kind. capacity_error kind w.capacity ≡ None) is r.admitted) in
      subst (λ kind. frame.Sound (family_by Word w.coding w.capacity) (opening w.coding kind w.capacity w.parties))
      (sym is) (opening_sound Word w.coding w.capacity w.parties may.0 may.1)

  -- as a robust set opens, its counter is 0 and no call has begun
  opens_bounded : (t : Trace T) → t.world.kind ≡ kinds.Robust → Bounded (opening t.world.coding t.world.kind t.world.capacity t.world.parties)
  opens_bounded t is =
      let w = t.world in
      subst (λ kind. Bounded (opening w.coding kind w.capacity w.parties)) (sym is)
      (opening_bounded (opening w.coding kinds.Robust w.capacity w.parties) refl refl (omega arith))

  -- the counter of a robust set in an open run is bounded if no two calls that may lock overlap
  pub reached_bounded : (t : Trace T) → t.world.kind ≡ kinds.Robust → IsReachedOpen t → LocksApart t.events → Bounded t
  reached_bounded t is r apart =
      let code = t.world.coding in
      let c = t.world.capacity in
      run_bounded (Sound code c) (facts code c) (open_turn_sound code c) t r (opens_so t is r) (opens_bounded t is) apart

-- A bounded counter that is at its end has had at least a third of 2^64 - 2 changes.
pub worn_after : {T : Type 0} (t : Trace T) → Bounded t → counter t ≡ greatest → 2 ^ 64 - 2 ≤ 3 * changes t.events
worn_after t b worn =
    let open_now : counter t ≢ locked = λ shut. absurd (omega arith) in
    let fits = b.fits open_now in
    omega arith
