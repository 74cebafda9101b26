-- What holds of the machine of a container between two turns is kept by every turn of an open run, so it
-- holds of each machine to which such a run leads; and with it all that is promised of an open container.
use Rattle.laws_container.proofs.Names.{◌≡◌, ℕ, ◌-◌, ◌^◌, ◌<◌, ◌≤◌, ◌&&◌, nat_lt, Bool, true, false, not, Option}
use Rattle.laws_container.proofs.Names.{Some, None, is_some, is_none, List, [], ◌∷◌, length, refl, sym, ap, subst}
use Rattle.laws_container.proofs.Names.{◌∙◌, arith, nat_tests, total_words, greatest, Start, Container, Flight, Party}
use Rattle.laws_container.proofs.Names.{WrongCall, Busy, Idle, Undecided, Turn, Begin, Next, Decide, Die, Coding}
use Rattle.laws_container.proofs.Names.{IsWellFormedRun, first_of, going_rows, party_of, Each, is_due, call_refusal}
use Rattle.laws_container.proofs.Names.{first_row, after_turn, unless_refused, Trace, opening, capacity_error}
use Rattle.laws_container.proofs.Names.{flight_in, Each-nil, row_passed, may_begin, next_passes, Word, IsHonest}
use Rattle.laws_container.proofs.Names.{open_refusal, attempt_open, run_open, IsReachedOpen, AllLive, all_live_on}
use Rattle.laws_container.proofs.Names.{counter_of, admitted_is}
use Rattle.model.specs.declared.families.Flight.TheVariants as flights
use Rattle.model.specs.declared.families.container.ContainerStart.TheVariants.{Recover}
use Rattle.model.specs.declared.turn.Kind.TheVariants as kinds
use Rattle.model.specs.declared.turn.Refusal.{Refusal}
use Rattle.model.specs.declared.event.Event.TheVariants.{Begun}
use Rattle.model.specs.Families.{kept_after_begin}
use Rattle.model.specs.Turns.{party_at_begin}
use Rattle.model.proofs.Frame as frame
use Rattle.model.proofs.Scenes.{comes_from, decides_from, stands_there}
use Rattle.model.proofs.Reached.{kept_by}
use Rattle.laws_container.specs.Gone.{AnswersBy}
use Rattle.laws_container.specs.Open.{is_for_gone, steps_for_gone, is_faithful, IsFaithful, IsFaithfulRun, IsOpenContainer}
use Rattle.laws_container.specs.ConditionalPromises.{TellsIf}
use Rattle.laws_container.proofs.Allowed.{allowed_open}
use Rattle.laws_container.proofs.AllRuns.{shown}
use Rattle.laws_container.proofs.Honest.{turn_honest}
use Rattle.laws_container.proofs.Invariant.{family_by}
use Rattle.laws_container.proofs.Kept.{cells, lock, dead, questions, states, contained}
use Rattle.laws_container.proofs.Living.{steps_leave}
use Rattle.laws_container.proofs.WellFormed.{well_formed_on}
use Rattle.laws_container.proofs.Sound.{MayGoOn, IsRightly, MayRecoverIn, kept_now, recovers_by, comes, decides, begin_comes, opening_sound}
use Rattle.laws_container.proofs.Terms.{Terms}
use Rattle.laws_container.proofs.TurnPromises.{tells_if}

-- ---- one turn

-- `kept` says whether the run is faithful and of few turns; `code` and `c` are the coding and the capacity
module _ {T : Type 0} (kept : Bool) (code : Coding T) (c : ℕ) where
  -- the terms of an open run
  abbrev pub terms : Terms
  terms = record { by = Word; kept = kept }

  -- what the frame and the container's invariant say of the machine
  abbrev IsSoundOn : Trace T → Type 0
  IsSoundOn t = frame.Sound (family_by terms code c) t

  -- `t` is the run up to this turn, and `s` that it is sound
  module _ (t : Trace T) (s : IsSoundOn t) (few : kept ≡ true → t.world.turns < 2 ^ 64 - 2) where
    -- an open run may always go on: its counter may wear out, and its turns are few where it keeps to that
    may : MayGoOn terms t
    may = record { room = tt; few = few }

    -- the faithful run's hypothesis that a step acts for nobody who is gone, in the form `IsRightly`
    rightly : (p : ℕ) (x : Party T) (since : ℕ) (found : party_of p t.world.latest ≡ Some x) (flight : Flight T)
        → (kept ≡ true → is_for_gone t.events (Some flight) ≡ false)
        → IsRightly shown terms code c t s p x since found flight
    rightly p x since found (flights.Container flight) owner_lives = owner_lives
    rightly p x since found flight owner_lives = tt

    -- the begin of a call leads to a sound machine
    begun : {p : ℕ} {start : Start T} (flight : Flight T) → MayRecoverIn shown terms code c t s p start → flight_in t.world p ≡ None
        → first_of t.world.kind t.world.capacity start t.world.kept ≡ Some flight
        → frame.Comes (family_by terms code c) t p (kept_after_begin t.world.coding t.world.capacity start p t.world.kept) t.world.words
        (party_at_begin start flight t.world.changes) (Begun p start ∷ []) t.world.changes
    begun {p} {start} flight recovers free begins_so =
        let now = kept_now shown terms code c t s in
        let party_after = party_at_begin start flight t.world.changes in
        let named : first_of kinds.Container c start now ≡ Some flight = rw (s.kind, s.capacity, s.fit.kept) at begins_so in
        let kept_same : kept_after_begin t.world.coding t.world.capacity start p t.world.kept ≡ kept_after_begin code c start p now =
        rw (s.coding, s.capacity, s.fit.kept) refl in
        subst (λ kept. frame.Comes (family_by terms code c) t p kept t.world.words party_after (Begun p start ∷ []) t.world.changes) (sym kept_same)
        (subst (λ words. frame.Comes (family_by terms code c) t p (kept_after_begin code c start p now) words party_after (Begun p start ∷ []) t.world.changes)
        (sym s.fit.words) (begin_comes shown terms code c t s p start flight recovers free named))

    -- a begin that is not refused leaves the machine sound
    begins : (p : ℕ) (start : Start T) → MayRecoverIn shown terms code c t s p start → flight_in t.world p ≡ None
        → is_none (first_of t.world.kind t.world.capacity start t.world.kept) ≡ false → IsSoundOn (after_turn t (Begin p start))
    begins p start recovers free call =
        frame.begin_sound (family_by terms code c) t p start call s
        (λ flight e. begun flight recovers free e)
        (first_of t.world.kind t.world.capacity start t.world.kept) refl

    -- a begin that the machine's rows do not refuse leaves the machine sound
    begins_by_rows : (p : ℕ) (start : Start T) → call_refusal t.world (Begin p start) ≡ None → IsSoundOn (after_turn t (Begin p start))
    begins_by_rows p start unrefused =
        let b = may_begin t.world p start unrefused in
        begins p start (recovers_by shown terms code c t s p b) b.free b.call

    free_by : (o : Option (Flight T)) → is_some o ≡ false → o ≡ None
    free_by None nothing = refl
    free_by (Some flight) nothing = absurd (cc)

    -- a turn that an open run does not refuse leaves the machine sound, if it is no step for an owner who is
    -- gone, where the run is to be faithful
    pub open_turn_sound : (turn : Turn T) → open_refusal t.world turn ≡ None → (kept ≡ true → steps_for_gone t turn ≡ false) → IsSoundOn (after_turn t turn)
    -- a recovery begins; its owner need not be dead, since nobody dies in an open run
    open_turn_sound (Begin p (Container (Recover owner mode))) unrefused faithful =
        let start : Start T = Container (Recover owner mode) in
        let b = row_passed (is_some (flight_in t.world p)) Busy _ unrefused in
        let d = row_passed (is_none (first_of t.world.kind t.world.capacity start t.world.kept)) WrongCall None b.1 in
        begins p start tt (free_by (flight_in t.world p) b.0) d.0
    -- any other call begins
    open_turn_sound (Begin p start) unrefused faithful = begins_by_rows p start unrefused
    -- a call takes a step
    open_turn_sound (Next p) unrefused faithful =
        let F = family_by terms code c in
        let rows : first_row (going_rows code (kept_now shown terms code c t s) (flight_in t.world p) None) ≡ None =
        rw (s.coding, s.fit.kept) at (next_passes t.world p unrefused) in
        frame.next_sound F t p s (λ x flight since u.
        comes_from F t s p x since s.state.words (kept_now shown terms code c t s) flight s.fit.words s.fit.kept
        (comes shown terms code c t s p x since u.found may
        (rightly p x since u.found flight (λ keeps. subst (λ o. is_for_gone t.events o ≡ false) u.is (faithful keeps)))
        (subst (λ o. first_row (going_rows code (kept_now shown terms code c t s) o None) ≡ None) u.is rows)
        (stands_there F t s p x since flight u.found u.doing)))
        (party_of p t.world.latest) refl
    open_turn_sound (Die owner) unrefused faithful = absurd (cc)
    -- a call is told a decision that it waits for
    open_turn_sound (Decide p said) unrefused faithful =
        let b = row_passed (is_none (flight_in t.world p)) Idle _ unrefused in
        let d = row_passed (not (is_due t.world.coding (flight_in t.world p))) Undecided None b.1 in
        let due : is_due code (flight_in t.world p) ≡ true =
        subst (λ y. is_due y (flight_in t.world p) ≡ true) s.coding (frame.is_true (is_due t.world.coding (flight_in t.world p)) d.0) in
        let F = family_by terms code c in
        frame.decision_sound F t p said s (λ x flight since u.
        decides_from F t s p x since said s.state.words (kept_now shown terms code c t s) flight s.fit.words s.fit.kept
        (decides shown terms code c t s p x since u.found may said (subst (λ o. is_due code o ≡ true) u.is due)
        (stands_there F t s p x since flight u.found u.doing)))
        (party_of p t.world.latest) refl

-- ---- turns are counted

module _ {T : Type 0} where
  -- a turn takes back none that was counted
  turn_grows : (t : Trace T) (turn : Turn T) → t.world.turns ≤ (after_turn t turn).world.turns
  turn_grows t turn = grind arith

  -- an attempted turn, refused or not, takes back none that was counted
  attempt_grows : (t : Trace T) (turn : Turn T) (o : Option Refusal) → t.world.turns ≤ (unless_refused t (after_turn t turn) o).world.turns
  attempt_grows t turn None = turn_grows t turn
  attempt_grows t turn (Some refusal) = omega arith

  -- no run takes back turns that were counted
  run_grows : (turns : List (Turn T)) (t : Trace T) → t.world.turns ≤ (run_open turns t).world.turns
  run_grows [] t = omega arith
  run_grows (turn ∷ turns) t =
      let first = attempt_grows t turn (open_refusal t.world turn) in
      let rest = run_grows turns (attempt_open t turn) in
      omega arith

-- ---- whole runs

both_true : (a b : Bool) → (a && b) ≡ true → (a ≡ true) × (b ≡ true)
both_true true b both_hold = (refl, both_hold)
both_true false b both_hold = absurd (cc)

not_true : (b : Bool) → not b ≡ true → b ≡ false
not_true true negated = absurd (cc)
not_true false negated = refl

-- `kept` says whether the run is faithful and of few turns
module _ {T : Type 0} (kept : Bool) (code : Coding T) (c : ℕ) where
  abbrev IsSoundRun : Trace T → Type 0
  IsSoundRun t = frame.Sound (family_by (terms kept code c) code c) t

  -- an attempted turn, refused or not, leaves a sound machine sound
  attempted : (t : Trace T) (turn : Turn T) (o : Option Refusal) → open_refusal t.world turn ≡ o → IsSoundRun t
      → (kept ≡ true → t.world.turns < 2 ^ 64 - 2) → (kept ≡ true → steps_for_gone t turn ≡ false)
      → IsSoundRun (unless_refused t (after_turn t turn) o)
  attempted t turn None refusal_is s few faithful = open_turn_sound kept code c t s few turn refusal_is faithful
  attempted t turn (Some refusal) refusal_is s few faithful = s

  -- a run from a sound machine leads to a sound machine, if it is faithful and of few turns
  -- where `kept` says so
  run_sound : (turns : List (Turn T)) (t : Trace T) → IsSoundRun t → (kept ≡ true → is_faithful turns t ≡ true)
      → (kept ≡ true → (run_open turns t).world.turns < 2 ^ 64 - 2) → IsSoundRun (run_open turns t)
  run_sound [] t s faithful few = s
  run_sound (turn ∷ turns) t s faithful few =
      run_sound turns (attempt_open t turn)
      (attempted t turn (open_refusal t.world turn) refl s
      (λ keeps. let grows = run_grows (turn ∷ turns) t in let end = few keeps in omega arith)
      (λ keeps. not_true (steps_for_gone t turn)
      (both_true (not (steps_for_gone t turn)) (is_faithful turns (attempt_open t turn)) (faithful keeps)).0))
      (λ keeps. (both_true (not (steps_for_gone t turn)) (is_faithful turns (attempt_open t turn)) (faithful keeps)).1) few

-- the terms of any open run, faithful or not
module _ {T : Type 0} (code : Coding T) (c : ℕ) where
  abbrev IsSoundAnyhow : Trace T → Type 0
  IsSoundAnyhow t = IsSoundRun false code c t

  -- an attempted turn that takes no step for an owner who is gone leaves an honest machine honest, and sound
  attempt_honest : (t : Trace T) (turn : Turn T) (o : Option Refusal) → open_refusal t.world turn ≡ o → IsSoundAnyhow t → IsHonest t.events
      → steps_for_gone t turn ≡ false → IsSoundAnyhow (unless_refused t (after_turn t turn) o) × IsHonest (unless_refused t (after_turn t turn) o).events
  attempt_honest t turn None refusal_is any honest steps =
      let next : IsSoundAnyhow (after_turn t turn) = open_turn_sound false code c t any (λ keeps. absurd (cc)) turn refusal_is (λ keeps. absurd (cc)) in
      (next, turn_honest (terms false code c) code c t any honest turn refusal_is steps next)
  attempt_honest t turn (Some refusal) refusal_is any honest steps = (any, honest)

  -- a faithful run from an honest machine leads to an honest one
  run_honest : (turns : List (Turn T)) (t : Trace T) → IsSoundAnyhow t → IsHonest t.events → is_faithful turns t ≡ true → IsHonest (run_open turns t).events
  run_honest [] t any honest faithful = honest
  run_honest (turn ∷ turns) t any honest faithful =
      let both = both_true (not (steps_for_gone t turn)) (is_faithful turns (attempt_open t turn)) faithful in
      let next = attempt_honest t turn (open_refusal t.world turn) refl any honest (not_true (steps_for_gone t turn) both.0) in
      run_honest turns (attempt_open t turn) next.0 next.1 both.1

-- `t` is the machine that an open run has reached
module _ {T : Type 0} (t : Trace T) (kind_is : t.world.kind ≡ kinds.Container) (r : IsReachedOpen t) where
  abbrev first : Trace T
  first = opening t.world.coding t.world.kind t.world.capacity t.world.parties

  -- the machine of an open run is sound as it opens
  open_at_first : (kept : Bool) → IsSoundRun kept t.world.coding t.world.capacity first
  open_at_first kept =
      let world = t.world in
      let may = admitted_is world.capacity (subst (λ kind. capacity_error kind world.capacity ≡ None) kind_is r.admitted) in
      subst (λ kind. IsSoundRun kept world.coding world.capacity (opening world.coding kind world.capacity world.parties)) (sym kind_is)
      (opening_sound shown (terms kept world.coding world.capacity) world.coding world.capacity world.parties r.coded may.0 may.1)

  -- the machine that an open run has reached is sound, also on the terms of a faithful run if it is faithful
  -- and of few turns
  reached_sound : (kept : Bool) → (kept ≡ true → is_faithful r.turns first ≡ true) → (kept ≡ true → t.world.turns < 2 ^ 64 - 2)
      → IsSoundRun kept t.world.coding t.world.capacity t
  reached_sound kept faithful few =
      let world = t.world in
      subst (IsSoundRun kept world.coding world.capacity) (sym r.is)
      (run_sound kept world.coding world.capacity r.turns first (open_at_first kept) faithful
      (λ keeps. subst (λ (u : Trace T). u.world.turns < 2 ^ 64 - 2) r.is (few keeps)))

  -- the terms of any open run: an owner is gone by the word of a recovery's begin
  abbrev pub any : Terms
  any = terms false t.world.coding t.world.capacity

  pub reached_open_sound : frame.Sound (family_by any t.world.coding t.world.capacity) t
  reached_open_sound = reached_sound false (λ keeps. absurd (cc)) (λ keeps. absurd (cc))

  -- a faithful run is honest
  reached_open_honest : IsFaithful t r → IsHonest t.events
  reached_open_honest faithful =
      subst (λ (u : Trace T). IsHonest u.events) (sym r.is)
      (run_honest t.world.coding t.world.capacity r.turns first (open_at_first false) (Each-nil _) faithful)

  -- nobody dies in an open run
  pub reached_open_lives : AllLive t.events
  reached_open_lives =
      let code = t.world.coding in
      let c = t.world.capacity in
      (kept_by open_refusal (λ u. IsSoundRun false code c u × AllLive u.events)
      (λ u turn e h.
      (open_turn_sound false code c u h.0 (λ keeps. absurd (cc)) turn e (λ keeps. absurd (cc)), all_live_on u (steps_leave any code c u h.0) turn e h.1))
      t (open_at_first false, λ owner. refl) r).1

  -- no turn of an open run changes how many words the machine has
  pub reached_open_wide : length t.world.words ≡ total_words t.world.capacity t.world.coding.size
  reached_open_wide =
      let sound_there = reached_open_sound in
      ap length sound_there.fit.words ∙ sound_there.holds.elements.wide

  -- all that is promised of an open container holds of the machine that an open run has reached
  pub reached_open_kept : IsOpenContainer t r
  reached_open_kept =
      let world = t.world in
      let sound_there = reached_open_sound in
      record {
        does = sound_there.holds.good.does;
        asks = sound_there.holds.elements.asks;
        recovers = sound_there.holds.elements.recovers;
        answers =
            subst (λ ws. Each (AnswersBy Word (counter_of ws ≡ greatest) world.capacity) t.events)
            (sym sound_there.fit.words) sound_there.holds.elements.answers;
        cells = cells any world.coding t sound_there;
        lock = lock any world.coding t sound_there;
        lives = reached_open_lives;
        dead = dead any world.coding t sound_there;
        questions = questions any world.coding t sound_there;
        states = states any world.coding t sound_there;
        holds = λ well_formed honest. sound_there.holds.good.holds (well_formed, honest);
        honest = reached_open_honest;
        contained = λ well_formed run.
            let keeping = terms true world.coding world.capacity in
            contained keeping world.coding t (reached_sound true (λ keeps. run.faithful) (λ keeps. run.few))
            (well_formed_on keeping t refl (reached_open_honest run.faithful) well_formed);
      }

  -- ---- what a turn tells

  and_true : (a b : Bool) → a ≡ true → b ≡ true → (a && b) ≡ true
  and_true true b h k = k
  and_true false b h k = absurd (cc)

  few_is : (n : ℕ) → nat_lt n (2 ^ 64 - 2) ≡ true → n < 2 ^ 64 - 2
  few_is n few_turns = grind (arith, nat_tests)

  is_few : (n : ℕ) → n < 2 ^ 64 - 2 → nat_lt n (2 ^ 64 - 2) ≡ true
  is_few n less = grind (arith, nat_tests)

  -- a turn that an open run does not refuse tells what is promised of it; some of that only where the run is
  -- faithful and of few turns, and with this turn well-formed and honest
  pub reached_open_tells : (turn : Turn T) → open_refusal t.world turn ≡ None
      → TellsIf (IsFaithfulRun t r × IsWellFormedRun (after_turn t turn) × IsHonest (after_turn t turn).events) t turn (after_turn t turn)
  reached_open_tells turn unrefused =
      let world = t.world in
      let new = after_turn t turn in
      let faithful : Bool = is_faithful r.turns first in
      let few : Bool = nat_lt world.turns (2 ^ 64 - 2) in
      let on = terms (faithful && few) world.coding world.capacity in
      let are_few : (faithful && few) ≡ true → world.turns < 2 ^ 64 - 2 = λ keeps. few_is world.turns (both_true faithful few keeps).1 in
      let sound_there = reached_sound (faithful && few) (λ keeps. (both_true faithful few keeps).0) are_few in
      tells_if
      (record { shown = shown; terms = on; code = world.coding; trace = t; sound = sound_there; may = record { room = tt; few = are_few } })
      (record {
        turn = turn;
        allowed = allowed_open world turn unrefused;
        well_formed = IsFaithfulRun t r × IsWellFormedRun new × IsHonest new.events;
        so_far = λ run. well_formed_on on new (and_true faithful few run.0.faithful (is_few world.turns run.0.few)) run.2 run.1;
      })

  -- where the run is faithful and the turn is no step for an owner who is gone, the run
  -- with this turn is honest
  pub reached_turn_honest : (turn : Turn T) → open_refusal t.world turn ≡ None → IsFaithful t r → steps_for_gone t turn ≡ false
      → IsHonest (after_turn t turn).events
  reached_turn_honest turn unrefused faithful steps =
      let world = t.world in
      let sound_there = reached_open_sound in
      turn_honest any world.coding world.capacity t sound_there (reached_open_honest faithful) turn unrefused steps
      (open_turn_sound false world.coding world.capacity t sound_there (λ keeps. absurd (cc)) turn unrefused (λ keeps. absurd (cc)))
