-- A turn moves a party's state only in a look of that party, and an update that answers false has taken one
-- step and left its party's state.
use Rattle.laws_container.proofs.Names.{◌≡◌, ◌≢◌, ◌⊎◌, inr, ℕ, ◌==◌, ◌&&◌, ◌≤◌, if◌then◌else◌, Bool, true, false}
use Rattle.laws_container.proofs.Names.{Option, Some, None, is_some, List, refl, sym, ap, subst, ◌∙◌, arith}
use Rattle.laws_container.proofs.Names.{nat_tests, LookStage, ContainerState, Truth, Start, Container, Loan, Flight}
use Rattle.laws_container.proofs.Names.{Registry, ContainerStart, GetState, UpdateState, ContainerFlight, LookOf}
use Rattle.laws_container.proofs.Names.{Going, Party, Turn, Begin, Coding, first_of, want_of, is_question, beside_of}
use Rattle.laws_container.proofs.Names.{step_of, kept_after_begin, goes_after, states_after, writes_state, is_look_of}
use Rattle.laws_container.proofs.Names.{MovesInLooks, BeginsWithState, KeepsStates, steps_of, state_in, is_looking}
use Rattle.laws_container.proofs.Names.{EndsLook, keeps, state_of, with_state, fresh, loan_keeps, party_of, put}
use Rattle.laws_container.proofs.Names.{progress_after, is_due, answer_in, after_begin, after_turn, World, Trace}
use Rattle.laws_container.proofs.Names.{flight_in, progress_in, party_put_same, found_put_other, StandsThere}
use Rattle.laws_container.proofs.Names.{stands_there, both_ways, Next, Decide}
use Rattle.steps.specs.declared.container.look.Look.{Look}
use Rattle.steps.specs.declared.container.look.LookStage.TheVariants as stages
use Rattle.model.specs.declared.families.Flight.TheVariants as flights
use Rattle.model.specs.declared.families.Registry.TheVariants as registries
use Rattle.model.specs.declared.families.loan.LoanStart.{LoanStart}
use Rattle.model.proofs.Frame as frame
use Rattle.laws_container.proofs.Invariant.{family_by}
use Rattle.laws_container.proofs.Looks.{looks_as, written_other}
use Rattle.laws_container.proofs.LooksTell.{ending_look, LookEnd, ended, looks_right, looks_own, looks_leave}
use Rattle.laws_container.proofs.Sound.{SoundRun, MayGoOn, Shown, kept_now}
use Rattle.laws_container.proofs.Stages.{any_call}
use Rattle.laws_container.proofs.CallProgress.{look_at, look_number}
use Rattle.laws_container.proofs.Terms.{Terms}
use Rattle.laws_container.proofs.Allowed.{IsAllowed}
use Rattle.lemmas_owners.proofs.OneTurn.{by_next, by_decision}

differ : (p q : ℕ) → (p == q) ≡ false → q ≢ p
differ p q none = grind (arith, nat_tests)

-- ---- what a step makes of the states

-- what a step makes of the parties' states
module _ {T : Type 0} where
  -- the step is one of another party, or of a call that is no look
  abbrev IsApart : ℕ → ℕ → Flight T → Type 0
  IsApart p q flight = (p ≢ q) ⊎ (is_looking (Some flight) ≡ false)

  -- the state that a look writes is that of its own party
  written : (code : Coding T) (q : ℕ) (call : Look T) (old p : ℕ) → p ≢ q
      → (states : List (ℕ × ContainerState T)) (o : Option (ContainerState T))
      → state_of p (writes_state code q call old o states) ≡ state_of p states
  written = grind (arith, written_other)

  -- a step of a call leaves the state of a party, if it is one of another party or of no look
  stays : (code : Coding T) (q : ℕ) (flight : ContainerFlight T) (n : ℕ) (states : List (ℕ × ContainerState T)) (p : ℕ)
      → IsApart p q (flights.Container flight)
      → state_of p (states_after code q flight n states) ≡ state_of p states
  stays = grind (arith, written)

  -- a step that is no step of a look of this party is one of another party, or of no look
  apart_is : {p : ℕ} (q : ℕ) (flight : Flight T) → ((q == p) && is_looking (Some flight)) ≡ false → IsApart p q flight
  apart_is q flight none = grind arith

  -- no look waits for a decision
  no_look : (code : Coding T) (flight : Flight T) → is_question (want_of code flight) ≡ true → is_looking (Some flight) ≡ false
  no_look code flight asks = grind arith

  -- ---- what a begin and a death make of them

  -- a begin on a container that is no look of this party leaves its state
  held_stays : (code : Coding T) (capacity p q : ℕ) (start : ContainerStart T) (kept : Registry T) (w : World T)
      → is_look_of w q (Begin p (Container start)) ≡ false
      → state_in (keeps code capacity start p kept) q ≡ state_in kept q
  held_stays code capacity p q GetState (registries.Container dead states) w none =
      found_put_other q p (fresh code capacity) states (differ p q none)
  held_stays code capacity p q UpdateState (registries.Container dead states) w none = go (is_some (state_of p states))
    where
      -- the cases are whether the party has a state already
      go : (b : Bool) → state_of q (if b then states else with_state p (fresh code capacity) states) ≡ state_of q states
      go true = refl
      go false = found_put_other q p (fresh code capacity) states (differ p q none)
  held_stays code capacity p q start (registries.Container dead states) w none = refl
  held_stays code capacity p q start kept w none = refl

  -- a begin on a loan channel leaves no party another state
  loan_stays : (q : ℕ) (start : LoanStart) (kept : Registry T) → state_in (loan_keeps start kept) q ≡ state_in kept q
  loan_stays = grind arith

  -- any begin that is no look of this party leaves its state
  begun_stays : (code : Coding T) (capacity p q : ℕ) (start : Start T) (kept : Registry T) (w : World T)
      → is_look_of w q (Begin p start) ≡ false
      → state_in (kept_after_begin code capacity start p kept) q ≡ state_in kept q
  begun_stays code capacity p q (Container start) kept w none = held_stays code capacity p q start kept w none
  begun_stays code capacity p q (Loan start) kept w none = loan_stays q start kept
  begun_stays code capacity p q start kept w none = refl

  -- an update leaves the state of its party as it begins, if it has one
  update_keeps : (code : Coding T) (capacity p : ℕ) (kept : Registry T) (state : ContainerState T)
      → state_in kept p ≡ Some state
      → state_in (kept_after_begin code capacity (Container UpdateState) p kept) p ≡ Some state
  update_keeps code capacity p kept state found = grind arith

-- ---- a step of a party's call

-- the run up to this turn is sound and may go on; `x` is the call of party `q`
module _ {T : Type 0} (run : SoundRun T) (q : ℕ) (x : Party T) (since : ℕ) (found : party_of q run.trace.world.latest ≡ Some x) where
  open run use {shown, terms, code, trace as t, sound}

  abbrev c : ℕ
  c = t.world.capacity

  -- a step of the call leaves the state of each party of which it is no look
  abbrev LeavesOtherStates : ℕ → Coding T → Registry T → Start T → Flight T → Type 0
  LeavesOtherStates n y kept a flight =
      (p : ℕ) → IsApart p q flight
      → state_in (step_of y t.world.words (beside_of t.world.words kept t.world.latest q) q a flight n kept).kept p ≡ state_in kept p

  -- a step of a call at its stage leaves the state of each party of which it is no look
  step_stays : (n : ℕ) (a : Start T) (flight : Flight T)
      → StandsThere (family_by terms code c) t sound q x since a flight
      → LeavesOtherStates n code (kept_now shown terms code c t sound) a flight
  step_stays = grind (arith, stays)

  -- a step of the party's call under way leaves the state of each other party, and its own if it is no look
  any_stays : (n : ℕ) {flight : Flight T} → x.doing ≡ Going flight since → LeavesOtherStates n t.world.coding t.world.kept x.start flight
  any_stays n {flight} doing =
      subst (λ y. LeavesOtherStates n y t.world.kept x.start flight) (sym sound.coding)
      (subst (λ kept. LeavesOtherStates n code kept x.start flight) (sym sound.fit.kept)
      (step_stays n x.start flight (stands_there (family_by terms code c) t sound q x since flight found doing)))

-- ---- any turn

-- the run up to this turn is sound and may go on
module _ {T : Type 0} (run : SoundRun T) where
  open run use {trace as t}

  -- a step leaves a party's state if it is no step of a look of that party
  next_moves : (q p : ℕ) → ((q == p) && is_looking (flight_in t.world q)) ≡ false
      → state_in (after_turn t (Next q)).world.kept p ≡ state_in t.world.kept p
  next_moves q p none =
      by_next t.world q (λ w es. state_in w.kept p ≡ state_in t.world.kept p) refl (λ x flight since has.
      any_stays run q x since has.found _ has.doing p
      (apart_is q flight (subst (λ o. ((q == p) && is_looking o) ≡ false) has.here none)))

  -- a decision leaves each party's state
  decision_moves : (q p : ℕ) (said : Bool) → is_due t.world.coding (flight_in t.world q) ≡ true
      → state_in (after_turn t (Decide q said)).world.kept p ≡ state_in t.world.kept p
  decision_moves q p said due =
      by_decision t.world q (λ w es. state_in w.kept p ≡ state_in t.world.kept p) refl said (λ x flight since has.
      let asks : is_question (want_of t.world.coding flight) ≡ true = subst (λ o. is_due t.world.coding o ≡ true) has.here due in
      any_stays run q x since has.found _ has.doing p (inr (no_look t.world.coding flight asks)))

  -- a begin leaves a party's state if it is no look of that party
  begin_moves : (p q : ℕ) (start : Start T) → is_look_of t.world q (Begin p start) ≡ false → (o : Option (Flight T))
      → state_in (after_begin t.world p start o).kept q ≡ state_in t.world.kept q
  begin_moves p q start none None = refl
  begin_moves p q start none (Some flight) = begun_stays t.world.coding t.world.capacity p q start t.world.kept t.world none

  -- an update begins with the state that its party has
  update_begins : (p : ℕ) (state : ContainerState T) → state_in t.world.kept p ≡ Some state
      → (o : Option (Flight T)) → state_in (after_begin t.world p (Container UpdateState) o).kept p ≡ Some state
  update_begins = grind (arith, update_keeps)

  module _ (turn : Turn T) (r : IsAllowed t.world turn) where
    -- a turn that is no step of a look of a party leaves its state
    moves : MovesInLooks t turn (after_turn t turn)
    moves = grind (arith, next_moves, decision_moves, begin_moves)

    -- an update begins with the state that its party has
    begins : BeginsWithState t turn (after_turn t turn)
    begins = grind (arith, state_in, after_turn, update_begins, first_of)

-- ---- an update that answers false

module _ {T : Type 0} where
  -- a look that answers false to an update has loaded the number of changes in its only step
  first_step : (code : Coding T) (c : ℕ) (which : LookOf) (stage : LookStage) (o : Option (ContainerState T)) (n : ℕ)
      → UpdateState ≡ looks_as {T = T} which
      → answer_in (any_call (goes_after code o (look_at which c stage) n)) ≡ Some (Truth false)
      → stage ≡ stages.LoadsChange
  first_step code c which stage o n name ends_so = grind arith

-- party `p` ends an update with the answer false in this turn
module _ {T : Type 0} (run : SoundRun T) (turn : Turn T) (r : IsAllowed run.trace.world turn)
    {p : ℕ} (ends : EndsLook p UpdateState (Truth false) run.trace (after_turn run.trace turn)) where
  open run use {code as coding, trace as t}

  abbrev end : LookEnd (ending_look run turn r ends) (after_turn t turn)
  end = ended run turn r ends

  -- an update that answers false has taken one step
  one_step : steps_of (progress_in (after_turn t turn).world p) ≡ 1
  one_step =
      let l = end.turn in
      let first = first_step coding t.world.capacity l.which l.stage _ _ l.name l.done in
      let few : l.party.steps ≤ 0 = subst (λ stage. l.party.steps ≤ look_number coding.size stage l.party.backs) first l.there.steps in
      let counted = l.steps_then in
      let latest : party_of p (after_turn t turn).world.latest ≡ Some l.next =
      ap (party_of p) l.latest_is
      ∙ (ap (λ n. party_of p (put n l.next t.world.latest)) l.same ∙ party_put_same p l.next t.world.latest) in
      let one : l.next.steps ≡ 1 = omega arith in
      ap (λ o. steps_of (progress_after (after_turn t turn).world.changes o)) latest ∙ one

  -- an update that answers false leaves its party's state as it was
  state_left : state_in (after_turn t turn).world.kept p ≡ state_in t.world.kept p
  state_left = by (state_in (after_turn t turn).world.kept p) refl (looks_leave run turn r p UpdateState (Truth false) ends)
    where
      -- the cases are whether the party has a state after the turn, as the party of an ended look has
      by : (o : Option (ContainerState T)) → state_in (after_turn t turn).world.kept p ≡ o
          → is_some (state_in (after_turn t turn).world.kept p) ≡ true
          → state_in (after_turn t turn).world.kept p ≡ state_in t.world.kept p
      by None state_is some = let none : is_some (state_in (after_turn t turn).world.kept p) ≡ false = ap is_some state_is in both_ways _ none some
      by (Some state) state_is some =
          state_is ∙ sym
          (looks_right run turn r ⊥ (λ never. absurd never) p UpdateState (Truth false) state ends state_is).0

-- ---- as the promise says it

-- a turn that is not refused, from a sound machine
module _ {T : Type 0} (shown : Shown T) (terms : Terms) (code : Coding T) (t : Trace T) (turn : Turn T)
    (r : IsAllowed t.world turn) (sound : frame.Sound (family_by terms code t.world.capacity) t)
    (may : MayGoOn terms t) where
  abbrev run_so : SoundRun T
  run_so = record { shown = shown; terms = terms; code = code; trace = t; sound = sound; may = may }

  -- each turn keeps the states of the parties as the promise says
  pub keeps_states : KeepsStates t turn (after_turn t turn)
  keeps_states =
      record {
        moves = moves run_so turn r;
        begins = begins run_so turn r;
        at_once = λ p ends. (one_step run_so turn r ends, state_left run_so turn r ends);
        own = looks_own run_so turn r;
      }
