-- The turns of a call under way keep what the parties know of the number of changes of a container. `terms`
-- says what makes an owner gone.
use Rattle.std.proofs.Common.{arith}
use Rattle.laws_machine.proofs.Names.{◌≡◌, ◌≢◌, ⊎_elim, ℕ, ◌==◌, ◌&&◌, Bool, true, false, Option, Some, None, is_some}
use Rattle.laws_machine.proofs.Names.{IfSome, List, [], ◌∷◌, ◌++◌, refl, sym, ap, subst, ◌∙◌, ne_eqb, eq-eqb, cases_eq}
use Rattle.laws_machine.proofs.Names.{AllByRecursion, Look, ContainerState, Answer, Event, Begun, Died}
use Rattle.laws_machine.proofs.Names.{Acted, Finished, is_look_of, Act, questions, SetAct, Start, Container, Flight}
use Rattle.laws_machine.proofs.Names.{Registry, ContainerStart, ContainerFlight, LookOf, Party, Turn, Next, Decide}
use Rattle.laws_machine.proofs.Names.{want_of, ask_of, is_question, goes_of, beside_of, step_of, look_shows, settled_if}
use Rattle.laws_machine.proofs.Names.{writes_state, state_in, is_looking, state_of, party_of, IsParty, IsEffectOf, Each}
use Rattle.laws_machine.proofs.Names.{whose, answer_in, old_of, number_of, ending_of, events_of}
use Rattle.laws_machine.proofs.Names.{events_of_step}
use Rattle.laws_machine.proofs.Names.{ask_of_doing, step_in, after_answer, after_next, after_decision, world_after}
use Rattle.laws_machine.proofs.Names.{after_turn, Trace, flight_in, AreOwn, AreRight, Each-append}
use Rattle.laws_machine.proofs.Names.{may_next, StandsThere, both_ways, shown}
use Rattle.laws_machine.proofs.Names.{looks_as, written_same, all_effects}
use Rattle.steps.specs.declared.container.look.LookStage.TheVariants as stages
use Rattle.steps.specs.Container.Look as look_steps
use Rattle.model.specs.Families.Container.Steps.{effects}
use Rattle.laws_container.proofs.Allowed.{IsAllowed}
use Rattle.laws_container.proofs.KeptStates.{keeps_states}
use Rattle.laws_container.proofs.Stages.{any_call}
use Rattle.model.specs.declared.families.Flight.TheVariants as flights
use Rattle.model.specs.declared.families.Registry.TheVariants as registries
use Rattle.model.specs.declared.families.container.ContainerStart.TheVariants as starts
use Rattle.model.specs.declared.families.container.calls.ContainerFlight.TheVariants as calls
use Rattle.model.specs.Families.Container.Calls.{want, after}
use Rattle.model.proofs.Frame as frame
use Rattle.laws_container.proofs.Invariant.{family_by}
use Rattle.laws_container.proofs.Sound.{MayGoOn, is_there}
use Rattle.laws_container.proofs.CallProgress.{At}
use Rattle.laws_container.proofs.Terms.{Terms}
use Rattle.laws_machine.specs.Changes.{Seen, seen_by, CountsChanges, MeetsChanges}
use Rattle.laws_machine.proofs.Leaving.{next_leaves, decision_leaves}
use Rattle.laws_machine.proofs.Others.{others_stay}
use Rattle.laws_machine.proofs.SeenCalls.{PartyTurn, Leaves, wrote_by, others_leave, look_leaves, look_stays}
use Rattle.laws_machine.proofs.SeenKnows.{Within, Grows, LookSees, CallSees, FlightSees, seen_number, changes_are, others_grow, sees_later, IsNoLook}
use Rattle.laws_machine.proofs.CallTransition.{left_by, under_way, next_wrote, decision_wrote}
use Rattle.laws_machine.proofs.Taken.{decides}
use Rattle.laws_container.proofs.Moves.{look_asks_none}

-- what every turn keeps: what each party's state and look know of the number of changes, and that each
-- update that has ended met the changes that it tells
module _ {T : Type 0} where
  pub record Extra (t : Trace T) : Type 0 where
    pub known : (p : ℕ) → FlightSees (flight_in t.world p) (seen_by p t.events) (state_in t.world.kept p)
    pub right : Each MeetsChanges t.events

-- an allowed turn of the party p alone, which is no look of another party; `answer` is what it hands to the
-- party's call
pub record OwnTurn {T : Type 0} (t : Trace T) : Type 0 where
  pub turn : Turn T
  pub free : IsAllowed t.world turn
  pub p : ℕ
  pub its : IsParty turn p
  pub mine : (q : ℕ) → IsParty turn q → q ≡ p
  pub still : (q : ℕ) → q ≢ p → is_look_of t.world q turn ≡ false
  pub answer : ℕ

module _ {T : Type 0} {terms : Terms} {t : Trace T} (s : frame.Sound (family_by terms t.world.coding t.world.capacity) t)
    (may : MayGoOn terms t) (counts : CountsChanges t) (extra : Extra t) where
  abbrev fam : frame.Family T
  fam = family_by terms t.world.coding t.world.capacity

  -- the registry: the owners that are dead, and the parties' states
  abbrev pub now_kept : Registry T
  now_kept = registries.Container s.state.dead s.state.states

  -- the words of the machine are those of the container
  same_words : t.world.words ≡ s.state.words
  same_words = s.fit.words

  -- the machine keeps the owners that died and the parties' states
  pub same_kept : t.world.kept ≡ now_kept
  same_kept = s.fit.kept

  -- ---- the parties that do not take the turn

  module _ (turn : Turn T) (free : IsAllowed t.world turn) where
    -- a turn that is no look of `q` leaves the state of `q` as it was
    moves : (q : ℕ) → is_look_of t.world q turn ≡ false → state_in (world_after t.world turn).kept q ≡ state_in t.world.kept q
    moves = (keeps_states shown terms t.world.coding t turn free s may).moves

    -- after the turn, with the events `es`, the party `q` knows what its call says
    abbrev pub SeesThen : List (Event T) → ℕ → Type 0
    SeesThen es q = FlightSees (flight_in (world_after t.world turn) q) (seen_by q (t.events ++ es)) (state_in (world_after t.world turn).kept q)

    -- a party that does not take the turn knows what it knew, where the events let what it
    -- has seen grow at most
    pub other_known : (es : List (Event T)) (q : ℕ) → ¬ IsParty turn q → is_look_of t.world q turn ≡ false
        → Grows (seen_by q t.events) (seen_by q (t.events ++ es)) → SeesThen es q
    other_known = grind (arith, seen_by, state_in, others_stay, moves, sees_later)

    -- a turn whose events are all of the party `p` keeps what each party knows, if `p` itself does
    pub known_by : (p : ℕ) (es : List (Event T)) → ((q : ℕ) → IsParty turn q → q ≡ p)
        → ((q : ℕ) → q ≢ p → is_look_of t.world q turn ≡ false) → AreOwn p es → SeesThen es p → (q : ℕ) → SeesThen es q
    known_by p es mine still own here q =
        ⊎_elim (λ same. subst (SeesThen es) (sym same) here)
        (λ ne. other_known es q (λ its. ne (mine q its)) (still q ne) (others_grow q p t.events es (λ e. ne (sym e)) own))
        (cases_eq q p)

    -- a turn keeps `Extra` where each party then knows what its call says, and the events are right
    pub after_it : ((q : ℕ) → SeesThen (events_of t.world turn) q) → AreRight MeetsChanges t.events (events_of t.world turn) → Extra (after_turn t turn)
    after_it known right = record { known = known; right = Each-append MeetsChanges t.events (events_of t.world turn) extra.right right }

  -- a turn of the party `p` is no look of another party
  not_its : (p q : ℕ) (b : Bool) → q ≢ p → ((p == q) && b) ≡ false
  not_its p q b ne = ap (λ a. a && b) (ne_eqb p q (λ e. ne (sym e)))

  -- ---- a turn of a call under way

  -- the effects of a turn, and the end of its call, are events of its party alone
  all_own : (p : ℕ) (turn : Turn T) (es : List (Event T)) (start : Start T) (outcome : Option (Answer T))
      → ((q : ℕ) → IsParty turn q → q ≡ p) → AllByRecursion (IsEffectOf turn) es
      → AreOwn p (es ++ ending_of p start outcome)
  all_own p turn [] start None mine effects_hold = tt
  all_own p turn [] start (Some answer) mine effects_hold = (refl, tt)
  all_own p turn (e ∷ es) start outcome mine effects_hold = (effect_own e effects_hold.0, all_own p turn es start outcome mine effects_hold.1)
    where
      -- the party that a turn names is the party of the turn
      by_whose : (o : Option ℕ) → IfSome o (IsParty turn) → is_some o ≡ true → o ≡ Some p
      by_whose None its some = absurd (cc)
      by_whose (Some q) its some = ap Some (mine q its)

      -- an effect of the turn is of its party
      effect_own : (e : Event T) → IsEffectOf turn e → whose e ≡ Some p
      effect_own (Begun q start) is_effect = absurd is_effect
      effect_own (Finished q start answer) is_effect = absurd is_effect
      effect_own (Acted q start answer) is_effect = absurd is_effect
      effect_own (Died o) is_effect = absurd is_effect
      effect_own e is_effect = by_whose (whose e) is_effect refl

  module _ (own_turn : OwnTurn t) where
    open own_turn use {turn, free, p, its, mine, still, answer}

    -- what the turn leaves of the party's call, and what it writes, are as that call's step says
    abbrev TurnIsStep : Registry T → Start T → Flight T → Type 0
    TurnIsStep kept start flight =
        (flight_in (world_after t.world turn) p ≡ left_by (goes_of t.world.coding p flight answer kept))
        × (events_of t.world turn
        ≡ events_of_step p start
        (step_of t.world.coding t.world.words (beside_of t.world.words kept t.world.latest p) p start flight answer kept))
        × ((world_after t.world turn).kept
        ≡ (step_of t.world.coding t.world.words (beside_of t.world.words kept t.world.latest p) p start flight answer kept).kept)

    -- the state of the party before the turn
    abbrev state : Option (ContainerState T)
    state = state_of p s.state.states

    -- the turn, as one of the party with this state
    abbrev turn_with : Option (ContainerState T) → PartyTurn T
    turn_with o = record { code = t.world.coding; p = p; events = t.events; state = o; turn = turn; mine = its }

    -- where the step leaves what `Leaves` asks, with the state that the registry then has,
    -- the turn keeps `Extra`
    leaves_it : {start : ContainerStart T} {flight : ContainerFlight T} {new : Option (ContainerState T)}
        → Leaves (turn_with state) new start flight answer
        → state_in (world_after t.world turn).kept p ≡ new
        → TurnIsStep now_kept (Container start) (flights.Container flight) → Extra (after_turn t turn)
    leaves_it {start} {flight} leaves new_is comes =
        let es = wrote_by (turn_with state) start flight answer in
        let outcome = answer_in (any_call (after t.world.coding state flight answer)) in
        after_it turn free
        (rw comes.1 (known_by turn free p es mine still
        (all_own p turn (effects t.world.coding p state flight answer ++ questions p flight answer)
        (Container start) outcome mine (all_effects turn p its t.world.coding state flight answer))
        (rw comes.0 (subst (FlightSees (left_by (any_call (after t.world.coding state flight answer))) (seen_by p (t.events ++ es)))
        (sym new_is) leaves.sees))))
        (subst (AreRight MeetsChanges t.events) (sym comes.1) leaves.right)

    -- the registry has this state for the party
    state_is : state_in t.world.kept p ≡ state
    state_is = ap (λ kept. state_in kept p) same_kept

    -- a turn of a call that is no look keeps `Extra`
    other_call : (start : ContainerStart T) (flight : ContainerFlight T) (all : List SetAct) (done : List (Act T))
        → At t.world.capacity t.world.coding.size all done start flight → IsNoLook start
        → is_look_of t.world p turn ≡ false → Within (seen_by p t.events) (seen_number state)
        → TurnIsStep now_kept (Container start) (flights.Container flight) → Extra (after_turn t turn)
    other_call start flight all done at other rests within comes =
        leaves_it {start = start} {flight = flight} {new = state}
        (others_leave (turn_with state) start flight answer
        (record { c = t.world.capacity; z = t.world.coding.size; all = all; done = done; stands = at }) other within)
        (moves turn free p rests ∙ state_is) comes

    -- ---- a look

    module _ (which : LookOf) (call : Look T) where
      -- the state of the party after the step
      abbrev left : Option (ContainerState T) → Option (ContainerState T)
      left None = None
      left (Some st) = Some (settled_if (look_steps.look_after t.world.coding.size call st.seen answer) (look_shows t.world.coding call st answer))

      -- each step of a look leaves what `Leaves` asks, whether or not the party has a state
      look_leaves_so : (o : Option (ContainerState T)) → LookSees which call.stage (seen_by p t.events) o
          → (call.stage ≡ stages.LoadsChange → answer ≡ (seen_by p t.events).changes)
          → Leaves (turn_with o) (left o) (looks_as which) (calls.Look which call) answer
      look_leaves_so None sees loads = look_stays (turn_with None) refl call answer which (looks_as which) sees
      look_leaves_so (Some st) sees loads =
          look_leaves (record { code = t.world.coding; p = p; events = t.events; st = st; turn = turn; mine = its; call = call; old = answer }) which sees loads

      -- the registry then has this state for the party
      writes_so : (o : Option (ContainerState T)) → state_of p s.state.states ≡ o
          → state_of p (writes_state t.world.coding p call answer o s.state.states) ≡ left o
      writes_so None found = found
      writes_so (Some st) found = written_same p _ st s.state.states found

      -- a turn of a look keeps `Extra`
      look_call : (start : ContainerStart T) → start ≡ looks_as which
          → LookSees which call.stage (seen_by p t.events) state
          → (call.stage ≡ stages.LoadsChange → answer ≡ (seen_by p t.events).changes)
          → TurnIsStep now_kept (Container start) (flights.Container (calls.Look which call)) → Extra (after_turn t turn)
      look_call start name sees loads comes =
          leaves_it {start = start} {flight = (calls.Look which call)} {new = (left state)}
          (rw name (look_leaves_so state sees loads))
          (ap (λ kept. state_in kept p) comes.2 ∙ writes_so state refl) comes

  -- of a call that is no look, the number that the party's state has seen is one that a look has met
  rests_within : (start : ContainerStart T) (flight : ContainerFlight T) (all : List SetAct) (done : List (Act T))
      (seen : Seen) (o : Option (ContainerState T))
      → At t.world.capacity t.world.coding.size all done start flight → IsNoLook start → CallSees flight seen o
      → Within seen (seen_number o)
  rests_within = grind arith

  -- a call that is no look is not told to look
  not_looking : (start : ContainerStart T) (flight : ContainerFlight T) (all : List SetAct) (done : List (Act T))
      → At t.world.capacity t.world.coding.size all done start flight → IsNoLook start
      → is_looking {T = T} (Some (flights.Container flight)) ≡ false
  not_looking = grind arith

  -- ---- a step

  module _ (p : ℕ) (free : IsAllowed t.world (Next p)) where
    abbrev on_next : (q : ℕ) → q ≢ p → is_look_of t.world q (Next p) ≡ false
    on_next q ne = not_its p q (is_looking (flight_in t.world p)) ne

    -- the step, where the party's call is handed this answer
    abbrev next_turn : ℕ → OwnTurn t
    next_turn answer = record { turn = Next p; free = free; p = p; its = refl; mine = λ q its. its; still = on_next; answer = answer }

    -- what the step of this call leaves and writes is as the table of steps says
    abbrev StepComes : ContainerStart T → ContainerFlight T → Type 0
    StepComes start flight =
        TurnIsStep (next_turn (old_of s.state.words (ask_of (want t.world.coding flight)))) now_kept (Container start) (flights.Container flight)

    -- the first load of a look finds the number of changes, as the word counts the changes
    loads_changes : (which : LookOf) (call : Look T) → call.capacity ≡ t.world.capacity
        → call.stage ≡ stages.LoadsChange
        → old_of s.state.words (ask_of (want t.world.coding (calls.Look which call))) ≡ (seen_by p t.events).changes
    loads_changes = grind (arith, same_words, counts, changes_are)

    -- a step of a call that is no look keeps `Extra`
    step_other : (start : ContainerStart T) (flight : ContainerFlight T) (all : List SetAct) (done : List (Act T))
        → At t.world.capacity t.world.coding.size all done start flight
        → flight_in t.world p ≡ Some (flights.Container flight)
        → IsNoLook start → CallSees flight (seen_by p t.events) (state_of p s.state.states) → StepComes start flight → Extra (after_turn t (Next p))
    step_other start flight all done at flies other sees comes =
        other_call (next_turn (old_of s.state.words (ask_of (want t.world.coding flight)))) start flight all done at other
        (ap (λ o. (p == p) && is_looking o) flies
        ∙ (ap (λ b. (p == p) && b) (not_looking start flight all done at other) ∙ ap (λ a. a && false) (eq-eqb p p refl)))
        (rests_within start flight all done (seen_by p t.events) (state_of p s.state.states) at other sees) comes

    -- a step of any call of the container keeps `Extra`
    step_by : (start : ContainerStart T) (flight : ContainerFlight T) (all : List SetAct) (done : List (Act T))
        → At t.world.capacity t.world.coding.size all done start flight
        → flight_in t.world p ≡ Some (flights.Container flight)
        → CallSees flight (seen_by p t.events) (state_of p s.state.states) → StepComes start flight → Extra (after_turn t (Next p))
    step_by starts.GetState (calls.Look which call) all done at flies sees comes =
        look_call (next_turn _) which call starts.GetState
        (ap looks_as (sym at.1)) sees (loads_changes which call at.0) comes
    step_by starts.UpdateState (calls.Look which call) all done at flies sees comes =
        look_call (next_turn _) which call starts.UpdateState
        (ap looks_as (sym at.1)) sees (loads_changes which call at.0) comes
    step_by starts.GetState flight all done at flies sees comes = absurd at
    step_by starts.UpdateState flight all done at flies sees comes = absurd at
    step_by (starts.Add value owner) flight all done at flies sees comes =
        step_other (starts.Add value owner) flight all done at flies tt sees comes
    step_by (starts.Remove index owner mode) flight all done at flies sees comes =
        step_other (starts.Remove index owner mode) flight all done at flies tt sees comes
    step_by (starts.Replace index value owner) flight all done at flies sees comes =
        step_other (starts.Replace index value owner) flight all done at flies tt sees comes
    step_by (starts.Find owner) flight all done at flies sees comes =
        step_other (starts.Find owner) flight all done at flies tt sees comes
    step_by (starts.Recover owner mode) flight all done at flies sees comes =
        step_other (starts.Recover owner mode) flight all done at flies tt sees comes
    step_by starts.Len flight all done at flies sees comes = step_other starts.Len flight all done at flies tt sees comes
    step_by starts.IsEmpty flight all done at flies sees comes = step_other starts.IsEmpty flight all done at flies tt sees comes
    step_by starts.IsLocked flight all done at flies sees comes = step_other starts.IsLocked flight all done at flies tt sees comes

    -- a step of any call that stands in the machine keeps `Extra`
    by_step : (x : Party T) (since : ℕ) → party_of p t.world.latest ≡ Some x → (start : Start T) (flight : Flight T)
        → StandsThere fam t s p x since start flight → flight_in t.world p ≡ Some flight
        → TurnIsStep (next_turn (old_of s.state.words (ask_of (want_of t.world.coding flight)))) now_kept start flight
        → Extra (after_turn t (Next p))
    by_step = grind (arith, is_there, shown, step_by, seen_by, state_in, same_kept)

    -- any step keeps `Extra`
    pub next_kept : Extra (after_turn t (Next p))
    next_kept =
        let flies = may_next t.world p free in
        let call = under_way fam t s p flies.flight flies.is in
        let caller = call.party in
        let left = next_leaves terms s p call in
        let wrote = next_wrote fam t s p call in
        let kept : (world_after t.world (Next p)).kept
        ≡ (step_in t.world p caller flies.flight (old_of t.world.words (ask_of (want_of t.world.coding flies.flight)))).kept =
        ap (λ o. (after_next t.world p o).kept) call.found
        ∙ ap
        (λ d. (after_answer t.world p caller (ask_of_doing t.world.coding d) (old_of t.world.words (ask_of_doing t.world.coding d)) d).kept)
        call.doing
        in
        by_step caller call.since call.found caller.start flies.flight call.there flies.is
        (subst (λ k. TurnIsStep (next_turn (old_of s.state.words (ask_of (want_of t.world.coding flies.flight)))) k caller.start flies.flight)
        same_kept
        (subst (λ ws. TurnIsStep (next_turn (old_of ws (ask_of (want_of t.world.coding flies.flight)))) t.world.kept caller.start flies.flight)
        same_words (left, wrote, kept)))

  -- ---- a decision

  module _ (p : ℕ) (said : Bool) (free : IsAllowed t.world (Decide p said)) where
    -- the decision
    abbrev decision : OwnTurn t
    decision = record { turn = Decide p said; free = free; p = p; its = refl; mine = λ q its. its; still = λ q ne. refl; answer = number_of said }

    -- what the decision for this call leaves and writes is as the table of steps says
    abbrev DecisionComes : Registry T → Start T → Flight T → Type 0
    DecisionComes kept start flight = TurnIsStep decision kept start flight

    -- a decision for a call that is no look keeps `Extra`
    decided_other : (start : ContainerStart T) (flight : ContainerFlight T) (all : List SetAct) (done : List (Act T))
        → At t.world.capacity t.world.coding.size all done start flight → IsNoLook start
        → CallSees flight (seen_by p t.events) (state_of p s.state.states)
        → DecisionComes now_kept (Container start) (flights.Container flight)
        → Extra (after_turn t (Decide p said))
    decided_other start flight all done at other sees comes =
        other_call decision start flight all done at other refl
        (rests_within start flight all done (seen_by p t.events) (state_of p s.state.states) at other sees) comes

    -- a decision for any call of the container that waits for one keeps `Extra`
    decided_by : (start : ContainerStart T) (flight : ContainerFlight T) (all : List SetAct) (done : List (Act T))
        → At t.world.capacity t.world.coding.size all done start flight
        → is_question (want t.world.coding flight) ≡ true
        → CallSees flight (seen_by p t.events) (state_of p s.state.states)
        → DecisionComes now_kept (Container start) (flights.Container flight)
        → Extra (after_turn t (Decide p said))
    decided_by = grind (arith, both_ways, look_asks_none, decided_other)

    -- a decision for any call that stands in the machine keeps `Extra`
    by_decision : (x : Party T) (since : ℕ) → party_of p t.world.latest ≡ Some x
        → (start : Start T) (flight : Flight T) → StandsThere fam t s p x since start flight
        → flight_in t.world p ≡ Some flight → is_question (want_of t.world.coding flight) ≡ true
        → DecisionComes now_kept start flight → Extra (after_turn t (Decide p said))
    by_decision = grind (arith, is_there, shown, decided_by, seen_by, state_in, same_kept)

    -- any decision keeps `Extra`
    pub decision_kept : Extra (after_turn t (Decide p said))
    decision_kept =
        let flies = decides {w = t.world} {p = p} free in
        let call = under_way fam t s p flies.flight flies.is in
        let caller = call.party in
        let left = decision_leaves terms {t = t} s p said {flight = flies.flight} call in
        let wrote = decision_wrote fam t s p call said in
        let kept : (world_after t.world (Decide p said)).kept ≡ (step_in t.world p caller flies.flight (number_of said)).kept =
        ap (λ o. (after_decision t.world p said o).kept) call.found ∙ ap (λ d. (after_answer t.world p caller None (number_of said) d).kept) call.doing
        in
        by_decision caller call.since call.found caller.start flies.flight call.there flies.is flies.due
        (subst (λ k. DecisionComes k caller.start flies.flight) same_kept (left, wrote, kept))
