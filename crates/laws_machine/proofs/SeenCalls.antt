-- What a step of any call of a container leaves known of the number of changes, and that the end of an
-- update has met the changes that it tells.
use Rattle.laws_machine.proofs.Names.{◌≡◌, ℕ, ◌+◌, ◌==◌, Bool, true, false, Option, Some, None, List, [], ◌∷◌}
use Rattle.laws_machine.proofs.Names.{◌++◌, if◌then◌else◌, refl, sym, ap, subst, ◌∙◌, append_assoc, append-nil, arith}
use Rattle.laws_machine.proofs.Names.{eq-eqb, AllByRecursion, After, GoOn, Done, Look, ContainerState, Running}
use Rattle.laws_machine.proofs.Names.{add_after, find_kept, recover_after, recover_kept, remove_after, replace_after}
use Rattle.laws_machine.proofs.Names.{borrowed_after, went_on, Answer, State, Number, Truth, Event, Finished, Container}
use Rattle.laws_machine.proofs.Names.{ContainerStart, ContainerFlight, LookOf, Turn, Coding, added, removed, replaced}
use Rattle.laws_machine.proofs.Names.{looked, look_shows, look_came, settled_if, Act, questions, SetAct, as_it_is}
use Rattle.laws_machine.proofs.Names.{kept_at, IsParty, IsEffectOf, as_call, answer_in, ending_of, AreRight, looks_as}
use Rattle.laws_machine.proofs.Names.{all_effects}
use Rattle.steps.specs.declared.container.look.LookStage.TheVariants as stages
use Rattle.steps.specs.Container.Find.{find_after}
use Rattle.steps.specs.Container.Look as look_steps
use Rattle.model.specs.declared.families.container.ContainerStart.TheVariants as starts
use Rattle.model.specs.declared.families.container.calls.ContainerFlight.TheVariants as calls
use Rattle.model.specs.declared.families.container.calls.LookOf.TheVariants as kinds
use Rattle.model.specs.Families.Container.Calls.{after, counted}
use Rattle.model.specs.Families.Container.Steps.{effects}
use Rattle.laws_container.proofs.Stages.{any_call}
use Rattle.laws_container.proofs.CallProgress.{At}
use Rattle.laws_machine.specs.Changes.{Seen, up_to_date, changes_of, seen_after, seen_by, MeetsChanges}
use Rattle.laws_machine.proofs.SeenKnows.{Within, LookSees, CallSees, FlightSees, seen_number, changes_are, effects_same}
use Rattle.laws_machine.proofs.SeenKnows.{one_more, IsNoLook, ended_grows, within_later}
use Rattle.laws_machine.proofs.SeenLooks.{Out, step_out}
use Rattle.laws_machine.proofs.LockCalls.{right_append}
use Rattle.laws_machine.proofs.CallTransition.{left_by}

module _ {T : Type 0} where
  -- ---- effects of a turn and ends of other calls than looks are right

  -- an effect of a turn tells nothing of changes, so `MeetsChanges` holds of it
  effect_free : (turn : Turn T) (before : List (Event T)) (e : Event T) → IsEffectOf turn e → MeetsChanges before e
  effect_free = grind arith

  -- the effects of a turn are right in what they say of changes
  effects_right : (turn : Turn T) (before es : List (Event T)) → AllByRecursion (IsEffectOf turn) es → AreRight MeetsChanges before es
  effects_right turn before [] effects_hold = tt
  effects_right turn before (e ∷ es) effects_hold = (effect_free turn before e effects_hold.0, effects_right turn (before ++ e ∷ []) es effects_hold.1)

  -- the end of a call that is no look tells nothing of changes
  end_free : (p : ℕ) (start : ContainerStart T) (answer : Answer T) → IsNoLook start → (before : List (Event T))
      → MeetsChanges before (Finished p (Container start) answer)
  end_free = grind arith

  -- ---- a call that is no look

  -- a call that goes on knows what its stage says, where each call of its kind does; once it has ended,
  -- what its state has seen is what a look has met
  goes_sees : {C G M E A : Type 0} {s : Seen} (state : Option (ContainerState T))
      (f : Running C G M → ContainerFlight T) (g : A → Answer T) (h : E → G → M → A) (given : G) (room : M)
      (a : After C E)
      → ((r : Running C G M) → CallSees (f r) s state) → Within s (seen_number state)
      → FlightSees (left_by (any_call (as_call f g (went_on h given room a)))) s state
  goes_sees = grind arith

-- a call stands at this flight, in a container of some capacity, as the acts of its party so far allow
pub record StandsAt {T : Type 0} (start : ContainerStart T) (flight : ContainerFlight T) : Type 0 where
  pub c : ℕ  -- the capacity
  pub z : ℕ  -- the words of a value
  pub all : List SetAct
  pub done : List (Act T)
  pub stands : At c z all done start flight

-- a turn of the party p, with the events before it and the state that the party has then
pub record PartyTurn (T : Type 0) : Type 0 where
  pub code : Coding T
  pub p : ℕ
  pub events : List (Event T)
  pub state : Option (ContainerState T)
  pub turn : Turn T
  pub mine : IsParty turn p

module _ {T : Type 0} (party_turn : PartyTurn T) where
  open party_turn use {code, p, events, state, turn, mine}

  -- what the step writes before the end of the call
  abbrev did : ContainerFlight T → ℕ → List (Event T)
  did flight answer = effects code p state flight answer ++ questions p flight answer

  -- what the step writes, with the end of the call if it is done
  abbrev pub wrote_by : ContainerStart T → ContainerFlight T → ℕ → List (Event T)
  wrote_by start flight answer = did flight answer ++ ending_of p (Container start) (answer_in (any_call (after code state flight answer)))

  -- what the step of a call leaves for this answer, with the party's state `state'`: what its call knows
  -- holds, and the events are right
  pub record Leaves (state' : Option (ContainerState T)) (start : ContainerStart T) (flight : ContainerFlight T) (answer : ℕ) : Type 0 where
    pub sees : FlightSees (left_by (any_call (after code state flight answer))) (seen_by p (events ++ wrote_by start flight answer)) state'
    pub right : AreRight MeetsChanges events (wrote_by start flight answer)

  -- what the step writes before the end changes nothing of what the party has seen
  seen_did : (flight : ContainerFlight T) (answer : ℕ) → seen_by p (events ++ did flight answer) ≡ seen_by p events
  seen_did flight answer = effects_same turn p events (did flight answer) (all_effects turn p mine code state flight answer)

  -- the step's events and the end may be added one after another
  seen_end : (flight : ContainerFlight T) (answer : ℕ) (ends : List (Event T))
      → seen_by p (events ++ (did flight answer ++ ends)) ≡ seen_by p ((events ++ did flight answer) ++ ends)
  seen_end flight answer ends = ap (seen_by p) (sym (append_assoc events (did flight answer) ends))

  -- a step that does not end its call leaves what the party has seen
  seen_none : (flight : ContainerFlight T) (answer : ℕ) → seen_by p (events ++ (did flight answer ++ [])) ≡ seen_by p events
  seen_none flight answer = ap (λ es. seen_by p (events ++ es)) (append-nil (did flight answer)) ∙ seen_did flight answer

  -- what the party has seen at the end of its step is what its last event says
  seen_last : (flight : ContainerFlight T) (answer : ℕ) (e : Event T) → seen_by p (events ++ (did flight answer ++ e ∷ [])) ≡ seen_after p (seen_by p events) e
  seen_last = grind (arith, seen_end, one_more, seen_after, seen_did)

  -- ---- a call that is no look

  module _ (start : ContainerStart T) (flight : ContainerFlight T) (answer : ℕ) (other : IsNoLook start)
      (within : Within (seen_by p events) (seen_number state)) where
    -- once a call that is no look has ended, what its state has seen is still what a look has met
    within_then : (o : Option (Answer T)) → Within (seen_by p (events ++ (did flight answer ++ ending_of p (Container start) o))) (seen_number state)
    within_then = grind (arith, seen_none, seen_last, within_later, seen_by, seen_after, ended_grows)

    -- the end of the call is right in what it says of changes
    ends_right : (o : Option (Answer T)) → AreRight MeetsChanges (events ++ did flight answer) (ending_of p (Container start) o)
    ends_right = grind (arith, end_free)

    -- a call that is no look leaves what `Leaves` asks, where it knows what its stage says
    freely : ((s : Seen) → Within s (seen_number state) → FlightSees (left_by (any_call (after code state flight answer))) s state)
        → Leaves state start flight answer
    freely flight_sees =
        let outcome = answer_in (any_call (after code state flight answer)) in
        let wrote_right = effects_right turn events (did flight answer) (all_effects turn p mine code state flight answer) in
        record {
          sees = flight_sees (seen_by p (events ++ wrote_by start flight answer)) (within_then outcome);
          right = right_append MeetsChanges events (did flight answer) (ending_of p (Container start) outcome) wrote_right (ends_right outcome);
        }

  -- a call that is no look leaves what `Leaves` asks, and its party's state as it was
  pub others_leave : (start : ContainerStart T) (flight : ContainerFlight T) (answer : ℕ)
      → StandsAt start flight → IsNoLook start → Within (seen_by p events) (seen_number state)
      → Leaves state start flight answer
  others_leave (starts.Add value owner) (calls.Add run) answer at other within =
      freely (starts.Add value owner) (calls.Add run) answer tt within
      (λ s h. goes_sees state calls.Add added as_it_is run.given run.room
      (add_after code.size run.call answer) (λ r. h) h)
  others_leave (starts.Remove index owner mode) (calls.Remove run) answer at other within =
      freely (starts.Remove index owner mode) (calls.Remove run) answer tt within
      (λ s h. goes_sees state calls.Remove removed as_it_is run.given run.room
      (remove_after run.call run.given answer) (λ r. h) h)
  others_leave (starts.Replace index value owner) (calls.Replace run) answer at other within =
      freely (starts.Replace index value owner) (calls.Replace run) answer tt within
      (λ s h. goes_sees state calls.Replace replaced as_it_is run.given run.room
      (replace_after code.size run.call run.given answer) (λ r. h) h)
  others_leave (starts.Find owner) (calls.Find run) answer at other within =
      freely (starts.Find owner) (calls.Find run) answer tt within
      (λ s h. goes_sees state calls.Find Number as_it_is run.given
      (find_kept kept_at run.call run.room answer) (find_after code.size run.call run.given answer) (λ r. h) h)
  others_leave (starts.Recover owner mode) (calls.Recover run) answer at other within =
      freely (starts.Recover owner mode) (calls.Recover run) answer tt within
      (λ s h. goes_sees state calls.Recover State as_it_is run.given
      (recover_kept kept_at run.call run.room answer) (recover_after code.size run.call run.given answer) (λ r. h)
      h)
  others_leave starts.Len (calls.Count which run) answer at other within =
      freely starts.Len (calls.Count which run) answer tt within
      (λ s h. goes_sees state (λ r. calls.Count which r) (counted which) as_it_is run.given run.room (borrowed_after run.call answer) (λ r. h) h)
  others_leave starts.IsEmpty (calls.Count which run) answer at other within =
      freely starts.IsEmpty (calls.Count which run) answer tt within
      (λ s h. goes_sees state (λ r. calls.Count which r) (counted which) as_it_is run.given run.room (borrowed_after run.call answer) (λ r. h) h)
  others_leave starts.IsLocked (calls.IsLocked run) answer at other within =
      freely starts.IsLocked (calls.IsLocked run) answer tt within (λ s h. h)
  others_leave starts.GetState flight answer at other within = absurd other
  others_leave starts.UpdateState flight answer at other within = absurd other
  others_leave start flight answer at other within = absurd at.stands

-- ---- a look

-- a step of a look in a turn of the party p, which has the state st, and loads `old`
pub record LookTurn (T : Type 0) : Type 0 where
  pub code : Coding T
  pub p : ℕ
  pub events : List (Event T)
  pub st : ContainerState T
  pub turn : Turn T
  pub mine : IsParty turn p
  pub call : Look T
  pub old : ℕ

-- the turn of the look, as one of its party
abbrev pub of_party : {T : Type 0} → LookTurn T → PartyTurn T
of_party look_turn =
    record {
      code = look_turn.code;
      p = look_turn.p;
      events = look_turn.events;
      state = Some look_turn.st;
      turn = look_turn.turn;
      mine = look_turn.mine;
    }

module _ {T : Type 0} (look_turn : LookTurn T) (which : LookOf) where
  open look_turn use {code, p, events, st, turn, mine, call, old}

  abbrev look : ContainerFlight T
  look = calls.Look which call

  -- what the party's looks have met so far
  abbrev now : Seen
  now = seen_by p events

  -- the party's state once this step has loaded `old`
  abbrev shown_then : ContainerState T
  shown_then = look_shows code call st old

  -- what the step writes before the end of the look
  abbrev look_wrote : List (Event T)
  look_wrote = did (of_party look_turn) look old

  -- what an end of the party's own call makes of `s`
  own_end : (s s' : Seen) → (if p == p then s' else s) ≡ s'
  own_end s s' = ap (λ b. if b then s' else s) (eq-eqb p p refl)

  -- the number of changes so far is the one that the party has seen
  changes_now : changes_of (events ++ look_wrote) ≡ now.changes
  changes_now = sym (changes_are p (events ++ look_wrote)) ∙ ap (λ (s : Seen). s.changes) (seen_did (of_party look_turn) look old)

  -- what is to be shown of a step with which the look comes to `r`: it knows what its stage says, and what
  -- the step writes is right
  abbrev LooksSo : ContainerStart T → After (Look T) Bool → Type 0
  LooksSo start r =
      FlightSees (left_by (any_call (look_came which shown_then r)))
      (seen_by p (events ++ (look_wrote ++ ending_of p (Container start) (answer_in (any_call (look_came which shown_then r))))))
      (Some (settled_if r shown_then))
      × AreRight MeetsChanges events (look_wrote ++ ending_of p (Container start) (answer_in (any_call (look_came which shown_then r))))

  -- the events of the look's step are right in what they say of changes
  did_right : AreRight MeetsChanges events look_wrote
  did_right = effects_right turn events look_wrote (all_effects turn p mine code (Some st) look old)

  -- the events of a look that goes on are right in what they say of changes
  on_right : AreRight MeetsChanges events (look_wrote ++ [])
  on_right = right_append MeetsChanges events look_wrote [] did_right tt

  -- the events of the step with its end are right, where the end is
  with_end : (e : Event T) → MeetsChanges (events ++ look_wrote) e → AreRight MeetsChanges events (look_wrote ++ e ∷ [])
  with_end e right = right_append MeetsChanges events look_wrote (e ∷ []) did_right (right, tt)

  -- a look that goes on, and knows what its stage says
  goes_on : (start : ContainerStart T) (next : Look T) → Out now shown_then which (GoOn next) → LooksSo start (GoOn next)
  goes_on start next out = (
    rw (seen_none (of_party look_turn) look old) out,
    on_right,
  )

  -- if a look has met the number by what is seen after the end `e`, it has met it by the events with `e` last
  sees_end : (e : Event T) {s' : Seen} {number : ℕ} → seen_after p now e ≡ s' → Within s' number → Within (seen_by p (events ++ (look_wrote ++ e ∷ []))) number
  sees_end e {number = number} seen_is within = subst (λ s. Within s number) (sym (seen_last (of_party look_turn) look old e ∙ seen_is)) within

module _ {T : Type 0} (look_turn : LookTurn T) where
  open look_turn use {code, p, events, st, turn, mine, call, old}

  -- the party's state after the step
  abbrev after_it : ContainerState T
  after_it = look_shows code call st old

  -- what the party's looks have met so far
  abbrev seen_now : Seen
  seen_now = seen_by p events

  -- what `LooksSo` asks, of a look of this kind
  abbrev So : LookOf → After (Look T) Bool → Type 0
  So which r = LooksSo look_turn which (looks_as which) r

  -- where a step of a look has the result that `Out` (SeenLooks) asks for, it leaves what `Leaves` asks
  looks_so : (which : LookOf) (r : After (Look T) Bool) → Out seen_now after_it which r → So which r
  looks_so which (GoOn next) out = goes_on look_turn which (looks_as which) next out
  looks_so kinds.GetState (Done changed) out =
      let end_event : Event T = Finished p (Container starts.GetState) (looked kinds.GetState after_it changed) in (
        sees_end look_turn kinds.GetState end_event
            (own_end look_turn kinds.GetState seen_now (up_to_date seen_now)) out,
        with_end look_turn kinds.GetState end_event tt,
      )
  looks_so kinds.UpdateState (Done true) out =
      let end_event : Event T = Finished p (Container starts.UpdateState) (Truth true) in
      let same = changes_now look_turn kinds.UpdateState in
      let less = out.0 in (
        sees_end look_turn kinds.UpdateState end_event
            (own_end look_turn kinds.UpdateState seen_now (up_to_date seen_now))
            out.1,
        with_end look_turn kinds.UpdateState end_event
            (rw (seen_did (of_party look_turn) (calls.Look kinds.UpdateState call) old) (omega arith)),
      )
  looks_so kinds.UpdateState (Done false) out =
      let end_event : Event T = Finished p (Container starts.UpdateState) (Truth false) in
      let same = changes_now look_turn kinds.UpdateState in (
        sees_end look_turn kinds.UpdateState end_event refl
            (within_later seen_now (record seen_now { changes = seen_now.changes + 0 })
            (record { begun = refl; least = refl; most = refl; changes = omega arith }) _ out.1),
        with_end look_turn kinds.UpdateState end_event
            (same ∙ (out.0 ∙ ap (λ (s : Seen). s.most)
            (sym (seen_did (of_party look_turn) (calls.Look kinds.UpdateState call) old)))),
      )

  -- each step of a look leaves what `Leaves` asks, where its first load finds the number of changes
  pub look_leaves : (which : LookOf) → LookSees which call.stage seen_now (Some st) → (call.stage ≡ stages.LoadsChange → old ≡ seen_now.changes)
      → Leaves (of_party look_turn)
      (Some (settled_if (look_steps.look_after code.size call st.seen old) after_it)) (looks_as which)
      (calls.Look which call) old
  look_leaves which sees loads =
      let out = step_out code.value_of code.size seen_now call in
      let (what_it_sees, what_is_right) =
      looks_so which (look_steps.look_after code.size call st.seen old) (out call.stage st which old sees loads) in
      record { sees = what_it_sees; right = what_is_right }

-- a look of a party that has no state leaves what `Leaves` asks, and its party has no state after it
pub look_stays : {T : Type 0} (party_turn : PartyTurn T) → party_turn.state ≡ None → (call : Look T) (old : ℕ) (which : LookOf) (start : ContainerStart T)
    → LookSees {T = T} which call.stage (seen_by party_turn.p party_turn.events) None
    → Leaves party_turn None start (calls.Look which call) old
look_stays = grind (arith, seen_by, append-nil)
