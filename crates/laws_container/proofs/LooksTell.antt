-- A look (`get_state` or `update_state`) that ends leaves a state, as its answer says; and in a well-formed
-- run the state shows what stands.
use Rattle.laws_container.proofs.Names.{◌≡◌, ◌≢◌, ℕ, ◌+◌, Bool, true, false, Option, Some, None, is_some, List, []}
use Rattle.laws_container.proofs.Names.{◌∷◌, ◌++◌, refl, sym, ap, subst, ◌∙◌, arith, append_cancel_left}
use Rattle.laws_container.proofs.Names.{AllByRecursion, LookStage, ContainerState, look_asks, Answer, Event, Begun}
use Rattle.laws_container.proofs.Names.{Died, Finished, Start, Container, Flight, Registry, ContainerStart}
use Rattle.laws_container.proofs.Names.{ContainerFlight, LookOf, Going, Party, Turn, Begin, Next, Decide, Die, Coding}
use Rattle.laws_container.proofs.Names.{want_of, ask_of, is_question, beside_of, step_of, goes_after, states_after}
use Rattle.laws_container.proofs.Names.{ShowsOwnCopies, state_in, shows, IsLook, EndsLook, IsCurrent, AnswersOfState}
use Rattle.laws_container.proofs.Names.{MomentsOfState, LeavesState, Act, state_of, effects, questions, SetAct}
use Rattle.laws_container.proofs.Names.{party_of, put, doing_of, flight_of, IsParty, IsEffectOf, span_of, is_due}
use Rattle.laws_container.proofs.Names.{IsShut, Step, answer_in, old_of, number_of, step_count, events_of_step}
use Rattle.laws_container.proofs.Names.{events_of, ending_of, after_turn, Trace, flight_in, no_more, StandsThere}
use Rattle.laws_container.proofs.Names.{stands_there, both_ways}
use Rattle.model.specs.declared.families.Flight.TheVariants as flights
use Rattle.model.specs.declared.families.Registry.TheVariants as registries
use Rattle.model.specs.declared.families.container.ContainerStart.TheVariants as starts
use Rattle.model.specs.declared.families.container.calls.ContainerFlight.TheVariants as calls
use Rattle.model.specs.declared.families.container.calls.LookOf.TheVariants as kinds
use Rattle.laws_container.proofs.Invariant.{Scene, Inv, family_by}
use Rattle.laws_container.proofs.KeptCopies.{name_of, IsGetting, HasCopied}
use Rattle.laws_container.proofs.Looks.{looks_as}
use Rattle.laws_container.proofs.LooksEnd.{LastStep, look_tells, look_leaves}
use Rattle.laws_container.proofs.WellFormed.{IsWellFormedSoFar}
use Rattle.laws_container.proofs.Sound.{SoundRun, kept_now, scene_of, inv_with, IsThere, is_there}
use Rattle.laws_container.proofs.Stages.{all, done, any_call}
use Rattle.laws_container.proofs.CallProgress.{look_at, LookAt, At}
use Rattle.laws_container.proofs.Turns.{owes}
use Rattle.laws_container.proofs.Written.{all_effects}
use Rattle.laws_container.specs.ConditionalPromises.{LooksRightIf}
use Rattle.laws_container.proofs.Allowed.{IsAllowed}
use Rattle.lemmas_owners.proofs.OneTurn.{by_next, by_decision}
pub use Rattle.laws_container.proofs.Moves.{look_asks_none}

-- ---- a turn that ends a call writes its end last

module _ {T : Type 0} where
  -- the step is one of party `p` in a call of name `b`, and ends that call with `answer`
  pub record IsLast (q p : ℕ) (a b : Start T) (outcome : Option (Answer T)) (answer : Answer T) : Type 0 where
    pub party : q ≡ p
    pub name : a ≡ b
    pub done : outcome ≡ Some answer

  -- if a turn writes events that are no ends, and then the end of its call if it has one, and the last of
  -- them is this end, then the turn's call is the one that this end names
  pub ends_last : (turn : Turn T) (q p : ℕ) (es : List (Event T)) (a b : Start T) (outcome : Option (Answer T))
      (answer : Answer T) (wrote : List (Event T))
      → AllByRecursion (IsEffectOf turn) es
      → es ++ ending_of q a outcome ≡ wrote ++ Finished p b answer ∷ [] → IsLast q p a b outcome answer
  ends_last turn q p [] a b None answer wrote are split_so = absurd (no_more wrote (Finished p b answer) [] split_so)
  ends_last turn q p [] a b (Some one) answer [] are split_so =
      let party : q ≡ p = cc in
      let name : a ≡ b = cc in
      let same : one ≡ answer = cc in
      record { party = party; name = name; done = ap Some same }
  ends_last turn q p [] a b (Some one) answer (w ∷ ws) are split_so =
      let none : [] ≡ ws ++ Finished p b answer ∷ [] = cc in
      absurd (no_more ws (Finished p b answer) [] none)
  ends_last turn q p (x ∷ xs) a b outcome answer [] are split_so =
      let same_event : x ≡ Finished p b answer = cc in
      absurd (subst (IsEffectOf turn) same_event are.0)
  ends_last turn q p (x ∷ xs) a b outcome answer (w ∷ ws) are split_so =
      let behind : xs ++ ending_of q a outcome ≡ ws ++ Finished p b answer ∷ [] = cc in
      ends_last turn q p xs a b outcome answer ws are.1 behind

  -- a turn that wrote one event, which is not this end, has not ended the call with it
  pub no_end : (e : Event T) (p : ℕ) (b : Start T) (answer : Answer T) (wrote : List (Event T))
      → e ≢ Finished p b answer → e ∷ [] ≡ wrote ++ Finished p b answer ∷ [] → ⊥
  no_end e p b answer [] other split_so = let same : e ≡ Finished p b answer = cc in other same
  no_end e p b answer (w ∷ ws) other split_so = let none : [] ≡ ws ++ Finished p b answer ∷ [] = cc in no_more ws (Finished p b answer) [] none

  -- names that read the same are the same
  pub container_is : (a b : ContainerStart T) → ◌≡◌ {A = Start T} (Container a) (Container b) → a ≡ b
  container_is a b e = cc

  -- ---- the call that stands there is a look

  -- The call under way is a look at some stage. `c` is the capacity, and `z`, `made` and `did` are what `At` takes beside it: how many words
  -- a value has, and what the call has done to the set and to elements.
  record IsLookFlight (c z : ℕ) (made : List SetAct) (did : List (Act T)) (a : ContainerStart T) (flight : ContainerFlight T) : Type 0 where
    pub which : LookOf
    pub stage : LookStage
    pub name : a ≡ looks_as which
    pub is : flight ≡ look_at which c stage

  -- a call of the container under the name of a look is a look at some stage
  look_flight : (c z : ℕ) (made : List SetAct) (did : List (Act T)) (a : ContainerStart T) (flight : ContainerFlight T)
      → IsLook a → At c z made did a flight → IsLookFlight c z made did a flight
  look_flight c z made did starts.GetState (calls.Look which call) look stands =
      record {
        which = kinds.GetState;
        stage = call.stage;
        name = refl;
        is = ap (λ n. look_at which n call.stage) stands.0 ∙ ap (λ w. look_at w c call.stage) stands.1;
      }
  look_flight c z made did starts.GetState flight look stands = absurd stands
  look_flight c z made did starts.UpdateState (calls.Look which call) look stands =
      record {
        which = kinds.UpdateState;
        stage = call.stage;
        name = refl;
        is = ap (λ n. look_at which n call.stage) stands.0 ∙ ap (λ w. look_at w c call.stage) stands.1;
      }
  look_flight c z made did starts.UpdateState flight look stands = absurd stands
  look_flight c z made did a flight look stands = absurd look

  -- a look that stands as a call of the container stands as a look
  look_stands : (which : LookOf) (c z : ℕ) (made : List SetAct) (did : List (Act T)) (stage : LookStage)
      → At c z made did (looks_as which) (look_at which c stage) → LookAt c z made did stage
  look_stands = grind arith

look_counts : (size c : ℕ) (stage : LookStage) → step_count (ask_of (look_asks size c stage)) ≡ 1
look_counts size c stage = grind arith

-- ---- a step in which a look ends

-- a run that is sound and may go on, and a look that its next turn ends
pub record EndingLook (T : Type 0) : Type 0 where
  pub run : SoundRun T
  -- party `party` ends the look of the name `start` with `answer`, and before that writes the events `wrote` in the turn
  pub party : ℕ
  pub start : ContainerStart T
  pub answer : Answer T
  pub look : IsLook start
  pub wrote : List (Event T)

module _ {T : Type 0} (ending : EndingLook T) where
  open ending use {run, party as p, start, answer, look, wrote}
  open ending.run use {shown, terms, code, trace as t, sound, may}

  abbrev c : ℕ
  c = t.world.capacity

  -- the last event of these is the end of the look
  abbrev EndsLast : List (Event T) → Type 0
  EndsLast es = es ≡ wrote ++ Finished p (Container start) answer ∷ []

  abbrev old : LookStage → ℕ
  old stage = old_of sound.state.words (ask_of (look_asks code.size c stage))

  -- the turn is a step of a look of party `q` that ends it: at which stage, what the party is then, which
  -- states it leaves, and that these are its events
  pub record LookTurn (q : ℕ) (kept : Registry T) (latest : List (ℕ × Party T)) (es : List (Event T)) : Type 0 where
    -- the step is one of party `p`, and `party` is its latest call before the step
    pub same : q ≡ p
    pub party : Party T
    pub since : ℕ
    pub found : party_of q t.world.latest ≡ Some party
    -- that call is the look of this kind, at this stage
    pub which : LookOf
    pub stage : LookStage
    pub name : start ≡ looks_as which
    pub there : IsThere shown terms code c t sound q party since found (looks_as which) (look_at which c stage)
    -- what the step leaves: the parties' calls and their states
    pub next : Party T
    pub latest_is : latest ≡ put q next t.world.latest
    pub steps_then : next.steps ≡ party.steps + 1
    pub kept_then : kept ≡ registries.Container sound.state.dead (states_after code q (look_at which c stage) (old stage) sound.state.states)
    -- the events that it writes, the end of the look last
    pub events_are : es ≡ (effects code q (state_of q sound.state.states) (look_at which c stage) (old stage)
        ++ questions q (look_at which c stage) (old stage))
        ++ Finished q (Container (looks_as which)) answer ∷ []
    pub done : answer_in (any_call (goes_after code (state_of q sound.state.states) (look_at which c stage) (old stage))) ≡ Some answer

  -- `x` is the call of party `q`, which takes the turn
  module _ (q : ℕ) (x : Party T) (since : ℕ) (found : party_of q t.world.latest ≡ Some x) (turn : Turn T) (mine : IsParty turn q) where
    -- what the step of the call comes to when it is handed `n`
    abbrev stepping : ℕ → Coding T → Registry T → Start T → Flight T → Step (Flight T) (Registry T) T
    stepping n y kept a flight = step_of y t.world.words (beside_of t.world.words kept t.world.latest q) q a flight n kept

    -- if the step of the call wrote this end last, it is the step in which the look ends
    abbrev IsLookEndFrom : ℕ → Coding T → Registry T → Start T → Flight T → Type 0
    IsLookEndFrom n y kept a flight =
        (next : Party T) → (is_question (want_of y flight) ≡ false → next.steps ≡ x.steps + step_count (ask_of (want_of y flight)))
        → EndsLast (events_of_step q a (stepping n y kept a flight))
        → LookTurn q (stepping n y kept a flight).kept (put q next t.world.latest) (events_of_step q a (stepping n y kept a flight))

    -- a step of this call at its stage is the step in which the look ends, if it wrote that end last
    abbrev IsLookEndCase : ContainerStart T → ContainerFlight T → Type 0
    IsLookEndCase a flight =
        (n : ℕ) → StandsThere (family_by terms code c) t sound q x since (Container a) (flights.Container flight)
        → (is_question (want_of code (flights.Container flight)) ≡ false
        → n ≡ old_of sound.state.words (ask_of (want_of code (flights.Container flight))))
        → IsLookEndFrom n code (kept_now shown terms code c t sound) (Container a) (flights.Container flight)

    -- if the last event that a step writes is this end, the step is one of this look and ends it
    last_of : (n : ℕ) (a : ContainerStart T) (flight : ContainerFlight T)
        → EndsLast (events_of_step q (Container a)
        (stepping n code (kept_now shown terms code c t sound) (Container a) (flights.Container flight)))
        → IsLast q p (Container a) (Container start) (answer_in (any_call (goes_after code (state_of q sound.state.states) flight n))) answer
    last_of n a flight ended =
        ends_last turn q p (effects code q (state_of q sound.state.states) flight n ++ questions q flight n)
        (Container a) (Container start)
        (answer_in (any_call (goes_after code (state_of q sound.state.states) flight n))) answer wrote
        (all_effects turn q mine code (state_of q sound.state.states) flight n) ended

    -- a step of a look that wrote this end last is the step in which the look ends, with the state that it
    -- leaves and the events that it writes
    look_case : (which : LookOf) (stage : LookStage) → IsLookEndCase (looks_as which) (look_at which c stage)
    look_case which stage n stands is =
        subst (λ k. IsLookEndFrom k code (kept_now shown terms code c t sound) (Container (looks_as which))
        (flights.Container (look_at which c stage)))
        (sym (is (look_asks_none code.size c stage)))
        (λ next counts e.
        let end = last_of (old stage) (looks_as which) (look_at which c stage) e in
        record {
          same = end.party;
          party = x;
          since = since;
          found = found;
          which = which;
          stage = stage;
          name = sym (container_is (looks_as which) start end.name);
          there = is_there shown terms code c t sound q x since found (looks_as which) (look_at which c stage) stands;
          next = next;
          latest_is = refl;
          steps_then = counts (look_asks_none code.size c stage) ∙ ap (λ n. x.steps + n) (look_counts code.size c stage);
          kept_then = refl;
          events_are =
              ap (λ o. (effects code q (state_of q sound.state.states) (look_at which c stage) (old stage)
              ++ questions q (look_at which c stage) (old stage))
              ++ ending_of q (Container (looks_as which)) o)
              end.done;
          done = end.done;
        })

    -- a step of any call at its stage is the step in which the look ends, if it wrote this end last
    step_look : (n : ℕ) (a : Start T) (flight : Flight T)
        → StandsThere (family_by terms code c) t sound q x since a flight
        → (is_question (want_of code flight) ≡ false → n ≡ old_of sound.state.words (ask_of (want_of code flight)))
        → IsLookEndFrom n code (kept_now shown terms code c t sound) a flight
    step_look = grind (arith, last_of, container_is, is_there, look_flight, all, done, look_case)

    -- a step of the call under way, by the machine's own words and states, is the step in which the look
    -- ends, if it wrote this end last
    pub any_look : (n : ℕ) {flight : Flight T} → x.doing ≡ Going flight since
        → (is_question (want_of t.world.coding flight) ≡ false → n ≡ old_of t.world.words (ask_of (want_of t.world.coding flight)))
        → IsLookEndFrom n t.world.coding t.world.kept x.start flight
    any_look n {flight} doing is =
        subst (λ y. IsLookEndFrom n y t.world.kept x.start flight) (sym sound.coding)
        (subst (λ kept. IsLookEndFrom n code kept x.start flight) (sym sound.fit.kept)
        (step_look n x.start flight (stands_there (family_by terms code c) t sound q x since flight found doing)
        (λ no.
        is (subst (λ y. is_question (want_of y flight) ≡ false) (sym sound.coding) no)
        ∙ (ap (λ ws. old_of ws (ask_of (want_of t.world.coding flight))) sound.fit.words
        ∙ ap (λ y. old_of sound.state.words (ask_of (want_of y flight))) sound.coding))))

  -- ---- any turn

  -- a step that wrote this end last is the step in which the look ends
  next_look : (q : ℕ) → EndsLast (events_of t.world (Next q))
      → LookTurn q (after_turn t (Next q)).world.kept (after_turn t (Next q)).world.latest (events_of t.world (Next q))
  next_look q =
      by_next t.world q (λ w es. EndsLast es → LookTurn q w.kept w.latest es)
      (λ ended. absurd (no_more wrote (Finished p (Container start) answer) [] ended)) (λ x flight since has.
      any_look q x since has.found (Next q) refl (old_of t.world.words (ask_of (want_of t.world.coding flight)))
      has.doing (λ no. refl) _ (λ no. refl))

  -- a decision that wrote this end last is the step in which the look ends; there is none, since no look
  -- waits for a decision
  decision_look : (q : ℕ) (said : Bool) → is_due t.world.coding (flight_in t.world q) ≡ true → EndsLast (events_of t.world (Decide q said))
      → LookTurn q (after_turn t (Decide q said)).world.kept (after_turn t (Decide q said)).world.latest (events_of t.world (Decide q said))
  decision_look q said due =
      by_decision t.world q (λ w es. EndsLast es → LookTurn q w.kept w.latest es)
      (λ ended. absurd (no_more wrote (Finished p (Container start) answer) [] ended)) said (λ x flight since has.
      let asks : is_question (want_of t.world.coding flight) ≡ true = rw has.here at due in
      any_look q x since has.found (Decide q said) refl (number_of said) has.doing
      (λ no. both_ways (is_question (want_of t.world.coding flight)) no asks) _
      (λ no. both_ways (is_question (want_of t.world.coding flight)) no asks))

  -- the turn in which a look ends: of which party, with which events
  pub record LookEnd (new : Trace T) : Type 0 where
    pub party : ℕ
    pub events : List (Event T)
    pub is : new.events ≡ t.events ++ events
    pub turn : LookTurn party new.world.kept new.world.latest events

  -- a turn that wrote this end last is the turn in which the look ends
  pub look_end : (turn : Turn T) → IsAllowed t.world turn → EndsLast (events_of t.world turn) → LookEnd (after_turn t turn)
  look_end (Begin q a) allowed ended = absurd (no_end (Begun q a) p (Container start) answer wrote (λ h. cc) ended)
  look_end (Next q) allowed ended =
      record { party = q; events = events_of t.world (Next q); is = refl; turn = next_look q ended }
  look_end (Decide q said) allowed ended =
      record {
        party = q;
        events = events_of t.world (Decide q said);
        is = refl;
        turn = decision_look q said allowed ended;
      }
  look_end (Die o) allowed ended = absurd (no_end (Died o) p (Container start) answer wrote (λ h. cc) ended)

  -- ---- what it tells

  -- where a party's call owes the changes a raise, that party has a call under way by the events too
  alone_now : (q : ℕ) → owes (flight_of (doing_of (party_of q t.world.latest))) ≡ true → IsShut (span_of q t.events) → ⊥
  alone_now q = grind arith

  -- `new` is the machine after the turn in which the look ended
  module _ {new : Trace T} (end : LookEnd new) (well_formed : Type 0) (so_far : well_formed → IsWellFormedSoFar terms new.world.latest new.events) where
    abbrev l : LookTurn end.party new.world.kept new.world.latest end.events
    l = end.turn

    abbrev scene : Scene T
    scene = scene_of shown terms code c t sound end.party l.party l.since

    inv : Inv scene
    inv = inv_with shown terms code c t sound end.party l.party l.since l.found may

    stands : LookAt c code.size (all scene) (done scene) l.stage
    stands = look_stands l.which c code.size (all scene) (done scene) l.stage l.there.at

    -- the look in its last step
    abbrev last : LastStep T
    last =
        record {
          scene = scene;
          inv = inv;
          which = l.which;
          stage = l.stage;
          here = l.there.here;
          stands = stands;
          knows = l.there.knows;
          few = l.there.steps;
          alone = alone_now;
        }

    -- what the look tells of the state that it left: what its answer says, and in a
    -- well-formed run what stands
    abbrev TellsRight : ℕ → ContainerStart T → Type 0
    TellsRight n a =
        (state : ContainerState T) → state_in new.world.kept n ≡ Some state
        → AnswersOfState a answer (state_in t.world.kept n) state
        × (well_formed → IsCurrent n c state new.events × MomentsOfState n c a answer state new.events)

    -- the state that the look leaves is as its answer says, and in a well-formed run it is
    -- current and shows what stood
    here_right : TellsRight end.party (looks_as l.which)
    here_right state is =
        let left : state_of end.party (states_after code end.party (look_at l.which c l.stage) (old l.stage) sound.state.states)
        ≡ Some state =
        ap (λ kept. state_in kept end.party) (sym l.kept_then) ∙ is in
        let told = look_tells last answer state l.done left in
        let was : state_in t.world.kept end.party ≡ state_of end.party sound.state.states =
        ap (λ kept. state_in kept end.party) sound.fit.kept in
        let events_new : new.events
        ≡ t.events ++ ((effects code end.party (state_of end.party sound.state.states) (look_at l.which c l.stage) (old l.stage)
        ++ questions end.party (look_at l.which c l.stage) (old l.stage))
        ++ Finished end.party (Container (looks_as l.which)) answer ∷ []) =
        end.is ∙ ap (λ es. t.events ++ es) l.events_are
        in (
          subst (λ o. AnswersOfState (looks_as l.which) answer o state) (sym was) told.answers,
          λ h.
              subst (λ es. IsCurrent end.party c state es × MomentsOfState end.party c (looks_as l.which) answer state es) (sym events_new)
              (told.current l.next (subst (λ es. IsWellFormedSoFar terms (put end.party l.next t.world.latest) es) events_new
              (subst (λ ps. IsWellFormedSoFar terms ps new.events) l.latest_is (so_far h)))),
        )

    -- each value that the state of a finished `get_state` shows was copied by that call
    abbrev ShowsOwnOnly : ℕ → ContainerStart T → Type 0
    ShowsOwnOnly n a =
        (state : ContainerState T) → state_in new.world.kept n ≡ Some state → a ≡ starts.GetState
        → (i : ℕ) (value : T) → shows state i ≡ Some value → HasCopied n i value new.events

    -- each value that the state of this look shows was copied by the look, if it is a `get_state`
    here_own : ShowsOwnOnly end.party (looks_as l.which)
    here_own state is gets i value shown_there =
        let left : state_of end.party (states_after code end.party (look_at l.which c l.stage) (old l.stage) sound.state.states)
        ≡ Some state =
        ap (λ kept. state_in kept end.party) (sym l.kept_then) ∙ is in
        let told = look_tells last answer state l.done left in
        let name : IsGetting end.party t.events = ap name_of l.there.here.span ∙ ap (λ (a : ContainerStart T). Some (Container a)) gets in
        subst (HasCopied end.party i value) (sym (end.is ∙ ap (λ es. t.events ++ es) l.events_are)) (told.own name i value shown_there)

    pub told_own : ShowsOwnOnly p start
    told_own = subst (λ n. ShowsOwnOnly n start) l.same (subst (ShowsOwnOnly end.party) (sym l.name) here_own)

    pub told_right : TellsRight p start
    told_right = subst (λ n. TellsRight n start) l.same (subst (TellsRight end.party) (sym l.name) here_right)

    -- the party of a look that has ended has a state
    pub told_leaves : is_some (state_in new.world.kept p) ≡ true
    told_leaves =
        subst (λ n. is_some (state_in new.world.kept n) ≡ true) l.same
        (ap (λ kept. is_some (state_in kept end.party)) l.kept_then
        ∙ look_leaves last)

-- ---- as the promise says it

-- a turn from a sound machine that is not refused
module _ {T : Type 0} (run : SoundRun T) (turn : Turn T) (r : IsAllowed run.trace.world turn) where
  open run use {terms as by_terms, trace as t}

  -- the look that the turn ends
  abbrev pub ending_look : {p : ℕ} {start : ContainerStart T} {answer : Answer T} → EndsLook p start answer t (after_turn t turn) → EndingLook T
  ending_look {p} {start} {answer} ends =
      record { run = run; party = p; start = start; answer = answer; look = ends.is_look; wrote = ends.wrote }

  pub ended : {p : ℕ} {start : ContainerStart T} {answer : Answer T} (ends : EndsLook p start answer t (after_turn t turn))
      → LookEnd (ending_look ends) (after_turn t turn)
  ended ends = look_end (ending_look ends) turn r (append_cancel_left t.events (events_of t.world turn) _ ends.is)

  -- each look that ends in the turn has left the state that `LooksRightIf` says
  pub looks_right : (well_formed : Type 0)
      (so_far : well_formed → IsWellFormedSoFar by_terms (after_turn t turn).world.latest (after_turn t turn).events)
      → LooksRightIf well_formed t turn (after_turn t turn)
  looks_right well_formed so_far p start answer state ends found =
      told_right (ending_look ends) (ended ends) well_formed so_far state found

  -- each value that a finished `get_state` shows was copied by that call
  pub looks_own : ShowsOwnCopies t (after_turn t turn)
  looks_own p i answer state value ends found shown_there =
      told_own (ending_look ends) (ended ends) ⊥ (λ never. absurd never) state found refl i value shown_there

  -- each look that ends in the turn leaves its party a state
  pub looks_leave : LeavesState t turn (after_turn t turn)
  looks_leave p start answer ends =
      told_leaves (ending_look ends) (ended ends) ⊥ (λ never. absurd never)
