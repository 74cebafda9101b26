-- The numbers of a container's elements, and of its changes, rise by no more than the begins and hides of its
-- history let them (`Raised`).
use Rattle.std.proofs.Common.{◌≡◌, ◌≢◌, ℕ, ◌+◌, ◌<◌, ◌≤◌, Bool, true, false, Option, Some, None, List, [], ◌∷◌, ◌++◌}
use Rattle.std.proofs.Common.{length, get_or, refl, sym, ap, subst, ◌∙◌, append-nil, arith, option_map, if◌then◌else◌}
use Rattle.std.proofs.lemmas.List.Sums.{sum_by-append}
use Rattle.steps.specs.declared.ask.After.{After}
use Rattle.steps.specs.declared.ask.After.TheVariants.{GoOn, Done}
use Rattle.steps.specs.declared.ask.Ask.{Ask}
use Rattle.steps.specs.declared.container.state.ContainerState.{ContainerState}
use Rattle.model.specs.declared.event.Answer.{Answer}
use Rattle.model.specs.declared.event.Event.{Event}
use Rattle.model.specs.declared.event.Event.TheVariants.{Begun}
use Rattle.model.specs.declared.event.Start.{Start}
use Rattle.model.specs.declared.event.Start.TheVariants.{Container}
use Rattle.model.specs.declared.families.Flight.{Flight}
use Rattle.model.specs.declared.families.Flight.TheVariants as flights
use Rattle.model.specs.declared.families.Registry.{Registry}
use Rattle.model.specs.declared.families.Registry.TheVariants as registries
use Rattle.model.specs.declared.families.container.ContainerStart.{ContainerStart}
use Rattle.model.specs.declared.families.container.calls.ContainerFlight.{ContainerFlight}
use Rattle.model.specs.declared.party.Doing.{Doing}
use Rattle.model.specs.declared.party.Doing.TheVariants.{Going, Over}
use Rattle.model.specs.declared.party.Party.{Party}
use Rattle.model.specs.declared.turn.Kind.TheVariants as kinds
use Rattle.model.specs.declared.turn.Turn.{Turn}
use Rattle.model.specs.declared.turn.Turn.TheVariants.{Begin, Next, Decide, Die}
use Rattle.model.specs.Coding.{Coding}
use Rattle.model.specs.Families.{first_of, want_of, ask_of, beside_of, step_of}
use Rattle.model.specs.Families.Container.Calls.{first, want, after}
use Rattle.model.specs.Families.Container.Opening.{names_owner}
use Rattle.model.specs.Families.Container.Reading.{Act, acts_of}
use Rattle.model.specs.Families.Container.States.{state_of}
use Rattle.model.specs.Families.Container.Steps as calls
use Rattle.model.specs.Families.Indices.Robust.Reading.{SetAct, set_acts_of}
use Rattle.model.specs.Parties.{party_of, doing_of, flight_of}
use Rattle.model.specs.Step.{Step, as_step, as_call, answer_in}
use Rattle.model.specs.Turns.{old_of, words_after, number_of, ask_of_doing, party_at_begin, after_begin, doing_after, after_step, step_in}
use Rattle.model.specs.Turns.{after_answer, events_of_step, events_of_answer, after_next, events_of_next}
use Rattle.model.specs.Turns.{after_decision, events_of_decision, ending_of, after_turn}
use Rattle.model.specs.World.{Trace, flight_in}
use Rattle.model.proofs.Parties.{party_put_same, party_put_other}
use Rattle.model.proofs.Scenes.{stands_there}
use Rattle.laws_indices.proofs.Sums.{sum_below, sum_moved, sum_longer}
use Rattle.model.specs.Open.{open_refusal}
use Rattle.laws_container.proofs.Invariant.{family_by, FlightAt}
use Rattle.history_laws.specs.Containers.{rise, rises}
use Rattle.history_laws.proofs.ContainerLifts.{container_lifts, lifts_left, IsWithin, is_within, container_lift, keeps, begins as begins_so}
use Rattle.lock_free_owners.proofs.Worn.ContainerWorn.{Sound, terms, some_same}

module _ {T : Type 0} where
  -- ---- any call

  -- by how much a call of any family may still raise a number of a container
  abbrev pub lifts : Flight T → ℕ
  lifts (flights.Container flight) = container_lifts flight
  lifts flight = 0

  -- by how much a call may still raise a number, where one is under way
  abbrev pub lifts_of : Option (Flight T) → ℕ
  lifts_of None = 0
  lifts_of (Some flight) = lifts flight

  -- by how much the call of party q may still raise a number
  abbrev pub lifts_at : Trace T → ℕ → ℕ
  lifts_at t q = lifts_of (flight_in t.world q)

  -- the number of an element, or of changes, that stands in word n
  abbrev pub word_at : ℕ → Trace T → ℕ
  word_at n t = get_or t.world.words n 0

  -- what two lists of events let a number rise is what each of them lets it rise
  rises_more : (xs ys : List (Event T)) → rises (xs ++ ys) ≡ rises xs + rises ys
  rises_more xs ys = sum_by-append rise xs ys

  -- ---- between two turns

  -- Word n is a number of an element or of changes, and with all that the calls under way may still add it is
  -- at most what the events let it rise. `seats` bounds the parties that have begun calls.
  pub record Raised (n : ℕ) (t : Trace T) : Type 0 where
    pub seats : ℕ
    pub beyond : (q : ℕ) → seats ≤ q → flight_in t.world q ≡ None
    pub fits : word_at n t + sum_below (lifts_at t) seats ≤ rises t.events

  -- the word is at most what the events let it rise
  pub word_raised : (n : ℕ) (t : Trace T) → Raised n t → word_at n t ≤ rises t.events
  word_raised n t r = omega (arith, r.fits)

  -- a turn of party p that writes these events changes no other party's call, and pays for what it raises:
  -- word n and what p's call may add rise by no more than the events let them
  record Owes (n : ℕ) (old new : Trace T) (p : ℕ) (es : List (Event T)) : Type 0 where
    -- the turn writes these events, and changes no other party's call
    pub events : new.events ≡ old.events ++ es
    pub others : (q : ℕ) → q ≢ p → flight_in new.world q ≡ flight_in old.world q
    -- the word and what the party's call may still add rise by no more than the events let them
    pub pays : word_at n new + lifts_at new p ≤ word_at n old + lifts_at old p + rises es

  -- the turn of party p leads from old to new and writes es, n is the word; seats counts the parties after it
  module _ {n : ℕ} {old new : Trace T} {p : ℕ} {es : List (Event T)} (owes : Owes n old new p es) (r : Raised n old) where
    -- a bound of the parties that have begun calls, after the turn
    abbrev seats : ℕ
    seats = r.seats + (p + 1)

    -- parties that have begun no call add nothing to the sum
    longer : sum_below (lifts_at old) seats ≡ sum_below (lifts_at old) r.seats
    longer = sum_longer (lifts_at old) r.seats seats (omega arith) (λ i far. ap lifts_of (r.beyond i far))

    -- what all calls may still add changes by what the call of party p may
    differ : sum_below (lifts_at new) seats + lifts_at old p ≡ sum_below (lifts_at old) r.seats + lifts_at new p
    differ =
        let moves = sum_moved (lifts_at new) (lifts_at old) seats p (omega arith) (λ i ne. ap lifts_of (owes.others i ne)) in
        omega (arith, longer)

    -- further parties have begun no call after the turn either
    beyond : (q : ℕ) → seats ≤ q → flight_in new.world q ≡ None
    beyond q far = owes.others q (λ e. absurd (omega arith)) ∙ r.beyond q (omega arith)

    -- a turn that pays for what it raises leaves the word, with all that calls may still add,
    -- within what the history lets it rise
    raised_on : Raised n new
    raised_on =
        record {
          seats = seats;
          beyond = beyond;
          fits =
              let more : rises new.events ≡ rises old.events + rises es = ap rises owes.events ∙ rises_more old.events es in
              omega (arith, owes.pays, r.fits, differ);
        }

  raised_same : (n : ℕ) (t : Trace T) → Raised n t → Raised n record { world = t.world; events = t.events ++ [] }
  raised_same n t r = subst (λ es. Raised n record { world = t.world; events = es }) (sym (append-nil t.events)) r

  -- ---- a step

  -- the call that is under way after a step, if the step goes on with it
  abbrev flight_after : After (Flight T) (Answer T) → Option (Flight T)
  flight_after (GoOn flight) = Some flight
  flight_after (Done answer) = None

  -- the call that is under way after a step is the one that the step goes on with, if it goes on
  doing_is : (changes since : ℕ) (a : After (Flight T) (Answer T)) → flight_of (Some (doing_after changes since a)) ≡ flight_after a
  doing_is changes since (GoOn flight) = refl
  doing_is changes since (Done answer) = refl

  -- the step pays for what it raises: word n and what its call may add rise by no more than the events of the
  -- step let them
  record PaysBy (n : ℕ) (words : List ℕ) (flight : Flight T) (ask : Option Ask) (s : Step (Flight T) (Registry T) T) : Type 0 where
    pub pays : get_or (words_after words ask) n 0 + lifts_of (flight_after s.after) ≤ get_or words n 0 + lifts flight + rises s.wrote

  -- the trace after this step of party p
  abbrev stepped : Trace T → ℕ → Party T → ℕ → Option Ask → Step (Flight T) (Registry T) T → Trace T
  stepped t p x since ask s = record { world = after_step t.world p x since ask s; events = t.events ++ events_of_step p x.start s }

  -- n is the word, t the trace before a step of party p, whose call x it is
  module _ (n : ℕ) (t : Trace T) (p : ℕ) (x : Party T) (flight : Flight T) (since : ℕ) (ask : Option Ask) (answer : ℕ)
      (found : party_of p t.world.latest ≡ Some x) (doing : x.doing ≡ Going flight since)
      (pays : PaysBy n t.world.words flight ask (step_in t.world p x flight answer)) where
    -- the step of the party's call
    abbrev s : Step (Flight T) (Registry T) T
    s = step_in t.world p x flight answer

    -- the trace after the step
    abbrev new : Trace T
    new = stepped t p x since ask s

    -- before the step the party's call stands at this flight
    was : flight_in t.world p ≡ Some flight
    was = ap (λ o. flight_of (doing_of o)) found ∙ ap (λ d. flight_of (Some d)) doing

    -- after the step it stands where the step leads, or has ended
    then_is : flight_in new.world p ≡ flight_after s.after
    then_is = ap (λ o. flight_of (doing_of o)) (party_put_same p _ t.world.latest) ∙ doing_is _ _ s.after

    -- the step writes at least its effects
    wrote_more : rises s.wrote ≤ rises (events_of_step p x.start s)
    wrote_more = omega (arith, rises_more s.wrote (ending_of p x.start (answer_in s.after)))

    -- a step that pays makes a turn that pays
    step_owes : Owes n t new p (events_of_step p x.start s)
    step_owes =
        record {
          events = refl;
          others = λ q ne. ap (λ o. flight_of (doing_of o)) (party_put_other q p _ t.world.latest ne);
          pays =
              omega (arith, pays.pays, ap lifts_of was, ap lifts_of then_is, wrote_more);
        }

  -- ---- a begin

  -- the trace after this begin of party p
  abbrev begun : Trace T → ℕ → Start T → Option (Flight T) → Trace T
  begun t p start o = record { world = after_begin t.world p start o; events = t.events ++ Begun p start ∷ [] }

  -- n is the word, t the trace before a begin of party p
  module _ (n : ℕ) (t : Trace T) (p : ℕ) (start : Start T) (flight : Flight T) (pays : lifts flight ≤ rise (Begun p start)) where
    -- after the begin the party's call stands at this flight
    begun_is : flight_in (begun t p start (Some flight)).world p ≡ Some flight
    begun_is = ap (λ o. flight_of (doing_of o)) (party_put_same p (party_at_begin start flight t.world.changes) t.world.latest)

    -- a begin pays for all that its call may add
    begin_owes : Owes n t (begun t p start (Some flight)) p (Begun p start ∷ [])
    begin_owes =
        record {
          events = refl;
          others = λ q ne. ap (λ o. flight_of (doing_of o)) (party_put_other q p _ t.world.latest ne);
          pays = omega (arith, ap lifts_of begun_is);
        }

-- ---- a step of a container's call, as one of any family

module _ {T : Type 0} (code : Coding T) (c : ℕ) where
  -- what a container's call may add after a step, as a call of any family
  any_left : (a : After (ContainerFlight T) (Answer T))
      → lifts_of (flight_after (as_call flights.Container (λ (answer : Answer T). answer) a)) ≡ lifts_left a
  any_left (GoOn flight) = refl
  any_left (Done answer) = refl

  -- the step of a container's call, as a step of a call of any family
  abbrev any_step : ℕ → ContainerFlight T → ℕ → List ℕ → List (ℕ × ContainerState T) → Step (Flight T) (Registry T) T
  any_step p flight answer dead states =
      as_step flights.Container (λ kept. registries.Container kept.0 kept.1) (calls.step code p flight answer dead states)

  -- Word `n` is a counter. A step of the call `flight` of party `p` raises it by no more than the events that it writes allow.
  module _ (n : ℕ) (words : List ℕ) (p : ℕ) (dead : List ℕ) (states : List (ℕ × ContainerState T)) (flight : ContainerFlight T) where
    -- the step writes at least the effects of the container's call
    writes : (old : ℕ) → rises (calls.effects code p (state_of p states) flight old) ≤ rises (any_step p flight old dead states).wrote
    writes old = omega (arith, rises_more (calls.effects code p (state_of p states) flight old) (calls.questions p flight old))

    -- an answer to a question pays for what it raises, which is nothing
    decided : (old : ℕ) → PaysBy n words (flights.Container flight) None (any_step p flight old dead states)
    decided old =
        record {
          pays =
              omega (arith, keeps code p (state_of p states) flight old, any_left (after code (state_of p states) flight old), writes old);
        }

    module _ (inside : n < length words) (past : 1 + c ≤ n) (before : n < 2 + (c + c)) (within : IsWithin c flight) where
      -- the word that the call asks for
      abbrev wanted : Option Ask
      wanted = ask_of (want code flight)

      -- a step of a container's call pays for what it raises
      stepped_so : PaysBy n words (flights.Container flight) wanted (any_step p flight (old_of words wanted) dead states)
      stepped_so =
          record {
            pays =
                omega (
                  arith,
                  keeps code p (state_of p states) flight (old_of words wanted),
                  any_left (after code (state_of p states) flight (old_of words wanted)),
                  writes (old_of words wanted),
                  container_lift words n inside code c past before flight within,
                );
          }

-- ---- a begin, as one of any family

module _ {T : Type 0} where
  -- a container's call pays with its begin for all that it may add
  begins_by : (c p : ℕ) (start : ContainerStart T) (flight : Flight T) (b : Bool)
      → option_map flights.Container (if b then Some (first c start) else None) ≡ Some flight → lifts flight ≤ rise (Begun p (Container start))
  begins_by c p start flight true e =
      subst (λ f. lifts f ≤ rise (Begun p (Container start))) (some_same (flights.Container (first c start)) flight e) (begins_so c p start)
  begins_by c p start flight false e = absurd (cc)

  -- a call of any family on a container pays with its begin for all that it may add
  begins_any : (c p : ℕ) (start : Start T) (kept : Registry T) (flight : Flight T) → first_of kinds.Container c start kept ≡ Some flight
      → lifts flight ≤ rise (Begun p start)
  begins_any c p (Container start) kept flight e = begins_by c p start flight (names_owner start) e
  begins_any c p start kept flight e = absurd (cc)

-- ---- a turn

-- n is one of the words of changes and of elements' numbers of a sound trace t of a container of capacity c
module _ {T : Type 0} (code : Coding T) (c : ℕ) (t : Trace T) (s : Sound code c t) (n : ℕ) (past : 1 + c ≤ n) (before : n < 2 + (c + c)) where
  -- the words of the container
  abbrev ws : List ℕ
  ws = t.world.words

  -- what the machine keeps: the dead owners, and the states of parties
  abbrev Kept : Registry T
  Kept = registries.Container s.state.dead s.state.states

  -- the step of this call, with this word or answer, pays for what it raises
  abbrev PaysIn : Coding T → ℕ → Option Ask → ℕ → Registry T → Start T → Flight T → Type 0
  PaysIn z p ask answer kept start flight = PaysBy n ws flight ask (step_of z ws (beside_of ws kept t.world.latest p) p start flight answer kept)

  -- word n is one of the container's words
  inside : n < length ws
  inside = omega (arith, s.holds.elements.wide, ap length s.fit.words)

  -- the step of a call of the container that stands where it may pays for what it raises
  pays_in : (p : ℕ) (all : List SetAct) (done : List (Act T)) (start : Start T) (flight : Flight T)
      → FlightAt c code.size all done start flight
      → PaysIn code p (ask_of (want_of code flight)) (old_of ws (ask_of (want_of code flight))) Kept start flight
  pays_in p all done (Container start) (flights.Container flight) at =
      stepped_so code c n ws p s.state.dead s.state.states flight inside past before (is_within c code.size all done start flight at)
  pays_in p all done start flight at = absurd at

  -- an answer to a question of a call that stands so pays for what it raises
  decides_in : (p answer : ℕ) (all : List SetAct) (done : List (Act T)) (start : Start T) (flight : Flight T) → FlightAt c code.size all done start flight
      → PaysIn code p None answer Kept start flight
  decides_in p answer all done (Container start) (flights.Container flight) at =
      decided code c n ws p s.state.dead s.state.states flight answer
  decides_in p answer all done start flight at = absurd at

  -- the machine keeps what the container's laws say of it
  owners : t.world.kept ≡ Kept
  owners = s.fit.kept

  -- A call of party `p` is under way. The laws of the container say where it stands, so its steps raise the counter by no more than that.
  module _ (p : ℕ) (x : Party T) (flight : Flight T) (since : ℕ) (found : party_of p t.world.latest ≡ Some x) (doing : x.doing ≡ Going flight since) where
    -- the call stands as the container's laws say
    at : FlightAt c code.size (set_acts_of p s.state.events) (acts_of p s.state.events) x.start flight
    at = (stands_there (family_by (terms code c) code c) t s p x since flight found doing).at

    -- the step of a party's call under way pays for what it raises
    step_pays : PaysBy n ws flight (ask_of (want_of t.world.coding flight)) (step_in t.world p x flight (old_of ws (ask_of (want_of t.world.coding flight))))
    step_pays =
        subst (λ z. PaysBy n ws flight (ask_of (want_of z flight))
        (step_of z ws (beside_of ws t.world.kept t.world.latest p) p x.start flight (old_of ws (ask_of (want_of z flight))) t.world.kept)) (sym s.coding)
        (subst (λ kept. PaysIn code p (ask_of (want_of code flight)) (old_of ws (ask_of (want_of code flight))) kept x.start flight) (sym owners)
        (pays_in p (set_acts_of p s.state.events) (acts_of p s.state.events) x.start flight at))

    -- an answer to a question of a call under way pays for what it raises
    decision_pays : (said : Bool) → PaysBy n ws flight None (step_in t.world p x flight (number_of said))
    decision_pays said =
        subst (λ z. PaysIn z p None (number_of said) t.world.kept x.start flight) (sym s.coding)
        (subst (λ kept. PaysIn code p None (number_of said) kept x.start flight) (sym owners)
        (decides_in p (number_of said) (set_acts_of p s.state.events) (acts_of p s.state.events) x.start flight at))

  module _ (r : Raised n t) where
    -- with a step that pays, or an answer to a party whose call is over, the word stays within
    -- what the history lets it rise
    answered : (p : ℕ) (x : Party T) (ask : Option Ask) (answer : ℕ) (doing : Doing T) → party_of p t.world.latest ≡ Some x → x.doing ≡ doing
        → ((flight : Flight T) (since : ℕ) → doing ≡ Going flight since → PaysBy n ws flight ask (step_in t.world p x flight answer))
        → Raised n record { world = after_answer t.world p x ask answer doing; events = t.events ++ events_of_answer t.world p x answer doing }
    answered p x ask answer (Over others) found same_doing pays = raised_same n t r
    answered p x ask answer (Going flight since) found same_doing pays =
        raised_on (step_owes n t p x flight since ask answer found same_doing (pays flight since refl)) r

    -- with a turn that goes on with a call, or does nothing, the word stays within what the history lets it rise
    nexts : (p : ℕ) (o : Option (Party T)) → party_of p t.world.latest ≡ o
        → Raised n record { world = after_next t.world p o; events = t.events ++ events_of_next t.world p o }
    nexts p None found = raised_same n t r
    nexts p (Some x) found =
        let ask : Doing T → Option Ask = ask_of_doing t.world.coding in
        answered p x (ask x.doing) (old_of t.world.words (ask x.doing)) x.doing found refl
        (λ flight since d. subst (λ a. PaysBy n ws flight a (step_in t.world p x flight (old_of ws a))) (sym (ap ask d)) (step_pays p x flight since found d))

    -- with an answer to a question the word stays within what the history lets it rise
    decides : (p : ℕ) (said : Bool) (o : Option (Party T)) → party_of p t.world.latest ≡ o
        → Raised n record { world = after_decision t.world p said o; events = t.events ++ events_of_decision t.world p said o }
    decides p said None found = raised_same n t r
    decides p said (Some x) found =
        answered p x None (number_of said) x.doing found refl (λ flight since d. decision_pays p x flight since found d said)

    -- with a begin the word stays within what the history lets it rise
    begins : (p : ℕ) (start : Start T) (o : Option (Flight T)) → first_of t.world.kind t.world.capacity start t.world.kept ≡ o → Raised n (begun t p start o)
    begins p start None e =
        let more = rises_more t.events (Begun p start ∷ []) in
        let fits = r.fits in
        record { seats = r.seats; beyond = r.beyond; fits = omega arith }
    begins p start (Some flight) e =
        raised_on
        (begin_owes n t p start flight
        (begins_any t.world.capacity p start t.world.kept flight
        (subst (λ kind. first_of kind t.world.capacity start t.world.kept ≡ Some flight) s.kind e))) r

    -- with any turn that is not refused the word stays within what the history lets it rise
    pub turn_raised : (turn : Turn T) → open_refusal t.world turn ≡ None → Raised n (after_turn t turn)
    turn_raised (Begin p start) e = begins p start (first_of t.world.kind t.world.capacity start t.world.kept) refl
    turn_raised (Next p) e = nexts p (party_of p t.world.latest) refl
    turn_raised (Decide p said) e = decides p said (party_of p t.world.latest) refl
    turn_raised (Die owner) e = absurd (cc)
