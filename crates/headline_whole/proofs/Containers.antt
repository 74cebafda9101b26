-- The calls of a container, run whole, are those of a map from index to owner and value, with what the state of each party shows.
use Rattle.std.proofs.Common.{◌≡◌, ◌⊎◌, inl, inr, ℕ, ◌==◌, Bool, true, false, Option, Some, List, []}
use Rattle.std.proofs.Common.{◌++◌, refl, sym, ap, subst, ◌∙◌, if◌then◌else◌}
use Rattle.steps.specs.Container.Look.{look_want, look_after, look_kept}
use Rattle.steps.specs.declared.ask.After.{After}
use Rattle.steps.specs.declared.ask.After.TheVariants.{GoOn, Done}
use Rattle.steps.specs.declared.container.look.Look.{Look}
use Rattle.steps.specs.declared.container.state.ContainerState.{ContainerState}
use Rattle.model.specs.declared.event.Answer.{Answer}
use Rattle.model.specs.declared.event.Start.{Start}
use Rattle.model.specs.declared.event.Start.TheVariants as starts
use Rattle.model.specs.declared.families.Flight.{Flight}
use Rattle.model.specs.declared.families.Flight.TheVariants as flights
use Rattle.model.specs.declared.families.Registry.{Registry}
use Rattle.model.specs.declared.families.Registry.TheVariants as registries
use Rattle.model.specs.declared.families.container.calls.ContainerFlight.TheVariants as under_way
use Rattle.model.specs.declared.families.container.calls.LookOf.{LookOf}
use Rattle.model.specs.declared.families.container.calls.LookOf.TheVariants.{GetState, UpdateState}
use Rattle.model.specs.Coding.{Coding, IsCoding}
use Rattle.model.specs.Families.{want_of, ask_of, is_question, after_of, step_of, kept_after_death}
use Rattle.model.specs.Families.Container.Calls.{look_came, look_goes, settled_if, writes_state}
use Rattle.model.specs.Families.Container.States.{set_state}
use Rattle.model.specs.Families.Indices.Robust.Dead.{dead_with}
use Rattle.model.specs.Step.{as_call}
use Rattle.model.specs.Turns.{old_of, words_after, number_of}
use Rattle.plain.specs.Contents.{Contents, Holds}
use Rattle.plain.specs.States.{Snapshot}
use Rattle.headline_whole.specs.Dialogues.{Decision, decided, as_request}
use Rattle.headline_whole.specs.Objects.{Viewed, view_after, whole_map}
use Rattle.headline_whole.proofs.Agree.{Agree, goes_so, agrees_then, agrees_still, writes_none, container_writes}
use Rattle.headline_whole.proofs.Courses.{Course, Holding, IsAfterStep, Steps}
use Rattle.headline_whole.proofs.Flights.{Turns, Talks, talks_go, talks_hear, RunsOn, run_goes}
use Rattle.headline_whole.proofs.Looks.{never_asks, start_of, views_in, AllRight, Looking, goes_on, shows}
use Rattle.headline_whole.proofs.Looks.{words_are, views_then, said}
use Rattle.headline_whole.proofs.Looks as looks
use Rattle.headline_whole.proofs.Maps.{map_in}
use Rattle.headline_whole.proofs.Maps as maps
use Rattle.headline_whole.proofs.Replies.{course}

module _ {T : Type 0} where
  -- the states of the parties, of what is kept
  abbrev pub states_in : Registry T → List (ℕ × ContainerState T)
  states_in (registries.Container dead states) = states
  states_in kept = []

  -- The states of a container's parties stay as they are when an owner dies.
  pub states_stay : (kept : Registry T) (owner : ℕ) → states_in (kept_after_death kept owner) ≡ states_in kept
  states_stay (registries.Owners dead) owner = refl
  states_stay (registries.Container dead states) owner = refl
  states_stay (registries.Loan book) owner = refl
  states_stay kept owner = refl

  -- No step of a call but of a look writes the states of the parties.
  states_same : (code : Coding T) (words : List ℕ) (beside : Option (ℕ × ℕ)) (p : ℕ) (start : Start T) (flight : Flight T) (old : ℕ)
      (kept : Registry T) → Agree start flight kept → states_in (step_of code words beside p start flight old kept).kept ≡ states_in kept
  states_same code words beside p (starts.Queues start) (flights.Queues flight) old (registries.Queues roles) agree = refl
  states_same code words beside p (starts.Atomic start) (flights.Atomic flight) old (registries.Atomic producer) agree = refl
  states_same code words beside p (starts.Bits start) (flights.Bits flight) old registries.Nothing agree = refl
  states_same code words beside p (starts.Indices start) (flights.Indices flight) old (registries.Indices holders) agree = refl
  states_same code words beside p (starts.Robust start) (flights.Robust flight) old (registries.Owners dead) agree = refl
  states_same code words beside p (starts.Container start) (flights.Container (under_way.Look which call)) old (registries.Container dead states) agree =
      absurd agree
  states_same code words beside p (starts.Container start) (flights.Container flight) old (registries.Container dead states) agree = refl
  states_same code words beside p start flight old kept agree = absurd agree

  -- A call that leaves its party's state leaves the state of every party.
  either_same : (b : Bool) (s : Contents T) (start : Start T) (view : Option (Snapshot T)) → view_after s start view ≡ view
      → (if b then view_after s start view else view) ≡ view
  either_same true s start view same = same
  either_same false s start view same = refl

module _ {T : Type 0} (code : Coding T) (coded : IsCoding code) (capacity : ℕ) where
  -- The course of a container: the map from index to owner and value, with what the parties' states show.
  abbrev pub map_course : Course T
  map_course = course (whole_map {T = T} capacity)

  -- the map that these words hold, with what the states of the parties show
  abbrev pub seen : List ℕ → (ℕ → Option (Snapshot T)) → Viewed T
  seen words views = record { contents = map_in code capacity words; views = views }

  -- A call that is no look is under way, which goes on from the words alone.
  pub record Talking (first_words : List ℕ) (views : ℕ → Option (Snapshot T)) (p : ℕ) (start : Start T) (told : List (Decision T))
      (flight : Flight T) (words : List ℕ) (kept : Registry T) : Type 0 where
    -- the call is one of the container, and puts at most `most` questions more before it ends as the map says
    pub agrees : Agree start flight kept
    pub most : ℕ
    pub talks : Talks code (maps.EndsAsMap code capacity first_words views p start) most told flight words
    -- the states of all parties are right, and show what they showed as the call began
    pub right : AllRight code coded capacity (states_in kept)
    pub same : (q : ℕ) → views_in (states_in kept) q ≡ views q
    -- the call leaves the state of its party
    pub still : (s : Contents T) (view : Option (Snapshot T)) → view_after s start view ≡ view

  -- A look is under way: `Looking` says how its words and its party's state stand to the map.
  pub record Viewing (first_words : List ℕ) (holds : Holds code.value_of code.size capacity 0 first_words) (views : ℕ → Option (Snapshot T)) (p : ℕ)
      (start : Start T) (told : List (Decision T)) (flight : Flight T) (words : List ℕ) (kept : Registry T) : Type 0 where
    -- the look, and what the machine keeps
    pub which : LookOf
    pub call : Look T
    pub dead : List ℕ
    pub states : List (ℕ × ContainerState T)
    -- the call under way is this look, which was told nothing
    pub start_is : start ≡ starts.Container (start_of which)
    pub told_is : told ≡ []
    pub flight_is : flight ≡ flights.Container (under_way.Look which call)
    pub kept_is : kept ≡ registries.Container dead states
    -- what holds of the look's words and states
    pub looking : Looking code coded capacity first_words holds views p which call words states

  -- The call under way began where the map and the states showed `s`. It is a look, or it goes on
  -- from its words alone.
  pub record Begun (s : Viewed T) (p : ℕ) (start : Start T) (told : List (Decision T)) (flight : Flight T) (words : List ℕ) (kept : Registry T)
      : Type 0 where
    pub first_words : List ℕ
    pub views : ℕ → Option (Snapshot T)
    pub is : s ≡ seen first_words views
    pub holds : Holds code.value_of code.size capacity 0 first_words
    pub under : Talking first_words views p start told flight words kept
        ⊎ Viewing first_words holds views p start told flight words kept

  -- how a container stands for its map: between calls its words hold the map, and during a call the call has begun on it
  abbrev pub holding : Holding map_course
  holding =
      record {
        Holds = λ turns words kept. Holds code.value_of code.size capacity 0 words × AllRight code coded capacity (states_in kept);
        read = λ words kept. record { contents = map_in code capacity words; views = views_in (states_in kept) };
        Under = λ s turns p start told flight words kept. Begun s p start told flight words kept;
      }

  module _ (turns p : ℕ) (first_words : List ℕ) (holds : Holds code.value_of code.size capacity 0 first_words) (views : ℕ → Option (Snapshot T)) where
    -- The map and the states as the call began.
    abbrev object : Viewed T
    object = record { contents = map_in code capacity first_words; views = views }

    -- ---- a step of a call that goes on from its words alone

    module _ (start : Start T) (told next_told : List (Decision T)) (flight : Flight T) (words next_words : List ℕ) (kept : Registry T)
        (beside : Option (ℕ × ℕ)) (old : ℕ) (k : Talking first_words views p start told flight words kept) where
      -- What the machine keeps after the step.
      abbrev next_kept : Registry T
      next_kept = (step_of code words beside p start flight old kept).kept

      -- The parties' states are right after the step.
      right_then : AllRight code coded capacity (states_in next_kept)
      right_then = subst (AllRight code coded capacity) (sym (states_same code words beside p start flight old kept k.agrees)) k.right

      -- The parties' states show after the step what they showed before.
      same_then : (q : ℕ) → views_in (states_in next_kept) q ≡ views q
      same_then q = ap (λ states. views_in states q) (states_same code words beside p start flight old kept k.agrees) ∙ k.same q

      -- After its step a call that is no look goes on, or ends with the answer of the map.
      came : (n : ℕ) (a : After (Flight T) (Answer T)) → after_of code flight old ≡ a
          → Turns code (maps.EndsAsMap code capacity first_words views p start)
          (λ told f ws. Talks code (maps.EndsAsMap code capacity first_words views p start) n told f ws) next_told a next_words
          → IsAfterStep map_course holding object turns p start next_told a next_words next_kept
      -- the call goes on: it is still under way, with what it was told
      came n (GoOn d) leads left =
          record {
            first_words = first_words;
            views = views;
            is = refl;
            holds = holds;
            under = inl (record {
              agrees = agrees_then code words beside p start flight old kept d k.agrees leads;
              most = n;
              talks = left;
              right = right_then;
              same = same_then;
              still = k.still;
            });
          }
      -- the call ends: it answers what the map says, and leaves the words and states of the map after it
      came n (Done answer) leads left = (
        left.said,
        (left.holds, right_then),
        λ i. record {
          contents = left.object i;
          views = λ q. (same_then q ∙ sym (either_same (q == p) (map_in code capacity first_words) start (views q)
              (k.still (map_in code capacity first_words) (views q)))) i;
        },
      )

      -- a step of a call that goes on from its words alone goes as the map's rules say
      steps : (n : ℕ) → Turns code (maps.EndsAsMap code capacity first_words views p start)
          (λ told f ws. Talks code (maps.EndsAsMap code capacity first_words views p start) n told f ws) next_told (after_of code flight old) next_words
          → Steps map_course holding object turns p start next_told next_words (step_of code words beside p start flight old kept)
      steps n left =
          record {
            none = λ is_call. writes_none is_call code words beside p start flight old kept k.agrees;
            came =
                subst (λ a. IsAfterStep map_course holding object turns p start next_told a next_words next_kept)
                (sym (goes_so code words beside p start flight old kept k.agrees))
                (came n (after_of code flight old) refl left);
          }

    -- A step without a decision, of a call that goes on from its words alone, goes as the map's rules say.
    talk_on : (start : Start T) (told : List (Decision T)) (flight : Flight T) (words : List ℕ) (kept : Registry T) (beside : Option (ℕ × ℕ))
        → Talking first_words views p start told flight words kept → is_question (want_of code flight) ≡ false
        → Steps map_course holding object turns p start told (words_after words (ask_of (want_of code flight)))
        (step_of code words beside p start flight (old_of words (ask_of (want_of code flight))) kept)
    talk_on start told flight words kept beside talking calm =
        steps start told told flight words (words_after words (ask_of (want_of code flight))) kept beside
        (old_of words (ask_of (want_of code flight))) talking talking.most
        (talks_go code (maps.EndsAsMap code capacity first_words views p start) talking.most told flight words talking.talks calm)

    -- A step with a decision, of a call that goes on from its words alone, goes as the map's rules say.
    talk_told : (start : Start T) (told : List (Decision T)) (flight : Flight T) (words : List ℕ) (kept : Registry T) (beside : Option (ℕ × ℕ))
        (said : Bool) → Talking first_words views p start told flight words kept → is_question (want_of code flight) ≡ true
        → Steps map_course holding object turns p start (told ++ decided code (Some flight) said) words
        (step_of code words beside p start flight (number_of said) kept)
    talk_told start told flight words kept beside said talking asks =
        let heard = talks_hear code (maps.EndsAsMap code capacity first_words views p start) talking.most told flight words talking.talks asks said in
        steps start told (told ++ decided code (Some flight) said) flight words words kept beside (number_of said) talking heard.0 heard.1

    -- ---- a step of a look

    module _ (which : LookOf) (call : Look T) (dead : List ℕ) (states : List (ℕ × ContainerState T)) (words : List ℕ) (beside : Option (ℕ × ℕ))
        (k : Looking code coded capacity first_words holds views p which call words states) where
      -- The words after the look's step.
      abbrev last : List ℕ
      last = words_after words (ask_of (look_want code.size call))

      -- The value that the look's step is handed.
      abbrev old : ℕ
      old = old_of words (ask_of (look_want code.size call))

      -- The step of the look, with what it reads and leaves.
      abbrev step : looks.LookStep code coded capacity first_words holds views p
      step = record { which = which; call = call; words = words; last = last; states = states; k = k; old = old }

      -- The parties' states after the look's step.
      abbrev new_states : After (Look T) Bool → List (ℕ × ContainerState T)
      new_states a =
          set_state p (settled_if a (shows code coded capacity first_words holds views p step)) states

      -- what a look comes to is under way still, or ends as the map says
      look_comes : (a : After (Look T) Bool)
          → RunsOn (λ (c : Look T) given. look_want code.size c) (look_after code.size) (look_kept code.value_of code.size) k.old.seen
          (looks.LookEnds code coded capacity first_words holds views p k.old) a (look_kept code.value_of code.size call k.state.shown old) last
          → IsAfterStep map_course holding object turns p (starts.Container (start_of which)) []
          (as_call flights.Container (λ (answer : Answer T). answer) (look_came which (shows code coded capacity first_words holds views p step) a))
          last (registries.Container dead (new_states a))
      -- the look goes on: it is still under way, with what its state shows after the step
      look_comes (GoOn d) left =
          record {
            first_words = first_words;
            views = views;
            is = refl;
            holds = holds;
            under = inr (record {
              which = which;
              call = d;
              dead = dead;
              states = new_states (GoOn d);
              start_is = refl;
              told_is = refl;
              flight_is = refl;
              kept_is = refl;
              looking = goes_on code coded capacity first_words holds views p step d left;
            });
          }
      -- the look ends: it answers what the map says, the words are as they were, and each state shows what the map says
      look_comes (Done changed) left =
          let same = words_are code coded capacity first_words holds views p step changed left in (
            said code coded capacity first_words holds views p step changed left,
            (
              subst (Holds code.value_of code.size capacity 0) (sym same) holds,
              looks.right_then code coded capacity first_words holds views p step changed left,
            ),
            λ i. record {
              contents = (ap (map_in code capacity) same ∙ contents_stay which) i;
              views = λ q. views_then code coded capacity first_words holds views p step changed left q i;
            },
          )
        where
          -- A look changes no entry of the map.
          contents_stay : (w : LookOf) → map_in code capacity first_words
              ≡ (map_course.after object (as_request p (starts.Container (start_of w)) [])).contents
          contents_stay GetState = refl
          contents_stay UpdateState = refl

      -- The look has changed nothing of what its party's state has seen.
      seen_same : k.state.seen ≡ k.old.seen
      seen_same = ap (λ (z : ContainerState T). z.seen) k.state_is

      -- a step of a look goes as the map's rules say
      look_on : Steps map_course holding object turns p (starts.Container (start_of which)) [] last
          (step_of code words beside p (starts.Container (start_of which)) (flights.Container (under_way.Look which call)) old
          (registries.Container dead states))
      look_on =
          record {
            none = λ is_call. container_writes is_call code p (under_way.Look which call) old states;
            came =
                subst (λ (o : Option (ContainerState T)).
                IsAfterStep map_course holding object turns p (starts.Container (start_of which)) []
                (as_call flights.Container (λ (answer : Answer T). answer) (look_goes code which call o old)) last
                (registries.Container dead (writes_state code p call old o states)))
                (sym k.found)
                (subst (λ numbers.
                IsAfterStep map_course holding object turns p (starts.Container (start_of which)) []
                (as_call flights.Container (λ (answer : Answer T). answer) (look_came which (shows code coded capacity first_words holds views p step)
                (look_after code.size call numbers old)))
                last (registries.Container dead (new_states (look_after code.size call numbers old))))
                (sym seen_same)
                (look_comes (look_after code.size call k.old.seen old)
                (run_goes (λ (c : Look T) given. look_want code.size c) (look_after code.size) (look_kept code.value_of code.size) k.old.seen
                (looks.LookEnds code coded capacity first_words holds views p k.old) call k.state.shown words k.run
                (never_asks code.size call.capacity call.stage))));
          }

    -- a step of a look that is under way goes as the map's rules say
    view_on : (start : Start T) (told : List (Decision T)) (flight : Flight T) (words : List ℕ) (kept : Registry T) (beside : Option (ℕ × ℕ))
        → Viewing first_words holds views p start told flight words kept
        → Steps map_course holding object turns p start told (words_after words (ask_of (want_of code flight)))
        (step_of code words beside p start flight (old_of words (ask_of (want_of code flight))) kept)
    view_on start told flight words kept beside viewing =
        subst (λ (x : Start T × List (Decision T) × Flight T × Registry T).
        Steps map_course holding object turns p x.0 x.1 (words_after words (ask_of (want_of code x.2)))
        (step_of code words beside p x.0 x.2 (old_of words (ask_of (want_of code x.2))) x.3))
        (λ i. (sym viewing.start_is i, sym viewing.told_is i, sym viewing.flight_is i, sym viewing.kept_is i))
        (look_on viewing.which viewing.call viewing.dead viewing.states words beside viewing.looking)

    -- A look never waits for a decision.
    view_asks_none : (start : Start T) (told : List (Decision T)) (flight : Flight T) (words : List ℕ) (kept : Registry T)
        → Viewing first_words holds views p start told flight words kept → is_question (want_of code flight) ≡ false
    view_asks_none start told flight words kept viewing =
        subst (λ f. is_question (want_of code f) ≡ false) (sym viewing.flight_is) (never_asks code.size viewing.call.capacity viewing.call.stage)

  -- ---- a turn of a call

  none_asked : {A : Type 0} (b : Bool) → b ≡ true → b ≡ false → A
  none_asked b same_true same_false = absurd (cc)

  -- a step that needs no decision goes as the map's rules say, of each call under way
  pub goes : (s : Viewed T) (turns p : ℕ) (start : Start T) (told : List (Decision T)) (flight : Flight T) (words : List ℕ)
      (kept : Registry T) (beside : Option (ℕ × ℕ)) → Begun s p start told flight words kept → is_question (want_of code flight) ≡ false
      → Steps map_course holding s turns p start told (words_after words (ask_of (want_of code flight)))
      (step_of code words beside p start flight (old_of words (ask_of (want_of code flight))) kept)
  goes s turns p start told flight words kept beside begun calm =
      subst (λ z. Steps map_course holding z turns p start told (words_after words (ask_of (want_of code flight)))
      (step_of code words beside p start flight (old_of words (ask_of (want_of code flight))) kept)) (sym begun.is) (go begun.under)
    where
      -- the cases are whether the call under way is no look or is a look
      go : Talking begun.first_words begun.views p start told flight words kept
          ⊎ Viewing begun.first_words begun.holds begun.views p start told flight words kept
          → Steps map_course holding (seen begun.first_words begun.views) turns p start told (words_after words (ask_of (want_of code flight)))
          (step_of code words beside p start flight (old_of words (ask_of (want_of code flight))) kept)
      go (inl k) = talk_on turns p begun.first_words begun.holds begun.views start told flight words kept beside k calm
      go (inr k) = view_on turns p begun.first_words begun.holds begun.views start told flight words kept beside k

  -- a step that is told yes or no goes as the map's rules say, of each call under way
  pub decides : (s : Viewed T) (turns p : ℕ) (start : Start T) (told : List (Decision T)) (flight : Flight T) (words : List ℕ)
      (kept : Registry T) (beside : Option (ℕ × ℕ)) (said : Bool) → Begun s p start told flight words kept
      → is_question (want_of code flight) ≡ true
      → Steps map_course holding s turns p start (told ++ decided code (Some flight) said) words
      (step_of code words beside p start flight (number_of said) kept)
  decides s turns p start told flight words kept beside said begun is =
      subst (λ z. Steps map_course holding z turns p start (told ++ decided code (Some flight) said) words
      (step_of code words beside p start flight (number_of said) kept)) (sym begun.is) (go begun.under)
    where
      -- The cases are whether the call is a look.
      go : Talking begun.first_words begun.views p start told flight words kept
          ⊎ Viewing begun.first_words begun.holds begun.views p start told flight words kept
          → Steps map_course holding (seen begun.first_words begun.views) turns p start (told ++ decided code (Some flight) said) words
          (step_of code words beside p start flight (number_of said) kept)
      go (inl k) = talk_told turns p begun.first_words begun.holds begun.views start told flight words kept beside said k is
      go (inr k) =
          none_asked (is_question (want_of code flight)) is (view_asks_none turns p begun.first_words begun.holds begun.views start told flight words kept k)

  -- The call under way is still as `Begun` says after an owner has died.
  pub stays : (s : Viewed T) (p : ℕ) (start : Start T) (told : List (Decision T)) (flight : Flight T) (words : List ℕ) (kept : Registry T) (owner : ℕ)
      → Begun s p start told flight words kept → Begun s p start told flight words (kept_after_death kept owner)
  stays s p start told flight words kept owner begun =
      record { first_words = begun.first_words; views = begun.views; is = begun.is; holds = begun.holds; under = go begun.under }
    where
      -- The cases are whether the call is a look.
      go : Talking begun.first_words begun.views p start told flight words kept
          ⊎ Viewing begun.first_words begun.holds begun.views p start told flight words kept
          → Talking begun.first_words begun.views p start told flight words (kept_after_death kept owner)
          ⊎ Viewing begun.first_words begun.holds begun.views p start told flight words (kept_after_death kept owner)
      go (inl k) =
          inl (record {
            agrees = agrees_still start flight kept owner k.agrees;
            most = k.most;
            talks = k.talks;
            right = subst (AllRight code coded capacity) (sym (states_stay kept owner)) k.right;
            same = λ q. ap (λ states. views_in states q) (states_stay kept owner) ∙ k.same q;
            still = k.still;
          })
      go (inr k) =
          inr (record {
            which = k.which;
            call = k.call;
            dead = dead_with owner k.dead;
            states = k.states;
            start_is = k.start_is;
            told_is = k.told_is;
            flight_is = k.flight_is;
            kept_is = ap (λ (z : Registry T). kept_after_death z owner) k.kept_is;
            looking = k.looking;
          })
