-- In a run whose calls run whole, between two turns either no call is under way and the words hold the object, or one call is
-- under way.
use Rattle.std.proofs.Common.{◌≡◌, ◌≢◌, ◌⊎◌, inl, inr, ⊎_elim, ℕ, ◌+◌, ◌≤◌, Bool, true, false, Option, Some, None, List, [], ◌∷◌, ◌++◌}
use Rattle.std.proofs.Common.{refl, sym, ap, subst, ◌∙◌, append_assoc, append-nil, arith}
use Rattle.std.proofs.lemmas.Bool.{cases_eq}
use Rattle.std.proofs.lemmas.List.Concat.{flat_map-append}
use Rattle.std.specs.List.{flat_map}
use Rattle.steps.specs.declared.ask.After.{After}
use Rattle.steps.specs.declared.ask.After.TheVariants.{GoOn, Done}
use Rattle.steps.specs.declared.ask.Ask.{Ask}
use Rattle.model.specs.declared.event.Answer.{Answer}
use Rattle.model.specs.declared.event.Event.{Event}
use Rattle.model.specs.declared.event.Event.TheVariants.{Begun, Finished}
use Rattle.model.specs.declared.families.Flight.{Flight}
use Rattle.model.specs.declared.families.Registry.{Registry}
use Rattle.model.specs.declared.party.Doing.{Doing}
use Rattle.model.specs.declared.party.Doing.TheVariants.{Going}
use Rattle.model.specs.declared.party.Party.{Party}
use Rattle.model.specs.declared.party.Progress.{Progress}
use Rattle.model.specs.declared.turn.Turn.TheVariants.{Next, Decide}
use Rattle.model.specs.Families.{want_of, ask_of}
use Rattle.model.specs.Parties.{party_of, doing_of, flight_of}
use Rattle.model.specs.Promise.{Promise}
use Rattle.model.specs.Promises.Bounds.{Progresses}
use Rattle.model.specs.Reading.{Span, Never, Open, Ended}
use Rattle.model.specs.Shape.{IsShut}
use Rattle.model.specs.Step.{Step}
use Rattle.model.specs.Turns.{old_of, words_after, change_of, number_of, step_count, party_after, after_step, after_answer}
use Rattle.model.specs.Turns.{after_next, after_decision, events_of_answer, events_of_next, events_of_decision, ask_of_doing}
use Rattle.model.specs.Turns.{step_in, events_of, events_of_step, after_turn, world_after}
use Rattle.model.specs.World.{World, Trace, flight_in}
use Rattle.model.proofs.Parties.{party_put_same, party_put_other}
use Rattle.headline_whole.specs.Dialogues.{Request, Reply, Decision, Story, decided, finished_in, story_after, as_request, as_reply}
use Rattle.headline_whole.specs.Whole as whole
use Rattle.headline_whole.specs.Whole.{RunsWhole}
use Rattle.headline_whole.proofs.Courses.{NoneEnds, Course, Holding, IsAfterStep, Steps}

module _ {T : Type 0} where
  -- ---- what events say

  -- In a run whose calls run whole they do so in each beginning of it.
  pub whole_before : (events es : List (Event T)) → RunsWhole (events ++ es) → RunsWhole events
  whole_before events es runs_whole p start before at =
      runs_whole p start before (at.0 ++ es, ap (λ (xs : List (Event T)). xs ++ es) at.1 ∙ append_assoc before (Begun p start ∷ at.0) es)

  -- a party whose span is shut has no call under way
  pub shut_rests : (promise : Promise T) (capacity size : ℕ) (span : Span T) (g : Progress) → g.finished ≡ false → IsShut span
      → Progresses promise capacity size span (Some g) → ⊥
  shut_rests promise capacity size Never g on shut progresses = progresses
  shut_rests promise capacity size (Open start wrote) g on shut progresses = shut
  shut_rests promise capacity size (Ended start answer wrote) g on shut progresses = let over : g.finished ≡ true = progresses.1 in absurd (cc)

  -- where no event of `es` ends a call, no call has finished in `es`
  pub none_finished : (told : List (Decision T)) (es : List (Event T)) → flat_map (whole.answer_in (λ start. true)) es ≡ []
      → flat_map (finished_in told) es ≡ []
  none_finished told [] none = refl
  none_finished told (Finished p start answer ∷ es) none = absurd (cc)
  none_finished told (e ∷ es) none = none_finished told es none

  -- ---- what a turn of a call under way makes

  -- what the world is after a step of a call under way
  next_world : (w : World T) (p : ℕ) (x : Party T) (flight : Flight T) (since : ℕ) → party_of p w.latest ≡ Some x → x.doing ≡ Going flight since
      → world_after w (Next p)
      ≡ after_step w p x since (ask_of (want_of w.coding flight)) (step_in w p x flight (old_of w.words (ask_of (want_of w.coding flight))))
  next_world w p x flight since found doing =
      ap (after_next w p) found
      ∙ ap (λ (d : Doing T). after_answer w p x (ask_of_doing w.coding d) (old_of w.words (ask_of_doing w.coding d)) d) doing

  -- The events of a turn `Next` of a party are those of the step of its call under way.
  next_events : (w : World T) (p : ℕ) (x : Party T) (flight : Flight T) (since : ℕ) → party_of p w.latest ≡ Some x → x.doing ≡ Going flight since
      → events_of w (Next p) ≡ events_of_step p x.start (step_in w p x flight (old_of w.words (ask_of (want_of w.coding flight))))
  next_events w p x flight since found doing =
      ap (events_of_next w p) found
      ∙ ap (λ (d : Doing T). events_of_answer w p x (old_of w.words (ask_of_doing w.coding d)) d) doing

  -- The machine after a decision is the one after the step of the party's call that is handed the decision.
  decision_world : (w : World T) (p : ℕ) (said : Bool) (x : Party T) (flight : Flight T) (since : ℕ) → party_of p w.latest ≡ Some x
      → x.doing ≡ Going flight since → world_after w (Decide p said) ≡ after_step w p x since None (step_in w p x flight (number_of said))
  decision_world w p said x flight since found doing =
      ap (after_decision w p said) found ∙ ap (λ (d : Doing T). after_answer w p x None (number_of said) d) doing

  -- The events of a decision are those of the step of the party's call that is handed the decision.
  decision_events : (w : World T) (p : ℕ) (said : Bool) (x : Party T) (flight : Flight T) (since : ℕ) → party_of p w.latest ≡ Some x
      → x.doing ≡ Going flight since → events_of w (Decide p said) ≡ events_of_step p x.start (step_in w p x flight (number_of said))
  decision_events w p said x flight since found doing =
      ap (events_of_decision w p said) found ∙ ap (λ (d : Doing T). events_of_answer w p x (number_of said) d) doing

  pub no_flight : {A : Type 0} (o : Option (Flight T)) (f : Flight T) → o ≡ None → o ≡ Some f → A
  no_flight o f none_is some_is = let h : ◌≡◌ {A = Option (Flight T)} None (Some f) = sym none_is ∙ some_is in absurd (cc)

-- ---- the invariant

-- `C` is how a structure goes from call to call, `H` what a machine of it holds.
module _ {T : Type 0} (C : Course T) (H : Holding C) where
  -- no call is under way, and these are done
  pub record NoneUnderWay (t : Trace T) (calls : List (Request T × Reply T)) : Type 0 where
    pub none : (q : ℕ) → flight_in t.world q ≡ None
    pub holds : H.Holds t.world.turns t.world.words t.world.kept
    pub answers : C.HasAnswered (H.read t.world.words t.world.kept) t.events calls

  -- one call is under way, and these calls are done
  pub record OneUnderWay (t : Trace T) (story : Story T) : Type 0 where
    -- the call under way: its party, where it stands, and the changes of words before it and by it
    pub party : ℕ
    pub call : Party T
    pub flight : Flight T
    pub since : ℕ
    pub object : C.State  -- as it began
    -- how many turns had been taken as it began
    pub turns : ℕ
    -- the party is in the machine with this call, and no other party has one under way
    pub found : party_of party t.world.latest ≡ Some call
    pub doing : call.doing ≡ Going flight since
    pub others : (q : ℕ) → q ≢ party → flight_in t.world q ≡ None
    -- it began in an earlier turn, and stands as the object says; the finished calls have the answers of the object
    pub later : turns + 1 ≤ t.world.turns
    pub under : H.Under object turns party call.start story.told flight t.world.words t.world.kept
    pub answers : C.HasAnswered object t.events story.calls

  -- Between two turns either no call is under way, or one is.
  abbrev pub NoneOrOneUnderWay : Trace T → Story T → Type 0
  NoneOrOneUnderWay t story = NoneUnderWay t story.calls ⊎ OneUnderWay t story

  -- ---- the call under way goes on

  module _ (t : Trace T) (story : Story T) (h : OneUnderWay t story) (told : List (Decision T)) (ask : Option Ask) where
    -- the trace after a step of the call under way
    abbrev now : Step (Flight T) (Registry T) T → Trace T
    now s =
        record {
          world = after_step t.world h.party h.call h.since ask s;
          events = t.events ++ events_of_step h.party h.call.start s;
        }

    -- The story of the run after this step of the call under way.
    abbrev story_now : Step (Flight T) (Registry T) T → Story T
    story_now s =
        record { told = told; calls = story.calls ++ flat_map (finished_in told) (events_of_step h.party h.call.start s) }

    -- The party after this step of its call.
    abbrev call_now : Step (Flight T) (Registry T) T → Party T
    call_now s = party_after h.call h.since t.world.changes (step_count ask) (change_of t.world.words ask) s

    -- Every party but that of the call under way has no call after the step.
    still_none : (s : Step (Flight T) (Registry T) T) (q : ℕ) → q ≢ h.party → flight_in (now s).world q ≡ None
    still_none s q ne =
        ap (λ (o : Option (Party T)). flight_of (doing_of o)) (party_put_other q h.party (call_now s) t.world.latest ne) ∙ h.others q ne

    nothing_more : (wrote : List (Event T)) → NoneEnds wrote → NoneEnds (wrote ++ [])
    nothing_more wrote none = subst NoneEnds (sym (append-nil wrote)) none

    -- A step whose events end no call adds no call to those that are done.
    no_more_calls : (wrote : List (Event T)) → NoneEnds wrote → story.calls ++ flat_map (finished_in told) (wrote ++ []) ≡ story.calls
    no_more_calls wrote none =
        ap (λ (xs : List (Request T × Reply T)). story.calls ++ xs) (none_finished told (wrote ++ []) (nothing_more wrote none (λ start. true)))
        ∙ append-nil story.calls

    -- a call that ends is one more of the finished calls, as it was told
    one_more_call : (wrote : List (Event T)) (answer : Answer T) → NoneEnds wrote
        → story.calls ++ flat_map (finished_in told) (wrote ++ Finished h.party h.call.start answer ∷ [])
        ≡ story.calls ++ (as_request h.party h.call.start told, as_reply told answer) ∷ []
    one_more_call wrote answer none =
        ap (λ (xs : List (Request T × Reply T)). story.calls ++ xs)
        (flat_map-append (finished_in told) wrote (Finished h.party h.call.start answer ∷ [])
        ∙ ap (λ (xs : List (Request T × Reply T)). xs ++ (as_request h.party h.call.start told, as_reply told answer) ∷ [])
        (none_finished told wrote (none (λ start. true))))

    -- what a step comes to leaves the call under way, or no call and one more answer
    comes_to : (a : After (Flight T) (Answer T)) (back : Bool) (wrote : List (Event T)) (kept : Registry T) → NoneEnds wrote
        → IsAfterStep C H h.object h.turns h.party h.call.start told a (words_after t.world.words ask) kept
        → ((m n : ℕ) (words : List ℕ) (kept : Registry T) → m ≤ n → H.Holds m words kept → H.Holds n words kept)
        → NoneOrOneUnderWay (now (record { after = a; back = back; wrote = wrote; kept = kept }))
        (story_now (record { after = a; back = back; wrote = wrote; kept = kept }))
    -- the call goes on: one call is still under way, and no answer has come
    comes_to (GoOn d) back wrote kept none came later =
        let s : Step (Flight T) (Registry T) T = record { after = GoOn d; back = back; wrote = wrote; kept = kept } in
        inr (record {
          party = h.party;
          call = call_now s;
          flight = d;
          since = h.since + change_of t.world.words ask;
          object = h.object;
          turns = h.turns;
          found = party_put_same h.party (call_now s) t.world.latest;
          doing = refl;
          others = still_none s;
          later = omega (arith, h.later);
          under = came;
          answers =
              subst (C.HasAnswered h.object (t.events ++ (wrote ++ []))) (sym (no_more_calls wrote none))
              (C.quiet h.object t.events (wrote ++ []) story.calls (nothing_more wrote none) h.answers);
        })
    -- the call ends: none is under way, the words hold the object after the call, and its answer is added
    comes_to (Done answer) back wrote kept none came later =
        let s : Step (Flight T) (Registry T) T = record { after = Done answer; back = back; wrote = wrote; kept = kept } in
        inl (record {
          none = λ q. ⊎_elim (mine s q refl) (still_none s q) (cases_eq q h.party);
          holds = later (h.turns + 1) (t.world.turns + 1) (words_after t.world.words ask) kept (omega (arith, h.later)) came.1;
          answers =
              subst (λ (object : C.State). C.HasAnswered object (now s).events (story_now s).calls) (sym came.2)
              (subst (C.HasAnswered (C.after h.object (as_request h.party h.call.start told)) (now s).events) (sym (one_more_call wrote answer none))
              (C.once h.object t.events wrote story.calls h.party h.call.start told answer none came.0 h.answers));
        })
      where
        -- The party whose call has ended with this step has none under way.
        mine : (s : Step (Flight T) (Registry T) T) (q : ℕ) → s.after ≡ Done answer → q ≡ h.party → flight_in (now s).world q ≡ None
        mine s q over same_party =
            ap (λ (n : ℕ). flight_in (now s).world n) same_party
            ∙ (ap (λ (o : Option (Party T)). flight_of (doing_of o)) (party_put_same h.party (call_now s) t.world.latest)
            ∙ ap (λ (a : After (Flight T) (Answer T)). flight_of (doing_of (Some (call_now (record s { after = a }))))) over)

    -- After a step that keeps to the object, one call is under way still, or none and the words
    -- hold the object.
    pub comes : (s : Step (Flight T) (Registry T) T)
        → Steps C H h.object h.turns h.party h.call.start told (words_after t.world.words ask) s
        → ((m n : ℕ) (words : List ℕ) (kept : Registry T) → m ≤ n → H.Holds m words kept → H.Holds n words kept)
        → NoneOrOneUnderWay (now s) (story_now s)
    comes s st later = comes_to s.after s.back s.wrote s.kept st.none st.came later

  module _ (t : Trace T) (story : Story T) (h : OneUnderWay t story) where
    -- as the call under way takes a step, one call is under way still, or none and the words hold the object
    pub goes_on : Steps C H h.object h.turns h.party h.call.start story.told (words_after t.world.words (ask_of (want_of t.world.coding h.flight)))
        (step_in t.world h.party h.call h.flight (old_of t.world.words (ask_of (want_of t.world.coding h.flight))))
        → ((m n : ℕ) (words : List ℕ) (kept : Registry T) → m ≤ n → H.Holds m words kept → H.Holds n words kept)
        → NoneOrOneUnderWay (after_turn t (Next h.party)) (story_after t.world (Next h.party) story)
    goes_on st later =
        let world = next_world t.world h.party h.call h.flight h.since h.found h.doing in
        let wrote = next_events t.world h.party h.call h.flight h.since h.found h.doing in
        subst (λ (x : World T × List (Event T)).
        NoneOrOneUnderWay (record { world = x.0; events = t.events ++ x.1 })
        (record { told = story.told; calls = story.calls ++ flat_map (finished_in story.told) x.1 }))
        (λ i. (sym world i, sym wrote i))
        (comes t story h story.told (ask_of (want_of t.world.coding h.flight))
        (step_in t.world h.party h.call h.flight (old_of t.world.words (ask_of (want_of t.world.coding h.flight)))) st later)

    -- as it is told yes or no, one call is under way still, or none and the words hold the object
    pub hears : (said : Bool)
        → Steps C H h.object h.turns h.party h.call.start (story.told ++ decided t.world.coding (Some h.flight) said) t.world.words
        (step_in t.world h.party h.call h.flight (number_of said))
        → ((m n : ℕ) (words : List ℕ) (kept : Registry T) → m ≤ n → H.Holds m words kept → H.Holds n words kept)
        → NoneOrOneUnderWay (after_turn t (Decide h.party said)) (story_after t.world (Decide h.party said) story)
    hears said st later =
        let world = decision_world t.world h.party said h.call h.flight h.since h.found h.doing in
        let wrote = decision_events t.world h.party said h.call h.flight h.since h.found h.doing in
        let here : flight_in t.world h.party ≡ Some h.flight =
        ap (λ (o : Option (Party T)). flight_of (doing_of o)) h.found ∙ ap (λ (d : Doing T). flight_of (Some d)) h.doing in
        subst (λ (x : World T × List (Event T) × Option (Flight T)).
        NoneOrOneUnderWay (record { world = x.0; events = t.events ++ x.1 })
        (record {
          told = story.told ++ decided t.world.coding x.2 said;
          calls = story.calls ++ flat_map (finished_in (story.told ++ decided t.world.coding x.2 said)) x.1;
        }))
        (λ i. (sym world i, sym wrote i, sym here i))
        (comes t story h (story.told ++ decided t.world.coding (Some h.flight) said) None
        (step_in t.world h.party h.call h.flight (number_of said)) st later)
