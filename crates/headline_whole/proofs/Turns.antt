-- Each turn keeps what stands between two turns of a run whose calls run whole; so it stands in every such run.
use Rattle.std.proofs.Common.{◌≡◌, inl, inr, ⊎_elim, ℕ, ◌+◌, Bool, true, false, Option, Some, None, List, [], ◌∷◌, ◌++◌}
use Rattle.std.proofs.Common.{refl, sym, ap, subst, ◌∙◌, append-nil, arith}
use Rattle.std.proofs.lemmas.Bool.{cases_eq}
use Rattle.model.specs.declared.event.Event.TheVariants.{Begun, Died}
use Rattle.model.specs.declared.event.Start.{Start}
use Rattle.model.specs.declared.families.Flight.{Flight}
use Rattle.model.specs.declared.party.Doing.{Doing}
use Rattle.model.specs.declared.party.Party.{Party}
use Rattle.model.specs.declared.party.Progress.{Progress}
use Rattle.model.specs.declared.turn.Kind.{Kind}
use Rattle.model.specs.declared.turn.Refusal.{Refusal}
use Rattle.model.specs.declared.turn.Turn.{Turn}
use Rattle.model.specs.declared.turn.Turn.TheVariants.{Begin, Next, Decide, Die}
use Rattle.model.specs.Coding.{Coding}
use Rattle.model.specs.Families.{first_of, want_of, ask_of, is_question, kept_after_death, beside_of, step_of}
use Rattle.model.specs.Parties.{doing_of, flight_of, others_of, is_over, progress_after}
use Rattle.model.specs.Promises.Bounds.{Progresses}
use Rattle.model.specs.Promises.Families.{promise_of}
use Rattle.model.specs.Reading.{span_of}
use Rattle.model.specs.Refusals.{refusal_of, call_refusal, is_due}
use Rattle.model.specs.Shape.{IsShut}
use Rattle.model.specs.Turns.{IsReached, old_of, words_after, number_of, party_at_begin, after_begin, step_in, events_of, after_turn, attempt, run}
use Rattle.model.specs.Turns as turns
use Rattle.model.specs.World.{World, Trace, opened, queue_error, words_opened, kept_opened, flight_in, progress_in}
use Rattle.model.proofs.Frame.{is_true}
use Rattle.model.proofs.Orders.{reached_kept}
use Rattle.model.proofs.Parties.{party_put_same, party_put_other}
use Rattle.model.proofs.Reached.{reached_more, turn_making}
use Rattle.model.proofs.Rows.{passes, may_begin, may_next, may_decide, must_be_due, not_none, row_passed}
use Rattle.machine.proofs.Laws.{laws_of}
use Rattle.headline_whole.specs.Dialogues.{Story, decided, story_after, story_on, story_of, calls_of}
use Rattle.headline_whole.specs.Dialogues as stories
use Rattle.headline_whole.specs.Whole.{RunsWhole}
use Rattle.headline_whole.proofs.Courses.{NoneEnds, Course, Holding, IsMadeSo, Steps, Rules}
use Rattle.headline_whole.proofs.Runs.{NoneUnderWay, OneUnderWay, NoneOrOneUnderWay, whole_before, shut_rests, no_flight, goes_on, hears}

-- `C` is how a structure of this kind goes from call to call, `H` what a machine of it holds, `L` the rules that both keep.
module _ {T : Type 0} (C : Course T) (H : Holding C) (code : Coding T) (kind : Kind) (capacity : ℕ) (L : Rules C H code kind capacity) where
  -- The call of the story is the one that its party has under way.
  pub under_way : (t : Trace T) (story : Story T) (h : OneUnderWay C H t story) → flight_in t.world h.party ≡ Some h.flight
  under_way t story h =
      ap (λ (o : Option (Party T)). flight_of (doing_of o)) h.found ∙ ap (λ (d : Doing T). flight_of (Some d)) h.doing

  -- A begin ends no call.
  begun_ends_none : (p : ℕ) (start : Start T) → NoneEnds (Begun p start ∷ [])
  begun_ends_none p start is_call = refl

  -- A death ends no call.
  died_ends_none : (owner : ℕ) → NoneEnds {T = T} (Died owner ∷ [])
  died_ends_none owner is_call = refl

  -- ---- a call begins

  -- The party of a call that is under way has an open span.
  busy : (t : Trace T) (story : Story T) → IsReached t → (h : OneUnderWay C H t story) → IsShut (span_of h.party t.events) → ⊥
  busy t story is_reached h shut =
      let kept = reached_kept laws_of t is_reached in
      let g : Progress =
      record { steps = h.call.steps; backs = h.call.backs; others = others_of t.world.changes h.call.doing; finished = is_over h.call.doing } in
      let is : progress_in t.world h.party ≡ Some g = ap (progress_after t.world.changes) h.found in
      shut_rests (promise_of t.world.kind) t.world.capacity t.world.coding.size (span_of h.party t.events) g (ap is_over h.doing) shut
      (subst (Progresses (promise_of t.world.kind) t.world.capacity t.world.coding.size (span_of h.party t.events)) is (kept.progress h.party))

  -- From a machine at rest, a begin that is not refused puts a call under way.
  begins : (t : Trace T) (story : Story T) → IsReached t → IsMadeSo code kind capacity t → (p : ℕ) (start : Start T)
      → refusal_of t.world (Begin p start) ≡ None → ((q : ℕ) → IsShut (span_of q t.events))
      → NoneOrOneUnderWay C H t story → NoneOrOneUnderWay C H (after_turn t (Begin p start)) (story_after t.world (Begin p start) story)
  -- the case that a call is under way: it cannot be, since every span is shut
  begins t story is_reached made p start free shut (inr h) = absurd (busy t story is_reached h (shut h.party))
  -- the case that none is: the call stands at its first stage, and no answer has come
  begins t story is_reached made p start free shut (inl h) =
      let may = may_begin t.world p start (passes t.world (Begin p start) free).on in
      let first = not_none (first_of t.world.kind t.world.capacity start t.world.kept) may.call in
      let flight = first.0 in
      let named : first_of t.world.kind t.world.capacity start t.world.kept ≡ first_of kind capacity start t.world.kept =
      λ i. first_of (made.kind i) (made.capacity i) start t.world.kept in
      let same : after_turn t (Begin p start)
      ≡ record { world = after_begin t.world p start (Some flight); events = t.events ++ Begun p start ∷ [] } =
      ap (λ (o : Option (Flight T)). record { world = after_begin t.world p start o; events = t.events ++ Begun p start ∷ [] }) first.1 in
      subst (λ (u : Trace T). NoneOrOneUnderWay C H u (story_after t.world (Begin p start) story)) (sym same)
      (inr (record {
        party = p;
        call = party_at_begin start flight t.world.changes;
        flight = flight;
        since = t.world.changes;
        object = H.read t.world.words t.world.kept;
        turns = t.world.turns;
        found = party_put_same p (party_at_begin start flight t.world.changes) t.world.latest;
        doing = refl;
        others = λ q ne.
            ap (λ (o : Option (Party T)). flight_of (doing_of o))
            (party_put_other q p (party_at_begin start flight t.world.changes) t.world.latest ne) ∙ h.none q;
        later = omega arith;
        under = L.begins t p start flight is_reached made free h.holds (sym named ∙ first.1);
        answers =
            subst (C.HasAnswered (H.read t.world.words t.world.kept) (t.events ++ Begun p start ∷ [])) (sym (append-nil story.calls))
            (C.quiet (H.read t.world.words t.world.kept) t.events (Begun p start ∷ []) story.calls (begun_ends_none p start) h.answers);
      }))

  -- ---- a call goes on

  -- A `Next` that is not refused meets no question.
  undecided : (w : World T) (p : ℕ) → call_refusal w (Next p) ≡ None → is_due w.coding (flight_in w p) ≡ false
  undecided w p not_refused =
      let idle = row_passed _ _ _ not_refused in
      let due = row_passed _ _ _ idle.1 in
      due.0

  -- What a step of the call under way leads to, by the rules of its structure.
  going : (t : Trace T) (story : Story T) (h : OneUnderWay C H t story) → t.world.coding ≡ code → is_question (want_of t.world.coding h.flight) ≡ false
      → Steps C H h.object h.turns h.party h.call.start story.told (words_after t.world.words (ask_of (want_of t.world.coding h.flight)))
      (step_in t.world h.party h.call h.flight (old_of t.world.words (ask_of (want_of t.world.coding h.flight))))
  going t story h made calm =
      subst (λ z. is_question (want_of z h.flight) ≡ false
      → Steps C H h.object h.turns h.party h.call.start story.told (words_after t.world.words (ask_of (want_of z h.flight)))
      (step_of z t.world.words (beside_of t.world.words t.world.kept t.world.latest h.party) h.party h.call.start h.flight
      (old_of t.world.words (ask_of (want_of z h.flight))) t.world.kept))
      (sym made)
      (λ none. L.goes h.object h.turns h.party h.call.start story.told h.flight t.world.words t.world.kept
      (beside_of t.world.words t.world.kept t.world.latest h.party) h.under none)
      calm

  -- A decision leads the call under way to where its structure says (`Steps`).
  hearing : (t : Trace T) (story : Story T) (h : OneUnderWay C H t story) → t.world.coding ≡ code → (said : Bool)
      → is_question (want_of t.world.coding h.flight) ≡ true
      → Steps C H h.object h.turns h.party h.call.start (story.told ++ decided t.world.coding (Some h.flight) said) t.world.words
      (step_in t.world h.party h.call h.flight (number_of said))
  hearing t story h made said due =
      subst (λ z. is_question (want_of z h.flight) ≡ true
      → Steps C H h.object h.turns h.party h.call.start (story.told ++ decided z (Some h.flight) said) t.world.words
      (step_of z t.world.words (beside_of t.world.words t.world.kept t.world.latest h.party) h.party h.call.start h.flight
      (number_of said) t.world.kept))
      (sym made)
      (λ is. L.decides h.object h.turns h.party h.call.start story.told h.flight t.world.words t.world.kept
      (beside_of t.world.words t.world.kept t.world.latest h.party) said h.under is)
      due

  -- A `Next` that is not refused takes a step of the call under way.
  nexts : (t : Trace T) (story : Story T) (p : ℕ) → IsMadeSo code kind capacity t → refusal_of t.world (Next p) ≡ None → NoneOrOneUnderWay C H t story
      → NoneOrOneUnderWay C H (after_turn t (Next p)) (story_after t.world (Next p) story)
  nexts t story p made free (inl h) =
      let may = may_next t.world p (passes t.world (Next p) free).on in no_flight (flight_in t.world p) may.flight (h.none p) may.is
  nexts t story p made free (inr h) =
      let allowed = (passes t.world (Next p) free).on in
      let may = may_next t.world p allowed in
      ⊎_elim (λ (e : p ≡ h.party).
      let here : flight_in t.world p ≡ Some h.flight = ap (flight_in t.world) e ∙ under_way t story h in
      let calm : is_question (want_of t.world.coding h.flight) ≡ false =
      subst (λ o. is_due t.world.coding o ≡ false) here (undecided t.world p allowed) in
      subst (λ q. NoneOrOneUnderWay C H (after_turn t (Next q)) (story_after t.world (Next q) story)) (sym e)
      (goes_on C H t story h (going t story h made.coding calm) L.later))
      (λ ne. no_flight (flight_in t.world p) may.flight (h.others p ne) may.is)
      (cases_eq p h.party)

  -- A `Decide` that is not refused tells the call under way what was decided.
  decides : (t : Trace T) (story : Story T) (p : ℕ) (said : Bool) → IsMadeSo code kind capacity t → refusal_of t.world (Decide p said) ≡ None
      → NoneOrOneUnderWay C H t story → NoneOrOneUnderWay C H (after_turn t (Decide p said)) (story_after t.world (Decide p said) story)
  decides t story p said made free (inl h) =
      let may = may_decide t.world p said (passes t.world (Decide p said) free).on in no_flight (flight_in t.world p) may.flight (h.none p) may.is
  decides t story p said made free (inr h) =
      let allowed = (passes t.world (Decide p said) free).on in
      let may = may_decide t.world p said allowed in
      ⊎_elim (λ (e : p ≡ h.party).
      let here : flight_in t.world p ≡ Some h.flight = ap (flight_in t.world) e ∙ under_way t story h in
      let due : is_question (want_of t.world.coding h.flight) ≡ true =
      subst (λ o. is_due t.world.coding o ≡ true) here (is_true (is_due t.world.coding (flight_in t.world p)) (must_be_due t.world p said allowed)) in
      subst (λ q. NoneOrOneUnderWay C H (after_turn t (Decide q said)) (story_after t.world (Decide q said) story)) (sym e)
      (hears C H t story h said (hearing t story h made.coding said due) L.later))
      (λ ne. no_flight (flight_in t.world p) may.flight (h.others p ne) may.is)
      (cases_eq p h.party)

  -- ---- an owner dies

  -- as an owner dies what stands between two turns stays
  dies : (t : Trace T) (story : Story T) (owner : ℕ) → NoneOrOneUnderWay C H t story
      → NoneOrOneUnderWay C H (after_turn t (Die owner)) (story_after t.world (Die owner) story)
  -- the case that no call is under way
  dies t story owner (inl h) =
      let kept = L.mourns t.world.turns t.world.words t.world.kept owner h.holds in
      inl (record {
        none = h.none;
        holds = L.later t.world.turns (t.world.turns + 1) t.world.words (kept_after_death t.world.kept owner) (omega arith) kept.0;
        answers =
            subst (λ (s : C.State). C.HasAnswered s (t.events ++ Died owner ∷ []) (story.calls ++ [])) (sym kept.1)
            (subst (C.HasAnswered (H.read t.world.words t.world.kept) (t.events ++ Died owner ∷ [])) (sym (append-nil story.calls))
            (C.quiet (H.read t.world.words t.world.kept) t.events (Died owner ∷ []) story.calls (died_ends_none owner) h.answers));
      })
  -- the case that a call is under way, which stays where it stood
  dies t story owner (inr h) =
      inr (record {
        party = h.party;
        call = h.call;
        flight = h.flight;
        since = h.since;
        object = h.object;
        turns = h.turns;
        found = h.found;
        doing = h.doing;
        others = h.others;
        later = omega (arith, h.later);
        under = L.stays h.object h.turns h.party h.call.start story.told h.flight t.world.words t.world.kept owner h.under;
        answers =
            subst (C.HasAnswered h.object (t.events ++ Died owner ∷ [])) (sym (append-nil story.calls))
            (C.quiet h.object t.events (Died owner ∷ []) story.calls (died_ends_none owner) h.answers);
      })

  -- ---- every run

  record HasRun (t : Trace T) (story : Story T) : Type 0 where
    pub reached : IsReached t
    pub made : IsMadeSo code kind capacity t
    pub stands : RunsWhole t.events → NoneOrOneUnderWay C H t story

  -- a turn that is not refused leaves what stands between two turns
  takes : (t : Trace T) (story : Story T) (turn : Turn T) → refusal_of t.world turn ≡ None → HasRun t story
      → RunsWhole (after_turn t turn).events → NoneOrOneUnderWay C H (after_turn t turn) (story_after t.world turn story)
  takes t story (Begin p start) free has_run runs =
      begins t story has_run.reached has_run.made p start free (λ q. runs p start t.events ([], refl) q)
      (has_run.stands (whole_before t.events (Begun p start ∷ []) runs))
  takes t story (Next p) free has_run runs =
      nexts t story p has_run.made free
      (has_run.stands (whole_before t.events (events_of t.world (Next p)) runs))
  takes t story (Decide p said) free has_run runs =
      decides t story p said has_run.made free
      (has_run.stands (whole_before t.events (events_of t.world (Decide p said)) runs))
  takes t story (Die owner) free has_run runs =
      dies t story owner
      (has_run.stands (whole_before t.events (Died owner ∷ []) runs))

  -- A run in which `HasRun` holds goes on by a turn that is not refused, and `HasRun` holds after it.
  keeps : (t : Trace T) (story : Story T) (turn : Turn T) → refusal_of t.world turn ≡ None → HasRun t story
      → HasRun (after_turn t turn) (story_after t.world turn story)
  keeps t story turn free has_run =
      let making = turn_making t.world turn in
      record {
        reached = reached_more t turn free has_run.reached;
        made =
            record {
              coding = making.coding ∙ has_run.made.coding;
              kind = making.kind ∙ has_run.made.kind;
              capacity = making.capacity ∙ has_run.made.capacity;
            };
        stands = λ runs. takes t story turn free has_run runs;
      }

  -- What stands between two turns stands after a turn that is taken or refused.
  attempt_keeps : (t : Trace T) (story : Story T) (turn : Turn T) (o : Option Refusal) → refusal_of t.world turn ≡ o → HasRun t story
      → HasRun (turns.unless_refused t (after_turn t turn) o) (stories.unless_refused story (story_after t.world turn story) o)
  attempt_keeps t story turn None refusal_is has_run = keeps t story turn refusal_is has_run
  attempt_keeps t story turn (Some refusal) refusal_is has_run = has_run

  -- What stands between two turns stands after any list of turns.
  run_keeps : (turns : List (Turn T)) (t : Trace T) (story : Story T) → HasRun t story → HasRun (run turns t) (story_on turns t story)
  run_keeps [] t story has_run = has_run
  run_keeps (turn ∷ turns) t story has_run =
      run_keeps turns (attempt t turn) (stories.unless_refused story (story_after t.world turn story) (refusal_of t.world turn))
      (attempt_keeps t story turn (refusal_of t.world turn) refl has_run)

  -- No call has ended, and none was told anything.
  abbrev no_calls : Story T
  no_calls = record { told = []; calls = [] }

  -- at the opening no call is under way, and the words hold the object
  opens : (t : Trace T) → IsReached t → IsMadeSo code kind capacity t → (queue : ℕ) → queue_error t.world.kind queue ≡ None
      → HasRun (opened t.world.coding t.world.kind t.world.capacity queue t.world.parties) no_calls
  opens t is_reached made queue queued =
      record {
        reached = record { coded = is_reached.coded; admitted = is_reached.admitted; queue = queue; queued = queued; turns = []; is = refl };
        made = record { coding = made.coding; kind = made.kind; capacity = made.capacity };
        stands = λ runs.
            inl (record {
              none = λ q. refl;
              holds =
                  subst (λ (x : Coding T × Kind × ℕ). H.Holds 0 (words_opened x.1 x.0.size x.2 queue) (kept_opened x.1 x.2 queue))
                  (λ i. (sym made.coding i, sym made.kind i, sym made.capacity i)) (L.opens queue);
              answers =
                  subst (λ (x : Coding T × Kind × ℕ).
                  C.HasAnswered (H.read (words_opened x.1 x.0.size x.2 queue) (kept_opened x.1 x.2 queue)) [] [])
                  (λ i. (sym made.coding i, sym made.kind i, sym made.capacity i)) (L.first queue);
            });
      }

  -- What stands between two turns stands at the end of each run whose calls run whole.
  pub stands_whole : (t : Trace T) (r : IsReached t) → IsMadeSo code kind capacity t → RunsWhole t.events → NoneOrOneUnderWay C H t (story_of t r)
  stands_whole t r made runs =
      let ran = run_keeps r.turns (opened t.world.coding t.world.kind t.world.capacity r.queue t.world.parties) no_calls
      (opens t r made r.queue r.queued) in
      subst (λ (u : Trace T). NoneOrOneUnderWay C H u (story_of t r)) (sym r.is) (ran.stands (subst (λ (u : Trace T). RunsWhole u.events) r.is runs))

  -- After a run whose calls run whole there is a state of the object, after the finished calls, which gave the
  -- answers of the object.
  pub answers_whole : (t : Trace T) (r : IsReached t) → IsMadeSo code kind capacity t → RunsWhole t.events
      → (s : C.State) × C.HasAnswered s t.events (calls_of t r)
  answers_whole t r made runs =
      ⊎_elim (λ (h : NoneUnderWay C H t (calls_of t r)). (H.read t.world.words t.world.kept, h.answers))
      (λ (h : OneUnderWay C H t (story_of t r)). (h.object, h.answers)) (stands_whole t r made runs)
