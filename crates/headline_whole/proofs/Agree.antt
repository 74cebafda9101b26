-- A call of one family, named as one of it, where that family's registry is kept: what its step comes to. (Calls of queues and
-- of the value are not followed step by step: see `Lists` and `Moments`.)
use Rattle.std.proofs.Common.{◌≡◌, ℕ, ◌==◌, Bool, true, false, Option, Some, None, List, [], ◌∷◌, ◌++◌, map, refl, ap, subst, ◌∙◌, if◌then◌else◌}
use Rattle.std.specs.List.{AllByRecursion, flat_map}
use Rattle.steps.specs.Bits.BitSet.{place_after}
use Rattle.steps.specs.Bits.Places.{places_in}
use Rattle.steps.specs.Container.Add.{add_after}
use Rattle.steps.specs.Container.Find.{find_after, find_kept}
use Rattle.steps.specs.Container.Recover.{recover_after, recover_kept}
use Rattle.steps.specs.Container.Remove.{remove_after}
use Rattle.steps.specs.Container.Replace.{replace_after}
use Rattle.steps.specs.Indices.Robust.Looks.{borrowed_after, locked_after}
use Rattle.steps.specs.Routine.{went_on}
use Rattle.steps.specs.declared.ask.After.{After}
use Rattle.steps.specs.declared.ask.After.TheVariants.{GoOn, Done}
use Rattle.steps.specs.declared.container.state.ContainerState.{ContainerState}
use Rattle.steps.specs.declared.bits.bit_set.ResetNextStage.{ResetNextStage}
use Rattle.steps.specs.declared.bits.bit_set.ResetNextStage.TheVariants as resets
use Rattle.steps.specs.declared.bits.bit_set.SetStage.{SetStage}
use Rattle.steps.specs.declared.bits.bit_set.SetStage.TheVariants as sets
use Rattle.steps.specs.declared.indices.enums.ReleaseState.TheVariants.{Locked}
use Rattle.model.specs.declared.event.Answer.{Answer}
use Rattle.model.specs.declared.event.Answer.TheVariants as answers
use Rattle.model.specs.declared.event.Event.{Event}
use Rattle.model.specs.declared.event.Event.TheVariants as events
use Rattle.model.specs.declared.event.Event.TheVariants.{Finished}
use Rattle.model.specs.declared.event.Start.{Start}
use Rattle.model.specs.declared.event.Start.TheVariants as starts
use Rattle.model.specs.declared.families.Flight.{Flight}
use Rattle.model.specs.declared.families.Flight.TheVariants as flights
use Rattle.model.specs.declared.families.Registry.{Registry}
use Rattle.model.specs.declared.families.Registry.TheVariants as registries
use Rattle.model.specs.declared.families.bits.calls.BitsFlight.{BitsFlight}
use Rattle.model.specs.declared.families.bits.calls.BitsFlight.TheVariants as bit_flights
use Rattle.model.specs.declared.families.container.ContainerStart.{ContainerStart}
use Rattle.model.specs.declared.families.container.calls.ContainerFlight.{ContainerFlight}
use Rattle.model.specs.declared.families.container.calls.ContainerFlight.TheVariants as containers
use Rattle.model.specs.declared.turn.Turn.{Turn}
use Rattle.model.specs.declared.turn.Turn.TheVariants.{Next}
use Rattle.model.specs.Coding.{Coding}
use Rattle.model.specs.Families.{after_of, step_of, kept_after_death}
use Rattle.model.specs.Families.Bits.Calls as bits_calls
use Rattle.model.specs.Families.Bits.Steps as bits_steps
use Rattle.model.specs.Families.Container.Calls as container_calls
use Rattle.model.specs.Families.Container.States.{state_of}
use Rattle.model.specs.Families.Container.Steps as container_steps
use Rattle.model.specs.Families.Indices.Calls as index_calls
use Rattle.model.specs.Families.Indices.Robust.Calls as robust_calls
use Rattle.model.specs.Families.Indices.Robust.Steps as robust_steps
use Rattle.model.specs.Families.Indices.Steps as index_steps
use Rattle.model.specs.Families.Queues.Calls.{as_it_is, kept_at}
use Rattle.model.specs.Promises.Turns.{IsEffectOf}
use Rattle.model.specs.Step.{as_call, answer_in}
use Rattle.laws_container.proofs.Written as container
use Rattle.laws_robust.proofs.Written as robust
use Rattle.headline_whole.specs.Whole as whole

module _ {T : Type 0} where
  -- a look goes on from what its party's state has seen, and any other call from its word alone
  abbrev pub IsNoLook : ContainerFlight T → Type 0
  IsNoLook (containers.Look which call) = ⊥
  IsNoLook flight = Unit {0}

  -- the call, its stage and the registry are of one kind, and a call of a container is no look
  abbrev pub Agree : Start T → Flight T → Registry T → Type 0
  Agree (starts.Bits start) (flights.Bits flight) registries.Nothing = Unit {0}
  Agree (starts.Indices start) (flights.Indices flight) (registries.Indices holders) = Unit {0}
  Agree (starts.Robust start) (flights.Robust flight) (registries.Owners dead) = Unit {0}
  Agree (starts.Container start) (flights.Container flight) (registries.Container dead states) = IsNoLook flight
  Agree start flight kept = ⊥

  -- ---- it goes on as its table says

  -- A step of a call that agrees with what is kept goes on as the table of the call says.
  pub goes_so : (code : Coding T) (words : List ℕ) (beside : Option (ℕ × ℕ)) (p : ℕ) (start : Start T) (flight : Flight T) (old : ℕ)
      (kept : Registry T) → Agree start flight kept
      → (step_of code words beside p start flight old kept).after ≡ after_of code flight old
  goes_so code words beside p (starts.Bits start) (flights.Bits flight) old registries.Nothing agree = refl
  goes_so code words beside p (starts.Indices start) (flights.Indices flight) old (registries.Indices holders) agree = refl
  goes_so code words beside p (starts.Robust start) (flights.Robust flight) old (registries.Owners dead) agree = refl
  goes_so code words beside p (starts.Container start) (flights.Container (containers.Look which call)) old
      (registries.Container dead states) agree =
      absurd agree
  goes_so code words beside p (starts.Container start) (flights.Container flight) old (registries.Container dead states) agree = refl
  goes_so code words beside p start flight old kept agree = absurd agree

  -- ---- and then stays one of its family

  -- If `GoOn f` is `GoOn d`, then the calls f and d are one.
  same_flight : (f d : Flight T) → ◌≡◌ {A = After (Flight T) (Answer T)} (GoOn f) (GoOn d) → f ≡ d
  same_flight f d e = cc

  -- A call of a family that goes on after its step is a call of that family again.
  stays : {R : Type 0} (start : Start T) (kept : Registry T) (outer : R → Flight T) → ((r : R) → Agree start (outer r) kept)
      → (d : Flight T) (a : After R (Answer T)) → as_call outer (λ (answer : Answer T). answer) a ≡ GoOn d → Agree start d kept
  stays start kept outer all d (GoOn r) leads = subst (λ f. Agree start f kept) (same_flight (outer r) d leads) (all r)
  stays start kept outer all d (Done answer) leads = absurd (cc)

  -- A call of the container that is no look, and goes on after its step, is a call of the container again.
  still_none : {R A : Type 0} (start : ContainerStart T) (kept : Registry T) (wrap : R → ContainerFlight T) (say : A → Answer T)
      → ((r : R) → Agree (starts.Container start) (flights.Container (wrap r)) kept) → (d : Flight T) (a : After R A)
      → as_call flights.Container (λ (answer : Answer T). answer) (as_call wrap say a) ≡ GoOn d → Agree (starts.Container start) d kept
  still_none start kept wrap say all d (GoOn r) leads =
      subst (λ f. Agree (starts.Container start) f kept) (same_flight (flights.Container (wrap r)) d leads) (all r)
  still_none start kept wrap say all d (Done answer) leads = absurd (cc)

  -- If a call goes on after its step, it is a call of the same family, and what the machine keeps is what
  -- that family keeps.
  pub agrees_then : (code : Coding T) (words : List ℕ) (beside : Option (ℕ × ℕ)) (p : ℕ) (start : Start T) (flight : Flight T) (old : ℕ)
      (kept : Registry T) (d : Flight T) → Agree start flight kept → after_of code flight old ≡ GoOn d
      → Agree start d (step_of code words beside p start flight old kept).kept
  agrees_then code words beside p (starts.Bits start) (flights.Bits flight) old registries.Nothing d agree e =
      stays (starts.Bits start) registries.Nothing flights.Bits (λ r. tt) d (bits_calls.after flight old) e
  agrees_then code words beside p (starts.Indices start) (flights.Indices flight) old (registries.Indices holders) d agree e =
      stays (starts.Indices start)
      (step_of code words beside p (starts.Indices start) (flights.Indices flight) old (registries.Indices holders)).kept
      flights.Indices (λ r. tt) d (index_calls.after flight old) e
  agrees_then code words beside p (starts.Robust start) (flights.Robust flight) old (registries.Owners dead) d agree e =
      stays (starts.Robust start)
      (step_of code words beside p (starts.Robust start) (flights.Robust flight) old (registries.Owners dead)).kept
      flights.Robust (λ r. tt) d (robust_calls.after flight old) e
  agrees_then code words beside p (starts.Container start) (flights.Container (containers.Add run)) old (registries.Container dead states) d agree e =
      still_none start (registries.Container dead states) containers.Add container_calls.added (λ r. tt) d
      (went_on as_it_is run.given run.room (add_after code.size run.call old)) e
  agrees_then code words beside p (starts.Container start) (flights.Container (containers.Remove run)) old (registries.Container dead states) d agree e =
      still_none start (registries.Container dead states) containers.Remove container_calls.removed (λ r. tt) d
      (went_on as_it_is run.given run.room (remove_after run.call run.given old)) e
  agrees_then code words beside p (starts.Container start) (flights.Container (containers.Replace run)) old (registries.Container dead states) d agree e =
      still_none start (registries.Container dead states) containers.Replace container_calls.replaced (λ r. tt) d
      (went_on as_it_is run.given run.room (replace_after code.size run.call run.given old)) e
  agrees_then code words beside p (starts.Container start) (flights.Container (containers.Find run)) old (registries.Container dead states) d agree e =
      still_none start (registries.Container dead states) containers.Find answers.Number (λ r. tt) d
      (went_on as_it_is run.given (find_kept kept_at run.call run.room old) (find_after code.size run.call run.given old)) e
  agrees_then code words beside p (starts.Container start) (flights.Container (containers.Recover run)) old (registries.Container dead states) d agree e =
      still_none start (registries.Container dead states) containers.Recover answers.State (λ r. tt) d
      (went_on as_it_is run.given (recover_kept kept_at run.call run.room old) (recover_after code.size run.call run.given old)) e
  agrees_then code words beside p (starts.Container start) (flights.Container (containers.Look which call)) old (registries.Container dead states) d agree e =
      absurd agree
  agrees_then code words beside p (starts.Container start) (flights.Container (containers.Count which run)) old (registries.Container dead states) d agree e =
      still_none start (registries.Container dead states) (λ r. containers.Count which r) (container_calls.counted which) (λ r. tt) d
      (went_on as_it_is run.given run.room (borrowed_after run.call old)) e
  agrees_then code words beside p (starts.Container start) (flights.Container (containers.IsLocked run)) old (registries.Container dead states) d agree e =
      still_none start (registries.Container dead states) containers.IsLocked answers.Truth (λ r. tt) d
      (went_on as_it_is run.given run.room (locked_after run.call old)) e
  agrees_then code words beside p start flight old kept d agree e = absurd agree

  -- the call stays one of the family as an owner dies
  pub agrees_still : (start : Start T) (flight : Flight T) (kept : Registry T) (owner : ℕ) → Agree start flight kept
      → Agree start flight (kept_after_death kept owner)
  agrees_still (starts.Bits start) (flights.Bits flight) registries.Nothing owner agree = tt
  agrees_still (starts.Indices start) (flights.Indices flight) (registries.Indices holders) owner agree = tt
  agrees_still (starts.Robust start) (flights.Robust flight) (registries.Owners dead) owner agree = tt
  agrees_still (starts.Container start) (flights.Container flight) (registries.Container dead states) owner agree = agree
  agrees_still start flight kept owner agree = absurd agree

  -- ---- and writes no end of a call but its own

  module _ (is_call : Start T → Bool) where
    -- A step of a call of the unique index set writes no end of a call.
    index_writes : (p : ℕ) (freed : Option ℕ) (outcome : Option (Answer T)) → flat_map (whole.answer_in is_call) (index_steps.effects p freed outcome) ≡ []
    index_writes p (Some index) outcome = refl
    index_writes p None (Some (answers.Index index)) = refl
    index_writes p None (Some (answers.State Locked)) = refl
    index_writes p None outcome = refl

    -- An event that ends no call, written or not, ends no call.
    if_writes : (b : Bool) (e : Event T) → whole.answer_in is_call e ≡ [] → flat_map (whole.answer_in is_call) (if b then e ∷ [] else []) ≡ []
    if_writes true e none = ap (λ (xs : List (Start T × Answer T)). xs ++ []) none
    if_writes false e none = refl

    -- An event that ends no call, left out or written, ends no call.
    unless_writes : (b : Bool) (e : Event T) → whole.answer_in is_call e ≡ [] → flat_map (whole.answer_in is_call) (if b then [] else e ∷ []) ≡ []
    unless_writes true e none = refl
    unless_writes false e none = ap (λ (xs : List (Start T × Answer T)). xs ++ []) none

    -- The clearing of bits ends no call.
    clears_none : (p : ℕ) (bits : List ℕ) → flat_map (whole.answer_in is_call) (map (λ bit. events.Cleared p bit) bits) ≡ []
    clears_none p [] = refl
    clears_none p (bit ∷ bits) = clears_none p bits

    -- a step of a call of a bit set writes the end of no call
    bit_writes : (p : ℕ) (flight : BitsFlight) (old : ℕ) → flat_map (whole.answer_in is_call) (bits_steps.effects_of {T = T} p flight old) ≡ []
    bit_writes p (bit_flights.Set run) old = set_writes run.call.stage
      where
        -- A step of a set of a bit writes no end of a call.
        set_writes : (stage : SetStage) → flat_map (whole.answer_in is_call) (bits_steps.set_events {T = T} p run.given stage old) ≡ []
        set_writes sets.LoadsElement = refl
        set_writes (sets.ExchangesElement found) = if_writes (old == found) (events.Set p run.given) refl
    bit_writes p (bit_flights.ResetNext run) old = reset_writes run.call.stage
      where
        -- no stage of a reset writes the answer of a call
        reset_writes : (stage : ResetNextStage) → flat_map (whole.answer_in is_call) (bits_steps.reset_events {T = T} p run.call.capacity stage old) ≡ []
        reset_writes (resets.ExchangesElement start passed found) =
            if_writes (old == found) (events.Cleared p (place_after run.call.capacity start passed)) refl
        reset_writes stage = refl
    bit_writes p (bit_flights.ResetAll run) old = clears_none p (places_in run.call.word old)
    bit_writes p (bit_flights.Count run) old = refl
    bit_writes p (bit_flights.IsSet run) old = refl
    bit_writes p (bit_flights.CountOf run) old = refl
    bit_writes p (bit_flights.TakeAll run) old = unless_writes (old == 0) (events.TakenOut p run.call.word old) refl

    -- An event that tells what a step did to a structure ends no call.
    effect_none : (turn : Turn T) (e : Event T) → IsEffectOf turn e → whole.answer_in is_call e ≡ []
    effect_none turn (Finished q start answer) effect = absurd effect
    effect_none turn e effect = refl

    -- What a step does to a structure is no end of a call.
    effects_none : (turn : Turn T) (es : List (Event T)) → AllByRecursion (IsEffectOf turn) es → flat_map (whole.answer_in is_call) es ≡ []
    effects_none turn [] all = refl
    effects_none turn (e ∷ es) all =
        ap (λ (xs : List (Start T × Answer T)). xs ++ flat_map (whole.answer_in is_call) es) (effect_none turn e all.0) ∙ effects_none turn es all.1

    -- A step of a call of the container writes no end of a call.
    pub container_writes : (code : Coding T) (p : ℕ) (flight : ContainerFlight T) (old : ℕ) (states : List (ℕ × ContainerState T))
        → flat_map (whole.answer_in is_call) (container_steps.effects code p (state_of p states) flight old ++ container_steps.questions p flight old) ≡ []
    container_writes code p flight old states =
        effects_none (Next p) (container_steps.effects code p (state_of p states) flight old ++ container_steps.questions p flight old)
        (container.all_effects (Next p) p refl code (state_of p states) flight old)

    -- A step of a call that agrees with what is kept writes the end of no call.
    pub writes_none : (code : Coding T) (words : List ℕ) (beside : Option (ℕ × ℕ)) (p : ℕ) (start : Start T) (flight : Flight T) (old : ℕ)
        (kept : Registry T) → Agree start flight kept
        → flat_map (whole.answer_in is_call) (step_of code words beside p start flight old kept).wrote ≡ []
    writes_none code words beside p (starts.Bits start) (flights.Bits flight) old registries.Nothing agree = bit_writes p flight old
    writes_none code words beside p (starts.Indices start) (flights.Indices flight) old (registries.Indices holders) agree =
        index_writes p (index_steps.frees flight) (answer_in (index_calls.after {T = T} flight old))
    writes_none code words beside p (starts.Robust start) (flights.Robust flight) old (registries.Owners dead) agree =
        effects_none (Next p) (robust_steps.effects p flight old) (robust.all_effects (Next p) p refl flight old)
    writes_none code words beside p (starts.Container start) (flights.Container flight) old (registries.Container dead states) agree =
        container_writes code p flight old states
    writes_none code words beside p start flight old kept agree = absurd agree
