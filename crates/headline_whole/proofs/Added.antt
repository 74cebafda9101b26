-- How an add to a container that is answered an index has it: it was granted the index in an earlier turn, and holds it since.
use Rattle.std.proofs.Common.{◌≡◌, ◌<◌, ◌⊎◌, inl, inr, ⊎_elim, ℕ, Bool, true, false, Option, Some, None, List, [], ◌∷◌, ◌++◌}
use Rattle.std.proofs.Common.{refl, sym, ap, subst, ◌∙◌, append_assoc}
use Rattle.std.proofs.lemmas.List.Concat.{flat_map-append}
use Rattle.std.proofs.lemmas.List.Sums.{fold-append}
use Rattle.std.specs.List.{AllByRecursion}
use Rattle.steps.specs.declared.container.add.AddStage.{AddStage}
use Rattle.steps.specs.declared.container.add.Owned.{Owned}
use Rattle.steps.specs.declared.container.state.ContainerState.{ContainerState}
use Rattle.steps.specs.declared.container.add.AddStage.TheVariants as adds
use Rattle.steps.specs.declared.indices.enums.ReleaseState.TheVariants as states
use Rattle.model.specs.declared.event.Answer.TheVariants.{Index, State}
use Rattle.model.specs.declared.event.Event.{Event}
use Rattle.model.specs.declared.event.Event.TheVariants.{Finished}
use Rattle.model.specs.declared.event.Start.{Start}
use Rattle.model.specs.declared.event.Start.TheVariants.{Robust, Container}
use Rattle.model.specs.declared.families.Flight.{Flight}
use Rattle.model.specs.declared.families.Flight.TheVariants as flights
use Rattle.model.specs.declared.families.Registry.{Registry}
use Rattle.model.specs.declared.families.Registry.TheVariants as registries
use Rattle.model.specs.declared.families.container.ContainerStart.TheVariants.{Add, Remove, Recover}
use Rattle.model.specs.declared.families.container.calls.ContainerFlight.TheVariants as calls
use Rattle.model.specs.declared.families.indices.robust.RobustStart.TheVariants.{Acquire}
use Rattle.model.specs.declared.party.Doing.{Doing}
use Rattle.model.specs.declared.party.Doing.TheVariants.{Going, Over}
use Rattle.model.specs.declared.party.Party.{Party}
use Rattle.model.specs.declared.turn.Kind.TheVariants as kinds
use Rattle.model.specs.declared.turn.Refusal.{Refusal}
use Rattle.model.specs.declared.turn.Refusal.TheVariants.{OwnerIsDead}
use Rattle.model.specs.declared.turn.Turn.TheVariants.{Next, Decide}
use Rattle.model.specs.Coding.{Coding}
use Rattle.model.specs.Families.{going_rows}
use Rattle.model.specs.Families.Container.Promises as container
use Rattle.model.specs.Families.Container.Reading.{Act, acts}
use Rattle.model.specs.Families.Indices.Robust.Dead.{has_died}
use Rattle.model.specs.Families.Indices.Robust.Promises.{IsWellFormed, HoldsRight}
use Rattle.model.specs.Families.Indices.Robust.Reading.{SetAct, Fills, Grants, set_act, set_acts, holder_after, holder_of, settled_after, settled_of}
use Rattle.model.specs.Parties.{party_of, doing_of, flight_of}
use Rattle.model.specs.Promises.{IsKeptBy}
use Rattle.model.specs.Promises.Families.{promise_of}
use Rattle.model.specs.Reading.{Each, span_of, Open}
use Rattle.model.specs.Refusals.{refusal_of}
use Rattle.model.specs.Rows.{first_row}
use Rattle.model.specs.Shape.{IsOpenFor}
use Rattle.model.specs.Turns.{IsReached, turn_of}
use Rattle.model.specs.World.{World, Trace, flight_in}
use Rattle.model.proofs.Frame as frame
use Rattle.model.proofs.Orders.{Keeps}
use Rattle.model.proofs.Readings.{Each-less}
use Rattle.model.proofs.Rows.{passes, next_passes, decision_passes}
use Rattle.laws_robust.proofs.Rights.{Settled, By}
use Rattle.laws_container.proofs.AllRuns.{shown}
use Rattle.laws_container.proofs.CallProgress.{AddAt}
use Rattle.laws_container.proofs.Invariant as there
use Rattle.laws_container.proofs.Knows.{AddOwns, AddKnows, View}
use Rattle.laws_container.proofs.Sound as sound
use Rattle.laws_container.proofs.Terms.{dying}
use Rattle.laws_container.proofs.Writers.{Adds}
use Rattle.headline.specs.Moments.{Follows}
use Rattle.headline_whole.proofs.Granted.{Ungranted, by_stage, granted_then, just, last_turn, quiet_of, IsMid}
use Rattle.headline_whole.proofs.OwnersAlone.{Ends, StillHeld, EndsRight, quiet_holder, quiet_settled}
use Rattle.headline_whole.proofs.Spans.{is_none, same_open, opened}
use Rattle.headline_whole.proofs.WrittenBy.{all_written, own_events}

-- what a first row that refuses nobody has found
not_refused : (b : Bool) (why : Refusal) → first_row ((b, why) ∷ []) ≡ None → b ≡ false
not_refused true why none = absurd (cc)
not_refused false why none = refl

-- a right of a party is not one of who may give an index back
by_settled : (p o : ℕ) → By p ≡ Settled o → ⊥
by_settled p o same = cc

same_grants : (i o j : ℕ) (all : List SetAct) → Fills j o ∷ Grants j o ∷ all ≡ Fills i o ∷ Grants i o ∷ [] → (j ≡ i) × (all ≡ [])
same_grants i o j all is = (cc, cc)

module _ {T : Type 0} where
  -- an add was granted nothing yet, or index j, which it owns
  abbrev Stands : ℕ → ℕ → List SetAct → View T → Type 0
  Stands c o all v = Ungranted o all ⊎ ((j : ℕ) × (all ≡ Fills j o ∷ Grants j o ∷ []) × AddOwns c o j v)

  by_add : (code : Coding T) (c : ℕ) (all : List SetAct) (done : List (Act T)) (value : T) (o : ℕ) (stage : AddStage) (v : View T)
      → AddAt c code.size all done o stage → AddKnows code c value o stage v → Stands c o all v
  by_add code c all done value o (adds.Acquires stage) v at knows = inl (by_stage c o all stage at.0)
  by_add code c all done value o (adds.LoadsCount j) v at knows = inr (j, at.0.1, knows)
  by_add code c all done value o (adds.Hides j count) v at knows = inr (j, at.0.1, knows.0)
  by_add code c all done value o (adds.Stores j word) v at knows = inr (j, at.0.1, knows.0)
  by_add code c all done value o (adds.AddsCount j) v at knows = inr (j, at.0.1, knows.0)
  by_add code c all done value o (adds.AddsChange j) v at knows = inr (j, at.1, knows.0)

  at_add : (code : Coding T) (c : ℕ) (all : List SetAct) (done : List (Act T)) (value : T) (o : ℕ) (flight : Flight T) (v : View T)
      → there.FlightAt c code.size all done (Container (Add value o)) flight → there.Knowing code c flight v → Stands c o all v
  at_add code c all done value o (flights.Container (calls.Add run)) v at knows =
      by_add code c all done run.given.value o run.call.stage v at.3
      (subst (λ n. AddKnows code c run.given.value n run.call.stage v) (ap (λ (given : Owned T). given.owner) at.1) knows)
  at_add code c all done value o (flights.Container flight) v at knows = absurd at
  at_add code c all done value o flight v at knows = absurd at

  -- an add that may go on is for an owner who lives
  alive : (code : Coding T) (c z : ℕ) (all : List SetAct) (done : List (Act T)) (value : T) (o : ℕ) (flight : Flight T) (kept : Registry T)
      (dead : List ℕ) (states : List (ℕ × ContainerState T)) (said : Option Bool) → kept ≡ registries.Container dead states
      → there.FlightAt c z all done (Container (Add value o)) flight → first_row (going_rows code kept (Some flight) said) ≡ None
      → has_died o dead ≡ false
  alive code c z all done value o (flights.Container (calls.Add run)) kept dead states said is at free =
      subst (λ n. has_died n dead ≡ false) (ap (λ (given : Owned T). given.owner) at.1)
      (not_refused (has_died run.given.owner dead) OwnerIsDead
      (subst (λ k. first_row (going_rows code k (Some (flights.Container (calls.Add run))) said) ≡ None) is free))
  alive code c z all done value o (flights.Container flight) kept dead states said is at free = absurd at
  alive code c z all done value o flight kept dead states said is at free = absurd at

  free_rows : (w : World T) (p : ℕ) (said : Option Bool) → refusal_of w (turn_of p said) ≡ None
      → first_row (going_rows w.coding w.kept (flight_in w p) said) ≡ None
  free_rows w p None allowed = next_passes w p (passes w (Next p) allowed).on
  free_rows w p (Some said) allowed = decision_passes w p said (passes w (Decide p said) allowed).on

  -- what an add under way has: nothing yet, or an index that its owner holds and that nobody may give back
  abbrev Has : ℕ → List SetAct → List (Event T) → Type 0
  Has o all events =
      Ungranted o all
      ⊎ ((j : ℕ) × (all ≡ Fills j o ∷ Grants j o ∷ []) × (IsWellFormed events → (holder_of j events ≡ Some o) × (settled_of j events ≡ None)))

  module _ (keeps : Keeps T kinds.Container) (t : Trace T) (is : t.world.kind ≡ kinds.Container) (r : IsReached t) where
    add_has : (old : Trace T) → old.world.kind ≡ kinds.Container → IsReached old → (p : ℕ) (said : Option Bool)
        → refusal_of old.world (turn_of p said) ≡ None → (value : T) (o : ℕ) (before : List (Event T))
        → span_of p old.events ≡ Open (Container (Add value o)) before → Has o (set_acts before) old.events
    add_has old kind reached p said allowed value o before span = by_party (party_of p old.world.latest) refl (s.inv.calls p) (s.inv.knows p)
      where
        c : ℕ
        c = old.world.capacity

        code : Coding T
        code = old.world.coding

        s : frame.Sound (there.family code c) old
        s = sound.reached_sound shown old kind reached

        wrote : List (Event T)
        wrote = there.wrote_of p s.state.events

        -- an add that owns its index
        owned : (j : ℕ) (v : View T) → v.terms ≡ dying → v.events ≡ old.events → v.party ≡ p → has_died o s.state.dead ≡ false → AddOwns c o j v
            → IsWellFormed old.events → (holder_of j old.events ≡ Some o) × (settled_of j old.events ≡ None)
        owned j v terms same party lives owns well =
            let adds : Adds p j o old.events =
            subst (λ n. Adds n j o old.events) party
            (subst (λ es. Adds v.party j o es) same
            (owns.owns (rw (terms, same) (well, tt)) (rw (terms, same) (sym (s.holds.good.died o) ∙ lives)))) in (
              adds.held,
              is_none (settled_of j old.events)
                  (λ x h. by_settled p x (sym adds.by.right ∙ ((s.holds.good.owned (well, tt)).settled j x h).1)),
            )

        by_doing : (x : Party T) → party_of p old.world.latest ≡ Some x → (doing : Doing T) → x.doing ≡ doing
            → frame.FitsDoing (there.family code c) s.state p x doing (span_of p old.events)
            → frame.KnowsDoing (there.family code c) s.state p old.events old.world.changes x.backs doing → Has o (set_acts before) old.events
        by_doing x found (Over others) same_doing fits knows = absurd (let e = sym fits.span ∙ span in cc)
        by_doing x found (Going flight since) same_doing fits knows =
            let same = same_open x.start (Container (Add value o)) wrote before (sym fits.span ∙ span) in
            let at = subst (λ start. there.FlightAt c code.size (set_acts wrote) (acts wrote) start flight) same.0 fits.at in
            let here : flight_in old.world p ≡ Some flight =
            ap (λ y. flight_of (doing_of y)) found ∙ ap (λ d. flight_of (Some d)) same_doing in
            let rows = subst (λ f. first_row (going_rows code old.world.kept f said) ≡ None) here (free_rows old.world p said allowed) in
            let lives =
            alive code c code.size (set_acts wrote) (acts wrote) value o flight old.world.kept s.state.dead
            s.state.states said s.fit.kept at rows in
            let v = there.view dying s.state.words s.state.states s.state.latest old.events p since old.world.changes x.backs in
            subst (λ es. Has o (set_acts es) old.events) same.1
            (⊎_elim (λ none. inl none) (λ one. inr (one.0, one.1, owned one.0 v refl refl refl lives one.2))
            (at_add code c (set_acts wrote) (acts wrote) value o flight v at knows))

        by_party : (x : Option (Party T)) → party_of p old.world.latest ≡ x
            → frame.Fits (there.family code c) s.state p x (span_of p old.events)
            → frame.KnowsParty (there.family code c) s.state p old.events old.world.changes x → Has o (set_acts before) old.events
        by_party None found fits knows = absurd (let e = sym fits ∙ span in cc)
        by_party (Some x) found fits knows = by_doing x found x.doing refl fits knows

    kept : IsKeptBy container.promise t
    kept = subst (λ k. IsKeptBy (promise_of k) t) is (keeps.kept t is r)

    locked_right : (before : List (Event T)) (p : ℕ) (start : Start T)
        → container.AnswersRight t.world.capacity before (Finished p start (State states.Locked))
        → IsOpenFor start (container.wrote t.world.capacity start (State states.Locked)) (span_of p before)
        → EndsRight t.world.capacity before (Finished p start (State states.Locked))
    locked_right before p (Container (Remove i o mode)) right stands = right
    locked_right before p (Container (Recover o mode)) right stands = right
    locked_right before p (Container start) right stands =
        absurd (opened (Container start) (container.wrote t.world.capacity (Container start) (State states.Locked)) (span_of p before) stands).2
    locked_right before p start right stands =
        absurd (opened start (container.wrote t.world.capacity start (State states.Locked)) (span_of p before) stands).2

    -- an index that an add has since an earlier turn it has as it ends
    since : (p i j o : ℕ) (before old v first : List (Event T)) → before ≡ old ++ first → AllByRecursion (IsMid p) first
        → set_acts (v ++ first) ≡ Fills i o ∷ Grants i o ∷ [] → set_acts v ≡ Fills j o ∷ Grants j o ∷ []
        → (holder_of j old ≡ Some o) × (settled_of j old ≡ None) → Ends before i o
    since p i j o before old v first is mid all granted held =
        let both : Fills j o ∷ Grants j o ∷ set_acts first ≡ Fills i o ∷ Grants i o ∷ [] =
        subst (λ a. a ++ set_acts first ≡ Fills i o ∷ Grants i o ∷ []) granted (sym (flat_map-append set_act v first) ∙ all) in
        let same = same_grants i o j (set_acts first) both in
        let quiet = quiet_of p first mid same.1 in
        StillHeld
        (subst (λ es. holder_of i es ≡ Some o) (sym is)
        (fold-append (holder_after i) None old first
        ∙ (quiet_holder i first (holder_of i old) quiet ∙ subst (λ n. holder_of n old ≡ Some o) same.0 held.0)))
        (subst (λ es. settled_of i es ≡ None) (sym is)
        (fold-append (settled_after i) None old first
        ∙ (quiet_settled i first (settled_of i old) quiet ∙ subst (λ n. settled_of n old ≡ None) same.0 held.1)))

    -- the indices of a container are held right, however its replaces overlap
    pub holds_right : IsWellFormed t.events → Each HoldsRight t.events
    holds_right well = (sound.reached_sound shown t is r).holds.good.holds (well, tt)

    -- what calls that end say, in a well-formed run
    pub container_ends : IsWellFormed t.events
        → ((p i o : ℕ) (value : T) (before : List (Event T)) → Follows (Finished p (Container (Add value o)) (Index i)) before t.events
        → i < t.world.capacity)
        → Each (EndsRight t.world.capacity) t.events
    container_ends well within before after e split = go e split
      where
        go : (e : Event T) → t.events ≡ before ++ e ∷ after → EndsRight t.world.capacity before e
        go (Finished p (Container (Add value o)) (Index i)) split =
            let e : Event T = Finished p (Container (Add value o)) (Index i) in
            let at = opened (Container (Add value o)) (container.wrote t.world.capacity (Container (Add value o)) (Index i)) (span_of p before)
            (kept.spans before after e split) in
            let x = all_written t r before after e split in
            let l = last_turn t before p (Container (Add value o)) (Index i) at.0 x
            (own_events kinds.Container keeps (λ old ask mine e h. h) t.world is before e x) at.1 in
            let y = l.turn in
            let all = subst (λ es. set_acts es ≡ Fills i o ∷ Grants i o ∷ []) l.wrote at.2 in
            let whole : t.events ≡ y.old.events ++ (y.first ++ e ∷ after) =
            split ∙ (ap (λ es. es ++ e ∷ after) y.before_is ∙ append_assoc y.old.events y.first (e ∷ after)) in
            let calm : IsWellFormed y.old.events = Each-less _ y.old.events (y.first ++ e ∷ after) (subst IsWellFormed whole well) in
            let has = add_has y.old (y.made.kind ∙ is) y.reached p l.said (subst (λ turn. refusal_of y.old.world turn ≡ None) l.goes y.allowed) value o
            l.earlier l.span in (
              within p i o value before (after, split),
              ⊎_elim (λ none. just before y.old.events y.first i o y.before_is (granted_then i o p l.earlier y.first none l.mid all))
                  (λ one. since p i one.0 o before y.old.events l.earlier y.first y.before_is l.mid all one.1 (one.2 calm)) has,
            )
        go (Finished p (Robust (Acquire o)) (Index i)) split =
            absurd
            (opened (Robust (Acquire o)) (container.wrote t.world.capacity (Robust (Acquire o)) (Index i)) (span_of p before)
            (kept.spans before after (Finished p (Robust (Acquire o)) (Index i)) split)).2
        go (Finished p start (State states.Locked)) split =
            let e : Event T = Finished p start (State states.Locked) in
            locked_right before p start (kept.promised.answers before after e split) (kept.spans before after e split)
        go e split = tt
