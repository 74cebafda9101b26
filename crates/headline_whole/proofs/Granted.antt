-- How an acquire of a robust set, or an add to a container, that is answered an index has it.
use Rattle.std.proofs.Common.{◌≡◌, ◌<◌, ◌⊎◌, inl, inr, ⊎_elim, ℕ, Bool, Option, Some, None, List, [], ◌∷◌, ◌++◌}
use Rattle.std.proofs.Common.{fold, refl, sym, ap, subst, ◌∙◌, append_assoc, append-nil}
use Rattle.std.proofs.lemmas.List.Concat.{flat_map-append}
use Rattle.std.specs.List.{AllByRecursion}
use Rattle.steps.specs.declared.indices.enums.ReleaseState.TheVariants as states
use Rattle.steps.specs.declared.indices.robust.acquire.AcquireStage.{AcquireStage}
use Rattle.steps.specs.declared.indices.robust.acquire.AcquireStage.TheVariants as acquires
use Rattle.model.specs.declared.event.Answer.{Answer}
use Rattle.model.specs.declared.event.Answer.TheVariants.{Index, State}
use Rattle.model.specs.declared.event.Event.{Event}
use Rattle.model.specs.declared.event.Event.TheVariants.{Begun, Filled, Granted, FreedOf, Asked, Told, Locked, Died, Acted, Finished}
use Rattle.model.specs.declared.event.Start.{Start}
use Rattle.model.specs.declared.event.Start.TheVariants.{Robust, Container}
use Rattle.model.specs.declared.families.Flight.{Flight}
use Rattle.model.specs.declared.families.Flight.TheVariants as flights
use Rattle.model.specs.declared.families.container.ContainerStart.TheVariants.{Add}
use Rattle.model.specs.declared.families.indices.robust.RobustStart.TheVariants.{Acquire, Release, Recover}
use Rattle.model.specs.declared.families.indices.robust.calls.RobustFlight.TheVariants as calls
use Rattle.model.specs.declared.party.Doing.{Doing}
use Rattle.model.specs.declared.party.Doing.TheVariants.{Going, Over}
use Rattle.model.specs.declared.party.Party.{Party}
use Rattle.model.specs.declared.turn.Kind.TheVariants as kinds
use Rattle.model.specs.Families.Indices.Robust.Promises as robust
use Rattle.model.specs.Families.Indices.Robust.Reading.{SetAct, Fills, Grants, set_act, set_acts}
use Rattle.model.specs.Parties.{party_of}
use Rattle.model.specs.Promises.{IsKeptBy}
use Rattle.model.specs.Promises.Families.{promise_of}
use Rattle.model.specs.Reading.{Each, Span, Open, own_after, span_of}
use Rattle.model.specs.Shape.{IsOpenFor}
use Rattle.model.specs.Turns.{IsReached, events_of, turn_of}
use Rattle.model.specs.World.{Trace}
use Rattle.model.proofs.Frame as frame
use Rattle.model.proofs.Orders.{Keeps}
use Rattle.model.proofs.Readings.{AreOwn, no_more, span_of-own}
use Rattle.laws_robust.proofs.CallProgress.{AcquireAt}
use Rattle.laws_robust.proofs.Invariant as set
use Rattle.laws_robust.proofs.Sound as sets
use Rattle.headline.specs.Moments.{Follows}
use Rattle.headline_whole.proofs.OwnersAlone.{Quiet, Ends, JustGranted, EndsRight}
use Rattle.headline_whole.proofs.Spans.{same_some, same_open, opened, never_open, longer_open}
use Rattle.headline_whole.proofs.WrittenBy.{IsOwn, IsWritten, Writes, Opens, Dies, GoesOn, its, alone, all_first, all_last, all_written, own_events}

-- what a call may have done to the set before it was granted an index
abbrev pub Ungranted : ℕ → List SetAct → Type 0
Ungranted o all = (all ≡ []) ⊎ ((j : ℕ) × (all ≡ Fills j o ∷ []))

same_grant : (i o j u : ℕ) (all : List SetAct) → Grants j u ∷ all ≡ Grants i o ∷ [] → (j ≡ i) × (u ≡ o) × (all ≡ [])
same_grant i o j u all is = (cc, cc, cc)

-- an acquire at its stage was granted nothing
pub by_stage : (c o : ℕ) (all : List SetAct) (stage : AcquireStage) → AcquireAt c o all stage → Ungranted o all
by_stage c o all acquires.LoadsCounter at = inl at
by_stage c o all (acquires.FillsCell counter index) at = inl at.1
by_stage c o all (acquires.ChecksCounter counter) at = inl at
by_stage c o all (acquires.Raises index raise) at = inr (index, at.1)

module _ {T : Type 0} where
  -- ---- what a call has written before its last turn, and in it

  -- an event with which a call of the party goes on
  abbrev pub IsMid : ℕ → Event T → Type 0
  IsMid p (Finished q start answer) = ⊥
  IsMid p e = IsOwn p e

  one_before : (p : ℕ) (e : Event T) (span : Span T) (start : Start T) (w : List (Event T)) → IsOwn p e → own_after span e ≡ Open start w
      → (v : List (Event T)) × (span ≡ Open start v) × (w ≡ v ++ e ∷ []) × IsMid p e
  one_before p (Begun q s) span start w own is = absurd own
  one_before p (Acted q s a) span start w own is = absurd own
  one_before p (Died o) span start w own is = absurd own
  one_before p (Finished q s answer) span start w own is = absurd (never_open span answer start w is)
  one_before p e span start w own is = let l = longer_open span e start w is in (l.0, l.1, l.2, own)

  -- a call that is under way after events of its own was so before them
  all_before : (p : ℕ) (es : List (Event T)) (span : Span T) (start : Start T) (w : List (Event T)) → AllByRecursion (IsOwn p) es
      → fold own_after span es ≡ Open start w
      → (v : List (Event T)) × (span ≡ Open start v) × (w ≡ v ++ es) × AllByRecursion (IsMid p) es
  all_before p [] span start w own is = (w, is, sym (append-nil w), tt)
  all_before p (e ∷ es) span start w own is =
      let rest = all_before p es (own_after span e) start w own.1 is in
      let here = one_before p e span start rest.0 own.0 rest.1 in
      (here.0, here.1, rest.2 ∙ (ap (λ v. v ++ es) here.2 ∙ append_assoc here.0 (e ∷ []) es), (here.3, rest.3))

  are_own : (p : ℕ) (es : List (Event T)) → AllByRecursion (IsOwn p) es → AreOwn p es
  are_own p [] own = tt
  are_own p (e ∷ es) own = (its p e own.0, are_own p es own.1)

  -- ---- the grant among the events of a turn

  pub quiet_of : (p : ℕ) (es : List (Event T)) → AllByRecursion (IsMid p) es → set_acts es ≡ [] → AllByRecursion Quiet es
  quiet_of p [] mid none = tt
  quiet_of p (Begun q s ∷ es) mid none = absurd mid.0
  quiet_of p (Finished q s a ∷ es) mid none = absurd mid.0
  quiet_of p (Filled q j o ∷ es) mid none = absurd (cc)
  quiet_of p (Granted q j o ∷ es) mid none = absurd (cc)
  quiet_of p (FreedOf q j o ∷ es) mid none = absurd (cc)
  quiet_of p (Asked q j o ∷ es) mid none = absurd (cc)
  quiet_of p (Told q j o ∷ es) mid none = absurd (cc)
  quiet_of p (Locked q ∷ es) mid none = absurd (cc)
  quiet_of p (e ∷ es) mid none = (tt, quiet_of p es mid.1 none)

  -- the index is granted to the owner, and then neither granted nor freed
  pub record Grant (i o : ℕ) (es : List (Event T)) : Type 0 where
    pub part : List (Event T)
    pub since : List (Event T)
    pub party : ℕ
    pub is : es ≡ part ++ Granted party i o ∷ since
    pub quiet : AllByRecursion Quiet since

  later : (i o : ℕ) (e : Event T) (es : List (Event T)) → Grant i o es → Grant i o (e ∷ es)
  later i o e es g = record { part = e ∷ g.part; since = g.since; party = g.party; is = ap (λ xs. e ∷ xs) g.is; quiet = g.quiet }

  -- who is granted an index as the last thing that it does to the set is granted it so
  grant_in : (i o p : ℕ) (es : List (Event T)) (xs : List SetAct) → AllByRecursion (IsMid p) es → set_acts es ≡ xs ++ Grants i o ∷ [] → Grant i o es
  grant_in i o p [] xs mid is = absurd (no_more xs (Grants i o) [] is)
  grant_in i o p (Granted q j u ∷ es) [] mid is =
      let same = same_grant i o j u (set_acts es) is in
      record { part = []; since = es; party = q; is = rw (same.0, same.1) refl; quiet = quiet_of p es mid.1 same.2 }
  grant_in i o p (Filled q j u ∷ es) [] mid is = absurd (cc)
  grant_in i o p (FreedOf q j u ∷ es) [] mid is = absurd (cc)
  grant_in i o p (Asked q j u ∷ es) [] mid is = absurd (cc)
  grant_in i o p (Told q j u ∷ es) [] mid is = absurd (cc)
  grant_in i o p (Locked q ∷ es) [] mid is = absurd (cc)
  grant_in i o p (Granted q j u ∷ es) (x ∷ xs) mid is = later i o (Granted q j u) es (grant_in i o p es xs mid.1 (cc))
  grant_in i o p (Filled q j u ∷ es) (x ∷ xs) mid is = later i o (Filled q j u) es (grant_in i o p es xs mid.1 (cc))
  grant_in i o p (FreedOf q j u ∷ es) (x ∷ xs) mid is = later i o (FreedOf q j u) es (grant_in i o p es xs mid.1 (cc))
  grant_in i o p (Asked q j u ∷ es) (x ∷ xs) mid is = later i o (Asked q j u) es (grant_in i o p es xs mid.1 (cc))
  grant_in i o p (Told q j u ∷ es) (x ∷ xs) mid is = later i o (Told q j u) es (grant_in i o p es xs mid.1 (cc))
  grant_in i o p (Locked q ∷ es) (x ∷ xs) mid is = later i o (Locked q) es (grant_in i o p es xs mid.1 (cc))
  grant_in i o p (e ∷ es) xs mid is = later i o e es (grant_in i o p es xs mid.1 is)

  pub granted_then : (i o p : ℕ) (v es : List (Event T)) → Ungranted o (set_acts v) → AllByRecursion (IsMid p) es
      → set_acts (v ++ es) ≡ Fills i o ∷ Grants i o ∷ [] → Grant i o es
  granted_then i o p v es before mid is = ⊎_elim none filled before
    where
      both : set_acts v ++ set_acts es ≡ Fills i o ∷ Grants i o ∷ []
      both = sym (flat_map-append set_act v es) ∙ is

      none : set_acts v ≡ [] → Grant i o es
      none empty = grant_in i o p es (Fills i o ∷ []) mid (subst (λ all. all ++ set_acts es ≡ Fills i o ∷ Grants i o ∷ []) empty both)

      filled : (j : ℕ) × (set_acts v ≡ Fills j o ∷ []) → Grant i o es
      filled one =
          let all : Fills one.0 o ∷ set_acts es ≡ Fills i o ∷ Grants i o ∷ [] =
          subst (λ all. all ++ set_acts es ≡ Fills i o ∷ Grants i o ∷ []) one.1 both in
          grant_in i o p es [] mid (cc)

  -- ---- the last turn of a call

  -- the turn in which a call has ended: what the call had written before it, and what the turn has written before the end
  pub record LastTurn (t : Trace T) (before : List (Event T)) (p : ℕ) (start : Start T) (answer : Answer T) (w : List (Event T)) : Type 0 where
    pub turn : IsWritten t.world before (Finished p start answer)
    pub said : Option Bool
    pub goes : turn.turn ≡ turn_of p said
    pub earlier : List (Event T)
    pub span : span_of p turn.old.events ≡ Open start earlier
    pub wrote : w ≡ earlier ++ turn.first
    pub mid : AllByRecursion (IsMid p) turn.first

  pub last_turn : (t : Trace T) (before : List (Event T)) (p : ℕ) (start : Start T) (answer : Answer T) (w : List (Event T))
      → (x : IsWritten t.world before (Finished p start answer)) → Writes x.turn (events_of x.old.world x.turn) → span_of p before ≡ Open start w
      → LastTurn t before p start answer w
  last_turn t before p start answer w x (Opens q s writes) span =
      absurd (let e = alone (Begun q s) x.first (Finished p start answer) x.last (sym writes ∙ x.wrote) in cc)
  last_turn t before p start answer w x (Dies owner writes) span =
      absurd (let e = alone (Died owner) x.first (Finished p start answer) x.last (sym writes ∙ x.wrote) in cc)
  last_turn t before p start answer w x (GoesOn q said goes all) span =
      let all = subst (AllByRecursion (IsOwn q)) x.wrote all in
      let end = all_last (IsOwn q) x.first (Finished p start answer ∷ x.last) all in
      let own =
      subst (λ n. AllByRecursion (IsOwn n) x.first) (sym (same_some p q end.0))
      (all_first (IsOwn q) x.first (Finished p start answer ∷ x.last) all) in
      let now : fold own_after (span_of p x.old.events) x.first ≡ Open start w =
      sym (span_of-own p x.old.events x.first (are_own p x.first own)) ∙ (ap (span_of p) (sym x.before_is) ∙ span) in
      let l = all_before p x.first (span_of p x.old.events) start w own now in
      record { turn = x; said = said; goes = goes ∙ ap (λ n. turn_of n said) (sym (same_some p q end.0)); earlier = l.0; span = l.1; wrote = l.2; mid = l.3 }

  -- a grant in the last turn is a grant just before the end
  pub just : (before old first : List (Event T)) (i o : ℕ) → before ≡ old ++ first → Grant i o first → Ends before i o
  just before old first i o is g =
      JustGranted (old ++ g.part) g.since g.party
      (is ∙ (ap (λ es. old ++ es) g.is ∙ sym (append_assoc old g.part (Granted g.party i o ∷ g.since)))) g.quiet

  -- ---- an acquire of a robust set

  at_acquire : (c o : ℕ) (all : List SetAct) (flight : Flight T) → set.FlightAt c all (Robust (Acquire o)) flight → Ungranted o all
  at_acquire c o all (flights.Robust (calls.Acquire run)) at = by_stage c o all run.call.stage at.3
  at_acquire c o all (flights.Robust flight) at = absurd at
  at_acquire c o all flight at = absurd at

  module _ (keeps : Keeps T kinds.Robust) (t : Trace T) (is : t.world.kind ≡ kinds.Robust) (r : IsReached t) where
    -- where an acquire is under way it was granted nothing
    ungranted : (old : Trace T) → old.world.kind ≡ kinds.Robust → IsReached old → (p o : ℕ) (v : List (Event T))
        → span_of p old.events ≡ Open (Robust (Acquire o)) v → Ungranted o (set_acts v)
    ungranted old kind reached p o v span = by_party (party_of p old.world.latest) (s.inv.calls p)
      where
        c : ℕ
        c = old.world.capacity

        s : frame.Sound (set.family old.world.coding c) old
        s = sets.reached_sound old kind reached

        by_doing : (x : Party T) (doing : Doing T) → frame.FitsDoing (set.family old.world.coding c) s.state p x doing (span_of p old.events)
            → Ungranted o (set_acts v)
        by_doing x (Over others) fits = absurd (let e = sym fits.span ∙ span in cc)
        by_doing x (Going flight since) fits =
            let same = same_open x.start (Robust (Acquire o)) (set.wrote_of p s.state.events) v (sym fits.span ∙ span) in
            subst (λ es. Ungranted o (set_acts es)) same.1
            (at_acquire c o (set_acts (set.wrote_of p s.state.events)) flight
            (subst (λ start. set.FlightAt c (set_acts (set.wrote_of p s.state.events)) start flight) same.0 fits.at))

        by_party : (x : Option (Party T)) → frame.Fits (set.family old.world.coding c) s.state p x (span_of p old.events) → Ungranted o (set_acts v)
        by_party None fits = absurd (let e = sym fits ∙ span in cc)
        by_party (Some x) fits = by_doing x x.doing fits

    kept : IsKeptBy robust.promise t
    kept = subst (λ k. IsKeptBy (promise_of k) t) is (keeps.kept t is r)

    locked_right : (before : List (Event T)) (p : ℕ) (start : Start T)
        → robust.AnswersRight t.world.capacity before (Finished p start (State states.Locked))
        → IsOpenFor start (robust.wrote t.world.capacity start (State states.Locked)) (span_of p before)
        → EndsRight t.world.capacity before (Finished p start (State states.Locked))
    locked_right before p (Robust (Release i o mode)) right stands = right
    locked_right before p (Robust (Recover mode)) right stands = right
    locked_right before p (Robust start) right stands =
        absurd (opened (Robust start) (robust.wrote t.world.capacity (Robust start) (State states.Locked)) (span_of p before) stands).2
    locked_right before p start right stands =
        absurd (opened start (robust.wrote t.world.capacity start (State states.Locked)) (span_of p before) stands).2

    -- what calls that end say
    pub robust_ends : ((p i o : ℕ) (before : List (Event T)) → Follows (Finished p (Robust (Acquire o)) (Index i)) before t.events → i < t.world.capacity)
        → Each (EndsRight t.world.capacity) t.events
    robust_ends within before after e split = go e split
      where
        go : (e : Event T) → t.events ≡ before ++ e ∷ after → EndsRight t.world.capacity before e
        go (Finished p (Robust (Acquire o)) (Index i)) split =
            let e : Event T = Finished p (Robust (Acquire o)) (Index i) in
            let at = opened (Robust (Acquire o)) (robust.wrote t.world.capacity (Robust (Acquire o)) (Index i)) (span_of p before)
            (kept.spans before after e split) in
            let x = all_written t r before after e split in
            let l = last_turn t before p (Robust (Acquire o)) (Index i) at.0 x
            (own_events kinds.Robust keeps (λ old ask mine e h. h) t.world is before e x) at.1 in
            let y = l.turn in
            let none = ungranted y.old (y.made.kind ∙ is) y.reached p o l.earlier l.span in (
              within p i o before (after, split),
              just before y.old.events y.first i o y.before_is
                  (granted_then i o p l.earlier y.first none l.mid (subst (λ es. set_acts es ≡ Fills i o ∷ Grants i o ∷ []) l.wrote at.2)),
            )
        go (Finished p (Container (Add value o)) (Index i)) split =
            absurd
            (opened (Container (Add value o)) (robust.wrote t.world.capacity (Container (Add value o)) (Index i)) (span_of p before)
            (kept.spans before after (Finished p (Container (Add value o)) (Index i)) split)).2
        go (Finished p start (State states.Locked)) split =
            let e : Event T = Finished p start (State states.Locked) in
            locked_right before p start (kept.promised.answers before after e split) (kept.spans before after e split)
        go e split = tt
