-- In a faithful history each call that adds, removes or replaces is for an owner who is not gone, until it ends; so no turn of
-- its run is a step for one who is.
use Rattle.std.proofs.Common.{◌≡◌, ◌⊎◌, ⊎_elim, inl, inr, ℕ, ◌==◌, ◌||◌, Bool, true, false, Option, Some, None, List, [], ◌∷◌, ◌++◌}
use Rattle.std.proofs.Common.{refl, sym, ap, subst, ◌∙◌, append_assoc, append-nil, arith, eq-eqb, if◌then◌else◌, true≢false}
use Rattle.std.proofs.lemmas.List.Sums.{fold-append}
use Rattle.model.specs.declared.event.Event.{Event}
use Rattle.model.specs.declared.event.Event.TheVariants.{Begun, Told, Died, Finished}
use Rattle.model.specs.declared.event.Start.{Start}
use Rattle.model.specs.declared.event.Start.TheVariants.{Container}
use Rattle.model.specs.declared.families.Flight.{Flight}
use Rattle.model.specs.declared.families.Flight.TheVariants as flights
use Rattle.model.specs.declared.families.container.ContainerStart.{ContainerStart}
use Rattle.model.specs.declared.families.container.ContainerStart.TheVariants as starts
use Rattle.model.specs.declared.families.container.ContainerStart.TheVariants.{Recover}
use Rattle.model.specs.declared.families.container.calls.ContainerFlight.{ContainerFlight}
use Rattle.model.specs.declared.families.container.calls.ContainerFlight.TheVariants as calls
use Rattle.model.specs.declared.party.Doing.{Doing}
use Rattle.model.specs.declared.party.Doing.TheVariants.{Going, Over}
use Rattle.model.specs.declared.party.Party.{Party}
use Rattle.model.specs.declared.turn.Turn.{Turn}
use Rattle.model.specs.declared.turn.Turn.TheVariants.{Begin, Next, Decide, Die}
use Rattle.model.specs.Coding.{Coding}
use Rattle.model.specs.Families.Container.Reading.{Act, acts_of}
use Rattle.model.specs.Families.Indices.Robust.Reading.{SetAct, set_acts_of}
use Rattle.model.specs.Parties.{party_of, doing_of, flight_of}
use Rattle.model.specs.Reading.{Each, Span, Never, Open, Ended, longer, ended, own_after, span_after, span_of, is_party, whose}
use Rattle.model.specs.World.{Trace}
use Rattle.model.proofs.Scenes.{stands_there}
use Rattle.laws_robust.specs.Gone.{Death, Word, gone_after, is_gone}
use Rattle.lemmas_owners.proofs.Alive.{AllLive}
use Rattle.laws_robust.proofs.Gone.{gone_less}
use Rattle.laws_container.specs.Gone.{AsksBy, acts_for_gone}
use Rattle.laws_container.specs.Open.{is_for_gone, steps_for_gone}
use Rattle.laws_container.proofs.Invariant.{family_by, FlightAt}
use Rattle.laws_container.proofs.CallProgress.{At}
use Rattle.history_laws.specs.Containers.{is_for, is_acting, BeginsRight, IsFaithful}
use Rattle.lock_free_owners.proofs.Worn.ContainerWorn.{Sound, terms}
use Rattle.laws_robust.proofs.Counter.{tested}
use Rattle.lemmas.proofs.Cases.{on_bool}

-- an owner other than `o` is not `o`
differs : (o owner : ℕ) → (o ≡ owner → ⊥) → ((o == owner) || false) ≡ false
differs o owner ne = on_bool (λ b. (b || false) ≡ false) (o == owner) (λ e. absurd (ne (tested o owner e))) (λ e. refl)

module _ {T : Type 0} where
  -- no call that adds, removes or replaces is under way for an owner who is gone
  abbrev pub Living : List (Event T) → Type 0
  Living events = (q owner : ℕ) → is_acting owner (span_of q events) ≡ true → is_gone Word owner events ≡ false

  -- ---- one event

  -- the event begins a call that adds, removes or replaces for this owner
  abbrev BeginsFor : ℕ → Event T → Type 0
  BeginsFor owner (Begun p start) = is_for owner start ≡ true
  BeginsFor owner e = ⊥

  -- an event within a call leaves for whom the call is
  longer_acts : (owner : ℕ) (span : Span T) (e : Event T) → is_acting owner (longer span e) ≡ is_acting owner span
  longer_acts owner Never e = refl
  longer_acts owner (Open start wrote) e = refl
  longer_acts owner (Ended start answer wrote) e = refl

  -- a call that has ended is for nobody
  ended_acts : (owner : ℕ) (span : Span T) (answer : _) → is_acting owner (ended span answer) ≡ false
  ended_acts owner Never answer = refl
  ended_acts owner (Open start wrote) answer = refl
  ended_acts owner (Ended start first wrote) answer = refl

  -- if a party's call is for this owner after its own event, it was before, or the event began it
  own_acts : (owner : ℕ) (span : Span T) (e : Event T) → is_acting owner (own_after span e) ≡ true → (is_acting owner span ≡ true) ⊎ BeginsFor owner e
  own_acts owner span (Begun p start) acts = inr acts
  own_acts owner span (Finished p start answer) acts = absurd (true≢false (sym acts ∙ ended_acts owner span answer))
  own_acts owner span e acts = inl (sym (longer_acts owner span e) ∙ acts)

  -- if a party's call is for this owner after any event, it was before, or the event began it
  by_test : (owner : ℕ) (b : Bool) (span : Span T) (e : Event T) → is_acting owner (if b then own_after span e else span) ≡ true
      → (is_acting owner span ≡ true) ⊎ BeginsFor owner e
  by_test owner true span e acts = own_acts owner span e acts
  by_test owner false span e acts = inl acts

  -- one event more makes of a party's span what `span_after` says
  span_then : (q : ℕ) (events : List (Event T)) (e : Event T) → span_of q (events ++ e ∷ []) ≡ span_after q (span_of q events) e
  span_then q events e = fold-append (span_after q) Never events (e ∷ [])

  -- whether an owner is gone after one event more
  gone_then : (owner : ℕ) (events : List (Event T)) (e : Event T) → is_gone Word owner (events ++ e ∷ []) ≡ gone_after owner (is_gone Word owner events) e
  gone_then owner events e = fold-append (gone_after owner) false events (e ∷ [])

  -- an owner for whom a call begins is not gone after that event
  begins_alive : (owner : ℕ) (gone : Bool) (events : List (Event T)) (e : Event T) → BeginsFor owner e → BeginsRight events e
      → is_gone Word owner events ≡ gone → gone_after owner gone e ≡ false
  begins_alive owner gone events (Begun p (Container (Recover o mode))) begins right is = absurd (true≢false (sym begins))
  begins_alive owner gone events (Begun p start) begins right is = sym is ∙ right owner begins
  begins_alive owner gone events e begins right is = absurd begins

  -- an owner for whom a call is under way is not gone after one event more
  acts_alive : (q owner : ℕ) (events : List (Event T)) (e : Event T) → is_acting owner (span_of q events) ≡ true → is_gone Word owner events ≡ false
      → BeginsRight events e → AsksBy Word events e → AllLive (events ++ e ∷ []) → gone_after owner false e ≡ false
  acts_alive q owner events (Begun p (Container (Recover o mode))) acts lives right asks all =
      differs o owner (λ same. true≢false (sym (subst (λ i. is_acting i (span_of q events) ≡ true) (sym same) acts) ∙ right q))
  acts_alive q owner events (Told p index o) acts lives right asks all =
      differs o owner (λ same. true≢false (sym (subst (λ i. is_gone Word i events ≡ true) same asks) ∙ lives))
  acts_alive q owner events (Died o) acts lives right asks all =
      absurd (true≢false (sym (dies o events) ∙ all o))
    where
      -- an owner who has died is gone, as `Death` has it
      dies : (o : ℕ) (events : List (Event T)) → is_gone Death o (events ++ Died o ∷ []) ≡ true
      dies o events = grind (arith, fold-append, eq-eqb)
  acts_alive q owner events e acts lives right asks all = refl

  -- where nobody acts for an owner who is gone, nobody does after one more event either, if it
  -- begins calls and asks rightly, and no owner has died
  one : (events : List (Event T)) (e : Event T) → BeginsRight events e → AsksBy Word events e → AllLive (events ++ e ∷ []) → Living events
      → Living (events ++ e ∷ [])
  one events e right asks all living q owner acts =
      ⊎_elim
      (λ was. gone_then owner events e
      ∙ (ap (λ gone. gone_after owner gone e) (living q owner was)
      ∙ acts_alive q owner events e was (living q owner was) right asks all))
      (λ begins. gone_then owner events e ∙ begins_alive owner (is_gone Word owner events) events e begins right refl)
      (by_test owner (is_party q (whose e)) (span_of q events) e (sym (ap (is_acting owner) (span_then q events e)) ∙ acts))

  -- ---- all events

  -- nobody had died before, if nobody has died
  all_less : (events es : List (Event T)) → AllLive (events ++ es) → AllLive events
  all_less events es all owner = gone_less Death owner events es (all owner)

  -- where nobody acts for an owner who is gone, nobody does after more events either, if all begin
  -- calls and ask rightly, and no owner has died
  living_on : (events es : List (Event T)) → Each BeginsRight (events ++ es) → Each (AsksBy Word) (events ++ es) → AllLive (events ++ es)
      → Living events → Living (events ++ es)
  living_on events [] right asks all living = subst Living (sym (append-nil events)) living
  living_on events (e ∷ es) right asks all living =
      let is : (events ++ e ∷ []) ++ es ≡ events ++ e ∷ es = append_assoc events (e ∷ []) es in
      let all_then = subst AllLive (sym is) all in
      let next = one events e (right events es e refl) (asks events es e refl) (all_less (events ++ e ∷ []) es all_then) living in
      subst Living is
      (living_on (events ++ e ∷ []) es (subst (Each BeginsRight) (sym is) right) (subst (Each (AsksBy Word)) (sym is) asks) all_then next)

  -- in a faithful history no call is under way for an owner who is gone
  pub living : (events : List (Event T)) → IsFaithful events → Each (AsksBy Word) events → AllLive events → Living events
  living events faithful asks all = living_on [] events faithful asks all (λ q owner acts. absurd (true≢false (sym acts)))

  -- ---- for whom a call under way is

  module _ (code : Coding T) (c z : ℕ) (all : List SetAct) (done : List (Act T)) (events wrote : List (Event T)) where
    -- a call that is for an owner who is not gone is none for one who is gone
    for_living : (start : ContainerStart T) (flight : ContainerFlight T) → At c z all done start flight
        → ((owner : ℕ) → is_acting owner (Open (Container start) wrote) ≡ true → is_gone Word owner events ≡ false)
        → acts_for_gone Word events flight ≡ false
    for_living (starts.Add value owner) (calls.Add run) at lives =
        ap (λ given. is_gone Word given.owner events) at.1 ∙ lives owner (eq-eqb owner owner refl)
    for_living (starts.Remove index owner mode) (calls.Remove run) at lives =
        ap (λ given. is_gone Word given.owner events) at.1 ∙ lives owner (eq-eqb owner owner refl)
    for_living (starts.Replace index value owner) (calls.Replace run) at lives =
        ap (λ given. is_gone Word given.owner events) at.1 ∙ lives owner (eq-eqb owner owner refl)
    for_living start flight at lives = grind arith

-- t is a sound trace of a container of capacity c
module _ {T : Type 0} (code : Coding T) (c : ℕ) (t : Trace T) (s : Sound code c t) (living : Living t.events) where
  -- the call under way of party p is none for an owner who is gone, whatever its family
  by_name : (p : ℕ) (all : List SetAct) (done : List (Act T)) (wrote : List (Event T)) (start : Start T) (flight : Flight T)
      → FlightAt c code.size all done start flight → span_of p t.events ≡ Open start wrote → is_for_gone t.events (Some flight) ≡ false
  by_name p all done wrote (Container start) (flights.Container flight) at is =
      for_living code c code.size all done t.events wrote start flight at (λ owner acts. living p owner (ap (is_acting owner) is ∙ acts))
  by_name p all done wrote start flight at is = absurd at

  -- a turn that goes on with a call is no step for an owner who is gone
  next_right : (p : ℕ) (o : Option (Party T)) → party_of p t.world.latest ≡ o → is_for_gone t.events (flight_of (doing_of o)) ≡ false
  next_right p None found = refl
  next_right p (Some x) found = go x.doing refl
    where
      -- whether the party's call is over or under way, it is none for an owner who is gone
      go : (doing : Doing T) → x.doing ≡ doing → is_for_gone t.events (flight_of (Some doing)) ≡ false
      go (Over others) same_doing = refl
      go (Going flight since) same_doing =
          let there = stands_there (family_by (terms code c) code c) t s p x since flight found same_doing in
          by_name p (set_acts_of p s.state.events) (acts_of p s.state.events) _ x.start flight there.at there.span

  -- no turn is a step for an owner who is gone
  pub steps_right : (turn : Turn T) → steps_for_gone t turn ≡ false
  steps_right (Begin p start) = refl
  steps_right (Next p) = next_right p (party_of p t.world.latest) refl
  steps_right (Decide p said) = refl
  steps_right (Die owner) = refl
