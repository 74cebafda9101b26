-- A faithful turn of an open run leaves the run honest: a turn that is no step for an owner who is gone
-- fills, grants and gives back no index for such an owner.
use Rattle.laws_container.proofs.Names.{◌≡◌, ◌⊎◌, ⊎_elim, inl, inr, ℕ, Bool, true, false, Option, Some, None, IfSome}
use Rattle.laws_container.proofs.Names.{List, [], ◌∷◌, ◌++◌, refl, sym, ap, subst, ◌∙◌, append_assoc, append-nil}
use Rattle.laws_container.proofs.Names.{arith, AllByRecursion, fold-append, ReleaseMode, Answer, Event, Begun, Start}
use Rattle.laws_container.proofs.Names.{Container, Flight, Registry, ContainerStart, ContainerFlight, Going, Party}
use Rattle.laws_container.proofs.Names.{Turn, Begin, Next, Decide, Die, Coding, want_of, is_question, beside_of}
use Rattle.laws_container.proofs.Names.{step_of, want, after, promise, Act, may_stand, state_of, effects, questions}
use Rattle.laws_container.proofs.Names.{SetAct, party_of, Stands, StandsRight, IsEffectOf, Each, Span, Open, whose}
use Rattle.laws_container.proofs.Names.{own_after, span_of, is_due, answer_in, old_of, number_of, ending_of}
use Rattle.laws_container.proofs.Names.{events_of_step, after_turn, Trace, flight_in, AreRight, Each-append}
use Rattle.laws_container.proofs.Names.{Each-less, span_of-own, StandsThere, stands_there, Word, gone_after, is_gone}
use Rattle.laws_container.proofs.Names.{ActsForRight, IsHonest, open_refusal, ask_of, events_of}
use Rattle.model.specs.declared.families.Flight.TheVariants as flights
use Rattle.model.specs.declared.families.Registry.TheVariants as registries
use Rattle.model.specs.declared.families.container.ContainerStart.TheVariants.{Add, Remove}
use Rattle.model.proofs.Frame as frame
use Rattle.laws_container.specs.Gone.{acts_for_gone}
use Rattle.laws_container.specs.Open.{is_for_gone, steps_for_gone}
use Rattle.laws_container.proofs.Allowed.{allowed_open}
use Rattle.laws_container.proofs.Invariant.{family_by, wrote_of}
use Rattle.laws_container.proofs.Stages.{any_call}
use Rattle.laws_container.proofs.CallProgress.{At}
use Rattle.laws_container.proofs.Terms.{Terms}
use Rattle.laws_container.proofs.Written.{all_effects}
use Rattle.lemmas_owners.proofs.OneTurn.{by_next, by_decision}

-- ---- for whom a call is

module _ {T : Type 0} (events : List (Event T)) where
  -- the call is for no owner who is gone, if it is one that fills an index or gives one back
  abbrev IsForLiving : ContainerStart T → Type 0
  IsForLiving (Add value owner) = is_gone Word owner events ≡ false
  IsForLiving (Remove index owner mode) = is_gone Word owner events ≡ false
  IsForLiving start = Unit {0}

  -- `c` is the capacity, `z` the words of a value; the call has done `all` to the set, and `done` to elements
  module _ (code : Coding T) (c z : ℕ) (all : List SetAct) (done : List (Act T)) where
    -- a call that acts for nobody who is gone is for no such owner by its name either
    living_by : (start : ContainerStart T) (flight : ContainerFlight T) → At c z all done start flight → acts_for_gone Word events flight ≡ false
        → IsForLiving start
    living_by start flight stands alive = grind arith

    -- a call that asks a question is none that fills an index or gives one back
    living_asked : (start : ContainerStart T) (flight : ContainerFlight T) → At c z all done start flight → is_question (want code flight) ≡ true
        → IsForLiving start
    living_asked start flight stands asks = grind arith

-- ---- one event that a step writes

module _ (p : ℕ) where
  -- what holds of the party of an event that has one holds of `p`
  at_party : (o : Option ℕ) (P : ℕ → Type 0) → o ≡ Some p → IfSome o P → P p
  at_party = grind arith

module _ {T : Type 0} (p : ℕ) where
  -- an event that a step of party `p` writes is of that party
  effect_own : (e : Event T) → IsEffectOf (Next p) e → whose e ≡ Some p
  effect_own e its = grind arith

  -- an event that a step writes and that stands right in a span may stand there
  stand_by : (c : ℕ) (e : Event T) → IsEffectOf (Next p) e → (span : Span T) → Stands promise c e span → may_stand e span
  stand_by c e its span stands = grind arith

  -- an event that a step writes makes the span of an open call longer
  longer_by : (start : Start T) (e : Event T) → IsEffectOf (Next p) e → (wrote : List (Event T)) → own_after (Open start wrote) e ≡ Open start (wrote ++ e ∷ [])
  longer_by start e its wrote = grind arith

  -- no event that a step of an add writes makes an owner gone
  add_leaves : (value : T) (o : ℕ) (wrote : List (Event T)) (e : Event T) → IsEffectOf (Next p) e → may_stand e (Open (Container (Add value o)) wrote)
      → (owner : ℕ) (gone : Bool) → gone_after owner gone e ≡ gone
  add_leaves value o wrote e its may_be owner gone = grind arith

  -- no event that a step of a remove writes makes an owner gone
  remove_leaves : (index o : ℕ) (mode : ReleaseMode) (wrote : List (Event T)) (e : Event T) → IsEffectOf (Next p) e
      → may_stand e (Open (Container (Remove index o mode)) wrote) → (owner : ℕ) (gone : Bool) → gone_after owner gone e ≡ gone
  remove_leaves index o mode wrote e its may_be owner gone = grind arith

  module _ (wrote events : List (Event T)) where
    -- the span of a call that has written `wrote`
    abbrev at : ContainerStart T → Span T
    at start = Open (Container start) wrote

    -- an event of a call that is for no owner who is gone leaves it one for no such owner
    stays : (start : ContainerStart T) (e : Event T) → IsEffectOf (Next p) e → may_stand e (at start) → IsForLiving events start
        → IsForLiving (events ++ e ∷ []) start
    stays = grind (arith, fold-append, false, add_leaves, remove_leaves)

    -- an event that a step writes for a call that is for no owner who is gone is honest
    acts_right : (start : ContainerStart T) (e : Event T) → IsEffectOf (Next p) e → span_of p events ≡ at start → may_stand e (at start)
        → IsForLiving events start → ActsForRight events e
    acts_right start e its span_is may_be live = grind arith

  -- ---- all that a step writes

  module _ (c : ℕ) (start : ContainerStart T) where
    -- the call of party `p` is under way, and is for no owner who is gone
    record ActsForLiving (events : List (Event T)) : Type 0 where
      pub wrote : List (Event T)
      pub span : span_of p events ≡ Open (Container start) wrote
      pub living : IsForLiving events start

    -- an event that a step writes for a call which is for no owner who is gone is honest, and the call is for
    -- no such owner still
    one : {events : List (Event T)} (e : Event T) → IsEffectOf (Next p) e → StandsRight promise c events e → ActsForLiving events
        → ActsForRight events e × ActsForLiving (events ++ e ∷ [])
    one {events} e its right goes =
        let own = effect_own e its in
        let there = stand_by c e its (span_of p events) (at_party p (whose e) (λ q. Stands promise c e (span_of q events)) own right) in
        let stands : may_stand e (Open (Container start) goes.wrote) = subst (may_stand e) goes.span there in (
          acts_right goes.wrote events start e its goes.span stands goes.living,
          record {
            wrote = goes.wrote ++ e ∷ [];
            span = span_of-own p events (e ∷ []) (own, tt) ∙ (ap (λ span. own_after span e) goes.span ∙ longer_by (Container start) e its goes.wrote);
            living = stays goes.wrote events start e its stands goes.living;
          },
        )

    -- all that a step writes for a call which is for no owner who is gone is honest, and the call is for no
    -- such owner still
    all_right : {events : List (Event T)} (es : List (Event T)) → AllByRecursion (IsEffectOf (Next p)) es
        → Each (StandsRight promise c) (events ++ es) → ActsForLiving events
        → AreRight ActsForRight events es × ActsForLiving (events ++ es)
    all_right {events} [] its spans goes = (tt, subst ActsForLiving (sym (append-nil events)) goes)
    all_right {events} (e ∷ es) its spans goes =
        let joined : (events ++ e ∷ []) ++ es ≡ events ++ e ∷ es = append_assoc events (e ∷ []) es in
        let first = one {events = events} e its.0 (spans events es e refl) goes in
        let rest = all_right {events = (events ++ e ∷ [])} es its.1 (subst (Each (StandsRight promise c)) (sym joined) spans) first.1 in
        ((first.0, rest.0), subst ActsForLiving joined rest.1)

    -- the end of a call that is for no owner who is gone is honest
    end_right : (events : List (Event T)) (outcome : Option (Answer T)) → IsForLiving events start
        → AreRight ActsForRight events (ending_of p (Container start) outcome)
    end_right events outcome live = grind arith

    -- an honest run is honest after a step of a call that is for no owner who is gone, and after
    -- the end of that call
    honest_more : {events : List (Event T)} (did : List (Event T)) (outcome : Option (Answer T))
        → AllByRecursion (IsEffectOf (Next p)) did → ActsForLiving events → IsHonest events
        → Each (StandsRight promise c) (events ++ (did ++ ending_of p (Container start) outcome))
        → IsHonest (events ++ (did ++ ending_of p (Container start) outcome))
    honest_more {events} did outcome its goes honest spans =
        let ends = ending_of p (Container start) outcome in
        let joined : (events ++ did) ++ ends ≡ events ++ (did ++ ends) = append_assoc events did ends in
        let before = Each-less (StandsRight promise c) (events ++ did) ends (subst (Each (StandsRight promise c)) (sym joined) spans) in
        let r = all_right did its before goes in
        subst IsHonest joined
        (Each-append ActsForRight (events ++ did) ends (Each-append ActsForRight events did honest r.0) (end_right (events ++ did) outcome r.1.living))

-- ---- one turn

-- `c` is the capacity, and `t` the run up to this turn, which is sound and honest
module _ {T : Type 0} (terms : Terms) (code : Coding T) (c : ℕ) (t : Trace T)
    (sound : frame.Sound (family_by terms code c) t) (honest : IsHonest t.events) where
  -- the run with these events keeps what is said of where events may stand
  abbrev StandRightWith : List (Event T) → Type 0
  StandRightWith es = Each (StandsRight promise c) (t.events ++ es)

  -- the run with these events is honest
  abbrev IsHonestWith : List (Event T) → Type 0
  IsHonestWith es = IsHonest (t.events ++ es)

  -- the call acts for nobody who is gone, or waits for a decision
  abbrev MayWrite : Flight T → Type 0
  MayWrite (flights.Container flight) = (acts_for_gone Word t.events flight ≡ false) ⊎ (is_question (want t.world.coding flight) ≡ true)
  MayWrite flight = Unit {0}

  -- the call `x` of party `p` is handed `answer`
  module _ (p answer : ℕ) (x : Party T) (since : ℕ) where
    abbrev writes : Registry T → Start T → Flight T → List (Event T)
    writes kept start flight =
        events_of_step p start (step_of t.world.coding t.world.words (beside_of t.world.words kept t.world.latest p) p start flight answer kept)

    -- the run stays honest with what the call writes, if it acts for nobody who is gone or
    -- waits for a decision
    by_name : {start : Start T} {flight : Flight T} → StandsThere (family_by terms code c) t sound p x since start flight → MayWrite flight
        → StandRightWith (writes (registries.Container sound.state.dead sound.state.states) start flight)
        → IsHonestWith (writes (registries.Container sound.state.dead sound.state.states) start flight)
    by_name {start = (Container start)} {flight = (flights.Container flight)} stands minds spans =
        let state = state_of p sound.state.states in
        let did : List (Event T) = effects t.world.coding p state flight answer ++ questions p flight answer in
        let live : IsForLiving t.events start =
        ⊎_elim (λ alive. living_by t.events t.world.coding c code.size _ _ start flight stands.at alive)
        (λ asks. living_asked t.events t.world.coding c code.size _ _ start flight stands.at asks) minds in
        honest_more p c start did (answer_in (any_call (after t.world.coding state flight answer)))
        (all_effects (Next p) p refl t.world.coding state flight answer)
        (record { wrote = wrote_of p sound.state.events; span = stands.span; living = live }) honest spans
    by_name stands minds spans = absurd stands.at

    -- the run stays honest with what the party's call under way writes, by the machine's own words and states
    went : {flight : Flight T} → party_of p t.world.latest ≡ Some x → x.doing ≡ Going flight since → MayWrite flight
        → StandRightWith (writes t.world.kept x.start flight)
        → IsHonestWith (writes t.world.kept x.start flight)
    went {flight} found doing minds =
        subst (λ kept. StandRightWith (writes kept x.start flight) → IsHonestWith (writes kept x.start flight)) (sym sound.fit.kept)
        (by_name (stands_there (family_by terms code c) t sound p x since flight found doing) minds)

  -- the run with no further event is honest
  same : IsHonestWith []
  same = subst IsHonest (sym (append-nil t.events)) honest

  -- a call that takes no step for an owner who is gone acts for nobody who is gone
  by_steps : (flight : Flight T) → is_for_gone t.events (Some flight) ≡ false → MayWrite flight
  by_steps (flights.Container flight) owner_lives = inl owner_lives
  by_steps flight owner_lives = tt

  -- a call that is at its question waits for a decision
  by_question : (flight : Flight T) → is_question (want_of t.world.coding flight) ≡ true → MayWrite flight
  by_question (flights.Container flight) asks = inr asks
  by_question flight asks = tt

  -- a step of a party whose call acts for nobody who is gone leaves the run honest
  next_honest : (p : ℕ) → is_for_gone t.events (flight_in t.world p) ≡ false
      → StandRightWith (events_of t.world (Next p)) → IsHonestWith (events_of t.world (Next p))
  next_honest p steps =
      by_next t.world p (λ w es. StandRightWith es → IsHonestWith es) (λ spans. same) (λ x flight since has.
      went p (old_of t.world.words (ask_of (want_of t.world.coding flight))) x since has.found has.doing
      (by_steps flight (subst (λ o. is_for_gone t.events o ≡ false) has.here steps)))

  -- a decision leaves the run honest
  decision_honest : (p : ℕ) (said : Bool) → is_due t.world.coding (flight_in t.world p) ≡ true
      → StandRightWith (events_of t.world (Decide p said)) → IsHonestWith (events_of t.world (Decide p said))
  decision_honest p said due =
      by_decision t.world p (λ w es. StandRightWith es → IsHonestWith es) (λ spans. same) said (λ x flight since has.
      went p (number_of said) x since has.found has.doing (by_question flight (subst (λ o. is_due t.world.coding o ≡ true) has.here due)))

  -- a turn that an open run does not refuse, and that is no step for an owner who is gone,
  -- leaves the run honest
  pub turn_honest : (turn : Turn T) → open_refusal t.world turn ≡ None → steps_for_gone t turn ≡ false
      → frame.Sound (family_by terms code c) (after_turn t turn) → IsHonest (after_turn t turn).events
  turn_honest (Begin p start) unrefused steps next = Each-append ActsForRight t.events (Begun p start ∷ []) honest (tt, tt)
  turn_honest (Next p) unrefused steps next = next_honest p steps next.inv.spans
  turn_honest (Decide p said) unrefused steps next =
      decision_honest p said (allowed_open t.world (Decide p said) unrefused) next.inv.spans
  turn_honest (Die owner) unrefused steps next = absurd (cc)
