-- The invariant of a container: what holds of its machine between two turns, beside what the frame
-- (`Rattle.model.proofs.Frame`) says of every machine; and what a turn must show so that the
-- invariant holds after it.
use Rattle.laws_container.proofs.Names.{◌≡◌, ◌≢◌, ⊎_elim, ℕ, ◌+◌, ◌-◌, ◌^◌, ◌<◌, ◌≤◌, true, false, Some, is_some}
use Rattle.laws_container.proofs.Names.{List, [], ◌∷◌, ◌++◌, length, fold, refl, sym, ap, subst, ◌∙◌, arith, cases_eq}
use Rattle.laws_container.proofs.Names.{total_words, Answer, ContainerState, Event, Finished, Start, Flight, Party, Coding}
use Rattle.laws_container.proofs.Names.{IsCoding, is_looking, ContainsRight, promise, Act, acts, contents_of}
use Rattle.laws_container.proofs.Names.{announced_of, acts_of, state_of, fresh, SetAct, is_dead, set_acts, wrote_in}
use Rattle.laws_container.proofs.Names.{set_acts_of, party_of, put, doing_of, flight_of, Stands, Each, Span}
use Rattle.laws_container.proofs.Names.{own_after, span_of, party_put_same, party_put_other, AllFollow, AreRight}
use Rattle.laws_container.proofs.Names.{Each-append, span_of-other, is_gone, IsSeen}
use Rattle.model.specs.declared.event.Start.TheVariants as any_starts
use Rattle.model.specs.declared.families.Flight.TheVariants as flights
use Rattle.model.specs.declared.families.Registry.TheVariants as registries
use Rattle.model.specs.declared.turn.Kind.TheVariants as kinds
use Rattle.model.proofs.Family as families
use Rattle.model.proofs.Family.{Outline}
use Rattle.model.proofs.Frame as frame
use Rattle.model.proofs.Frame.{Family}
use Rattle.laws_robust.proofs.Invariant as set
use Rattle.laws_container.specs.Gone.{AsksBy, RecoversBy, AnswersBy}
use Rattle.laws_container.proofs.Answers.{answers_on}
use Rattle.laws_container.proofs.Contents.{IsWhole}
use Rattle.laws_container.proofs.KeepingReads.{still_knows}
use Rattle.laws_container.proofs.HiddenKnows.{EndsRight}
use Rattle.laws_container.proofs.Knows.{View, Knows}
use Rattle.laws_container.proofs.StateInvariant.{Rests, rests_later}
use Rattle.laws_container.proofs.CallProgress.{number_of, At}
use Rattle.laws_container.proofs.Terms.{Terms, dying, Keeps}
use Rattle.laws_container.proofs.Turns.{Now, WellFormed, count_in, change_in, Passes, LeavesParty}

-- the machine between two turns: the words, the dead and the states, with the latest calls and the events
pub record ContainerNow (T : Type 0) : Type 0 where
  pub words : List ℕ
  pub dead : List ℕ
  pub states : List (ℕ × ContainerState T)
  pub latest : List (ℕ × Party T)
  pub events : List (Event T)

-- a turn of a party, with the machine before it
pub record Scene (T : Type 0) : Type 0 where
  -- the terms, the coding of values and the capacity
  pub terms : Terms
  pub coding : Coding T
  pub capacity : ℕ
  -- the machine: words, dead owners and the parties' states
  pub words : List ℕ
  pub dead : List ℕ
  pub states : List (ℕ × ContainerState T)
  -- the party, and of its call: the steps, the turns back, and the number of changes when it began
  pub party : ℕ
  pub steps : ℕ
  pub backs : ℕ
  pub since : ℕ
  -- how often words have changed and turns were taken, the parties' latest calls, and the events
  pub changes : ℕ
  pub turns : ℕ
  pub latest : List (ℕ × Party T)
  pub events : List (Event T)

module _ {T : Type 0} where
  -- the turn as one of its set of indices, to which the laws of the robust set apply
  abbrev pub of_set : Scene T → set.Scene T
  of_set scene =
      record {
        by = scene.terms.by;
        coding = scene.coding;
        capacity = scene.capacity;
        set = record { words = scene.words; dead = scene.dead; events = scene.events };
        party = scene.party;
        steps = scene.steps;
        backs = scene.backs;
        since = scene.since;
        changes = scene.changes;
        turns = scene.turns;
        latest = scene.latest;
        events = scene.events;
      }

  -- the party is in no look
  abbrev pub is_idle : ℕ → List (ℕ × Party T) → Type 0
  is_idle q latest = is_looking (flight_of (doing_of (party_of q latest))) ≡ false

  -- the machine between two turns, without its dead and its states
  abbrev pub moment : Terms → List ℕ → List (ℕ × Party T) → List (Event T) → Now T
  moment terms words latest events = record { terms = terms; words = words; latest = latest; events = events }

  -- what holds of the elements and of the states, after `turns` turns
  pub record Elements (code : Coding T) (c : ℕ) (m : Now T) (states : List (ℕ × ContainerState T)) (turns : ℕ) : Type 0 where
    -- how the words are laid out; and where few turns are taken no number of an element, nor that of the
    -- changes, is above the turns
    pub coded : IsCoding code
    pub wide : length m.words ≡ total_words c code.size
    pub counts : Keeps m.terms → (i : ℕ) → i < c → count_in code c m i ≤ turns
    pub change : Keeps m.terms → change_in code c m ≤ turns
    -- values stand below the capacity alone, what is announced stands, and the words say what stands
    pub within : (i : ℕ) (value : T) → contents_of i m.events ≡ Some value → i < c
    pub announced : WellFormed m → (i : ℕ) → announced_of i m.events ≡ true → is_some (contents_of i m.events) ≡ true
    pub whole : WellFormed m → IsWhole code c m.words m.events
    -- each event is right: questions, what recoveries free, answers, what stands where, and what calls place
    pub asks : Each (AsksBy m.terms.by) m.events
    pub recovers : Each (RecoversBy m.terms.by) m.events
    pub answers : Each (AnswersBy m.terms.by (set.IsWorn m.terms.by m.words) c) m.events
    pub contains : WellFormed m → Each ContainsRight m.events
    pub places : WellFormed m → Each EndsRight m.events
    -- the state of each party that is in no look is at rest, and a new one would be
    pub rests : (q : ℕ) (s : ContainerState T) → is_idle q m.latest → state_of q states ≡ Some s → Rests code c m q s
    pub fresh : (q : ℕ) → Rests code c m q (fresh code c)

  -- what holds of the machine, of the latest calls and of the events, after `turns` turns
  pub record Holds (terms : Terms) (code : Coding T) (c : ℕ) (s : ContainerNow T) (latest : List (ℕ × Party T))
      (events : List (Event T)) (turns : ℕ) : Type 0 where
    pub same : s.events ≡ events
    pub same_latest : s.latest ≡ latest
    pub begun : (p : ℕ) (x : Party T) → party_of p latest ≡ Some x → 1 ≤ turns
    pub good : set.Good terms.by c s.words s.dead events turns
    pub elements : Elements code c (moment terms s.words latest events) s.states turns

  -- ---- the family of the container

  -- what the party's latest call has written
  abbrev pub wrote_of : ℕ → List (Event T) → List (Event T)
  wrote_of p events = wrote_in (span_of p events)

  abbrev number : ℕ → ℕ → Flight T → ℕ → ℕ
  number c z (flights.Container flight) backs = number_of c z flight backs
  number c z flight backs = 0

  -- the call stands where `CallProgress` allows: it is a call of the container, and has done to the set and
  -- to elements what its stage says
  abbrev pub FlightAt : ℕ → ℕ → List SetAct → List (Act T) → Start T → Flight T → Type 0
  FlightAt c z all done (any_starts.Container start) (flights.Container flight) =
      At c z all done start flight
  FlightAt c z all done start flight = ⊥

  -- the call knows what `Knows` says of its stage
  abbrev pub Knowing : Coding T → ℕ → Flight T → View T → Type 0
  Knowing code c (flights.Container flight) v = Knows code c flight v
  Knowing code c flight v = ⊥

  -- what a party sees of the machine
  abbrev pub view : Terms → List ℕ → List (ℕ × ContainerState T) → List (ℕ × Party T) → List (Event T) → ℕ → ℕ → ℕ → ℕ → View T
  view terms words states latest events p since changes backs =
      record {
        terms = terms;
        words = words;
        states = states;
        latest = latest;
        events = events;
        party = p;
        since = since;
        changes = changes;
        backs = backs;
      }

  -- the family of the container, in the form that the frame asks: its words and what is kept, its invariant,
  -- and where calls stand and what they know
  abbrev pub outline : Terms → Outline T
  outline terms =
      record {
        kind = kinds.Container;
        no_loan = refl;
        promise = promise;
        State = ContainerNow T;
        words = λ s. s.words;
        kept = λ s. registries.Container s.dead s.states;
        Holds = λ code c s latest events turns. Holds terms code c s latest events turns;
        written = λ c s p flight. wrote_of p s.events;
        number = λ code c. number c code.size;
        At = λ code c s p start flight. FlightAt c code.size (set_acts_of p s.events) (acts_of p s.events) start flight;
        Knows = λ code c s p events since changes backs flight.
            Knowing code c flight (view terms s.words s.states s.latest events p since changes backs);
        Preserves = λ scene s' was y es changes'. Unit {0};
      }

  -- the family, on these terms
  abbrev pub family_by : Terms → Coding T → ℕ → Family T
  family_by terms = families.family (outline terms)

  -- the family where owners die
  abbrev pub family : Coding T → ℕ → Family T
  family code c = family_by dying code c

  -- what holds before a turn of a party, in a machine that has room for the turn
  pub record Inv (scene : Scene T) : Type 0 where
    pub good : set.Good scene.terms.by scene.capacity scene.words scene.dead scene.events scene.turns
    pub elements : Elements scene.coding scene.capacity (moment scene.terms scene.words scene.latest scene.events) scene.states scene.turns
    pub begun : 1 ≤ scene.turns
    pub room : set.HasRoom scene.terms.by scene.words
    pub small : Keeps scene.terms → scene.turns < 2 ^ 64 - 2

  -- what holds before the turn holds for its set of indices
  pub inv_of_set : (scene : Scene T) → Inv scene → set.Inv (of_set scene)
  inv_of_set = grind arith

  -- the turn is of a call for this owner, who lives, and who is not gone where the run keeps to its terms
  pub record ActsFor (scene : Scene T) (owner : ℕ) : Type 0 where
    pub alive : is_dead owner scene.events ≡ false
    pub stays : Keeps scene.terms → is_gone scene.terms.by owner scene.events ≡ false

-- ---- what a turn of a party does

module _ {T : Type 0} (scene : Scene T) where
  open scene use {coding as code, capacity as c, party as p, turns as turns, latest as latest, events as events}

  -- the machine before the turn
  abbrev pub before : Now T
  before = moment scene.terms scene.words latest events

  -- the machine after a turn that leaves these words and this call of the party, and writes the events `es`
  abbrev pub after : List ℕ → Party T → List (Event T) → Now T
  after words' y es = moment scene.terms words' (put p y latest) (events ++ es)

  -- what a turn does to the elements, which leaves these words and this call of the party, and
  -- writes the events `es`
  pub record KeepsElements (words' : List ℕ) (y : Party T) (es : List (Event T)) : Type 0 where
    -- what it leaves to any party, and to each other party
    pub passes : Passes code c before (after words' y es)
    pub leaves : (q : ℕ) → q ≢ p → LeavesParty code c q before (after words' y es)
    -- it keeps what `Elements` says of the words
    pub wide : length words' ≡ length scene.words
    pub counts : Keeps scene.terms → (i : ℕ) → i < c → count_in code c (after words' y es) i ≤ turns + 1
    pub change : Keeps scene.terms → change_in code c (after words' y es) ≤ turns + 1
    -- it keeps what `Elements` says of what stands and of what is announced
    pub within : (i : ℕ) (value : T) → contents_of i (events ++ es) ≡ Some value → i < c
    pub announced : WellFormed (after words' y es) → (i : ℕ) → announced_of i (events ++ es) ≡ true → is_some (contents_of i (events ++ es)) ≡ true
    pub whole : WellFormed (after words' y es) → IsWhole code c words' (events ++ es)

  -- each event of the turn is right, as `Elements` has it
  pub record AreAllRight (words' : List ℕ) (y : Party T) (es : List (Event T)) : Type 0 where
    pub asks : AreRight (AsksBy scene.terms.by) events es
    pub recovers : AreRight (RecoversBy scene.terms.by) events es
    pub answers : AreRight (AnswersBy scene.terms.by (set.IsWorn scene.terms.by words') c) events es
    pub contains : WellFormed (after words' y es) → AreRight ContainsRight events es
    pub places : WellFormed (after words' y es) → AreRight EndsRight events es

  -- the end of a call is right as soon as its answer is, and the call has placed what it had to place
  pub right_end : {words' : List ℕ} {y : Party T} {start : Start T} {answer : Answer T}
      → AnswersBy scene.terms.by (set.IsWorn scene.terms.by words') c events (Finished p start answer)
      → (WellFormed (after words' y (Finished p start answer ∷ [])) → EndsRight events (Finished p start answer))
      → AreAllRight words' y (Finished p start answer ∷ [])
  right_end answers placed =
      record { asks = (tt, tt); recovers = (tt, tt); answers = (answers, tt); contains = λ holds. (tt, tt); places = λ holds. (placed holds, tt) }

  -- a turn that leaves these words, states and call, and writes the events `es`, keeps the invariant: of the
  -- set, of the elements, of the events and of the states
  pub record KeepsInvariant (words' : List ℕ) (states' : List (ℕ × ContainerState T)) (y : Party T) (es : List (Event T)) : Type 0 where
    pub set : set.Does (of_set scene) words' es
    pub changes : KeepsElements words' y es
    pub right : AreAllRight words' y es
    pub others : (q : ℕ) → q ≢ p → state_of q states' ≡ state_of q scene.states
    pub rests : (s : ContainerState T) → is_looking (flight_of (Some y.doing)) ≡ false → state_of p states' ≡ Some s → Rests code c (after words' y es) p s

  -- a turn that keeps the invariant leaves this machine, and before it `elements` holds of the elements
  module _ {words' : List ℕ} {states' : List (ℕ × ContainerState T)} {y : Party T} {es : List (Event T)}
      (does : KeepsInvariant words' states' y es) (elements : Elements code c before scene.states turns) where
    abbrev m' : Now T
    m' = after words' y es

    -- the states of parties that are in no look are at rest after the turn
    still_rests : (q : ℕ) (s : ContainerState T) → is_idle q (put p y latest) → state_of q states' ≡ Some s → Rests code c m' q s
    still_rests q s idle found = ⊎_elim here there (cases_eq q p)
      where
        -- the party's own state rests after the turn
        here : q ≡ p → Rests code c m' q s
        here same_party =
            subst (λ n. Rests code c m' n s) (sym same_party)
            (does.rests s
            (ap (λ o. is_looking (flight_of (doing_of o))) (sym (party_put_same p y latest)) ∙ subst (λ n. is_idle n (put p y latest)) same_party idle)
            (subst (λ n. state_of n states' ≡ Some s) same_party found))

        -- the state of another party is at rest as it was before the turn
        there : q ≢ p → Rests code c m' q s
        there ne =
            rests_later code c es refl does.changes.passes q s
            (elements.rests q s (ap (λ o. is_looking (flight_of (doing_of o))) (sym (party_put_other q p y latest ne)) ∙ idle) (sym (does.others q ne) ∙ found))

    -- what holds of the elements and of the states holds after the turn
    pub elements_then : Elements code c m' states' (turns + 1)
    elements_then =
        record {
          coded = elements.coded;
          wide = does.changes.wide ∙ elements.wide;
          counts = does.changes.counts;
          change = does.changes.change;
          within = does.changes.within;
          announced = does.changes.announced;
          whole = does.changes.whole;
          asks = Each-append (AsksBy scene.terms.by) events es elements.asks does.right.asks;
          recovers = Each-append (RecoversBy scene.terms.by) events es elements.recovers does.right.recovers;
          answers =
              Each-append (AnswersBy scene.terms.by (set.IsWorn scene.terms.by words') c) events es
              (answers_on (set.IsWorn scene.terms.by scene.words) (set.IsWorn scene.terms.by words')
              (set.worn_on scene.terms.by scene.words words' does.set.goes.stuck) scene.terms.by c events elements.answers)
              does.right.answers;
          contains =
              λ well_formed. Each-append ContainsRight events es
              (elements.contains (does.changes.passes.well_formed well_formed)) (does.right.contains well_formed);
          places =
              λ well_formed. Each-append EndsRight events es
              (elements.places (does.changes.passes.well_formed well_formed)) (does.right.places well_formed);
          rests = still_rests;
          fresh = λ q. rests_later code c es refl does.changes.passes q (fresh code c) (elements.fresh q);
        }

-- ---- what a turn shows, where the party's span was this

module _ {T : Type 0} (scene : Scene T) where
  open scene use {coding as code, capacity as c, party as p, turns as turns, latest as latest, events as events}

  -- the machine after the turn
  abbrev pub then_is : List ℕ → List (ℕ × ContainerState T) → Party T → List (Event T) → ContainerNow T
  then_is words' states' y es = record { words = words'; dead = scene.dead; states = states'; latest = put p y latest; events = events ++ es }

  -- what a turn shows: it keeps the invariant; its events may stand in the span of its call; and the call
  -- stands and knows what the new stage says
  pub record Shows (words' : List ℕ) (states' : List (ℕ × ContainerState T)) (from : Span T) (y : Party T) (es : List (Event T)) (changes' : ℕ) : Type 0 where
    pub does : KeepsInvariant scene words' states' y es
    pub stands : AllFollow (Stands promise c) from es
    pub here : frame.Fits (family_by scene.terms code c) (then_is words' states' y es) p (Some y) (fold own_after from es)
    pub knows : frame.KnowsDoing (family_by scene.terms code c) (then_is words' states' y es) p (events ++ es) changes' y.backs y.doing
    pub seen : IsSeen scene.words words' scene.changes changes'

  -- a turn of one party leaves to the call of each other party what it knows
  any_knows : {words' : List ℕ} {states' : List (ℕ × ContainerState T)} {y : Party T} {es : List (Event T)} (changes' : ℕ)
      → KeepsInvariant scene words' states' y es → IsSeen scene.words words' scene.changes changes' → (q : ℕ) → q ≢ p
      → (since backs : ℕ) (flight : Flight T)
      → Knowing code c flight (view scene.terms scene.words scene.states latest events q since scene.changes backs)
      → Knowing code c flight (view scene.terms words' states' (put p y latest) (events ++ es) q since changes' backs)
  any_knows {words'} {states'} {y} {es} changes' does seen q ne since backs (flights.Container flight) knowing =
      still_knows
      (record {
        words_then = words';
        states_then = states';
        latest_then = put p y latest;
        es = es;
        changes_then = changes';
        goes = does.set.goes;
        spares = does.set.spares q ne;
        seen = seen;
        passes = does.changes.passes;
        leaves = does.changes.leaves q ne;
        span = span_of-other p q events es ne does.set.own;
        same_party = party_put_other q p y latest ne;
        same_state = does.others q ne;
      })
      flight knowing
  any_knows changes' does seen q ne since backs flight knowing = absurd knowing

  -- a call stands where it stood if its span has the same events
  pub at_written : (c z : ℕ) (w w' : List (Event T)) (start : Start T) (flight : Flight T) → w' ≡ w
      → FlightAt c z (set_acts w) (acts w) start flight → FlightAt c z (set_acts w') (acts w') start flight
  at_written c z w w' start flight same standing = subst (λ x. FlightAt c z (set_acts x) (acts x) start flight) (sym same) standing

  -- what a turn shows that leaves this machine, and before which the party's span was `from`
  module _ {words' : List ℕ} {states' : List (ℕ × ContainerState T)} {from : Span T} {y : Party T}
      {es : List (Event T)} {changes' : ℕ} (shows_it : Shows words' states' from y es changes') (old : ContainerNow T)
      (here : old ≡ record { words = scene.words; dead = scene.dead; states = scene.states; latest = latest; events = events })
      (holds : Holds scene.terms code c old latest events turns)
      (inv : frame.Inv (family_by scene.terms code c) old latest events scene.changes) where
    -- what another party's call has written is not changed by the turn
    still_wrote : (q : ℕ) → q ≢ p → wrote_of q (events ++ es) ≡ wrote_of q old.events
    still_wrote = grind (arith, span_of-other)

    -- what a turn shows is what the frame asks of it
    pub owes : span_of p events ≡ from → frame.Owes (family_by scene.terms code c) (then_is words' states' y es) p y latest events es changes'
    owes span_is =
        frame.owes (family_by scene.terms code c) old (then_is words' states' y es) from p y latest events es scene.changes changes' span_is inv
        (record {
          own = shows_it.does.set.own;
          stands = shows_it.stands;
          here = shows_it.here;
          knows = shows_it.knows;
          others =
              λ q ne start flight at. (
                at_written c code.size (wrote_of q old.events) (wrote_of q (events ++ es)) start flight (still_wrote q ne) at,
                still_wrote q ne,
              );
          others_know = λ q ne since backs flight known.
              any_knows changes' shows_it.does shows_it.seen q ne since backs flight
              (subst (λ (o : ContainerNow T). Knowing code c flight
              (view scene.terms o.words o.states o.latest events q since scene.changes backs))
              here known);
        })

    elements : Elements code c (before scene) scene.states turns
    elements = grind (arith, here)

    -- the invariant of the container holds after the turn
    pub holds_more : Holds scene.terms code c (then_is words' states' y es) (put p y latest) (events ++ es) (turns + 1)
    holds_more =
        record {
          same = refl;
          same_latest = refl;
          begun = λ q x found. omega arith;
          good = shows_it.does.set.good;
          elements = elements_then scene shows_it.does elements;
        }
