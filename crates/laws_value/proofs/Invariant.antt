-- The invariant of the single value: what holds of its machine between two turns, beside what the
-- frame (`Rattle.model.proofs.Frame`) says of every machine; and what a turn must preserve so that
-- it holds after the turn.
use Rattle.std.proofs.Common.{◌≡◌, ◌≢◌, ℕ, ◌+◌, ◌^◌, ◌<◌, ◌≤◌, Option, None, List, [], ◌++◌, fold, length}
use Rattle.std.proofs.Common.{length-append, arith, refl, sym, ap, subst, ◌∙◌}
use Rattle.std.proofs.lemmas.List.Concat.{flat_map-append}
use Rattle.std.proofs.lemmas.List.Sums.{fold-append}
use Rattle.laws_value.proofs.Names.{Event, Start, Flight, AtomicStart, AtomicFlight, Party, Coding, IsCoding}
use Rattle.laws_value.proofs.Names.{Scene}
use Rattle.model.specs.declared.event.Start.TheVariants as any_starts
use Rattle.model.specs.declared.families.Flight.TheVariants as flights
use Rattle.model.specs.declared.families.Registry.TheVariants as registries
use Rattle.model.specs.declared.turn.Kind.TheVariants as kinds
use Rattle.model.specs.Families.Atomic.Objects.{value_after}
use Rattle.model.specs.Families.Atomic.Promises.{value_of_zeros, value_in, AnswersRight, promise}
use Rattle.model.specs.Families.Atomic.Reading.{holder_after, holder_of}
use Rattle.model.specs.Families.Atomic.Roles.{GrantsRight}
use Rattle.model.specs.Objects.{IsLegal, standing, answers_from}
use Rattle.model.specs.Reading.{Each, acts, moments, Span}
use Rattle.model.proofs.Family as families
use Rattle.model.proofs.Family.{Outline}
use Rattle.model.proofs.Frame.{Family}
use Rattle.model.proofs.Readings.{AreRight, Each-append}
use Rattle.model.proofs.Replays.{calls_of, answers_of, standing_more, legal_more}
use Rattle.laws_value.specs.Stored.{stores, stored}
use Rattle.laws_value.proofs.Core.{Core, Good, GoesUp, layout}
use Rattle.laws_value.proofs.Knows.{number_of, At, KnowsFlight}

-- the state of a value: who has the producer's role, and what the words hold
pub record Value : Type 0 where
  pub holder : Option ℕ
  pub core : Core

module _ {T : Type 0} where
  -- what holds of the value and of the events, after `turns` turns
  pub record Holds (code : Coding T) (holder : Option ℕ) (k : Core) (events : List (Event T)) (turns : ℕ) : Type 0 where
    -- the words hold the value that stands by the events
    pub coded : IsCoding code
    pub good : Good code.size k
    pub stand : value_in code events ≡ code.value_of k.now
    -- the calls that acted are those of a sequential value, with right answers
    pub legal : IsLegal (value_of_zeros code) (moments events)
    pub answers : Each (AnswersRight code) events
    -- the role's holder is the one by the events, and the role is granted right
    pub holders : holder_of events ≡ holder
    pub grants : Each GrantsRight events
    -- the version counts the stores, is at most the turns and one, and fits its word
    pub reached : k.version ≤ turns + 1
    pub within : k.version < 2 ^ 64
    pub counted : k.version ≡ length (stored events) + 1

  -- ---- the family of the single value

  -- how many steps a call has taken at most
  abbrev number : ℕ → Flight T → ℕ → ℕ
  number size (flights.Atomic flight) backs = number_of size flight backs
  number size flight backs = 0

  -- the call under way is one of the value, and stands where `At` of `Knows` allows
  abbrev pub FlightAt : Coding T → Option ℕ → Core → ℕ → Start T → Flight T → Type 0
  FlightAt code holder k p (any_starts.Atomic start) (flights.Atomic flight) = At code holder k p start flight
  FlightAt code holder k p start flight = ⊥

  -- what a call under way on the value knows
  abbrev pub Knowing : Core → ℕ → ℕ → ℕ → Flight T → Type 0
  Knowing k since changes backs (flights.Atomic flight) = KnowsFlight k since changes backs flight
  Knowing k since changes backs flight = ⊥

  -- what a turn preserves, after which the value is `s'`, and which writes the events `es`
  pub record Preserves (scene : Scene T Value) (s' : Value) (es : List (Event T)) (changes' : ℕ) : Type 0 where
    -- its answers and grants are right; its words hold the value that stands; the holder is
    -- the one by the events
    pub right : AreRight (AnswersRight scene.coding) scene.events es
    pub grants : AreRight GrantsRight scene.events es
    pub good : Good scene.coding.size s'.core
    pub holders : fold holder_after scene.state.holder es ≡ s'.holder
    -- what acts in the turn moves the value as a sequential value does, and answers as one does
    pub goes : fold value_after (scene.coding.value_of scene.state.core.now) (calls_of (moments es)) ≡ scene.coding.value_of s'.core.now
    pub answers : answers_from (value_of_zeros scene.coding) (scene.coding.value_of scene.state.core.now) (calls_of (moments es)) ≡ answers_of (moments es)
    -- the version does not go down, goes up by stores alone, and fits its word
    pub up : GoesUp scene.state.core s'.core scene.changes changes'
    pub reached : s'.core.version ≤ scene.turns + 1 + 1
    pub within : s'.core.version < 2 ^ 64
    pub counted : s'.core.version ≡ scene.state.core.version + length (stored es)
    -- each call of another party stands where it stood
    pub others : (q : ℕ) → q ≢ scene.party → (start : AtomicStart T) (flight : AtomicFlight T)
        → At scene.coding scene.state.holder scene.state.core q start flight → At scene.coding s'.holder s'.core q start flight

  -- what the family of the value gives the machine: its state, its words, and what each call knows
  abbrev pub outline : Outline T
  outline =
      record {
        kind = kinds.Atomic;
        no_loan = refl;
        promise = promise;
        State = Value;
        words = λ s. layout s.holder s.core;
        kept = λ s. registries.Atomic s.holder;
        Holds = λ code c s latest events turns. Holds code s.holder s.core events turns;
        written = λ c s p flight. [];
        number = λ code c. number code.size;
        At = λ code c s p start flight. FlightAt code s.holder s.core p start flight;
        Knows = λ code c s p events since changes backs flight. Knowing s.core since changes backs flight;
        Preserves = λ scene s' was y es changes'. Preserves scene s' es changes';
      }

  -- the value's family
  abbrev pub family : Coding T → ℕ → Family T
  family = families.family outline

  -- what a turn shows, after which the value is `s'`, and before which the party's span was `from`
  abbrev pub Shows : Scene T Value → Value → Span T → Party T → List (Event T) → ℕ → Type 0
  Shows scene s' from y es changes' = families.Shows outline scene (Preserves scene s' es changes') s' from y es changes'

  -- what holds of the value holds after a turn that preserves it
  pub holds_more : {scene : Scene T Value} {s' : Value} {es : List (Event T)} {changes' : ℕ} → Preserves scene s' es changes'
      → Holds scene.coding scene.state.holder scene.state.core scene.events scene.turns
      → Holds scene.coding s'.holder s'.core (scene.events ++ es) (scene.turns + 1)
  holds_more {scene} {es = es} preserves holds =
      let code = scene.coding in
      let more = flat_map-append acts scene.events es in
      let reached = preserves.reached in
      record {
        coded = holds.coded;
        good = preserves.good;
        stand =
            ap (standing (value_of_zeros code)) more
            ∙ standing_more (value_of_zeros code) (moments scene.events) (moments es) _ _ holds.stand preserves.goes;
        legal =
            subst (IsLegal (value_of_zeros code)) (sym more)
            (legal_more (value_of_zeros code) (moments scene.events) (moments es) _ holds.legal holds.stand preserves.answers);
        answers = Each-append (AnswersRight code) scene.events es holds.answers preserves.right;
        holders = fold-append holder_after None scene.events es ∙ (ap (λ o. fold holder_after o es) holds.holders ∙ preserves.holders);
        grants = Each-append GrantsRight scene.events es holds.grants preserves.grants;
        reached = reached;
        within = preserves.within;
        counted =
            (let a = holds.counted in
            let sum_is : length (stored (scene.events ++ es)) ≡ length (stored scene.events) + length (stored es) =
            ap length (flat_map-append stores scene.events es) ∙ length-append (stored scene.events) (stored es) in
            omega (arith, preserves.counted));
      }
