-- Bit sets and counting bit sets as two kinds of one family: what has to be said of a kind (`SetOutline`),
-- and what a turn of its machine has to show (`Shows`, `StepShows`).
use Rattle.laws_bits.proofs.Names.{◌≡◌, ℕ, ◌+◌, ◌≤◌, Bool, false, Option, Some, List, [], ◌++◌, fold, Ask, After}
use Rattle.laws_bits.proofs.Names.{Answer, Event, Start, Bits, Flight, BitsStart, BitsFlight, Party, Coding}
use Rattle.laws_bits.proofs.Names.{ask_of, want, after, goes_back, effects_of, is_loan, Stands, Span, Open, own_after}
use Rattle.laws_bits.proofs.Names.{span_of, answer_in, one_if, old_of, words_after, change_of, step_count}
use Rattle.laws_bits.proofs.Names.{doing_after, ending_of, AreOwn, AllFollow}
use Rattle.model.specs.declared.families.Flight.TheVariants as flights
use Rattle.model.specs.declared.families.Registry.TheVariants as registries
use Rattle.model.specs.declared.turn.Kind.{Kind}
use Rattle.model.specs.Promise.{Promise}
use Rattle.model.proofs.Family as families
use Rattle.model.proofs.Family.{Outline}
use Rattle.model.proofs.Frame as frame
use Rattle.model.proofs.Frame.{Family}
use Rattle.laws_bits.proofs.Spans.{any_call, wrote_in}

-- the state of a set: its words, and the events of the run, from which a call under way
-- knows what it has written
pub record SetState (T : Type 0) : Type 0 where
  pub words : List ℕ
  pub events : List (Event T)

-- a turn of a party, with the machine before it
pub record SetScene (T : Type 0) : Type 0 where
  pub state : SetState T
  pub events : List (Event T)
  pub turns : ℕ
  pub party : ℕ
  pub changes : ℕ  -- how often words have changed
  pub since : ℕ  -- how often they had when the call began
  pub steps : ℕ  -- of the call
  pub backs : ℕ  -- so often it has turned back

-- what has to be said of one of the two kinds
pub record SetOutline (T : Type 0) : Type 1 where
  pub kind : Kind
  pub no_loan : is_loan kind ≡ false  -- it is no loan channel
  pub promise : Promise T
  pub Holds : ℕ → List ℕ → List (Event T) → ℕ → Type 0  -- what is so of the words and of the events, at this capacity and after so many turns
  -- what a turn preserves: the arguments are the words, events, turns and changes before it, then the words
  -- after it, the events that it writes and the changes after it
  pub Preserves : ℕ → List ℕ → List (Event T) → ℕ → ℕ → List ℕ → List (Event T) → ℕ → Type 0
  pub wrote : ℕ → BitsFlight → Span T → List (Event T)  -- what a party's call under way has written, where this is its span
  pub number : BitsFlight → ℕ → ℕ  -- how many steps it has taken at most, having turned back so often
  pub At : ℕ → List (Event T) → BitsStart → BitsFlight → Type 0  -- where it stands, having written this
  pub Knows : ℕ → List (Event T) → List ℕ → ℕ → ℕ → ℕ → BitsFlight → Type 0  -- what it knows of the events and of the counts

module _ {T : Type 0} where
  -- ---- the family of a kind

  -- how many steps a call has taken at most; a call of another family has taken none
  abbrev pub number_by : (BitsFlight → ℕ → ℕ) → Flight T → ℕ → ℕ
  number_by number (flights.Bits flight) backs = number flight backs
  number_by number flight backs = 0

  -- the call under way is one of a set, and stands where the kind says
  abbrev pub FlightAt : (BitsStart → BitsFlight → Type 0) → Start T → Flight T → Type 0
  FlightAt at (Bits start) (flights.Bits flight) = at start flight
  FlightAt at start flight = ⊥

  -- the call under way is one of a set, and knows what the kind says
  abbrev pub KnowsFlight : (BitsFlight → Type 0) → Flight T → Type 0
  KnowsFlight knows (flights.Bits flight) = knows flight
  KnowsFlight knows flight = ⊥

  module _ (K : SetOutline T) where
    -- what a call under way has written, by the kind
    abbrev pub wrote_by : ℕ → Flight T → Span T → List (Event T)
    wrote_by p (flights.Bits flight) span = K.wrote p flight span
    wrote_by p flight span = []

    -- what the frame asks to know of the family of a kind
    abbrev pub outline : Outline T
    outline =
        record {
          kind = K.kind;
          no_loan = K.no_loan;
          promise = K.promise;
          State = SetState T;
          words = λ s. s.words;
          kept = λ s. registries.Nothing;
          Holds = λ code c s latest events turns. K.Holds c s.words events turns × (s.events ≡ events);
          written = λ c s p flight. wrote_by p flight (span_of p s.events);
          number = λ code c. number_by K.number;
          At = λ code c s p start flight. FlightAt (K.At c (wrote_in (span_of p s.events))) start flight;
          Knows = λ code c s p events since changes backs flight. KnowsFlight (K.Knows p events s.words since changes backs) flight;
          Preserves = λ scene s' was y es changes'.
              K.Preserves scene.capacity scene.state.words scene.events scene.turns scene.changes s'.words es changes'
              × (s'.events ≡ scene.events ++ es);
        }

    -- the family of a kind
    abbrev pub family : Coding T → ℕ → Family T
    family = families.family outline

    -- ---- what a turn shows

    -- `scene` is a turn of party `p` with the machine before it
    module _ (code : Coding T) (c : ℕ) (scene : SetScene T) where
      open scene use {state as s, events, turns, party as p, changes, since, steps, backs}

      -- the state after the turn
      abbrev pub then_state : List ℕ → List (Event T) → SetState T
      then_state words es = record { words = words; events = events ++ es }

      -- what a turn shows that leaves these words, and before which the party's span was `from`
      pub record Shows (words : List ℕ) (from : Span T) (y : Party T) (es : List (Event T)) (changes' : ℕ) : Type 0 where
        -- it preserves what holds, and its events are the party's own and may stand in the span
        pub preserves : K.Preserves c s.words events turns changes words es changes'
        pub own : AreOwn p es
        pub stands : AllFollow (Stands K.promise c) from es
        -- the party's call stands where its span says (`Fits`), and knows what its stage tells
        pub here : frame.Fits (family code c) (then_state words es) p (Some y) (fold own_after from es)
        pub knows : frame.KnowsDoing (family code c) (then_state words es) p (events ++ es) changes' y.backs y.doing

      -- ---- what a step shows

      -- the party after a step with the operation `ask`, by what becomes of its call
      abbrev pub party_then : BitsStart → Option Ask → Bool → After BitsFlight (Answer T) → Party T
      party_then start ask back after =
          record {
            start = Bits start;
            steps = steps + step_count ask;
            backs = backs + one_if back;
            doing = doing_after (changes + change_of s.words ask) (since + change_of s.words ask) (any_call after);
          }

      -- the events of a step: what it did, and then the end of the call if it ends
      abbrev pub events_then : BitsStart → List (Event T) → After BitsFlight (Answer T) → List (Event T)
      events_then start wrote after = wrote ++ ending_of p (Bits start) (answer_in (any_call after))

      -- what a step with the operation `ask` shows, of a call that had written this, by what becomes of it
      abbrev pub StepShows : List (Event T) → BitsStart → Option Ask → Bool → After BitsFlight (Answer T) → List (Event T) → Type 0
      StepShows before start ask back after wrote =
          Shows (words_after s.words ask) (Open (Bits start) before) (party_then start ask back after)
          (events_then start wrote after) (changes + change_of s.words ask)

      -- what a step of this call shows: it is handed the old value of its word
      abbrev pub ShowsStep : List (Event T) → BitsStart → BitsFlight → Type 0
      ShowsStep before start flight =
          StepShows before start (ask_of (want flight)) (goes_back flight (old_of s.words (ask_of (want flight))))
          (after flight (old_of s.words (ask_of (want flight)))) (effects_of p flight (old_of s.words (ask_of (want flight))))

      -- that a step of a call of this name keeps the invariant, from what holds at its stage; `wrote` is what
      -- its party had written before
      abbrev pub StepOf : BitsStart → BitsFlight → List (Event T) → Type 0
      StepOf start flight wrote =
          K.At c (wrote_in (span_of p s.events)) start flight → span_of p events ≡ Open (Bits start) wrote
          → wrote ≡ K.wrote p flight (span_of p s.events) → steps ≤ K.number flight backs
          → K.Knows p events s.words since changes backs flight → ShowsStep wrote start flight
