-- The machine that a program's parts make, and what a turn of one party makes of its parts.
use Rattle.std.specs.Prelude.{◌≡◌, ◌⊎◌, ℕ, zero, suc, ◌+◌, Bool, if◌then◌else◌, not, Option, Some, None, is_none, List, ◌∷◌, ◌++◌}
use Rattle.steps.specs.declared.ask.Ask.{Ask}
use Rattle.model.specs.declared.event.Event.{Event}
use Rattle.model.specs.declared.event.Start.{Start}
use Rattle.model.specs.declared.families.Flight.{Flight}
use Rattle.model.specs.declared.families.Registry.{Registry}
use Rattle.model.specs.declared.party.Doing.{Doing}
use Rattle.model.specs.declared.party.Doing.TheVariants.{Going, Over}
use Rattle.model.specs.declared.party.Party.{Party}
use Rattle.model.specs.declared.turn.Refusal.{Refusal}
use Rattle.model.specs.declared.turn.Refusal.TheVariants.{Idle, Undecided, NoMemory}
use Rattle.model.specs.Coding.{Coding}
use Rattle.model.specs.Families.{want_of, ask_of, step_of, going_rows, beside_of}
use Rattle.model.specs.Parties.{flight_of, is_over}
use Rattle.model.specs.Refusals.{is_due}
use Rattle.model.specs.Rows.{first_row}
use Rattle.model.specs.Step.{Step}
use Rattle.model.specs.Turns.{old_of, words_after, change_of, step_count, number_of, party_after, events_of_step}
use Rattle.model.specs.World.{Trace, State, trace_in}
use Rattle.machine_parts.specs.declared.parts.Parts.{Parts}

-- the parts of a machine as the state of the model
abbrev pub state_of : {T : Type 0} → Parts T → State T
state_of m =
    record {
      kind = m.kind;
      capacity = m.capacity;
      parties = m.parties;
      words = m.words.items;
      kept = m.kept;
      latest = m.latest.entries;
      changes = m.changes;
      turns = m.turns;
      events = m.events.items;
    }

-- the machine that these parts make
abbrev pub trace_of : {T : Type 0} → Coding T → Parts T → Trace T
trace_of code m = trace_in code (state_of m)

module _ {T : Type 0} where
  -- the call that a party has under way
  abbrev pub start_of : Option (Party T) → Option (Start T)
  start_of None = None
  start_of (Some x) = if is_over x.doing then None else Some x.start

  -- The rows of refusals for the call that is to go on by a step (None) or by a decision: there is no call, a
  -- decision is due or none is, and what its family forbids.
  abbrev pub turn_rows : Coding T → Registry T → Option (Flight T) → Option Bool → List (Bool × Refusal)
  turn_rows code kept flight None =
      (is_none flight, Idle) ∷ (is_due code flight, Undecided) ∷ going_rows code kept flight None
  turn_rows code kept flight (Some said) =
      (is_none flight, Idle)
      ∷ (not (is_due code flight), Undecided)
      ∷ going_rows code kept flight (Some said)

  -- why a pending call does not go on, with a decision or without, if it does not
  abbrev pub going_refusal : Coding T → Registry T → Doing T → Option Bool → Option Refusal
  going_refusal code kept doing said = first_row (turn_rows code kept (flight_of (Some doing)) said)

  -- a refusal of a call that is to go on names the first row that applies; where none does, memory was refused
  abbrev pub IsGoingRefusal : Coding T → Registry T → Doing T → Option Bool → Refusal → Type 0
  IsGoingRefusal code kept doing said refusal =
      (going_refusal code kept doing said ≡ Some refusal)
      ⊎ (going_refusal code kept doing said ≡ None) × (refusal ≡ NoMemory)

  -- the operation that the call does: none with a decision
  abbrev pub ask_with : Coding T → Option Bool → Flight T → Option Ask
  ask_with code None flight = ask_of (want_of code flight)
  ask_with code (Some said) flight = None

  -- what the call is handed: the old value of its word, or the decision
  abbrev pub answer_with : Coding T → Option Bool → List ℕ → Flight T → ℕ
  answer_with code None words flight = old_of words (ask_of (want_of code flight))
  answer_with code (Some said) words flight = number_of said

-- what a turn of a party's call reads and changes: the party, the words, what its family keeps, the number of
-- changes and the events
pub record Around (T : Type 0) : Type 0 where
  pub party : Party T
  pub words : List ℕ
  pub kept : Registry T
  pub changes : ℕ
  pub events : List (Event T)

module _ {T : Type 0} where
  -- the five parts of `Around`, put together
  abbrev pub around : Party T → List ℕ → Registry T → ℕ → List (Event T) → Around T
  around party words kept changes events =
      record {
        party = party;
        words = words;
        kept = kept;
        changes = changes;
        events = events;
      }

  -- What is left after a step s of the party's call that does the operation `ask`: the word is written, the
  -- changes and the party's counts are raised, and the events of the step are appended.
  abbrev after_going : ℕ → Option Ask → Party T → ℕ → Around T
      → Step (Flight T) (Registry T) T → Around T
  after_going p ask x since a s =
      record {
        party = party_after x since a.changes (step_count ask) (change_of a.words ask) s;
        words = words_after a.words ask;
        kept = s.kept;
        changes = a.changes + change_of a.words ask;
        events = a.events ++ events_of_step p x.start s;
      }

  -- what is left after a turn of the party's call; a call that has ended changes nothing
  abbrev pub after_turn_of : Coding T → ℕ → Option Bool → Option (ℕ × ℕ) → Doing T → Around T
      → Around T
  after_turn_of code p said beside (Over others) a = a
  after_turn_of code p said beside (Going flight since) a =
      after_going p (ask_with code said flight) a.party since a
      (step_of code a.words beside p a.party.start flight
      (answer_with code said a.words flight) a.kept)

  -- in a family that keeps this beside the words, no step of any party can make another party's call act
  abbrev pub StandsAlone : Registry T → Type 0
  StandsAlone kept = (words : List ℕ) (latest : List (ℕ × Party T)) (p : ℕ) → beside_of words kept latest p ≡ None

  -- n steps of the party's call lead from a to b: none of them is refused, and none can make
  -- another party's call act
  abbrev pub Steps : Coding T → ℕ → ℕ → Around T → Around T → Type 0
  Steps code p zero a b = b ≡ a
  Steps code p (suc n) a b =
      (mid : Around T) × Steps code p n a mid × StandsAlone mid.kept
      × (going_refusal code mid.kept mid.party.doing None ≡ None)
      × (b ≡ after_turn_of code p None None mid.party.doing mid)
