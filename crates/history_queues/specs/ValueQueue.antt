-- The calls of a queue of values that push, pop and peek, as calls of the model. The calls on its roles and
-- its lengths are those of any queue (`Queues`).
use Rattle.std.specs.Prelude.{◌≡◌, ℕ, ◌^◌, ◌<◌, Bool, true, false, List, [], ◌∷◌}
use Rattle.steps.specs.declared.queues.peek.Peek.{Peek as Peeking}
use Rattle.steps.specs.declared.queues.peek.PeekStage.{PeekStage}
use Rattle.steps.specs.declared.queues.peek.PeekStage.TheVariants as peeks
use Rattle.steps.specs.declared.queues.ring.Pop.{Pop as Popping}
use Rattle.steps.specs.declared.queues.ring.PopStage.{PopStage}
use Rattle.steps.specs.declared.queues.ring.PopStage.TheVariants as pops
use Rattle.steps.specs.declared.queues.ring.Push.{Push as Pushing}
use Rattle.steps.specs.declared.queues.ring.PushStage.{PushStage}
use Rattle.steps.specs.declared.queues.ring.PushStage.TheVariants as pushes
use Rattle.steps.specs.Copied.{value_in}
use Rattle.steps.specs.Queues.Ring.{cell_word, pop_answer}
use Rattle.model.specs.declared.event.Answer.TheVariants.{Truth, Popped, PoppedNone}
use Rattle.model.specs.declared.event.Event.{Event}
use Rattle.model.specs.declared.event.Event.TheVariants.{Published, HandedOut, Acted}
use Rattle.model.specs.declared.event.Item.TheVariants.{Value}
use Rattle.model.specs.declared.event.Start.TheVariants.{Queues}
use Rattle.model.specs.declared.families.Flight.TheVariants as flights
use Rattle.model.specs.declared.families.queues.QueueStart.TheVariants.{Push, Pop, Peek}
use Rattle.model.specs.declared.families.queues.calls.QueueFlight.TheVariants.{Values}
use Rattle.model.specs.declared.families.queues.calls.RingCall.TheVariants as rings
use Rattle.model.specs.Coding.{Coding}
use Rattle.model.specs.Families.Queues.Calls.{popped_value}
use Rattle.history_queues.specs.Queues.{push_skips}
use Rattle.history.specs.Rooms.{room_of}
use Rattle.history.specs.Stages.{Calling}
use Rattle.history.specs.Rooms.{value_there}

-- the place `at` of this cell is that of a word of a value, and the cell is that of the position
abbrev pub IsWordOf : (size capacity position cell at : ℕ) → Type 0
IsWordOf size capacity position cell at =
    (0 < capacity) × (cell ≡ cell_word capacity size position) × (at < size)

-- a push that stores a word stores it to its place in the cell of the write position
abbrev pub PushPlace : (size capacity : ℕ) → PushStage → Type 0
PushPlace size capacity (pushes.StoresCell write cell at) =
    IsWordOf size capacity write cell at
PushPlace size capacity stage = Unit {0}

-- a pop that loads a word loads it from its place in the cell of the read position
abbrev pub PopPlace : (size capacity : ℕ) → PopStage → Type 0
PopPlace size capacity (pops.LoadsCell read cell at) =
    IsWordOf size capacity read cell at
PopPlace size capacity stage = Unit {0}

-- a peek that loads a word loads it from its place in the cell of a position
abbrev pub PeekPlace : (size capacity : ℕ) → PeekStage → Type 0
PeekPlace size capacity (peeks.LoadsCell cell at) = (position : ℕ) × IsWordOf size capacity position cell at
PeekPlace size capacity stage = Unit {0}

module _ {T : Type 0} where
  -- what a push has written once it has ended
  abbrev pub value_push_wrote : ℕ → T → Bool → List (Event T)
  value_push_wrote p v true =
      Published p (Value v) ∷ Acted p (Queues (Push v)) (Truth true) ∷ []
  value_push_wrote p v false = Acted p (Queues (Push v)) (Truth false) ∷ []

  -- what a pop has written once it has ended, with this value or none
  abbrev pub value_pop_wrote : ℕ → T → Bool → List (Event T)
  value_pop_wrote p v true = HandedOut p (Value v) ∷ Acted p (Queues Pop) (Popped v) ∷ []
  value_pop_wrote p v false = Acted p (Queues Pop) PoppedNone ∷ []

module _ {T : Type 0} (code : Coding T) where
  -- A push of this value, by any party. It ends with whether there was room, and writes its events as it ends. A push
  -- that loads the last write position answers false, and is none of the history.
  abbrev pub pushes_value : T → Calling T (Pushing T) (Unit {0}) Bool
  pushes_value v =
      record {
        start = Queues (Push v);
        -- any party may make the call, whichever party the pass was last
        by = λ was p. Unit {0};
        -- what holds of the call between two steps, and which call of the model is then under way
        stands = λ capacity c.
            (capacity < 2 ^ 32) × (c.capacity ≡ capacity) × PushPlace code.size capacity c.stage;
        -- loading the last position or version ends it outside the history
        skips = λ c n. push_skips c.stage n;
        left = λ e. e ≡ false;
        flight = λ c m. flights.Queues
            (Values (rings.Push (record { call = c; given = v; room = m })));
        answer = λ e m. Truth e;
        -- under way it has written nothing yet
        wrote = λ capacity p from c m es. es ≡ [];
        wrote_all = λ capacity p from e m es. es ≡ value_push_wrote p v e;
      }

-- A pop and a peek read by way of a room that has these words.
module _ {T R : Type 0} (code : Coding T) (words_in : R → List ℕ) where
  -- A pop of a value, by any party. It ends with whether it took a value out, whose words are then in its room, and
  -- writes its events as it ends.
  abbrev pub pops_value : Calling T (Popping T R) R Bool
  pops_value =
      record {
        start = Queues Pop;
        -- any party may make the call, whichever party the pass was last
        by = λ was p. Unit {0};
        -- what holds of the call between two steps, and which call of the model is then under way
        stands = λ capacity c.
            (capacity < 2 ^ 32) × (c.capacity ≡ capacity) × PopPlace code.size capacity c.stage;
        -- no word that it loads ends it outside the history
        skips = λ c n. false;
        left = λ e. ⊥;
        flight = λ c m. flights.Queues
            (Values (rings.Pop
            (record {
              call = record { capacity = c.capacity; stage = c.stage; of = record {} };
              given = tt;
              room = room_of code.size (words_in m);
            })));
        answer = λ e m. popped_value (pop_answer (value_there code words_in m) e);
        -- under way it has written nothing yet
        wrote = λ capacity p from c m es. es ≡ [];
        wrote_all = λ capacity p from e m es. es ≡ value_pop_wrote p (value_there code words_in m) e;
      }

  -- A peek at a value, by any party. It ends with whether there was one, whose words are then in its room,
  -- and writes nothing between its begin and its end.
  abbrev pub peeks_value : Calling T (Peeking T R) R Bool
  peeks_value =
      record {
        start = Queues Peek;
        -- any party may make the call, whichever party the pass was last
        by = λ was p. Unit {0};
        -- what holds of the call between two steps, and which call of the model is then under way
        stands = λ capacity c.
            (capacity < 2 ^ 32) × (c.capacity ≡ capacity) × PeekPlace code.size capacity c.stage;
        -- no word that it loads ends it outside the history
        skips = λ c n. false;
        left = λ e. ⊥;
        flight = λ c m. flights.Queues
            (Values (rings.Peek
            (record {
              call = record { capacity = c.capacity; stage = c.stage; of = record {} };
              given = tt;
              room = room_of code.size (words_in m);
            })));
        answer = λ e m. popped_value (pop_answer (value_there code words_in m) e);
        -- under way it has written nothing yet
        wrote = λ capacity p from c m es. es ≡ [];
        wrote_all = λ capacity p from e m es. es ≡ [];
      }
