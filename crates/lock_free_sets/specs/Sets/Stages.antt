-- The call `reset_all`, which empties a set one word at each step, as a call of the model: at which
-- word it stands, and what it has written.
use Rattle.std.specs.Prelude.{◌≡◌, ℕ, ◌+◌, ◌<◌, ◌≤◌, Option, Some, None, IfSome, List, [], false}
use Rattle.steps.specs.Bits.ResetAll.{all_bits, all_counts}
use Rattle.steps.specs.declared.bits.reset_all.ResetAll.{ResetAll as Emptying}
use Rattle.steps.specs.declared.copied.OneWord.{OneWord}
use Rattle.model.specs.declared.event.Answer.TheVariants.{Done}
use Rattle.model.specs.declared.event.Event.{Event}
use Rattle.model.specs.declared.event.Start.{Start}
use Rattle.model.specs.declared.event.Start.TheVariants.{Bits}
use Rattle.model.specs.declared.families.Flight.{Flight}
use Rattle.model.specs.declared.families.Flight.TheVariants as flights
use Rattle.model.specs.declared.families.bits.BitsStart.TheVariants.{ResetAll}
use Rattle.model.specs.declared.families.bits.calls.BitsFlight.{BitsFlight}
use Rattle.model.specs.declared.families.bits.calls.BitsFlight.TheVariants as calls
use Rattle.model.specs.Families.Bits.Steps.{clear_events, take_events}
use Rattle.history.specs.Stages.{Calling}
use Rattle.lock_free_sets.specs.Sets.Kinds.{SetKind, Flags, Counts, first_word, words_of}

-- the call at its first stage, in a set of this capacity
abbrev pub all_words : SetKind → ℕ → Emptying
all_words Flags capacity = all_bits capacity
all_words Counts capacity = all_counts capacity

-- the word at which the model's call stands; 0 for a call that empties no words
abbrev pub set_word : BitsFlight → ℕ
set_word (calls.ResetAll run) = run.call.word
set_word (calls.TakeAll run) = run.call.word
set_word flight = 0

module _ {T : Type 0} where
  -- the word at which a call of any structure stands
  abbrev pub flight_word : Flight T → ℕ
  flight_word (flights.Bits flight) = set_word flight
  flight_word flight = 0

  -- the word at which the call under way stands, or the word `first` before it begins
  abbrev pub word_of : ℕ → Option (Start T × Flight T) → ℕ
  word_of first None = first
  word_of first (Some at) = flight_word at.1

  -- the call of the model that is under way, by the stage and the room
  abbrev pub flight_at : SetKind → Emptying → OneWord → Flight T
  flight_at Flags c m =
      flights.Bits
      (calls.ResetAll (record { call = c; given = tt; room = m }))
  flight_at Counts c m =
      flights.Bits
      (calls.TakeAll (record { call = c; given = tt; room = m }))

  -- what party `p` writes as it empties a word that held `old`
  abbrev pub emptied : SetKind → (p word old : ℕ) → List (Event T)
  emptied Flags p word old = clear_events p word old
  emptied Counts p word old = take_events p word old

  -- What the call wrote since it stood at the word `from`: nothing where it still stands there; once it
  -- has come to the next word, what the emptied word held, which is in the room.
  abbrev pub HasEmptied : SetKind → (p from word : ℕ) → OneWord → List (Event T) → Type 0
  HasEmptied kind p from word m es =
      (from ≤ word) × (word ≡ from → es ≡ []) × (word ≡ from + 1 → es ≡ emptied kind p from m.0)

  -- how `reset_all` of a set with a place is read as a call of the model
  abbrev pub empties : SetKind → Calling T Emptying OneWord (Unit {0})
  empties kind =
      record {
        start = Bits ResetAll;
        -- a pass that has been a party makes the call as that party
        by = λ was p. IfSome was (λ q. q ≡ p);
        -- between two steps the call stands at a word of the set
        stands = λ capacity c.
            (c.end ≡ words_of kind capacity) × (first_word kind ≤ c.word) × (c.word < c.end);
        flight = flight_at kind;
        answer = λ e m. Done;
        -- no word that it loads ends it outside the history
        skips = λ c n. false;
        left = λ e. ⊥;
        -- what it wrote is known for one step at most, since the driver calls the closure after each
        wrote = λ capacity p from c m es.
            HasEmptied kind p (word_of (first_word kind) from) c.word m es;
        wrote_all = λ capacity p from e m es.
            word_of (first_word kind) from + 1 ≡ words_of kind capacity
            → es ≡ emptied kind p (word_of (first_word kind) from) m.0;
      }

  -- how `reset_all` of a set without a place is read as a call of the model: it is over at
  -- once, and writes nothing
  abbrev pub empties_none : SetKind → Calling T Emptying OneWord (Unit {0})
  empties_none kind =
      record {
        start = Bits ResetAll;
        by = λ was p. IfSome was (λ q. q ≡ p);
        stands = λ capacity c. Unit {0};
        flight = flight_at kind;
        answer = λ e m. Done;
        skips = λ c n. false;
        left = λ e. ⊥;
        wrote = λ capacity p from c m es. es ≡ [];
        wrote_all = λ capacity p from e m es. es ≡ [];
      }
