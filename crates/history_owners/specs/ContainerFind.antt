-- A `find` on containers as a call of the model. The answer of its closure may end it, and then it rests at
-- its question (`IsResting`, in `Settled`).
use Rattle.std.specs.Prelude.{◌≡◌, ◌⊎◌, ℕ, zero, suc, ◌+◌, ◌<◌, ◌==◌, if◌then◌else◌, false, None, IfSome, List, [], ◌∷◌, ◌++◌, map}
use Rattle.steps.specs.Container.Find.{find_kept}
use Rattle.steps.specs.declared.container.find.Find.{Find as Finding}
use Rattle.steps.specs.declared.container.find.FindStage.{FindStage}
use Rattle.steps.specs.declared.container.find.FindStage.TheVariants as finds
use Rattle.model.specs.declared.event.Answer.TheVariants.{Number}
use Rattle.model.specs.declared.event.Event.{Event}
use Rattle.model.specs.declared.event.Event.TheVariants.{Copied}
use Rattle.model.specs.declared.event.Start.TheVariants.{Container}
use Rattle.model.specs.declared.families.Flight.TheVariants as flights
use Rattle.model.specs.declared.families.container.ContainerStart.TheVariants.{Find}
use Rattle.model.specs.declared.families.container.calls.ContainerFlight.TheVariants as calls
use Rattle.model.specs.Coding.{Coding}
use Rattle.history.specs.Rooms.{room_of}
use Rattle.history.specs.Stages.{Calling}
use Rattle.history.specs.Rooms.{value_of_room}

-- where a find stands: its index is one of the container, and a word that it loads is one of the value's
abbrev pub FindIn : (size capacity : ℕ) → FindStage → Type 0
FindIn size capacity (finds.LoadsCell index found) = index < capacity
FindIn size capacity (finds.LoadsCount index found) = index < capacity
FindIn size capacity (finds.LoadsWord index found count at) = (index < capacity) × (at < size)
FindIn size capacity (finds.ChecksCount index found count) = index < capacity
FindIn size capacity (finds.Asks index found) = index < capacity

-- ---- what a find has copied: values at indices

module _ {T : Type 0} where
  -- the events are copies of values, by this party, from some of the `number` indices from `from` on, each
  -- index at most once, in ascending order
  abbrev pub HasCopied : ℕ → ℕ → ℕ → List (Event T) → Type 0
  HasCopied p from zero es = es ≡ []
  HasCopied p from (suc number) es =
      HasCopied p from number es
      ⊎ ((before : List (Event T)) × (value : T) × HasCopied p from number before
      × (es ≡ before ++ Copied p (from + number) value ∷ []))

  -- the events by which a party's find tells of these copies
  abbrev pub copies_of : ℕ → List (ℕ × T) → List (Event T)
  copies_of p copies = map (λ (c : ℕ × T). Copied p c.0 c.1) copies

  -- The copies after a step at this stage that was handed this old value: one more, of the value in the room,
  -- where the element's number is still what it was before the words were loaded.
  abbrev pub copies_after : FindStage → ℕ → T → List (ℕ × T) → List (ℕ × T)
  copies_after (finds.ChecksCount index found count) old value copies =
      if old == count then copies ++ (index, value) ∷ [] else copies
  copies_after (finds.LoadsCell index found) old value copies = copies
  copies_after (finds.LoadsCount index found) old value copies = copies
  copies_after (finds.LoadsWord index found count at) old value copies = copies
  copies_after (finds.Asks index found) old value copies = copies

-- Beside its room, which the program has, a find keeps what it has copied, for the proofs alone.
module _ {T R : Type 0} (code : Coding T) (words_in : R → List ℕ) where
  -- The room of a find after a step that was handed this old value:
  -- the words that it copies, and the values copied so far.
  abbrev pub find_copies : (R → ℕ → ℕ → R) → Finding T R → R × List (ℕ × T) → ℕ → R × List (ℕ × T)
  find_copies with_word c m old = (
    find_kept with_word c m.0 old,
    copies_after c.stage old (value_of_room code words_in m.0) m.1,
  )

  -- A find of an owner's values, by the party that the pass has been, if it has been one. It ends with how many there
  -- are, and writes a copy of each value that it showed.
  abbrev pub finds_values : ℕ → Calling T (Finding T R) (R × List (ℕ × T)) ℕ
  finds_values owner =
      record {
        start = Container (Find owner);
        -- the party that the pass was last makes the call, if the pass has been a party
        by = λ was p. IfSome was (λ q. q ≡ p);
        -- what holds of the call between two steps, and which call of the model is then under way
        stands = λ capacity c. (c.capacity ≡ capacity) × FindIn code.size capacity c.stage;
        flight = λ c m.
            flights.Container
            (calls.Find
            (record {
              call = record { capacity = c.capacity; stage = c.stage; of = record {} };
              given = owner;
              room = room_of code.size (words_in m.0);
            }));
        answer = λ n m. Number n;
        -- no word that it loads ends it outside the history
        skips = λ c n. false;
        left = λ e. ⊥;
        -- what was written is known only where the pass has seen the call begin
        wrote = λ capacity p from c m es. from ≡ None → es ≡ copies_of p m.1;
        wrote_all = λ capacity p from n m es. from ≡ None → es ≡ copies_of p m.1;
      }
