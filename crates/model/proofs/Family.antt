-- A family as its own crate says it: what its machine holds between two turns, and what a turn preserves. From that, what
-- each turn of its machine has to show.
use Rattle.model.proofs.Names.{Ask, Begun, Coding, Event, Flight, Kind, List, None, Open, Option, Over, Party, Promise}
use Rattle.model.proofs.Names.{Registry, Some, Span, Stands, Start, Step, Trace, [], beside_of, change_of}
use Rattle.model.proofs.Names.{events_of_step, false, fold, is_loan, kept_after_begin, old_of, own_after, party_after}
use Rattle.model.proofs.Names.{party_at_begin, step_count, step_of, words_after, ℕ, ◌++◌, ◌+◌, ◌∷◌, ◌≡◌}
use Rattle.model.proofs.Frame as frame
use Rattle.model.proofs.Frame.{Family}
use Rattle.model.proofs.Readings.{AreOwn, AllFollow}
use Rattle.model.proofs.Scenes.{asked}

-- where a party's call stands, with the machine around it
pub record Scene (T State : Type 0) : Type 0 where
  -- the machine: its coding and capacity, and the state of the family that it holds
  pub coding : Coding T
  pub capacity : ℕ
  pub state : State
  -- the party, the counts of its call, and the changes of words before the call and by it (`since`)
  pub party : ℕ
  pub steps : ℕ
  pub backs : ℕ
  pub since : ℕ
  -- all changes of words, the latest calls, the events and the number of turns
  pub changes : ℕ
  pub latest : List (ℕ × Party T)
  pub events : List (Event T)
  pub turns : ℕ

-- what is kept and the words are those of a state, which has this registry and this list
pub record Represents {T : Type 0} (registry : Registry T) (list : List ℕ) (its_registry : Registry T) (its_list : List ℕ) : Type 0 where
  pub kept : registry ≡ its_registry
  pub words : list ≡ its_list

-- what a family says of itself, for each coding and each capacity
pub record Outline (T : Type 0) : Type 1 where
  pub kind : Kind
  pub no_loan : is_loan kind ≡ false  -- it is no loan channel, which alone is made with two numbers
  pub promise : Promise T
  pub State : Type 0
  pub words : State → List ℕ  -- the words that hold a state
  pub kept : State → Registry T  -- what the machine keeps beside these words
  pub Holds : Coding T → ℕ → State → List (ℕ × Party T) → List (Event T) → ℕ → Type 0  -- what holds of a state, the calls and the events after some turns
  pub written : ℕ → State → ℕ → Flight T → List (Event T)  -- what a party's call under way has written since its begin, at this capacity
  pub number : Coding T → ℕ → Flight T → ℕ → ℕ  -- the most steps of the call so far, by how often it has turned back
  pub At : Coding T → ℕ → State → ℕ → Start T → Flight T → Type 0  -- a call under way may stand at this stage
  pub Knows : Coding T → ℕ → State → ℕ → List (Event T) → ℕ → ℕ → ℕ → Flight T → Type 0  -- what a call under way knows of events and counts
  -- What a turn of the scene's party preserves: it makes this of the family's state, where the party's call
  -- under way was this one, if any, leaves the party as this, writes these events, and leaves this number of
  -- changes of words.
  pub Preserves : Scene T State → State → Option (Flight T) → Party T → List (Event T) → ℕ → Type 0

module _ {T : Type 0} (K : Outline T) where
  -- the family of a kind, as the frame takes it: its promise, and what it holds and knows of each call
  abbrev pub family : Coding T → ℕ → Family T
  family code c =
      record {
        coding = code;
        kind = K.kind;
        promise = K.promise;
        capacity = c;
        State = K.State;
        Represents = λ kept words s. Represents kept words (K.kept s) (K.words s);
        Holds = λ s latest events turns. K.Holds code c s latest events turns;
        written = λ s p flight. K.written c s p flight;
        number = λ wrote. K.number code c;
        At = λ s p start flight. K.At code c s p start flight;
        Knows = λ s p events since changes backs flight. K.Knows code c s p events since changes backs flight;
      }

  module _ (scene : Scene T K.State) where
    -- The family of the scene's machine, as the frame takes it.
    abbrev F : Family T
    F = family scene.coding scene.capacity

    -- The invariant at the scene: what the family says of its state holds, and the frame's
    -- invariant does.
    pub record Inv : Type 0 where
      pub holds : K.Holds scene.coding scene.capacity scene.state scene.latest scene.events scene.turns
      pub frame : frame.Inv F scene.state scene.latest scene.events scene.changes

    -- what a turn shows that preserves this, where the state becomes this and the party's span was this
    pub record Shows (Preserved : Type 0) (s' : K.State) (from : Span T) (y : Party T) (es : List (Event T)) (changes' : ℕ) : Type 0 where
      pub preserves : Preserved
      pub own : AreOwn scene.party es
      pub stands : AllFollow (Stands K.promise scene.capacity) from es
      pub here : frame.Fits F s' scene.party (Some y) (fold own_after from es)
      pub knows : frame.KnowsDoing F s' scene.party (scene.events ++ es) changes' y.backs y.doing

    -- What a turn shows that preserves what the family asks, from the flight of the party's call before it.
    abbrev pub ShowsFrom : Option (Flight T) → K.State → Span T → Party T → List (Event T) → ℕ → Type 0
    ShowsFrom was s' from y es changes' = Shows (K.Preserves scene s' was y es changes') s' from y es changes'

    -- ---- a step

    -- The words of the scene's machine.
    abbrev pub words : List ℕ
    words = K.words scene.state

    -- the party after this step of its call, which does this operation
    abbrev pub party_then : Start T → Option Ask → Step (Flight T) (Registry T) T → Party T
    party_then start ask step =
        party_after (record { start = start; steps = scene.steps; backs = scene.backs; doing = Over 0 }) scene.since
        scene.changes (step_count ask) (change_of words ask) step

    -- how often words have changed then
    abbrev pub changes_then : Option Ask → ℕ
    changes_then ask = scene.changes + change_of words ask

    -- a step after which the state is this, and which writes these events
    abbrev pub Leaves : K.State → List (Event T) → Start T → Flight T → Option Ask → Step (Flight T) (Registry T) T → Type 0
    Leaves s' es start flight ask step =
        ShowsFrom (Some flight) s' (Open start (K.written scene.capacity scene.state scene.party flight)) (party_then start ask step) es (changes_then ask)

    -- A step of the call leads to a state of the family, whose words and registry are those after the step,
    -- and keeps the invariant (`Leaves`).
    pub record Moves (start : Start T) (flight : Flight T) (ask : Option Ask) (step : Step (Flight T) (Registry T) T) : Type 0 where
      pub state : K.State
      pub kept : step.kept ≡ K.kept state
      pub words : words_after (K.words scene.state) ask ≡ K.words state
      pub shows : Leaves state (events_of_step scene.party start step) start flight ask step

    -- the step of a call under way
    abbrev pub StepOf : Start T → Flight T → Type 0
    StepOf start flight =
        Moves start flight (asked scene.coding flight)
        (step_of scene.coding words (beside_of words (K.kept scene.state) scene.latest scene.party) scene.party start flight
        (old_of words (asked scene.coding flight)) (K.kept scene.state))

    -- ---- a begin

    -- A begin leads to a state of the family, in which the call stands where it starts and has
    -- written nothing.
    pub record Begins (start : Start T) (flight : Flight T) : Type 0 where
      -- the state after the begin, which the registry and the words hold
      pub state : K.State
      pub kept : kept_after_begin scene.coding scene.capacity start scene.party (K.kept scene.state) ≡ K.kept state
      pub words : K.words scene.state ≡ K.words state
      -- what the family asks each turn to preserve
      pub preserves : K.Preserves scene state None (party_at_begin start flight scene.changes) (Begun scene.party start ∷ []) scene.changes
      -- the call stands at its first stage, has written nothing, and knows what its stage says
      pub at : K.At scene.coding scene.capacity state scene.party start flight
      pub wrote : K.written scene.capacity state scene.party flight ≡ []
      pub knows : K.Knows scene.coding scene.capacity state scene.party (scene.events ++ Begun scene.party start ∷ []) scene.changes scene.changes 0 flight

  -- ---- the scene of a party in a machine

  module _ (code : Coding T) (c : ℕ) (t : Trace T) (s : frame.Sound (family code c) t) (p steps backs since : ℕ) where
    -- what a party's turn finds in a machine that keeps the invariant
    abbrev pub scene_of : Scene T K.State
    scene_of =
        record {
          coding = code;
          capacity = c;
          state = s.state;
          party = p;
          steps = steps;
          backs = backs;
          since = since;
          changes = t.world.changes;
          latest = t.world.latest;
          events = t.events;
          turns = t.world.turns;
        }

    pub inv_of : Inv scene_of
    inv_of = record { holds = s.holds; frame = s.inv }
