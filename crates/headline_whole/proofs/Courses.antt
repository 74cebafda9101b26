-- What is to be shown of the calls of a kind, if each runs whole (begins when no other call is under way): what a
-- call makes of the object of the run, and what each turn keeps.
use Rattle.std.proofs.Common.{◌≡◌, ℕ, ◌+◌, ◌≤◌, Bool, true, false, Option, Some, None, List, [], ◌∷◌, ◌++◌}
use Rattle.std.specs.List.{flat_map}
use Rattle.steps.specs.declared.ask.After.{After}
use Rattle.steps.specs.declared.ask.After.TheVariants.{GoOn, Done}
use Rattle.model.specs.declared.event.Answer.{Answer}
use Rattle.model.specs.declared.event.Event.{Event}
use Rattle.model.specs.declared.event.Event.TheVariants.{Finished}
use Rattle.model.specs.declared.event.Start.{Start}
use Rattle.model.specs.declared.families.Flight.{Flight}
use Rattle.model.specs.declared.families.Registry.{Registry}
use Rattle.model.specs.declared.turn.Kind.{Kind}
use Rattle.model.specs.declared.turn.Turn.TheVariants.{Begin}
use Rattle.model.specs.Coding.{Coding}
use Rattle.model.specs.Families.{first_of, want_of, ask_of, is_question, step_of, kept_after_begin, kept_after_death}
use Rattle.model.specs.Refusals.{refusal_of}
use Rattle.model.specs.Step.{Step}
use Rattle.model.specs.Turns.{IsReached, old_of, words_after, number_of}
use Rattle.model.specs.World.{Trace, words_opened, kept_opened}
use Rattle.headline_whole.specs.Dialogues.{Request, Reply, Decision, decided, as_request, as_reply}
use Rattle.headline_whole.specs.Whole as whole

module _ {T : Type 0} where
  -- none of the events `es` ends a call
  abbrev pub NoneEnds : List (Event T) → Type 0
  NoneEnds es = (is_call : Start T → Bool) → flat_map (whole.answer_in is_call) es ≡ []

-- An object of a run: what a call makes of it (`after`) and may say (`Says`), and when it is the object after these events and
-- finished calls (`HasAnswered`), also after events that end no call (`quiet`) and after one call more (`once`).
pub record Course (T : Type 0) : Type 1 where
  pub State : Type 0
  pub after : State → Request T → State
  pub Says : State → Request T → Reply T → Type 0
  pub HasAnswered : State → List (Event T) → List (Request T × Reply T) → Type 0
  pub quiet : (s : State) (events es : List (Event T)) (calls : List (Request T × Reply T)) → NoneEnds es → HasAnswered s events calls
      → HasAnswered s (events ++ es) calls
  -- one call more that ended with an answer which the object may give
  pub once : (s : State) (events wrote : List (Event T)) (calls : List (Request T × Reply T)) (p : ℕ) (start : Start T)
      (told : List (Decision T)) (answer : Answer T) → NoneEnds wrote → Says s (as_request p start told) (as_reply told answer)
      → HasAnswered s events calls
      → HasAnswered (after s (as_request p start told)) (events ++ (wrote ++ Finished p start answer ∷ []))
      (calls ++ (as_request p start told, as_reply told answer) ∷ [])

module _ {T : Type 0} where
  -- the trace is one of a machine with this coding, kind and capacity
  pub record IsMadeSo (z : Coding T) (k : Kind) (c : ℕ) (t : Trace T) : Type 0 where
    pub coding : t.world.coding ≡ z
    pub kind : t.world.kind ≡ k
    pub capacity : t.world.capacity ≡ c

  -- `C` is how a structure goes from call to call.
  module _ (C : Course T) where
    -- how words and what is kept hold the object (`Holds turns words kept`), and which object they hold
    pub record Holding : Type 1 where
      pub Holds : ℕ → List ℕ → Registry T → Type 0
      pub read : List ℕ → Registry T → C.State
      -- The call `start` of party `p` is under way. It began where the object was `s` and `turns` turns were taken, and was told
      -- `told` since. It stands at `flight` over `words` and what is kept.
      pub Under : (s : C.State) (turns p : ℕ) (start : Start T) (told : List (Decision T)) (flight : Flight T) (words : List ℕ)
          (kept : Registry T) → Type 0

    module _ (H : Holding) where
      -- What holds of a call after its step: it is still under way, or it has answered as the object says and left
      -- words that hold the object after the call.
      abbrev pub IsAfterStep : C.State → ℕ → ℕ → Start T → List (Decision T) → After (Flight T) (Answer T) → List ℕ → Registry T → Type 0
      IsAfterStep s turns p start told (GoOn flight) words kept = H.Under s turns p start told flight words kept
      IsAfterStep s turns p start told (Done answer) words kept =
          C.Says s (as_request p start told) (as_reply told answer) × H.Holds (turns + 1) words kept
          × (H.read words kept ≡ C.after s (as_request p start told))

      -- A step of the call ends no other call in what it writes, and leaves the call as `IsAfterStep` says.
      pub record Steps (s : C.State) (turns p : ℕ) (start : Start T) (told : List (Decision T)) (words : List ℕ)
          (step : Step (Flight T) (Registry T) T) : Type 0 where
        pub none : NoneEnds step.wrote
        pub came : IsAfterStep s turns p start told step.after words step.kept

      -- What is to be shown for a kind: how the words hold the object later, at the opening and after a death, and
      -- that each sort of turn (a begin, a step, a decision, a death) keeps what `Holds` and `Under` say.
      pub record Rules (code : Coding T) (kind : Kind) (capacity : ℕ) : Type 0 where
        pub later : (m n : ℕ) (words : List ℕ) (kept : Registry T) → m ≤ n → H.Holds m words kept → H.Holds n words kept
        pub opens : (queue : ℕ) → H.Holds 0 (words_opened kind code.size capacity queue) (kept_opened kind capacity queue)
        pub mourns : (turns : ℕ) (words : List ℕ) (kept : Registry T) (owner : ℕ) → H.Holds turns words kept
            → H.Holds turns words (kept_after_death kept owner) × (H.read words (kept_after_death kept owner) ≡ H.read words kept)
        -- the death of an owner leaves the call under way where it is
        pub stays : (s : C.State) (turns p : ℕ) (start : Start T) (told : List (Decision T)) (flight : Flight T) (words : List ℕ)
            (kept : Registry T) (owner : ℕ) → H.Under s turns p start told flight words kept
            → H.Under s turns p start told flight words (kept_after_death kept owner)
        -- an admitted begin puts the call under way
        pub begins : (t : Trace T) (p : ℕ) (start : Start T) (flight : Flight T) → IsReached t → IsMadeSo code kind capacity t
            → refusal_of t.world (Begin p start) ≡ None → H.Holds t.world.turns t.world.words t.world.kept
            → first_of kind capacity start t.world.kept ≡ Some flight
            → H.Under (H.read t.world.words t.world.kept) t.world.turns p start [] flight t.world.words
            (kept_after_begin t.world.coding t.world.capacity start p t.world.kept)
        -- a step without a decision keeps the call under way, or ends it as the object says
        pub goes : (s : C.State) (turns p : ℕ) (start : Start T) (told : List (Decision T)) (flight : Flight T) (words : List ℕ)
            (kept : Registry T) (beside : Option (ℕ × ℕ)) → H.Under s turns p start told flight words kept
            → is_question (want_of code flight) ≡ false
            → Steps s turns p start told (words_after words (ask_of (want_of code flight)))
            (step_of code words beside p start flight (old_of words (ask_of (want_of code flight))) kept)
        -- a decision keeps the call under way, or ends it as the object says
        pub decides : (s : C.State) (turns p : ℕ) (start : Start T) (told : List (Decision T)) (flight : Flight T) (words : List ℕ)
            (kept : Registry T) (beside : Option (ℕ × ℕ)) (said : Bool) → H.Under s turns p start told flight words kept
            → is_question (want_of code flight) ≡ true
            → Steps s turns p start (told ++ decided code (Some flight) said) words
            (step_of code words beside p start flight (number_of said) kept)
        -- at the opening, where nothing has happened, the object is the one that the words hold
        pub first : (queue : ℕ)
            → C.HasAnswered (H.read (words_opened kind code.size capacity queue) (kept_opened kind capacity queue)) [] []
