-- The calls of a kind that go on from their words alone: a machine takes their steps as a call alone does.
use Rattle.std.proofs.Common.{◌≡◌, ℕ, ◌+◌, ◌≤◌, Bool, true, false, Option, Some, None, List, [], ◌++◌, refl, sym, subst}
use Rattle.steps.specs.declared.ask.After.{After}
use Rattle.steps.specs.declared.ask.After.TheVariants.{GoOn, Done}
use Rattle.model.specs.declared.event.Answer.{Answer}
use Rattle.model.specs.declared.event.Start.{Start}
use Rattle.model.specs.declared.families.Flight.{Flight}
use Rattle.model.specs.declared.families.Registry.{Registry}
use Rattle.model.specs.declared.turn.Kind.{Kind}
use Rattle.model.specs.declared.turn.Turn.TheVariants.{Begin}
use Rattle.model.specs.Coding.{Coding}
use Rattle.model.specs.Families.{first_of, want_of, ask_of, is_question, after_of, step_of, kept_after_begin}
use Rattle.model.specs.Refusals.{refusal_of}
use Rattle.model.specs.Turns.{IsReached, old_of, words_after, number_of}
use Rattle.model.specs.World.{Trace, words_opened}
use Rattle.headline_whole.specs.Dialogues.{Decision, decided, as_request, as_reply}
use Rattle.headline_whole.proofs.Agree.{Agree, goes_so, agrees_then, agrees_still, writes_none}
use Rattle.headline_whole.proofs.Courses.{Course, IsMadeSo, Holding, IsAfterStep, Steps, Rules}
use Rattle.headline_whole.proofs.Flights.{Turns, Talks, talks_go, talks_hear}

-- `C` is how a structure goes from call to call.
module _ {T : Type 0} (C : Course T) where
  -- how words hold the object (`Holds turns words`), and which object they hold (`read`)
  pub record Speech : Type 1 where
    pub Holds : ℕ → List ℕ → Type 0
    pub read : List ℕ → C.State

  module _ (S : Speech) (code : Coding T) where
    -- the call `start` of party `p`, which began on the object `s` and was told `told`, gives `answer` and leaves the words `last`
    abbrev pub EndsAsObject : C.State → ℕ → ℕ → Start T → List (Decision T) → Answer T → List ℕ → Type 0
    EndsAsObject s turns p start told answer last =
        C.Says s (as_request p start told) (as_reply told answer) × S.Holds (turns + 1) last
        × (S.read last ≡ C.after s (as_request p start told))

    -- The call under way is of the kind's family, and comes, alone, to its end with finitely many
    -- questions, as the object says.
    abbrev pub Speaks : C.State → ℕ → ℕ → Start T → List (Decision T) → Flight T → List ℕ → Registry T → Type 0
    Speaks s turns p start told flight words kept =
        Agree start flight kept × (n : ℕ) × Talks code (EndsAsObject s turns p start) n told flight words

    -- how words stand for an object: between calls they hold it, and during a call the call speaks of it
    abbrev pub talking : Holding C
    talking =
        record {
          Holds = λ turns words kept. S.Holds turns words;
          read = λ words kept. S.read words;
          Under = Speaks;
        }

    -- what has to be shown of the calls of a kind
    pub record Begins (kind : Kind) (capacity : ℕ) : Type 0 where
      pub later : (m n : ℕ) (words : List ℕ) → m ≤ n → S.Holds m words → S.Holds n words
      pub opens : (queue : ℕ) → S.Holds 0 (words_opened kind code.size capacity queue)
      pub first : (queue : ℕ) → C.HasAnswered (S.read (words_opened kind code.size capacity queue)) [] []
      -- an admitted begin puts the call under way
      pub begins : (t : Trace T) (p : ℕ) (start : Start T) (flight : Flight T) → IsReached t → IsMadeSo code kind capacity t
          → refusal_of t.world (Begin p start) ≡ None → S.Holds t.world.turns t.world.words
          → first_of kind capacity start t.world.kept ≡ Some flight
          → Speaks (S.read t.world.words) t.world.turns p start [] flight t.world.words
          (kept_after_begin t.world.coding t.world.capacity start p t.world.kept)

    -- ---- a step of a call that goes on so

    module _ (s : C.State) (turns p : ℕ) (start : Start T) (flight : Flight T) (words next_words : List ℕ) (kept : Registry T)
        (beside : Option (ℕ × ℕ)) (old : ℕ) (agrees : Agree start flight kept) where
      -- After its step the call goes on and asks fewer than n questions, or it has ended as the object says.
      came : (n : ℕ) (told : List (Decision T)) (a : After (Flight T) (Answer T)) → after_of code flight old ≡ a
          → Turns code (EndsAsObject s turns p start) (λ told f ws. Talks code (EndsAsObject s turns p start) n told f ws) told a next_words
          → IsAfterStep C talking s turns p start told a next_words (step_of code words beside p start flight old kept).kept
      came n told (GoOn d) leads left = (agrees_then code words beside p start flight old kept d agrees leads, n, left)
      came n told (Done answer) leads left = left

      -- a step of a call that talks on, or ends so, goes as the rules say
      pub steps : (n : ℕ) (told : List (Decision T))
          → Turns code (EndsAsObject s turns p start)
          (λ told f ws. Talks code (EndsAsObject s turns p start) n told f ws) told (after_of code flight old) next_words
          → Steps C talking s turns p start told next_words (step_of code words beside p start flight old kept)
      steps n told left =
          record {
            none = λ is_call. writes_none is_call code words beside p start flight old kept agrees;
            came =
                subst (λ a. IsAfterStep C talking s turns p start told a next_words (step_of code words beside p start flight old kept).kept)
                (sym (goes_so code words beside p start flight old kept agrees))
                (came n told (after_of code flight old) refl left);
          }

    -- a step that needs no decision goes as the rules say
    goes : (s : C.State) (turns p : ℕ) (start : Start T) (told : List (Decision T)) (flight : Flight T) (words : List ℕ) (kept : Registry T)
        (beside : Option (ℕ × ℕ)) → Agree start flight kept → (n : ℕ) → Talks code (EndsAsObject s turns p start) n told flight words
        → is_question (want_of code flight) ≡ false
        → Steps C talking s turns p start told (words_after words (ask_of (want_of code flight)))
        (step_of code words beside p start flight (old_of words (ask_of (want_of code flight))) kept)
    goes s turns p start told flight words kept beside agrees n talks calm =
        steps s turns p start flight words (words_after words (ask_of (want_of code flight))) kept beside
        (old_of words (ask_of (want_of code flight))) agrees n told
        (talks_go code (EndsAsObject s turns p start) n told flight words talks calm)

    -- a step that is told yes or no goes as the rules say
    hears : (s : C.State) (turns p : ℕ) (start : Start T) (told : List (Decision T)) (flight : Flight T) (words : List ℕ) (kept : Registry T)
        (beside : Option (ℕ × ℕ)) (said : Bool) → Agree start flight kept → (n : ℕ) → Talks code (EndsAsObject s turns p start) n told flight words
        → is_question (want_of code flight) ≡ true
        → Steps C talking s turns p start (told ++ decided code (Some flight) said) words
        (step_of code words beside p start flight (number_of said) kept)
    hears s turns p start told flight words kept beside said agrees n talks asks =
        let heard = talks_hear code (EndsAsObject s turns p start) n told flight words talks asks said in
        steps s turns p start flight words words kept beside (number_of said) agrees heard.0 (told ++ decided code (Some flight) said) heard.1

    -- a kind whose calls begin so keeps to the rules
    pub talk_rules : (kind : Kind) (capacity : ℕ) → Begins kind capacity → Rules C talking code kind capacity
    talk_rules kind capacity L =
        record {
          later = λ m n words kept less h. L.later m n words less h;
          opens = L.opens;
          mourns = λ turns words kept owner h. (h, refl);
          stays = λ s turns p start told flight words kept owner h. (agrees_still start flight kept owner h.0, h.1, h.2);
          begins = L.begins;
          goes = λ s turns p start told flight words kept beside h no. goes s turns p start told flight words kept beside h.0 h.1 h.2 no;
          decides = λ s turns p start told flight words kept beside said h is. hears s turns p start told flight words kept beside said h.0 h.1 h.2 is;
          first = L.first;
        }
