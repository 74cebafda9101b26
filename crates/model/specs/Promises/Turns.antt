-- One turn, in its own words: what it leaves, from the turn and the machine before and after it.
use Rattle.std.specs.Prelude.{◌≡◌, ◌≢◌, ◌⊎◌, ℕ, ◌+◌, Bool, false, Option, Some, None, is_some, is_none, IfSome, List, [], ◌∷◌, ◌++◌, if◌then◌else◌}
use Rattle.std.specs.List.{AllByRecursion}
use Rattle.steps.specs.declared.ask.Ask.{Ask}
use Rattle.steps.specs.declared.ask.After.{After}
use Rattle.steps.specs.declared.ask.After.TheVariants.{GoOn, Done}
use Rattle.model.specs.declared.families.Flight.{Flight}
use Rattle.model.specs.declared.event.Answer.{Answer}
use Rattle.model.specs.declared.event.Event.{Event}
use Rattle.model.specs.declared.event.Event.TheVariants.{Begun, Died, Acted, Finished}
use Rattle.model.specs.declared.party.Progress.{Progress}
use Rattle.model.specs.declared.turn.Turn.{Turn}
use Rattle.model.specs.declared.turn.Turn.TheVariants.{Begin, Next, Decide, Die}
use Rattle.model.specs.Coding.{Coding}
use Rattle.model.specs.Families.{first_of, want_of, ask_of, goes_of}
use Rattle.model.specs.Promise.{Promise}
use Rattle.model.specs.Reading.{whose}
use Rattle.model.specs.Turns.{words_after, old_of, number_of}
use Rattle.model.specs.World.{World, Trace, flight_in, progress_in}

-- ---- the counts of a call

-- How the counts of a call change in its own turn: one step more if an operation was asked for, at most
-- one turn back more, and the count of changes by other parties as it was.
pub record HasGoneOn (asks over : Bool) (old new : Progress) : Type 0 where
  pub steps : new.steps ≡ (if asks then old.steps + 1 else old.steps)
  pub backs : (new.backs ≡ old.backs) ⊎ (new.backs ≡ old.backs + 1)
  pub others : new.others ≡ old.others
  pub finished : new.finished ≡ over

-- The counts of a party's call before and after its own turn, which both exist: the call has gone on from
-- the first to the second.
abbrev pub BothGoOn : (asks over : Bool) → Option Progress → Option Progress → Type 0
BothGoOn asks over (Some old) (Some new) = HasGoneOn asks over old new
BothGoOn asks over (Some old) None = ⊥
BothGoOn asks over None new = ⊥

module _ {T : Type 0} where
  -- the operation that the call under way asks for, if any
  abbrev pub ask_of_flight : Coding T → Option (Flight T) → Option Ask
  ask_of_flight code None = None
  ask_of_flight code (Some flight) = ask_of (want_of code flight)

  -- the operation on a word that the turn asks for, if any
  abbrev pub ask_in : World T → Turn T → Option Ask
  ask_in w (Next p) = ask_of_flight w.coding (flight_in w p)
  ask_in w turn = None

  -- whose turn it is; the death of an owner is nobody's
  abbrev pub IsParty : Turn T → ℕ → Type 0
  IsParty (Begin p start) q = q ≡ p
  IsParty (Next p) q = q ≡ p
  IsParty (Decide p said) q = q ≡ p
  IsParty (Die owner) q = ⊥

  -- ---- the machine

  -- it is the same machine, one turn later
  pub record IsOneTurnLater (old new : World T) : Type 0 where
    pub coding : new.coding ≡ old.coding
    pub kind : new.kind ≡ old.kind
    pub capacity : new.capacity ≡ old.capacity
    pub parties : new.parties ≡ old.parties
    pub turns : new.turns ≡ old.turns + 1

  -- ---- one word

  -- at most the asked word changes, as the operation says
  abbrev pub WritesOneWord : World T → Turn T → World T → Type 0
  WritesOneWord old turn new = new.words ≡ words_after old.words (ask_in old turn)

  -- ---- the party's call

  -- After the turn the party's call stands at this stage, or, if the call is done, the
  -- party has none under way.
  abbrev pub StandsAt : World T → ℕ → After (Flight T) (Answer T) → Type 0
  StandsAt w p (GoOn flight) = flight_in w p ≡ Some flight
  StandsAt w p (Done answer) = flight_in w p ≡ None

  -- a call begins, and a call under way goes on by the old value of the asked word, or by yes or no
  abbrev pub GoesOn : World T → Turn T → World T → Type 0
  GoesOn old (Begin p start) new = flight_in new p ≡ first_of old.kind old.capacity start old.kept
  GoesOn old (Next p) new =
      IfSome (flight_in old p)
      (λ flight. StandsAt new p
      (goes_of old.coding p flight (old_of old.words (ask_of (want_of old.coding flight))) old.kept))
  GoesOn old (Decide p said) new =
      IfSome (flight_in old p)
      (λ flight. StandsAt new p (goes_of old.coding p flight (number_of said) old.kept))
  GoesOn old (Die owner) new = Unit {0}

  -- ---- the counts

  -- A call that has just begun has taken no step. One that was under way counts its turn.
  abbrev pub CountsTurn : World T → Turn T → World T → Type 0
  CountsTurn old (Begin p start) new =
      progress_in new p ≡ Some record { steps = 0; backs = 0; others = 0; finished = false }
  CountsTurn old (Next p) new =
      IfSome (flight_in old p)
      (λ flight. BothGoOn (is_some (ask_in old (Next p))) (is_none (flight_in new p))
      (progress_in old p) (progress_in new p))
  CountsTurn old (Decide p said) new =
      IfSome (flight_in old p)
      (λ flight. BothGoOn false (is_none (flight_in new p)) (progress_in old p) (progress_in new p))
  CountsTurn old (Die owner) new = Unit {0}

  -- a call that is under way counts a change of a word's value, and nothing else
  pub record HasSeen (old new : World T) (before after : Progress) : Type 0 where
    pub steps : after.steps ≡ before.steps
    pub backs : after.backs ≡ before.backs
    pub finished : after.finished ≡ before.finished
    -- no word has changed
    pub same : new.words ≡ old.words → after.others ≡ before.others
    -- a word has changed, and a call under way counts that
    pub changed : new.words ≢ old.words
        → after.others ≡ (if before.finished then before.others else before.others + 1)

  -- the latest call of another party counts at most a change of a word's value; a party without a call has none still
  abbrev pub BothSee : (old new : World T) → Option Progress → Option Progress → Type 0
  BothSee old new None None = Unit {0}
  BothSee old new (Some before) (Some after) = HasSeen old new before after
  BothSee old new None (Some after) = ⊥
  BothSee old new (Some before) None = ⊥

  -- each party whose turn it is not counts at most a change of a word's value
  abbrev pub CountsOthers : World T → Turn T → World T → Type 0
  CountsOthers old turn new =
      (q : ℕ) → ¬ IsParty turn q → BothSee old new (progress_in old q) (progress_in new q)

  -- ---- the order of what is written down

  -- what a step did to the structure: any event of its party but a begin, an act and an end
  abbrev pub IsEffectOf : Turn T → Event T → Type 0
  IsEffectOf turn (Begun p start) = ⊥
  IsEffectOf turn (Acted p start answer) = ⊥
  IsEffectOf turn (Finished p start answer) = ⊥
  IsEffectOf turn (Died o) = ⊥
  IsEffectOf turn e = IfSome (whose e) (IsParty turn)

  -- at this event a call takes effect
  abbrev pub IsAct : Event T → Type 0
  IsAct (Acted p start answer) = Unit {0}
  IsAct e = ⊥

  -- the event is the end of the call of the turn's party
  abbrev pub IsEndOf : Turn T → Event T → Type 0
  IsEndOf turn (Finished p start answer) = IsParty turn p
  IsEndOf turn e = ⊥

  -- what the family says of an event of this turn
  abbrev pub ActsRight : Promise T → Trace T → Turn T → Event T → Type 0
  ActsRight promise old turn e = promise.acts_right old (ask_in old.world turn) (IsParty turn) e

  -- what the step did to the structure, then the acts, then the end
  pub record WritesInOrder (promise : Promise T) (old : Trace T) (turn : Turn T)
      (events : List (Event T)) : Type 0 where
    -- what the step did to the structure
    pub effects : List (Event T)
    -- the calls that took effect
    pub acts : List (Event T)
    -- the end of the party's call, if it has ended
    pub ends : List (Event T)
    pub is : events ≡ old.events ++ ((effects ++ acts) ++ ends)
    pub are_effects : AllByRecursion (IsEffectOf turn) effects
    pub are_acts : AllByRecursion IsAct acts
    pub are_ends : AllByRecursion (IsEndOf turn) ends
    -- each act is one that the family allows here
    pub right : AllByRecursion (ActsRight promise old turn) acts

  -- a turn writes down its begin, the death, or what its step did, then who acted, and then the end of the call
  abbrev pub WritesDown : Promise T → Trace T → Turn T → Trace T → Type 0
  WritesDown promise old (Begin p start) new = new.events ≡ old.events ++ Begun p start ∷ []
  WritesDown promise old (Next p) new = WritesInOrder promise old (Next p) new.events
  WritesDown promise old (Decide p said) new = WritesInOrder promise old (Decide p said) new.events
  WritesDown promise old (Die owner) new = new.events ≡ old.events ++ Died owner ∷ []
