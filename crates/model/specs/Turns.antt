-- What a turn makes of a machine, and what a list of turns does.
use Rattle.std.specs.Prelude.{◌≡◌, ℕ, ◌+◌, ◌-◌, ◌==◌, Bool, true, false, Option, Some, None, List, [], ◌∷◌, ◌++◌, if◌then◌else◌, slice_index, slice_set}
use Rattle.steps.specs.Ask.{written}
use Rattle.steps.specs.declared.ask.Ask.{Ask}
use Rattle.steps.specs.declared.ask.After.{After}
use Rattle.steps.specs.declared.ask.After.TheVariants.{GoOn, Done}
use Rattle.model.specs.declared.families.Flight.{Flight}
use Rattle.model.specs.declared.families.Registry.{Registry}
use Rattle.model.specs.declared.event.Start.{Start}
use Rattle.model.specs.declared.event.Answer.{Answer}
use Rattle.model.specs.declared.event.Event.{Event}
use Rattle.model.specs.declared.event.Event.TheVariants.{Begun, Died, Finished}
use Rattle.model.specs.declared.party.Doing.{Doing}
use Rattle.model.specs.declared.party.Doing.TheVariants.{Going, Over}
use Rattle.model.specs.declared.party.Party.{Party}
use Rattle.model.specs.declared.turn.Refusal.{Refusal}
use Rattle.model.specs.declared.turn.Turn.{Turn}
use Rattle.model.specs.declared.turn.Turn.TheVariants.{Begin, Next, Decide, Die}
use Rattle.model.specs.Coding.{Coding, IsCoding}
use Rattle.model.specs.Families.{first_of, want_of, ask_of, beside_of, step_of, kept_after_begin, kept_after_death}
use Rattle.model.specs.Parties.{party_of, put}
use Rattle.model.specs.Refusals.{refusal_of, call_refusal}
use Rattle.model.specs.Step.{Step, answer_in}
use Rattle.model.specs.World.{World, Trace, opening, opened, capacity_error, queue_error}

-- ---- one operation on one word

-- The value, before the operation, of the word that the operation is on; 0 where there is no operation.
abbrev pub old_of : List ℕ → Option Ask → ℕ
old_of words None = 0
old_of words (Some ask) = slice_index words ask.word

-- The words of the structure after an operation on one of them; where there is no
-- operation they are unchanged.
abbrev pub words_after : List ℕ → Option Ask → List ℕ
words_after words None = words
words_after words (Some ask) =
    slice_set words ask.word (written ask.op (slice_index words ask.word))

-- 1 for an operation that changes its word's value
abbrev pub change_of : List ℕ → Option Ask → ℕ
change_of words None = 0
change_of words (Some ask) =
    if slice_index (words_after words (Some ask)) ask.word == slice_index words ask.word
    then 0
    else 1

-- A decision as the number that its call is handed: 1 for yes, 0 for no.
abbrev pub number_of : Bool → ℕ
number_of true = 1
number_of false = 0

-- The steps that a turn counts: one if it does an operation on a word, else none.
abbrev pub step_count : Option Ask → ℕ
step_count None = 0
step_count (Some ask) = 1

-- A truth value as a number: 1 for true, 0 for false.
abbrev pub one_if : Bool → ℕ
one_if true = 1
one_if false = 0

module _ {T : Type 0} where
  -- the operation that the call under way asks for, if any
  abbrev pub ask_of_doing : Coding T → Doing T → Option Ask
  ask_of_doing code (Going flight since) = ask_of (want_of code flight)
  ask_of_doing code (Over others) = None

  -- ---- a call begins

  -- a party whose call has just begun, at this number of changes
  abbrev pub party_at_begin : Start T → Flight T → ℕ → Party T
  party_at_begin start flight changes =
      record { start = start; steps = 0; backs = 0; doing = Going flight changes }

  -- The machine once the party has begun the call, given the stage at which the call starts. Where
  -- the kind has no such call, no stage is given, and the machine stays as it is.
  abbrev pub after_begin : World T → ℕ → Start T → Option (Flight T) → World T
  after_begin w p start None = w
  after_begin w p start (Some flight) =
      record w {
        kept = kept_after_begin w.coding w.capacity start p w.kept;
        latest = put p (party_at_begin start flight w.changes) w.latest;
        turns = w.turns + 1;
      }

  -- ---- a call goes on

  -- Where a party's latest call stands after a step: under way, or over. `since` is the number of
  -- changes to words before the call plus its own, so `changes - since` is how many the other
  -- parties made during it.
  abbrev pub doing_after : (changes since : ℕ) → After (Flight T) (Answer T) → Doing T
  doing_after changes since (GoOn flight) = Going flight since
  doing_after changes since (Done answer) = Over (changes - since)

  -- A party after a turn of its call: it has taken `steps` steps more, which changed a word's value
  -- `change` times (0 or 1), and `s` says how the call goes on.
  abbrev pub party_after : Party T → ℕ → ℕ → ℕ → ℕ → Step (Flight T) (Registry T) T → Party T
  party_after x since changes steps change s =
      record {
        start = x.start;
        steps = x.steps + steps;
        backs = x.backs + one_if s.back;
        doing = doing_after (changes + change) (since + change) s.after;
      }

  -- The machine after a turn of a party's call: the operation `ask` is done, if there is one, and
  -- `s` says how the call goes on and what the family keeps beside the words.
  abbrev pub after_step : World T → ℕ → Party T → ℕ → Option Ask → Step (Flight T) (Registry T) T → World T
  after_step w p x since ask s =
      record w {
        words = words_after w.words ask;
        kept = s.kept;
        latest = put p
            (party_after x since w.changes (step_count ask) (change_of w.words ask) s) w.latest;
        changes = w.changes + change_of w.words ask;
        turns = w.turns + 1;
      }

  -- What the step of a party's call comes to, if the call is handed `answer`: the old value of its
  -- word, or a decision.
  abbrev pub step_in : World T → ℕ → Party T → Flight T → ℕ → Step (Flight T) (Registry T) T
  step_in w p x flight answer =
      step_of w.coding w.words (beside_of w.words w.kept w.latest p) p x.start flight answer w.kept

  -- The machine after the party's call was handed `answer`. Where the call is over already, the
  -- machine stays as it is.
  abbrev pub after_answer : World T → ℕ → Party T → Option Ask → ℕ → Doing T → World T
  after_answer w p x ask answer (Over others) = w
  after_answer w p x ask answer (Going flight since) =
      after_step w p x since ask (step_in w p x flight answer)

  -- the event with which a call ends, if it has an answer
  abbrev pub ending_of : ℕ → Start T → Option (Answer T) → List (Event T)
  ending_of p start None = []
  ending_of p start (Some answer) = Finished p start answer ∷ []

  -- the events of a step, the end of the call last
  abbrev pub events_of_step : ℕ → Start T → Step (Flight T) (Registry T) T → List (Event T)
  events_of_step p start s = s.wrote ++ ending_of p start (answer_in s.after)

  -- The events of the step of a party's call that is handed `answer`. A call that is over writes none.
  abbrev pub events_of_answer : World T → ℕ → Party T → ℕ → Doing T → List (Event T)
  events_of_answer w p x answer (Over others) = []
  events_of_answer w p x answer (Going flight since) =
      events_of_step p x.start (step_in w p x flight answer)

  -- ---- a turn that is not refused

  -- the turn in which a call goes on, with a decision or without
  abbrev pub turn_of : ℕ → Option Bool → Turn T
  turn_of p None = Next p
  turn_of p (Some said) = Decide p said

  -- The machine after a turn `Next` of a party: the operation that its call asks for is done, and
  -- the call is handed the old value of the word.
  abbrev pub after_next : World T → ℕ → Option (Party T) → World T
  after_next w p None = w
  after_next w p (Some x) =
      after_answer w p x (ask_of_doing w.coding x.doing)
      (old_of w.words (ask_of_doing w.coding x.doing)) x.doing

  -- The machine after a decision for a party: its call is handed yes or no, and no word changes.
  abbrev pub after_decision : World T → ℕ → Bool → Option (Party T) → World T
  after_decision w p said None = w
  after_decision w p said (Some x) = after_answer w p x None (number_of said) x.doing

  -- The machine once the owner is dead: only what the family keeps beside the words changes, and
  -- the number of turns.
  abbrev pub after_death : World T → ℕ → World T
  after_death w owner = record w { kept = kept_after_death w.kept owner; turns = w.turns + 1 }

  -- the machine after a turn that is not refused
  abbrev pub world_after : World T → Turn T → World T
  world_after w (Begin p start) = after_begin w p start (first_of w.kind w.capacity start w.kept)
  world_after w (Next p) = after_next w p (party_of p w.latest)
  world_after w (Decide p said) = after_decision w p said (party_of p w.latest)
  world_after w (Die owner) = after_death w owner

  -- ---- what it writes down

  -- what a turn `Next` of a party writes down, by its latest call
  abbrev pub events_of_next : World T → ℕ → Option (Party T) → List (Event T)
  events_of_next w p None = []
  events_of_next w p (Some x) =
      events_of_answer w p x (old_of w.words (ask_of_doing w.coding x.doing)) x.doing

  -- what a decision for a party writes down, by its latest call
  abbrev pub events_of_decision : World T → ℕ → Bool → Option (Party T) → List (Event T)
  events_of_decision w p said None = []
  events_of_decision w p said (Some x) = events_of_answer w p x (number_of said) x.doing

  -- what a turn that is not refused writes down
  abbrev pub events_of : World T → Turn T → List (Event T)
  events_of w (Begin p start) = Begun p start ∷ []
  events_of w (Next p) = events_of_next w p (party_of p w.latest)
  events_of w (Decide p said) = events_of_decision w p said (party_of p w.latest)
  events_of w (Die owner) = Died owner ∷ []

  -- ---- lists of turns

  -- the machine and its events after a turn that is not refused
  abbrev pub after_turn : Trace T → Turn T → Trace T
  after_turn t turn =
      record { world = world_after t.world turn; events = t.events ++ events_of t.world turn }

  -- the machine and its events after these turns, none of which is refused
  abbrev pub after_turns : Trace T → List (Turn T) → Trace T
  after_turns t [] = t
  after_turns t (turn ∷ turns) = after_turns (after_turn t turn) turns

  -- The machine after a turn that led to `new`, or `old` if the turn was refused: a refused turn
  -- changes nothing.
  abbrev pub unless_refused : (old new : Trace T) → Option Refusal → Trace T
  unless_refused old new None = new
  unless_refused old new (Some refusal) = old

  -- Below, `refuses` says why a turn is refused, or None. A refused turn changes nothing.
  module _ (refuses : World T → Turn T → Option Refusal) where
    -- The machine after one turn, which is taken or refused.
    abbrev pub attempt_by : Trace T → Turn T → Trace T
    attempt_by t turn = unless_refused t (after_turn t turn) (refuses t.world turn)

    -- The machine after these turns one after another, each taken or refused.
    abbrev pub run_by : List (Turn T) → Trace T → Trace T
    run_by [] t = t
    run_by (turn ∷ turns) t = run_by turns (attempt_by t turn)

    -- none of the turns is refused
    abbrev pub AreAllowedBy : Trace T → List (Turn T) → Type 0
    AreAllowedBy t [] = Unit {0}
    AreAllowedBy t (turn ∷ turns) =
        (refuses t.world turn ≡ None) × AreAllowedBy (after_turn t turn) turns

    -- some list of turns leads here from the opening, at a capacity that is admitted
    pub record IsReachedBy (t : Trace T) : Type 0 where
      pub coded : IsCoding t.world.coding
      pub admitted : capacity_error t.world.kind t.world.capacity ≡ None
      pub turns : List (Turn T)
      pub is : t
          ≡ run_by turns (opening t.world.coding t.world.kind t.world.capacity t.world.parties)

  -- The machine after one turn. One that the machine refuses changes nothing.
  abbrev pub attempt : Trace T → Turn T → Trace T
  attempt = attempt_by refusal_of

  -- The machine after these turns, one after another. Those that it refuses change nothing.
  abbrev pub run : List (Turn T) → Trace T → Trace T
  run = run_by refusal_of

  -- none of these turns is refused
  abbrev pub AreAllowed : Trace T → List (Turn T) → Type 0
  AreAllowed = AreAllowedBy refusal_of

  -- The machine after one turn, where neither the number of turns nor the parties' numbers have a
  -- bound: a turn is refused only for the call or the owner.
  abbrev pub attempt_on : Trace T → Turn T → Trace T
  attempt_on = attempt_by call_refusal

  -- The machine after these turns, where neither the number of turns nor the parties' numbers have a bound.
  abbrev pub run_on : List (Turn T) → Trace T → Trace T
  run_on = run_by call_refusal

  -- None of these turns is refused, where neither their number nor the numbers of the parties have a bound.
  abbrev pub AreAllowedOn : Trace T → List (Turn T) → Type 0
  AreAllowedOn = AreAllowedBy call_refusal

  -- Some list of turns leads here from an opening, where neither the number of turns nor the
  -- parties' numbers have a bound.
  abbrev pub IsReachedOn : Trace T → Type 0
  IsReachedOn = IsReachedBy call_refusal

  -- some list of turns leads here from the opening, at a capacity that is admitted, and for a loan channel at a
  -- capacity of its submission queue
  pub record IsReached (t : Trace T) : Type 0 where
    pub coded : IsCoding t.world.coding
    pub admitted : capacity_error t.world.kind t.world.capacity ≡ None
    -- the capacity of a loan channel's submission queue
    pub queue : ℕ
    -- that capacity is admitted too
    pub queued : queue_error t.world.kind queue ≡ None
    pub turns : List (Turn T)
    pub is : t
        ≡ run turns (opened t.world.coding t.world.kind t.world.capacity queue t.world.parties)
