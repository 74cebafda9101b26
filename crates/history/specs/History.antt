-- The invariant of a table that is a machine (`IsMachine`), and what the pass of a caller knows of its
-- history (`Knows`) and of a call that it made (`Called`).
use Rattle.std.specs.List.{AllByRecursion}
use Rattle.std.specs.Prelude.{◌≡◌, ◌≢◌, ◌≤◌, ◌<◌, ◌⊎◌, ℕ, ◌+◌, Option, Some, None, IfSome, List, [], ◌∷◌, ◌++◌, length, sum_by}
use mathlib.Core.Option.{some}
use lib.ListN.{get_elem?}
use Rattle.atomic_table.specs.Table.{State}
use Rattle.model.specs.declared.event.Answer.{Answer}
use Rattle.model.specs.declared.event.Answer.TheVariants.{PoppedNone}
use Rattle.model.specs.declared.event.Event.{Event}
use Rattle.model.specs.declared.event.Event.TheVariants.{Begun, Acted, Finished}
use Rattle.model.specs.declared.event.Start.{Start}
use Rattle.model.specs.declared.families.Flight.{Flight}
use Rattle.model.specs.declared.families.Flight.TheVariants as flights
use Rattle.model.specs.declared.families.queues.calls.OverflowCall.TheVariants as overflows
use Rattle.model.specs.declared.families.queues.calls.QueueFlight.TheVariants.{Overflow}
use Rattle.model.specs.declared.party.Doing.{Doing}
use Rattle.model.specs.declared.party.Doing.TheVariants.{Going, Over}
use Rattle.model.specs.declared.party.Party.{Party}
use Rattle.model.specs.declared.turn.Kind.{Kind}
use Rattle.model.specs.declared.turn.Kind.TheVariants as kinds
use Rattle.model.specs.declared.turn.Refusal.{Refusal}
use Rattle.model.specs.declared.turn.Turn.{Turn}
use Rattle.model.specs.declared.turn.Turn.TheVariants.{Next}
use Rattle.model.specs.Coding.{Coding, IsCoding}
use Rattle.model.specs.Families.Container.Looks.{state_in}
use Rattle.model.specs.Parties.{party_of, others_of}
use Rattle.model.specs.Refusals.{call_refusal}
use Rattle.model.specs.LockFree.{steps_in as run_steps}
use Rattle.model.specs.Turns.{IsReachedOn, AreAllowedBy, after_turn, after_turns, events_of}
use Rattle.model.specs.World.{World, Trace, opening, capacity_error}
use Rattle.model.specs.Fresh.{IsFreshRun, IsFreshTurn}
use Rattle.model.specs.Open.{IsReachedOpen, open_refusal}
use Rattle.threaded.specs.declared.share.Share.{Share}
use Rattle.threaded.specs.Shares.{IsAll}
use Rattle.history.specs.Known.{Known, events_by, by_party, owned}
use Rattle.history.specs.declared.view.View.{View}

-- the share is a part of the whole, and not nothing
abbrev pub IsPart : Share → Type 0
IsPart s = (0 < s.parts) × (s.part ≤ s.parts)

module _ {T : Type 0} where
  -- ---- where a party's call stands

  -- the party's call, begun by this start, with where it stands; none if it is over
  abbrev pub call_at : Start T → Doing T → Option (Start T × Flight T)
  call_at start (Going flight since) = Some (start, flight)
  call_at start (Over others) = None

  -- the call under way of a party that has had one
  abbrev pub call_of : Option (Party T) → Option (Start T × Flight T)
  call_of None = None
  call_of (Some x) = call_at x.start x.doing

  -- the call under way of the party of this number: its start, and where it stands
  abbrev pub call_in : World T → ℕ → Option (Start T × Flight T)
  call_in w p = call_of (party_of p w.latest)

  -- how many steps a party's latest call has taken; 0 before its first
  abbrev pub steps_of : Option (Party T) → ℕ
  steps_of None = 0
  steps_of (Some x) = x.steps

  -- the start of a party's latest call, if it has had one
  abbrev pub started : Option (Party T) → Option (Start T)
  started None = None
  started (Some x) = Some x.start

  -- how many steps the party's latest call has taken
  abbrev pub steps_in : World T → ℕ → ℕ
  steps_in w p = steps_of (party_of p w.latest)

  -- How many changes of words others made while the party's latest call was under way, where `changes` counts
  -- all changes of words up to now; 0 before its first call.
  abbrev pub others_so : ℕ → Option (Party T) → ℕ
  others_so changes None = 0
  others_so changes (Some x) = others_of changes x.doing

  -- how many changes of words others made while the party's latest call was under way
  abbrev pub others_in : World T → ℕ → ℕ
  others_in w p = others_so w.changes (party_of p w.latest)

  -- how many changes of words others made while the latest call of the pass's party was under way
  abbrev pub others_by : World T → Option ℕ → ℕ
  others_by w None = 0
  others_by w (Some p) = others_in w p

  -- ---- beginnings

  -- the events `seen` are the first of `events`, in their order
  pub record IsBeginning (seen events : List (Event T)) : Type 0 where
    pub rest : List (Event T)
    pub is : events ≡ seen ++ rest

  -- ---- the invariant of a table

  -- what another party may write for a call under way, which then has still to see it: for a push that waits
  -- for room in an overflowing queue, that it acts with None
  abbrev pub MayBeLate : Start T × Flight T → List (Event T) → Type 0
  MayBeLate (start, flights.Queues (Overflow (overflows.Push run))) late =
      AllByRecursion (λ (e : Event T). (p : ℕ) × (e ≡ Acted p start PoppedNone)) late
  MayBeLate (start, flight) late = late ≡ []

  -- these events may come late for this call under way: only acts of a push that overflows do
  abbrev pub IsLateFor : Option (Start T × Flight T) → List (Event T) → Type 0
  IsLateFor None late = late ≡ []
  IsLateFor (Some call) late = MayBeLate call late

  -- these events may have come late; only in an overflowing queue any do
  abbrev pub IsLate : Kind → Option (Start T × Flight T) → List (Event T) → Type 0
  IsLate kinds.Overflow going late = IsLateFor going late
  IsLate kind going late = late ≡ []

  -- The pass has seen all that the party did, but for the events `late`, which another party wrote
  -- for it. Or the party is one of a pass that was taken in: it has no call under way, and that pass
  -- had seen all that it did.
  abbrev pub HasSeenOf : ℕ → View T → List (Event T) → Trace T → Type 0
  HasSeenOf p v late t =
      (events_by p v.seen ++ events_by p late ≡ events_by p t.events)
      ⊎ ((call_in t.world p ≡ None) × (events_by p v.other ≡ events_by p t.events))

  -- What the seat of number j knows, by its view v, holds of the machine t. Its parties are those whose owner
  -- it is: its own number, and those of the seats that it took in. A seat with a share has seen all that its
  -- parties did, and has made just that, but for what another wrote for its call.
  pub record Fits (owner : ℕ → ℕ) (t : Trace T) (j : ℕ) (v : View T) : Type 0 where
    -- what it has seen, and what a seat that it took in had seen, are beginnings of the machine's events
    pub seen : IsBeginning v.seen t.events
    pub other : IsBeginning v.other t.events
    -- a seat with a share is the owner of its own number
    pub self : 0 < v.share.part → owner j ≡ j
    -- the call under way of its latest party is the one that its view has; its other parties have none
    pub going : (p : ℕ) → owner p ≡ j → v.party ≡ Some p → call_in t.world p ≡ v.going
    pub idle : (p : ℕ) → owner p ≡ j → v.party ≢ Some p → call_in t.world p ≡ None
    -- the machine keeps for that party the state that the view has
    pub stated : (p : ℕ) → owner p ≡ j → v.party ≡ Some p → state_in t.world.kept p ≡ v.state
    -- the steps of its call under way are counted
    pub counted : (p : ℕ) → owner p ≡ j → v.party ≡ Some p → (call : Start T × Flight T) → v.going ≡ Some call
        → steps_in t.world p ≡ v.taken
    -- its latest party is one of its parties
    pub party : IfSome v.party (λ p. owner p ≡ j)
    -- what another wrote for the call under way and the seat has still to see, all of it of the latest party
    pub late : List (Event T)
    pub waits : IsLate t.world.kind v.going late
    pub of_party : by_party v.party late ≡ late
    -- with a share it has seen all that each of its parties did, but for these late events
    pub own : 0 < v.share.part → (p : ℕ) → owner p ≡ j → HasSeenOf p v late t
    -- by every measure, what it made and the late events are the events of its parties
    pub made : (f : Event T → ℕ)
        → sum_by f v.made + sum_by f late ≡ sum_by (owned owner j f) t.events

  -- A machine lets a recovery free what a dead owner has; a thread claims a death, and cannot prove it. So a
  -- robust set of threads, or a container, is reached by an open run: nobody dies, and neither a yes nor a
  -- recovery is refused.
  abbrev pub IsReachedAs : Kind → Trace T → Type 0
  IsReachedAs kinds.Robust t = IsReachedOpen t
  IsReachedAs kinds.Container t = IsReachedOpen t
  IsReachedAs kind t = IsReachedOn t

  -- no push found the last position, and no store the last version; nothing is asked of a robust set or a
  -- container, which have neither
  abbrev pub IsFreshAs : Kind → Trace T → Type 0
  IsFreshAs kinds.Robust t = Unit {0}
  IsFreshAs kinds.Container t = Unit {0}
  IsFreshAs kind t = IsFreshRun t

  -- a reached machine of this kind and capacity, in which no push found the last position, and no
  -- store the last version
  pub record IsRun (code : Coding T) (kind : Kind) (capacity : ℕ) (t : Trace T) : Type 0 where
    -- turns lead here from an opening
    pub reached : IsReachedAs kind t
    -- it is a machine of this coding, kind and capacity
    pub coded : t.world.coding ≡ code
    pub of_kind : t.world.kind ≡ kind
    pub sized : t.world.capacity ≡ capacity
    -- no push found the last position, and no store the last version
    pub fresh : IsFreshAs kind t

  -- what refuses this turn on a machine of this kind: on a robust set or a container, what
  -- refuses it in an open run
  abbrev pub refusal_as : Kind → World T → Turn T → Option Refusal
  refusal_as kinds.Robust w turn = open_refusal w turn
  refusal_as kinds.Container w turn = open_refusal w turn
  refusal_as kind w turn = call_refusal w turn

  -- ---- the one run of a table

  -- the machine that these turns lead to from the opening
  abbrev pub run_of : Coding T → Kind → ℕ → List (Turn T) → Trace T
  run_of code kind capacity turns = after_turns (opening code kind capacity 0) turns

  -- from the machine t on, in none of these turns a push finds the last position or a store the last version
  abbrev pub AreFresh : Trace T → List (Turn T) → Type 0
  AreFresh t [] = Unit {0}
  AreFresh t (turn ∷ turns) = IsFreshTurn t turn × AreFresh (after_turn t turn) turns

  -- the turns `first` are the first of `turns`, in their order
  pub record AreFirst (first turns : List (Turn T)) : Type 0 where
    pub rest : List (Turn T)
    pub is : turns ≡ first ++ rest

  -- the turns that the seat knows are the first of these, and so are those that a seat which it took in knew
  pub record Knew (turns : List (Turn T)) (v : View T) : Type 0 where
    pub mine : AreFirst v.turns turns
    pub theirs : AreFirst v.other_turns turns

  -- One list of turns, none of them refused, leads from the opening to this machine. A step of the table can
  -- only add to it, and each seat knows its first ones.
  pub record OneRun (code : Coding T) (kind : Kind) (capacity : ℕ) (views : List (View T)) (t : Trace T) : Type 0 where
    pub turns : List (Turn T)
    -- none of them is refused
    pub allowed : AreAllowedBy (refusal_as kind) (opening code kind capacity 0) turns
    -- none is a push that finds the last position, or a store that finds the last version
    pub fresh : AreFresh (opening code kind capacity 0) turns
    pub is : t ≡ run_of code kind capacity turns
    -- each seat knows the first of them
    pub knew : (j : ℕ) (v : View T) → get_elem? views j ≡ some v → Knew turns v

  -- ---- what was asked for

  -- how many steps the run of these turns takes, from the opening on
  abbrev pub steps_of_run : Coding T → Kind → ℕ → List (Turn T) → ℕ
  steps_of_run code kind capacity turns = run_steps (opening code kind capacity 0) turns

  -- how many of the turns are steps of a call
  abbrev pub nexts : List (Turn T) → ℕ
  nexts [] = 0
  nexts (Next p ∷ turns) = 1 + nexts turns
  nexts (turn ∷ turns) = nexts turns

  -- A pass has asked for at most as many operations as it has aside (no steps of a call of the run) and these
  -- steps, and for exactly that many where it has the whole share.
  pub record HasAsked (v : View T) (steps : ℕ) : Type 0 where
    pub share : IsPart v.share
    pub most : v.asked ≤ v.aside + steps
    pub all : IsAll v.share → v.asked ≡ v.aside + steps

  -- What all seats have asked for is what they have aside (no steps of a call of the run) and these steps.
  -- Each seat asked for what it has aside, at least, and one without a share for nothing else.
  pub record HaveAsked (views : List (View T)) (steps : ℕ) : Type 0 where
    pub sum : sum_by (λ (v : View T). v.asked) views ≡ sum_by (λ (v : View T). v.aside) views + steps
    pub each : (j : ℕ) (v : View T) → get_elem? views j ≡ some v → v.aside ≤ v.asked
    pub spent : (j : ℕ) (v : View T) → get_elem? views j ≡ some v → v.share.part ≡ 0 → v.asked ≡ v.aside

  -- The invariant of a table: its words are those of a machine, and one more, since passes are split at a
  -- word; what each seat knows holds of that machine.
  pub record IsMachine (code : Coding T) (kind : Kind) (capacity : ℕ)
      (s : State (Unit {0}) (View T)) : Type 0 where
    -- the machine, and that it is a run; its words come first among those of the table
    pub trace : Trace T
    pub run : IsRun code kind capacity trace
    pub words : s.words ≡ trace.world.words ++ 0 ∷ []
    -- the seat that acts for a party; what each seat knows holds of its parties
    pub owner : ℕ → ℕ  -- the seat that acts for the party
    pub seats : (j : ℕ) (v : View T) → get_elem? s.views j ≡ some v → Fits owner trace j v
    -- a party with the number of a seat belongs to a seat, and each further one to none
    pub inside : (p : ℕ) → p < length s.views → owner p < length s.views
    pub fresh : (p : ℕ) → length s.views ≤ p → owner p ≡ p
    -- a party without a seat has no call under way and has written nothing
    pub further : (j : ℕ) → length s.views ≤ j → call_in trace.world j ≡ None
    pub made_none : (j : ℕ) → length s.views ≤ j → events_by j trace.events ≡ []
    -- the shares make the whole, and some seat with a share has seen all events
    pub known : Known s.views trace.events
    -- the table has one run, of which each seat knows the first turns, and what the seats asked for are its
    -- steps and what they have aside
    pub one : OneRun code kind capacity s.views trace
    pub asked : HaveAsked s.views (steps_of_run code kind capacity one.turns)

  -- ---- what a caller knows

  -- what was made is just the events of some parties in what was seen
  pub record IsOfParties (v : View T) : Type 0 where
    pub owner : ℕ → ℕ
    pub seat : ℕ
    pub sums : (f : Event T → ℕ) → sum_by f v.made ≡ sum_by (owned owner seat f) v.seen

  -- the events of some run of a machine of this kind and capacity
  pub record IsHistory (code : Coding T) (kind : Kind) (capacity : ℕ) (events : List (Event T))
      : Type 0 where
    pub trace : Trace T
    pub run : IsRun code kind capacity trace
    pub is : events ≡ trace.events

  -- What the pass has seen are the events of its turns. None of them is refused, so they make a run of a
  -- machine of this kind and capacity. In that run others changed words as often during the latest call of
  -- its party as the view counts. What the pass asked for is bounded by the steps of the run.
  pub record Knows (code : Coding T) (kind : Kind) (capacity : ℕ) (v : View T) : Type 0 where
    -- the structure can have this coding and capacity
    pub coded : IsCoding code
    pub admitted : capacity_error kind capacity ≡ None
    -- none of the turns that it knows is refused
    pub allowed : AreAllowedBy (refusal_as kind) (opening code kind capacity 0) v.turns
    -- none is a push that finds the last position, or a store that finds the last version
    pub fresh : AreFresh (opening code kind capacity 0) v.turns
    -- the events that it has seen are those of its turns
    pub is : v.seen ≡ (run_of code kind capacity v.turns).events
    -- its count of changes by others is that of the run, for the latest call of its party
    pub others : v.others ≡ others_by (run_of code kind capacity v.turns).world v.party
    -- it asked for no more operations than the run has steps, but for those aside
    pub asked : HasAsked v (steps_of_run code kind capacity v.turns)

  -- the run that it knew goes on to the one that it knows
  pub record Continues (code : Coding T) (kind : Kind) (capacity : ℕ) (old new : View T) : Type 0 where
    pub first : AreFirst old.turns new.turns
    pub knows : Knows code kind capacity new

  -- the events are those of a run after which the party's call under way is the one begun by
  -- `start`, at `flight`
  pub record HasStood (code : Coding T) (kind : Kind) (capacity p : ℕ) (start : Start T)
      (flight : Flight T) (events : List (Event T)) : Type 0 where
    pub trace : Trace T
    pub run : IsRun code kind capacity trace
    pub is : events ≡ trace.events
    pub there : call_in trace.world p ≡ Some (start, flight)

  -- the last turn of this history was a step of the party, which wrote this event last
  pub record LastStep (code : Coding T) (kind : Kind) (capacity p : ℕ) (last : Event T)
      (events : List (Event T)) : Type 0 where
    -- the machine before that step
    pub old : Trace T
    pub run : IsRun code kind capacity old
    -- a step of the party is not refused on it
    pub free : refusal_as kind old.world (Next p) ≡ None
    -- what the step wrote before its last event
    pub wrote : List (Event T)
    pub writes : events_of old.world (Next p) ≡ wrote ++ last ∷ []
    -- after the step these are all events
    pub is : events ≡ (after_turn old (Next p)).events

  -- A pass that knew `old` made one call and knows `new`. After what it had seen come the doings of others,
  -- none where it had the whole; then the call begins, things happen, among them what the call wrote, and it
  -- ends with this answer, the last that was seen.
  pub record Called (p : ℕ) (start : Start T) (answer : Answer T) (wrote : List (Event T))
      (old new : View T) : Type 0 where
    -- what others did before the call began
    pub others : List (Event T)
    -- what happened between its begin and its end
    pub during : List (Event T)
    pub is : new.seen
        ≡ (old.seen ++ others) ++ Begun p start ∷ (during ++ Finished p start answer ∷ [])
    -- with the whole share nobody else did anything
    pub alone : IsAll old.share → others ≡ []
    -- the party did nothing before it began
    pub others_own : events_by p others ≡ []
    -- what the party wrote between the begin and the end of the call
    pub during_own : events_by p during ≡ wrote
    -- the pass made the begin, what the party wrote, and the response
    pub made : new.made ≡ old.made ++ Begun p start ∷ (wrote ++ Finished p start answer ∷ [])
