-- What the view of a pass says while a call of it is driven on a table that is a machine, for the calls of
-- any structure: `IsFirst` before the first step, `IsUnderWay`, `Ends`, and `LeftOut` of a call that is not
-- in the history.
use Rattle.std.specs.Prelude.{Bool, true, false, ◌≡◌, ◌<◌, ◌≤◌, ◌+◌, ◌⊎◌, ℕ, Option, Some, None, IfSome, is_none, List, [], ◌∷◌, ◌++◌, sum_by, slice_index}
use Rattle.model.specs.declared.event.Answer.{Answer}
use Rattle.model.specs.declared.event.Event.{Event}
use Rattle.model.specs.declared.event.Event.TheVariants.{Begun, Finished}
use Rattle.model.specs.declared.event.Start.{Start}
use Rattle.model.specs.declared.event.Start.TheVariants.{Container}
use Rattle.model.specs.declared.families.container.ContainerStart.TheVariants.{GetState, UpdateState, Recover}
use Rattle.model.specs.declared.families.Flight.{Flight}
use Rattle.model.specs.declared.families.Registry.{Registry}
use Rattle.model.specs.declared.turn.Kind.{Kind}
use Rattle.model.specs.declared.turn.Kind.TheVariants as kinds
use Rattle.model.specs.declared.turn.Refusal.{Refusal}
use Rattle.model.specs.declared.turn.Refusal.TheVariants.{WrongCall}
use Rattle.model.specs.Coding.{Coding}
use Rattle.steps.specs.declared.ask.After.{After}
use Rattle.steps.specs.declared.ask.After.TheVariants.{GoOn}
use Rattle.steps.specs.declared.ask.Ask.{Ask}
use Rattle.steps.specs.declared.ask.Want.TheVariants as wants
use Rattle.model.specs.Families.{begin_rows, opening_of, first_of, want_of, is_question}
use Rattle.model.specs.Families.Container.Looks.{is_looking}
use Rattle.model.specs.Parties.{party_of}
use Rattle.model.specs.Rows.{first_row}
use Rattle.model.specs.Turns.{number_of}
use Rattle.model.specs.World.{Trace}
use Rattle.threaded.specs.Shares.{IsAll}
use Rattle.history.specs.declared.view.View.{View}
use Rattle.history.specs.Known.{events_by, owned}
use Rattle.history.specs.History.{IsHistory, Continues, IsOfParties, IsRun, LastStep, HasStood, started, steps_in, run_of}
use Rattle.history.specs.Views.{Looks}

-- How a call of the driver is read as a call of the model on values of type T: C is the call, M its room, E its end.
pub record Calling (T C M E : Type 0) : Type 1 where
  -- the call of the model that it is
  pub start : Start T
  -- the parties as which a pass may make the call, given the party that the pass was last, if it has been one
  pub by : Option ℕ → ℕ → Type 0
  -- what holds of the call between two steps on a structure of this capacity
  pub stands : ℕ → C → Type 0
  -- where the model's call stands, by the stage and the room, and its answer, by the end and the room
  pub flight : C → M → Flight T
  pub answer : E → M → Answer T
  -- whether loading this word at this stage ends the call without a trace in the history: it is the last
  -- position or version
  pub skips : C → ℕ → Bool
  -- whether a call without a trace in the history may have this end
  pub left : E → Type 0
  -- Which events the party's call may have written up to this stage: since the place where `base` has it, or
  -- since its begin where that is None. The numbers are the capacity and the party.
  pub wrote : ℕ → ℕ → Option (Start T × Flight T) → C → M → List (Event T) → Type 0
  -- which events it may have written in all, from the same place on, once it has ended with this end
  pub wrote_all : ℕ → ℕ → Option (Start T × Flight T) → E → M → List (Event T) → Type 0

-- whether the call is a look of a state, which alone changes the state that its party has
abbrev pub is_state_look : {T : Type 0} → Start T → Bool
is_state_look (Container GetState) = true
is_state_look (Container UpdateState) = true
is_state_look start = false

-- the call is no look of a state, neither by its start nor at any stage, so it leaves the state of its party
-- as it is
pub record LeavesState {T C M E : Type 0} (call : Calling T C M E) : Type 0 where
  pub start : is_state_look call.start ≡ false
  pub flight : (c : C) (m : M) → is_looking (Some (call.flight c m)) ≡ false

-- how many steps the call had taken: none where none was under way
abbrev pub taken_by : {A : Type 0} → Option A → ℕ → ℕ
taken_by None taken = 0
taken_by (Some call) taken = taken

module _ {T : Type 0} where
  -- no operation was asked for between the two views but as a step of the call, which may have been under way in the first
  abbrev pub StepsOnly : (base v : View T) → Type 0
  StepsOnly base v = v.asked + taken_by base.going base.taken ≤ base.asked + v.taken

  -- the begin of a call, unless it was under way already
  abbrev pub opened : ℕ → Start T → Option (Start T × Flight T) → List (Event T)
  opened p start None = Begun p start ∷ []
  opened p start (Some at) = []

  -- From the view `base` to the view `v` the party's call began, or went on where it was under way, and wrote
  -- the events `wrote`; then the events `last` came.
  pub record Since (p : ℕ) (start : Start T) (wrote last : List (Event T)) (base v : View T)
      : Type 0 where
    -- what others did before the call began or went on
    pub others : List (Event T)
    -- what happened since then, the call's own events among them
    pub during : List (Event T)
    pub is : v.seen
        ≡ (base.seen ++ others) ++ (opened p start base.going ++ (during ++ last))
    -- with the whole share nobody else did anything before
    pub alone : IsAll base.share → others ≡ []
    -- the party itself did nothing before
    pub others_own : events_by p others ≡ []
    -- of what happened since, the party wrote just `wrote`
    pub during_own : events_by p during ≡ wrote
    -- the pass made the begin, what the call wrote, and the last events
    pub made : v.made ≡ base.made ++ (opened p start base.going ++ (wrote ++ last))

  -- what is tested of a begin, which for a container's recovery is only that the kind has the call
  abbrev pub rows_as : Kind → ℕ → Registry T → ℕ → Start T → List (Bool × Refusal)
  rows_as kinds.Container capacity kept p (Container (Recover owner mode)) =
      (is_none (first_of kinds.Container capacity (Container (Recover owner mode)) kept), WrongCall) ∷ []
  rows_as kind capacity kept p start = begin_rows kind capacity kept p start

module _ {T C M E : Type 0} (code : Coding T) (kind : Kind) (call : Calling T C M E) where
  -- on this machine a party of the seat may begin the call
  pub record Starts (base : View T) (c : C) (m : M) (t : Trace T) (owner : ℕ → ℕ) (j : ℕ) : Type 0 where
    pub party : ℕ
    -- it is a party of this seat
    pub mine : owner party ≡ j
    -- the pass may make the call as that party
    pub by : call.by base.party party
    -- this machine has the call, at this stage
    pub first : first_of kind base.capacity call.start t.world.kept ≡ Some (call.flight c m)
    -- nothing that is tested of the begin refuses it
    pub may : first_row (rows_as kind base.capacity t.world.kept party call.start) ≡ None

  -- The call is about to begin: the view is still `base`, the call is at its first stage, and the model does
  -- not refuse its begin.
  pub record IsFirst (base v : View T) (c : C) (m : M) : Type 0 where
    pub is : v ≡ base
    -- the party has no call under way
    pub idle : base.going ≡ None
    -- the pass knows one history alone
    pub fresh : base.other ≡ []
    -- what holds of the call between two steps holds of its first stage
    pub standing : call.stands base.capacity c
    -- the pass has a share
    pub some : 0 < base.share.part
    -- a structure of this kind has the call, at this stage, as it opens
    pub first : first_of kind base.capacity call.start ((opening_of kind).kept base.capacity)
        ≡ Some (call.flight c m)
    -- on each machine that fits what the pass made, a party of its seat may begin it
    pub starts : (t : Trace T) (owner : ℕ → ℕ) (j : ℕ) → IsRun code kind base.capacity t → owner j ≡ j
        → IfSome base.party (λ p. owner p ≡ j)
        → ((f : Event T → ℕ) → sum_by f base.made ≡ sum_by (owned owner j f) t.events)
        → Starts base c m t owner j
    -- it has written nothing yet
    pub wrote : (p : ℕ) → call.wrote base.capacity p None c m []

  -- The call is under way at stage `c` with room `m`, in the view `v`. It began after `base`, or was under
  -- way in `base`.
  pub record IsUnderWay (base v : View T) (c : C) (m : M) : Type 0 where
    -- the call has not changed the capacity, and what holds of it between two steps holds
    pub capacity : v.capacity ≡ base.capacity
    pub standing : call.stands base.capacity c
    -- the call has not changed the share, which is not nothing
    pub share : v.share ≡ base.share
    pub some : 0 < v.share.part
    -- the party that makes the call, which is one that may make it
    pub party : ℕ
    pub mine : v.party ≡ Some party
    pub same : call.by base.party party
    -- the call that the view has under way is this one, at this stage
    pub going : v.going ≡ Some (call.start, call.flight c m)
    -- a call that is no look of a state leaves the state that the party had
    pub state : LeavesState call → base.party ≡ Some party → v.state ≡ base.state
    -- no word that its next step may load ends it outside the history
    pub past : (n : ℕ) → call.skips c n ≡ false
    -- each operation asked for since `base` was a step of the call, so none was put aside
    pub asked : StepsOnly base v
    pub aside : v.aside ≡ base.aside
    -- the pass knows one history alone
    pub alone : v.other ≡ []
    -- what the call has written since, which is what it may have written up to this stage
    pub wrote : List (Event T)
    pub tells : call.wrote base.capacity party base.going c m wrote
    -- what was seen is what `base` had seen, what others did, the begin, and what happened since
    pub since : Since party call.start wrote [] base v
    -- what was seen is a history, and the run that was known in `base` goes on to the one that is known
    pub history : IsHistory code kind base.capacity v.seen
    pub ran : Continues code kind base.capacity base v
    -- after a run with these events the model's call of the party stands at this stage
    pub stood : HasStood code kind base.capacity party call.start (call.flight c m) v.seen
    -- who has the whole has made all of it
    pub all : IsAll base.share → (f : Event T → ℕ) → sum_by f v.seen ≡ sum_by f v.made
    -- the pass made just the events of its parties among those that it has seen
    pub parties : IsOfParties v

  -- the call is about to begin, or under way
  abbrev pub At : (base v : View T) → C → M → Type 0
  At base v c m = IsFirst base v c m ⊎ IsUnderWay base v c m

  -- The call ended with the load of a word that says that its counter is at its end. It is no call of the
  -- history, and its last step was a look.
  pub record LeftOut (base : View T) (e : E) (m : M) (w : View T) : Type 0 where
    -- the pass saw all of the history then, by one operation
    pub looked : Looks code kind base.capacity base w
    pub asked : w.asked ≡ base.asked + 1
    -- the word that was loaded, the stage at which it ends the call outside the history, and that a call
    -- which ends there may have this end
    pub word : ℕ
    pub from : C
    pub skipped : call.skips from word ≡ true
    pub left : call.left e
    -- the machine that was looked at had this word where the model's call at that stage asks for one
    pub room : M
    pub ask : Ask
    pub asks : want_of code (call.flight from room) ≡ wants.Ask ask
    pub trace : Trace T
    pub run : IsRun code kind base.capacity trace
    pub seen : w.seen ≡ trace.events
    pub found : slice_index trace.world.words ask.word ≡ word

  -- The call has ended, in the view `w`: its response is the last event that the pass has seen, and a step of
  -- its party wrote it.
  pub record Ends (base : View T) (e : E) (m : M) (w : View T) : Type 0 where
    -- the call has changed neither capacity nor share
    pub capacity : w.capacity ≡ base.capacity
    pub share : w.share ≡ base.share
    -- the party that made the call, which is one that may make it
    pub party : ℕ
    pub mine : w.party ≡ Some party
    pub same : call.by base.party party
    -- the party has no call under way
    pub idle : w.going ≡ None
    -- a call that is no look of a state leaves the state that the party had
    pub state : LeavesState call → base.party ≡ Some party → w.state ≡ base.state
    -- the pass knows one history alone
    pub alone : w.other ≡ []
    -- what the call has written, which is what it may have written with this end
    pub wrote : List (Event T)
    pub tells : call.wrote_all base.capacity party base.going e m wrote
    -- what was seen is what `base` had seen, what others did, the begin, what happened during the
    -- call, and the response
    pub since : Since party call.start wrote
        (Finished party call.start (call.answer e m) ∷ []) base w
    -- what was seen is a history, and the run that was known in `base` goes on to the one that is known
    pub history : IsHistory code kind base.capacity w.seen
    pub ran : Continues code kind base.capacity base w
    -- the last turn of this history was a step of the party, which wrote the response
    pub last : LastStep code kind base.capacity party
        (Finished party call.start (call.answer e m)) w.seen
    -- in the run that is known, the party's latest call is this one, and it took the steps
    -- that the view counts
    pub named : started (party_of party (run_of code kind base.capacity w.turns).world.latest) ≡ Some call.start
    pub counted : steps_in (run_of code kind base.capacity w.turns).world party ≡ w.taken
    -- each operation asked for was one of its steps, or it was one operation in all, which may be aside
    pub took : StepsOnly base w ⊎ (w.asked ≤ base.asked + 1)
    -- at most one operation was put aside, as no step of a call of the run
    pub aside : (w.aside ≡ base.aside) ⊎ (w.aside ≡ base.aside + 1)
    -- who has the whole has made all of it
    pub all : IsAll base.share → (f : Event T → ℕ) → sum_by f w.seen ≡ sum_by f w.made
    -- the pass made just the events of its parties among those that it has seen
    pub parties : IsOfParties w

  -- the call has ended, or it was left out of the history, as one whose last step was a look
  abbrev pub Over : View T → E → M → View T → Type 0
  Over base e m w = Ends base e m w ⊎ LeftOut base e m w

-- A call that puts questions. `after` says how it goes on from an answer, and `kept` what the answer leaves
-- in its room.
module _ {T C M E : Type 0} (code : Coding T) (kind : Kind) (after : C → ℕ → After C E) (kept : C → M → ℕ → M) (call : Calling T C M E) where
  -- The call stood at a question, and has taken an answer since. The machine is handed that answer with the
  -- next step of the call.
  pub record HasHeard (base v : View T) (c : C) (m : M) : Type 0 where
    -- the stage and the room at which it put the question
    pub asking : C
    pub room : M
    -- there it was under way, and the machine's call awaits an answer there
    pub before : IsUnderWay code kind call base v asking room
    pub asks : is_question (want_of code (call.flight asking room)) ≡ true
    -- the answer that it has taken
    pub said : Bool
    pub goes : after asking (number_of said) ≡ GoOn c
    -- what the answer left in its room
    pub keeps : m ≡ kept asking room (number_of said)

  -- the call is about to begin or under way, or has taken an answer that the machine is handed with its next step
  abbrev pub AtAsked : (base v : View T) → C → M → Type 0
  AtAsked base v c m = At code kind call base v c m ⊎ HasHeard base v c m
