-- Made-up machines of capacity 2, each of which is wrong in one thing that the main theorem says.
use Rattle.std.specs.Prelude.{ℕ, ◌-◌, ◌^◌, true, None, List, [], ◌∷◌}
use Rattle.steps.specs.declared.container.state.ContainerState.{ContainerState}
use Rattle.steps.specs.declared.indices.enums.ReleaseMode.TheVariants.{Default, LockIfLastIndex}
use Rattle.steps.specs.declared.indices.enums.ReleaseState.TheVariants.{Locked, Unlocked}
use Rattle.model.specs.declared.event.Answer.{Answer}
use Rattle.model.specs.declared.event.Answer.TheVariants.{Done, Truth, PoppedIndex, Loaded, Index, State}
use Rattle.model.specs.declared.event.Event.{Event}
use Rattle.model.specs.declared.event.Event.TheVariants as events
use Rattle.model.specs.declared.event.Event.TheVariants.{Begun, Counted, Claimed, Filled, Told, Placed, Copied, Acted, Finished}
use Rattle.model.specs.declared.event.Start.{Start}
use Rattle.model.specs.declared.event.Start.TheVariants.{Queues, Atomic, Bits, Indices, Robust, Container}
use Rattle.model.specs.declared.families.Registry.{Registry}
use Rattle.model.specs.declared.families.Registry.TheVariants as registries
use Rattle.model.specs.declared.families.atomic.AtomicStart.TheVariants.{Load}
use Rattle.model.specs.declared.families.bits.BitsStart.TheVariants.{Set, ResetAll}
use Rattle.model.specs.declared.families.container.ContainerStart.TheVariants.{Add}
use Rattle.model.specs.declared.families.indices.IndexStart.TheVariants.{Acquire, Release, IsLocked}
use Rattle.model.specs.declared.families.indices.robust.RobustStart.TheVariants as robust
use Rattle.model.specs.declared.families.queues.QueueStart.TheVariants.{PushIndex, Pop}
use Rattle.model.specs.declared.party.Doing.TheVariants.{Over}
use Rattle.model.specs.declared.party.Party.{Party}
use Rattle.model.specs.declared.turn.Kind.{Kind}
use Rattle.model.specs.declared.turn.Kind.TheVariants as kinds
use Rattle.model.specs.Coding.{one_word}
use Rattle.model.specs.World.{Trace}

-- a machine of this kind, of capacity 2 and of two parties, with these latest calls
abbrev pub calling : Kind → List ℕ → Registry ℕ → List (ℕ × Party ℕ) → List (Event ℕ) → Trace ℕ
calling kind words kept latest events =
    record {
      world =
          record {
            coding = one_word;
            kind = kind;
            capacity = 2;
            parties = 2;
            words = words;
            kept = kept;
            latest = latest;
            changes = 0;
            turns = 0;
          };
      events = events;
    }

-- one in which no call is under way
abbrev pub machine : Kind → List ℕ → Registry ℕ → List (Event ℕ) → Trace ℕ
machine kind words kept events = calling kind words kept [] events

-- a call of party 0 that has written these events and ends with this answer
abbrev pub call : ℕ → Start ℕ → Answer ℕ → List (Event ℕ)
call p start answer = Begun p start ∷ Finished p start answer ∷ []

abbrev pub queue : List (ℕ × Party ℕ) → List (Event ℕ) → Trace ℕ
queue latest events =
    calling kinds.IndexQueue (0 ∷ 0 ∷ 1 ∷ 1 ∷ 0 ∷ 0 ∷ []) (registries.Queues (record { producer = None; consumer = None })) latest events

abbrev pub bits : List ℕ → List (Event ℕ) → Trace ℕ
bits words events = machine kinds.Bits words registries.Nothing events

abbrev pub indices : List (Event ℕ) → Trace ℕ
indices events = machine kinds.Indices (0 ∷ 1 ∷ 2 ∷ 0 ∷ []) (registries.Indices []) events

abbrev pub owners : List (Event ℕ) → Trace ℕ
owners events = machine kinds.Robust (0 ∷ 7 ∷ 7 ∷ []) (registries.Owners []) events

abbrev pub container : List (ℕ × ContainerState ℕ) → List (Event ℕ) → Trace ℕ
container states events =
    machine kinds.Container (0 ∷ (2 ^ 64 - 1) ∷ (2 ^ 64 - 1) ∷ 0 ∷ 0 ∷ 0 ∷ 0 ∷ 0 ∷ []) (registries.Container [] states) events

-- ---- queues and the value

-- a push acts only after it has ended
abbrev pub acts_outside : Trace ℕ
acts_outside =
    queue [] (Begun 0 (Queues (PushIndex 7)) ∷ Finished 0 (Queues (PushIndex 7)) (Truth true) ∷ Acted 0 (Queues (PushIndex 7)) (Truth true) ∷ [])

-- a pop answers what nobody has pushed
abbrev pub pops_unpushed : Trace ℕ
pops_unpushed = queue [] (Acted 1 (Queues Pop) (PoppedIndex 7) ∷ [])

-- a pop that runs whole on an empty queue answers an item
abbrev pub pops_from_nothing : Trace ℕ
pops_from_nothing = queue [] (call 1 (Queues Pop) (PoppedIndex 7))

-- a push has turned back, and nobody has changed a word
abbrev pub turns_back_unpaid : Trace ℕ
turns_back_unpaid =
    queue ((0, record { start = Queues (PushIndex 7); steps = 0; backs = 1; doing = Over 0 }) ∷ []) (Begun 0 (Queues (PushIndex 7)) ∷ [])

-- a load answers what nobody has stored
abbrev pub loads_unstored : Trace ℕ
loads_unstored = machine kinds.Atomic (1 ∷ 1 ∷ 0 ∷ 0 ∷ []) (registries.Atomic None) (Acted 0 (Atomic Load) (Loaded 5) ∷ [])

-- ---- bits and counts

-- a set answers true of a bit that stood throughout the call
abbrev pub sets_what_stood : Trace ℕ
sets_what_stood =
    bits (0 ∷ 0 ∷ [])
    (events.Set 0 0
    ∷ Begun 1 (Bits (Set 0))
    ∷ events.Set 1 0
    ∷ Finished 1 (Bits (Set 0)) (Truth true)
    ∷ events.Cleared 0 0
    ∷ events.Cleared 0 0
    ∷ [])

-- a set answers true, and has set nothing
abbrev pub sets_nothing : Trace ℕ
sets_nothing = bits (0 ∷ 0 ∷ []) (call 0 (Bits (Set 1)) (Truth true))

-- a bit stands that nobody has set
abbrev pub stands_unset : Trace ℕ
stands_unset = bits (0 ∷ 1 ∷ []) []

-- a reset of all that runs whole leaves a flag
abbrev pub leaves_a_flag : Trace ℕ
leaves_a_flag = bits (0 ∷ 1 ∷ []) (events.Set 0 0 ∷ call 0 (Bits ResetAll) Done)

-- a place was counted, and counts nothing
abbrev pub loses_a_count : Trace ℕ
loses_a_count = machine kinds.Counts (0 ∷ 0 ∷ []) registries.Nothing (Counted 0 0 ∷ [])

-- ---- indices

-- an acquire answers an index, and has claimed none
abbrev pub claims_nothing : Trace ℕ
claims_nothing = indices (call 0 (Indices Acquire) (Index 0))

-- two acquires answer one index
abbrev pub answers_twice : Trace ℕ
answers_twice = indices (Finished 0 (Indices Acquire) (Index 0) ∷ Finished 1 (Indices Acquire) (Index 0) ∷ [])

-- an acquire answers an index once the set is locked
abbrev pub answers_locked : Trace ℕ
answers_locked = indices (Finished 0 (Indices (Release 0 LockIfLastIndex)) (State Locked) ∷ Finished 1 (Indices Acquire) (Index 0) ∷ [])

-- a look says that a set is locked that nobody has locked
abbrev pub says_locked : Trace ℕ
says_locked = indices (Finished 0 (Indices IsLocked) (Truth true) ∷ [])

-- ---- indices of owners

-- two acquires answer one index to two owners
abbrev pub owned_twice : Trace ℕ
owned_twice = owners (Finished 0 (Robust (robust.Acquire 7)) (Index 0) ∷ Finished 1 (Robust (robust.Acquire 9)) (Index 0) ∷ [])

-- an acquire answers an index, and has filled none
abbrev pub fills_nothing : Trace ℕ
fills_nothing = owners (call 0 (Robust (robust.Acquire 7)) (Index 0))

-- an acquire that runs whole on an empty set answers the second index
abbrev pub passes_the_lowest : Trace ℕ
passes_the_lowest = owners (call 0 (Robust (robust.Acquire 7)) (Index 1))

-- a recovery answers Unlocked, and has not asked about an index that stood filled
abbrev pub asks_nothing : Trace ℕ
asks_nothing = owners (Filled 0 0 7 ∷ call 1 (Robust (robust.Recover Default)) (State Unlocked))

-- a recovery answers Unlocked, and leaves an index that it was told to free
abbrev pub frees_nothing : Trace ℕ
frees_nothing =
    owners
    (Filled 0 0 7 ∷ Begun 1 (Robust (robust.Recover Default)) ∷ Told 1 0 7 ∷ Finished 1 (Robust (robust.Recover Default)) (State Unlocked) ∷ [])

-- ---- the container

-- a call copies from an index at which nothing stands
abbrev pub copies_nothing : Trace ℕ
copies_nothing = container [] (Copied 0 0 5 ∷ [])

-- a call copies another value than stands at the index
abbrev pub copies_another : Trace ℕ
copies_another = container [] (Placed 0 0 5 ∷ Copied 1 0 6 ∷ [])

-- an add answers an index, and has placed nothing
abbrev pub places_nothing : Trace ℕ
places_nothing = container [] (call 0 (Container (Add 5 7)) (Index 0))

-- party 0 has a state, and no look has ended
abbrev pub state_of_nothing : ContainerState ℕ
state_of_nothing =
    record {
      container = 0;
      capacity = 2;
      seen = record { change = 0; counts = 0 ∷ 0 ∷ [] };
      shown = record { change = 0; elements = []; copy = [] };
    }

abbrev pub shows_unlooked : Trace ℕ
shows_unlooked = container ((0, state_of_nothing) ∷ []) []

-- ---- the loan channel

-- an index is with two parties
abbrev pub loans_twice : Trace ℕ
loans_twice =
    machine kinds.Loan (0 ∷ 1 ∷ 2 ∷ 0 ∷ 0 ∷ 0 ∷ 1 ∷ 1 ∷ 0 ∷ 0 ∷ 0 ∷ 0 ∷ 0 ∷ 1 ∷ 1 ∷ 0 ∷ 0 ∷ [])
    (registries.Loan (record { queue = 2; places = []; holders = []; receiver = 1; dead = [] })) (Claimed 0 0 ∷ Claimed 1 0 ∷ [])
