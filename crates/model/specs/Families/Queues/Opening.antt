-- The words of a queue at its opening, and who may begin which call.
use Rattle.std.specs.Prelude.{ℕ, ◌+◌, ◌*◌, ◌-◌, ◌^◌, ◌==◌, Bool, true, false, not, Option, Some, None, option_map, List, [], ◌∷◌, replicate}
use Rattle.model.specs.declared.families.Flight.{Flight}
use Rattle.model.specs.declared.families.Flight.TheVariants as flights
use Rattle.model.specs.declared.families.Registry.{Registry}
use Rattle.model.specs.declared.families.Registry.TheVariants as registries
use Rattle.model.specs.declared.families.queues.QueueStart.{QueueStart}
use Rattle.model.specs.declared.families.queues.QueueStart.TheVariants.{AcquireProducer, ReleaseProducer}
use Rattle.model.specs.declared.families.queues.QueueStart.TheVariants.{AcquireConsumer, ReleaseConsumer, PushIndex}
use Rattle.model.specs.declared.families.queues.QueueStart.TheVariants.{Push, Pop, Peek, HasProducer, HasConsumer, Len, IsEmpty, IsFull}
use Rattle.model.specs.declared.families.queues.Roles.{Roles}
use Rattle.model.specs.declared.families.queues.calls.QueueFlight.{QueueFlight}
use Rattle.model.specs.declared.turn.Kind.{Kind}
use Rattle.model.specs.declared.turn.Kind.TheVariants as any_kinds
use Rattle.model.specs.declared.families.queues.QueueKind.{QueueKind}
use Rattle.model.specs.declared.families.queues.QueueKind.TheVariants as kinds
use Rattle.model.specs.declared.turn.Refusal.{Refusal}
use Rattle.model.specs.declared.turn.Refusal.TheVariants.{WrongCall, NoRole}
use Rattle.model.specs.Families.Queues.Calls.{first}
use Rattle.model.specs.Opening.{Opening}
use Rattle.model.specs.Step.{Beginning}

-- the cells of a queue: an overflowing one has one more than its capacity
abbrev pub cells_of : QueueKind → ℕ → ℕ
cells_of kinds.IndexQueue capacity = capacity
cells_of kinds.Overflow capacity = capacity + 1
cells_of kinds.Queue capacity = capacity

-- How many words a cell has: one in a queue of indices, and `size` in the queue of values, which is the
-- number of words of a value.
abbrev pub words_of_cell : ℕ → QueueKind → ℕ
words_of_cell size kinds.IndexQueue = 1
words_of_cell size kinds.Overflow = 1
words_of_cell size kinds.Queue = size

-- write position, read position, both roles free, and the cells
abbrev pub opening_words : ℕ → QueueKind → ℕ → List ℕ
opening_words size kind capacity =
    0 ∷ 0 ∷ 1 ∷ 1 ∷ replicate (words_of_cell size kind * cells_of kind capacity) 0

-- nobody holds a role; the capacity is a number of 32 bits
abbrev pub opening : QueueKind → Opening
opening kind =
    record {
      least = 0;
      greatest = 2 ^ 32 - 1;
      words = λ size capacity. opening_words size kind capacity;
      kept = λ capacity. registries.Queues (record { producer = None; consumer = None });
    }

-- whether the party is the one that holds a role
abbrev pub holds : Option ℕ → ℕ → Bool
holds None p = false
holds (Some q) p = q == p

-- which queue a machine of a kind has, if any
abbrev pub queue_kind : Kind → Option QueueKind
queue_kind any_kinds.IndexQueue = Some kinds.IndexQueue
queue_kind any_kinds.Overflow = Some kinds.Overflow
queue_kind any_kinds.Queue = Some kinds.Queue
queue_kind kind = None

module _ {T : Type 0} where
  -- the call as it begins in a queue of this kind, if that has it
  abbrev first_in : Option QueueKind → ℕ → QueueStart T → Option (QueueFlight T)
  first_in None capacity start = None
  first_in (Some kind) capacity start = first kind capacity start

  -- the call that begins on a machine of this kind
  abbrev pub call_of : Kind → ℕ → QueueStart T → Option (QueueFlight T)
  call_of kind capacity start = first_in (queue_kind kind) capacity start

  -- the call asks for a role that the party does not hold
  abbrev pub lacks_role : Roles → ℕ → QueueStart T → Bool
  lacks_role roles p AcquireProducer = false
  lacks_role roles p ReleaseProducer = not (holds roles.producer p)
  lacks_role roles p AcquireConsumer = false
  lacks_role roles p ReleaseConsumer = not (holds roles.consumer p)
  lacks_role roles p (PushIndex index) = not (holds roles.producer p)
  lacks_role roles p (Push value) = not (holds roles.producer p)
  lacks_role roles p Pop = not (holds roles.consumer p)
  lacks_role roles p Peek = not (holds roles.consumer p)
  lacks_role roles p HasProducer = false
  lacks_role roles p HasConsumer = false
  lacks_role roles p Len = false
  lacks_role roles p IsEmpty = false
  lacks_role roles p IsFull = false

  -- what is tested of a party that is to begin a call
  abbrev pub call_rows : Roles → ℕ → QueueStart T → List (Bool × Refusal)
  call_rows roles p start = (lacks_role roles p start, NoRole) ∷ []

  -- what is tested before a party begins the call, by who holds the roles
  abbrev pub kept_rows : QueueStart T → Registry T → ℕ → List (Bool × Refusal)
  kept_rows start (registries.Queues roles) p = call_rows roles p start
  kept_rows start kept p = (true, WrongCall) ∷ []

  -- how a call of a queue begins, and what is tested before
  abbrev pub begin : Kind → ℕ → QueueStart T → Beginning (Flight T) (Registry T)
  begin kind capacity start =
      record {
        call = λ kept. option_map flights.Queues (call_of kind capacity start);
        rows = kept_rows start;
      }
