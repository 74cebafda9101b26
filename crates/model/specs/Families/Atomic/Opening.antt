-- The words of the single value at its opening, and who may begin which call.
use Rattle.std.specs.Prelude.{ℕ, ◌*◌, Bool, true, false, not, Option, Some, None, option_map, List, [], ◌∷◌, replicate, if◌then◌else◌}
use Rattle.model.specs.declared.families.Flight.{Flight}
use Rattle.model.specs.declared.families.Flight.TheVariants as flights
use Rattle.model.specs.declared.families.Registry.{Registry}
use Rattle.model.specs.declared.families.Registry.TheVariants as registries
use Rattle.model.specs.declared.families.atomic.AtomicStart.{AtomicStart}
use Rattle.model.specs.declared.families.atomic.AtomicStart.TheVariants.{AcquireProducer, ReleaseProducer, Store, Load, HasProducer, Version}
use Rattle.model.specs.declared.families.atomic.calls.AtomicFlight.{AtomicFlight}
use Rattle.model.specs.declared.turn.Kind.{Kind}
use Rattle.model.specs.declared.turn.Kind.TheVariants as kinds
use Rattle.model.specs.declared.turn.Refusal.{Refusal}
use Rattle.model.specs.declared.turn.Refusal.TheVariants.{WrongCall, NoRole}
use Rattle.model.specs.Families.Atomic.Calls.{first}
use Rattle.model.specs.Families.Queues.Opening.{holds}
use Rattle.model.specs.Opening.{Opening}
use Rattle.model.specs.Step.{Beginning}

-- The words at the opening: the version, the role, which is free, and two cells of `size`
-- words, each for a value.
abbrev pub opening_words : ℕ → List ℕ
opening_words size = 1 ∷ 1 ∷ replicate (size * 2) 0

-- there is one value; nobody holds the producer's role
abbrev pub opening : Opening
opening =
    record {
      least = 1;
      greatest = 1;
      words = λ size capacity. opening_words size;
      kept = λ capacity. registries.Atomic None;
    }

-- whether a machine of a kind has the single value
abbrev pub is_value : Kind → Bool
is_value kinds.Atomic = true
is_value kind = false

module _ {T : Type 0} where
  -- the call that begins on a machine of this kind
  abbrev pub call_of : Kind → AtomicStart T → Option (AtomicFlight T)
  call_of kind start = if is_value kind then Some (first start) else None

  -- the call needs the producer's role, which the party does not hold
  abbrev pub lacks_role : Option ℕ → ℕ → AtomicStart T → Bool
  lacks_role producer p AcquireProducer = false
  lacks_role producer p ReleaseProducer = not (holds producer p)
  lacks_role producer p (Store value) = not (holds producer p)
  lacks_role producer p Load = false
  lacks_role producer p HasProducer = false
  lacks_role producer p Version = false

  -- what is tested of a party that is to begin a call
  abbrev pub call_rows : Option ℕ → ℕ → AtomicStart T → List (Bool × Refusal)
  call_rows producer p start = (lacks_role producer p start, NoRole) ∷ []

  -- what is tested before a party begins the call, by who holds the producer's role
  abbrev pub kept_rows : AtomicStart T → Registry T → ℕ → List (Bool × Refusal)
  kept_rows start (registries.Atomic producer) p = call_rows producer p start
  kept_rows start kept p = (true, WrongCall) ∷ []

  -- how a call of the single value begins, and what is tested before
  abbrev pub begin : Kind → AtomicStart T → Beginning (Flight T) (Registry T)
  begin kind start =
      record {
        call = λ kept. option_map flights.Atomic (call_of kind start);
        rows = kept_rows start;
      }
