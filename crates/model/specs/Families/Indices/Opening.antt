-- The words of the unique index set at its opening, and who may begin which call.
use Rattle.std.specs.Prelude.{ℕ, ◌+◌, ◌-◌, ◌/◌, ◌^◌, Bool, true, false, not, Option, Some, None, option_map, List, []}
use Rattle.std.specs.Prelude.{◌∷◌, ◌++◌, replicate, nat_le, if◌then◌else◌, slice_index_or}
use Rattle.std.specs.List.{range_with_len}
use Rattle.model.specs.declared.families.Flight.{Flight}
use Rattle.model.specs.declared.families.Flight.TheVariants as flights
use Rattle.model.specs.declared.families.Registry.{Registry}
use Rattle.model.specs.declared.families.Registry.TheVariants as registries
use Rattle.model.specs.declared.families.indices.IndexStart.{IndexStart}
use Rattle.model.specs.declared.families.indices.IndexStart.TheVariants.{Acquire, Release, BorrowedIndices, IsLocked}
use Rattle.model.specs.declared.families.indices.calls.IndexFlight.{IndexFlight}
use Rattle.model.specs.declared.turn.Kind.{Kind}
use Rattle.model.specs.declared.turn.Kind.TheVariants as kinds
use Rattle.model.specs.declared.turn.Refusal.{Refusal}
use Rattle.model.specs.declared.turn.Refusal.TheVariants.{WrongCall, NotHeld, BadIndex}
use Rattle.model.specs.Families.Indices.Calls.{first}
use Rattle.model.specs.Families.Queues.Opening.{holds}
use Rattle.model.specs.Opening.{Opening}
use Rattle.model.specs.Step.{Beginning}

-- the claim flags stand 64 to a word
abbrev pub flag_words : ℕ → ℕ
flag_words capacity = (capacity + 63) / 64

-- the words of a unique index set at the opening: its head proposes index 0, each index is followed by the next one,
-- and no flag stands
abbrev pub opening_words : ℕ → List ℕ
opening_words capacity =
    0 ∷ range_with_len 1 capacity ++ replicate (flag_words capacity) 0

-- the number of borrowed indices has 24 bits, and the greatest says that the set is locked; nobody holds an index
abbrev pub opening : Opening
opening =
    record {
      least = 1;
      greatest = 2 ^ 24 - 2;
      words = λ size capacity. opening_words capacity;
      kept = λ capacity. registries.Indices (replicate capacity None);
    }

-- whether a machine of a kind has the set
abbrev pub is_set : Kind → Bool
is_set kinds.Indices = true
is_set kind = false

-- the call that begins on a machine of this kind
abbrev pub call_of : Kind → ℕ → IndexStart → Option IndexFlight
call_of kind capacity start = if is_set kind then Some (first capacity start) else None

-- what is tested of a party that is to begin a call: that the index which it is to give back is one of the set, and
-- that the party holds it
abbrev pub call_rows : ℕ → List (Option ℕ) → ℕ → IndexStart → List (Bool × Refusal)
call_rows capacity holders p (Release index mode) =
    (nat_le capacity index, BadIndex)
    ∷ (not (holds (slice_index_or holders index None) p), NotHeld)
    ∷ []
call_rows capacity holders p Acquire = []
call_rows capacity holders p BorrowedIndices = []
call_rows capacity holders p IsLocked = []

-- what is tested before a party begins the call, by who holds which index
abbrev pub kept_rows : {T : Type 0} → ℕ → IndexStart → Registry T → ℕ → List (Bool × Refusal)
kept_rows capacity start (registries.Indices holders) p =
    call_rows capacity holders p start
kept_rows capacity start kept p = (true, WrongCall) ∷ []

module _ {T : Type 0} where
  -- how a call of the unique index set begins, and what is tested before
  abbrev pub begin : Kind → ℕ → IndexStart → Beginning (Flight T) (Registry T)
  begin kind capacity start =
      record {
        call = λ kept. option_map flights.Indices (call_of kind capacity start);
        rows = kept_rows capacity start;
      }
