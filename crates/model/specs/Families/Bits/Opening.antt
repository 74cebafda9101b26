-- The words of the bit sets at their opening, and which call begins.
use Rattle.std.specs.Prelude.{ℕ, ◌+◌, ◌-◌, ◌^◌, Bool, true, false, option_map, List, [], ◌∷◌, replicate, nat_le}
use Rattle.steps.specs.Bits.Words.{elements}
use Rattle.model.specs.declared.families.Flight.{Flight}
use Rattle.model.specs.declared.families.Flight.TheVariants as flights
use Rattle.model.specs.declared.families.Registry.{Registry}
use Rattle.model.specs.declared.families.Registry.TheVariants as registries
use Rattle.model.specs.declared.families.bits.BitsStart.{BitsStart}
use Rattle.model.specs.declared.families.bits.BitsStart.TheVariants.{Set, ResetNext, ResetAll, IsSet, Count}
use Rattle.model.specs.declared.turn.Kind.{Kind}
use Rattle.model.specs.declared.turn.Refusal.{Refusal}
use Rattle.model.specs.declared.turn.Refusal.TheVariants.{WrongCall, BadIndex}
use Rattle.model.specs.Families.Bits.Calls.{first}
use Rattle.model.specs.Opening.{Opening}
use Rattle.model.specs.Step.{Beginning}

-- the reset position, and then the elements; no bit stands
abbrev pub bits_words : ℕ → List ℕ
bits_words capacity = replicate (1 + elements capacity) 0

-- a count for each place
abbrev pub counts_words : ℕ → List ℕ
counts_words capacity = replicate capacity 0

-- how a bit set opens, given its words at each capacity
abbrev pub opening_with : (ℕ → List ℕ) → Opening
opening_with words =
    record {
      least = 0;
      greatest = 2 ^ 32 - 1;
      words = λ size capacity. words capacity;
      kept = λ capacity. registries.Nothing;
    }

-- how a bit set opens
abbrev pub bits_opening : Opening
bits_opening = opening_with bits_words

-- how a counting bit set opens
abbrev pub counts_opening : Opening
counts_opening = opening_with counts_words

-- the call is about a place past the capacity
abbrev pub is_past : ℕ → BitsStart → Bool
is_past capacity (Set place) = nat_le capacity place
is_past capacity ResetNext = false
is_past capacity ResetAll = false
is_past capacity (IsSet bit) = nat_le capacity bit
is_past capacity (Count place) = nat_le capacity place

-- what is tested of a party that is to begin a call
abbrev pub call_rows : ℕ → BitsStart → List (Bool × Refusal)
call_rows capacity start = (is_past capacity start, BadIndex) ∷ []

-- what is tested before a party begins the call
abbrev pub kept_rows : {T : Type 0} → ℕ → BitsStart → Registry T → ℕ → List (Bool × Refusal)
kept_rows capacity start registries.Nothing p = call_rows capacity start
kept_rows capacity start kept p = (true, WrongCall) ∷ []

-- how a call of a bit set begins, and what is tested before
abbrev pub begin : {T : Type 0} → Kind → ℕ → BitsStart → Beginning (Flight T) (Registry T)
begin kind capacity start =
    record {
      call = λ kept. option_map flights.Bits (first kind capacity start);
      rows = kept_rows capacity start;
    }
