-- The words of the robust index set at its opening, and who may begin which call.
use Rattle.std.specs.Prelude.{ℕ, ◌-◌, ◌^◌, ◌&&◌, Bool, true, false, Option, Some, None, option_map, List, [], ◌∷◌, replicate, nat_le, nat_lt, if◌then◌else◌}
use Rattle.steps.specs.Indices.Robust.Parts.{empty}
use Rattle.model.specs.declared.families.Flight.{Flight}
use Rattle.model.specs.declared.families.Flight.TheVariants as flights
use Rattle.model.specs.declared.families.Registry.{Registry}
use Rattle.model.specs.declared.families.Registry.TheVariants as registries
use Rattle.model.specs.declared.families.indices.robust.RobustStart.{RobustStart}
use Rattle.model.specs.declared.families.indices.robust.RobustStart.TheVariants.{Acquire, Release, Find, Recover, BorrowedIndices, IsLocked}
use Rattle.model.specs.declared.families.indices.robust.calls.RobustFlight.{RobustFlight}
use Rattle.model.specs.declared.turn.Kind.{Kind}
use Rattle.model.specs.declared.turn.Kind.TheVariants as kinds
use Rattle.model.specs.declared.turn.Refusal.{Refusal}
use Rattle.model.specs.declared.turn.Refusal.TheVariants.{WrongCall, BadIndex, OwnerIsDead}
use Rattle.model.specs.Families.Indices.Robust.Calls.{first}
use Rattle.model.specs.Families.Indices.Robust.Dead.{has_died}
use Rattle.model.specs.Opening.{Opening}
use Rattle.model.specs.Step.{Beginning}

-- the counter, and for each index a cell without an owner
abbrev pub opening_words : ℕ → List ℕ
opening_words capacity = 0 ∷ replicate capacity empty

-- nobody has died
abbrev pub opening : Opening
opening =
    record {
      least = 1;
      greatest = 2 ^ 32 - 1;
      words = λ size capacity. opening_words capacity;
      kept = λ capacity. registries.Owners [];
    }

-- ---- a call begins

-- whether a machine of a kind has the set
abbrev pub is_set : Kind → Bool
is_set kinds.Robust = true
is_set kind = false

-- the greatest number of 64 bits marks an empty cell, so a call for it is none
abbrev pub is_owner : ℕ → Bool
is_owner owner = nat_lt owner empty

-- whether the number that the call names as owner is one that an owner may have
abbrev pub names_owner : RobustStart → Bool
names_owner (Acquire owner) = is_owner owner
names_owner (Release index owner mode) = is_owner owner
names_owner (Find owner) = is_owner owner
names_owner (Recover mode) = true
names_owner BorrowedIndices = true
names_owner IsLocked = true

-- the call that begins on a machine of this kind
abbrev pub call_of : Kind → ℕ → RobustStart → Option RobustFlight
call_of kind capacity start =
    if is_set kind && names_owner start then Some (first capacity start) else None

-- what is tested of a call that is to begin: that the index which it is to give back is one of the set, and that the
-- owner for whom it is to acquire or release lives
abbrev pub call_rows : ℕ → List ℕ → RobustStart → List (Bool × Refusal)
call_rows capacity dead (Acquire owner) = (has_died owner dead, OwnerIsDead) ∷ []
call_rows capacity dead (Release index owner mode) =
    (nat_le capacity index, BadIndex) ∷ (has_died owner dead, OwnerIsDead) ∷ []
call_rows capacity dead (Find owner) = []
call_rows capacity dead (Recover mode) = []
call_rows capacity dead BorrowedIndices = []
call_rows capacity dead IsLocked = []

-- what is tested before a party begins the call, by who has died
abbrev pub kept_rows : {T : Type 0} → ℕ → RobustStart → Registry T → ℕ → List (Bool × Refusal)
kept_rows capacity start (registries.Owners dead) p = call_rows capacity dead start
kept_rows capacity start kept p = (true, WrongCall) ∷ []

module _ {T : Type 0} where
  -- how a call of the robust set begins, and what is tested before
  abbrev pub begin : Kind → ℕ → RobustStart → Beginning (Flight T) (Registry T)
  begin kind capacity start =
      record {
        call = λ kept. option_map flights.Robust (call_of kind capacity start);
        rows = kept_rows capacity start;
      }
