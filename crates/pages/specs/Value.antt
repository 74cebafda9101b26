-- The single value of one word: its words, its calls stage by stage, and the register.
use Rattle.std.specs.Prelude.{ℕ, ◌+◌, ◌-◌, ◌%◌, ◌^◌, ◌==◌, Bool, true, false, [], ◌∷◌, if◌then◌else◌}
use Rattle.pages.specs.Machine.{Operation, Load, Store, Add, Exchange, After, GoOn, Done, Structure, Object}

pub data Call : Type 0 where  -- the calls of the value
  StoreValue : (value : ℕ) → Call
  LoadValue : Call

pub data Answer : Type 0 where  -- answers: of StoreValue whether the value was taken, of LoadValue the value
  Stored : (taken : Bool) → Answer
  Loaded : (value : ℕ) → Answer

pub data Stage : Type 0 where  -- what a call does next, with all that it knows
  StoreLoadsVersion : (value : ℕ) → Stage
  StoreStoresCell : (value version : ℕ) → Stage
  StoreAddsVersion : (value : ℕ) → Stage
  LoadLoadsVersion : Stage
  LoadLoadsCell : (version : ℕ) → Stage
  LoadChecksVersion : (version value : ℕ) → Stage

abbrev pub first : Call → Stage  -- the stage with which a call begins
first (StoreValue value) = StoreLoadsVersion value
first LoadValue = LoadLoadsVersion

-- There are two cells. A store that finds version v writes its value into cell v % 2, and raises the version to v + 1. So the
-- value of version v is in cell (v - 1) % 2.
abbrev pub does : Stage → ℕ × Operation × (ℕ → After Stage Answer)
does (StoreLoadsVersion value) =
    (0, Load, λ old. if old == 2 ^ 64 - 1 then Done (Stored false) else GoOn (StoreStoresCell value old))
does (StoreStoresCell value version) = (2 + version % 2, Store value, λ old. GoOn (StoreAddsVersion value))
does (StoreAddsVersion value) = (0, Add 1, λ old. Done (Stored true))
does LoadLoadsVersion = (0, Load, λ old. GoOn (LoadLoadsCell old))
does (LoadLoadsCell version) =
    (2 + (version + 2 ^ 64 - 1) % 2 ^ 64 % 2, Load, λ old. GoOn (LoadChecksVersion version old))
does (LoadChecksVersion version value) =
    (0, Exchange version version, λ old. if old == version then Done (Loaded value) else GoOn (LoadLoadsCell old))

-- party 0 is the producer, and any party may load
abbrev pub may : ℕ → Call → Bool
may p (StoreValue value) = p == 0
may p LoadValue = true

-- the version, a word 0 for the role, since it is taken, and two cells
abbrev pub value : Structure Call Stage Answer
value = record { words = 1 ∷ 0 ∷ 0 ∷ 0 ∷ []; may = may; first = first; does = does }

abbrev pub registered : ℕ → Call → Answer × ℕ  -- what the register answers to a call, and the value that it has then
registered held (StoreValue value) = (Stored true, value)
registered held LoadValue = (Loaded held, held)

abbrev pub register : Object Call Answer ℕ  -- the sequential object: a register, which has 0 at first
register = record { opening = 0; act = registered }
