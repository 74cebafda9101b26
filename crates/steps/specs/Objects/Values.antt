-- The single value that a value with versions is.
use Rattle.std.specs.Prelude.{ℕ, ◌+◌, ◌-◌, ◌^◌, ◌==◌, Bool, not, if◌then◌else◌}

-- A value and its version, which is one more with each store. The greatest number of 64 bits is the last version.
pub record Versioned (V : Type 0) : Type 0 where
  pub value : V
  pub version : ℕ

module _ {V : Type 0} where
  -- whether a store takes its value
  abbrev pub has_version : Versioned V → Bool
  has_version s = not (s.version == 2 ^ 64 - 1)

  -- the value after a store, which needs a version
  abbrev pub stored : Versioned V → V → Versioned V
  stored s value =
      if has_version s then record { value = value; version = s.version + 1 } else s
