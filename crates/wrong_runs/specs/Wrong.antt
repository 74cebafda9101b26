-- A wrong run: one index of a robust set is granted to two owners.
use Rattle.std.specs.Prelude.{ℕ, ◌-◌, ◌^◌, List, [], ◌∷◌}
use Rattle.model.specs.declared.event.Event.{Event}
use Rattle.model.specs.declared.event.Event.TheVariants.{Filled, Granted}
use Rattle.model.specs.declared.families.Registry.TheVariants as registries
use Rattle.model.specs.declared.turn.Kind.TheVariants as kinds
use Rattle.model.specs.Coding.{one_word}
use Rattle.model.specs.World.{Trace}

-- the events: index 0 is filled for owner 7 and granted to him, and granted to owner 9 as well
abbrev pub two_grants : List (Event ℕ)
two_grants = Filled 0 0 7 ∷ Granted 0 0 7 ∷ Granted 1 0 9 ∷ []

-- a trace of a robust set of two indices, whose events grant one index to two owners
abbrev pub granted_twice : Trace ℕ
granted_twice =
    record {
      world =
          record {
            coding = one_word;
            kind = kinds.Robust;
            capacity = 2;
            parties = 2;
            words = 0 ∷ 7 ∷ (2 ^ 64 - 1) ∷ [];
            kept = registries.Owners [];
            latest = [];
            changes = 0;
            turns = 0;
          };
      events = two_grants;
    }
