-- What clauses see of a bus: how many slots it has, which passes are of its set of free slots, and which
-- sizes `Bus::new` admits.
use Rattle.std.specs.Prelude.{◌≡◌, ℕ, ◌-◌, ◌^◌, ◌≤◌, None}
use Rattle.zero_copy_slots.specs.declared.Keeps.{Ghosts}
use Rattle.lock_free_owners.specs.Container.Names.{container_refusal}
use Rattle.steps.specs.Enums.{capacity_refusal}
use Rattle.lock_free_sets.specs.UniqueIndexSet.{set_refusal}
use Rattle.lock_free_sets.specs.UniqueIndexSet as sets
use Rattle.lock_free_sets.specs.declared.mpmc.unique_index_set.Pass.{Pass}
use Rattle.zero_copy_bus.specs.declared.bus.Bus.{Bus}
use Rattle.zero_copy_bus.specs.declared.bus.Sizes.{Sizes}
use Rattle.zero_copy_bus.specs.Stores.{set_in}

module _ {X K : Type 0} {rule : Ghosts K X} where
  -- how many slots the bus has
  abbrev pub slots_of : Bus X K rule → ℕ
  slots_of bus = sets.capacity_of (set_in bus.store)

  -- the pass is of the bus's slots
  abbrev pub IsPassOf : Bus X K rule → Pass → Type 0
  IsPassOf bus pass = sets.IsPassOf (set_in bus.store) pass

-- The sizes are admitted: the set of slots, the registry and the queues each admit their capacity, and there
-- are at most 63 subscribers.
pub record IsAdmitted (sizes : Sizes) : Type 0 where
  pub slots : set_refusal sizes.slots ≡ None
  pub subscribers : container_refusal sizes.subscribers ≡ None
  pub most : sizes.subscribers ≤ 63
  pub queue : capacity_refusal 0 (2 ^ 32 - 1) sizes.queue ≡ None
