-- How many steps a call of the container takes.
use Rattle.std.specs.Prelude.{ℕ, ◌+◌, ◌*◌}
use Rattle.steps.specs.declared.indices.enums.ReleaseMode.TheVariants.{LockIfLastIndex, Default}
use Rattle.model.specs.declared.families.container.ContainerStart.{ContainerStart}
use Rattle.model.specs.declared.families.container.ContainerStart.TheVariants.{Add, Remove, Replace, Find, Recover}
use Rattle.model.specs.declared.families.container.ContainerStart.TheVariants.{GetState, UpdateState, Len, IsEmpty}
use Rattle.model.specs.declared.families.container.ContainerStart.TheVariants.{IsLocked}

module _ {T : Type 0} where
  -- How many steps a call takes at most, by the capacity, the number of words of a value (`size`), and
  -- how often the call has turned back to the start of a loop (`backs`). An add takes an acquire and 4
  -- steps besides the words of its value, a remove a release and 3. A copy takes the words and 1 step,
  -- and a lock as many steps as the capacity and 3.
  abbrev pub most_steps : (capacity size : ℕ) → ContainerStart T → ℕ → ℕ
  most_steps capacity size (Add value owner) backs =
      capacity + 7 + size + backs * (capacity + 1)
  most_steps capacity size (Remove index owner Default) backs = 6 + backs
  most_steps capacity size (Remove index owner LockIfLastIndex) backs =
      capacity + 9 + backs * (capacity + 3)
  most_steps capacity size (Replace index value owner) backs = 5 + size
  most_steps capacity size (Find owner) backs = capacity * (size + 3)
  most_steps capacity size (Recover owner Default) backs =
      3 + capacity * (size + 7) + backs * (size + 1)
  most_steps capacity size (Recover owner LockIfLastIndex) backs =
      3 + capacity * (size + capacity + 10) + backs * (size + capacity + 4)
  most_steps capacity size GetState backs = 1 + capacity * (size + 2) + backs * (size + 1)
  most_steps capacity size UpdateState backs = 1 + capacity * (size + 2) + backs * (size + 1)
  most_steps capacity size Len backs = capacity + 2 + backs * (capacity + 2)
  most_steps capacity size IsEmpty backs = capacity + 2 + backs * (capacity + 2)
  most_steps capacity size IsLocked backs = 1
