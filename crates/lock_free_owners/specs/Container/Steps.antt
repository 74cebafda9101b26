-- How many atomic steps the calls of a container take: a number for a call alone, a number for each
-- change of a word by others, and one step where the last call of the pass rested. `size` is the
-- number of words of a value.
use Rattle.std.specs.Prelude.{ℕ, ◌≤◌, ◌+◌, ◌*◌, Option, Some, None}
use Rattle.steps.specs.declared.indices.enums.ReleaseMode.{ReleaseMode}
use Rattle.steps.specs.declared.indices.enums.ReleaseMode.TheVariants.{Default, LockIfLastIndex}
use Rattle.history.specs.declared.view.View.{View}
use Rattle.history.specs.Steps.{TakesAtMost, TakesAlone}

-- 1 where there is a value, else 0
abbrev pub one_if_some : {A : Type 0} → Option A → ℕ
one_if_some None = 0
one_if_some (Some x) = 1

module _ {T : Type 0} where
  -- 1 where the last call of the pass rests, which ends by one load, else 0
  abbrev pub to_settle : View T → ℕ
  to_settle v = one_if_some v.going

  -- at most one operation was no step of a call, and one more is allowed where the last
  -- call of the pass rested
  abbrev pub FewAside : (old new : View T) → Type 0
  FewAside old new = new.aside ≤ old.aside + (1 + to_settle old)

  -- at most `most` steps, and one more where the last call of the pass rested
  abbrev pub TakesFew : ℕ → View T → View T → Type 0
  TakesFew most old = TakesAtMost (most + to_settle old) old

  -- alone at most `alone` steps, and one more where the last call rested; `retry` for each change of a
  -- word by others
  abbrev pub ContainerTakes : (alone retry : ℕ) → View T → View T → Type 0
  ContainerTakes alone retry old = TakesAlone (alone + to_settle old) retry old

  -- how many steps a remove in this mode takes alone, and how many for each change by others
  abbrev pub RemoveTakes : ℕ → ReleaseMode → View T → View T → Type 0
  RemoveTakes capacity Default = ContainerTakes 6 1
  RemoveTakes capacity LockIfLastIndex = ContainerTakes (capacity + 9) (capacity + 3)

module _ {T : Type 0} (size capacity : ℕ) where
  -- how many steps a recovery in this mode takes alone, and how many for each change by others
  abbrev pub RecoverTakes : ReleaseMode → View T → View T → Type 0
  RecoverTakes Default = ContainerTakes (3 + capacity * (size + 7)) (size + 1)
  RecoverTakes LockIfLastIndex = ContainerTakes (3 + capacity * (size + capacity + 10)) (size + capacity + 4)

  -- at most so many steps for a find whose values have `size` words; if the last call of the pass rests, the
  -- find's first operation also ends it
  abbrev pub FindTakes : View T → View T → Type 0
  FindTakes = TakesAtMost (capacity * (size + 3))

  -- how many steps a look of a state (`get_state`, `update_state`) takes alone, and
  -- how many for each change by others
  abbrev pub LookTakes : View T → View T → Type 0
  LookTakes = ContainerTakes (1 + capacity * (size + 2)) (size + 1)
