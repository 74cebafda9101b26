-- What a pass of a unique index set holds, by the claims and frees among the events that it made. A
-- join adds the events of both passes, so the joined pass holds what both held.
use Rattle.std.specs.Prelude.{◌≡◌, ℕ, ◌+◌, ◌/◌, ◌<◌, ◌≤◌, ◌==◌, true, List, [], length, sum_by, if◌then◌else◌}
use Rattle.model.specs.declared.event.Event.{Event}
use Rattle.model.specs.Families.Indices.Reading.{is_locked}
use Rattle.threaded.specs.Shares.{IsAll}
use Rattle.history.specs.declared.view.View.{View}
use Rattle.history.specs.Held.{claims, frees, Holds}
pub use Rattle.lock_free_sets.specs.Whole.{IsDone}

-- how many words the machine of a set has: the head, the next index of each index, and the flags
abbrev pub size : ℕ → ℕ
size capacity = 1 + capacity + (capacity + 63) / 64

-- 1 if the two numbers are equal, else 0
abbrev pub one_if : ℕ → ℕ → ℕ
one_if i j = if i == j then 1 else 0

-- how often the index stands in the list
abbrev pub times : ℕ → List ℕ → ℕ
times i is = sum_by (λ x. one_if x i) is

-- the maker of these events holds just these indices: each was claimed as often as it was freed and
-- stands in the list together
abbrev pub HeldBy : List ℕ → List (Event ℕ) → Type 0
HeldBy is made = (i : ℕ) → times i is + sum_by (frees i) made ≡ sum_by (claims i) made

-- the maker of these events holds no index
abbrev pub HoldsNothing : List (Event ℕ) → Type 0
HoldsNothing made = HeldBy [] made

-- What a pass holds is sound: it freed only what it had claimed, it holds no index twice and none that
-- is not below the capacity, and once it has seen the lock it holds none.
pub record IsSound (v : View ℕ) : Type 0 where
  pub least : (i : ℕ) → sum_by (frees i) v.made ≤ sum_by (claims i) v.made
  pub once : (i : ℕ) → sum_by (claims i) v.made ≤ sum_by (frees i) v.made + 1
  pub within : (i : ℕ) → Holds i v.made → i < v.capacity
  pub lock : is_locked v.seen ≡ true → HoldsNothing v.made

-- a pass with the whole share holds just this number of indices
abbrev pub HoldsAll : ℕ → View ℕ → Type 0
HoldsAll number v = IsAll v.share → (is : List ℕ) → HeldBy is v.made → length is ≡ number

-- a pass with the whole share holds at least one index
abbrev pub HoldsSome : View ℕ → Type 0
HoldsSome v = IsAll v.share → HoldsNothing v.made → ⊥
