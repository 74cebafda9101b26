-- A state that has seen its container, whatever calls were made on it since.
use Rattle.std.specs.Prelude.{◌≡◌, ℕ, ◌*◌, ◌-◌, ◌^◌, ◌<◌, ◌≤◌, true, None, length, slice_index, slice_index_or}
use Rattle.steps.specs.Container.Layout.{is_even}
use Rattle.plain.specs.Contents.{Contents, capacity}
use Rattle.plain.specs.States.{Snapshot}

module _ {V : Type 0} where
  -- the container may change once more before one of its numbers can come to its end
  abbrev pub MayChange : Contents V → Type 0
  MayChange s = s.changes < 2 ^ 63 - 1

  -- What numbers of the indices of a container must be: each index has one, at most twice the number of
  -- changes, and no value stands under an even one.
  pub record IsCounted (s : Contents V) : Type 0 where
    pub counts : length s.counts ≡ capacity s
    pub values : length s.values ≡ capacity s
    -- a change raises a number by 2 at most
    pub few : (i : ℕ) → slice_index s.counts i ≤ 2 * s.changes
    -- nothing stands under an even number
    pub even : (i : ℕ) → is_even (slice_index s.counts i) ≡ true
        → slice_index_or s.values i None ≡ None

  -- The state of the container whose snapshot is `seen` follows the container: it has seen no number higher
  -- than the container has, at each index whose number it has seen it shows the value that stands there, and
  -- where no change was counted since, it has seen all numbers.
  pub record Follows (s : Contents V) (seen : Snapshot V) : Type 0 where
    pub counted : IsCounted s
    pub counts : length seen.counts ≡ capacity s
    pub values : length seen.values ≡ capacity s
    -- it has seen no more changes than there were
    pub fewer : seen.changes ≤ s.changes
    -- it has seen no higher number than is there
    pub numbers : (i : ℕ) → slice_index seen.counts i ≤ slice_index s.counts i
    -- under the number that is there it has seen the value that stands there
    pub same : (i : ℕ) → slice_index s.counts i ≡ slice_index seen.counts i
        → slice_index_or seen.values i None ≡ slice_index_or s.values i None
    -- where no change was counted since, it has seen all numbers
    pub all : s.changes ≡ seen.changes → s.counts ≡ seen.counts

  -- a call that makes `new` of the container `old` keeps its numbers as they must be, and each state that
  -- followed it follows it still
  pub record Keeps (old new : Contents V) : Type 0 where
    pub counts : IsCounted old → IsCounted new
    pub follows : (seen : Snapshot V) → Follows old seen → Follows new seen
