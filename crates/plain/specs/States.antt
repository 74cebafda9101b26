-- What a state of a container has seen of it, and shows.
use Rattle.std.specs.Prelude.{◌≡◌, ◌==◌, ℕ, Bool, false, not, Option, None, List, length, map, replicate, slice_index, slice_index_or, if◌then◌else◌}
use Rattle.std.specs.List.{range_with_len}
use Rattle.steps.specs.Container.State.{value_shown}
use Rattle.steps.specs.declared.container.state.ContainerState.{ContainerState}
use Rattle.steps.specs.declared.container.state.Element.{Element}
use Rattle.plain.specs.Contents.{Contents, capacity}

-- what a state of a container shows of one moment
pub record Snapshot (V : Type 0) : Type 0 where
  -- the number of changes of the container then
  pub changes : ℕ
  -- the number of each index then
  pub counts : List ℕ
  -- the value that is shown at each index, if there is one
  pub values : List (Option V)

module _ {V : Type 0} where
  -- a new state has seen nothing and shows nothing
  abbrev pub blank : ℕ → Snapshot V
  blank capacity =
      record { changes = 0; counts = replicate capacity 0; values = replicate capacity None }

  -- the snapshot that a state holds
  abbrev pub snapshot_of : ContainerState V → Snapshot V
  snapshot_of state =
      record {
        changes = state.seen.change;
        counts = state.seen.counts;
        values = map value_shown state.shown.elements;
      }

  -- the state has this container's number and capacity
  abbrev pub IsStateOf : Contents V → ContainerState V → Type 0
  IsStateOf s state = (state.container ≡ s.container) × (state.capacity ≡ capacity s)

  -- The state's parts agree: it shows the numbers that it has seen. A state that `get_state` has made is
  -- settled, and each call on it leaves it settled.
  pub record IsSettled (state : ContainerState V) : Type 0 where
    pub change : state.shown.change ≡ state.seen.change
    pub counts : map (λ (e : Element V). e.count) state.shown.elements ≡ state.seen.counts
    pub long : length state.shown.elements ≡ state.capacity
    pub room : length state.shown.copy ≡ 128

  -- ---- brought up to date

  -- the value that an updated state shows at an index: what it showed where it has seen the number,
  -- else what stands there
  abbrev pub value_then : Contents V → Snapshot V → ℕ → Option V
  value_then s seen index =
      if slice_index s.counts index == slice_index seen.counts index
      then slice_index_or seen.values index None
      else slice_index_or s.values index None

  -- The snapshot after an update: unchanged where no change was
  -- counted since it was taken, and else as the contents are.
  abbrev pub updated : Contents V → Snapshot V → Snapshot V
  updated s seen =
      if s.changes == seen.changes
      then seen
      else record {
        changes = s.changes;
        counts = s.counts;
        values = map (value_then s seen) (range_with_len 0 (capacity s));
      }

  -- an update of the state by a call on its container, which answered this
  pub record Brought (s : Contents V) (old : ContainerState V) (answer : Bool) (new : ContainerState V) : Type 0 where
    -- whether a change was counted since it was up to date
    pub answers : answer ≡ not (s.changes == old.seen.change)
    pub of : (new.container ≡ old.container) × (new.capacity ≡ old.capacity)
    -- an update that answers false leaves the state
    pub left : answer ≡ false → snapshot_of new ≡ snapshot_of old
    -- a settled state is settled after it, and shows what stands now
    pub shows : IsSettled old → old.capacity ≡ capacity s
        → IsSettled new × (snapshot_of new ≡ updated s (snapshot_of old))
