use Rattle.std.proofs.Common.{◌≢◌, ℕ, ◌<◌, Some}
use Rattle.steps.specs.Container.State.{shown_at}
use Rattle.zero_copy_bus.proofs.roll.Roll.has.Given as given

-- no index below `index` has a record of this place in the copied state
abbrev pub invariant-loop-index : given.invariant-loop-index
invariant-loop-index l = (i : ℕ) → i < l.index → shown_at l.self.state.shown.elements i ≢ Some l.place
