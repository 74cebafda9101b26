-- The invariant of the loop of `copy_counts`: the numbers are those at entry, with the numbers of the
-- elements passed so far written over them.
use Rattle.std.proofs.Common.{◌≡◌, take}
use Rattle.steps.specs.Container.State.{numbers_over}
use Rattle.steps.proofs.container.state.copy_counts.Given as given

abbrev pub invariant-elements : given.invariant-elements
invariant-elements g l = l.counts ≡ numbers_over l.fn.counts (take l.index l.elements)
