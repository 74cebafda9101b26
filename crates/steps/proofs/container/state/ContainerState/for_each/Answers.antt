-- `ContainerState::for_each` (src/container/state.rt): its return meets what it ensures (`HasShown`).
use Rattle.steps.proofs.container.state.ContainerState.for_each.Goals as goal

pub returns : goal.returns
returns g c = rw c.elements.ensures at c.visit_elements.ensures
