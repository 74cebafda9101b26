-- `Publisher::passes_on` (src/publisher.rt): its return meets what it ensures (`LanesPassOn`).
use Rattle.zero_copy_bus.proofs.Relayed.{lanes_pass_on}
use Rattle.zero_copy_bus.proofs.publisher.Publisher.passes_on.Goals as goal

pub returns : goal.returns
returns g c = lanes_pass_on
