-- The law `copies_are_whole` (src/containers.rt): each add and replace that succeeded has placed its value, what is copied stands there,
-- whole, and no index is granted that somebody holds: where nobody acts for an owner in recovery, nor gives back or replaces what is not
-- his, no two calls that may lock overlap, and so little was done that no number can have come round.
use Rattle.history_laws.proofs.ContainerLaws.{contained_history}
use Rattle.history_laws.proofs.containers.copies_are_whole.Goals as goal

pub returns : goal.returns
returns g c code capacity events h kept = contained_history code capacity events h kept
