-- The law `histories_are_linearizable` (src/laws.rt): a history of a value is linearizable as one value.
use Rattle.history_value.proofs.ValueLaws.{value_linearizable}
use Rattle.lock_free_value.proofs.laws.histories_are_linearizable.Goals as goal

pub returns : goal.returns
returns g c code events h = value_linearizable code 1 events h
