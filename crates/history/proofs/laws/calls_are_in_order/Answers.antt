-- The law `calls_are_in_order` (src/laws.rt): of two calls that passes made, the first ended before the
-- second began, if what the second's pass had seen before its call goes on from what the first's pass had
-- seen after its own.
use Rattle.history.proofs.Order as order
use Rattle.history.proofs.laws.calls_are_in_order.Goals as goal

pub returns : goal.returns
returns g c p q s t a b old new later last history x y seen = order.in_order x y seen
