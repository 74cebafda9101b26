-- The law `steps_are_bounded` (src/laws.rt): a bound on the operations of a call holds of that call in the
-- run that the pass knows after it.
use Rattle.history.proofs.Latest.{takes_in_run}
use Rattle.history.proofs.laws.steps_are_bounded.Goals as goal

pub returns : goal.returns
returns g c code kind capacity alone retry p start answer wrote old new called mine knows takes =
    takes_in_run alone retry called mine knows takes
