-- The law `container_calls_end_histories` (src/laws.rt): up to the end of a call, what a pass of a container has seen is a history too;
-- it is that of the first of the turns that the pass knows; so the view with which a call began is that of a run, also where the end of
-- a find that rested came first.
use Rattle.lock_free_owners.proofs.ContainerSet.Cuts.{ended_run}
use Rattle.lock_free_owners.proofs.laws.container_calls_end_histories.Goals as goal

pub returns : goal.returns
returns g c code capacity v knows p start answer before rest is = ended_run code capacity v knows p start answer before rest is
