-- The law `values_agree` (src/laws.rt; clauses `stored` and `loaded`): two calls at equal versions, a
-- store and a load or two loads, have equal values.
use Rattle.lock_free_value.proofs.Versions.{stored_loaded, loaded_loaded}
use Rattle.lock_free_value.proofs.laws.values_agree.Goals as goal

-- A store and a load at equal versions have equal values.
pub returns-clause-stored : goal.returns-clause-stored
returns-clause-stored g c code p q v x y events h a b = stored_loaded code p q v x y events h a b

-- Two loads at equal versions have equal values.
pub returns-clause-loaded : goal.returns-clause-loaded
returns-clause-loaded g c code p q v x y events h a b = loaded_loaded code p q v x y events h a b
