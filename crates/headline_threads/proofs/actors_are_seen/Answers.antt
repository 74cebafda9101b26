-- `actors_are_seen` (src/lib.rt): its return meets the clauses `since`, `all` and `idle`.
use Rattle.headline_threads.proofs.Acting as laws
use Rattle.headline_threads.proofs.actors_are_seen.Goals as goal

pub returns-clause-since : goal.returns-clause-since
returns-clause-since g c = laws.actors_are_seen _

pub returns-clause-all : goal.returns-clause-all
returns-clause-all g c = laws.all_actors_are_seen _

pub returns-clause-idle : goal.returns-clause-idle
returns-clause-idle g c = laws.none_is_under_way _
