-- `main_theorem` (src/lib.rt): its return meets the clauses `runs`, `holds`, `wrote`, `says`, `holds_alone`, `answers`, `states`,
-- `places` and `calls`.
use Rattle.std.proofs.Common.{refl}
use Rattle.model.proofs.Orders.{reached_kept}
use Rattle.machine.proofs.Laws.{laws_of}
use Rattle.headline.proofs.Reached.{holds}
use Rattle.headline.proofs.Reaching.{reaches}
use Rattle.headline_whole.proofs.ByKind.{by_kind, holds_places}
use Rattle.headline_whole.proofs.Clauses.{wrote_in, says_in, are_alone}
use Rattle.headline_whole.proofs.Finished.{all_finished}
use Rattle.headline_whole.proofs.Views.{shows_views}
use Rattle.headline_whole.proofs.main_theorem.Goals as goal

-- The clause `runs`: every list of turns leads to a machine that turns reach.
pub returns-clause-runs : goal.returns-clause-runs
returns-clause-runs g c code kind capacity queue parties turns coded admitted queued =
    (reaches code kind capacity queue parties turns coded admitted queued).reached

pub returns-clause-holds : goal.returns-clause-holds
returns-clause-holds g c t r = holds t r

pub returns-clause-wrote : goal.returns-clause-wrote
returns-clause-wrote g c t r = wrote_in t.world.kind t (reached_kept laws_of t r)

pub returns-clause-says : goal.returns-clause-says
returns-clause-says g c t r = says_in t.world.kind t refl r

pub returns-clause-holds_alone : goal.returns-clause-holds_alone
returns-clause-holds_alone g c t r = are_alone t.world.kind t refl r

pub returns-clause-answers : goal.returns-clause-answers
returns-clause-answers g c t r runs = by_kind t r runs t.world.kind refl

pub returns-clause-states : goal.returns-clause-states
returns-clause-states g c t r runs is = shows_views t r runs is

pub returns-clause-places : goal.returns-clause-places
returns-clause-places g c t r runs rests = holds_places t r runs rests t.world.kind refl

pub returns-clause-calls : goal.returns-clause-calls
returns-clause-calls g c t r = all_finished t r
