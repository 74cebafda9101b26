-- `recover_all` (src/mpmc/robust_unique_index_set/recovers.rt): its call of `step_recover` meets the requirement `at`, that of
-- `ask_first` the requirement `asks`, that of `look_again` the requirement `at`, that of `recover_next` the requirements `at` and
-- `asks`, the invariant of its loop holds at the start and after each iteration, and its return meets the clause `ends`.
use Rattle.lock_free_owners.proofs.Names.{seen}
use Rattle.lock_free_owners.proofs.RobustSet.Recoveries.{begun_at, stands_at, stands_first, first_leads_on, first_leads_end, moves_on, moves_end}
use Rattle.lock_free_owners.proofs.RobustSet.Recoveries.{leads_on, leads_end, stays_on, stays_end, may_ask_on, asks_there}
use Rattle.lock_free_owners.proofs.RobustSet.Turns.{stays_then}
use Rattle.lock_free_owners.proofs.Rules.Robust.Recovering.{looks_on}
use Rattle.lock_free_owners.proofs.mpmc.robust_unique_index_set.recovers.recover_all.Goals as goal
use Rattle.lock_free_owners.proofs.mpmc.robust_unique_index_set.recovers.recover_all.Given as given

-- the recovery is at its first stage
pub step_recover-requires-clause-at : goal.step_recover-requires-clause-at
step_recover-requires-clause-at g c =
    let here = begun_at (λ p o i b q. given.F-step g p o i b q) (λ s o i t. given.S-step g s o i tt t)
    c.requires.begins c.args.predicate.now c.args.recovered.now in
    let first = stands_first here c.new.ensures c.requires.begins.at in
    (seen c.args.seat.now, first.visits, c.requires.begins.idle, first.at)

-- where the first step has ended the recovery, clause `ends` holds of its end
pub returns-in-Done-clause-ends : goal.returns-in-Done-clause-ends
returns-in-Done-clause-ends g c =
    let here = begun_at (λ p o i b q. given.F-step g p o i b q) (λ s o i t. given.S-step g s o i tt t)
    c.requires.begins c.args.predicate.now c.args.recovered.now in
    first_leads_end here c.new.ensures c.requires.begins.at c.step_recover.ensures.goes c.in-Done.is

-- after its first step the recovery stands so that the first closure may be asked
pub ask_first-first-requires-clause-asks : goal.ask_first-first-requires-clause-asks
ask_first-first-requires-clause-asks g c =
    let here = begun_at (λ p o i b q. given.F-step g p o i b q) (λ s o i t. given.S-step g s o i tt t)
    c.requires.begins c.args.predicate.now c.args.recovered.now in
    let one = first_leads_on here c.new.ensures c.requires.begins.at c.step_recover.ensures.goes c.in-GoOn.is in
    may_ask_on here c.requires.questions one

-- where the first steps over cells have ended the recovery, clause `ends` holds of its end
pub returns-in-Done-first-clause-ends : goal.returns-in-Done-first-clause-ends
returns-in-Done-first-clause-ends g c =
    let here = begun_at (λ p o i b q. given.F-step g p o i b q) (λ s o i t. given.S-step g s o i tt t)
    c.requires.begins c.args.predicate.now c.args.recovered.now in
    let one = first_leads_on here c.new.ensures c.requires.begins.at c.step_recover.ensures.goes c.in-GoOn.is in
    leads_end here one c.ask_first-first.ensures.goes c.in-Done-first.is

-- after the first steps over cells the recovery is under way
pub look_again-requires-clause-at : goal.look_again-requires-clause-at
look_again-requires-clause-at g c =
    let here = begun_at (λ p o i b q. given.F-step g p o i b q) (λ s o i t. given.S-step g s o i tt t)
    c.requires.begins c.args.predicate.now c.args.recovered.now in
    let one = first_leads_on here c.new.ensures c.requires.begins.at c.step_recover.ensures.goes c.in-GoOn.is in
    let two = leads_on here one c.ask_first-first.ensures.goes c.in-GoOn-first.is in
    (seen c.args.seat.now, two.visits, c.requires.begins.idle, two.at)

-- where the load of the counter behind the last cell has ended the recovery, clause `ends` holds of its end
pub returns-in-Done-look_again-clause-ends : goal.returns-in-Done-look_again-clause-ends
returns-in-Done-look_again-clause-ends g c =
    let here = begun_at (λ p o i b q. given.F-step g p o i b q) (λ s o i t. given.S-step g s o i tt t)
    c.requires.begins c.args.predicate.now c.args.recovered.now in
    let one = first_leads_on here c.new.ensures c.requires.begins.at c.step_recover.ensures.goes c.in-GoOn.is in
    let two = leads_on here one c.ask_first-first.ensures.goes c.in-GoOn-first.is in
    stays_end here two c.look_again.ensures.goes (looks_on here two c.look_again.result c.look_again.ensures.looked) c.in-Done-look_again.is

-- the invariant of the loop holds before its first iteration
pub loop-init : goal.loop-init
loop-init g c =
    let here = begun_at (λ p o i b q. given.F-step g p o i b q) (λ s o i t. given.S-step g s o i tt t)
    c.requires.begins c.args.predicate.now c.args.recovered.now in
    -- The first step leads the recovery to its next stage.
    let one = first_leads_on here c.new.ensures c.requires.begins.at c.step_recover.ensures.goes c.in-GoOn.is in
    -- The steps over cells behind it lead the recovery to a further stage.
    let two = leads_on here one c.ask_first-first.ensures.goes c.in-GoOn-first.is in
    -- If these came past the last cell, the load of the counter leads to one stage more.
    let three = stays_on here two c.look_again.ensures.goes (looks_on here two c.look_again.result c.look_again.ensures.looked) c.in-GoOn-look_again.is in (
      stays_then (stays_then c.step_recover.ensures.stays c.ask_first-first.ensures.stays) c.look_again.ensures.stays,
      (three.visits, three.at, three.so_far),
    )

-- by the invariant of the loop the recovery is under way (requirement `at`)
pub recover_next-after-requires-clause-at : goal.recover_next-after-requires-clause-at
recover_next-after-requires-clause-at g c =
    (seen c.args.seat.now, c.loop.invariant.1.0, c.requires.begins.idle, c.loop.invariant.1.1)

-- at each stage of the recovery its closures may be called as that stage needs
pub recover_next-after-requires-clause-asks : goal.recover_next-after-requires-clause-asks
recover_next-after-requires-clause-asks g c =
    let here = begun_at (λ p o i b q. given.F-step g p o i b q) (λ s o i t. given.S-step g s o i tt t)
    c.requires.begins c.args.predicate.now c.args.recovered.now in
    asks_there here c.requires.questions c.requires.freed (stands_at here c.loop.predicate c.loop.recovered c.loop.invariant.1)

-- where a step or an answer in an iteration has ended the recovery, clause `ends` holds of its end
pub returns-in-Done-after-clause-ends : goal.returns-in-Done-after-clause-ends
returns-in-Done-after-clause-ends g c =
    let here = begun_at (λ p o i b q. given.F-step g p o i b q) (λ s o i t. given.S-step g s o i tt t)
    c.requires.begins c.args.predicate.now c.args.recovered.now in
    let now = stands_at here c.loop.predicate c.loop.recovered c.loop.invariant.1 in
    moves_end here now c.recover_next-after.ensures.goes c.in-Done-after.is

-- after a step of an iteration the recovery stands so that the first closure may be asked
pub ask_first-cells-requires-clause-asks : goal.ask_first-cells-requires-clause-asks
ask_first-cells-requires-clause-asks g c =
    let here = begun_at (λ p o i b q. given.F-step g p o i b q) (λ s o i t. given.S-step g s o i tt t)
    c.requires.begins c.args.predicate.now c.args.recovered.now in
    let now = stands_at here c.loop.predicate c.loop.recovered c.loop.invariant.1 in
    let stepped = moves_on here now c.recover_next-after.ensures.goes c.in-GoOn-after.is in
    may_ask_on here c.requires.questions stepped

-- where the steps over cells of an iteration have ended the recovery, clause `ends` holds of its end
pub returns-in-Done-cells-clause-ends : goal.returns-in-Done-cells-clause-ends
returns-in-Done-cells-clause-ends g c =
    let here = begun_at (λ p o i b q. given.F-step g p o i b q) (λ s o i t. given.S-step g s o i tt t)
    c.requires.begins c.args.predicate.now c.args.recovered.now in
    let now = stands_at here c.loop.predicate c.loop.recovered c.loop.invariant.1 in
    let stepped = moves_on here now c.recover_next-after.ensures.goes c.in-GoOn-after.is in
    leads_end here stepped c.ask_first-cells.ensures.goes c.in-Done-cells.is

-- an iteration after which the loop goes on keeps its invariant
pub loop-preserved : goal.loop-preserved
loop-preserved g c =
    let here = begun_at (λ p o i b q. given.F-step g p o i b q) (λ s o i t. given.S-step g s o i tt t)
    c.requires.begins c.args.predicate.now c.args.recovered.now in
    let now = stands_at here c.loop.predicate c.loop.recovered c.loop.invariant.1 in
    let stepped = moves_on here now c.recover_next-after.ensures.goes c.in-GoOn-after.is in
    let next = leads_on here stepped c.ask_first-cells.ensures.goes c.in-GoOn-cells.is in (
      stays_then (stays_then c.loop.invariant.0 c.recover_next-after.ensures.stays) c.ask_first-cells.ensures.stays,
      (next.visits, next.at, next.so_far),
    )
