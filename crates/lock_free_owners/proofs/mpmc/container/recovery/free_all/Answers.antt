-- `free_all` (src/mpmc/container/recovery.rt): its call of `pass_others` meets the requirements `within` and `at`, that of
-- `recover_next` the requirements `at` and `asks`, the invariant of its loop holds at the start and after each iteration, and its return
-- meets the clause `recovered`.
use Rattle.lock_free_owners.proofs.Names.{refl, IsCoding, coding_by, seen}
use Rattle.lock_free_owners.proofs.Rules.Container.Recovering.{RecoveryCase}
use Rattle.lock_free_owners.proofs.ContainerSet.Recoveries.{starts, further, may_go, may_pass, passed_on}
use Rattle.lock_free_owners.proofs.ContainerSet.Stays.{stays_then}
use Rattle.lock_free_owners.proofs.mpmc.container.recovery.free_all.Goals.{Start}
use Rattle.lock_free_owners.proofs.mpmc.container.recovery.free_all.Goals as goal
use Rattle.lock_free_owners.proofs.mpmc.container.recovery.free_all.Given as given

-- The recovery that this function makes.
abbrev recovery : (g : given.Over) (c : Start g) → RecoveryCase g.row.T.Denot g.row.F.Denot
recovery g c =
    record {
      code = coding_by g.T.Words;
      step = λ p x b q. given.F-step g p x b q;
      capacity = c.args.capacity;
      given = record { owner = c.args.owner; mode = c.args.mode };
      base = seen c.args.seat.now;
      predicate = c.args.predicate.now;
    }

-- Its values can be coded.
law : (g : given.Over) → IsCoding (coding_by g.T.Words)
law g = (let met = g.met.T.Words in record { some = met.some; few = met.few; sized = met.sized; given_back = met.given_back })

-- the invariant of the loop holds before its first iteration
pub loop-init : goal.loop-init
loop-init g c =
    let here = recovery g (goal.at.loop-init g c).Start in (
      record { same = (refl, refl, refl); board = c.requires.ready.board },
      starts here c.new-call.ensures refl c.requires.at,
    )

-- if the recovery stands at a cell, its index is below the capacity
pub pass_others-passed-requires-clause-within : goal.pass_others-passed-requires-clause-within
pass_others-passed-requires-clause-within g c =
    may_pass (recovery g (goal.at.pass_others-passed-requires-clause-within g c).Start) c.loop.invariant.1

-- by the invariant of the loop the call is under way (requirement `at`)
pub pass_others-passed-requires-clause-at : goal.pass_others-passed-requires-clause-at
pass_others-passed-requires-clause-at g c = (seen c.args.seat.now, c.loop.invariant.1.visits, c.loop.invariant.1.at)

-- once cells were passed the recovery is under way
pub recover_next-after-requires-clause-at : goal.recover_next-after-requires-clause-at
recover_next-after-requires-clause-at g c =
    let here = recovery g (goal.at.recover_next-after-requires-clause-at g c).Start in
    let passed = c.pass_others-passed.ensures in
    let there = passed_on here c.loop.invariant.1 passed.goes passed.passed in
    (seen c.args.seat.now, there.visits, there.at)

-- once cells were passed the closure may be called where the recovery stands at its question
pub recover_next-after-requires-clause-asks : goal.recover_next-after-requires-clause-asks
recover_next-after-requires-clause-asks g c =
    let here = recovery g (goal.at.recover_next-after-requires-clause-asks g c).Start in
    let passed = c.pass_others-passed.ensures in
    let there = passed_on here c.loop.invariant.1 passed.goes passed.passed in
    may_go here (law g) there c.requires.questions

-- an iteration after which the loop goes on keeps its invariant
pub loop-preserved : goal.loop-preserved
loop-preserved g c =
    let here = recovery g (goal.at.loop-preserved g c).Start in
    -- Behind the cells that were passed the recovery stands at its next stage.
    let passed = c.pass_others-passed.ensures in
    let there = passed_on here c.loop.invariant.1 passed.goes passed.passed in
    -- The turn leads it to its next stage.
    let called = c.recover_next-after in (
      stays_then (stays_then c.loop.invariant.0 passed.stays) called.ensures.stays,
      further here (law g) there (seen called.new.seat) called.new.room called.new.predicate c.in-GoOn.is called.ensures.turns called.ensures.moves,
    )

-- where a turn has ended the recovery, clause `recovered` holds of the whole recovery
pub returns-in-Done-clause-recovered : goal.returns-in-Done-clause-recovered
returns-in-Done-clause-recovered g c =
    let here = recovery g (goal.at.returns-in-Done-clause-recovered g c).Start in
    -- Behind the cells that were passed the recovery stands at its next stage.
    let passed = c.pass_others-passed.ensures in
    let there = passed_on here c.loop.invariant.1 passed.goes passed.passed in
    -- The turn ends it.
    let called = c.recover_next-after in
    further here (law g) there (seen called.new.seat) called.new.room called.new.predicate c.in-Done.is called.ensures.turns called.ensures.moves
