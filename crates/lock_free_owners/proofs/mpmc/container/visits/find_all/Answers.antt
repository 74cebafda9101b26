-- `find_all` (src/mpmc/container/visits.rt): its call of `pass_others` meets the requirements `within` and `at`, that of `find_next` the
-- requirements `at` and `asks`, the invariant of its loop holds at the start and after each iteration, each iteration makes the measure
-- of its loop smaller, and its return meets the clause `searched`.
use Rattle.lock_free_owners.proofs.Names.{rules, refl, sym, coding_by, seen}
use Rattle.lock_free_owners.proofs.Rules.Container.Finding.{FindCase}
use Rattle.lock_free_owners.proofs.ContainerSet.Finds.{FindFacts, starts, further, may_go, may_pass, passed_on, passed_lower, turned_lower, below}
use Rattle.lock_free_owners.proofs.ContainerSet.Stays.{stays_then}
use Rattle.lock_free_owners.proofs.mpmc.container.visits.find_all.Goals.{Start}
use Rattle.lock_free_owners.proofs.mpmc.container.visits.find_all.Goals as goal
use Rattle.lock_free_owners.proofs.mpmc.container.visits.find_all.Given as given

-- The find that this function makes.
abbrev find : (g : given.Over) (c : Start g) → FindCase g.row.T.Denot g.row.F.Denot
find g c =
    record {
      code = coding_by g.T.Words;
      step = λ p x h a q. given.F-step g p x h a q;
      capacity = c.args.capacity;
      owner = c.args.owner;
      id = c.args.id;
      base = seen c.args.seat.now;
      visit = c.args.visit.now;
    }

-- Its values can be coded, and the seat knows the capacity of the container.
facts : (g : given.Over) (c : Start g) → FindFacts (find g c)
facts g c =
    let met = g.met.T.Words in
    record {
      law = record { some = met.some; few = met.few; sized = met.sized; given_back = met.given_back };
      small = search rules;
      size = sym c.requires.ready.known;
    }

-- the invariant of the loop holds before its first iteration
pub loop-next-init : goal.loop-next-init
loop-next-init g c =
    let find_here = find g (goal.at.loop-next-init g c).Start in (
      record { same = (refl, refl, refl); board = c.requires.ready.board },
      starts find_here c.new-call.ensures refl c.requires.places c.requires.at,
    )

-- if the find stands at a cell, its index is below the capacity
pub pass_others-passed-requires-clause-within : goal.pass_others-passed-requires-clause-within
pass_others-passed-requires-clause-within g c =
    may_pass (facts g (goal.at.pass_others-passed-requires-clause-within g c).Start) c.loop-next.invariant.1

-- by the invariant of the loop the call is under way (requirement `at`)
pub pass_others-passed-requires-clause-at : goal.pass_others-passed-requires-clause-at
pass_others-passed-requires-clause-at g c = (seen c.args.seat.now, c.loop-next.invariant.1.copies, c.loop-next.invariant.1.at)

-- once cells were passed the find is under way
pub find_next-after-requires-clause-at : goal.find_next-after-requires-clause-at
find_next-after-requires-clause-at g c =
    let here = facts g (goal.at.find_next-after-requires-clause-at g c).Start in
    let passed = c.pass_others-passed in
    let there = passed_on here c.loop-next.invariant.1 (seen passed.new.seat) passed.result passed.ensures.goes c.in-GoOn.is passed.ensures.passed in
    (seen c.args.seat.now, there.copies, there.at)

-- once cells were passed the closure may be called where the find stands at its question
pub find_next-after-requires-clause-asks : goal.find_next-after-requires-clause-asks
find_next-after-requires-clause-asks g c =
    let here = facts g (goal.at.find_next-after-requires-clause-asks g c).Start in
    let passed = c.pass_others-passed in
    let there = passed_on here c.loop-next.invariant.1 (seen passed.new.seat) passed.result passed.ensures.goes c.in-GoOn.is passed.ensures.passed in
    may_go here there c.requires.visits

-- each iteration makes the measure of the loop smaller
pub loop-next-smaller : goal.loop-next-smaller
loop-next-smaller g c =
    let start = (goal.at.loop-next-smaller g c).Start in
    let passed = c.pass_others-passed in
    let there = passed_on (facts g start) c.loop-next.invariant.1 (seen passed.new.seat) passed.result passed.ensures.goes c.in-GoOn.is passed.ensures.passed in
    let called = c.find_next-after in
    below
    (turned_lower (find g start) g.met.T.Words.few there (seen called.new.seat) called.new.room called.new.visit
    c.in-GoOn-after.is called.ensures.turns called.ensures.moves)
    (passed_lower (find g start) g.met.T.Words.few c.loop-next.call (seen c.loop-next.seat) (seen passed.new.seat) c.in-GoOn.is passed.ensures.passed)

-- an iteration after which the loop goes on keeps its invariant
pub loop-next-preserved : goal.loop-next-preserved
loop-next-preserved g c =
    let here = facts g (goal.at.loop-next-preserved g c).Start in
    -- Behind the cells that were passed the find stands at its next stage.
    let passed = c.pass_others-passed in
    let there = passed_on here c.loop-next.invariant.1 (seen passed.new.seat) passed.result passed.ensures.goes c.in-GoOn.is passed.ensures.passed in
    -- The turn leads it to its next stage.
    let called = c.find_next-after in (
      stays_then (stays_then c.loop-next.invariant.0 passed.ensures.stays) called.ensures.stays,
      further here there (seen called.new.seat) called.new.room called.new.visit c.in-GoOn-after.is called.ensures.turns called.ensures.moves,
    )

-- where a turn of an iteration has ended the find, clause `searched` holds of the whole find
pub returns-in-Done-after-clause-searched : goal.returns-in-Done-after-clause-searched
returns-in-Done-after-clause-searched g c =
    let here = facts g (goal.at.returns-in-Done-after-clause-searched g c).Start in
    let passed = c.pass_others-passed in
    let there = passed_on here c.loop-next.invariant.1 (seen passed.new.seat) passed.result passed.ensures.goes c.in-GoOn.is passed.ensures.passed in
    let called = c.find_next-after in
    further here there (seen called.new.seat) called.new.room called.new.visit c.in-Done-after.is called.ensures.turns called.ensures.moves

-- where the cells that were passed have ended the find, clause `searched` holds of the whole find
pub returns-in-Done-clause-searched : goal.returns-in-Done-clause-searched
returns-in-Done-clause-searched g c =
    let here = facts g (goal.at.returns-in-Done-clause-searched g c).Start in
    let passed = c.pass_others-passed in
    passed_on here c.loop-next.invariant.1 (seen passed.new.seat) passed.result passed.ensures.goes c.in-Done.is passed.ensures.passed
