-- `find_all` (src/mpmc/robust_unique_index_set/finds.rt): its call of `find_next` meets the requirement `may_turn`, the invariant of
-- its loop holds at the start and after each iteration, each iteration makes the measure of its loop smaller, and its return meets the
-- clause `ends`.
use Rattle.lock_free_owners.proofs.Names.{refl, subst, seen}
use Rattle.lock_free_owners.specs.Robust.Finding.{GoesDown, Onward}
use Rattle.lock_free_owners.proofs.RobustSet.Finding.{FindCase, starts, may_go}
use Rattle.lock_free_owners.proofs.RobustSet.Turns.{stays_then}
use Rattle.lock_free_owners.proofs.mpmc.robust_unique_index_set.finds.find_all.Goals.{Start}
use Rattle.lock_free_owners.proofs.mpmc.robust_unique_index_set.finds.find_all.Goals as goal
use Rattle.lock_free_owners.proofs.mpmc.robust_unique_index_set.finds.find_all.Given as given

-- The find that this function makes.
abbrev find : (g : given.Over) (c : Start g) → FindCase g.row.F.Denot
find g c =
    record {
      step = λ p x a q. given.F-step g p x a q;
      capacity = c.args.capacity;
      owner = c.args.owner;
      base = seen c.args.seat.now;
      visit = c.args.visit.now;
    }

-- the invariant of the loop holds before its first iteration
pub loop-next-init : goal.loop-next-init
loop-next-init g c = (
  record { same = (refl, refl, refl); board = c.requires.ready.board },
  starts (find g (goal.at.loop-next-init g c).Start) c.new-call.ensures c.requires.ready.known c.requires.ready.may_step c.requires.places,
)

-- the find may take its next turn: its stage is one that there is, and the closure may be called there
pub find_next-requires-clause-may_turn : goal.find_next-requires-clause-may_turn
find_next-requires-clause-may_turn g c =
    record {
      standing = c.loop-next.invariant.1.standing;
      asks = may_go (find g (goal.at.find_next-requires-clause-may_turn g c).Start) c.requires.asks c.loop-next.invariant.1;
    }

pub loop-next-smaller : goal.loop-next-smaller
loop-next-smaller g c = subst (GoesDown c.args.capacity _) c.in-GoOn.is c.find_next.ensures.less

-- an iteration after which the loop goes on keeps its invariant
pub loop-next-preserved : goal.loop-next-preserved
loop-next-preserved g c =
    let so_far = c.loop-next.invariant in
    let called = c.find_next in (
      stays_then so_far.0 called.ensures.stays,
      subst (λ a. Onward (λ p x a q. given.F-step g p x a q) c.args.capacity c.args.owner (seen c.args.seat.now) c.args.visit.now a (seen called.new.seat)
          called.new.visit) c.in-GoOn.is (called.ensures.goes (seen c.args.seat.now) c.args.visit.now so_far.1),
    )

-- where a step has ended the call, its end is as clause `ends` says
pub returns-in-Done-clause-ends : goal.returns-in-Done-clause-ends
returns-in-Done-clause-ends g c =
    let called = c.find_next in
    subst (λ a. Onward (λ p x a q. given.F-step g p x a q) c.args.capacity c.args.owner (seen c.args.seat.now) c.args.visit.now a (seen called.new.seat)
    called.new.visit) c.in-Done.is (called.ensures.goes (seen c.args.seat.now) c.args.visit.now c.loop-next.invariant.1)
