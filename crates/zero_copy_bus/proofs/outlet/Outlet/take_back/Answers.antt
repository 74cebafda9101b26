-- `Outlet::take_back` (src/outlet.rt): each iteration keeps the invariant of its loop, and its return meets the clauses `taken` and
-- `loans`.
use Rattle.std.proofs.Common.{arith}
use Rattle.lock_free_queues.specs.Queues.Rings.{consumer_view}
use Rattle.zero_copy_bus.specs.Outlets.{takes_view}
use Rattle.zero_copy_bus.specs.Pools.{slots_of, table_of}
use Rattle.zero_copy_bus.proofs.BookLemmas.{changes_keep, gains_both, keeps_both, keeps_loans}
use Rattle.zero_copy_bus.proofs.OutletLemmas.{so_empty, so_full, so_more}
use Rattle.zero_copy_bus.proofs.PoolLemmas.{same_both}
use Rattle.zero_copy_bus.proofs.outlet.Outlet.take_back.Goals as goal

-- one more slot number was popped and put back
pub loop-preserved : goal.loop-preserved
loop-preserved c =
    let was = c.loop.invariant in
    let back = c.put_back.ensures in
    let holder = c.args.self.now.holder in
    record {
      holder = was.holder;
      taking = was.taking;
      so =
          so_more c.loop.counter c.in-Some.back holder (table_of c.args.pool.now) (table_of c.loop.pool)
          (table_of c.put_back.new.self) (takes_view c.args.self.now) (takes_view c.loop.self)
          (consumer_view c.pop.new.self) was.so c.in-Some.ensures.popped back.changes back.lacks;
      others = keeps_both holder _ _ _ was.others (changes_keep _ holder _ _ back.changes);
      gains = gains_both _ _ _ was.gains back.gains;
      same = same_both _ _ _ was.same back.same;
      passes = record { sends = was.passes.sends; waits = was.passes.waits };
    }

pub returns-after-loop-clause-taken : goal.returns-after-loop-clause-taken
returns-after-loop-clause-taken c =
    so_full (slots_of c.args.pool.now) c.loop.counter (table_of c.args.pool.now) (table_of c.loop.pool) c.args.self.now
    c.loop.self c.loop.self c.loop.invariant.so (omega arith) c.loop.invariant.passes

pub returns-after-loop-clause-loans : goal.returns-after-loop-clause-loans
returns-after-loop-clause-loans c = keeps_loans c.args.self.now.holder _ _ c.args.self.now.subscribes c.loop.invariant.others

pub returns-in_default-clause-taken : goal.returns-in_default-clause-taken
returns-in_default-clause-taken c =
    so_empty (slots_of c.args.pool.now) c.loop.counter (table_of c.args.pool.now) (table_of c.loop.pool) c.args.self.now
    c.loop.self _ c.loop.invariant.so c.in_default.ensures.empty
    (record { sends = c.loop.invariant.passes.sends; waits = c.loop.invariant.passes.waits })

pub returns-in_default-clause-loans : goal.returns-in_default-clause-loans
returns-in_default-clause-loans c = keeps_loans c.args.self.now.holder _ _ c.args.self.now.subscribes c.loop.invariant.others
