-- `Outlet::empty_submitted` (src/outlet.rt): its return meets the clauses `drained` and `empty`.
use Rattle.std.proofs.Common.{◌<◌, ◌∙◌, sym, subst}
use Rattle.history.specs.History.{IsBeginning}
use Rattle.history.proofs.Known.{begins_further}
use Rattle.lock_free_queues.specs.Queues.Rings.{QueueId, consumer_view, view}
use Rattle.zero_copy_bus.proofs.ViewLemmas.{found_further}
use Rattle.zero_copy_bus.proofs.outlet.Outlet.empty_submitted.Goals as goal

-- the split, the acquire, the pops, the release and the join of the body are those that `WasDrained` names
pub returns-in-Ok-clause-drained : goal.returns-in-Ok-clause-drained
returns-in-Ok-clause-drained g c seen =
    let taken = c.in-Ok.ensures.acquired in
    record {
      kept = view c.split.new.self;
      other = view c.in-Some.pass;
      begun = consumer_view c.in-Ok.receives;
      ended = consumer_view c.empty-is_empty.new.receives;
      left = view c.release.result;
      cut = c.in-Some.ensures.cut;
      begins = (taken.0.goes, taken.1);
      took =
          λ some.
          c.empty-is_empty.ensures.taken (subst (λ (q : QueueId). 0 < q.capacity) (sym (taken.0.queue ∙ c.in-Some.ensures.new)) some);
      ends = (c.release.ensures.same.goes, c.release.ensures.released);
      both = c.join.ensures.same.joined;
      queue = c.join.ensures.same.queue ∙ c.split.ensures.queue;
      all = c.join.ensures.same.all;
      history = c.history.ensures.history;
    }

-- the last pop found the queue empty, after all that the lane's pass had seen
pub returns-in-Ok-clause-empty : goal.returns-in-Ok-clause-empty
returns-in-Ok-clause-empty g c seen some =
    let taken = c.in-Ok.ensures.acquired.0 in
    let first : IsBeginning (view c.args.self.now.waits).seen (consumer_view c.in-Ok.receives).seen =
    subst (λ es. IsBeginning es (consumer_view c.in-Ok.receives).seen) c.in-Some.ensures.cut.right_seen taken.goes.since in
    let found =
    c.empty-is_empty.ensures.empty (subst (λ (q : QueueId). 0 < q.capacity) (sym (taken.queue ∙ c.in-Some.ensures.new)) some) seen in
    found_further _ _ _ _ first found (begins_further _ _ _ c.release.ensures.same.goes.since c.join.ensures.same.joined.others)
