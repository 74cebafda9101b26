-- `publish_all` (src/main.rt): the invariant of its loop holds at the start and after each iteration, and its return meets the clauses
-- `out` and `few`.
use Rattle.std.proofs.Common.{refl}
use Rattle.zero_copy_bus.proofs.Published.{published_none, published_then}
use Rattle.uses_news.proofs.publish_all.Goals as goal

pub loop-init : goal.loop-init
loop-init g c = record { out = published_none _ _ refl refl refl; few = λ before. before }

-- one more block was published
pub loop-preserved : goal.loop-preserved
loop-preserved g c =
    record {
      out = published_then _ _ _ c.loop.invariant.out c.publish_one.ensures.out;
      few = λ before. c.publish_one.ensures.few (c.loop.invariant.few before);
    }

pub returns-in-None-clause-out : goal.returns-in-None-clause-out
returns-in-None-clause-out g c = published_then _ _ _ c.loop.invariant.out c.publish_one.ensures.out

pub returns-in-None-clause-few : goal.returns-in-None-clause-few
returns-in-None-clause-few g c before = c.publish_one.ensures.few (c.loop.invariant.few before)
