-- `receive_all` (src/main.rt): the invariant of its loop holds at the start and after each iteration, and its return meets what it
-- ensures.
use Rattle.std.proofs.Common.{[], refl, subst, sym}
use Rattle.zero_copy_bus.proofs.Received.{had_still}
use Rattle.uses_news.specs.Marks.{HasRead}
use Rattle.uses_news.proofs.Steps.{reads_none, reads_then}
use Rattle.uses_news.proofs.receive_all.Goals as goal

pub loop-init : goal.loop-init
loop-init g c =
    let s = c.args.subscriber.now in
    subst (λ xs. HasRead [] xs s s) (sym c.new-marks.ensures.items) (reads_none [] [] s s (had_still s s refl refl refl refl refl))

pub loop-preserved : goal.loop-preserved
loop-preserved g c = reads_then [] _ _ _ _ _ c.loop.invariant c.in_ok-receive_one.ensures

pub returns-then-branch : goal.returns-then-branch
returns-then-branch g c = reads_then [] _ _ _ _ _ c.loop.invariant c.in_ok-receive_one.ensures
