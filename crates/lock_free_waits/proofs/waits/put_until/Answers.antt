-- `put_until` (src/waits.rt): each iteration keeps the invariant of its loop, and the last try decides.
use Rattle.std.proofs.Common.{◌+◌, refl, of_calls}
use denote.Param.Always.{always_mut}
use denote.Param.Members.{Called}
use Rattle.lock_free_waits.specs.Waits.{WentOn}
use Rattle.lock_free_waits.proofs.Tries.{times_more}
use Rattle.lock_free_waits.proofs.waits.put_until.Goals as goal

pub returns-then-put_once-clause-was_put : goal.returns-then-put_once-clause-was_put
returns-then-put_once-clause-was_put g c =
    λ _. let so_far = c.loop.invariant.tries in (
      so_far.0,
      (c.loop.to, c.loop.stop),
      so_far.1,
      c.put_once.ensures.was_put c.if-put_once.true,
      refl,
    )

pub returns-then-stop-clause-stopped : goal.returns-then-stop-clause-stopped
returns-then-stop-clause-stopped g c =
    λ _. let so_far = c.loop.invariant.tries in (
      so_far.0,
      (c.loop.to, c.loop.stop),
      so_far.1,
      c.put_once.ensures.refused c.if-put_once.false,
      c.if-stop.ensures,
    )

pub loop-preserved : goal.loop-preserved
loop-preserved g c =
    let so_far = c.loop.invariant.tries in
    let again : always_mut g.S.FnMut c.stop.new.self = search of_calls in
    record {
      callable = again;
      tries = (
        so_far.0 + 1,
        times_more (WentOn (g.A.Puts.refused c.args.value.now) (λ s answer t. Called g.S.FnMut s _ answer t)) so_far.0
            (c.args.to.now, c.args.stop.now) (c.loop.to, c.loop.stop) (c.put_once.new.self, c.stop.new.self) so_far.1
            (c.put_once.ensures.refused c.if-put_once.false, c.if-stop.ensures),
      );
    }
