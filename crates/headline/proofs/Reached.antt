-- What holds of every machine that turns have reached.
use Rattle.std.proofs.Common.{◌≤◌, refl}
use Rattle.model.specs.Turns.{IsReached}
use Rattle.model.specs.World.{Trace, progress_in}
use Rattle.model.specs.Progress.{guarantee_of}
use Rattle.model.specs.Promises.Families.{promise_of}
use Rattle.model.specs.Reading.{span_of}
use Rattle.model.proofs.Linearizable.Kinds.{run_linearizable}
use Rattle.model.proofs.Orders.{reached_kept}
use Rattle.model.proofs.Progress.{keeps_guarantees}
use Rattle.machine.proofs.Laws.{laws_of}
use Rattle.headline.specs.Headline.{Holds}
use Rattle.headline.proofs.Families.{by_kind}
use Rattle.headline.proofs.Progressing.{pays, is_bounded, is_guaranteed, most_promised}

-- the headline holds of each machine that turns have reached
pub holds : {T : Type 0} (t : Trace T) (r : IsReached t) → Holds r.queue t
holds t r =
    let kept = reached_kept laws_of t r in
    let guarantees = keeps_guarantees t kept in
    record {
      runs = by_kind t.world.kind r.queue t refl r refl kept (run_linearizable t kept);
      progress =
          record {
            paid = λ p g is.
                pays (promise_of t.world.kind) t.world.capacity t.world.coding.size (span_of p t.events) (progress_in t.world p) g (kept.progress p) is;
            bounded = λ p start g call is.
                rw (← most_promised t.world.kind t.world.capacity t.world.coding.size start g.backs)
                (is_bounded (promise_of t.world.kind) t.world.capacity t.world.coding.size (span_of p t.events) (progress_in t.world p) start g
                (kept.progress p) call is);
            guaranteed = λ p start g call is.
                is_guaranteed (guarantee_of t.world.kind t.world.capacity t.world.coding.size) (span_of p t.events) (progress_in t.world p) start g
                (guarantees p) call is;
          };
    }
