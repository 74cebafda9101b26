-- `Seated::drive` (src/driver/drive.rt): in its loop the seat stays at its table, and the call is under
-- way. Each step makes the measure of the call smaller.
use Rattle.std.proofs.Common.{◌≡◌}
use Rattle.threaded.specs.Driver.{Told}
use Rattle.threaded.specs.Seats.{seen, IsSame}
use Rattle.threaded.proofs.driver.seated.Seated.drive.Given as given

abbrev pub invariant-loop-next : given.invariant-loop-next
invariant-loop-next g l =
    IsSame l.fn.self l.self × (g.Q.Rule.capacity_seen (seen l.self) ≡ g.Q.Rule.capacity_seen (seen l.fn.self))
    × g.D.Drives.at l.fn.given (seen l.fn.self) (seen l.self) l.call l.room

-- Each step leaves the call fewer steps, by the measure that the call itself gives.
abbrev pub decreases-loop-next : given.decreases-loop-next
decreases-loop-next g l = g.C.Ends.left l.call

-- one step tells what `Told` says of the call with which `once` is called
abbrev pub ghosts-once : given.ghosts-once
ghosts-once g a =
    record {
      told =
          Told g.Q.Rule.capacity_seen (g.D.Drives.at a.given.now) (g.D.Drives.ends a.given.now)
          (λ c k. g.C.Routine.after c a.given.now k) g.C.Routine.kept a.call a.room.now;
    }
