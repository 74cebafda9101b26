-- `Seated::drive_some` (src/driver/drive.rt): in its loop the seat stays at its table, and from where the
-- call began it has come to where it stands.
use Rattle.std.proofs.Common.{◌≡◌}
use Rattle.threaded.specs.Driver.{Told}
use Rattle.threaded.specs.Seats.{seen, IsSame}
use Rattle.threaded.proofs.driver.seated.Seated.drive_some.Given as given

abbrev pub invariant-loop : given.invariant-loop
invariant-loop g l =
    IsSame l.fn.self l.self × (g.Q.Rule.capacity_seen (seen l.self) ≡ g.Q.Rule.capacity_seen (seen l.fn.self))
    × ((base : g.row.V.Denot) → g.D.Drives.at l.fn.given base (seen l.fn.self) l.fn.first l.fn.room
    → g.D.Drives.at l.fn.given base (seen l.self) l.call l.room)

-- one step tells what `Told` says of the call with which `once` is called
abbrev pub ghosts-once : given.ghosts-once
ghosts-once g a =
    record {
      told =
          Told g.Q.Rule.capacity_seen (g.D.Drives.at a.given.now) (g.D.Drives.ends a.given.now)
          (λ c k. g.C.Routine.after c a.given.now k) g.C.Routine.kept a.call a.room.now;
    }
