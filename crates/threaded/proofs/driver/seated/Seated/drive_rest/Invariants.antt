-- `Seated::drive_rest` (src/driver/drive.rt): in both loops the seat stays at its table, and the call is under way,
-- whatever the view with which it began.
use Rattle.std.proofs.Common.{◌≡◌}
use Rattle.threaded.specs.Driver.{Told}
use Rattle.threaded.specs.Seats.{seen, IsSame}
use Rattle.threaded.proofs.driver.seated.Seated.drive_rest.Given as given

abbrev pub invariant-steps : given.invariant-steps
invariant-steps g l =
    IsSame l.fn.self l.self × (g.Q.Rule.capacity_seen (seen l.self) ≡ g.Q.Rule.capacity_seen (seen l.fn.self))
    × ((base : g.row.V.Denot) × g.D.Drives.at l.fn.given base (seen l.self) l.call l.room)
    × ((base : g.row.V.Denot) → g.D.Drives.at l.fn.given base (seen l.fn.self) l.fn.first l.fn.room
    → g.D.Drives.at l.fn.given base (seen l.self) l.call l.room)

abbrev pub invariant-alike : given.invariant-alike
invariant-alike g l =
    IsSame l.fn.self l.self × (g.Q.Rule.capacity_seen (seen l.self) ≡ g.Q.Rule.capacity_seen (seen l.fn.self))
    × ((base : g.row.V.Denot) × g.D.Drives.at l.fn.given base (seen l.self) l.call l.room)
    × ((base : g.row.V.Denot) → g.D.Drives.at l.fn.given base (seen l.fn.self) l.fn.first l.fn.room
    → g.D.Drives.at l.fn.given base (seen l.self) l.call l.room)

-- one step tells what `Told` says of the call with which `once` is called
abbrev pub ghosts-once : given.ghosts-once
ghosts-once g a =
    record {
      told =
          Told g.Q.Rule.capacity_seen (g.D.Drives.at a.given.now) (g.D.Drives.ends a.given.now)
          (λ c k. g.C.Routine.after c a.given.now k) g.C.Routine.kept a.call a.room.now;
    }
