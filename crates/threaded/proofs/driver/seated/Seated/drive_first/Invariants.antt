-- `Seated::drive_first` (src/driver/drive.rt): what its steps tell.
use Rattle.threaded.specs.Driver.{Told}
use Rattle.threaded.proofs.driver.seated.Seated.drive_first.Given as given

-- one step tells what `Told` says of the call with which `once` is called
abbrev pub ghosts-once : given.ghosts-once
ghosts-once g a =
    record {
      told =
          Told g.Q.Rule.capacity_seen (g.D.Drives.at a.given.now) (g.D.Drives.ends a.given.now)
          (λ c k. g.C.Routine.after c a.given.now k) g.C.Routine.kept a.call a.room.now;
    }
