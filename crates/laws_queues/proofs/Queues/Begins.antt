-- What a queue's call knows as it begins: it is at its first stage, and has written nothing.
use Rattle.laws_queues.proofs.Names.{◌≡◌, ℕ, false, Some, None, List, [], Event, QueueStart, Roles}
use Rattle.laws_queues.proofs.Names.{QueueFlight, QueueKind, Coding, IsCoding, first, lacks_role, pending_at}
use Rattle.std.proofs.Common.{arith}
use Rattle.model.specs.declared.families.Flight.TheVariants as flights
use Rattle.laws_queues.proofs.Queues.Core.{Core}
use Rattle.laws_queues.proofs.Queues.Knows.{has_written, KnowsFlight, At}
use Rattle.laws_queues.proofs.Queues.Values.{Val}

-- ---- the first stage of a call

-- the call stands at its stage and knows what the stage says, it is no pending push, and
-- it has written nothing
pub record IsFirst {T : Type 0} (en : Coding T) (kd : QueueKind) (c : ℕ) (ro : Roles) (k : Core (Val T kd)) (p : ℕ)
    (events : List (Event T)) (changes : ℕ) (start : QueueStart T) (flight : QueueFlight T) : Type 0 where
  pub at : At en kd c ro k p start flight
  pub knows : KnowsFlight c k p events changes changes 0 flight
  pub calm : pending_at k.read (Some (flights.Queues flight)) ≡ None
  pub wrote : has_written {T = T} c k p flight ≡ []

-- a begin leads to a call at its first stage, where the party has the role that the call needs
pub first_is : {T : Type 0} {en : Coding T} {kd : QueueKind} {c : ℕ} {ro : Roles} {k : Core (Val T kd)} {p : ℕ} {events : List (Event T)}
    {changes : ℕ} {start : QueueStart T} {flight : QueueFlight T}
    → IsCoding en → first kd c start ≡ Some flight → lacks_role ro p start ≡ false → IsFirst en kd c ro k p events changes start flight
first_is = grind arith
