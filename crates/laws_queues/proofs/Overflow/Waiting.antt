-- Which push of an overflowing queue is pending: it has published over a full queue, and is about to move
-- the read position on.
use Rattle.laws_queues.proofs.Names.{◌≡◌, ℕ, ◌<◌, Option, Some, None, option_map, List, OneWord}
use Rattle.laws_queues.proofs.Names.{Running, Event, Going, Party, Roles, Coding, pending_at, pending}
use Rattle.laws_queues.proofs.Names.{party_of, doing_of, flight_of, span_of}
use Rattle.std.proofs.Common.{arith}
use Rattle.steps.specs.declared.queues.overflow.Push as overflow_push
use Rattle.steps.specs.declared.queues.overflow.PushStage.TheVariants as overflow_pushes
use Rattle.model.specs.declared.families.queues.calls.OverflowCall.TheVariants as overflows
use Rattle.model.specs.declared.families.queues.calls.QueueFlight.TheVariants.{Overflow}
use Rattle.model.specs.declared.families.Flight.TheVariants as flights
use Rattle.model.specs.declared.families.queues.QueueKind.TheVariants as kinds
use Rattle.laws_queues.proofs.Queues.Core.{Core}
use Rattle.model.proofs.Frame as frame
use Rattle.laws_queues.proofs.Queues.Invariant.{family}

-- ---- no push is pending at a position that the read position has not reached

module _ {T : Type 0} (en : Coding T) (c : ℕ) (ro : Roles) (k : Core ℕ) (position : ℕ) (past : k.read < position) where
  -- where each party's call fits its span, no push is pending at this position
  pub past_none : (latest : List (ℕ × Party T)) (events : List (Event T))
      → ((q : ℕ)
      → frame.Fits (family en kinds.Overflow c) (record { roles = ro; core = k }) q (party_of q latest) (span_of q events))
      → (o : Option ℕ) → pending position o latest ≡ None
  past_none = grind arith

-- ---- the push that waits for the read position

-- a push under way
abbrev pub Pushing : Type 0
Pushing = Running overflow_push.Push ℕ OneWord

-- the party `q` has a push of the value `w` under way, which waits to move the read position from this one
pub record IsPending {T : Type 0} (position : ℕ) (latest : List (ℕ × Party T)) (q w : ℕ) (x : Party T) (run : Pushing) (since : ℕ) : Type 0 where
  -- the party's latest call is a push that waits for the read position to move from here
  pub waits : pending_at position (flight_of (doing_of (party_of q latest))) ≡ Some w
  pub found : party_of q latest ≡ Some x
  -- the push is this call, of this value, at the stage that moves the read position
  pub doing : x.doing ≡ Going (flights.Queues (Overflow (overflows.Push run))) since
  pub value : run.given ≡ w
  pub stage : run.call.stage ≡ overflow_pushes.MovesRead position

module _ {T : Type 0} (position : ℕ) (latest : List (ℕ × Party T)) (q w : ℕ) where
  -- where a push of the party `q` is pending, its call has the form that `IsPending` says
  party_is : (o : Option (Party T)) → pending_at position (flight_of (doing_of (party_of q latest))) ≡ Some w
      → party_of q latest ≡ o → pending_at position (flight_of (doing_of o)) ≡ Some w
      → (y : Party T) × (run : Pushing) × (since : ℕ) × IsPending position latest q w y run since
  party_is = grind arith

-- a pending push that is found names its party and its value
some_mapped : (q r w : ℕ) (o : Option ℕ) → option_map {U = ℕ × ℕ} (λ (n : ℕ). (r, n)) o ≡ Some (q, w) → (r ≡ q) × (o ≡ Some w)
some_mapped = grind arith

module _ {T : Type 0} (position : ℕ) (latest : List (ℕ × Party T)) (q w : ℕ) where
  -- a pending push is of the holder of the producer's role, and `IsPending` holds of it
  pub pending_is : (pr : Option ℕ) → pending position pr latest ≡ Some (q, w)
      → (pr ≡ Some q) × (y : Party T) × (run : Pushing) × (since : ℕ) × IsPending position latest q w y run since
  pending_is = grind (arith, some_mapped, party_is)
