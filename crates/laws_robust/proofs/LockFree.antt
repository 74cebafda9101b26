-- A robust index set in which no call may lock is lock-free: each call has a measure that
-- falls with its steps.
use Rattle.std.proofs.Common.{◌≡◌, ℕ, ◌+◌, ◌-◌, ◌*◌, ◌≤◌, ◌==◌, Bool, true, false, cond, Option, Some, None, List}
use Rattle.std.proofs.Common.{get_or, refl, arith}
use Rattle.steps.specs.declared.indices.robust.acquire.AcquireStage.{AcquireStage}
use Rattle.steps.specs.declared.indices.robust.acquire.AcquireStage.TheVariants as acquires
use Rattle.steps.specs.declared.indices.robust.find.FindStage.{FindStage}
use Rattle.steps.specs.declared.indices.robust.find.FindStage.TheVariants as finds
use Rattle.steps.specs.declared.indices.robust.parts.Count.{Count}
use Rattle.steps.specs.declared.indices.robust.parts.Count.TheVariants as counts
use Rattle.steps.specs.declared.indices.robust.parts.Raise.{Raise}
use Rattle.steps.specs.declared.indices.robust.parts.Raise.TheVariants as raises
use Rattle.steps.specs.declared.indices.robust.recover.RecoverStage.{RecoverStage}
use Rattle.steps.specs.declared.indices.robust.recover.RecoverStage.TheVariants as recovers
use Rattle.steps.specs.declared.indices.robust.release.ReleaseStage.{ReleaseStage}
use Rattle.steps.specs.declared.indices.robust.release.ReleaseStage.TheVariants as releases
use Rattle.model.specs.declared.event.Start.{Start}
use Rattle.model.specs.declared.event.Start.TheVariants as starts
use Rattle.model.specs.declared.families.Flight.{Flight}
use Rattle.model.specs.declared.families.Flight.TheVariants as flights
use Rattle.model.specs.declared.families.Registry.{Registry}
use Rattle.model.specs.declared.families.indices.robust.calls.RobustFlight.{RobustFlight}
use Rattle.model.specs.declared.families.indices.robust.calls.RobustFlight.TheVariants as calls
use Rattle.model.specs.declared.turn.Kind.TheVariants as kinds
use Rattle.model.specs.declared.turn.Refusal.{Refusal}
use Rattle.model.specs.declared.turn.Turn.{Turn}
use Rattle.model.specs.Coding.{Coding}
use Rattle.model.specs.Families.{first_of, want_of, after_of, goes_of, step_of, is_question, kept_after_begin}
use Rattle.model.specs.Families.{kept_after_death}
use Rattle.model.specs.LockFree.{KeepsEndingOf, IsDefault, default_bound}
use Rattle.model.specs.Refusals.{call_refusal}
use Rattle.model.specs.Turns.{number_of}
use Rattle.model.specs.World.{World, capacity_error}
use Rattle.model.proofs.LockFree.Falls.{FallsIn, StepFalls}
use Rattle.model.proofs.LockFree.Own.{TableLaws, by_table, OwnAfter, keeps_ending_by}
use Rattle.model.proofs.LockFree.Weighed.{KeepsEndingBy}
use Rattle.model.proofs.Rows.{IsPossible, possible_on}
use Rattle.laws_robust.proofs.Opening.{admitted_is}
use Rattle.laws_robust.proofs.Measured.{raise_left, acquire_left, find_left, recover_left, count_left, release_left}
use Rattle.laws_robust.proofs.Measured.{recover_pays, left_at, pays, measure, At, Kept, outline, call_falls}
use Rattle.laws_robust.proofs.Measured.{call_decides, AreOfSet, CallStands}

-- ---- the laws that the measure has to have

-- whichever the test chooses is at most what both are
pub one_of : (t : Bool) (a b most : ℕ) → a ≤ most → b ≤ most → cond t a b ≤ most
one_of true a b most a_fits b_fits = a_fits
one_of false a b most a_fits b_fits = b_fits

module _ (c : ℕ) (some : 1 ≤ c) where
  -- a raise has at most one step left
  pub raise_most : (now : ℕ) (raise : Raise) → raise_left now raise ≤ 1
  raise_most now raises.LoadsCounter = omega arith
  raise_most now (raises.ExchangesCounter counter) = one_of _ 0 1 1 (omega arith) (omega arith)

  -- an acquire has no more steps left than four times the capacity and one
  acquire_most : (now : ℕ) (stage : AcquireStage) → acquire_left c now stage ≤ 4 * c + 1
  acquire_most now acquires.LoadsCounter = omega arith
  acquire_most now (acquires.FillsCell counter index) =
      one_of (now == counter) (c - (index + 1) + 2) (c - (index + 1) + (c - 1) + 4) (4 * c + 1) (omega arith) (omega arith)
  acquire_most now (acquires.ChecksCounter counter) = one_of _ 0 (c - 1 + 3) (4 * c + 1) (omega arith) (omega arith)
  acquire_most now (acquires.Raises index raise) = let most = raise_most now raise in omega arith

  -- a recovery has no more steps left than four times the capacity and one
  recover_most : (now : ℕ) (stage : RecoverStage) → recover_left c now stage ≤ 4 * c + 1
  recover_most now recovers.LoadsCounter = omega arith
  recover_most now (recovers.LoadsCell index) = omega arith
  recover_most now (recovers.Asks index owner) = omega arith
  recover_most now (recovers.EmptiesCell index owner) = omega arith
  recover_most now (recovers.Raises index raise) = let most = raise_most now raise in omega arith
  recover_most now (recovers.Locks index lock) = omega arith
  recover_most now recovers.LoadsCounterAgain = omega arith

  -- a count has at most `4 * c + 1` steps left
  count_most : (now : ℕ) (count : Count) → count_left c now count ≤ 4 * c + 1
  count_most now counts.LoadsCounter = omega arith
  count_most now (counts.LoadsCell counter index filled) =
      one_of (now == counter) (c - (index + 1) + 1) (c - (index + 1) + (c - 1) + 4) (4 * c + 1) (omega arith) (omega arith)
  count_most now (counts.ExchangesCounter counter filled) = one_of _ 0 (c - 1 + 3) (4 * c + 1) (omega arith) (omega arith)

  -- a find has at most `4 * c + 1` steps left
  find_most : (stage : FindStage) → find_left c stage ≤ 4 * c + 1
  find_most (finds.LoadsCell index found) = omega arith
  find_most (finds.Asks index found) = omega arith

  -- a release has at most `4 * c + 1` steps left
  release_most : (now : ℕ) (stage : ReleaseStage) → release_left c now stage ≤ 4 * c + 1
  release_most now releases.EmptiesCell = omega arith
  release_most now (releases.Raises raise) = let most = raise_most now raise in omega arith
  release_most now (releases.Locks lock) = omega arith

  -- a recovery has at most `c` changes to make
  pays_most : (stage : RecoverStage) → recover_pays c stage ≤ c
  pays_most = grind arith

  -- no call that does not lock has more steps left than four times the capacity and one, or more changes to
  -- make than the capacity
  most : {T : Type 0} → (now : ℕ) (flight : Flight T) → (left_at c now flight ≤ 4 * c + 1) × (pays c flight ≤ c)
  most now (flights.Robust (calls.Acquire run)) = (acquire_most now run.call.stage, omega arith)
  most now (flights.Robust (calls.Release run)) = (release_most now run.call.stage, omega arith)
  most now (flights.Robust (calls.Find run)) = (find_most run.call.stage, omega arith)
  most now (flights.Robust (calls.Recover run)) = (recover_most now run.call.stage, pays_most run.call.stage)
  most now (flights.Robust (calls.BorrowedIndices run)) = (count_most now run.call.count, omega arith)
  most now (flights.Robust (calls.IsLocked run)) = (omega arith, omega arith)
  most now flight = (omega arith, omega arith)

-- ---- what a step and a death leave

-- the calls of the set stand as `Stands` says
module _ {T : Type 0} (code : Coding T) (Stands : RobustFlight → Type 0) where
  -- a step leaves the registry one of owners
  stays : (words : List ℕ) (beside : Option (ℕ × ℕ)) (p : ℕ) (start : Start T) (flight : Flight T) (old : ℕ) (kept : Registry T)
      → AreOfSet Stands start flight → Kept kept → Kept (step_of code words beside p start flight old kept).kept
  stays = grind arith

  -- what a step leaves of the call is what the call computes
  told : (words : List ℕ) (beside : Option (ℕ × ℕ)) (p : ℕ) (start : Start T) (flight : Flight T) (old : ℕ) (kept : Registry T)
      → AreOfSet Stands start flight → Kept kept
      → ((step_of code words beside p start flight old kept).after ≡ after_of code flight old)
      × (goes_of code p flight old kept ≡ after_of code flight old)
  told = grind arith

-- a death leaves the registry one of owners
dies : {T : Type 0} (kept : Registry T) (owner : ℕ) → Kept kept → Kept (kept_after_death kept owner)
dies = grind arith

-- the measure falls with each step, and with each decision
module _ {T : Type 0} (code : Coding T) (c : ℕ) where
  -- the measure falls with each step of a call that stands where it may
  falls : (words : List ℕ) (start : Start T) (flight : Flight T) → At code c start flight → StepFalls (measure c) code words flight
  falls words (starts.Robust start) (flights.Robust flight) at = call_falls code c words flight at
  falls words start flight at = absurd at

  -- the measure falls with each decision about a call that asks
  decides : (words : List ℕ) (start : Start T) (flight : Flight T) (said : Bool) → At code c start flight → is_question (want_of code flight) ≡ true
      → FallsIn (measure c) words words 0 flight (after_of code flight (number_of said))
  decides words (starts.Robust start) (flights.Robust flight) said at due = call_decides code c words flight at said due
  decides words start flight said at due = absurd at

  -- a call that goes on stands where it may
  goes : (start : Start T) (flight : Flight T) (old : ℕ) → At code c start flight → OwnAfter outline code c start (after_of code flight old)
  goes = grind arith

  -- a call that begins stands at its first stage
  begins : (start : Start T) (kept : Registry T) (flight : Flight T) → IsDefault start → Kept kept
      → first_of kinds.Robust c start kept ≡ Some flight
      → At code c start flight × ((p : ℕ) → Kept (kept_after_begin code c start p kept))
  begins = grind arith

  -- the measure has the laws that are asked of one, for the calls that do not lock, at each
  -- capacity that is admitted
  laws : capacity_error kinds.Robust c ≡ None → TableLaws outline code c
  laws admitted =
      record {
        opens = tt;
        known = λ p kept flight. tt;
        begins = begins;
        stays = stays code (CallStands c);
        goes = goes;
        told = told code (CallStands c);
        dies = dies;
        decides = decides;
        most = λ words start flight at. (let may = admitted_is c admitted in most c may.0 (get_or words 0 0) flight);
        falls = λ words start flight at wide. falls words start flight at;
      }

-- in runs of calls that do not lock calls keep ending, whichever rows refuse turns
pub default_keeps_ending_by : {T : Type 0} (refuses : World T → Turn T → Option Refusal)
    → ((w : World T) (turn : Turn T) → refuses w turn ≡ None → IsPossible w turn)
    → KeepsEndingBy refuses kinds.Robust IsDefault default_bound
default_keeps_ending_by {T} refuses possible =
    keeps_ending_by (outline {T = T}) (λ code c coded admitted. by_table outline code c (laws code c admitted)) refuses possible
    default_bound (λ code c n. refl)

-- in the runs without locks, calls keep ending, by the bound `default_bound`
pub default_keeps_ending : {T : Type 0} → KeepsEndingOf T kinds.Robust IsDefault default_bound
default_keeps_ending {T} = default_keeps_ending_by {T = T} call_refusal possible_on
