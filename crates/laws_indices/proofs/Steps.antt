-- Each step of a call of the set, and each begin of one, preserves what holds of the set.
use Rattle.std.proofs.Common.{◌≡◌, ℕ, ◌≤◌, Some, None, refl, ap, ◌∙◌, arith}
use Rattle.laws_indices.proofs.Names.{LockIfLastIndex, Default, Start, Indices, Flight}
use Rattle.laws_indices.proofs.Names.{IndexStart, IndexFlight, Party, Coding, party_of, Trace, Scene, Inv}
use Rattle.model.specs.declared.families.Flight.TheVariants as flights
use Rattle.model.specs.declared.families.Registry.TheVariants as registries
use Rattle.model.specs.declared.families.indices.IndexStart.TheVariants as starts
use Rattle.model.specs.declared.families.indices.calls.IndexFlight.TheVariants as calls
use Rattle.model.specs.declared.turn.Kind.TheVariants as kinds
use Rattle.model.specs.Families.{begin_of, first_of}
use Rattle.model.specs.Rows.{first_row}
use Rattle.model.proofs.Family as families
use Rattle.model.proofs.Family.{scene_of, inv_of}
use Rattle.model.proofs.Frame as frame
use Rattle.model.proofs.Scenes.{StandsThere}
use Rattle.laws_indices.proofs.Acquires.{acquire_step}
use Rattle.laws_indices.proofs.Invariant.{IndexSet, outline, family, set_then, of_any}
use Rattle.laws_indices.proofs.Knows.{acquire_at, default_at, lock_at, counts, number_of, At, FlightKnows}
use Rattle.laws_indices.proofs.Looks.{counts_step, looks_step}
use Rattle.laws_indices.proofs.Releases.{default_step, lock_step}
use Rattle.laws_indices.proofs.Stages.{IsHere, StepOf}

-- ---- one step of a call

module _ {T : Type 0} {scene : Scene T IndexSet} (inv : Inv outline scene) where
  open scene use {capacity as c, party as p}
  open scene.state use {holders as hs}

  -- a call that is equal to another takes its step as that one
  moves : {start : IndexStart} {flight same : IndexFlight} → flight ≡ same → (IsHere scene same → StepOf scene start same)
      → IsHere scene flight → StepOf scene start flight
  moves is step = rw is step

  -- any step of a call preserves what holds of the set, where the call stands at its stage and knows what
  -- the stage says
  pub step_moves : (start : IndexStart) (flight : IndexFlight) → IsHere scene flight → At c hs p start flight
      → scene.steps ≤ number_of c flight scene.backs
      → FlightKnows c scene.state.words scene.since scene.changes scene.backs flight → StepOf scene start flight
  step_moves starts.Acquire (calls.Acquire run) here at few_steps flight_knows =
      moves (ap (λ n. acquire_at n run.call.stage) at.0) (λ h. acquire_step scene inv run.call.stage h at.1 flight_knows few_steps) here
  step_moves (starts.Release index Default) (calls.ReleaseDefault run) here at few_steps flight_knows =
      moves (ap (λ n. default_at n run.given run.call.stage) at.0 ∙ ap (λ i. default_at c i run.call.stage) at.1)
      (λ h. default_step scene inv index at.2 flight_knows run.call.stage h at.3 few_steps) here
  step_moves (starts.Release index LockIfLastIndex) (calls.ReleaseLock run) here at few_steps flight_knows =
      moves (ap (λ n. lock_at n run.given run.call.stage) at.0 ∙ ap (λ i. lock_at c i run.call.stage) at.1)
      (λ h. lock_step scene inv index at.2 run.call.stage h at.3 flight_knows few_steps) here
  step_moves starts.BorrowedIndices (calls.BorrowedIndices run) here at few_steps flight_knows = counts_step inv flight_knows few_steps here
  step_moves starts.IsLocked (calls.IsLocked run) here at few_steps flight_knows = looks_step inv flight_knows few_steps
  step_moves start flight here at few_steps flight_knows = absurd at

-- ---- a step and a begin, as the frame asks for them

-- `c` is the capacity, `t` the run so far, and `s` says that the invariant holds after it; the party `p`
-- takes a turn
module _ {T : Type 0} (code : Coding T) (c : ℕ) {t : Trace T} (s : frame.Sound (family code c) t) (p : ℕ) where
  -- a step of a call that stands in the machine is as the frame asks
  pub step_shows : {x : Party T} {since : ℕ} → party_of p t.world.latest ≡ Some x → (start : Start T) (flight : Flight T)
      → StandsThere (family code c) t s p x since start flight → families.StepOf outline (scene_of outline code c t s p x.steps x.backs since) start flight
  step_shows {x} {since} found (Indices start) (flights.Indices flight) here =
      let moves =
      step_moves (inv_of outline code c t s p x.steps x.backs since) start flight
      (record { seat = s.holds.bounded p x found; under = here.found }) here.at here.steps here.knows in
      record { state = set_then (scene_of outline code c t s p x.steps x.backs since) _ _; kept = refl; words = refl; shows = moves }
  step_shows found start flight here = absurd here.at

  -- a begin of a call is as the frame asks
  pub begin_shows : {start : Start T} {flight : Flight T}
      → first_of kinds.Indices c start (registries.Indices s.state.holders) ≡ Some flight
      → first_row ((begin_of kinds.Indices c start).rows (registries.Indices s.state.holders) p) ≡ None
      → families.Begins outline (scene_of outline code c t s p 0 0 t.world.changes) start flight
  begin_shows {flight = flight} first_is rows =
      let light : of_any counts flight ≡ 0 = grind arith in
      record {
        state = set_then (scene_of outline code c t s p 0 0 t.world.changes) s.state.words s.state.holders;
        kept = grind arith;
        words = refl;
        preserves = let good = s.holds.good in grind arith;
        at = grind arith;
        wrote = grind arith;
        knows = grind arith;
      }
