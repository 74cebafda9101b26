-- Each step of a call of the single value, and each begin of one, keeps the invariant.
use Rattle.std.proofs.Common.{◌≡◌, ℕ, ◌+◌, ◌-◌, ◌^◌, ◌<◌, ◌≤◌, Some, None, List}
use Rattle.std.proofs.Common.{get_or, length, refl, sym, ap, subst, ◌∙◌, arith}
use Rattle.laws_value.proofs.Names.{Start, Atomic, Flight, AtomicStart, AtomicFlight, Party, Next, Coding}
use Rattle.laws_value.proofs.Names.{ask_of, want, old_of, Scene, Inv, scene_of, inv_of}
use Rattle.model.specs.declared.families.Flight.TheVariants as flights
use Rattle.model.specs.declared.families.Registry.TheVariants as registries
use Rattle.model.specs.declared.families.atomic.AtomicStart.TheVariants.{AcquireProducer, ReleaseProducer, Store, Load, HasProducer, Version}
use Rattle.model.specs.declared.families.atomic.calls.AtomicFlight.TheVariants as calls
use Rattle.model.specs.declared.turn.Kind.TheVariants as kinds
use Rattle.model.specs.Families.{begin_of, first_of}
use Rattle.model.specs.Rows.{first_row}
use Rattle.model.specs.World.{Trace}
use Rattle.model.proofs.Family as families
use Rattle.model.proofs.Frame as frame
use Rattle.model.proofs.Scenes.{StandsThere}
use Rattle.model.specs.Fresh.{IsFreshCall}
use Rattle.model.specs.Fresh.{IsFreshTurn}
use Rattle.laws_value.specs.Stored.{stored}
use Rattle.laws_value.proofs.Invariant.{Value, outline, family}
use Rattle.laws_value.proofs.Knows.{At, KnowsFlight, number_of, store_at}
use Rattle.laws_value.proofs.Loads.{load_step}
use Rattle.laws_value.proofs.Stages.{StepOf}
use Rattle.laws_value.proofs.Stores.{store_step}

-- ---- one step of a call

-- `scene` is a turn of party `p` with the machine before it, and `inv` what holds there
module _ {T : Type 0} {scene : Scene T Value} (inv : Inv outline scene) where
  open scene use {coding as code, party as p}
  open scene.state use {holder as ho, core as k}

  -- a step of a call of the value, at whatever stage, keeps the invariant, if no store finds the last version
  pub step_moves : (start : AtomicStart T) (flight : AtomicFlight T) → At code ho k p start flight
      → scene.steps ≤ number_of code.size flight scene.backs
      → KnowsFlight k scene.since scene.changes scene.backs flight
      → IsFreshCall k.version (flights.Atomic flight) → StepOf scene start flight
  step_moves AcquireProducer (calls.Acquire run) stands few_steps knows_flight fresh = grind arith
  step_moves ReleaseProducer (calls.Release run) stands few_steps knows_flight fresh = grind arith
  step_moves (Store value) (calls.Store run) stands few_steps knows_flight fresh =
      subst (λ v. StepOf scene (Store value) (store_at v run.call.stage)) (sym stands.1)
      (store_step inv value stands.0 knows_flight run.call.stage fresh stands.2 few_steps)
  step_moves Load (calls.Load run) stands few_steps knows_flight fresh =
      load_step inv inv.holds.within run.room run.call.stage stands knows_flight few_steps
  step_moves HasProducer (calls.Look run) stands few_steps knows_flight fresh = grind arith
  step_moves Version (calls.Version run) stands few_steps knows_flight fresh = grind arith
  step_moves start flight stands few_steps knows_flight fresh = absurd stands

-- ---- a store that loads the version finds another than the last one

-- where a store that loads the version finds another than the last one, the first word is
-- another than the last one
found_fresh : {T : Type 0} (z : Coding T) (words : List ℕ) (flight : AtomicFlight T)
    → IsFreshCall (old_of words (ask_of (want z flight))) (flights.Atomic flight)
    → IsFreshCall (get_or words 0 0) (flights.Atomic flight)
found_fresh = grind arith

-- the run `t` is sound
module _ {T : Type 0} (code : Coding T) (c : ℕ) (t : Trace T) (sound : frame.Sound (family code c) t) where
  -- the first word is the version
  pub version_is : get_or t.world.words 0 0 ≡ sound.state.core.version
  version_is = ap (λ ws. get_or ws 0 0) sound.fit.words

  -- the version is the number of stores and one
  pub version_counts : get_or t.world.words 0 0 ≡ length (stored t.events) + 1
  version_counts = version_is ∙ sound.holds.counted

  -- where few turns are taken no store finds the last version
  pub few_turns : t.world.turns < 2 ^ 64 - 2 → (p : ℕ) → IsFreshTurn t (Next p)
  few_turns = grind arith

-- ---- what a step and a begin show

-- party `p` takes a turn of the run `t`, which is sound
module _ {T : Type 0} (code : Coding T) (c : ℕ) {t : Trace T} (sound : frame.Sound (family code c) t) (p : ℕ) where
  -- a step in which no store finds the last version keeps the invariant
  pub step_shows : {x : Party T} {since : ℕ} → IsFreshTurn t (Next p) → (start : Start T) (flight : Flight T)
      → StandsThere (family code c) t sound p x since start flight
      → families.StepOf outline (scene_of outline code c t sound p x.steps x.backs since) start flight
  step_shows {x} {since} fresh (Atomic start) (flights.Atomic flight) here =
      let low =
      subst (λ n. IsFreshCall n (flights.Atomic flight)) (version_is code c t sound)
      (found_fresh t.world.coding t.world.words flight (fresh (flights.Atomic flight) here.found)) in
      let moves =
      step_moves (inv_of outline code c t sound p x.steps x.backs since)
      start flight here.at here.steps here.knows low in
      record { state = record { holder = _; core = moves.0 }; kept = refl; words = moves.1; shows = moves.2 }
  step_shows fresh start flight here = absurd here.at

  -- the begin of a call that no row refuses keeps the invariant
  pub begin_shows : {start : Start T} {flight : Flight T}
      → first_of kinds.Atomic c start (registries.Atomic sound.state.holder) ≡ Some flight
      → first_row ((begin_of kinds.Atomic c start).rows (registries.Atomic sound.state.holder) p) ≡ None
      → families.Begins outline (scene_of outline code c t sound p 0 0 t.world.changes) start flight
  begin_shows begins_so rows =
      record {
        state = sound.state;
        kept = grind arith;
        words = refl;
        preserves = grind arith;
        at = grind arith;
        wrote = refl;
        knows = grind arith;
      }
