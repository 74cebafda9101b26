-- A look that updates a state which the pass has not: what is known at each stage of it. The pass knows
-- nothing new, and only counts its operations. `size` is the number of words of a value.
use Rattle.std.specs.Prelude.{◌≡◌, ℕ, ◌+◌, ◌<◌, Bool}
use Rattle.steps.specs.declared.container.look.Look.{Look}
use Rattle.steps.specs.declared.container.look.LookStage as looks
use Rattle.history.specs.declared.view.View.{View}

-- the views differ only in how many operations they count, and none of those asked for since was a step
-- of a call
pub record IsCounted {T : Type 0} (old new : View T) : Type 0 where
  pub known : new ≡ record old { asked = new.asked; aside = new.aside }
  pub aside : new.asked + old.aside ≡ old.asked + new.aside

-- until its end a call leaves what is known, and `stands` holds of its stage
module _ {T C M : Type 0} where
  -- the pass has only counted operations since the view `base`, and the call stands so that `stands` holds
  abbrev pub Still : (View T → C → Type 0) → (base v : View T) → C → M → Type 0
  Still stands base v call room = IsCounted base v × stands v call

module _ {T : Type 0} where
  -- what holds at each stage of a look: its index is below the capacity, and its word is one of a value
  abbrev pub LookStage : ℕ → View T → looks.LookStage → Type 0
  LookStage size v looks.TheVariants.LoadsChange = Unit {0}
  LookStage size v (looks.TheVariants.LoadsCount index) = index < v.capacity
  LookStage size v (looks.TheVariants.LoadsWord index count at) =
      (index < v.capacity) × (at < size)
  LookStage size v (looks.TheVariants.ChecksCount index count) = index < v.capacity

  -- the look is of a container of the view's capacity, and stands at a stage that there is
  abbrev pub LookStands : ℕ → View T → Look T → Type 0
  LookStands size v call = (call.capacity ≡ v.capacity) × LookStage size v call.stage

  -- the look has ended, and the views differ only in how many operations they count
  abbrev pub LookEnds : {M : Type 0} → View T → Bool → M → View T → Type 0
  LookEnds base updated room w = IsCounted base w
