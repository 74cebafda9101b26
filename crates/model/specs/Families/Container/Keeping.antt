-- When the state of a container's party changes: only in its own looks, the calls
-- `get_state` and `update_state`.
use Rattle.std.specs.Prelude.{◌≡◌, ℕ, ◌==◌, ◌&&◌, Bool, false, Option, Some, None}
use Rattle.steps.specs.declared.container.state.ContainerState.{ContainerState}
use Rattle.model.specs.declared.event.Answer.{Answer}
use Rattle.model.specs.declared.event.Answer.TheVariants.{Truth}
use Rattle.model.specs.declared.event.Start.TheVariants.{Container}
use Rattle.model.specs.declared.families.container.ContainerStart.TheVariants.{GetState, UpdateState}
use Rattle.model.specs.declared.party.Progress.{Progress}
use Rattle.model.specs.declared.turn.Turn.{Turn}
use Rattle.model.specs.declared.turn.Turn.TheVariants.{Begin, Next}
use Rattle.model.specs.Families.Indices.Robust.Reading.{IsOneOf}
use Rattle.model.specs.Families.Container.Looks.{state_in, shows, is_looking, EndsLook}
use Rattle.model.specs.Families.Container.Reading.{Copies, acts_of}
use Rattle.model.specs.World.{World, Trace, flight_in, progress_in}

-- The steps of a party's latest call; 0 if the party has begun none.
abbrev pub steps_of : Option Progress → ℕ
steps_of None = 0
steps_of (Some progress) = progress.steps

module _ {T : Type 0} where
  -- whether the turn begins a look of the party, or is a step of one
  abbrev pub is_look_of : World T → ℕ → Turn T → Bool
  is_look_of w q (Begin p (Container GetState)) = p == q
  is_look_of w q (Begin p (Container UpdateState)) = p == q
  is_look_of w q (Next p) = (p == q) && is_looking (flight_in w p)
  is_look_of w q turn = false

  -- A turn that is no part of a party's look leaves that party's state as it was.
  abbrev pub MovesInLooks : Trace T → Turn T → Trace T → Type 0
  MovesInLooks old turn new =
      (q : ℕ) → is_look_of old.world q turn ≡ false
      → state_in new.world.kept q ≡ state_in old.world.kept q

  -- an update begins with the state that its party has
  abbrev pub BeginsWithState : Trace T → Turn T → Trace T → Type 0
  BeginsWithState old turn new =
      (p : ℕ) (state : ContainerState T) → turn ≡ Begin p (Container UpdateState)
      → state_in old.world.kept p ≡ Some state
      → state_in new.world.kept p ≡ Some state

  -- An update that answers false has taken one step, which left the state as it was. So the state is the
  -- one with which the update began.
  abbrev pub FalseAtOnce : (old new : Trace T) → Type 0
  FalseAtOnce old new =
      (p : ℕ) → EndsLook p UpdateState (Truth false) old new
      → (steps_of (progress_in new.world p) ≡ 1)
      × (state_in new.world.kept p ≡ state_in old.world.kept p)

  -- each value that a finished `get_state` shows was copied by that very call
  abbrev pub ShowsOwnCopies : (old new : Trace T) → Type 0
  ShowsOwnCopies old new =
      (p i : ℕ) (answer : Answer T) (state : ContainerState T) (value : T)
      → EndsLook p GetState answer old new
      → state_in new.world.kept p ≡ Some state
      → shows state i ≡ Some value
      → IsOneOf (Copies i value) (acts_of p new.events)

  -- What a turn of a container does to the states of its parties.
  pub record KeepsStates (old : Trace T) (turn : Turn T) (new : Trace T) : Type 0 where
    -- A party's state changes only in turns of its own looks.
    pub moves : MovesInLooks old turn new
    -- An update begins with the state that its party has.
    pub begins : BeginsWithState old turn new
    -- An update that answers false has taken one step, which left the state as it was.
    pub at_once : FalseAtOnce old new
    -- A state that `get_state` has made shows only what that call has copied.
    pub own : ShowsOwnCopies old new
