-- A look of a state at its container (`get_state`, `update_state`) as a call of the model: which indices
-- and words it may be at, and which events it has written there. It goes on from the state that its
-- party has in the machine.
use Rattle.std.specs.Prelude.{◌≡◌, ◌⊎◌, ℕ, ◌<◌, Bool, true, false, Some, None, IfSome, List, []}
use Rattle.steps.specs.Container.Look.{first_look}
use Rattle.steps.specs.Container.State.{Numbers, Showing, no_numbers, shows_nothing, shown_at}
use Rattle.steps.specs.declared.ask.After.TheVariants.{Done}
use Rattle.steps.specs.declared.container.look.Look.{Look as Looking}
use Rattle.steps.specs.declared.container.look.LookStage.{LookStage}
use Rattle.steps.specs.declared.container.look.LookStage.TheVariants as looks
use Rattle.steps.specs.declared.container.state.ContainerState.{ContainerState}
use Rattle.model.specs.declared.event.Event.{Event}
use Rattle.model.specs.declared.event.Start.TheVariants.{Container}
use Rattle.model.specs.declared.families.Flight.TheVariants as flights
use Rattle.model.specs.declared.families.Registry.{Registry}
use Rattle.model.specs.declared.families.container.ContainerStart.{ContainerStart}
use Rattle.model.specs.declared.families.container.ContainerStart.TheVariants.{GetState, UpdateState}
use Rattle.model.specs.declared.families.container.calls.ContainerFlight.TheVariants as calls
use Rattle.model.specs.declared.families.container.calls.LookOf.{LookOf}
use Rattle.model.specs.declared.families.container.calls.LookOf.TheVariants as which_looks
use Rattle.model.specs.declared.turn.Kind.TheVariants as kinds
use Rattle.model.specs.Coding.{Coding}
use Rattle.model.specs.Families.Container.Calls.{looked, settled_if}
use Rattle.model.specs.Families.Container.Looks.{state_in, WasCopied}
use Rattle.history.specs.declared.view.View.{View}
use Rattle.history_owners.specs.ContainerFind.{HasCopied}
use Rattle.history_owners.specs.Settled.{AtWaiting, EndsSettled}
use Rattle.history.specs.Stages.{Calling, IsFirst, IsUnderWay, Ends}

-- where a look stands: its index is one of the container, and a word that it loads is one of the value's
abbrev pub LookIn : (size capacity : ℕ) → LookStage → Type 0
LookIn size capacity looks.LoadsChange = Unit {0}
LookIn size capacity (looks.LoadsCount index) = index < capacity
LookIn size capacity (looks.LoadsWord index count at) = (index < capacity) × (at < size)
LookIn size capacity (looks.ChecksCount index count) = index < capacity

module _ {T : Type 0} where
  -- the model's call that makes a new state, or brings one up to date
  abbrev pub look_start : LookOf → ContainerStart T
  look_start which_looks.GetState = GetState
  look_start which_looks.UpdateState = UpdateState

  -- the state of a container of this capacity that had seen these numbers as the look began, and shows this by now
  abbrev pub state_of_look : ℕ → Numbers → Showing T → ContainerState T
  state_of_look capacity seen shown =
      record { container = 0; capacity = capacity; seen = seen; shown = shown }

  -- the machine keeps this state for the party
  abbrev pub HasState : Registry T → ℕ → ContainerState T → Type 0
  HasState kept p state = state_in kept p ≡ Some state

  -- which events a look has written at this stage: copies of values from indices below the one that it is at
  abbrev pub LookedAt : ℕ → LookStage → List (Event T) → Type 0
  LookedAt p looks.LoadsChange es = es ≡ []
  LookedAt p (looks.LoadsCount index) es = HasCopied p 0 index es
  LookedAt p (looks.LoadsWord index count at) es = HasCopied p 0 index es
  LookedAt p (looks.ChecksCount index count) es = HasCopied p 0 index es

  -- what a look with this answer has written in all: copies of values, and nothing where it answers that
  -- nothing had changed
  abbrev pub HasLookedAll : (capacity p : ℕ) → Bool → List (Event T) → Type 0
  HasLookedAll capacity p true es = HasCopied p 0 capacity es
  HasLookedAll capacity p false es = es ≡ []

  -- A look at the container for a state that has these cells and has seen these numbers of its elements. It ends with
  -- whether the state has changed, and the values that it was shown are in its room.
  abbrev pub looks_at : ℕ → LookOf → ℕ → Numbers → Calling T (Looking T) (Showing T) Bool
  looks_at size which cells seen =
      record {
        start = Container (look_start which);
        -- the party that the pass was last makes the call, if the pass has been a party
        by = λ was p. IfSome was (λ q. q ≡ p);
        -- what holds of the call between two steps, and which call of the model is then under way
        stands = λ capacity c. (c.capacity ≡ capacity) × LookIn size capacity c.stage;
        flight = λ c m. flights.Container (calls.Look which c);
        answer = λ changed m. looked which (state_of_look cells seen m) changed;
        -- no word that it loads ends it outside the history
        skips = λ c n. false;
        left = λ e. ⊥;
        -- what was written is known only where the pass has seen the call begin
        wrote = λ capacity p from c m es. from ≡ None → LookedAt p c.stage es;
        wrote_all = λ capacity p from changed m es. from ≡ None → HasLookedAll capacity p changed es;
      }

  -- the party has the state that it had
  abbrev pub KeepsState : (old new : View T) → Type 0
  KeepsState old new = (p : ℕ) → old.party ≡ Some p → (new.party ≡ Some p) × (new.state ≡ old.state)

  -- each value that the state shows was copied by the party of the view, from the index at which it is shown
  abbrev pub ShowsCopied : Showing T → View T → Type 0
  ShowsCopied m v =
      (p i : ℕ) (value : T) → v.party ≡ Some p → shown_at m.elements i ≡ Some value → WasCopied p i value v.seen

-- ---- what is known of a look at each stage

module _ {T : Type 0} (code : Coding T) (which : LookOf) (cells : ℕ) (seen : Numbers) where
  -- the look that the pass makes, as a call of the model
  abbrev pub looking : Calling T (Looking T) (Showing T) Bool
  looking = looks_at code.size which cells seen

  -- the state with which a look begins: a new one, or that of the pass's party
  abbrev pub BeginsWith : LookOf → View T → Showing T → Type 0
  BeginsWith which_looks.GetState base m =
      (seen ≡ no_numbers cells) × (m ≡ shows_nothing code.value_of code.size cells)
  BeginsWith which_looks.UpdateState base m =
      (p : ℕ) × (base.party ≡ Some p) × (base.state ≡ Some (state_of_look cells seen m))

  -- the look is about to begin, or under way, from the state that its party has
  abbrev pub StateLooks : (base v : View T) → Looking T → Showing T → Type 0
  StateLooks base v c m =
      (base.capacity ≡ cells)
      × ((IsFirst code kinds.Container looking base v c m × BeginsWith which base m)
      ⊎ (IsUnderWay code kinds.Container looking base v c m
      × (v.state ≡ Some (state_of_look cells seen m))))

  -- the look has ended, and its party has the state that it left, which shows what was copied
  abbrev pub StateLooked : View T → Bool → Showing T → View T → Type 0
  StateLooked base changed m w =
      Ends code kinds.Container looking base changed m w
      × (w.state ≡ Some (settled_if (Done changed) (state_of_look cells seen m)))
      × ShowsCopied m w

  -- ---- on a pass whose last call may rest

  -- the look may begin: it is at its first stage, on the container of the state
  abbrev pub BeginsLook : View T → Looking T → Showing T → Type 0
  BeginsLook base c m = (c ≡ first_look base.capacity) × (base.capacity ≡ cells) × BeginsWith which base m

  -- the look is about to begin, or under way, counted from the view in which the last call
  -- of the pass had ended
  abbrev pub RestedLooks : View T → View T → Looking T → Showing T → Type 0
  RestedLooks = AtWaiting code kinds.Container BeginsLook StateLooks

  -- the look has ended, counted from the view in which the last call of the pass had ended
  abbrev pub RestedLooked : View T → Bool → Showing T → View T → Type 0
  RestedLooked = EndsSettled code kinds.Container StateLooked
