-- What is known between two turns of a recovery of a container, and what a step makes of its closure.
-- In these relations `base` is the view with which it began, and `v` the view now.
use Rattle.std.specs.Prelude.{◌≡◌, ℕ, ◌<◌, ◌≤◌, Bool, List, [], if◌then◌else◌}
use Rattle.steps.specs.Container.Recover.{first_recover, recover_after, recover_kept}
use Rattle.steps.specs.Indices.Robust.Parts.{empty}
use Rattle.steps.specs.declared.ask.After.{After}
use Rattle.steps.specs.declared.container.recover.DeadOwner.{DeadOwner}
use Rattle.steps.specs.declared.container.recover.Recover.{Recover}
use Rattle.steps.specs.declared.container.recover.RecoverStage.{RecoverStage}
use Rattle.steps.specs.declared.container.recover.RecoverStage.TheVariants as recovers
use Rattle.steps.specs.declared.copied.Buffer.{Buffer}
use Rattle.steps.specs.declared.indices.enums.ReleaseState.{ReleaseState}
use Rattle.model.specs.declared.turn.Kind.TheVariants as kinds
use Rattle.model.specs.Coding.{Coding}
use Rattle.model.specs.Families.Queues.Calls.{fresh_cell, kept_at}
use Rattle.threaded.specs.Driver.{Next}
use Rattle.history.specs.declared.view.View.{View}
use Rattle.history_owners.specs.ContainerRecovery.{Came, recover_visits, recovers_values}
use Rattle.history_owners.specs.Settled.{AtRested, EndsRested}
use Rattle.history.specs.Stages.{Calling, AtAsked, Ends}
use Rattle.lock_free_owners.specs.Container.FindTurns.{words_in}
use Rattle.lock_free_owners.specs.Container.RecoverContract.{HasRecovered}

-- a room, and what the recovery did at each index that it came to, the last one first
abbrev pub Visiting : Type 0 → Type 0
Visiting T = Buffer 128 × List (ℕ × Came T)

-- the recovery is at its first stage, with a room of zeros and no index visited
abbrev pub BeginsRecover : {T : Type 0} → DeadOwner → ℕ → Recover T (Buffer 128) → Visiting T → Type 0
BeginsRecover given capacity c m =
    (c ≡ first_recover capacity) × (given.owner < empty) × (m ≡ (fresh_cell, []))

module _ {T : Type 0} (code : Coding T) (given : DeadOwner) where
  -- how a recovery is read as a call of the model
  abbrev pub recovering : Calling T (Recover T (Buffer 128)) (Visiting T) ReleaseState
  recovering = recovers_values code words_in given

  -- the recovery after the answer `n`, or its end
  abbrev pub recover_goes : Recover T (Buffer 128) → ℕ → After (Recover T (Buffer 128)) ReleaseState
  recover_goes c n = recover_after code.size c given n

  -- the room and the visits after the answer `n`
  abbrev pub recover_visiting : Recover T (Buffer 128) → Visiting T → ℕ → Visiting T
  recover_visiting = recover_visits code words_in kept_at given

  -- the recovery is about to begin or under way, or has heard an answer; it is counted from the view in
  -- which the pass's last call had ended
  abbrev pub RecoverBegun : View T → View T → Recover T (Buffer 128) → Visiting T → Type 0
  RecoverBegun = AtAsked code kinds.Container recover_goes recover_visiting recovering

  -- the same as `RecoverBegun` where the pass's last call may still rest: then the recovery has not begun
  abbrev pub RecoverAt : View T → View T → Recover T (Buffer 128) → Visiting T → Type 0
  RecoverAt = AtRested code kinds.Container (BeginsRecover given) RecoverBegun
      (Ends code kinds.Container recovering)

  -- the recovery has ended with this state, counted from the view in which the pass's last call had ended
  abbrev pub RecoverEnds : View T → ReleaseState → Visiting T → View T → Type 0
  RecoverEnds = EndsRested code kinds.Container (BeginsRecover given) RecoverBegun
      (Ends code kinds.Container recovering)

  -- the recovery stands at this call with this room, so it may take a turn
  abbrev pub RecoverMay : View T → Recover T (Buffer 128) → Buffer 128 → Type 0
  RecoverMay v call room = (base : View T) × (visits : List (ℕ × Came T)) × RecoverAt base v call (room, visits)

  -- What a step of the recovery tells: whatever the view with which the recovery began, after the
  -- answer `n` it stands at the next stage, or has ended, with what it did now added to its visits.
  abbrev pub RecoverTells : Recover T (Buffer 128) → Buffer 128 → View T → ℕ → View T → Type 0
  RecoverTells call room v n w =
      (base : View T) (visits : List (ℕ × Came T)) → RecoverAt base v call (room, visits)
      → Next (λ (z : View T). z.capacity) RecoverAt RecoverEnds base (recover_goes call n)
      (recover_visiting call (room, visits) n) w

  -- the recovery has gone on from `call` in `v` to `after` in `w` by one step
  abbrev pub RecoverGoes : View T → Recover T (Buffer 128) → Buffer 128
      → After (Recover T (Buffer 128)) ReleaseState → Buffer 128 → View T → Type 0
  RecoverGoes v call room after left w =
      (n : ℕ) × (after ≡ recover_goes call n) × (left ≡ recover_kept kept_at call room n)
      × RecoverTells call room v n w

  -- the recovery has passed cells that are not the owner's: it has visited no further index, and
  -- nothing was put into the room
  abbrev pub RecoverPasses : View T → Recover T (Buffer 128) → Buffer 128 → Recover T (Buffer 128) → View T
      → Type 0
  RecoverPasses v call room on w =
      (base : View T) (visits : List (ℕ × Came T)) → RecoverAt base v call (room, visits)
      → RecoverAt base w on (room, visits)

  -- What a turn of the recovery does. At a question it takes the closure's answer, and the view and the
  -- room stay; else it takes a step.
  abbrev pub RecoverTurns : RecoverStage → View T → Recover T (Buffer 128) → Buffer 128
      → After (Recover T (Buffer 128)) ReleaseState → Buffer 128 → View T → Type 0
  RecoverTurns (recovers.Asks index count) v call room after left w =
      (w ≡ v) × (left ≡ room)
  RecoverTurns stage v call room after left w = RecoverGoes v call room after left w

-- if the recovery stands at a cell, the index of this cell is below the capacity
abbrev pub IsWithin : ℕ → RecoverStage → Type 0
IsWithin capacity (recovers.LoadsCell index) = index < capacity
IsWithin capacity stage = Unit {0}

-- where the loop over cells leads from the cell `first`: to a cell of the owner, or past the last one
abbrev pub PassesTo : (capacity first : ℕ) → RecoverStage → Type 0
PassesTo capacity first (recovers.LoadsCount index) = (first ≤ index) × (index < capacity)
PassesTo capacity first recovers.LoadsCounterAgain = Unit {0}
PassesTo capacity first stage = ⊥

module _ {T : Type 0} where
  -- a recovery that stands at the cell of this index
  abbrev pub at_cell : (capacity index : ℕ) → Recover T (Buffer 128)
  at_cell capacity index =
      record { capacity = capacity; stage = recovers.LoadsCell index; of = record {} }

  -- from the cell `first` on the recovery has come to a cell of the owner, or past the last one
  abbrev pub HasPassed : (capacity first : ℕ) → Recover T (Buffer 128) → Type 0
  HasPassed capacity first on = (on.capacity ≡ capacity) × PassesTo capacity first on.stage

  -- the recovery has passed cells from its stage on; a recovery that stands at no cell stays as it is
  abbrev pub PassesFrom : Recover T (Buffer 128) → RecoverStage → Recover T (Buffer 128) → Type 0
  PassesFrom call (recovers.LoadsCell index) on = HasPassed call.capacity index on
  PassesFrom call stage on = on ≡ call

module _ {T F : Type 0} where
  -- what a turn asks of the closure: at a question it may be called with the value in the room
  abbrev pub RecoverAsks : (F → T → Type 0) → RecoverStage → T → F → Type 0
  RecoverAsks pre (recovers.Asks index count) value f = pre f value
  RecoverAsks pre stage value f = Unit {0}

module _ {T R F : Type 0} where
  -- how the recovery goes on by the closure's answer at a question; at any other stage the closure stays
  abbrev pub RecoverMoves : (F → T → Bool → F → Type 0) → ℕ → Recover T R → DeadOwner
      → RecoverStage → T → F → After (Recover T R) ReleaseState → F → Type 0
  RecoverMoves step size call given (recovers.Asks index count) value f after g =
      (yes : Bool) × step f value yes g
      × (after ≡ recover_after size call given (if yes then 1 else 0))
  RecoverMoves step size call given stage value f after g = g ≡ f

-- a whole recovery: what it adds to the history, what the closure became, and how it leaves the pass
pub record IsRecovered {T F : Type 0} (code : Coding T) (step : F → T → Bool → F → Type 0) (given : DeadOwner)
    (state : ReleaseState) (capacity : ℕ) (f last : F) (old new : View T) : Type 0 where
  pub ends : (m : Visiting T) × RecoverEnds code given old state m new
  pub did : HasRecovered step given state capacity f last old new
