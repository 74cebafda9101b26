-- What is known between two steps of a look that gets or updates a state. Of a new state, or the one
-- that the pass has, the look is a call of the history; of any other state it changes nothing that the
-- pass knows. The look began in the view `from`, with a state that had seen the numbers `seen` and
-- showed `shown`.
use Rattle.std.specs.Prelude.{◌≡◌, ◌⊎◌, ◌<◌, ℕ, Bool, true}
use Rattle.steps.specs.declared.ask.After.{After}
use Rattle.steps.specs.Container.Look.{first_look}
use Rattle.steps.specs.Container.State.{Numbers, Showing}
use Rattle.steps.specs.declared.container.look.Look.{Look}
use Rattle.steps.specs.declared.container.look.LookStage.{LookStage}
use Rattle.steps.specs.declared.container.look.LookStage.TheVariants as looks
use Rattle.model.specs.declared.families.container.calls.LookOf.{LookOf}
use Rattle.model.specs.Coding.{Coding}
use Rattle.threaded.specs.Driver.{Next}
use Rattle.history.specs.declared.view.View.{View}
use Rattle.history_owners.specs.ContainerLooks.{BeginsWith, RestedLooks, RestedLooked}
use Rattle.lock_free_owners.specs.Container.Bare.{IsCounted, Still, LookStands}

module _ {T : Type 0} (code : Coding T) (which : LookOf) (from : View T) (shown : Showing T) (seen : Numbers) where
  -- the state is one that the history has: a new one, or that of the pass's party
  abbrev pub IsOnHistory : Type 0
  IsOnHistory = BeginsWith code which from.capacity seen which from shown

  -- it is known whether the history has the state
  abbrev pub IsDecided : Type 0
  IsDecided = IsOnHistory ⊎ (IsOnHistory → ⊥)

  -- The look is under way in the view `v`. If the history has the state, it is a call of it; else the
  -- pass has only counted its operations.
  abbrev pub LookAt : View T → Look T → Showing T → Type 0
  LookAt v c m =
      (IsOnHistory → RestedLooks code which from.capacity seen from v c m)
      × ((IsOnHistory → ⊥) → Still (LookStands code.size) from v c m)

  -- the look has ended in the view `w`, as a call of the history or outside it
  abbrev pub LookOver : Bool → Showing T → View T → Type 0
  LookOver changed m w =
      (IsOnHistory → RestedLooked code which from.capacity seen from changed m w)
      × ((IsOnHistory → ⊥) → IsCounted from w)

  -- the look begins in the view `v`, of a container with a place, and it is known whether the history
  -- has the state
  pub record LookBegins (capacity : ℕ) (v : View T) (m : Showing T) : Type 0 where
    pub places : 0 < capacity
    pub from_is : from ≡ v
    pub decided : IsDecided
    pub at : LookAt v (first_look capacity) m

-- the look is past its first step: it has found that changes were counted since those that the state has seen
abbrev pub IsPast : LookStage → Type 0
IsPast looks.LoadsChange = ⊥
IsPast stage = Unit {0}

-- the relations of a look that has found a change: it answers true in the end
module _ {T : Type 0} (code : Coding T) (which : LookOf) (from : View T) (shown : Showing T) (seen : Numbers) where
  -- the look is under way in the view `v`, past its first step
  abbrev pub LookOnAt : View T → Look T → Showing T → Type 0
  LookOnAt v c m = LookAt code which from shown seen v c m × IsPast c.stage

  -- the look stands at this call and may take a step, and it is known whether the history has the state
  pub record LookOnMay (v : View T) (c : Look T) (m : Showing T) : Type 0 where
    pub decided : IsDecided code which from shown seen
    pub at : LookOnAt v c m

  -- the look has ended in the view `w`, and answers true
  abbrev pub LookOnOver : Bool → Showing T → View T → Type 0
  LookOnOver changed m w = LookOver code which from shown seen changed m w × (changed ≡ true)

  -- the look has gone on to the next stage, or has ended
  abbrev pub LookOnGoes : After (Look T) Bool → Showing T → View T → Type 0
  LookOnGoes = Next (λ (z : View T). z.capacity) (λ base. LookOnAt) (λ base. LookOnOver) from

module _ {T : Type 0} where
  -- a look that stands at the number of the element at this index
  abbrev pub at_count : (capacity index : ℕ) → Look T
  at_count capacity index =
      record { capacity = capacity; stage = looks.LoadsCount index; of = record {} }

  -- a look that stands at a word of the element at this index, which it copies
  abbrev pub at_word : (capacity index count at : ℕ) → Look T
  at_word capacity index count at =
      record { capacity = capacity; stage = looks.LoadsWord index count at; of = record {} }
