-- What is known between two turns of a find of a container. In these relations `base` is the view with
-- which it began, `v` the view now, and `copies` are the values that it has copied.
use Rattle.std.specs.Prelude.{◌≡◌, ℕ, ◌+◌, ◌-◌, ◌<◌, ◌≤◌, List, []}
use Rattle.steps.specs.Container.Find.{first_find, find_after, find_kept}
use Rattle.steps.specs.Indices.Robust.Parts.{empty, one_more}
use Rattle.steps.specs.declared.ask.After.{After}
use Rattle.steps.specs.declared.ask.After.TheVariants.{GoOn, Done}
use Rattle.steps.specs.declared.container.find.Find.{Find}
use Rattle.steps.specs.declared.container.find.FindStage.{FindStage}
use Rattle.steps.specs.declared.container.find.FindStage.TheVariants as finds
use Rattle.steps.specs.declared.copied.Buffer.{Buffer}
use Rattle.model.specs.declared.turn.Kind.TheVariants as kinds
use Rattle.model.specs.Coding.{Coding}
use Rattle.model.specs.Families.Queues.Calls.{fresh_cell, kept_at}
use Rattle.threaded.specs.Driver.{Next}
use Rattle.history.specs.declared.view.View.{View}
use Rattle.history_owners.specs.ContainerFind.{find_copies, finds_values}
use Rattle.history_owners.specs.ContainerLooks.{KeepsState}
use Rattle.history.specs.History.{Knows}
use Rattle.history.specs.Passes.{Goes}
use Rattle.history_owners.specs.Settled.{AtRested, EndsRested, EndsAsked}
use Rattle.history.specs.Stages.{Calling, AtAsked, Ends}
use Rattle.history.specs.Steps.{TakesAtMost}
use Rattle.lock_free_owners.specs.Container.Idle.{IsIdle}
use Rattle.lock_free_owners.specs.Container.Steps.{FewAside}

-- the words in a room, the buffer of a find
abbrev pub words_in : Buffer 128 → List ℕ
words_in room = room.words

-- a room, and which values were copied into it so far, with their indices
abbrev pub Copying : Type 0 → Type 0
Copying T = Buffer 128 × List (ℕ × T)

-- the find is at its first stage, with a room of zeros and nothing copied
abbrev pub BeginsFind : {T : Type 0} → ℕ → ℕ → Find T (Buffer 128) → Copying T → Type 0
BeginsFind owner capacity c m =
    (c ≡ first_find capacity) × (0 < capacity) × (owner < empty) × (m ≡ (fresh_cell, []))

module _ {T : Type 0} (code : Coding T) (owner : ℕ) where
  -- how a find for this owner is read as a call of the model
  abbrev pub finding : Calling T (Find T (Buffer 128)) (Copying T) ℕ
  finding = finds_values code words_in owner

  -- the find after the answer `n`, or its end
  abbrev pub find_goes : Find T (Buffer 128) → ℕ → After (Find T (Buffer 128)) ℕ
  find_goes c n = find_after code.size c owner n

  -- the room and the copies after the answer `n`
  abbrev pub find_copying : Find T (Buffer 128) → Copying T → ℕ → Copying T
  find_copying = find_copies code words_in kept_at

  -- the find is about to begin or under way, or has heard an answer; it is counted from the view in
  -- which the pass's last call had ended
  abbrev pub FindBegun : View T → View T → Find T (Buffer 128) → Copying T → Type 0
  FindBegun = AtAsked code kinds.Container find_goes find_copying finding

  -- the find has ended, or an answer has ended it and it rests at its question
  abbrev pub FindOver : View T → ℕ → Copying T → View T → Type 0
  FindOver = EndsAsked code kinds.Container find_goes find_copying finding

  -- the same as `FindBegun` where the pass's last call may still rest: then the find has not begun
  abbrev pub FindAt : View T → View T → Find T (Buffer 128) → Copying T → Type 0
  FindAt = AtRested code kinds.Container (BeginsFind owner) FindBegun FindOver

  -- a step on a word has ended the find, which then does not rest
  abbrev pub FindDone : View T → ℕ → Copying T → View T → Type 0
  FindDone = EndsRested code kinds.Container (BeginsFind owner) FindBegun (Ends code kinds.Container finding)

  -- the find stands at this call with this room, so it may take a turn
  abbrev pub FindMay : View T → Find T (Buffer 128) → Buffer 128 → Type 0
  FindMay v call room = (base : View T) × (copies : List (ℕ × T)) × FindAt base v call (room, copies)

  -- What a step of the find tells: whatever the view with which the find began, after the answer `n` it
  -- stands at the next stage, or has ended, with what it copied now behind what it had copied.
  abbrev pub FindTells : Find T (Buffer 128) → Buffer 128 → View T → ℕ → View T → Type 0
  FindTells call room v n w =
      (base : View T) (copies : List (ℕ × T)) → FindAt base v call (room, copies)
      → Next (λ (z : View T). z.capacity) FindAt FindDone base (find_goes call n)
      (find_copying call (room, copies) n) w

  -- the find has gone on from `call` in `v` to `after` in `w` by one operation
  abbrev pub FindGoes : View T → Find T (Buffer 128) → Buffer 128 → After (Find T (Buffer 128)) ℕ
      → Buffer 128 → View T → Type 0
  FindGoes v call room after left w =
      (n : ℕ) × (after ≡ find_goes call n) × (left ≡ find_kept kept_at call room n) × FindTells call room v n w
      × TakesAtMost 1 v w

  -- The find has passed cells that are not the owner's, perhaps to its end. Nothing was put into the
  -- room, and nothing was copied.
  abbrev pub FindPasses : View T → Find T (Buffer 128) → Buffer 128 → After (Find T (Buffer 128)) ℕ → View T
      → Type 0
  FindPasses v call room after w =
      (base : View T) (copies : List (ℕ × T)) → FindAt base v call (room, copies)
      → Next (λ (z : View T). z.capacity) FindAt FindDone base after (room, copies) w

  -- What a turn of the find does. At a question it takes the closure's answer, and the view and the
  -- room stay; else it takes a step.
  abbrev pub FindTurns : FindStage → View T → Find T (Buffer 128) → Buffer 128
      → After (Find T (Buffer 128)) ℕ → Buffer 128 → View T → Type 0
  FindTurns (finds.Asks index found) v call room after left w =
      (w ≡ v) × (left ≡ room)
  FindTurns stage v call room after left w = FindGoes v call room after left w

-- the find stands at no question, so its next turn is a step
abbrev pub IsAtWord : FindStage → Type 0
IsAtWord (finds.Asks index found) = ⊥
IsAtWord stage = Unit {0}

-- if the find stands at a cell, the index of this cell is below the capacity
abbrev pub IsWithin : ℕ → FindStage → Type 0
IsWithin capacity (finds.LoadsCell index found) = index < capacity
IsWithin capacity stage = Unit {0}

module _ {T : Type 0} where
  -- a find that stands at the cell of this index and has found `found` indices of the owner
  abbrev pub at_cell : (capacity index found : ℕ) → Find T (Buffer 128)
  at_cell capacity index found =
      record { capacity = capacity; stage = finds.LoadsCell index found; of = record {} }

  -- from the cell `first` on, with one operation for each cell, the find has come to a cell of the
  -- owner, and counts it
  abbrev pub PassesTo : (capacity first found : ℕ) → FindStage → View T → View T → Type 0
  PassesTo capacity first found (finds.LoadsCount index count) v w =
      (first ≤ index) × (index < capacity) × (count ≡ one_more found) × TakesAtMost (index + 1 - first) v w
  PassesTo capacity first found stage v w = ⊥

  -- from the cell `first` on the find has come to a cell of the owner, or past the last cell, where it ends
  abbrev pub HasPassed : (capacity first found : ℕ) → After (Find T (Buffer 128)) ℕ → View T → View T → Type 0
  HasPassed capacity first found (GoOn on) v w =
      (on.capacity ≡ capacity) × PassesTo capacity first found on.stage v w
  HasPassed capacity first found (Done all) v w = (all ≡ found) × TakesAtMost (capacity - first) v w

  -- the find has passed cells from its stage on; a find that stands at no cell stays as it is
  abbrev pub PassesFrom : Find T (Buffer 128) → FindStage → After (Find T (Buffer 128)) ℕ → View T → View T
      → Type 0
  PassesFrom call (finds.LoadsCell index found) after v w =
      HasPassed call.capacity index found after v w
  PassesFrom call stage after v w = (after ≡ GoOn call) × (w ≡ v)

-- What a find leaves of a view whose pass has no call under way, or whose last call rests. The new view
-- is so too, knows one history, and goes on from the old one.
module _ {T : Type 0} (code : Coding T) where
  pub record IsLeft (old new : View T) : Type 0 where
    pub idle : IsIdle new
    pub capacity : new.capacity ≡ old.capacity
    pub share : new.share ≡ old.share
    pub alone : new.other ≡ []
    pub goes : Goes old new
    pub aside : FewAside old new
    pub knows : Knows code kinds.Container old.capacity new
    pub keeps : KeepsState old new
