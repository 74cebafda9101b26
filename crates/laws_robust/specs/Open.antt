-- What holds of a robust index set that an open run leads to.
use Rattle.std.specs.Prelude.{◌≡◌, ℕ, ◌<◌, ◌==◌, false, slice_index}
use Rattle.steps.specs.Indices.Robust.Parts.{cell_word, locked, greatest}
use Rattle.model.specs.Families.Indices.Reading.{is_locked}
use Rattle.model.specs.Families.Indices.Robust.Promises.{cell_of, SetDoes, IsWellFormed, HoldsRight, KeepsDead}
use Rattle.model.specs.Families.Indices.Robust.Reading.{filled_of, is_dead}
use Rattle.model.specs.Reading.{Each}
use Rattle.model.specs.World.{Trace}
use Rattle.laws_robust.specs.Gone.{Word, IsHonest, AsksBy, AnswersBy}

module _ {T : Type 0} where
  -- What holds of a robust index set after an open run: what its cells hold and whether it is locked, by
  -- the events; what each event says; and who holds an index, in a well-formed and honest run.
  pub record IsOpenSet (t : Trace T) : Type 0 where
    -- each event fills, grants or frees an index, or locks the set, only as `SetDoes` allows
    pub does : Each (SetDoes t.world.capacity) t.events
    -- each question of a recovery is one that `AsksBy` allows
    pub asks : Each (AsksBy Word) t.events
    -- each answer says what `AnswersBy` asks of it
    pub answers : Each (AnswersBy Word (slice_index t.world.words 0 ≡ greatest) t.world.capacity) t.events
    -- in a well-formed and honest run no index is granted that is held
    pub holds : IsWellFormed t.events → IsHonest t.events → Each HoldsRight t.events
    -- each cell says for whom its index is filled
    pub cells : (index : ℕ) → index < t.world.capacity
        → slice_index t.world.words (cell_word index) ≡ cell_of (filled_of index t.events)
    -- the counter says whether the set is locked
    pub lock : (slice_index t.world.words 0 == locked) ≡ is_locked t.events
    -- nobody has died
    pub lives : (owner : ℕ) → is_dead owner t.events ≡ false
    pub dead : KeepsDead t.world.kept t.events
