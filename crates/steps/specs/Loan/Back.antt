-- An index that comes back to the sender of a loan channel: it is released, in mode Default.
use Rattle.std.specs.Prelude.{ℕ, ◌%◌, ◌^◌, false}
use Rattle.steps.specs.declared.ask.Want.{Want}
use Rattle.steps.specs.declared.ask.After.{After}
use Rattle.steps.specs.declared.indices.enums.ReleaseState.{ReleaseState}
use Rattle.steps.specs.declared.indices.unique.DefaultMode.{DefaultMode}
use Rattle.steps.specs.declared.indices.unique.Release.{Release}
use Rattle.steps.specs.declared.indices.unique.ReleaseStage.{ReleaseStage}
use Rattle.steps.specs.Indices.Unique.{release_asks, release_takes}

-- an index lies in the low half of its word
abbrev pub index_in : ℕ → ℕ
index_in word = word % 2 ^ 32

-- the release of the set, at this stage
abbrev pub inner_release : ℕ → ReleaseStage → Release DefaultMode
inner_release slots stage = record { capacity = slots; stage = stage; of = record {} }

-- what the release asks for; the set's words come first
abbrev pub back_asks : (slots index : ℕ) → ReleaseStage → Want (Unit {0})
back_asks slots index stage = release_asks false slots index stage

-- where the release goes on to from the old value of its word
abbrev pub back_takes : ℕ → ReleaseStage → ℕ → After (Release DefaultMode) ReleaseState
back_takes slots stage old = release_takes false (inner_release slots stage) stage old
