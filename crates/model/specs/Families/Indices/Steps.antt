-- What a step of a call of the unique index set writes down.
use Rattle.std.specs.Prelude.{ℕ, Bool, true, false, Option, Some, None, List, [], ◌∷◌, fold, if◌then◌else◌, slice_set}
use Rattle.steps.specs.declared.indices.enums.ReleaseState.TheVariants.{Locked}
use Rattle.steps.specs.declared.indices.unique.ReleaseStage.{ReleaseStage}
use Rattle.steps.specs.declared.indices.unique.ReleaseStage.TheVariants.{ClearsFlag}
use Rattle.model.specs.declared.event.Answer.{Answer}
use Rattle.model.specs.declared.event.Answer.TheVariants.{Index, State}
use Rattle.model.specs.declared.event.Event.{Event}
use Rattle.model.specs.declared.event.Event.TheVariants as events
use Rattle.model.specs.declared.event.Event.TheVariants.{Claimed, Freed}
use Rattle.model.specs.declared.families.indices.calls.IndexFlight.{IndexFlight}
use Rattle.model.specs.declared.families.indices.calls.IndexFlight.TheVariants.{ReleaseDefault, ReleaseLock}
use Rattle.model.specs.Families.Indices.Calls.{after, goes_back}
use Rattle.model.specs.Step.{Step, answer_in}

-- whether the next step of a release clears the flag
abbrev pub clears : ReleaseStage → Bool
clears ClearsFlag = true
clears stage = false

-- the index that the next step of the call frees: the first step of a release clears its flag
abbrev pub frees : IndexFlight → Option ℕ
frees (ReleaseDefault run) = if clears run.call.stage then Some run.given else None
frees (ReleaseLock run) = if clears run.call.stage then Some run.given else None
frees flight = None

module _ {T : Type 0} where
  -- an acquire claims by its last step, and a release that answers so locks by its last
  abbrev pub ended : ℕ → Option (Answer T) → List (Event T)
  ended p (Some (Index index)) = Claimed p index ∷ []
  ended p (Some (State Locked)) = events.Locked p ∷ []
  ended p outcome = []

  -- what a step writes down: the index that it frees, or what its end says
  abbrev pub effects : ℕ → Option ℕ → Option (Answer T) → List (Event T)
  effects p (Some index) outcome = Freed p index ∷ []
  effects p None outcome = ended p outcome

  -- an index is held from its claim to its freeing
  abbrev pub holders_after : List (Option ℕ) → Event T → List (Option ℕ)
  holders_after holders (Claimed p index) = slice_set holders index (Some p)
  holders_after holders (Freed p index) = slice_set holders index None
  holders_after holders e = holders

  -- ---- all that a step comes to

  -- what the next step of a call writes down
  abbrev pub wrote : ℕ → IndexFlight → ℕ → List (Event T)
  wrote p flight old = effects p (frees flight) (answer_in (after flight old))

  -- all that a step of a unique index set's call comes to, where its word has this old value
  abbrev pub step : ℕ → IndexFlight → ℕ → List (Option ℕ)
      → Step IndexFlight (List (Option ℕ)) T
  step p flight old holders =
      record {
        after = after flight old;
        back = goes_back flight old;
        wrote = wrote p flight old;
        kept = fold holders_after holders (wrote p flight old);
      }
