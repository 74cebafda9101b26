-- What a call of the container writes between its begin and its end.
use Rattle.std.specs.Prelude.{◌≡◌, ◌⊎◌, ℕ, ◌<◌, List, [], ◌∷◌}
use Rattle.std.specs.List.{AllByRecursion}
use Rattle.steps.specs.declared.container.enums.ContainerAddFailure.TheVariants as failures
use Rattle.steps.specs.declared.indices.enums.ReleaseMode.TheVariants.{LockIfLastIndex}
use Rattle.steps.specs.declared.indices.enums.ReleaseState.TheVariants as states
use Rattle.model.specs.declared.event.Answer.{Answer}
use Rattle.model.specs.declared.event.Answer.TheVariants.{Done, Index, State, Number, Truth, NoPlace, NotRemoved}
use Rattle.model.specs.declared.event.Event.{Event}
use Rattle.model.specs.declared.event.Event.TheVariants.{Filled, Granted, FreedOf, Asked, Told, Locked, Placed, Hidden, Copied, Shown}
use Rattle.model.specs.declared.event.Start.TheVariants.{Container}
use Rattle.model.specs.declared.families.container.ContainerStart.{ContainerStart}
use Rattle.model.specs.declared.families.container.ContainerStart.TheVariants.{Add, Remove, Replace, Find, Recover}
use Rattle.model.specs.declared.families.container.ContainerStart.TheVariants.{GetState, UpdateState, Len, IsEmpty}
use Rattle.model.specs.declared.families.container.ContainerStart.TheVariants.{IsLocked}
use Rattle.model.specs.Families.Container.Reading.{Act, Hides, Copies, Sees, acts, seen_in}
use Rattle.model.specs.Families.Indices.Robust.Reading.{SetAct, Fills, Grants, Frees, Asks, Yes, Locks, set_acts, IsOneOf, IsLatest, asked_in}
use Rattle.model.specs.Families.Indices.Robust.Spans.{HasJustFreed, FilledLate}
use Rattle.model.specs.Reading.{Span, Open}

module _ {T : Type 0} where
  -- The last thing that the call has done to elements is to copy the value at this index.
  pub record HasJustCopied (index : ℕ) (all : List (Act T)) : Type 0 where
    pub value : T
    pub latest : IsLatest (Copies index value) all

  -- Where an event may stand.
  --
  -- An add fills an index for its owner, is granted it, may hide what an earlier owner has left there,
  -- and then places its argument. A remove frees its index first of all, and may hide what stands there
  -- after that. A replace may hide what stands at its index, and then places its argument. Who may lock
  -- does so after it has freed, in mode LockIfLastIndex alone.
  --
  -- A find and a look copy indices ascending. A recovery comes to indices ascending, and copies each or is
  -- shown that nothing stands there. It asks about the one that it has just copied, and may be told to free
  -- it; it frees that one, or the one that it was just shown, and may then hide what stands there.
  abbrev pub may_stand : Event T → Span T → Type 0
  may_stand (Filled p index owner) (Open (Container (Add value o)) wrote) =
      (owner ≡ o) × (set_acts wrote ≡ [])
  may_stand (Granted p index owner) (Open (Container (Add value o)) wrote) =
      (owner ≡ o) × (set_acts wrote ≡ Fills index owner ∷ [])
  may_stand (Hidden p index) (Open (Container (Add value o)) wrote) =
      (set_acts wrote ≡ Fills index o ∷ Grants index o ∷ []) × (acts wrote ≡ [])
  may_stand (Placed p index new) (Open (Container (Add value o)) wrote) =
      (new ≡ value) × (set_acts wrote ≡ Fills index o ∷ Grants index o ∷ [])
      × ((acts wrote ≡ []) ⊎ (acts wrote ≡ Hides index ∷ []))
  may_stand (FreedOf p index owner) (Open (Container (Remove i o mode)) wrote) =
      (index ≡ i) × (owner ≡ o) × (set_acts wrote ≡ [])
  may_stand (Locked p) (Open (Container (Remove i o LockIfLastIndex)) wrote) =
      set_acts wrote ≡ Frees i o ∷ []
  may_stand (Hidden p index) (Open (Container (Remove i o mode)) wrote) =
      (index ≡ i) × IsOneOf (Frees i o) (set_acts wrote) × (acts wrote ≡ [])
  may_stand (Hidden p index) (Open (Container (Replace i value o)) wrote) =
      (index ≡ i) × (acts wrote ≡ [])
  may_stand (Placed p index new) (Open (Container (Replace i value o)) wrote) =
      (index ≡ i) × (new ≡ value) × ((acts wrote ≡ []) ⊎ (acts wrote ≡ Hides i ∷ []))
  may_stand (Copied p index value) (Open (Container (Find o)) wrote) =
      AllByRecursion (λ i. i < index) (seen_in (acts wrote))
  may_stand (Copied p index value) (Open (Container GetState) wrote) =
      AllByRecursion (λ i. i < index) (seen_in (acts wrote))
  may_stand (Copied p index value) (Open (Container UpdateState) wrote) =
      AllByRecursion (λ i. i < index) (seen_in (acts wrote))
  may_stand (Copied p index value) (Open (Container (Recover o mode)) wrote) =
      AllByRecursion (λ i. i < index) (seen_in (acts wrote))
  may_stand (Shown p index) (Open (Container (Recover o mode)) wrote) =
      AllByRecursion (λ i. i < index) (seen_in (acts wrote))
  may_stand (Asked p index owner) (Open (Container (Recover o mode)) wrote) =
      (owner ≡ o) × HasJustCopied index (acts wrote)
      × AllByRecursion (λ i. i < index) (asked_in (set_acts wrote))
  may_stand (Told p index owner) (Open (Container (Recover o mode)) wrote) =
      (owner ≡ o) × IsLatest (Asks index owner) (set_acts wrote)
  may_stand (FreedOf p index owner) (Open (Container (Recover o mode)) wrote) =
      (owner ≡ o)
      × (IsLatest (Yes index owner) (set_acts wrote) ⊎ IsLatest (Sees index) (acts wrote))
  may_stand (Hidden p index) (Open (Container (Recover o mode)) wrote) =
      IsLatest (Frees index o) (set_acts wrote)
  may_stand (Locked p) (Open (Container (Recover o LockIfLastIndex)) wrote) =
      HasJustFreed (set_acts wrote)
  may_stand e span = ⊥

  -- What a finished call has done to the set of indices, by its answer. A replace that was refused has
  -- done nothing to elements either. A call gives no answer but those listed.
  abbrev pub HasDone : ContainerStart T → Answer T → List SetAct → List (Act T) → Type 0
  HasDone (Add value owner) (Index index) all done =
      all ≡ Fills index owner ∷ Grants index owner ∷ []
  HasDone (Add value owner) (NoPlace failures.IsLocked) all done = (all ≡ []) ⊎ FilledLate owner all
  HasDone (Add value owner) (NoPlace failures.OutOfSpace) all done = all ≡ []
  HasDone (Remove index owner mode) (State states.Unlocked) all done = all ≡ Frees index owner ∷ []
  HasDone (Remove index owner LockIfLastIndex) (State states.Locked) all done =
      (all ≡ Frees index owner ∷ []) ⊎ (all ≡ Frees index owner ∷ Locks ∷ [])
  HasDone (Remove index owner mode) (NotRemoved failure) all done = all ≡ []
  HasDone (Replace index value owner) Done all done = all ≡ []
  HasDone (Replace index value owner) (NotRemoved failure) all done = (all ≡ []) × (done ≡ [])
  HasDone (Find owner) (Number number) all done = all ≡ []
  HasDone (Recover owner mode) (State state) all done = Unit {0}
  HasDone GetState (Number number) all done = all ≡ []
  HasDone UpdateState (Truth changed) all done = all ≡ []
  HasDone Len (Number number) all done = all ≡ []
  HasDone IsEmpty (Truth empty) all done = all ≡ []
  HasDone IsLocked (Truth locked) all done = all ≡ []
  HasDone start answer all done = ⊥
