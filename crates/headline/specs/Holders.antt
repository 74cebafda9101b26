-- Who holds an index: what each event does to the holders, and which calls may give an index back.
use Rattle.std.specs.Prelude.{◌≡◌, ◌⊎◌, ◌≤◌, ℕ, ◌==◌, true, Option, Some, List, [], ◌∷◌, length, fold, if◌then◌else◌}
use Rattle.model.specs.declared.event.Event.{Event}
use Rattle.model.specs.declared.event.Event.TheVariants.{Published, HandedOut, Claimed, Freed, Filled, Granted, FreedOf, Returned, TakenBack}
use Rattle.model.specs.declared.event.Item.TheVariants as items
use Rattle.model.specs.declared.event.Start.{Start}
use Rattle.model.specs.declared.event.Start.TheVariants.{Indices, Robust, Container}
use Rattle.model.specs.declared.families.container.ContainerStart.TheVariants as containers
use Rattle.model.specs.declared.families.indices.IndexStart.TheVariants as indices
use Rattle.model.specs.declared.families.indices.robust.RobustStart.TheVariants as robust
use Rattle.model.specs.Families.Container.Reading.{Act, Sees, acts_of}
use Rattle.model.specs.Families.Indices.Reading.{is_locked}
use Rattle.model.specs.Families.Indices.Robust.Reading.{SetAct, Yes, set_acts_of, IsOneOf}
use Rattle.model.specs.Reading.{span_of}
use Rattle.headline.specs.Moments.{Always, call_in}

-- What an event does to an index: it goes to a holder, it loses all its holders, or neither.
pub data Hand : Type 0 where
  Takes : (index holder : ℕ) → Hand
  Gives : (index : ℕ) → Hand
  Neither : Hand

-- Who holds index i after an event, if `holders` held it before.
abbrev pub held_after : ℕ → List ℕ → Hand → List ℕ
held_after i holders (Takes index holder) = if index == i then holder ∷ holders else holders
held_after i holders (Gives index) = if index == i then [] else holders
held_after i holders Neither = holders

module _ {T : Type 0} where
  -- ---- what an event makes of an index

  -- A party of the unique index set claims an index, or frees it.
  abbrev pub claims : Event T → Hand
  claims (Claimed p index) = Takes index p
  claims (Freed p index) = Gives index
  claims e = Neither

  -- In the robust set or a container, the cell of an index is filled with an owner, or emptied.
  abbrev pub fills : Event T → Hand
  fills (Filled p index owner) = Takes index owner
  fills (FreedOf p index owner) = Gives index
  fills e = Neither

  -- In the robust set or a container, an owner is granted an index, or the index is freed.
  abbrev pub grants : Event T → Hand
  grants (Granted p index owner) = Takes index owner
  grants (FreedOf p index owner) = Gives index
  grants e = Neither

  -- A party of a loan channel gets an index from the set or out of a queue, or puts it back
  -- into the set or a queue.
  abbrev pub loans : Event T → Hand
  loans (Claimed p index) = Takes index p
  loans (HandedOut p (items.Index index)) = Takes index p
  loans (TakenBack p index) = Takes index p
  loans (Published p (items.Index index)) = Gives index
  loans (Returned p index) = Gives index
  loans (Freed p index) = Gives index
  loans e = Neither

  -- ---- holders

  -- all to whom the index has gone since it had no holder, the latest first
  abbrev pub holders : (Event T → Hand) → ℕ → List (Event T) → List ℕ
  holders hand i events = fold (λ held e. held_after i held (hand e)) [] events

  -- no index has two holders, at any moment
  abbrev pub NoTwoHold : (Event T → Hand) → List (Event T) → Type 0
  NoTwoHold hand events = Always (λ past. (i : ℕ) → length (holders hand i past) ≤ 1) events

  -- no index has a holder once the set is locked
  abbrev pub NoneOnceLocked : (Event T → Hand) → List (Event T) → Type 0
  NoneOnceLocked hand events =
      Always (λ past. is_locked past ≡ true → (i : ℕ) → holders hand i past ≡ []) events

  -- ---- who gives an index back

  -- The call is a release of this index of a unique index set.
  abbrev pub IsRelease : ℕ → Option (Start T) → Type 0
  IsRelease index (Some (Indices (indices.Release i mode))) = i ≡ index
  IsRelease index call = ⊥

  -- The call may free the index for this owner, where `all` is what it has done to the set and `acts`
  -- what to the elements: it is a release or a remove of that index for the owner, a recovery of a
  -- robust set that was told to free it, or a container's recovery of this owner that was told to free
  -- it or saw no value at it.
  abbrev pub MayFree : (index owner : ℕ) → Option (Start T) → List SetAct → List (Act T) → Type 0
  MayFree index owner (Some (Robust (robust.Release i o mode))) all acts = (i ≡ index) × (o ≡ owner)
  MayFree index owner (Some (Robust (robust.Recover mode))) all acts = IsOneOf (Yes index owner) all
  MayFree index owner (Some (Container (containers.Remove i o mode))) all acts = (i ≡ index) × (o ≡ owner)
  MayFree index owner (Some (Container (containers.Recover o mode))) all acts =
      (o ≡ owner) × (IsOneOf (Yes index owner) all ⊎ IsOneOf (Sees index) acts)
  MayFree index owner call all acts = ⊥

  -- The party's latest call may free the index for this owner, by what it has done so far (`MayFree`).
  abbrev pub GivesBack : (p index owner : ℕ) → List (Event T) → Type 0
  GivesBack p index owner before =
      MayFree index owner (call_in (span_of p before)) (set_acts_of p before) (acts_of p before)
