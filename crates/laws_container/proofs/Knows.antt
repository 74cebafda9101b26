-- What a call of the container knows at each of its stages, as a predicate of what its party sees (`View`):
-- of its set, as the calls of a robust set know it; of the element at its index; of what it has found; and of
-- its party's state.
use Rattle.laws_container.proofs.Names.{◌≡◌, ◌≢◌, ◌⊎◌, ℕ, ◌+◌, ◌%◌, ◌<◌, ◌≤◌, false, true, Some, is_some, List, []}
use Rattle.laws_container.proofs.Names.{◌∷◌, length, get_or, AddStage, FindStage, LookStage, RecoverStage}
use Rattle.laws_container.proofs.Names.{RemoveStage, ReplaceStage, ContainerState, ReleaseMode, LockIfLastIndex}
use Rattle.laws_container.proofs.Names.{Default, ReleaseState, ReleaseStage, Event, Container, ContainerFlight, Count}
use Rattle.laws_container.proofs.Names.{IsLocked, Party, Coding, WasShown, Copies, acts_of, places, contents_of}
use Rattle.laws_container.proofs.Names.{UnlockedAtLast, state_of, is_locked, IsFilledWith, IsUnlocked, IsCount}
use Rattle.laws_container.proofs.Names.{HeldThroughout, FilledSinceFreed, StillToFree, Asks, Yes, filled_of}
use Rattle.laws_container.proofs.Names.{set_acts_of, IsOneOf, IsLatest, read_in, HeldSometime, party_of, Open}
use Rattle.laws_container.proofs.Names.{span_of, is_gone, IsHonestBy, IsCalm, IsWorn, acquire_at, release_at}
use Rattle.laws_container.proofs.Names.{borrowed_at, looking}
use Rattle.steps.specs.declared.container.add.AddStage.TheVariants as adds
use Rattle.steps.specs.declared.container.find.FindStage.TheVariants as finds
use Rattle.steps.specs.declared.container.look.LookStage as looks
use Rattle.steps.specs.declared.container.recover.RecoverStage.TheVariants as recovers
use Rattle.steps.specs.declared.container.remove.RemoveStage.TheVariants as removes
use Rattle.steps.specs.declared.container.replace.ReplaceStage.TheVariants as replaces
use Rattle.steps.specs.declared.copied.Buffer as buffers
use Rattle.steps.specs.declared.indices.enums.ReleaseState.TheVariants as states
use Rattle.steps.specs.declared.indices.robust.release.ReleaseStage.TheVariants as releases
use Rattle.model.specs.declared.families.container.ContainerStart.TheVariants as starts
use Rattle.model.specs.declared.families.container.calls.ContainerFlight.TheVariants.{Add, Remove, Replace, Find}
use Rattle.model.specs.declared.families.container.calls.ContainerFlight.TheVariants.{Recover, Look}
use Rattle.laws_robust.proofs.Knows as set
use Rattle.laws_container.specs.Gone.{HasRecoveredBy, FilledSinceEachBy}
use Rattle.laws_container.proofs.Contents.{Writing}
use Rattle.laws_container.proofs.HiddenKnows.{RemoveCovers, RecoverCovers, StillStands, HasHidden, no_index}
use Rattle.laws_container.proofs.Left.{left_of}
use Rattle.laws_container.proofs.Replaces.{ReplaceOwns}
use Rattle.laws_container.proofs.KeptCopies.{ShowsOwn}
use Rattle.laws_container.proofs.KeptLocks.{NoIndex, FilledBut, FoundFilled}
use Rattle.laws_container.proofs.StateInvariant.{number_at, StoodThere, Rests, Course}
use Rattle.laws_container.proofs.Terms.{Terms, Keeps}
use Rattle.laws_container.proofs.Turns.{Now, WellFormed, count_in, datum_in}
use Rattle.laws_container.proofs.Writers.{Adds}

-- the room for a copy has its 128 words
abbrev pub IsLong : buffers.Buffer 128 → Type 0
IsLong room = length room.words ≡ 128

-- ---- what they see of the machine

-- what a party sees of the machine while its call is under way
pub record View (T : Type 0) : Type 0 where
  -- by what an owner is gone; the words, the parties' states and latest calls, and the events
  pub terms : Terms
  pub words : List ℕ
  pub states : List (ℕ × ContainerState T)
  pub latest : List (ℕ × Party T)
  pub events : List (Event T)
  -- whose call it is
  pub party : ℕ
  pub since : ℕ  -- how often words had changed when the call began
  pub changes : ℕ  -- how often they have
  pub backs : ℕ  -- so often the call has turned back

module _ {T : Type 0} where
  -- what the party sees of the set of indices
  abbrev pub of_set : View T → set.View T
  of_set v =
      record {
        by = v.terms.by;
        words = v.words;
        events = v.events;
        party = v.party;
        since = v.since;
        changes = v.changes;
        backs = v.backs;
      }

  -- the machine that the party sees, without what is its own
  abbrev pub now : View T → Now T
  now v = record { terms = v.terms; words = v.words; latest = v.latest; events = v.events }

  -- each turn back of the call is paid for by a change of another party
  abbrev pub IsPaid : View T → Type 0
  IsPaid v = set.IsPaid (of_set v)

  -- the owner is gone
  abbrev pub IsGone : ℕ → View T → Type 0
  IsGone owner v = is_gone v.terms.by owner v.events ≡ true

  -- the owner is not gone
  abbrev pub Lives : ℕ → View T → Type 0
  Lives owner v = is_gone v.terms.by owner v.events ≡ false

  -- the counter of the set is at its end
  abbrev pub Worn : View T → Type 0
  Worn v = IsWorn v.terms.by v.words

  -- the set was not locked at a moment of the call
  abbrev pub WasOpen : View T → Type 0
  WasOpen v = HeldSometime v.party IsUnlocked v.events

  -- the index had this owner at a moment of the call
  abbrev pub WasFilled : ℕ → ℕ → View T → Type 0
  WasFilled owner index v = HeldSometime v.party (IsFilledWith owner index) v.events

  -- ---- an add that was granted an index, and a replace that has found its owner

  -- what an add knows from its grant on: its index is below the capacity, and the index is its own in a calm
  -- run while its owner is not gone
  pub record AddOwns (c owner index : ℕ) (v : View T) : Type 0 where
    pub paid : IsPaid v
    pub within : index < c
    pub owns : IsCalm v.terms.by v.events → Lives owner v → Adds v.party index owner v.events

  -- the party's call is this replace, which has taken a step
  pub record HasFound (index owner : ℕ) (value : T) (v : View T) : Type 0 where
    pub party : Party T
    pub found : party_of v.party v.latest ≡ Some party
    pub steps : 1 ≤ party.steps
    pub wrote : List (Event T)
    pub span : span_of v.party v.events
        ≡ Open (Container (starts.Replace index value owner)) wrote

  -- what a replace knows once it has found its owner in the cell: the owner was there at a moment of the
  -- call, and the replace has its right to the index
  pub record ReplaceKnows (c index owner : ℕ) (value : T) (v : View T) : Type 0 where
    pub paid : IsPaid v
    pub within : index < c
    pub owns : ReplaceOwns v.terms.by v.party index owner v.events
    pub found : HasFound index owner value v
    pub filled : WasFilled owner index v

-- ---- a call that writes the words of an element, where the values have this coding and the capacity is `c`

module _ {T : Type 0} (code : Coding T) (c : ℕ) where
  -- in a well-formed run, while the owner is not gone, the number at the index is still the one loaded, or
  -- what stood there is hidden
  abbrev pub Covers : ℕ → ℕ → ℕ → View T → Type 0
  Covers owner index count v =
      WellFormed (now v) → Lives owner v
      → (count_in code c (now v) index ≡ count) ⊎ (count_in code c (now v) index % 2 ≡ 0)

  -- the first `k` words of the value are stored at the index, under an even number
  pub record Writes (owner index : ℕ) (value : T) (k : ℕ) (v : View T) : Type 0 where
    pub few : k ≤ code.size
    pub has : WellFormed (now v) → Lives owner v → Writing code c v.words index value k

  -- in a well-formed run the call has placed the value at the index, and has placed no other
  abbrev pub HasPlaced : ℕ → T → View T → Type 0
  HasPlaced index value v =
      WellFormed (now v) → places (acts_of v.party v.events) ≡ (index, value) ∷ []

  -- in a well-formed run, while the owner is not gone, a value stands at the index, and was placed there
  -- since the index was freed last
  abbrev pub Stood : ℕ → ℕ → View T → Type 0
  Stood owner index v =
      WellFormed (now v) → Lives owner v
      → (left_of index v.events ≡ false) × (is_some (contents_of index v.events) ≡ true)

  -- what an add knows: what the acquire of the set knows, and from its grant on that the index is its own,
  -- and how far its value is stored
  abbrev pub AddKnows : T → ℕ → AddStage → View T → Type 0
  AddKnows value owner (adds.Acquires stage) v =
      set.Knows c (acquire_at c owner stage) (of_set v)
  AddKnows value owner (adds.LoadsCount index) v = AddOwns c owner index v
  AddKnows value owner (adds.Hides index count) v =
      AddOwns c owner index v × Covers owner index count v
  AddKnows value owner (adds.Stores index at) v =
      AddOwns c owner index v × Writes owner index value at v
  AddKnows value owner (adds.AddsCount index) v =
      AddOwns c owner index v × Writes owner index value code.size v
  AddKnows value owner (adds.AddsChange index) v =
      AddOwns c owner index v × HasPlaced index value v × Stood owner index v

  -- what a replace knows: that it has its right to the index, and once it has found its owner how far its
  -- value is stored
  abbrev pub ReplacesKnow : ℕ → T → ℕ → ReplaceStage → View T → Type 0
  ReplacesKnow index value owner replaces.Refuses v = IsPaid v
  ReplacesKnow index value owner replaces.LoadsCell v =
      IsPaid v × ReplaceOwns v.terms.by v.party index owner v.events
  ReplacesKnow index value owner replaces.LoadsCount v =
      ReplaceKnows c index owner value v
  ReplacesKnow index value owner (replaces.Hides count) v =
      ReplaceKnows c index owner value v × Covers owner index count v
  ReplacesKnow index value owner (replaces.Stores at) v =
      ReplaceKnows c index owner value v × Writes owner index value at v
  ReplacesKnow index value owner replaces.AddsCount v =
      ReplaceKnows c index owner value v × Writes owner index value code.size v
  ReplacesKnow index value owner replaces.AddsChange v =
      ReplaceKnows c index owner value v × HasPlaced index value v × Stood owner index v

  -- ---- a remove

  -- what a remove knows of the state that it will answer: the set is locked; or it was not, and in mode
  -- LockIfLastIndex an index was filled after the one that is freed, or the counter is at its end
  abbrev pub RemoveSays : ℕ → ℕ → ReleaseMode → ReleaseState → View T → Type 0
  RemoveSays index owner mode states.Locked v = is_locked v.events ≡ true
  RemoveSays index owner LockIfLastIndex states.Unlocked v =
      WasOpen v × (Worn v ⊎ FilledSinceFreed v.party owner index v.events)
  RemoveSays index owner Default states.Unlocked v = Unit {0}

  -- the number at the index is at least the one loaded, where few turns are taken
  abbrev pub HasCome : ℕ → ℕ → View T → Type 0
  HasCome index count v = Keeps v.terms → count ≤ count_in code c (now v) index

  -- a call has freed the index, and what stands there under the loaded number was left there
  pub record HasLeft (index count : ℕ) (v : View T) : Type 0 where
    pub within : index < c
    pub below : HasCome index count v
    pub left : WellFormed (now v) → count_in code c (now v) index ≡ count → left_of index v.events ≡ true

  -- what a remove knows of its index at a stage of the release: before it frees, how far the number has come;
  -- after it, what was left
  abbrev pub ReleaseLeft : ℕ → ℕ → ReleaseStage → View T → Type 0
  ReleaseLeft index count releases.EmptiesCell v =
      (index < c) × HasCome index count v
  ReleaseLeft index count stage v = HasLeft index count v

  -- what a remove knows of the element at its index: before it frees, that the loaded number covers it; after
  -- it, that it stands or is hidden
  abbrev pub ReleaseHides : ℕ → ℕ → ℕ → ReleaseStage → View T → Type 0
  ReleaseHides index owner count releases.EmptiesCell v =
      RemoveCovers code c v.party owner index count (now v)
  ReleaseHides index owner count stage v =
      HasHidden code c v.party owner (StillStands code c index count (now v)) (now v)

  -- what a remove knows: what the release of the set knows, what it has left at the index, and
  -- what its state will say
  abbrev pub RemoveKnows : ℕ → ℕ → ReleaseMode → RemoveStage → View T → Type 0
  RemoveKnows index owner mode removes.Refuses v = IsPaid v
  RemoveKnows index owner mode removes.LoadsCount v =
      set.Knows c (release_at c index owner mode releases.EmptiesCell) (of_set v)
  RemoveKnows index owner mode (removes.Releases count stage) v =
      set.Knows c (release_at c index owner mode stage) (of_set v) × ReleaseLeft index count stage v
      × ReleaseHides index owner count stage v
  RemoveKnows index owner mode (removes.Hides count state) v =
      IsPaid v × RemoveSays index owner mode state v × HasLeft index count v
      × HasHidden code c v.party owner (StillStands code c index count (now v)) (now v)
  RemoveKnows index owner mode (removes.AddsChange state) v =
      IsPaid v × RemoveSays index owner mode state v
      × HasHidden code c v.party owner no_index (now v)

  -- ---- a copy

  -- the call copies the element at the index: `k` words are read under the odd number `count`, and are those
  -- that stand while that number is there
  pub record Copying (index count : ℕ) (copy : List ℕ) (k : ℕ) (v : View T) : Type 0 where
    pub within : index < c
    pub few : k ≤ code.size
    pub room : length copy ≡ 128
    pub odd : count % 2 ≡ 1
    pub below : HasCome index count v
    pub same : WellFormed (now v) → count_in code c (now v) index ≡ count → (j : ℕ) → j < k → get_or copy j 0 ≡ datum_in code c (now v) index j

  -- the latest act of the call is the copy, and it is of what the room holds
  abbrev pub HasCopied : ℕ → buffers.Buffer 128 → View T → Type 0
  HasCopied index room v =
      IsLatest (Copies index (read_in code room)) (acts_of v.party v.events)

  -- a failed check is paid by a change of another party
  abbrev pub CheckPaid : ℕ → ℕ → View T → Type 0
  CheckPaid index count v =
      set.PaidUnless (count_in code c (now v) index ≡ count) (of_set v)

  -- ---- a find

  -- the count of the owner's indices below `bound` is `number`, and each counted index below `k` where a
  -- value stood through the call is copied
  pub record HasFoundBelow (owner bound k number : ℕ) (v : View T) : Type 0 where
    pub count : IsCount v.party (IsFilledWith owner) bound number v.events
    pub copied : (index : ℕ) → index < k → count.chosen index ≡ true → StoodThere v.party index v.events
        → (value : T) × IsOneOf (Copies index value) (acts_of v.party v.events)

  -- what a find knows of the indices that it has passed, with its turns back paid
  abbrev pub Finds : ℕ → ℕ → ℕ → ℕ → View T → Type 0
  Finds owner bound k number v =
      IsPaid v × IsCount v.party (IsFilledWith owner) bound number v.events
      × (WellFormed (now v) → HasFoundBelow owner bound k number v)

  -- in a well-formed run, where a value stood at the index through the call, its number is the one loaded
  abbrev pub Steady : ℕ → ℕ → View T → Type 0
  Steady index count v =
      WellFormed (now v) → StoodThere v.party index v.events → count_in code c (now v) index ≡ count

  -- what a find knows: what it has counted and copied, and how far the copy at its index is
  abbrev pub FindKnows : ℕ → buffers.Buffer 128 → FindStage → View T → Type 0
  FindKnows owner room (finds.LoadsCell index found) v =
      Finds owner index index found v
  FindKnows owner room (finds.LoadsCount index found) v =
      Finds owner (index + 1) index found v × WasFilled owner index v
  FindKnows owner room (finds.LoadsWord index found count at) v =
      Finds owner (index + 1) index found v × Steady index count v
      × Copying index count room.words at v × WasFilled owner index v
  FindKnows owner room (finds.ChecksCount index found count) v =
      Finds owner (index + 1) index found v × Steady index count v
      × Copying index count room.words code.size v × WasFilled owner index v
  FindKnows owner room (finds.Asks index found) v =
      Finds owner (index + 1) (index + 1) found v × HasCopied index room v

  -- ---- a recovery

  -- the recovery has asked about each index below `k` that was its owner's to free throughout, or was shown
  -- that nothing stood there
  abbrev pub AskedBelow : ℕ → ℕ → View T → Type 0
  AskedBelow owner k v =
      (i : ℕ) → i < k → HeldThroughout v.party (StillToFree v.party owner i) v.events
      → IsOneOf (Asks i owner) (set_acts_of v.party v.events) ⊎ WasShown v.party i v.events

  -- in an honest run each index that the recovery was told to free, or was shown, is no more the owner's, but
  -- for those in `Now`
  abbrev pub GoneBut : ℕ → (ℕ → Type 0) → View T → Type 0
  GoneBut owner Now v =
      IsHonestBy v.terms.by v.events
      → (i : ℕ) → IsOneOf (Yes i owner) (set_acts_of v.party v.events) ⊎ WasShown v.party i v.events
      → (filled_of i v.events ≢ Some owner) ⊎ Now i

  -- in an honest run no index that the recovery was told to free, or was shown, is the owner's any more
  abbrev pub Gone : ℕ → View T → Type 0
  Gone owner v = GoneBut owner (λ i. ⊥) v

  -- what a recovery knows of the indices below `k`. `Now` is the index that it is about to free, and `But`
  -- are those that it has freed and has not hidden yet.
  pub record Recovers (owner k : ℕ) (Now But : ℕ → Type 0) (v : View T) : Type 0 where
    pub dead : IsGone owner v
    pub was_open : WasOpen v
    pub asked : AskedBelow owner k v
    pub gone : GoneBut owner Now v
    pub hidden : HasHidden code c v.party owner But (now v)

  -- what a recovery knows of the state that it will answer: the set is locked; or the owner's
  -- indices are recovered, and in mode LockIfLastIndex since each of them another was filled, or
  -- the counter is at its end
  abbrev pub RecoverSays : ℕ → ReleaseMode → ReleaseState → View T → Type 0
  RecoverSays owner mode states.Locked v = is_locked v.events ≡ true
  RecoverSays owner mode states.Unlocked v =
      IsGone owner v × UnlockedAtLast v.party v.events
      × HasRecoveredBy v.terms.by v.party owner v.events
      × FilledSinceEachBy (Worn v) mode v.party owner v.events

  -- what a recovery knows: what it has asked about, freed and hidden below its index, and what it knows of
  -- the element there
  abbrev pub RecoverKnows : ℕ → ReleaseMode → buffers.Buffer 128 → RecoverStage → View T → Type 0
  RecoverKnows owner mode room recovers.LoadsCounter v =
      IsPaid v × IsGone owner v × Gone owner v
  RecoverKnows owner mode room (recovers.LoadsCell index) v =
      IsPaid v × Recovers owner index no_index no_index v
  RecoverKnows owner mode room (recovers.LoadsCount index) v =
      IsPaid v × Recovers owner index no_index no_index v × WasFilled owner index v
  RecoverKnows owner mode room (recovers.LoadsWord index count at) v =
      CheckPaid index count v × Recovers owner index no_index no_index v × WasFilled owner index v
      × Copying index count room.words at v
      × RecoverCovers code c owner index count (now v)
  RecoverKnows owner mode room (recovers.ChecksCount index count) v =
      CheckPaid index count v × Recovers owner index no_index no_index v × WasFilled owner index v
      × Copying index count room.words code.size v
      × RecoverCovers code c owner index count (now v)
  RecoverKnows owner mode room (recovers.Asks index count) v =
      IsPaid v × Recovers owner (index + 1) no_index no_index v
      × (index < c) × HasCome index count v
      × HasCopied index room v
      × RecoverCovers code c owner index count (now v)
  RecoverKnows owner mode room (recovers.EmptiesCell index count) v =
      IsPaid v × Recovers owner (index + 1) (λ i. i ≡ index) no_index v
      × (index < c) × HasCome index count v
      × RecoverCovers code c owner index count (now v)
  RecoverKnows owner mode room (recovers.Hides index count) v =
      IsPaid v × Recovers owner (index + 1) no_index (StillStands code c index count (now v)) v × HasLeft index count v
  RecoverKnows owner mode room (recovers.Raises index raise) v =
      set.Paid (set.raise_holds raise) (of_set v) × Recovers owner (index + 1) no_index no_index v
  RecoverKnows owner mode room (recovers.Locks index lock) v =
      set.Paid (set.lock_holds lock) (of_set v) × Recovers owner (index + 1) no_index no_index v
      × set.Scanned (set.lock_scan c lock) (of_set v)
  RecoverKnows owner mode room recovers.LoadsCounterAgain v =
      IsPaid v × Recovers owner c no_index no_index v
  RecoverKnows owner mode room (recovers.AddsChange state) v =
      IsPaid v × RecoverSays owner mode state v × HasHidden code c v.party owner no_index (now v)

  -- what a recovery knows of its locks: since each index that it has freed another was filled,
  -- or the container is locked, or its counter at its end; but not of the index where it is,
  -- from its stage `Hides` on
  abbrev pub RecoverFills : ℕ → ReleaseMode → RecoverStage → View T → Type 0
  RecoverFills owner mode recovers.LoadsCounter v = Unit {0}
  RecoverFills owner mode (recovers.LoadsCell index) v =
      FilledBut (Worn v) mode v.party owner NoIndex v.events
  RecoverFills owner mode (recovers.LoadsCount index) v =
      FilledBut (Worn v) mode v.party owner NoIndex v.events
  RecoverFills owner mode (recovers.LoadsWord index count at) v =
      FilledBut (Worn v) mode v.party owner NoIndex v.events
  RecoverFills owner mode (recovers.ChecksCount index count) v =
      FilledBut (Worn v) mode v.party owner NoIndex v.events
  RecoverFills owner mode (recovers.Asks index count) v =
      FilledBut (Worn v) mode v.party owner NoIndex v.events
  RecoverFills owner mode (recovers.EmptiesCell index count) v =
      FilledBut (Worn v) mode v.party owner NoIndex v.events
  RecoverFills owner mode (recovers.Hides index count) v =
      FilledBut (Worn v) mode v.party owner (λ i. i ≡ index) v.events
  RecoverFills owner mode (recovers.Raises index raise) v =
      FilledBut (Worn v) mode v.party owner (λ i. i ≡ index) v.events
  RecoverFills owner mode (recovers.Locks index lock) v =
      FilledBut (Worn v) mode v.party owner (λ i. i ≡ index) v.events
      × set.LockSays c (FoundFilled v.party v.events) lock
  RecoverFills owner mode recovers.LoadsCounterAgain v =
      FilledBut (Worn v) mode v.party owner NoIndex v.events
  RecoverFills owner mode (recovers.AddsChange state) v = Unit {0}

  -- ---- a look

  -- the state of the look's party, of which the look has gone over the indices below `k` and copies the
  -- element at `copying`
  pub record Looks (k copying : ℕ) (v : View T) : Type 0 where
    pub state : ContainerState T
    pub found : state_of v.party v.states ≡ Some state
    pub course : Course code c (now v) v.party state k copying

  -- the look copies the element at the index into the state, under the number that the state shows there
  pub record LookCopies (index count k : ℕ) (v : View T) : Type 0 where
    pub looks : Looks index index v
    pub number : number_at looks.state index ≡ count
    pub copying : Copying index count looks.state.shown.copy k v

  -- a look before its first step: the state of its party is at rest, and shows nothing yet that a `get_state`
  -- has not copied itself
  pub record LookRests (v : View T) : Type 0 where
    pub state : ContainerState T
    pub found : state_of v.party v.states ≡ Some state
    pub rests : Rests code c (now v) v.party state
    pub own : ShowsOwn v.party state c v.events

  -- what a look knows: its party's state, how far it has gone over it, and how far the copy at its index is
  abbrev pub LookKnows : LookStage → View T → Type 0
  LookKnows looks.TheVariants.LoadsChange v = IsPaid v × LookRests v
  LookKnows (looks.TheVariants.LoadsCount index) v = IsPaid v × Looks index c v
  LookKnows (looks.TheVariants.LoadsWord index count at) v =
      CheckPaid index count v × LookCopies index count at v
  LookKnows (looks.TheVariants.ChecksCount index count) v =
      CheckPaid index count v × LookCopies index count code.size v

  -- ---- any call

  -- what any call of the container knows at its stage
  abbrev pub Knows : ContainerFlight T → View T → Type 0
  Knows (Add run) v = AddKnows run.given.value run.given.owner run.call.stage v
  Knows (Remove run) v = RemoveKnows run.given.index run.given.owner run.given.mode run.call.stage v
  Knows (Replace run) v = ReplacesKnow run.given.index run.given.value run.given.owner run.call.stage v
  Knows (Find run) v = IsLong run.room × FindKnows run.given run.room run.call.stage v
  Knows (Recover run) v =
      IsLong run.room × RecoverKnows run.given.owner run.given.mode run.room run.call.stage v
      × RecoverFills run.given.owner run.given.mode run.call.stage v
  Knows (Look which call) v = LookKnows call.stage v
  Knows (Count which run) v = set.Knows c (borrowed_at c run.call.count) (of_set v)
  Knows (IsLocked run) v = set.Knows c looking (of_set v)
