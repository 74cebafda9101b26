-- What a call of the robust index set knows at its stage: of the counts, of moments of the call, of its
-- right to an index, and of what it has recovered. It still knows this after any turn of another party.
use Rattle.laws_robust.proofs.Names.{if◌then◌else◌, ◌==◌, ◌≡◌, ◌≢◌, ℕ, ◌+◌, ◌<◌, ◌≤◌, ◌⊎◌, ⊎_elim, inl, inr, true}
use Rattle.laws_robust.proofs.Names.{false, Option, Some, None, List, ◌++◌, sym, subst, ◌∙◌, arith, AcquireStage}
use Rattle.laws_robust.proofs.Names.{FindStage, Count, Lock, Raise, RecoverStage, ReleaseStage, greatest, Event}
use Rattle.laws_robust.proofs.Names.{RobustFlight, NoneTakes, IsFilled, IsFilledWith, IsUnlocked, IsCount}
use Rattle.laws_robust.proofs.Names.{HeldThroughout, FilledSinceFreed, StillToFree, IsWellFormed, Asks, Yes}
use Rattle.laws_robust.proofs.Names.{filled_of, holder_of, settled_of, is_dead, set_acts_of, IsOneOf, BeginsNone}
use Rattle.laws_robust.proofs.Names.{HeldSometime, SinceBegin, held_later}
use Rattle.steps.specs.declared.indices.robust.acquire.AcquireStage.TheVariants as acquires
use Rattle.steps.specs.declared.indices.robust.find.FindStage.TheVariants as finds
use Rattle.steps.specs.declared.indices.robust.parts.Count.TheVariants as counts
use Rattle.steps.specs.declared.indices.robust.parts.Lock.TheVariants as locks
use Rattle.steps.specs.declared.indices.robust.parts.Raise.TheVariants as raises
use Rattle.steps.specs.declared.indices.robust.recover.RecoverStage.TheVariants as recovers
use Rattle.steps.specs.declared.indices.robust.release.ReleaseStage.TheVariants as releases
use Rattle.model.specs.declared.families.indices.robust.calls.RobustFlight.TheVariants.{Acquire, Release, Find}
use Rattle.model.specs.declared.families.indices.robust.calls.RobustFlight.TheVariants.{Recover, BorrowedIndices}
use Rattle.model.specs.declared.families.indices.robust.calls.RobustFlight.TheVariants.{IsLocked}
use Rattle.laws_robust.proofs.Core.{counter_of}
use Rattle.laws_robust.specs.Gone.{GoneBy, is_gone, IsHonestBy, IsCalm}
use Rattle.lemmas_owners.proofs.Counting.{count_later}
use Rattle.laws_robust.proofs.Gone.{gone_more, gone_less, honest_less, calm_less, stays_lost}
use Rattle.lemmas_owners.proofs.Past.{through_less, since_less}
use Rattle.laws_robust.proofs.Rights.{IsBy}

-- ---- what a call sees of the machine

-- the set as a party sees it
pub record View (T : Type 0) : Type 0 where
  pub by : GoneBy
  pub words : List ℕ
  pub events : List (Event T)
  pub party : ℕ
  pub since : ℕ  -- how often words had changed when the call began
  pub changes : ℕ  -- how often words have changed
  pub backs : ℕ  -- how often the call has turned back

-- ---- the counter that a call holds: the number that it found and will compare with

abbrev pub raise_holds : Raise → Option ℕ
raise_holds raises.LoadsCounter = None
raise_holds (raises.ExchangesCounter counter) = Some counter

-- a count goes on where the counter is at its end, but then holds none
abbrev pub unless_last : ℕ → Option ℕ
unless_last counter = if counter == greatest then None else Some counter

abbrev pub count_holds : Count → Option ℕ
count_holds counts.LoadsCounter = None
count_holds (counts.LoadsCell counter index filled) = unless_last counter
count_holds (counts.ExchangesCounter counter filled) = Some counter

abbrev pub lock_holds : Lock → Option ℕ
lock_holds (locks.Counts count) = count_holds count
lock_holds (locks.ExchangesCounter counter) = Some counter

-- the counter that an acquire holds
abbrev pub acquire_holds : AcquireStage → Option ℕ
acquire_holds acquires.LoadsCounter = None
acquire_holds (acquires.FillsCell counter index) = Some counter
acquire_holds (acquires.ChecksCounter counter) = Some counter
acquire_holds (acquires.Raises index raise) = raise_holds raise

abbrev pub release_holds : ReleaseStage → Option ℕ
release_holds releases.EmptiesCell = None
release_holds (releases.Raises raise) = raise_holds raise
release_holds (releases.Locks lock) = lock_holds lock

-- the counter that a recovery holds
abbrev pub recover_holds : RecoverStage → Option ℕ
recover_holds recovers.LoadsCounter = None
recover_holds (recovers.LoadsCell index) = None
recover_holds (recovers.Asks index owner) = None
recover_holds (recovers.EmptiesCell index owner) = None
recover_holds (recovers.Raises index raise) = raise_holds raise
recover_holds (recovers.Locks index lock) = lock_holds lock
recover_holds recovers.LoadsCounterAgain = None

-- the counter that any call holds
abbrev pub flight_holds : RobustFlight → Option ℕ
flight_holds (Acquire run) = acquire_holds run.call.stage
flight_holds (Release run) = release_holds run.call.stage
flight_holds (Find run) = None
flight_holds (Recover run) = recover_holds run.call.stage
flight_holds (BorrowedIndices run) = count_holds run.call.count
flight_holds (IsLocked run) = None

-- ---- the cells that a call has found empty since it loaded the counter

-- at the counter `counter`, a call has come to the cells below `below`, and has found `filled` of them filled
pub record Scan : Type 0 where
  pub counter : ℕ
  pub below : ℕ
  pub filled : ℕ

-- what a count has found of the cells since it loaded its counter
abbrev pub count_scan : ℕ → Count → Option Scan
count_scan c counts.LoadsCounter = None
count_scan c (counts.LoadsCell counter index filled) =
    Some record { counter = counter; below = index; filled = filled }
count_scan c (counts.ExchangesCounter counter filled) =
    Some record { counter = counter; below = c; filled = filled }

abbrev pub lock_scan : ℕ → Lock → Option Scan
lock_scan c (locks.Counts count) = count_scan c count
lock_scan c (locks.ExchangesCounter counter) =
    Some record { counter = counter; below = c; filled = 0 }

abbrev pub release_scan : ℕ → ReleaseStage → Option Scan
release_scan c releases.EmptiesCell = None
release_scan c (releases.Raises raise) = None
release_scan c (releases.Locks lock) = lock_scan c lock

-- what the lock of a recovery has found of the cells
abbrev pub recover_scan : ℕ → RecoverStage → Option Scan
recover_scan c recovers.LoadsCounter = None
recover_scan c (recovers.LoadsCell index) = None
recover_scan c (recovers.Asks index owner) = None
recover_scan c (recovers.EmptiesCell index owner) = None
recover_scan c (recovers.Raises index raise) = None
recover_scan c (recovers.Locks index lock) = lock_scan c lock
recover_scan c recovers.LoadsCounterAgain = None

-- what any call has found of the cells
abbrev pub flight_scan : ℕ → RobustFlight → Option Scan
flight_scan c (Acquire run) = None
flight_scan c (Release run) = release_scan c run.call.stage
flight_scan c (Find run) = None
flight_scan c (Recover run) = recover_scan c run.call.stage
flight_scan c (BorrowedIndices run) = count_scan c run.call.count
flight_scan c (IsLocked run) = None

-- ---- what does not depend on events

-- a count at a cell says `Says` of the cells that it has come to and of the number that it found filled
abbrev pub CountSays : ℕ → (ℕ → ℕ → Type 0) → Count → Type 0
CountSays c Says counts.LoadsCounter = Unit {0}
CountSays c Says (counts.LoadsCell counter index filled) = Says index filled
CountSays c Says (counts.ExchangesCounter counter filled) = Says c filled

-- a lock says what its count says
abbrev pub LockSays : ℕ → (ℕ → ℕ → Type 0) → Lock → Type 0
LockSays c Says (locks.Counts count) = CountSays c Says count
LockSays c Says (locks.ExchangesCounter counter) = Unit {0}

-- what a count says follows from a stronger count
count_says : (c : ℕ) (P Q : ℕ → ℕ → Type 0) → ((k n : ℕ) → P k n → Q k n) → (count : Count) → CountSays c P count → CountSays c Q count
count_says c h k follows count said = grind arith

-- what a lock says of its count follows from a stronger count
lock_says : (c : ℕ) (P Q : ℕ → ℕ → Type 0) → ((k n : ℕ) → P k n → Q k n) → (lock : Lock) → LockSays c P lock → LockSays c Q lock
lock_says = grind (arith, count_says)

-- the index that a recovery frees now
abbrev pub FreesNow : RecoverStage → ℕ → ℕ → Type 0
FreesNow (recovers.EmptiesCell index owner) i o = (i ≡ index) × (o ≡ owner)
FreesNow stage i o = ⊥

-- the words stay, or their changes go up
abbrev pub IsSeen : List ℕ → List ℕ → ℕ → ℕ → Type 0
IsSeen words words' changes changes' =
    ((words' ≡ words) × (changes' ≡ changes)) ⊎ (changes' ≡ changes + 1)

module _ {T : Type 0} where
  -- ---- what a call knows of the counts

  -- each turn back of the call is paid by a change of a word since the call began
  abbrev pub IsPaid : View T → Type 0
  IsPaid v = v.backs + v.since ≤ v.changes

  -- the turns back are paid, and unless `P` holds one more is paid too
  abbrev pub PaidUnless : Type 0 → View T → Type 0
  PaidUnless P v = (P × IsPaid v) ⊎ (v.backs + v.since + 1 ≤ v.changes)

  -- a number that the counter had at a moment of the call, and that is before the counter's end
  pub record Holding (number : ℕ) (v : View T) : Type 0 where
    pub before_end : number < greatest
    pub low : number ≤ counter_of v.words
    pub paid : PaidUnless (counter_of v.words ≡ number) v

  -- the turns back of the call are paid; where it holds a counter, one more is paid once the
  -- counter has moved on
  abbrev pub Paid : Option ℕ → View T → Type 0
  Paid None v = IsPaid v
  Paid (Some number) v = Holding number v

  -- ---- what a call knows of who holds an index, in a well-formed and honest run

  -- the counter is not below the scan's; and while it is still the scan's, before its end, and no cell was
  -- found filled, nobody holds these indices
  abbrev pub Scanned : Option Scan → View T → Type 0
  Scanned None v = Unit {0}
  Scanned (Some s) v =
      (s.counter ≤ counter_of v.words)
      × (s.counter ≡ greatest → counter_of v.words ≡ greatest)
      × (s.counter < greatest → s.filled ≡ 0 → counter_of v.words ≡ s.counter → IsCalm v.by v.events
      → (i : ℕ) → i < s.below → holder_of i v.events ≡ None)

  -- the party has a right to the index that it fills, which nobody holds
  abbrev pub AcquireOwns : ℕ → AcquireStage → View T → Type 0
  AcquireOwns owner (acquires.Raises index raise) v =
      IsCalm v.by v.events → is_gone v.by owner v.events ≡ false
      → IsBy v.party index owner v.events × (holder_of index v.events ≡ None)
  AcquireOwns owner stage v = Unit {0}

  -- a release has a right to the index that it may give back
  abbrev pub ReleaseOwns : ℕ → ℕ → ReleaseStage → View T → Type 0
  ReleaseOwns index owner releases.EmptiesCell v =
      IsCalm v.by v.events → is_gone v.by owner v.events ≡ false
      → SinceBegin v.party (λ part since. settled_of index part ≡ Some owner) v.events
      → IsBy v.party index owner v.events
  ReleaseOwns index owner stage v = Unit {0}

  -- any call: what it knows of its right to an index
  abbrev pub Owns : RobustFlight → View T → Type 0
  Owns (Acquire run) v = AcquireOwns run.given run.call.stage v
  Owns (Release run) v = ReleaseOwns run.given.index run.given.owner run.call.stage v
  Owns flight v = Unit {0}

  -- ---- what a call knows of moments

  -- the set was open at a moment of the call
  abbrev pub WasOpen : View T → Type 0
  WasOpen v = HeldSometime v.party IsUnlocked v.events

  -- each index below `k` was filled at a moment of the call
  abbrev pub AllOnce : ℕ → View T → Type 0
  AllOnce k v = (i : ℕ) → i < k → HeldSometime v.party (IsFilled i) v.events

  -- an acquire knows that the set was open, and each index below its own filled, at moments of the call
  abbrev pub AcquireSays : ℕ → AcquireStage → View T → Type 0
  AcquireSays c acquires.LoadsCounter v = Unit {0}
  AcquireSays c (acquires.FillsCell counter index) v = WasOpen v × AllOnce index v
  AcquireSays c (acquires.ChecksCounter counter) v = AllOnce c v
  AcquireSays c (acquires.Raises index raise) v = Unit {0}

  -- if the lock of a release has found an index filled, some index was filled after the release freed its own
  abbrev pub FoundOne : ℕ → ℕ → View T → ℕ → ℕ → Type 0
  FoundOne owner index v k filled = 0 < filled → FilledSinceFreed v.party owner index v.events

  -- what a release in its lock knows of indices that are filled
  abbrev pub ReleaseSays : ℕ → ℕ → ℕ → ReleaseStage → View T → Type 0
  ReleaseSays c index owner (releases.Locks lock) v =
      LockSays c (FoundOne owner index v) lock
  ReleaseSays c index owner stage v = Unit {0}

  -- a count of borrowed indices has counted those below `k`: each that it counts was filled at
  -- a moment of the call
  abbrev pub Borrowed : View T → ℕ → ℕ → Type 0
  Borrowed v k filled = IsCount v.party IsFilled k filled v.events

  -- a find has counted the indices below its own that have its owner
  abbrev pub FindSays : ℕ → FindStage → View T → Type 0
  FindSays owner (finds.LoadsCell index found) v =
      IsCount v.party (IsFilledWith owner) index found v.events
  FindSays owner (finds.Asks index found) v =
      IsCount v.party (IsFilledWith owner) (index + 1) found v.events

  -- the recovery has asked about each index below `k` that was to be freed throughout the call
  abbrev pub AskedBelow : ℕ → View T → Type 0
  AskedBelow k v =
      (i owner : ℕ) → i < k → HeldThroughout v.party (StillToFree v.party owner i) v.events
      → IsOneOf (Asks i owner) (set_acts_of v.party v.events)

  -- a recovery knows that the set was open at a moment of the call, and has asked about the
  -- indices below its own
  abbrev pub RecoverSays : ℕ → RecoverStage → View T → Type 0
  RecoverSays c recovers.LoadsCounter v = Unit {0}
  RecoverSays c (recovers.LoadsCell index) v = WasOpen v × AskedBelow index v
  RecoverSays c (recovers.Asks index owner) v = WasOpen v × AskedBelow (index + 1) v
  RecoverSays c (recovers.EmptiesCell index owner) v =
      WasOpen v × AskedBelow (index + 1) v
  RecoverSays c (recovers.Raises index raise) v = WasOpen v × AskedBelow (index + 1) v
  RecoverSays c (recovers.Locks index lock) v = WasOpen v × AskedBelow (index + 1) v
  RecoverSays c recovers.LoadsCounterAgain v = AskedBelow c v

  -- what any call knows of moments
  abbrev pub Says : ℕ → RobustFlight → View T → Type 0
  Says c (Acquire run) v = AcquireSays c run.call.stage v
  Says c (Release run) v = ReleaseSays c run.given.index run.given.owner run.call.stage v
  Says c (Find run) v = FindSays run.given run.call.stage v
  Says c (Recover run) v = RecoverSays c run.call.stage v
  Says c (BorrowedIndices run) v = CountSays c (Borrowed v) run.call.count
  Says c (IsLocked run) v = Unit {0}

  -- ---- what a recovery knows of what it was told to free

  -- each owner of whom the recovery was told to free an index is gone, and no such index has its owner in
  -- an honest run, but the one that the recovery frees now (`Now`)
  abbrev pub GoneBut : (ℕ → ℕ → Type 0) → View T → Type 0
  GoneBut Now v =
      (i owner : ℕ) → IsOneOf (Yes i owner) (set_acts_of v.party v.events)
      → (is_gone v.by owner v.events ≡ true)
      × (IsHonestBy v.by v.events → (filled_of i v.events ≢ Some owner) ⊎ Now i owner)

  -- only a recovery knows of owners that are gone
  abbrev pub Gone : RobustFlight → View T → Type 0
  Gone (Recover run) v = GoneBut (FreesNow run.call.stage) v
  Gone flight v = Unit {0}

  -- ---- all of it

  -- What a call at its stage knows: of the counter that it holds, of the cells, of its right, of moments,
  -- and of what it was told to free.
  pub record Knows (c : ℕ) (flight : RobustFlight) (v : View T) : Type 0 where
    -- that the counter which it holds, and its turn-backs, are paid for
    pub paid : Paid (flight_holds flight) v
    -- that nobody holds the indices which it found empty, while the counter stays
    pub scanned : Scanned (flight_scan c flight) v
    -- to which index it has the right
    pub owns : Owns flight v
    -- what held at a moment of the call
    pub says : Says c flight v
    -- which owners it was told to be gone
    pub gone : Gone flight v

  -- ---- what a turn of another party does

  -- What any turn does that leaves these words and writes these events: the counter does not go down, it
  -- stays at its end, and no index is granted without a move of the counter.
  pub record Goes (words words' : List ℕ) (events es : List (Event T)) : Type 0 where
    pub grows : counter_of words ≤ counter_of words'
    pub stuck : counter_of words ≡ greatest → counter_of words' ≡ greatest
    pub grants : counter_of words' ≡ counter_of words → counter_of words < greatest → (i : ℕ) → holder_of i events ≡ None → holder_of i (events ++ es) ≡ None
    -- nothing is filled again with a dead owner, dead owners stay dead, and a run that is
    -- well-formed was so before
    pub fills : (i owner : ℕ) → is_dead owner events ≡ true → filled_of i (events ++ es) ≡ Some owner → filled_of i events ≡ Some owner
    pub dead : (owner : ℕ) → is_dead owner events ≡ true → is_dead owner (events ++ es) ≡ true
    pub lives : (owner : ℕ) → is_dead owner (events ++ es) ≡ false → is_dead owner events ≡ false
    pub well_formed : IsWellFormed (events ++ es) → IsWellFormed events

  -- What a turn of another party leaves the party `q`: it begins no call and writes no act of `q`.
  pub record Spares (by : GoneBy) (q : ℕ) (events es : List (Event T)) : Type 0 where
    pub none : BeginsNone q es
    pub set_acts : set_acts_of q (events ++ es) ≡ set_acts_of q events
    -- in a well-formed and honest run, `q` keeps its right to an index, whether its owner holds it, and
    -- what may be given back
    pub owned : IsCalm by (events ++ es) → (i owner : ℕ) → is_gone by owner events ≡ false → IsBy q i owner events → IsBy q i owner (events ++ es)
    pub unheld : IsCalm by (events ++ es) → (i owner : ℕ) → is_gone by owner events ≡ false → IsBy q i owner events
        → holder_of i events ≡ None → holder_of i (events ++ es) ≡ None
    pub held : IsCalm by (events ++ es) → (i owner : ℕ) → is_gone by owner events ≡ false → IsBy q i owner events
        → holder_of i events ≡ Some owner → holder_of i (events ++ es) ≡ Some owner
    pub settled : IsCalm by (events ++ es) → (i owner : ℕ) → is_gone by owner events ≡ false
        → settled_of i events ≡ Some owner → NoneTakes i owner es → settled_of i (events ++ es) ≡ Some owner

  -- A turn of another party than the one that sees `v`: the words and the number of changes that it leaves, the events that it writes, and
  -- what it does to the set (`Goes`), spares of it for the party (`Spares`), and shows of the changes (`IsSeen`).
  pub record OthersTurn (v : View T) : Type 0 where
    pub words' : List ℕ
    pub es : List (Event T)
    pub changes' : ℕ
    pub goes : Goes v.words words' v.events es
    pub spares : Spares v.by v.party v.events es
    pub seen : IsSeen v.words words' v.changes changes'

  module _ {v : View T} (turn : OthersTurn v) where
    open v use {by, words, events, party as q, since, changes, backs}
    open turn use {words', es, changes', goes, spares, seen}

    -- what the party sees before the turn
    abbrev before : View T
    before = v

    -- what the party may see after the turn
    abbrev pub later : View T
    later = record { by = by; words = words'; events = events ++ es; party = q; since = since; changes = changes'; backs = backs }

    -- the turns back are still paid
    pub held_paid : (held : Option ℕ) → Paid held before → Paid held later
    held_paid held was_paid = grind arith

    -- what a scan knows of the cells that it found stays known after another party's turn
    pub still_scanned : (s : Option Scan) → Scanned s before → Scanned s later
    still_scanned None had_scanned = tt
    still_scanned (Some s) had_scanned =
        let low = had_scanned.0 in
        let grows = goes.grows in (
          omega arith,
          λ end. goes.stuck (had_scanned.1 end),
          λ less none is calm i below.
              let same : counter_of words' ≡ counter_of words = omega arith in
              goes.grants same (omega arith) i (had_scanned.2 less none (sym same ∙ is) (calm_less by events es calm) i below),
        )

    -- an acquire still has the right to its index
    acquire_owns : (owner : ℕ) (stage : AcquireStage) → AcquireOwns owner stage before → AcquireOwns owner stage later
    acquire_owns = grind (arith, gone_less, calm_less)

    -- a release that may give its index back still may
    release_owns : (index owner : ℕ) (stage : ReleaseStage) → ReleaseOwns index owner stage before → ReleaseOwns index owner stage later
    release_owns index owner releases.EmptiesCell owned =
        λ calm alive settled.
        let lives = gone_less by owner events es alive in
        spares.owned calm index owner lives
        (owned (calm_less by events es calm) lives
        (since_less q (λ part. settled_of index part ≡ Some owner) events es spares.none settled))
    release_owns index owner stage owned = tt

    -- the index that a call owns it owns after further events
    still_owns : (flight : RobustFlight) → Owns flight before → Owns flight later
    still_owns = grind (arith, acquire_owns, release_owns)

    -- that `P` held at a moment of the call stays true after the turn
    once_later : (P : List (Event T) → Type 0) → HeldSometime q P events → HeldSometime q P (events ++ es)
    once_later P was_held = held_later q P events es spares.none was_held

    -- what an acquire knows of moments stays known
    acquire_says : (c : ℕ) (stage : AcquireStage) → AcquireSays c stage before → AcquireSays c stage later
    acquire_says = grind (arith, once_later)

    -- an index that was filled after the free still was
    freed_later : (owner index : ℕ) → FilledSinceFreed q owner index events → FilledSinceFreed q owner index (events ++ es)
    freed_later owner index was_filled = record { other = was_filled.other; once = once_later _ was_filled.once }

    -- what a release knows of moments stays known
    release_says : (c index owner : ℕ) (stage : ReleaseStage) → ReleaseSays c index owner stage before → ReleaseSays c index owner stage later
    release_says c index owner releases.EmptiesCell said = tt
    release_says c index owner (releases.Raises raise) said = tt
    release_says c index owner (releases.Locks lock) said =
        lock_says c (FoundOne owner index before) (FoundOne owner index later) (λ k filled found some. freed_later owner index (found some)) lock said

    -- what a find says of its count it says after further events
    find_says : (owner : ℕ) (stage : FindStage) → FindSays owner stage before → FindSays owner stage later
    find_says = grind (arith, count_later)

    -- the recovery has still asked about the lower indices
    asked_later : (k : ℕ) → AskedBelow k before → AskedBelow k later
    asked_later k asked i owner below through =
        subst (IsOneOf (Asks i owner)) (sym spares.set_acts) (asked i owner below (through_less q (StillToFree q owner i) events es spares.none through))

    -- what a recovery knows of moments stays known
    recover_says : (c : ℕ) (stage : RecoverStage) → RecoverSays c stage before → RecoverSays c stage later
    recover_says c recovers.LoadsCounter said = tt
    recover_says c (recovers.LoadsCell index) said = (once_later IsUnlocked said.0, asked_later index said.1)
    recover_says c (recovers.Asks index owner) said = (once_later IsUnlocked said.0, asked_later (index + 1) said.1)
    recover_says c (recovers.EmptiesCell index owner) said =
        (once_later IsUnlocked said.0, asked_later (index + 1) said.1)
    recover_says c (recovers.Raises index raise) said = (once_later IsUnlocked said.0, asked_later (index + 1) said.1)
    recover_says c (recovers.Locks index lock) said = (once_later IsUnlocked said.0, asked_later (index + 1) said.1)
    recover_says c recovers.LoadsCounterAgain said = asked_later c said

    -- what any call knows of moments stays known
    still_says : (c : ℕ) (flight : RobustFlight) → Says c flight before → Says c flight later
    still_says = grind (arith, acquire_says, release_says, find_says, recover_says, count_says, count_later)

    -- whoever fills an index is not gone, so an index that an owner who is gone has lost stays lost to him
    gone_later : (Now : ℕ → ℕ → Type 0) → GoneBut Now before → GoneBut Now later
    gone_later Now are_gone i owner told =
        let k = are_gone i owner (subst (IsOneOf (Yes i owner)) spares.set_acts told) in (
          gone_more by owner events es k.0,
          λ honest. ⊎_elim (λ gone. inl (λ e. gone (stays_lost by events es goes.fills i owner honest k.0 e)))
              (λ now. inr now) (k.1 (honest_less by events es honest)),
        )

    -- the owners that a recovery knows to be gone are gone after further events
    still_gone : (flight : RobustFlight) → Gone flight before → Gone flight later
    still_gone (Recover run) was_gone = gone_later (FreesNow run.call.stage) was_gone
    still_gone flight was_gone = tt

    -- what a call knows stays known after a turn of another party
    pub knows_later : (c : ℕ) (flight : RobustFlight) → Knows c flight before → Knows c flight later
    knows_later = grind (arith, held_paid, still_scanned, still_owns, still_says, still_gone)
