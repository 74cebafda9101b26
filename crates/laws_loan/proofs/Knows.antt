-- What a call of a loan channel knows at its stage, and how many steps it has taken at most. A receiver's
-- call whose party has died knows only how often it has turned back, since a reclaim can go on meanwhile.
use Rattle.laws_loan.proofs.Names.{◌≡◌, ◌≢◌, ℕ, ◌+◌, ◌*◌, ◌%◌, ◌<◌, ◌≤◌, ◌==◌, if◌then◌else◌, true, false, List, []}
use Rattle.laws_loan.proofs.Names.{◌∷◌, length, get_or, AllByRecursion, ReleaseStage, Place, ReclaimStage, SendStage}
use Rattle.laws_loan.proofs.Names.{TakeBackStage, submission_word, completion_word, place_at, PoppedNone, PoppedIndex}
use Rattle.laws_loan.proofs.Names.{Event, Published, HandedOut, TakenBack, Acted, Index, Start, LoanStart, LoanFlight}
use Rattle.laws_loan.proofs.Names.{Send, GiveUp, TakeBack, Receive, GiveBack, Reclaim, one_word, has_died, Passing}
use Rattle.laws_loan.proofs.Names.{spot_of, given_back, taken_back, freed, handed_out, moments, Span, Never, Open}
use Rattle.laws_loan.proofs.Names.{Ended, acquire_counts, acquire_number, release_counts, release_wrote}
use Rattle.laws_loan.proofs.Names.{release_number, KnowsOverflowPush, KnowsOverflowPop, KnowsBacks}
use Rattle.laws_loan.proofs.Names.{overflow_push_number, overflow_pop_number, Core, in_one, KnowsPush, KnowsPop}
use Rattle.laws_loan.proofs.Names.{push_number, pop_number}
use Rattle.steps.specs.declared.indices.unique.ReleaseStage.TheVariants as releases
use Rattle.steps.specs.declared.loan.places.Place.TheVariants as places
use Rattle.steps.specs.declared.loan.reclaim.ReclaimStage.TheVariants as reclaims
use Rattle.steps.specs.declared.loan.send.SendStage.TheVariants as sends
use Rattle.steps.specs.declared.loan.take_back.TakeBackStage.TheVariants as take_backs
use Rattle.steps.specs.declared.queues.overflow.PushStage.{PushStage}
use Rattle.steps.specs.declared.queues.overflow.PushStage.TheVariants as overflow_pushes
use Rattle.steps.specs.declared.queues.overflow.PopStage.{PopStage}
use Rattle.steps.specs.declared.queues.overflow.PopStage.TheVariants as overflow_pops
use Rattle.steps.specs.declared.queues.ring.PopStage as pops
use Rattle.steps.specs.Queues.Ring.{cell_word}
use Rattle.model.specs.declared.event.Start.TheVariants as starts
use Rattle.model.specs.declared.families.loan.LoanStart.TheVariants as calls
use Rattle.model.specs.declared.families.loan.calls.LoanFlight.TheVariants.{Loan}
use Rattle.model.specs.Families.Loan.Reading.{claimed}
use Rattle.model.specs.Families.Queues.Reading.{published}
use Rattle.laws_loan.proofs.Channel.{Channel}
use Rattle.laws_loan.proofs.SetSteps.{TakesAt}

-- ---- what the sender's call counts for in the head of the indices

-- a send counts in the head only while it releases an index
abbrev pub send_counts : SendStage → ℕ
send_counts (sends.Pushes stage) = 0
send_counts (sends.Releases index stage) = release_counts stage

-- a take-back counts in the head only while it releases an index
abbrev pub take_back_counts : TakeBackStage → ℕ
take_back_counts (take_backs.Pops stage found) = 0
take_back_counts (take_backs.Releases index stage) = release_counts stage

-- a reclaim counts in the head only while it releases an index
abbrev pub reclaim_counts : ReclaimStage → ℕ
reclaim_counts (reclaims.Drains stage) = 0
reclaim_counts (reclaims.Empties stage) = 0
reclaim_counts (reclaims.Releases number index stage) = release_counts stage

-- how much a call counts for in the head of the indices at its stage: 1 while it takes an
-- index or gives one back
abbrev pub counts : LoanFlight → ℕ
counts (Loan run) = acquire_counts run.call.stage
counts (Send run) = send_counts run.call.stage
counts (GiveUp run) = release_counts run.call.stage
counts (TakeBack run) = take_back_counts run.call.stage
counts (Receive p run) = 0
counts (GiveBack p run) = 0
counts (Reclaim call) = reclaim_counts call.stage

-- ---- how many steps a call has taken at most, where it has written `wrote` and has turned back `backs`
-- times

-- how many steps a send has taken at most, by its stage
abbrev pub send_number : SendStage → ℕ
send_number (sends.Pushes stage) = overflow_push_number stage
send_number (sends.Releases index stage) = 6 + release_number stage 0

-- how many steps a take-back has taken at most, by its stage
abbrev pub take_back_number : TakeBackStage → ℕ
take_back_number (take_backs.Pops stage found) = pop_number 1 stage
take_back_number (take_backs.Releases index stage) = 4 + release_number stage 0

module _ {T : Type 0} where
  -- how many steps a reclaim has taken at most at its stage: a fixed number for each index that it has handed
  -- out, taken back or freed
  abbrev pub reclaim_number : ℕ → List (Event T) → ReclaimStage → ℕ
  reclaim_number slots wrote (reclaims.Drains stage) =
      4 * length (handed_out wrote) + overflow_pop_number stage
  reclaim_number slots wrote (reclaims.Empties stage) =
      4 * (slots + 1) + 4 * length (taken_back wrote) + pop_number 1 stage
  reclaim_number slots wrote (reclaims.Releases number index stage) =
      8 * (slots + 1) + 5 * number + release_number stage 0

  -- how many steps a call has taken at most at its stage
  abbrev pub number_of : ℕ → List (Event T) → LoanFlight → ℕ → ℕ
  number_of slots wrote (Loan run) backs = acquire_number slots run.call.stage 0
  number_of slots wrote (Send run) backs = send_number run.call.stage
  number_of slots wrote (GiveUp run) backs = release_number run.call.stage 0
  number_of slots wrote (TakeBack run) backs = take_back_number run.call.stage
  number_of slots wrote (Receive p run) backs =
      2 * backs + overflow_pop_number run.call.call.stage
  number_of slots wrote (GiveBack p run) backs = push_number 1 run.call.call.stage
  number_of slots wrote (Reclaim call) backs = reclaim_number slots wrote call.stage

  -- ---- what they have written

  -- what the call of a span has written, under way or ended
  abbrev pub wrote_in : Span T → List (Event T)
  wrote_in Never = []
  wrote_in (Open start wrote) = wrote
  wrote_in (Ended start answer wrote) = wrote

  abbrev pub send_of : ℕ → Start T
  send_of index = starts.Loan (calls.Send index)

  -- What a push of the index `index` has written at each stage. A push that has published over a full queue
  -- has acted as soon as the read position has moved.
  abbrev pub push_wrote : ℕ → Core ℕ → ℕ → PushStage → List (Event T)
  push_wrote queue k index overflow_pushes.HandsBack = []
  push_wrote queue k index overflow_pushes.LoadsWrite = []
  push_wrote queue k index (overflow_pushes.LoadsRead write) = []
  push_wrote queue k index (overflow_pushes.StoresCell write read) = []
  push_wrote queue k index (overflow_pushes.StoresWrite write read) = []
  push_wrote queue k index (overflow_pushes.MovesRead read) =
      Published 0 (Index index)
      ∷ (if read == k.read then [] else Acted 0 (send_of index) PoppedNone ∷ [])
  push_wrote queue k index (overflow_pushes.LoadsCell read) =
      Published 0 (Index index)
      ∷ HandedOut 0 (Index (get_or k.cells (read % (queue + 1)) 0))
      ∷ Acted 0 (send_of index) (PoppedIndex (get_or k.cells (read % (queue + 1)) 0))
      ∷ []

  -- what a send has written at each stage
  abbrev pub send_wrote : ℕ → Core ℕ → ℕ → SendStage → List (Event T)
  send_wrote queue k index (sends.Pushes stage) = push_wrote queue k index stage
  send_wrote queue k index (sends.Releases oldest stage) =
      Published 0 (Index index)
      ∷ HandedOut 0 (Index oldest)
      ∷ Acted 0 (send_of index) (PoppedIndex oldest)
      ∷ release_wrote 0 oldest stage

  -- what a take-back has written at each stage
  abbrev pub take_back_wrote : TakeBackStage → List (Event T)
  take_back_wrote (take_backs.Pops stage found) = []
  take_back_wrote (take_backs.Releases index stage) =
      TakenBack 0 index ∷ release_wrote 0 index stage

-- ---- where a reclaim stands; no other party moves a position meanwhile

-- where the pop of the submission queue stands
abbrev pub DrainsAt : Core ℕ → PopStage → Type 0
DrainsAt k overflow_pops.FindsNone = ⊥
DrainsAt k overflow_pops.LoadsRead = Unit {0}
DrainsAt k (overflow_pops.LoadsWrite read) = read ≡ k.read
DrainsAt k (overflow_pops.LoadsCell read) = (read ≡ k.read) × (k.read < k.write)
DrainsAt k (overflow_pops.MovesRead read) = (read ≡ k.read) × (k.read < k.write)

-- where the pop of the completion queue stands
abbrev pub EmptiesAt : ℕ → Core ℕ → pops.PopStage → Type 0
EmptiesAt slots k pops.TheVariants.LoadsRead = Unit {0}
EmptiesAt slots k (pops.TheVariants.LoadsWrite read) = read ≡ k.read
EmptiesAt slots k (pops.TheVariants.LoadsCell read cell at) =
    (read ≡ k.read) × (k.read < k.write) × (cell ≡ cell_word slots 1 k.read) × (at ≡ 0)
EmptiesAt slots k (pops.TheVariants.StoresRead read) = (read ≡ k.read) × (k.read < k.write)

-- the index that is released was sent until its flag is cleared
abbrev pub FreesAt : List Place → ℕ → ReleaseStage → Type 0
FreesAt table index releases.ClearsFlag = place_at table index ≡ places.Sent
FreesAt table index releases.LoadsHead = Unit {0}
FreesAt table index (releases.StoresNext head) = Unit {0}
FreesAt table index (releases.ExchangesHead head) = Unit {0}
FreesAt table index releases.Subtracts = Unit {0}

-- Where a reclaim stands, with these two queues and this table. While it pops a queue, the indices that it
-- has taken out of that queue and those that still wait are together no more than the slots. While it
-- releases an index, no index before that one is sent by the table.
abbrev pub StageAt : {T : Type 0} → ℕ → Core ℕ → Core ℕ → List Place → List (Event T) → ReclaimStage → Type 0
StageAt slots k m table wrote (reclaims.Drains stage) =
    DrainsAt k stage × (length (handed_out wrote) + length k.waiting ≤ slots) × (taken_back wrote ≡ []) × (freed wrote ≡ [])
StageAt slots k m table wrote (reclaims.Empties stage) =
    EmptiesAt slots m stage × (length (taken_back wrote) + length m.waiting ≤ slots) × (freed wrote ≡ []) × (k.waiting ≡ [])
StageAt slots k m table wrote (reclaims.Releases number index stage) =
    FreesAt table index stage × (index < slots) × (number ≤ index)
    × (length (freed wrote) ≡ number + release_counts stage)
    × AllByRecursion (λ i. i < index + release_counts stage) (freed wrote)
    × ((j : ℕ) → j < index + release_counts stage → place_at table j ≢ places.Sent)
    × (k.waiting ≡ []) × (m.waiting ≡ [])

-- ---- where a call under way stands

module _ {T : Type 0} (slots queue : ℕ) (s : Channel T) where
  -- the index is in passing in the call of this party
  abbrev pub Passes : ℕ → ℕ → Type 0
  Passes p index = (index < slots) × (spot_of index s.events ≡ Passing p)

  -- where a release of an index that is in passing stands; the index is in passing until the flag is cleared
  abbrev pub GivesAt : ℕ → ReleaseStage → Type 0
  GivesAt index releases.ClearsFlag = Passes 0 index
  GivesAt index releases.LoadsHead = index < slots
  GivesAt index (releases.StoresNext head) = index < slots
  GivesAt index (releases.ExchangesHead head) = index < slots
  GivesAt index releases.Subtracts = index < slots

  -- where a push of the submission queue stands: its index is in passing until it is published, and the
  -- index that it takes out is in passing from then on
  abbrev pub PushAt : ℕ → PushStage → Type 0
  PushAt index overflow_pushes.HandsBack = ⊥
  PushAt index overflow_pushes.LoadsWrite = Passes 0 index
  PushAt index (overflow_pushes.LoadsRead write) = Passes 0 index
  PushAt index (overflow_pushes.StoresCell write read) = Passes 0 index
  PushAt index (overflow_pushes.StoresWrite write read) = Passes 0 index
  PushAt index (overflow_pushes.MovesRead read) = Unit {0}
  PushAt index (overflow_pushes.LoadsCell read) =
      Passes 0 (get_or s.submission.cells (read % (queue + 1)) 0)

  -- where a send stands
  abbrev pub SendAt : ℕ → SendStage → Type 0
  SendAt index (sends.Pushes stage) =
      KnowsOverflowPush queue s.submission index stage × PushAt index stage
  SendAt index (sends.Releases oldest stage) = GivesAt oldest stage

  -- where a take-back stands
  abbrev pub TakeBackAt : TakeBackStage → Type 0
  TakeBackAt (take_backs.Pops stage found) =
      KnowsPop one_word slots s.completion (in_one found) stage
  TakeBackAt (take_backs.Releases index stage) = GivesAt index stage

  -- What a reclaim at this stage knows that has written `wrote`: the receiver is dead, and the sender's
  -- table says `Sent` of each index that is in passing.
  pub record ReclaimAt (wrote : List (Event T)) (stage : ReclaimStage) : Type 0 where
    pub dead : has_died s.book.receiver s.book.dead ≡ true
    pub sent : (index : ℕ) → spot_of index s.events ≡ Passing 0 → place_at s.book.places index ≡ places.Sent
    -- it has claimed, published, given back and acted nothing
    pub claims : claimed wrote ≡ []
    pub publishes : published wrote ≡ []
    pub gives : given_back wrote ≡ []
    pub acts : moments wrote ≡ []
    pub stage_at : StageAt slots s.submission s.completion s.book.places wrote stage

  -- ---- any call, which has written `wrote`

  -- what is known of a receiver's call only while its party is alive
  abbrev pub WhileAlive : ℕ → Type 0 → Type 0
  WhileAlive p Fact = has_died p s.book.dead ≡ false → Fact

  -- where a call stands: its party, its channel, what it has written, and what its stage says
  abbrev pub At : ℕ → List (Event T) → LoanStart → LoanFlight → Type 0
  At p wrote calls.Loan (Loan run) =
      (p ≡ 0) × (run.call.capacity ≡ slots) × (wrote ≡ []) × TakesAt slots s.set run.call.stage
  At p wrote (calls.Send index) (Send run) =
      (p ≡ 0) × (run.call.slots ≡ slots) × (run.call.queue ≡ queue) × (run.given ≡ index)
      × (wrote ≡ send_wrote queue s.submission index run.call.stage)
      × SendAt index run.call.stage
  At p wrote (calls.GiveUp index) (GiveUp run) =
      (p ≡ 0) × (run.call.capacity ≡ slots) × (run.given ≡ index)
      × (wrote ≡ release_wrote 0 index run.call.stage) × GivesAt index run.call.stage
  At p wrote calls.TakeBack (TakeBack run) =
      (p ≡ 0) × (run.call.slots ≡ slots) × (run.call.queue ≡ queue)
      × (wrote ≡ take_back_wrote run.call.stage) × TakeBackAt run.call.stage
  At p wrote calls.Receive (Receive by run) =
      (p ≢ 0) × (by ≡ p) × (run.call.base ≡ submission_word slots)
      × (run.call.call.capacity ≡ queue) × (wrote ≡ [])
      × WhileAlive p ((p ≡ s.book.receiver) × KnowsOverflowPop queue s.submission run.room run.call.call.stage)
  At p wrote (calls.GiveBack index) (GiveBack by run) =
      (p ≢ 0) × (by ≡ p) × (run.call.base ≡ completion_word slots queue)
      × (run.call.call.capacity ≡ slots) × (run.given ≡ index) × (wrote ≡ [])
      × (push_number 1 run.call.call.stage ≤ 3)
      × WhileAlive p
      ((p ≡ s.book.receiver) × Passes p index
      × KnowsPush one_word slots s.completion index run.call.call.stage)
  At p wrote calls.Reclaim (Reclaim call) =
      (p ≡ 0) × (call.slots ≡ slots) × (call.queue ≡ queue) × ReclaimAt wrote call.stage
  At p wrote start flight = ⊥

  -- ---- what a call knows of the counts: only a receive turns back, where a send has moved the read
  -- position

  -- a receive has turned back at most as often as the read position has moved, and other calls
  -- have not turned back
  abbrev pub FlightKnows : ℕ → ℕ → ℕ → LoanFlight → Type 0
  FlightKnows since changes backs (Loan run) = backs ≡ 0
  FlightKnows since changes backs (Send run) = backs ≡ 0
  FlightKnows since changes backs (GiveUp run) = backs ≡ 0
  FlightKnows since changes backs (TakeBack run) = backs ≡ 0
  FlightKnows since changes backs (Receive by run) =
      KnowsBacks s.submission since changes backs run.call.call.stage
  FlightKnows since changes backs (GiveBack by run) = backs ≡ 0
  FlightKnows since changes backs (Reclaim call) = backs ≡ 0
