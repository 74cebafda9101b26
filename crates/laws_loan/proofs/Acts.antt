-- A turn of a loan channel writes first what its step did, then who acts, then the end, and each act is
-- justified. A send acts as it publishes; where that left one index too many in the submission queue, it
-- acts as the read position goes on. A receive acts as it moves the read position, or as it finds nothing.
use Rattle.laws_loan.proofs.Names.{◌≡◌, ◌≢◌, ℕ, ◌-◌, ◌^◌, ◌<◌, ◌≤◌, ◌==◌, ◌&&◌, if◌then◌else◌, Bool, true, false, inl}
use Rattle.laws_loan.proofs.Names.{Option, Some, List, [], ◌∷◌, ◌++◌, refl, ap, ◌∙◌, nat_tests}
use Rattle.laws_loan.proofs.Names.{nil_from_length, AllByRecursion, Ask, Load, OneWord, ReleaseStage, ReclaimStage}
use Rattle.laws_loan.proofs.Names.{TakeBackStage, submission_word, shifted, move, load, distance, Answer, Event}
use Rattle.laws_loan.proofs.Names.{Published, HandedOut, Freed, Returned, TakenBack, Index, LoanFlight, Effect, Turn}
use Rattle.laws_loan.proofs.Names.{Next, ask_of, want, read_word, AddsOne, promise, read_in, sent_at, beside}
use Rattle.laws_loan.proofs.Names.{release_effect, take_back_effect, give_back_effect, reclaim_effect, effect_of}
use Rattle.laws_loan.proofs.Names.{room_made, effects_of, waiting, ask_in, IsParty, IsEffectOf, IsAct, ActsRight}
use Rattle.laws_loan.proofs.Names.{old_of, KnowsOverflowPush, KnowsBacks}
use Rattle.std.proofs.Common.{arith}
use Rattle.steps.specs.declared.queues.overflow.PopStage.{PopStage}
use Rattle.steps.specs.declared.queues.overflow.PopStage.TheVariants as overflow_pops
use Rattle.steps.specs.declared.queues.overflow.PushStage.{PushStage}
use Rattle.steps.specs.declared.queues.overflow.PushStage.TheVariants as overflow_pushes
use Rattle.steps.specs.declared.queues.ring.PushStage as pushes
use Rattle.steps.specs.Queues.Overflow.{push_asks}
use Rattle.steps.specs.Queues.Ring.{word_at}
use Rattle.model.specs.declared.event.Answer.TheVariants as answers
use Rattle.model.specs.declared.families.loan.LoanStart.TheVariants as calls
use Rattle.model.specs.declared.families.loan.effects.Effect.TheVariants as effects
use Rattle.model.specs.Families.Loan.Steps.{acts, claimed}
use Rattle.laws_loan.proofs.Channel.{Channel, words_in}
use Rattle.laws_loan.proofs.Invariant.{sends_at, counted_for}
use Rattle.laws_loan.proofs.Kept.{waiting_is}
use Rattle.laws_loan.proofs.Parts.{submission_old}
use Rattle.laws_loan.proofs.Positions.{adds_write, adds_read, finds_read}
use Rattle.laws_loan.proofs.Receives.{receive_at}
use Rattle.laws_loan.proofs.Scene.{Underway}
use Rattle.laws_loan.proofs.Sends.{pushes_at}
use Rattle.laws_loan.proofs.QueueEvents.{items}

-- ---- the order

module _ {T : Type 0} where
  -- what a step writes that it did to the channel
  abbrev pub did : ℕ → Effect → Option (Answer T) → List (Event T)
  did p effects.Quiet outcome = []
  did p effects.Claims outcome = claimed p outcome
  did p (effects.Publishes index) outcome = Published p (Index index) ∷ []
  did p (effects.PublishesAndActs index) outcome = Published p (Index index) ∷ []
  did p (effects.TakesOut index oldest) outcome = HandedOut p (Index oldest) ∷ []
  did p effects.FindsNone outcome = []
  did p (effects.Receives oldest push) outcome = HandedOut p (Index oldest) ∷ []
  did p (effects.HandsOut oldest) outcome = HandedOut p (Index oldest) ∷ []
  did p (effects.Returns index) outcome = Returned p index ∷ []
  did p (effects.TakesBack index) outcome = TakenBack p index ∷ []
  did p (effects.Frees index) outcome = Freed p index ∷ []

  -- the acts that a step writes
  abbrev pub acts_of : ℕ → Effect → List (Event T)
  acts_of p effects.Quiet = []
  acts_of p effects.Claims = []
  acts_of p (effects.Publishes index) = []
  acts_of p (effects.PublishesAndActs index) = acts p (calls.Send index) answers.PoppedNone ∷ []
  acts_of p (effects.TakesOut index oldest) = acts p (calls.Send index) (answers.PoppedIndex oldest) ∷ []
  acts_of p effects.FindsNone = acts p calls.Receive answers.PoppedNone ∷ []
  acts_of p (effects.Receives oldest push) = acts p calls.Receive (answers.PoppedIndex oldest) ∷ room_made push
  acts_of p (effects.HandsOut oldest) = []
  acts_of p (effects.Returns index) = []
  acts_of p (effects.TakesBack index) = []
  acts_of p (effects.Frees index) = []

  -- a step writes what it did to the channel, and then the acts
  pub effects_are : (p : ℕ) (effect : Effect) (outcome : Option (Answer T)) → effects_of p effect outcome ≡ did p effect outcome ++ acts_of p effect
  effects_are = grind arith

  -- what a step writes of its acts are effects of the turn
  pub did_effects : (turn : Turn T) (p : ℕ) (effect : Effect) (outcome : Option (Answer T)) → IsParty turn p
      → AllByRecursion (IsEffectOf turn) (did p effect outcome)
  did_effects = grind arith

module _ (T : Type 0) where
  -- the events that a step writes of its acts each tell an act
  pub all_act : (p : ℕ) (effect : Effect) → AllByRecursion IsAct (acts_of {T = T} p effect)
  all_act = grind arith

-- ---- steps in which nobody acts

-- the effect writes no moment of a call
abbrev pub Silent : Effect → Type 0
Silent effects.Quiet = Unit {0}
Silent effects.Claims = Unit {0}
Silent (effects.Publishes index) = Unit {0}
Silent (effects.HandsOut oldest) = Unit {0}
Silent (effects.Returns index) = Unit {0}
Silent (effects.TakesBack index) = Unit {0}
Silent (effects.Frees index) = Unit {0}
Silent effect = ⊥

-- a step of a release has no act
pub frees_silent : (index : ℕ) (stage : ReleaseStage) → Silent (release_effect index stage)
frees_silent = grind arith

-- a step of a take-back has no act
pub take_back_silent : (stage : TakeBackStage) → Silent (take_back_effect stage)
take_back_silent = grind arith

-- a step of a give-back has no act
pub give_back_silent : (index : ℕ) (stage : pushes.PushStage) → Silent (give_back_effect index stage)
give_back_silent = grind arith

-- a step of a reclaim has no act
pub reclaim_silent : (slots queue : ℕ) (words : List ℕ) (stage : ReclaimStage) (old : ℕ) → Silent (reclaim_effect slots queue words stage old)
reclaim_silent = grind arith

-- ---- what an act tells

-- `p` is the party whose step it is, in the machine `m` with a call under way
module _ {T : Type 0} (m : Underway T) (p : ℕ) where
  open m use {slots, queue, trace as t, sound as s}

  -- the channel before the turn
  abbrev pub k : Channel T
  k = s.state

  -- the operation of the party's next step
  abbrev pub asked : Option Ask
  asked = ask_in t.world (Next p)

  -- each of these acts is justified by the turn
  abbrev pub Right : List (Event T) → Type 0
  Right es = AllByRecursion (ActsRight promise t (Next p)) es

  -- how many calls of the sender the set counts
  abbrev busy : ℕ
  busy = counted_for (sends_at t.world.latest)

  -- the write position is far from its end
  reached : k.submission.write < 2 ^ 64 - 2
  reached = let sent = s.holds.sent in omega arith

  -- where an operation adds 1 to a word of the channel, the turn adds 1 to that word of the machine
  by_words : (word : ℕ → ℕ) (ask : Option Ask) → asked ≡ ask → AddsOne (word slots) (words_in k) ask → AddsOne (word t.world.capacity) t.world.words asked
  by_words = grind arith

  -- the store of the next write position adds 1 to it
  writes_on : (write read index : ℕ) → write ≡ k.submission.write
      → asked ≡ ask_of (shifted (submission_word slots) (push_asks queue (overflow_pushes.StoresWrite write read) index))
      → AddsOne (submission_word t.world.capacity) t.world.words asked
  writes_on write read index same asks =
      by_words submission_word (ask_of (shifted (submission_word slots) (push_asks queue (overflow_pushes.StoresWrite write read) index))) asks
      (rw same (adds_write s.holds.parts reached read index))

  -- what the exchange of the read position finds
  abbrev moved : ℕ → ℕ
  moved read = old_of (words_in k) (ask_of (shifted (submission_word slots) (move 1 read)))

  -- the exchange of the read position that finds the position unmoved adds 1 to it
  moves_on : (read : ℕ) → (moved read == read) ≡ true
      → asked ≡ ask_of (shifted (submission_word slots) (move 1 read))
      → AddsOne (read_word t.world.capacity) t.world.words asked
  moves_on read unmoved asks =
      let found = finds_read s.holds.parts reached read in
      let same : read ≡ k.submission.read = grind (arith, nat_tests) in
      by_words read_word (ask_of (shifted (submission_word slots) (move 1 read))) asks
      (rw same (adds_read s.holds.parts reached))

  -- a step that writes no act has nothing to justify
  pub silent_right : (effect : Effect) → Silent effect → Right (acts_of p effect)
  silent_right = grind arith

  -- the send that waits for the read position, if one does
  abbrev pub waits : Option (ℕ × ℕ)
  waits = beside k.book (words_in k) t.world.latest p

  -- each act in the step of this call is justified
  abbrev pub Acting : LoanFlight → Type 0
  Acting flight = asked ≡ ask_of (want flight) → Right (acts_of p (effect_of (words_in k) waits flight (old_of (words_in k) (ask_of (want flight)))))

  -- ---- a send

  -- in a step of a send each act is justified, where its push knows what its stage says of
  -- the submission queue
  pub send_right : (index : ℕ) (stage : PushStage)
      → KnowsOverflowPush queue k.submission index stage → Acting (pushes_at slots queue stage index)
  send_right index overflow_pushes.HandsBack known asks = tt
  send_right index overflow_pushes.LoadsWrite known asks = tt
  send_right index (overflow_pushes.LoadsRead write) known asks = tt
  send_right index (overflow_pushes.StoresCell write read) known asks = tt
  send_right index (overflow_pushes.StoresWrite write read) known asks =
      go (distance write read == queue && (read_in (submission_word slots) (words_in k) == read))
    where
      -- the cases are whether the queue was full
      go : (full : Bool) → Right (acts_of p (if full then effects.Publishes index else effects.PublishesAndActs index))
      go true = tt
      go false = (inl (refl, writes_on write read index known.1 asks), tt)
  send_right index (overflow_pushes.MovesRead read) known asks = go (moved read == read) refl
    where
      -- the cases are whether the read position is still the one that was loaded
      go : (b : Bool) → (moved read == read) ≡ b
          → Right
          (acts_of p (if b then effects.TakesOut index (sent_at (submission_word slots) queue (words_in k) read) else effects.Quiet))
      go true read_same = ((refl, moves_on read read_same asks), tt)
      go false read_moved = tt
  send_right index (overflow_pushes.LoadsCell read) known asks = tt

  -- ---- a receive

  -- the act of the send that waits is justified, where the receiver moves the read position
  made_right : p ≢ 0 → AddsOne (read_word t.world.capacity) t.world.words asked → (push : Option (ℕ × ℕ)) → waits ≡ push → Right (room_made push)
  made_right = grind arith

  -- where the write position is the read position that the receive has loaded, no index waits by the events
  none_waits : (read : ℕ) → read ≤ k.submission.read → k.submission.write ≡ read → waiting t.events ≡ []
  none_waits read low same =
      let write = s.holds.parts.submission.write in
      let none : k.submission.waiting ≡ [] = nil_from_length k.submission.waiting (omega arith) in
      rw (← s.holds.same) (waiting_is k.events (items k.submission.waiting) s.holds.told.book ∙ ap items none)

  -- in a step of a receive each act is justified, where its party is not the sender and its pop knows what
  -- its stage says of the submission queue
  pub receive_right : p ≢ 0 → (since changes backs : ℕ) (stage : PopStage) (room : OneWord)
      → KnowsBacks k.submission since changes backs stage → Acting (receive_at slots queue p stage room)
  receive_right other since changes backs overflow_pops.FindsNone room known asks = tt
  receive_right other since changes backs overflow_pops.LoadsRead room known asks = tt
  receive_right other since changes backs (overflow_pops.LoadsWrite read) room known asks = go (old == read) refl
    where
      -- what the load of the write position finds
      old : ℕ
      old = old_of (words_in k) (ask_of (shifted (submission_word slots) (load 0)))

      -- the load finds the write position of the submission queue
      found : old ≡ k.submission.write
      found = submission_old s.holds.parts (load 0) (omega arith)

      -- the step loads the write position of the submission queue
      at_first : asked ≡ Some (record { word = submission_word t.world.capacity; op = Load })
      at_first = grind (arith, word_at)

      -- the cases are whether nothing waits
      go : (b : Bool) → (old == read) ≡ b → Right (acts_of p (if b then effects.FindsNone else effects.Quiet))
      go = grind (arith, found, at_first, none_waits, nat_tests)
  receive_right other since changes backs (overflow_pops.LoadsCell read) room known asks = tt
  receive_right other since changes backs (overflow_pops.MovesRead read) room known asks = go (moved read == read) refl
    where
      -- the cases are whether the read position is still the one that was loaded
      go : (b : Bool) → (moved read == read) ≡ b
          → Right
          (acts_of p (if b then effects.Receives (sent_at (submission_word slots) queue (words_in k) read) waits else effects.Quiet))
      go = grind (arith, moves_on, made_right)
