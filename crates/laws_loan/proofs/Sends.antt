-- The steps of a send before it publishes: the sender pushes its index into the submission queue. Each
-- keeps the invariant: it has the fields of `Steps` (Sender).
use Rattle.laws_loan.proofs.Names.{◌≡◌, ◌≢◌, ℕ, ◌+◌, ◌-◌, ◌^◌, ◌<◌, ◌≤◌, ◌==◌, false, Option, Some, List, [], ◌++◌}
use Rattle.laws_loan.proofs.Names.{length, refl, ap, subst, ◌∙◌, append-nil, nat_tests, Ask, After, GoOn}
use Rattle.laws_loan.proofs.Names.{submission_word, shifted, send_takes, load, went_on, Answer, Event, Start}
use Rattle.laws_loan.proofs.Names.{LoanFlight, Send, Effect, Party, ask_of, spot_of, read_in, push_effect, as_it_is}
use Rattle.laws_loan.proofs.Names.{popped, words_of_index, Open, span_of, as_call, old_of, fill_keeps_pop}
use Rattle.laws_loan.proofs.Names.{KnowsOverflowPush, Core, filled, layout}
use Rattle.std.proofs.Common.{arith}
use Rattle.steps.specs.declared.loan.send.Send as send
use Rattle.steps.specs.declared.loan.send.SendStage.TheVariants as sends
use Rattle.steps.specs.declared.queues.overflow.PushStage.{PushStage}
use Rattle.steps.specs.declared.queues.overflow.PushStage.TheVariants as pushes
use Rattle.steps.specs.Queues.Overflow.{push_asks}
use Rattle.model.specs.declared.event.Start.TheVariants as starts
use Rattle.model.specs.declared.families.Flight.TheVariants as flights
use Rattle.model.specs.declared.families.loan.LoanStart.TheVariants as calls
use Rattle.model.specs.declared.families.loan.effects.Effect.TheVariants as effects
use Rattle.laws_loan.proofs.Channel.{Channel, no_roles, words_in}
use Rattle.laws_loan.proofs.Invariant.{Hangs, sends_at, counted_for, hung, Carries}
use Rattle.laws_loan.proofs.Knows.{Passes, PushAt, push_wrote}
use Rattle.laws_loan.proofs.Parts.{submission_old, submission_words}
use Rattle.laws_loan.proofs.Rests as rests
use Rattle.laws_loan.proofs.Rests.{keeps_all}
use Rattle.laws_loan.proofs.Scene.{Scene, SenderCalls}
use Rattle.laws_loan.proofs.Sender.{party_then, StepBy}
use Rattle.laws_loan.proofs.Submission as submission
use Rattle.laws_loan.proofs.SenderInterference.{others_beside}
use Rattle.laws_loan.proofs.QueueEvents.{silent_tells}
use Rattle.laws_loan.proofs.Turns.{Shows, sends_now}

-- the send at a stage of its push
abbrev pub pushes_at : ℕ → ℕ → PushStage → ℕ → LoanFlight
pushes_at slots queue stage index =
    Send (record { call = record { slots = slots; queue = queue; stage = sends.Pushes stage }; given = index; room = tt })

-- how the send goes on, or ends, where `after` is how its push has gone on or ended
abbrev pub sent_after : (T : Type 0) → ℕ → After send.Send (Option ℕ) → After LoanFlight (Answer T)
sent_after T index after = as_call Send popped (went_on as_it_is index tt after)

-- the sender sends the index
module _ {T : Type 0} (scene : Scene T) (index : ℕ) where
  open scene use {slots, queue, state as s, latest, turns, caller as x}

  abbrev pub start : Start T
  start = starts.Loan (calls.Send index)

  -- the operation that the send asks for at this stage
  abbrev pub asked : PushStage → Option Ask
  asked stage = ask_of (shifted (submission_word slots) (push_asks queue stage index))

  -- the old value of the word that it asks for
  abbrev pub old : PushStage → ℕ
  old stage = old_of (words_in s) (asked stage)

  -- the words of the submission queue
  abbrev pub queued : List ℕ
  queued = layout no_roles s.submission

  -- how the send goes on from this stage, or ends, where the word has the value `value`
  abbrev pub goes : PushStage → ℕ → After LoanFlight (Answer T)
  goes stage value =
      sent_after T index (send_takes (record { slots = slots; queue = queue; stage = sends.Pushes stage })
      (sends.Pushes stage) index value)

  -- what the step at this stage does to the channel
  abbrev pub effect_at : PushStage → ℕ → Effect
  effect_at stage value = push_effect (submission_word slots) queue (words_in s) index stage value

  -- a step at this stage that leaves the channel `s'`, where the send has written `wrote`,
  -- keeps the invariant
  abbrev pub StepTo : Channel T → List (Event T) → PushStage → After LoanFlight (Answer T) → Effect → Type 0
  StepTo s' wrote stage after effect =
      StepBy scene 0 s' (Open start wrote) (calls.Send index) (asked stage) false after effect

  -- the step of the send at this stage keeps the invariant, with some channel
  pub record StageKeeps (stage : PushStage) : Type 0 where
    pub channel_then : Channel T
    pub step : StepTo channel_then (push_wrote queue s.submission index stage) stage (goes stage (old stage)) (effect_at stage (old stage))

  -- the step is the one with this result, as the call computes it: what it wrote, how the send goes on, and its effect
  pub does_by : {s' : Channel T} {stage : PushStage} {wrote : List (Event T)} {after : After LoanFlight (Answer T)} (effect : Effect)
      → StepTo s' wrote stage after effect
      → push_wrote queue s.submission index stage ≡ wrote → goes stage (old stage) ≡ after → effect_at stage (old stage) ≡ effect → StageKeeps stage
  does_by = grind arith

  -- the sender has a send of the index under way, at this stage
  abbrev pub SendIsAt : PushStage → Type 0
  SendIsAt stage = sends_at latest ≡ Some (flights.Loan (pushes_at slots queue stage index))

  module _ (m : SenderCalls scene) where
    open m use {holds, small, straight}

    -- ---- the words of the submission queue

    -- the write position is below its last value
    pub reached : s.submission.write < 2 ^ 64 - 2
    reached = let sent = holds.sent in let few = small in omega arith

    -- the submission queue has five words and one for each index that may wait
    pub long : length queued ≡ 5 + queue
    long = grind (arith, reached)

    -- the read position, as the words of the whole have it
    pub read_is : read_in (submission_word slots) (words_in s) ≡ s.submission.read
    read_is = submission_old holds.parts (load 1) (let wide = long in omega arith)

    -- while it pushes, a send is not counted by the set
    idle : (stage : PushStage) → SendIsAt stage → counted_for (sends_at latest) ≡ 0
    idle stage here = ap counted_for here

    -- a send has no other index in passing than its own, until it takes one out
    pub none_carried : {A : Type 0} (i : ℕ) → index ≢ i → Carries i (Open start []) → A
    none_carried = grind arith

    -- ---- the loads

    module _ (passes : Passes slots queue s 0 index) (from : span_of 0 s.events ≡ Open start []) where
      -- the index stays in passing in the send
      passes_on : Passes slots queue (record s { events = s.events ++ [] }) 0 index
      passes_on = (passes.0, ap (spot_of index) (append-nil s.events) ∙ passes.1)

      -- the load at this stage, with which the words of the indices stay
      abbrev set_step : PushStage → rests.SetStep T
      set_step now = rests.set_step scene holds straight from (asked now) s.set

      -- a load that changes nothing leads the send on from the stage `now` to the stage `after_it`
      abbrev LeadsTo : PushStage → PushStage → Type 0
      LeadsTo now after_it = StepTo (record s { events = s.events ++ [] }) [] now (GoOn (pushes_at slots queue after_it index)) effects.Quiet

      -- the load of the write position leads on to the load of the read position
      pub loads_write : SendIsAt pushes.LoadsWrite → x.steps ≤ 0 → StageKeeps pushes.LoadsWrite
      loads_write here steps =
          let some = holds.parts.some in
          let low = reached in
          let on_queue : 0 < length queued = (let wide = long in omega arith) in
          let not_last : (s.submission.write == 2 ^ 64 - 1) ≡ false = grind (arith, nat_tests) in
          let leads : LeadsTo pushes.LoadsWrite (pushes.LoadsRead s.submission.write) = (
            rests.goes_on (set_step pushes.LoadsWrite) (pushes_at slots queue (pushes.LoadsRead s.submission.write) index)
                (keeps_all holds (submission_words holds.parts (push_asks queue pushes.LoadsWrite index) on_queue refl)
                (idle pushes.LoadsWrite here) (ap (hung s.submission.read) here))
                refl (omega arith) (refl, refl, refl, refl, refl, ((omega arith, refl, omega arith), passes_on)) (omega arith),
            refl,
          ) in
          does_by effects.Quiet leads refl
          (ap (goes pushes.LoadsWrite) (submission_old holds.parts (push_asks queue pushes.LoadsWrite index) on_queue) ∙ (rw not_last refl)) refl

      -- the load of the read position leads on to the store into the cell
      pub loads_read : SendIsAt (pushes.LoadsRead s.submission.write) → x.steps ≤ 1 → StageKeeps (pushes.LoadsRead s.submission.write)
      loads_read here steps =
          let some = holds.parts.some in
          let low = reached in
          let on_queue : 1 < length queued = (let wide = long in omega arith) in
          let few : length s.submission.waiting ≤ queue = subst (Hangs queue s.submission) (ap (hung s.submission.read) here) holds.hangs in
          let write = holds.parts.submission.write in
          let now = pushes.LoadsRead s.submission.write in
          let leads : LeadsTo now (pushes.StoresCell s.submission.write s.submission.read) = (
            rests.goes_on (set_step now) (pushes_at slots queue (pushes.StoresCell s.submission.write s.submission.read) index)
                (keeps_all holds (submission_words holds.parts (push_asks queue now index) on_queue refl) (idle now here) (ap (hung s.submission.read) here))
                refl (omega arith)
                (refl, refl, refl, refl, refl, ((omega arith, refl, omega arith, omega arith, omega arith), passes_on)) (omega arith),
            refl,
          ) in
          does_by effects.Quiet leads refl (ap (goes now) (submission_old holds.parts (push_asks queue now index) on_queue)) refl

      -- ---- the store into the cell

      -- `read` is the read position that the send has loaded, which can have moved on since
      module _ (read : ℕ) (low : read ≤ s.submission.read) (far : s.submission.write ≤ read + queue)
          (here : SendIsAt (pushes.StoresCell s.submission.write read)) (steps : x.steps ≤ 2) where
        -- the send at the store into the cell
        abbrev store : PushStage
        store = pushes.StoresCell s.submission.write read

        -- the send at the store of the next write position
        abbrev then_at : PushStage
        then_at = pushes.StoresWrite s.submission.write read

        -- the submission queue with the index in the cell of the write position
        abbrev k : Core ℕ
        k = filled 1 words_of_index (queue + 1) s.submission 0 index

        -- the channel after the store
        abbrev s_on : Channel T
        s_on = record s { submission = k; completion = s.completion; book = s.book; events = s.events ++ [] }

        -- the sender after the store
        abbrev y_on : Party T
        y_on = party_then scene (calls.Send index) (asked store) false (GoOn (pushes_at slots queue then_at index))

        -- the span of the send still has nothing written
        as_was : span_of 0 (s.events ++ []) ≡ Open start []
        as_was = ap (span_of 0) (append-nil s.events) ∙ from

        -- no more indices wait in the submission queue than its capacity
        few_wait : length s.submission.waiting ≤ queue
        few_wait = subst (Hangs queue s.submission) (ap (hung s.submission.read) here) holds.hangs

        -- the submission queue has a cell for the index
        below : length s.submission.waiting < queue + 1
        below = omega (arith, few_wait)

        -- the store keeps what holds between two turns, with no event
        shows_on : Shows slots queue s s_on 0 y_on latest turns []
        shows_on =
            let good = submission.fill_good holds.parts reached index below in
            grind (arith, append-nil, idle, silent_tells, few_wait, sends_now)

        -- the store leads the send on to the store of the next write position, and writes nothing
        leads_on : StepTo s_on [] store (GoOn (pushes_at slots queue then_at index)) effects.Quiet
        leads_on =
            let some = holds.parts.some in
            let written =
            submission_words holds.parts (push_asks queue store index) (submission.cell_on holds.parts reached s.submission.write)
            (submission.fill_words holds.parts reached index) in
            let known : KnowsOverflowPush queue k index then_at =
            (omega arith, refl, low, far, submission.fill_whole holds.parts reached index below, omega (arith, reached)) in
            let stands : PushAt slots queue s_on index then_at = passes_on in
            let others =
            others_beside slots queue s s_on refl refl (fill_keeps_pop queue s.submission 0 index) (λ i stage known. known)
            (λ q ne i e. ap (spot_of i) (append-nil s.events) ∙ e) in
            grind (arith, shows_on, as_was)

        -- the step of the send at its store into the cell keeps the invariant
        pub stores_cell : StageKeeps store
        stores_cell = record { channel_then = s_on; step = leads_on }
