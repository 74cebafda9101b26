-- The store of the next write position by a send: it publishes the index of the send, and the send acts
-- where there is room. It keeps the invariant: it has the fields of `Steps` (Sender).
use Rattle.laws_loan.proofs.Names.{◌≡◌, ℕ, ◌+◌, ◌-◌, ◌^◌, ◌<◌, ◌≤◌, ◌==◌, Bool, true, false, Option, Some, List, []}
use Rattle.laws_loan.proofs.Names.{◌∷◌, ◌++◌, length, fold, refl, sym, ap, subst, ◌∙◌, append-nil, append_assoc}
use Rattle.laws_loan.proofs.Names.{length-append, nat_tests, map-append, Ask, After, GoOn, submission_word, distance}
use Rattle.laws_loan.proofs.Names.{Answer, Event, Published, Acted, Finished, Index, Start, Book, LoanFlight, Effect}
use Rattle.laws_loan.proofs.Names.{Party, MovesRight, BeginsRight, AnswersRight, promise, Passing, Waiting}
use Rattle.laws_loan.proofs.Names.{reclaims_after, read_in, book_after, words_of_index, flight_of, Stands, Open}
use Rattle.laws_loan.proofs.Names.{own_after, span_of, change_of, AreOwn, AllFollow, AreRight, push_room, push_waits}
use Rattle.laws_loan.proofs.Names.{publish_keeps_pop, Core, Holds}
use Rattle.std.proofs.Common.{arith}
use Rattle.steps.specs.declared.ask.After.TheVariants.{Done}
use Rattle.steps.specs.declared.queues.overflow.PushStage.{PushStage}
use Rattle.steps.specs.declared.queues.overflow.PushStage.TheVariants as pushes
use Rattle.steps.specs.Queues.Overflow.{push_asks}
use Rattle.model.specs.declared.event.Answer.TheVariants as answers
use Rattle.model.specs.declared.event.Start.TheVariants as starts
use Rattle.model.specs.declared.families.Flight.TheVariants as flights
use Rattle.model.specs.declared.families.loan.LoanStart.TheVariants as calls
use Rattle.model.specs.declared.families.loan.effects.Effect.TheVariants as effects
use Rattle.model.proofs.Frame as frame
use Rattle.laws_queues.proofs.Queues.Core.{published}
use Rattle.laws_loan.proofs.Channel.{Channel, words_in}
use Rattle.laws_loan.proofs.Invariant.{Hangs, sends_at, counted_for, hung, reclaims_in, family}
use Rattle.laws_loan.proofs.Knows.{Passes, push_wrote}
use Rattle.laws_loan.proofs.OneMove.{OneMove, calm_still, carried, last_still, of_still, passes_on, same_receiver, span_after}
use Rattle.laws_loan.proofs.Parts.{submission_words, submission_change}
use Rattle.laws_loan.proofs.Placed.{Placed}
use Rattle.laws_loan.proofs.Scene.{Scene, SenderCalls}
use Rattle.laws_loan.proofs.Sender.{party_then, Steps}
use Rattle.laws_loan.proofs.Sends.{pushes_at, asked, queued, StepTo, StageKeeps, does_by, reached, long, read_is, none_carried}
use Rattle.laws_loan.proofs.Spots.{passing_same, waiting_passes}
use Rattle.laws_loan.proofs.Still.{AreStill, placed_still}
use Rattle.laws_loan.proofs.Submission as submission
use Rattle.laws_loan.proofs.Submission.{Room, HasRoom, IsFull, HasMoved}
use Rattle.laws_loan.proofs.Table.{publishes_it}
use Rattle.laws_loan.proofs.SenderInterference.{others_beside}
use Rattle.laws_loan.proofs.QueueEvents.{items, is_reclaiming, Tells}
use Rattle.laws_loan.proofs.Turns.{Shows, sends_now}

-- the sender's push of the index has loaded the read position `read`, and is at the store of
-- the next write position
module _ {T : Type 0} {scene : Scene T} (index : ℕ) (m : SenderCalls scene)
    (read : ℕ)
    (here : sends_at scene.latest ≡ Some (flights.Loan (pushes_at scene.slots scene.queue (pushes.StoresWrite scene.state.submission.write read) index)))
    (passes : Passes scene.slots scene.queue scene.state 0 index) (from : span_of 0 scene.state.events ≡ Open (starts.Loan (calls.Send index)) []) where
  open m use {holds}
  open scene use {coding as code, slots, queue, state as s, latest, turns, changes, caller as x}

  abbrev channel : frame.Family T
  channel = family code slots queue

  abbrev call : Start T
  call = starts.Loan (calls.Send index)

  abbrev stage : PushStage
  stage = pushes.StoresWrite s.submission.write read

  -- the submission queue once the index is published
  abbrev k : Core ℕ
  k = published 1 words_of_index (queue + 1) s.submission index

  -- the book once the index is published
  abbrev book : Book
  book = book_after {T = T} s.book (Published 0 (Index index))

  -- the event that the sender publishes the index
  abbrev publishes : Event T
  publishes = Published 0 (Index index)

  -- the act of the send, which hands nothing back
  abbrev acts : Event T
  acts = Acted 0 call answers.PoppedNone

  -- the end of the send, which hands nothing back
  abbrev ends : Event T
  ends = Finished 0 call answers.PoppedNone

  abbrev asked_now : Option Ask
  asked_now = asked scene index stage

  -- the sender after the step
  abbrev party : After LoanFlight (Answer T) → Party T
  party after = party_then scene (calls.Send index) asked_now false after

  -- the channel after the step, whose events are that the index is published, and then `tail`
  abbrev s_then : List (Event T) → Channel T
  s_then tail = record s { submission = k; completion = s.completion; book = book; events = s.events ++ publishes ∷ tail }

  -- what the send may write behind the event that publishes its index
  pub record Tail (tail : List (Event T)) : Type 0 where
    -- the events move no index, are the sender's own, and leave whether a reclaim is under way
    pub still : AreStill tail
    pub own : AreOwn 0 tail
    pub reclaims : (b : Bool) → fold reclaims_after b tail ≡ b
    pub other : reclaims_in (fold own_after (Open call (publishes ∷ [])) tail) ≡ false
    -- each of them is right behind `Published`, and may follow in the send's span
    pub moves : AreRight (MovesRight slots) (s.events ++ publishes ∷ []) tail
    pub begins : AreRight BeginsRight (s.events ++ publishes ∷ []) tail
    pub answers : AreRight (AnswersRight slots) (s.events ++ publishes ∷ []) tail
    pub stands : AllFollow (Stands promise slots) (Open call (publishes ∷ [])) tail

  -- the step to the channel `s'` keeps the invariant
  abbrev KeepsTo : Channel T → After LoanFlight (Answer T) → Effect → Type 0
  KeepsTo s' after effect = StepTo scene index s' [] stage after effect

  -- before the step at most the capacity waits
  few_wait : length s.submission.waiting ≤ queue
  few_wait = grind arith

  -- the queue has a free cell for the index
  below : length s.submission.waiting < queue + 1
  below = let few = few_wait in omega arith

  -- the write position is below its last value
  low_write : s.submission.write < 2 ^ 64 - 2
  low_write = reached scene index m

  -- the word of the write position is one of the queue's
  on : 0 < length (queued scene index)
  on = grind (arith, long scene index m)

  -- the store of the write position changes one word
  one : change_of (words_in s) asked_now ≡ 1
  one =
      submission_change holds.parts (push_asks queue stage index) on
      ∙ submission.publish_changes holds.parts low_write index

  -- ---- whatever the send writes behind the event that publishes its index

  module _ (tail : List (Event T)) (is : Tail tail) where
    -- the events of the step
    abbrev es : List (Event T)
    es = publishes ∷ tail

    -- `Published` and the step's events behind it are all the events of the step
    whole : (s.events ++ publishes ∷ []) ++ tail ≡ s.events ++ es
    whole = append_assoc s.events (publishes ∷ []) tail

    -- the events move this index alone, from passing into the submission queue, where it waits
    one_move : OneMove 0 index s.events es (Passing 0) Waiting
    one_move =
        record {
          own = (refl, is.own);
          of = (refl, of_still index tail is.still);
          was = passes.1;
          goes = last_still Waiting tail is.still;
          calm = λ r. calm_still r tail is.still;
        }

    -- each index stands after the step where the book and the queues say
    placed_then : Placed slots s.claims k.waiting s.completion.waiting book (s.events ++ es)
    placed_then =
        subst (Placed slots s.claims k.waiting s.completion.waiting book) whole
        (placed_still tail is.still
        (publishes_it holds.parts.placed index passes.0 passes.1))

    -- the sender's span goes on, after `Published`, with the rest of the events
    span_then : span_of 0 (s.events ++ es) ≡ fold own_after (Open call (publishes ∷ [])) tail
    span_then = span_after one_move from

    -- the whole index stands in its cell, and more than the capacity wait afterwards only if the send waits
    module _ (whole_cell : Holds 1 words_of_index (queue + 1) s.submission.cells s.submission.write index 1)
        (after : After LoanFlight (Answer T)) (busy : counted_for (flight_of (Some (party after).doing)) ≡ 0)
        (hangs : Hangs queue k (hung k.read (flight_of (Some (party after).doing))))
        (tells : Tells queue (is_reclaiming s.events) s.submission.waiting k.waiting s.completion.waiting s.completion.waiting es) where
      -- the store keeps what holds between two turns (`Shows`, Turns)
      shows : Shows slots queue s (s_then tail) 0 (party after) latest turns es
      shows =
          let good = submission.publish_good holds.parts low_write index below whole_cell in
          let reclaims = is.reclaims (is_reclaiming s.events) in
          let moves = is.moves in
          let begins = is.begins in
          let answers = is.answers in
          let other = is.other in
          let below = passes.0 in
          let was = passes.1 in
          let idle : counted_for (sends_at latest) ≡ 0 = ap counted_for here in
          let passing =
          carried one_move from holds.passing
          (λ i ne. none_carried scene index m i ne) (λ q e. absurd (waiting_passes q e)) in
          grind (arith, span_then, sends_now, same_receiver, one_move, placed_then)

      -- the store keeps the invariant, where the send fits its span afterwards
      publishing : frame.Fits channel (s_then tail) 0 (Some (party after)) (fold own_after (Open call (publishes ∷ [])) tail)
          → frame.KnowsDoing channel (s_then tail) 0 (s.events ++ es) (changes + change_of (words_in s) asked_now) (party after).backs (party after).doing
          → Steps scene 0 (s_then tail) (Open call []) (calls.Send index) asked_now false after es
      publishing fits knows =
          let change = one in
          let own = is.own in
          let stands = is.stands in
          let words =
          submission_words holds.parts (push_asks queue stage index) on
          (submission.publish_words holds.parts low_write index) in
          let others =
          others_beside slots queue s (s_then tail) refl refl (publish_keeps_pop queue s.submission index) (λ i stage known. known)
          (λ q ne. passes_on one_move q (λ e. ne (sym (passing_same 0 q e)))) in
          grind (arith, shows)

  -- ---- what the events tell of the queues

  -- the queue with the index at its end has its items before, and then that of the index
  more : items {T = T} s.submission.waiting ++ Index index ∷ [] ≡ items (s.submission.waiting ++ index ∷ [])
  more = sym (map-append Index s.submission.waiting (index ∷ []))

  -- where there is room, the events tell that the index went in and that the send has acted
  acts_tells : length s.submission.waiting < queue
      → Tells queue (is_reclaiming s.events) s.submission.waiting k.waiting s.completion.waiting s.completion.waiting
      (publishes ∷ acts ∷ [])
  acts_tells less =
      let list = push_room {T = T} queue s.submission.waiting index less in
      grind (arith, more, append-nil)

  -- where there is room, the events tell that the index went in, and that the send has acted and ended
  ends_tells : length s.submission.waiting < queue
      → Tells queue (is_reclaiming s.events) s.submission.waiting k.waiting s.completion.waiting s.completion.waiting
      (publishes ∷ acts ∷ ends ∷ [])
  ends_tells less =
      let list = push_room {T = T} queue s.submission.waiting index less in
      grind (arith, more, append-nil)

  -- where the queue is full, the events tell that the index went in beyond the capacity
  waits_tells : length s.submission.waiting ≡ queue
      → Tells queue (is_reclaiming s.events) s.submission.waiting k.waiting s.completion.waiting s.completion.waiting (publishes ∷ [])
  waits_tells = grind (arith, more, append-nil, push_waits)

  -- ---- the three cases

  -- the rest may be the act of the send
  acts_tail : Tail (acts ∷ [])
  acts_tail = grind arith

  -- the rest may be the act of the send and its end
  ends_tail : Tail (acts ∷ ends ∷ [])
  ends_tail = grind arith

  -- the rest may be nothing
  no_tail : Tail []
  no_tail = grind arith

  -- the send at its move of the read position
  abbrev waits_at : LoanFlight
  waits_at = pushes_at slots queue (pushes.MovesRead read) index

  -- one index more waits
  one_longer : length k.waiting ≡ length s.submission.waiting + 1
  one_longer = length-append s.submission.waiting (index ∷ [])

  -- the send is then at its move of the read position, and fits its span
  waits_here : (tail wrote : List (Event T)) → span_of 0 (s.events ++ publishes ∷ tail) ≡ Open call wrote
      → wrote ≡ push_wrote queue k index (pushes.MovesRead read) → read ≤ s.submission.read
      → s.submission.write ≡ read + queue → x.steps ≤ 3
      → frame.Fits channel (s_then tail) 0 (Some (party (GoOn waits_at))) (Open call wrote)
  waits_here = grind arith

  module _ (cell : Holds 1 words_of_index (queue + 1) s.submission.cells s.submission.write index 1) (steps : x.steps ≤ 3) where
    -- where there was room at the load of the read position, the store ends the send
    publishes_done : length s.submission.waiting < queue → KeepsTo (s_then (acts ∷ ends ∷ [])) (Done answers.PoppedNone) (effects.PublishesAndActs index)
    publishes_done less =
        let longer = one_longer in (
          publishing (acts ∷ ends ∷ []) ends_tail cell (Done answers.PoppedNone) refl (omega arith) (ends_tells less)
              (record { answer = answers.PoppedNone; wrote = publishes ∷ acts ∷ []; span = refl; steps = omega arith })
              (omega arith),
          refl,
        )

    -- where a receive has made room since the send loaded the read position, the send acts, and goes on to
    -- its move of that position
    publishes_late : length s.submission.waiting < queue → read < s.submission.read
        → s.submission.write ≡ read + queue → KeepsTo (s_then (acts ∷ [])) (GoOn waits_at) (effects.PublishesAndActs index)
    publishes_late less moved far =
        let longer = one_longer in
        let is_other : (read == s.submission.read) ≡ false = grind (arith, nat_tests) in
        let few : length k.waiting ≤ queue = omega arith in
        let hangs : Hangs queue k (hung {T = T} s.submission.read (Some (flights.Loan waits_at))) = rw is_other few in
        let told : publishes ∷ acts ∷ [] ≡ push_wrote queue k index (pushes.MovesRead read) = rw is_other refl in (
          publishing (acts ∷ []) acts_tail cell (GoOn waits_at) refl hangs (acts_tells less)
              (waits_here (acts ∷ []) (publishes ∷ acts ∷ []) (span_then (acts ∷ []) acts_tail) told (omega arith) far steps)
              (omega arith),
          refl,
        )

    -- where the queue is full, the send has not acted, and goes on to its move of the read position
    publishes_over : length s.submission.waiting ≡ queue → read ≡ s.submission.read
        → s.submission.write ≡ read + queue → KeepsTo (s_then []) (GoOn waits_at) (effects.Publishes index)
    publishes_over full same far =
        let is_same : (read == s.submission.read) ≡ true = grind (arith, nat_tests) in
        let hangs : Hangs queue k (hung {T = T} s.submission.read (Some (flights.Loan waits_at))) = rw is_same (s.submission.waiting, refl, full) in
        let told : publishes ∷ [] ≡ push_wrote queue k index (pushes.MovesRead read) = rw is_same refl in (
          publishing [] no_tail cell (GoOn waits_at) refl hangs (waits_tells full)
              (waits_here [] (publishes ∷ []) (span_then [] no_tail) told (omega arith) far steps)
              (omega arith),
          refl,
        )

    -- the test of the read position in the words is that of the queue
    read_now : (b : Bool) → (s.submission.read == read) ≡ b → (read_in (submission_word slots) (words_in s) == read) ≡ b
    read_now b read_test = ap (λ r. r == read) (read_is scene index m) ∙ read_test

    -- the store of the next write position keeps the invariant, in each of the three cases
    pub stores_write : read ≤ s.submission.read → s.submission.write ≤ read + queue
        → StageKeeps scene index stage
    stores_write low far = go (submission.finds holds.parts low_write read low far)
      where
        -- the cases are whether there is room, the queue is full, or a pop has made room since
        go : Room holds.parts low_write read
            → StageKeeps scene index stage
        go (HasRoom t less) =
            does_by scene index (effects.PublishesAndActs index) (publishes_done less) refl (rw t refl) (rw t refl)
        go (IsFull t e full) =
            let write = holds.parts.submission.write in
            let same : s.submission.read ≡ read = grind (arith, nat_tests) in
            let z = read_now true e in
            does_by scene index (effects.Publishes index) (publishes_over full (sym same) (omega arith)) refl (rw t refl) (rw (t, z) refl)
        go (HasMoved t e moved less) =
            let write = holds.parts.submission.write in
            let z = read_now false e in
            let apart : distance s.submission.write read ≡ queue = grind (arith, nat_tests) in
            let reach = low_write in
            does_by scene index (effects.PublishesAndActs index) (publishes_late less moved (omega arith)) refl (rw t refl) (rw (t, z) refl)
