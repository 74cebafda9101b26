-- The steps of a reclaim that pops the submission queue until the queue is empty. Each keeps the invariant:
-- it has the fields of `Steps` (Sender).
use Rattle.laws_loan.proofs.Names.{◌≡◌, ◌≢◌, ℕ, suc, ◌+◌, ◌%◌, ◌^◌, ◌*◌, ◌-◌, ◌<◌, ◌≤◌, ◌==◌, inl, Bool, true, false}
use Rattle.laws_loan.proofs.Names.{not, Option, List, [], ◌∷◌, ◌++◌, length, get_or, refl, ap, ◌∙◌}
use Rattle.laws_loan.proofs.Names.{append-nil, length-append, nat_tests, nil_from_length, set-get_or, flat_map-append}
use Rattle.laws_loan.proofs.Names.{fold-append, Ask, After, GoOn, ReclaimStage, submission_word, reclaim_goes_back}
use Rattle.laws_loan.proofs.Names.{load, Answer, Event, HandedOut, Index, LoanFlight, Effect}
use Rattle.laws_loan.proofs.Names.{Waiting, spot_of, receiver_after, takes_back, taken_back, freed, sent_at}
use Rattle.laws_loan.proofs.Names.{words_of_index, hands_out, handed_out, words_after}
use Rattle.laws_loan.proofs.Names.{change_of, step_count, oldest, pop_front, Core, taken, layout}
use Rattle.std.proofs.Common.{arith}
use Rattle.steps.specs.declared.loan.reclaim.ReclaimStage.TheVariants as reclaims
use Rattle.steps.specs.declared.queues.overflow.PopStage.{PopStage}
use Rattle.steps.specs.declared.queues.overflow.PopStage.TheVariants as pops
use Rattle.steps.specs.declared.queues.ring.PopStage.TheVariants as ring_pops
use Rattle.steps.specs.Queues.Overflow.{cell_word, pop_asks}
use Rattle.model.specs.declared.families.loan.effects.Effect.TheVariants as effects
use Rattle.model.specs.Families.Loan.Reading.{frees}
use Rattle.laws_loan.proofs.Channel.{Channel, no_roles, words_in}
use Rattle.laws_loan.proofs.Knows.{reclaim_counts, reclaim_number, StageAt}
use Rattle.laws_loan.proofs.Lists.{first_there}
use Rattle.laws_loan.proofs.Parts.{submission_old, submission_words, submission_change}
use Rattle.laws_loan.proofs.ReclaimGoes as steps
use Rattle.laws_loan.proofs.ReclaimGoes.{asked, old, StageKeeps}
use Rattle.laws_loan.proofs.Reclaiming.{reclaim_at, none_more, passing_before, passing_sent, Reclaims}
use Rattle.laws_loan.proofs.Rooms.{sent_below}
use Rattle.laws_loan.proofs.Scene.{Scene}
use Rattle.laws_loan.proofs.Spots.{waits_there}
use Rattle.laws_loan.proofs.Submission as submission
use Rattle.laws_loan.proofs.Table.{waiting_away, hands_it_out}
use Rattle.laws_loan.proofs.QueueEvents.{items, Tells}

-- a reclaim that pops the submission queue, at this stage of the pop
abbrev drains : PopStage → ReclaimStage
drains stage = reclaims.Drains stage

-- the sender has a reclaim under way (`r`), which has written `wrote` and is not counted in
-- the head of the indices
module _ {T : Type 0} (scene : Scene T) (wrote : List (Event T)) (small : scene.turns < 2 ^ 64 - 2) (under : ReclaimStage)
    (r : Reclaims scene wrote under) (idle : reclaim_counts under ≡ 0) where
  open scene use {slots, queue, state as s, latest, caller as x}
  open r use {holds, known}

  -- the step of the reclaim at this stage keeps the invariant
  abbrev StageKeepsAt : PopStage → Type 0
  StageKeepsAt stage = StageKeeps scene wrote (drains stage)

  -- the operation that the reclaim asks for at this stage
  abbrev asks : PopStage → Option Ask
  asks stage = asked scene wrote (drains stage)

  -- the old value of the word that it asks for
  abbrev value : PopStage → ℕ
  value stage = old scene wrote (drains stage)

  -- how the reclaim goes on from this stage, or ends, where the word has the value `v`
  abbrev then_of : PopStage → ℕ → After LoanFlight (Answer T)
  then_of stage v = steps.goes scene wrote (drains stage) v

  -- what the step at this stage does to the channel
  abbrev effect_of : PopStage → ℕ → Effect
  effect_of stage v = steps.effect_at scene wrote (drains stage) v

  -- a step at this stage, to the channel `s'`, keeps the invariant
  abbrev KeepsTo : Channel T → PopStage → After LoanFlight (Answer T) → Effect → Type 0
  KeepsTo s' stage after effect = steps.StepTo scene wrote s' (drains stage) after effect

  -- ---- the words of the submission queue

  -- the words of the submission queue
  abbrev queued : List ℕ
  queued = layout no_roles s.submission

  -- the write position is below its last value
  low_write : s.submission.write < 2 ^ 64 - 2
  low_write = let sent = holds.sent in omega arith

  -- the submission queue has five words and one for each index that may wait
  wide : length queued ≡ 5 + queue
  wide = grind (arith, low_write)

  -- ---- the loads

  -- a step of the pop that changes no word, and leads to a stage where the reclaim stands,
  -- keeps the invariant
  loads : (now : PopStage) (after_it : ReclaimStage) → words_after (words_in s) (asks now) ≡ words_in s → reclaim_counts after_it ≡ 0
      → StageAt slots s.submission s.completion s.book.places wrote after_it → x.steps + step_count (asks now) ≤ reclaim_number slots wrote after_it
      → reclaim_goes_back (drains now) (value now) ≡ false → then_of now (value now) ≡ GoOn (reclaim_at slots queue after_it)
      → effect_of now (value now) ≡ effects.Quiet → StageKeepsAt now
  loads now after_it words counted stands few = steps.loads r idle (drains now) after_it words counted stands few

  -- the pop at the load of the write position
  abbrev load_of_write : PopStage
  load_of_write = pops.LoadsWrite s.submission.read

  -- the pop at the load of the cell
  abbrev load_of_cell : PopStage
  load_of_cell = pops.LoadsCell s.submission.read

  -- the pop at its move of the read position
  abbrev moves : PopStage
  moves = pops.MovesRead s.submission.read

  module _ (most : length (handed_out wrote) + length s.submission.waiting ≤ slots) (none_taken : taken_back wrote ≡ []) (none_freed : freed wrote ≡ []) where
    -- the load of the read position leads on to the load of the write position
    loads_read : x.steps ≤ 4 * length (handed_out wrote) → StageKeepsAt pops.LoadsRead
    loads_read few =
        let on_queue : 1 < length queued = (let all = wide in omega arith) in
        loads pops.LoadsRead (drains load_of_write) (submission_words holds.parts (pop_asks queue pops.LoadsRead) on_queue refl) refl
        (refl, most, none_taken, none_freed) (omega arith) refl
        (ap (then_of pops.LoadsRead) (submission_old holds.parts (pop_asks queue pops.LoadsRead) on_queue)) refl

    -- the load of the write position leads to the completion queue where nothing waits, and
    -- else on to the cell
    loads_write : x.steps ≤ 4 * length (handed_out wrote) + 1 → StageKeepsAt load_of_write
    loads_write few = go (s.submission.write == s.submission.read) refl
      where
        -- the word of the write position is one of the queue's
        on : 0 < length queued
        on = let all = wide in omega arith

        -- the cases are whether the submission queue is empty
        go : (same : Bool) → (s.submission.write == s.submission.read) ≡ same → StageKeepsAt load_of_write
        go true e =
            let same : s.submission.write ≡ s.submission.read = grind (arith, nat_tests) in
            let write = holds.parts.submission.write in
            let empty : s.submission.waiting ≡ [] = nil_from_length s.submission.waiting (omega arith) in
            let none : length (taken_back wrote) ≡ 0 = ap length none_taken in
            let within = holds.parts.completion.few in
            loads load_of_write (reclaims.Empties ring_pops.LoadsRead) (submission_words holds.parts (pop_asks queue load_of_write) on refl) refl
            (tt, (omega arith), none_freed, empty) (omega arith) refl
            (ap (then_of load_of_write) (submission_old holds.parts (pop_asks queue load_of_write) on) ∙ (rw e refl)) refl
        go false e =
            let other : s.submission.write ≢ s.submission.read = grind (arith, nat_tests) in
            let write = holds.parts.submission.write in
            loads load_of_write (drains load_of_cell) (submission_words holds.parts (pop_asks queue load_of_write) on refl) refl
            ((refl, omega arith), most, none_taken, none_freed) (omega arith) refl
            (ap (then_of load_of_write) (submission_old holds.parts (pop_asks queue load_of_write) on) ∙ (rw e refl)) refl

    -- the load of the cell leads on to the move of the read position
    loads_cell : s.submission.read < s.submission.write → x.steps ≤ 4 * length (handed_out wrote) + 2 → StageKeepsAt load_of_cell
    loads_cell ahead few =
        let cell_within = submission.cell_on holds.parts low_write s.submission.read in
        loads load_of_cell (drains moves)
        (submission_words holds.parts (pop_asks queue load_of_cell) cell_within
        (set-get_or queued (cell_word queue s.submission.read) 0))
        refl
        ((refl, ahead), most, none_taken, none_freed) (omega arith) refl refl refl

    -- ---- the oldest one leaves the queue

    -- the oldest index `u` leaves the submission queue
    module _ (u : ℕ) (rest : List ℕ) (first : s.submission.waiting ≡ u ∷ rest) where
      -- the event that the index is handed to the sender
      abbrev hands : Event T
      hands = HandedOut 0 (Index u)

      -- the submission queue once `u` is taken
      abbrev k : Core ℕ
      k = taken 1 words_of_index (queue + 1) s.submission rest

      -- the word of the read position is one of the queue's
      on_moves : 1 < length queued
      on_moves = let all = wide in omega arith

      -- the index is one of the channel
      below : u < slots
      below = sent_below holds.parts.placed u rest first

      -- the index at the front of the submission queue waited
      was_waiting : spot_of u s.events ≡ Waiting
      was_waiting = grind (arith, waits_there, first_there)

      -- the event tells of the submission queue that `u` went out of it
      tells_out : Tells queue true s.submission.waiting rest s.completion.waiting s.completion.waiting (hands ∷ [])
      tells_out = grind (arith, pop_front, append-nil, items)

      -- the exchange of the read position hands the oldest index out to the reclaim, which
      -- begins its next pop
      leads : x.steps ≤ 4 * length (handed_out wrote) + 3
          → steps.StepGoesOn r idle (drains moves) k s.completion (hands ∷ []) (drains pops.LoadsRead)
      leads few =
          let change : change_of (words_in s) (asks moves) ≡ 1 =
          submission_change holds.parts (pop_asks queue moves) on_moves
          ∙ submission.take_changes holds.parts low_write u rest first
          in
          let shorter : length s.submission.waiting ≡ suc (length rest) = ap length first in
          let handed : length (handed_out (wrote ++ hands ∷ [])) ≡ length (handed_out wrote) + 1 =
          ap length (flat_map-append hands_out wrote (hands ∷ [])) ∙ length-append (handed_out wrote) (Index u ∷ [])
          in
          let words =
          submission_words holds.parts (pop_asks queue moves) on_moves
          (submission.take_words holds.parts low_write u rest first) in
          let good = submission.take_good holds.parts low_write u rest first in
          let placed = hands_it_out holds.parts.placed u below 0 rest first (inl refl) in
          let passing = passing_before known holds.parts.placed.keeps hands u Waiting refl was_waiting waiting_away in
          let sent = passing_sent known holds.parts.placed.keeps hands u Waiting refl was_waiting waiting_away in
          let receiver = fold-append receiver_after 1 s.events (hands ∷ []) in
          let taken_none = none_more takes_back wrote (hands ∷ []) none_taken refl in
          let freed_none = none_more frees wrote (hands ∷ []) none_freed refl in
          grind (arith, tells_out, below, was_waiting)

    -- no other party moves the read position meanwhile, so the exchange succeeds and keeps the invariant
    moves_read : s.submission.read < s.submission.write → x.steps ≤ 4 * length (handed_out wrote) + 3 → StageKeepsAt moves
    moves_read ahead few =
        let write = holds.parts.submission.write in
        let some : 0 < length s.submission.waiting = omega arith in
        let front = oldest queue s.submission holds.parts.submission some in
        let u = get_or s.submission.cells (s.submission.read % (queue + 1)) 0 in
        let on_queue : 1 < length queued = (let all = wide in omega arith) in
        let is_same : (s.submission.read == s.submission.read) ≡ true = grind (arith, nat_tests) in
        let found : value moves ≡ s.submission.read = submission_old holds.parts (pop_asks queue moves) on_queue in
        let place : sent_at (submission_word slots) queue (words_in s) s.submission.read ≡ u =
        submission_old holds.parts
        (load (cell_word queue s.submission.read))
        (submission.cell_on holds.parts low_write s.submission.read)
        ∙ submission.cell_is holds.parts low_write s.submission.read
        in
        let is_after : then_of moves (value moves) ≡ GoOn (reclaim_at slots queue (drains pops.LoadsRead)) =
        ap (then_of moves) found ∙ (rw is_same refl) in
        let is_effect : effect_of moves (value moves) ≡ effects.HandsOut u = ap (effect_of moves) found ∙ (rw (is_same, place) refl) in
        let s_out : Channel T =
        steps.s_on r idle (drains moves) (k u front.0 front.1) s.completion (hands u front.0 front.1 ∷ [])
        (drains pops.LoadsRead) in
        record {
          channel_then = s_out;
          stays = ap (λ v. not (v == s.submission.read)) found ∙ ap not is_same;
          step =
              rw (is_after, is_effect) (
                steps.leads_on r idle (drains moves) (k u front.0 front.1) s.completion (hands u front.0 front.1 ∷ [])
                    (drains pops.LoadsRead) (leads u front.0 front.1 few),
                refl,
              );
        }

  -- ---- each of its stages

  -- each step of a reclaim that pops the submission queue keeps the invariant
  pub drains_does : (stage : PopStage) → StageAt slots s.submission s.completion s.book.places wrote (drains stage)
      → x.steps ≤ reclaim_number slots wrote (drains stage) → StageKeepsAt stage
  drains_does = grind (arith, loads_read, loads_write, loads_cell, moves_read)
