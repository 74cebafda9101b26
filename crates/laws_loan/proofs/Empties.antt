-- The steps of a reclaim that pops the completion queue until the queue is empty; then the reclaim comes to
-- the first index that is sent, or ends. Each keeps the invariant: it has the fields of `Steps` (Sender).
use Rattle.laws_loan.proofs.Names.{◌≡◌, ℕ, suc, ◌+◌, ◌*◌, ◌-◌, ◌%◌, ◌^◌, ◌<◌, ◌≤◌, ◌==◌, ◌||◌, Bool, true, false}
use Rattle.laws_loan.proofs.Names.{Option, Some, None, List, [], ◌∷◌, ◌++◌, length, get_or, refl, sym, ap, subst, ◌∙◌}
use Rattle.laws_loan.proofs.Names.{append-nil, length-append, AllByRecursion, nat_tests, set-get_or, flat_map-append}
use Rattle.laws_loan.proofs.Names.{fold-append, Ask, After, GoOn, ReclaimStage, completion_word, next_sent}
use Rattle.laws_loan.proofs.Names.{reclaim_goes_back, reclaim_releases, load, Answer, Number, Event, TakenBack}
use Rattle.laws_loan.proofs.Names.{LoanFlight, Reclaim, Effect, one_word, Returning, spot_of}
use Rattle.laws_loan.proofs.Names.{receiver_after, takes_back, taken_back, freed, given_back_at, words_of_index, Open}
use Rattle.laws_loan.proofs.Names.{as_call, words_after, step_count, Core, taken, layout}
use Rattle.std.proofs.Common.{arith}
use Rattle.steps.specs.declared.ask.After.TheVariants.{Done}
use Rattle.steps.specs.declared.indices.unique.ReleaseStage.TheVariants as releases
use Rattle.steps.specs.declared.loan.reclaim.ReclaimStage.TheVariants as reclaims
use Rattle.steps.specs.declared.queues.ring.PopStage.{PopStage}
use Rattle.steps.specs.declared.queues.ring.PopStage.TheVariants as pops
use Rattle.steps.specs.Queues.Ring.{cell_word, word_at, pop_asks}
use Rattle.model.specs.declared.families.loan.LoanStart.TheVariants as calls
use Rattle.model.specs.declared.families.loan.effects.Effect.TheVariants as effects
use Rattle.model.specs.Families.Loan.Reading.{frees}
use Rattle.laws_queues.proofs.Ring.Keeping.{take_keeps}
use Rattle.laws_loan.proofs.Channel.{Channel, no_roles, words_in}
use Rattle.laws_loan.proofs.Completion as completion
use Rattle.laws_loan.proofs.Invariant.{hung}
use Rattle.laws_loan.proofs.Knows.{reclaim_counts, reclaim_number, StageAt}
use Rattle.laws_loan.proofs.Lists.{first_there}
use Rattle.laws_loan.proofs.Parts.{completion_long, completion_old, completion_words}
use Rattle.laws_loan.proofs.ReclaimEnds.{s_end, reclaim_ends}
use Rattle.laws_loan.proofs.ReclaimGoes as steps
use Rattle.laws_loan.proofs.ReclaimGoes.{start, asked, old, StageKeeps}
use Rattle.laws_loan.proofs.Reclaiming.{reclaim_at, none_more, passing_before, passing_sent, end_of, Reclaims}
use Rattle.laws_loan.proofs.Rests.{keeps_all}
use Rattle.laws_loan.proofs.Rooms.{back_below}
use Rattle.laws_loan.proofs.Scene.{Scene}
use Rattle.laws_loan.proofs.Sender.{Steps}
use Rattle.laws_loan.proofs.SentIndices.{ComesTo, comes_to}
use Rattle.laws_loan.proofs.Spots.{returns_there}
use Rattle.laws_loan.proofs.Table.{returning_away, takes_it_back}
use Rattle.laws_loan.proofs.QueueEvents.{Tells, silent_tells}
use Rattle.laws_loan.proofs.Waits.{cell_place}

-- a reclaim that pops the completion queue, at this stage of the pop
abbrev empties : PopStage → ReclaimStage
empties stage = reclaims.Empties stage

-- the sender has a reclaim under way (`r`), which has written `wrote` and is not counted in
-- the head of the indices
module _ {T : Type 0} (scene : Scene T) (wrote : List (Event T)) (small : scene.turns < 2 ^ 64 - 2) (under : ReclaimStage)
    (r : Reclaims scene wrote under) (idle : reclaim_counts under ≡ 0) where
  open scene use {slots, queue, state as s, latest, turns, caller as x}
  open r use {holds, here, known}

  -- the step of the reclaim at this stage keeps the invariant
  abbrev StageKeepsAt : PopStage → Type 0
  StageKeepsAt stage = StageKeeps scene wrote (empties stage)

  -- the operation that the reclaim asks for at this stage
  abbrev asks : PopStage → Option Ask
  asks stage = asked scene wrote (empties stage)

  -- the old value of the word that it asks for
  abbrev value : PopStage → ℕ
  value stage = old scene wrote (empties stage)

  -- how the reclaim goes on from this stage, or ends, where the word has the value `v`
  abbrev then_of : PopStage → ℕ → After LoanFlight (Answer T)
  then_of stage v = steps.goes scene wrote (empties stage) v

  -- what the step at this stage does to the channel
  abbrev effect_of : PopStage → Effect
  effect_of stage = steps.effect_at scene wrote (empties stage) 0

  -- a step at this stage, to the channel `s'`, keeps the invariant
  abbrev KeepsTo : Channel T → PopStage → After LoanFlight (Answer T) → Effect → Type 0
  KeepsTo s' stage after effect = steps.StepTo scene wrote s' (empties stage) after effect

  -- the channel after a step that changes nothing of it
  abbrev s_still : Channel T
  s_still = steps.s_still r idle

  -- ---- the words of the completion queue

  -- the channel has at least one index
  some : 1 ≤ slots
  some = holds.parts.set.some

  -- the channel has fewer than 2 ^ 24 indices
  few : slots < 2 ^ 24
  few = let low = holds.parts.set.few in omega arith

  -- the write position is below its last value
  reached : s.completion.write < 2 ^ 64 - 2
  reached = let given = holds.given in omega arith

  -- the words of the completion queue
  abbrev queued : List ℕ
  queued = layout no_roles s.completion

  -- the completion queue has four words and one for each index
  long : length queued ≡ 4 + slots
  long = completion_long holds.parts

  -- ---- the loads

  -- a step of the pop that changes no word, and leads to a stage where the reclaim stands,
  -- keeps the invariant
  loads : (now : PopStage) (after_it : ReclaimStage) → words_after (words_in s) (asks now) ≡ words_in s → reclaim_counts after_it ≡ 0
      → StageAt slots s.submission s.completion s.book.places wrote after_it → x.steps + step_count (asks now) ≤ reclaim_number slots wrote after_it
      → reclaim_goes_back (empties now) (value now) ≡ false → then_of now (value now) ≡ GoOn (reclaim_at slots queue after_it)
      → effect_of now ≡ effects.Quiet → StageKeepsAt now
  loads now after_it words counted stands less = steps.loads r idle (empties now) after_it words counted stands less

  -- the pop at the load of the write position
  abbrev load_of_write : PopStage
  load_of_write = pops.LoadsWrite s.completion.read

  -- the pop at the load of the cell
  abbrev load_of_cell : PopStage
  load_of_cell = pops.LoadsCell s.completion.read (cell_word slots 1 s.completion.read) 0

  -- the pop at the store of the next read position
  abbrev store_of_read : PopStage
  store_of_read = pops.StoresRead s.completion.read

  module _ (most : length (taken_back wrote) + length s.completion.waiting ≤ slots) (none_freed : freed wrote ≡ []) (drained : s.submission.waiting ≡ []) where
    -- the load of the read position leads on to the load of the write position
    loads_read : x.steps ≤ 4 * (slots + 1) + 4 * length (taken_back wrote) → StageKeepsAt pops.LoadsRead
    loads_read less =
        let on_queue : 1 < length queued = (let all = long in omega arith) in
        loads pops.LoadsRead (empties load_of_write) (completion_words holds.parts (pop_asks pops.LoadsRead) on_queue refl) refl
        (refl, most, none_freed, drained) (omega arith) refl
        (ap (then_of pops.LoadsRead) (completion_old holds.parts (pop_asks pops.LoadsRead) on_queue)) refl

    -- the load of the cell leads on to the store of the read position
    loads_cell : s.completion.read < s.completion.write → x.steps ≤ 4 * (slots + 1) + 4 * length (taken_back wrote) + 2 → StageKeepsAt load_of_cell
    loads_cell ahead less =
        let cell_within = completion.cell_on holds.parts reached s.completion.read in
        loads load_of_cell (empties store_of_read)
        (completion_words holds.parts (pop_asks load_of_cell) cell_within (set-get_or queued (word_at (cell_word slots 1 s.completion.read) 0) 0))
        refl
        ((refl, ahead), most, none_freed, drained) (omega arith) refl refl refl

    -- ---- both queues are empty

    -- the word of the write position is one of the queue's
    on_write : 0 < length queued
    on_write = let all = long in omega arith

    module _ (emptied : s.completion.waiting ≡ []) (less : x.steps ≤ 4 * (slots + 1) + 4 * length (taken_back wrote) + 1) where
      -- how the reclaim goes on, or ends, where `o` is the first index that is sent, if any
      abbrev comes_after : Option ℕ → After LoanFlight (Answer T)
      comes_after o = as_call Reclaim Number (reclaim_releases (record { slots = slots; queue = queue; stage = empties load_of_write }) 0 o)

      -- a channel to which the load of the write position leads, with a step that keeps the invariant
      pub record LoadKeeps (o : Option ℕ) : Type 0 where
        pub channel_then : Channel T
        pub step : KeepsTo channel_then load_of_write (comes_after o) effects.Quiet

      module _ (none : ComesTo s.book.places slots 0 None) where
        -- the channel after the end of the reclaim
        abbrev ended : Channel T
        ended =
            s_end s s.set 0

        -- where no index is sent, the load ends the reclaim with the answer that it has released none
        ends_steps : Steps scene 0 ended (Open (start scene wrote) wrote) calls.Reclaim
            (asks load_of_write) false (Done (Number 0)) (end_of (Number 0) ∷ [])
        ends_steps =
            reclaim_ends r
            (keeps_all holds (completion_words holds.parts (pop_asks load_of_write) on_write refl)
            (steps.busy_none r idle) (ap (hung s.submission.read) here))
            drained emptied (λ j below. none j (omega arith) below) (ap length none_freed) (omega arith) small

      -- the load leads the reclaim on to release the first index that is sent, or ends it where none is
      comes : (o : Option ℕ) → ComesTo s.book.places slots 0 o → LoadKeeps o
      comes None none = record { channel_then = ended none; step = (ends_steps none, refl) }
      comes (Some index) first =
          record {
            channel_then = s_still;
            step = (
              steps.goes_still r idle (empties load_of_write) (reclaims.Releases 0 index releases.ClearsFlag)
                  (completion_words holds.parts (pop_asks load_of_write) on_write refl) refl (
                    first.2,
                    first.1,
                    (omega arith),
                    ap length none_freed,
                    subst (AllByRecursion (λ i. i < index + 0)) (sym none_freed) tt,
                    (λ j below. first.3 j (omega arith) (omega arith)),
                    drained,
                    emptied,
                  )
                  (omega arith),
              refl,
            );
          }

    -- the load of the write position keeps the invariant, whether something waits or not
    loads_write : x.steps ≤ 4 * (slots + 1) + 4 * length (taken_back wrote) + 1 → StageKeepsAt load_of_write
    loads_write less = go (s.completion.write == s.completion.read) refl
      where
        -- the channel has at least one index
        none_zero : (slots == 0) ≡ false
        none_zero = let least = some in grind (arith, nat_tests)

        -- the cases are whether the completion queue is empty
        go : (same : Bool) → (s.completion.write == s.completion.read) ≡ same → StageKeepsAt load_of_write
        -- nothing is to be taken back: the reclaim comes to the first index that is sent, or ends
        go true e =
            let zero = none_zero in
            let both : (slots == 0 || s.completion.write == s.completion.read) ≡ true = rw (zero, e) refl in
            let emptied = completion.finds_none holds.parts reached e in
            let is : then_of load_of_write (value load_of_write) ≡ comes_after emptied less (next_sent s.book.places slots 0) =
            ap (then_of load_of_write) (completion_old holds.parts (pop_asks load_of_write) on_write) ∙ (rw both refl)
            in
            let found = comes emptied less (next_sent s.book.places slots 0) (comes_to s.book.places slots 0) in
            record {
              channel_then = found.channel_then;
              stays = refl;
              step = rw is found.step;
            }
        -- an index is to be taken back: the reclaim goes on to load its cell
        go false e =
            let zero = none_zero in
            let both : (slots == 0 || s.completion.write == s.completion.read) ≡ false = rw (zero, e) refl in
            let ahead = completion.finds_some holds.parts reached e in
            loads load_of_write (empties load_of_cell) (completion_words holds.parts (pop_asks load_of_write) on_write refl) refl
            ((refl, ahead, refl, refl), most, none_freed, drained)
            (omega arith) refl (ap (then_of load_of_write) (completion_old holds.parts (pop_asks load_of_write) on_write) ∙ (rw both refl)) refl

    -- ---- the first one leaves the queue

    -- the first index `v` leaves the completion queue
    module _ (v : ℕ) (rest : List ℕ) (first : s.completion.waiting ≡ v ∷ rest) where
      -- the event that the sender takes the index back
      abbrev takes : Event T
      takes = TakenBack 0 v

      -- the completion queue once `v` is taken
      abbrev m : Core ℕ
      m = taken 1 words_of_index slots s.completion rest

      -- the index is one of the channel
      below : v < slots
      below = back_below holds.parts.placed v rest first

      -- the index at the front of the completion queue was on its way back
      was_returning : spot_of v s.events ≡ Returning
      was_returning = grind (arith, returns_there, first_there)

      -- the store of the next read position takes the first index back into the reclaim, which
      -- begins its next pop
      leads : x.steps ≤ 4 * (slots + 1) + 4 * length (taken_back wrote) + 3
          → steps.StepGoesOn r idle (empties store_of_read) s.submission m (takes ∷ []) (empties pops.LoadsRead)
      leads less =
          let on_queue : 1 < length queued = (let all = long in omega arith) in
          let shorter : length s.completion.waiting ≡ suc (length rest) = ap length first in
          let more : length (taken_back (wrote ++ takes ∷ [])) ≡ length (taken_back wrote) + 1 =
          ap length (flat_map-append takes_back wrote (takes ∷ [])) ∙ length-append (taken_back wrote) (v ∷ [])
          in
          let words = completion_words holds.parts (pop_asks store_of_read) on_queue (completion.take_words holds.parts reached v rest first) in
          let good = completion.take_good holds.parts reached v rest first in
          let placed = takes_it_back holds.parts.placed v below rest first in
          let tells : Tells queue true s.submission.waiting s.submission.waiting s.completion.waiting rest (takes ∷ []) =
          silent_tells (takes ∷ []) refl refl refl (append-nil s.completion.waiting ∙ first) in
          let passing = passing_before known holds.parts.placed.keeps takes v Returning refl was_returning returning_away in
          let sent = passing_sent known holds.parts.placed.keeps takes v Returning refl was_returning returning_away in
          let receiver = fold-append receiver_after 1 s.events (takes ∷ []) in
          let freed_none = none_more frees wrote (takes ∷ []) none_freed refl in
          let push = take_keeps one_word slots s.completion v rest first in
          grind (arith, below, was_returning)

    -- the words of the whole have the first index in the cell of the read position
    first_is : (v : ℕ) (rest : List ℕ) → s.completion.waiting ≡ v ∷ rest → given_back_at (completion_word slots queue) slots (words_in s) s.completion.read ≡ v
    first_is v rest first =
        let place = cell_place slots s.completion.read (omega arith) in
        let least = some in
        let low : s.completion.read % slots < slots = omega arith in
        let less = few in
        let all = long in
        let plain : word_at (cell_word slots 1 s.completion.read) 0 ≡ cell_word slots 1 s.completion.read = omega arith in
        completion_old holds.parts (load (cell_word slots 1 s.completion.read)) (omega arith)
        ∙ (ap (λ n. get_or queued n 0) (sym plain) ∙ completion.first_is holds.parts reached v rest first)

    -- the store of the next read position keeps the invariant, where something waits
    stores_read : s.completion.read < s.completion.write → x.steps ≤ 4 * (slots + 1) + 4 * length (taken_back wrote) + 3 → StageKeepsAt store_of_read
    stores_read ahead less =
        let write = holds.parts.completion.write in
        let front = completion.first_of s.completion.waiting (omega arith) in
        let v = front.0 in
        let rest = front.1 in
        let is_effect : effect_of store_of_read ≡ effects.TakesBack v = ap (λ n. effects.TakesBack n) (first_is v rest front.2) in
        let s_out : Channel T =
        steps.s_on r idle (empties store_of_read) s.submission (m v rest front.2) (takes v rest front.2 ∷ [])
        (empties pops.LoadsRead) in
        record {
          channel_then = s_out;
          stays = refl;
          step =
              subst (λ e. KeepsTo s_out store_of_read (GoOn (reclaim_at slots queue (empties pops.LoadsRead))) e) (sym is_effect) (
                steps.leads_on r idle (empties store_of_read) s.submission (m v rest front.2) (takes v rest front.2 ∷ [])
                    (empties pops.LoadsRead) (leads v rest front.2 less),
                refl,
              );
        }

  -- ---- each of its stages

  -- each step of a reclaim that pops the completion queue keeps the invariant
  pub empties_does : (stage : PopStage)
      → StageAt slots s.submission s.completion s.book.places wrote (empties stage)
      → x.steps ≤ reclaim_number slots wrote (empties stage) → StageKeepsAt stage
  empties_does = grind (arith, loads_read, loads_write, loads_cell, stores_read)
