-- The steps of a receive that take no index out: the loads, the turn back where a send has moved the read
-- position, and the end where nothing waits. Each keeps the invariant: it has the fields of `Steps` (Sender).
use Rattle.laws_loan.proofs.Names.{◌≡◌, ◌≢◌, ℕ, ◌+◌, ◌-◌, ◌*◌, ◌%◌, ◌^◌, ◌<◌, ◌≤◌, ◌==◌, ⊎_elim, Bool, true, false}
use Rattle.laws_loan.proofs.Names.{Option, List, [], ◌∷◌, ◌++◌, length, get_or, take, refl, sym, ap, subst, ◌∙◌}
use Rattle.laws_loan.proofs.Names.{append-nil, cases_lt, nat_tests, nil_from_length, set-get_or, Ask, After, GoOn}
use Rattle.laws_loan.proofs.Names.{OneWord, Pop, submission_word, shifted, part_after, pop_takes, pop_keeps}
use Rattle.laws_loan.proofs.Names.{pop_answer, goes_back, went_on, Answer, Event, Acted, Finished, Start, LoanFlight}
use Rattle.laws_loan.proofs.Names.{Receive, Effect, Party, ask_of, Passing, spot_of, receive_effect}
use Rattle.laws_loan.proofs.Names.{popped, Span, Open, span_of, as_call, old_of, words_after, change_of, one_if}
use Rattle.laws_loan.proofs.Names.{step_count, span_of-other, oldest, KnowsOverflowPop, KnowsBacks}
use Rattle.laws_loan.proofs.Names.{overflow_pop_number, layout}
use Rattle.std.proofs.Common.{arith}
use Rattle.std.proofs.Math.Seq.{take-nil}
use Rattle.steps.specs.declared.ask.After.TheVariants.{Done}
use Rattle.steps.specs.declared.queues.overflow.PopStage.{PopStage}
use Rattle.steps.specs.declared.queues.overflow.PopStage.TheVariants as pops
use Rattle.steps.specs.Queues.Overflow.{cell_word, pop_asks}
use Rattle.model.specs.declared.event.Answer.TheVariants as answers
use Rattle.model.specs.declared.event.Start.TheVariants as starts
use Rattle.model.specs.declared.families.loan.LoanStart.TheVariants as calls
use Rattle.model.specs.declared.families.loan.effects.Effect.TheVariants as effects
use Rattle.laws_loan.proofs.Carried.{carried_on}
use Rattle.laws_loan.proofs.Channel.{Channel, no_roles, words_in}
use Rattle.laws_loan.proofs.Cuts.{IsOn}
use Rattle.laws_loan.proofs.Giving.{GivesBy, nothing_stored, gives_on}
use Rattle.laws_loan.proofs.Invariant.{Carries}
use Rattle.laws_loan.proofs.GiveBackInterference.{at_given, given_then}
use Rattle.laws_loan.proofs.Parts.{submission_long, submission_old, submission_words}
use Rattle.laws_loan.proofs.Scene.{Scene, ReceiverCalls}
use Rattle.laws_loan.proofs.Sender.{party_then}
use Rattle.laws_loan.proofs.Still.{AreStill, spots_still, receiver_still, placed_still}
use Rattle.laws_loan.proofs.Submission as submission
use Rattle.laws_loan.proofs.QueueEvents.{items, is_reclaiming, Tells}
use Rattle.laws_loan.proofs.Turns.{Shows, sends_still}

-- the receive at a stage of its pop, with this room
abbrev pub receive_at : ℕ → ℕ → ℕ → PopStage → OneWord → LoanFlight
receive_at slots queue p stage room =
    Receive p (record { call = record { base = submission_word slots; call = record { capacity = queue; stage = stage } }; given = tt; room = room })

abbrev pub pop_on : ℕ → PopStage → Pop
pop_on queue stage = record { capacity = queue; stage = stage }

-- how a receive goes on, or ends, where `pop` is how its pop goes on or ends, with this room
abbrev pub received_after : (T : Type 0) → ℕ → ℕ → OneWord → After Pop Bool → After LoanFlight (Answer T)
received_after T slots p room pop =
    as_call (λ r. Receive p r) popped (went_on (λ end given room. pop_answer room.0 end) tt room (part_after (submission_word slots) pop))

-- the room of one word that has this word
abbrev pub word_of : ℕ → OneWord
word_of v = record { 0 = v }

-- the next step of a receive at this stage takes no index out
abbrev pub IsLook : {T : Type 0} → Channel T → PopStage → Type 0
IsLook s (pops.MovesRead read) = (s.submission.read == read) ≡ false
IsLook s stage = Unit {0}

-- the receiver `p` has a receive under way
module _ {T : Type 0} (scene : Scene T) (p : ℕ) (beside : Option (ℕ × ℕ)) where
  open scene use {slots, queue, state as s, latest, turns, changes, since, caller as x}

  abbrev pub call : Start T
  call = starts.Loan calls.Receive

  -- the span of the receive before the step, with nothing written
  abbrev pub spanned : Span T
  spanned = Open call []

  -- the operation that the receive asks for at this stage
  abbrev pub asked : PopStage → Option Ask
  asked stage = ask_of (shifted (submission_word slots) (pop_asks queue stage))

  -- the old value of the word that it asks for
  abbrev pub old : PopStage → ℕ
  old stage = old_of (words_in s) (asked stage)

  -- the words of the submission queue
  abbrev pub queued : List ℕ
  queued = layout no_roles s.submission

  -- how the receive goes on from this stage, or ends, where the word has the value `value`
  abbrev pub goes : PopStage → OneWord → ℕ → After LoanFlight (Answer T)
  goes stage room value = received_after T slots p (pop_keeps room stage value) (pop_takes (pop_on queue stage) stage value)

  -- what the step at this stage does to the channel
  abbrev pub effect_at : PopStage → ℕ → Effect
  effect_at stage value = receive_effect (submission_word slots) queue (words_in s) beside stage value

  -- a step at this stage that changes no word, after which the receive is as `after` says,
  -- keeps the invariant
  abbrev pub Looks : PopStage → Bool → After LoanFlight (Answer T) → Effect → Type 0
  Looks stage back after effect =
      GivesBy scene p s.completion spanned calls.Receive (asked stage) back after effect

  -- the receive's own step at this stage, with this room, keeps the invariant, as `Looks` says
  abbrev pub LooksOf : PopStage → OneWord → Type 0
  LooksOf stage room = Looks stage (goes_back stage (old stage)) (goes stage room (old stage)) (effect_at stage (old stage))

  -- the step is the one with this result, as the call computes it
  looks_by : (stage : PopStage) (room : OneWord) (back : Bool) (after : After LoanFlight (Answer T)) (effect : Effect)
      → goes_back stage (old stage) ≡ back → goes stage room (old stage) ≡ after → effect_at stage (old stage) ≡ effect
      → Looks stage back after effect → LooksOf stage room
  looks_by = grind arith

  -- the receiver is alive, and its receive has written nothing
  module _ (r : ReceiverCalls scene p calls.Receive) where
    open r use {holds, other, alive, receives, from}

    -- ---- the words of the submission queue

    -- the write position is below 2^64 - 2
    pub reached : s.submission.write < 2 ^ 64 - 2
    reached = let sent = holds.sent in omega arith

    -- the submission queue has five words and one for each index that may wait
    pub long : length queued ≡ 5 + queue
    long = submission_long holds.parts

    -- ---- the receive goes on

    -- the step at the stage `now` changes no word and leads to the stage `after_it`, where `back` says whether the receive turns back
    module _ (now after_it : PopStage) (room : OneWord) (back : Bool) (on : IsOn queued (pop_asks queue now))
        (words : words_after queued (ask_of (pop_asks queue now)) ≡ queued)
        (known : KnowsOverflowPop queue s.submission room after_it)
        (steps : x.steps + step_count (asked now) ≤ 2 * (x.backs + one_if back) + overflow_pop_number after_it)
        (paid : (n : ℕ) → KnowsBacks s.submission (since + n) (changes + n) (x.backs + one_if back) after_it) where
      -- a step that changes no word and goes on leads the receive to the pop's next stage, and writes nothing
      goes_on : Looks now back (GoOn (receive_at slots queue p after_it room)) effects.Quiet
      goes_on = (
        gives_on r (asked now) back (nothing_stored holds) (receive_at slots queue p after_it room)
            (submission_words holds.parts (pop_asks queue now) on words) (omega arith) (other, refl, refl, refl, refl, λ lives. (receives, known))
            (paid (change_of (words_in s) (asked now))),
        refl,
      )

    -- ---- nothing waits

    -- the act of a receive that finds nothing
    abbrev acted : Event T
    acted = Acted p call answers.PoppedNone

    -- the end of a receive that finds nothing
    abbrev ends : Event T
    ends = Finished p call answers.PoppedNone

    abbrev told : List (Event T)
    told = acted ∷ ends ∷ []

    -- the events move no index
    told_still : AreStill told
    told_still = grind arith

    module _ (read : ℕ) (empty : s.submission.waiting ≡ []) where
      -- the receiver after a receive that finds nothing
      abbrev y_none : Party T
      y_none = party_then scene calls.Receive (asked (pops.LoadsWrite read)) false (Done answers.PoppedNone)

      -- the events tell that the two queues stay
      tells_none : Tells queue (is_reclaiming s.events) s.submission.waiting s.submission.waiting s.completion.waiting s.completion.waiting told
      tells_none = grind (arith, items, take, take-nil, append-nil)

      -- events that move no index leave each index in passing carried by its call
      passing_none : (i q : ℕ) → spot_of i (s.events ++ told) ≡ Passing q → Carries i (span_of q (s.events ++ told))
      passing_none i q spot_is =
          carried_on p s.events told (refl, (refl, tt)) from i q (holds.passing i q (sym (spots_still i s.events told told_still) ∙ spot_is))
          (λ carried. absurd carried)

      -- the end of the receive, where nothing waits, keeps what holds between two turns
      shows_none : Shows slots queue s (given_then slots queue s s.completion (s.events ++ told) p) p y_none latest turns told
      shows_none =
          let same = receiver_still s.events told told_still in
          let placed = placed_still told told_still holds.parts.placed in
          let span = span_of-other p 0 s.events told (λ e. other (sym e)) (refl, (refl, tt)) in
          let still = sends_still latest y_none p other in
          grind (arith, tells_none, passing_none)

      -- the load of the write position ends the receive with no index, where nothing waits
      finds_none : IsOn queued (pop_asks queue (pops.LoadsWrite read)) → x.steps ≤ 2 * x.backs + 1
          → x.backs + since ≤ changes
          → Looks (pops.LoadsWrite read) false (Done answers.PoppedNone) effects.FindsNone
      finds_none on steps paid =
          let words = submission_words holds.parts (pop_asks queue (pops.LoadsWrite read)) on {ws = queued} refl in
          let others =
          at_given slots queue s s.completion (s.events ++ told) p
          (record { receiver = receives; alive = alive; pop = λ room stage known. known; passes = λ q i ne e. spots_still i s.events told told_still ∙ e }) in
          grind (arith, shows_none)

    -- ---- each stage at which no index is taken out

    -- the load of the read position leads on to the load of the write position
    loads_read : (room : OneWord) → x.steps ≤ 2 * x.backs → x.backs + since ≤ changes → LooksOf pops.LoadsRead room
    loads_read room steps paid =
        let some = holds.parts.some in
        let on_queue : 1 < length queued = (let wide = long in omega arith) in
        let is : goes pops.LoadsRead room (old pops.LoadsRead)
        ≡ GoOn (receive_at slots queue p (pops.LoadsWrite s.submission.read) room) =
        ap (goes pops.LoadsRead room) (submission_old holds.parts (pop_asks queue pops.LoadsRead) on_queue) in
        rw is (goes_on pops.LoadsRead (pops.LoadsWrite s.submission.read) room false on_queue refl
        (omega arith, omega arith, λ less. absurd (omega arith)) (omega arith) (λ n. (omega arith, omega arith)))

    -- the load of the write position leads on to the cell, or ends the receive where nothing waits
    loads_write : (read : ℕ) (room : OneWord)
        → KnowsOverflowPop queue s.submission room (pops.LoadsWrite read) → x.steps ≤ 2 * x.backs + 1
        → x.backs + since + s.submission.read ≤ changes + read → LooksOf (pops.LoadsWrite read) room
    loads_write read room known steps paid = go (s.submission.write == read) refl
      where
        -- the word of the write position is one of the queue's
        on : 0 < length queued
        on = let wide = long in omega arith

        -- the cases are whether the submission queue has nothing to read
        go : (b : Bool) → (s.submission.write == read) ≡ b → LooksOf (pops.LoadsWrite read) room
        -- nothing waits: the receive ends with no index
        go true t =
            let write = holds.parts.submission.write in
            let low = known.1 in
            let same : s.submission.write ≡ read = grind (arith, nat_tests) in
            let none : length s.submission.waiting ≡ 0 = omega arith in
            looks_by (pops.LoadsWrite read) room false (Done answers.PoppedNone) effects.FindsNone refl
            (ap (goes (pops.LoadsWrite read) room) (submission_old holds.parts (pop_asks queue (pops.LoadsWrite read)) on) ∙ (rw t refl))
            (ap (effect_at (pops.LoadsWrite read)) (submission_old holds.parts (pop_asks queue (pops.LoadsWrite read)) on) ∙ (rw t refl))
            (finds_none read (nil_from_length s.submission.waiting none) on steps (omega arith))
        -- an index waits: the receive goes on to load its cell
        go false t =
            let write = holds.parts.submission.write in
            let some = holds.parts.some in
            let low = known.1 in
            let apart : s.submission.write ≢ read = grind (arith, nat_tests) in
            let ahead : s.submission.read < s.submission.write =
            ⊎_elim known.2 (λ (still : s.submission.read ≤ read). omega arith) (cases_lt read s.submission.read) in
            looks_by (pops.LoadsWrite read) room false (GoOn (receive_at slots queue p (pops.LoadsCell read) room))
            effects.Quiet refl (ap (goes (pops.LoadsWrite read) room) (submission_old holds.parts (pop_asks queue (pops.LoadsWrite read)) on) ∙ (rw t refl))
            (ap (effect_at (pops.LoadsWrite read)) (submission_old holds.parts (pop_asks queue (pops.LoadsWrite read)) on) ∙ (rw t refl))
            (goes_on (pops.LoadsWrite read) (pops.LoadsCell read) room false on refl
            (omega arith, low, ahead) (omega arith) (λ n. (low, omega arith)))

    -- the load of the cell leads on to the move of the read position, with the index in the receive's room
    loads_cell : (read : ℕ) (room : OneWord)
        → KnowsOverflowPop queue s.submission room (pops.LoadsCell read) → x.steps ≤ 2 * x.backs + 2
        → x.backs + since + s.submission.read ≤ changes + read → LooksOf (pops.LoadsCell read) room
    loads_cell read room known steps paid =
        let write = holds.parts.submission.write in
        let some = holds.parts.some in
        let low = known.1 in
        let ahead = known.2 in
        let first = oldest queue s.submission holds.parts.submission (omega arith) in
        let cell_within = submission.cell_on holds.parts reached read in
        let found : old (pops.LoadsCell read) ≡ get_or s.submission.cells (read % (queue + 1)) 0 =
        submission_old holds.parts (pop_asks queue (pops.LoadsCell read)) cell_within
        ∙ submission.cell_is holds.parts reached read in
        let is : goes (pops.LoadsCell read) room (old (pops.LoadsCell read))
        ≡ GoOn (receive_at slots queue p (pops.MovesRead read) (word_of (get_or s.submission.cells (read % (queue + 1)) 0))) =
        ap (goes (pops.LoadsCell read) room) found in
        subst (λ a. Looks (pops.LoadsCell read) false a effects.Quiet) (sym is) (goes_on (pops.LoadsCell read) (pops.MovesRead read)
        (word_of (get_or s.submission.cells (read % (queue + 1)) 0)) false cell_within (set-get_or queued (cell_word queue read) 0) (
          omega arith,
          low,
          ahead,
          λ same. (first.0, subst (λ r. s.submission.waiting ≡ get_or s.submission.cells (r % (queue + 1)) 0 ∷ first.0) (sym same) first.1),
        ) (omega arith) (λ n. (low, omega arith)))

    -- where a send has moved the read position since, the receive turns back to load the cell of the
    -- position that it found
    moves_back : (read : ℕ) (room : OneWord)
        → KnowsOverflowPop queue s.submission room (pops.MovesRead read) → (s.submission.read == read) ≡ false
        → x.steps ≤ 2 * x.backs + 3 → x.backs + since + s.submission.read ≤ changes + read
        → LooksOf (pops.MovesRead read) room
    moves_back read room known moved steps paid =
        let some = holds.parts.some in
        let low = known.1 in
        let ahead = known.2 in
        let apart : s.submission.read ≢ read = grind (arith, nat_tests) in
        let on_queue : 1 < length queued = (let wide = long in omega arith) in
        let found : old (pops.MovesRead read) ≡ s.submission.read = submission_old holds.parts (pop_asks queue (pops.MovesRead read)) on_queue in
        looks_by (pops.MovesRead read) room true (GoOn (receive_at slots queue p (pops.LoadsCell s.submission.read) room)) effects.Quiet
        (ap (goes_back (pops.MovesRead read)) found ∙ (rw moved refl)) (ap (goes (pops.MovesRead read) room) found ∙ (rw moved refl))
        (ap (effect_at (pops.MovesRead read)) found ∙ (rw moved refl)) (goes_on (pops.MovesRead read) (pops.LoadsCell s.submission.read) room true on_queue
        (submission.stays_words holds.parts reached read moved)
        (omega arith, omega arith, ahead) (omega arith) (λ n. (omega arith, omega arith)))

    -- at each stage at which the next step takes no index out, the step keeps the invariant
    pub looks : (stage : PopStage) (room : OneWord) → IsLook s stage → KnowsOverflowPop queue s.submission room stage
        → x.steps ≤ 2 * x.backs + overflow_pop_number stage → KnowsBacks s.submission since changes x.backs stage
        → LooksOf stage room
    looks pops.FindsNone room is_look known steps paid = let some = holds.parts.some in absurd (omega arith)
    looks pops.LoadsRead room is_look known steps paid = loads_read room (omega arith) paid
    looks (pops.LoadsWrite read) room is_look known steps paid = loads_write read room known steps paid.1
    looks (pops.LoadsCell read) room is_look known steps paid = loads_cell read room known steps paid.1
    looks (pops.MovesRead read) room is_look known steps paid = moves_back read room known is_look steps paid.1
