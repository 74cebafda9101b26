-- The steps of a take-back before it releases its index: the sender pops the completion queue. Each keeps
-- the invariant: it has the fields of `Steps` (Sender).
use Rattle.laws_loan.proofs.Names.{◌≡◌, ℕ, ◌+◌, ◌-◌, ◌^◌, ◌<◌, ◌≤◌, Bool, false, Option, Some, None, List, [], ◌∷◌}
use Rattle.laws_loan.proofs.Names.{◌++◌, length, refl, sym, ap, ◌∙◌, append-nil, ◌==◌, ◌||◌, true, nat_tests}
use Rattle.laws_loan.proofs.Names.{set-get_or, Ask, After, GoOn, OneWord, completion_word, shifted, take_back_takes}
use Rattle.laws_loan.proofs.Names.{went_on, Answer, Event, Finished, TakenBack, Start, LoanFlight, TakeBack, Effect}
use Rattle.laws_loan.proofs.Names.{Party, one_word, ask_of, Passing, Returning, spot_of, taken_back}
use Rattle.laws_loan.proofs.Names.{take_back_effect, as_it_is, popped, words_of_index, Span, Open, span_of, as_call}
use Rattle.laws_loan.proofs.Names.{old_of, words_after, step_count, Core, taken, layout, in_one, KnowsPop, pop_number}
use Rattle.std.proofs.Common.{arith}
use Rattle.steps.specs.declared.ask.After.TheVariants.{Done}
use Rattle.steps.specs.declared.indices.unique.ReleaseStage.TheVariants as releases
use Rattle.steps.specs.declared.loan.take_back.TakeBackStage.TheVariants as take_backs
use Rattle.steps.specs.declared.queues.ring.PopStage.{PopStage}
use Rattle.steps.specs.declared.queues.ring.PopStage.TheVariants as pops
use Rattle.steps.specs.Queues.Ring.{pop_asks, cell_word, word_at}
use Rattle.model.specs.declared.event.Answer.TheVariants as answers
use Rattle.model.specs.declared.event.Start.TheVariants as starts
use Rattle.model.specs.declared.families.Flight.TheVariants as flights
use Rattle.model.specs.declared.families.loan.LoanStart.TheVariants as calls
use Rattle.model.specs.declared.families.loan.effects.Effect.TheVariants as effects
use Rattle.laws_queues.proofs.Ring.Keeping.{take_keeps}
use Rattle.laws_loan.proofs.Channel.{Channel, no_roles, words_in}
use Rattle.laws_loan.proofs.Completion as completion
use Rattle.laws_loan.proofs.Cuts.{IsOn}
use Rattle.laws_loan.proofs.Invariant.{Hangs, sends_at, counted_for, hung, Carries}
use Rattle.laws_loan.proofs.Lists.{first_there}
use Rattle.laws_loan.proofs.OneMove.{OneMove, carried, now_there, passes_on, same_receiver, span_after}
use Rattle.laws_loan.proofs.Parts.{completion_long, completion_old, completion_words}
use Rattle.laws_loan.proofs.Receives.{word_of}
use Rattle.laws_loan.proofs.Releases.{take_back_frees_at}
use Rattle.laws_loan.proofs.Rests.{KeepsSet, SetStep, keeps_all}
use Rattle.laws_loan.proofs.Rests as rests
use Rattle.laws_loan.proofs.Rooms.{back_below, index_is}
use Rattle.laws_loan.proofs.Scene.{Scene, SenderCalls}
use Rattle.laws_loan.proofs.Sender.{party_then, StepBy}
use Rattle.laws_loan.proofs.Spots.{returns_there, passing_same, returning_passes}
use Rattle.laws_loan.proofs.Table.{takes_it_back}
use Rattle.laws_loan.proofs.SenderInterference.{others_beside}
use Rattle.laws_loan.proofs.QueueEvents.{Tells, silent_tells, is_reclaiming}
use Rattle.laws_loan.proofs.Turns.{Shows, sends_now}

-- the take-back at a stage of its pop, with this room
abbrev pub pops_at : ℕ → ℕ → PopStage → OneWord → LoanFlight
pops_at slots queue stage found =
    TakeBack (record { call = record { slots = slots; queue = queue; stage = take_backs.Pops stage found }; given = tt; room = tt })

module _ {T : Type 0} (scene : Scene T) where
  open scene use {slots, queue, state as s, latest, turns, caller as x}

  abbrev start : Start T
  start = starts.Loan calls.TakeBack

  -- the span of the take-back before the step, with nothing written
  abbrev spanned : Span T
  spanned = Open start []

  -- the operation that the take-back asks for at this stage
  abbrev pub asked : PopStage → Option Ask
  asked stage = ask_of (shifted (completion_word slots queue) (pop_asks stage))

  -- the old value of the word that it asks for
  abbrev pub old : PopStage → ℕ
  old stage = old_of (words_in s) (asked stage)

  -- the words of the completion queue
  abbrev queued : List ℕ
  queued = layout no_roles s.completion

  -- how the take-back goes on from this stage, or ends, where the word has the value `value`
  abbrev pub goes : PopStage → OneWord → ℕ → After LoanFlight (Answer T)
  goes stage found value =
      as_call TakeBack popped
      (went_on as_it_is tt tt (take_back_takes (record { slots = slots; queue = queue; stage = take_backs.Pops stage found })
      (take_backs.Pops stage found) value))

  -- a step at this stage, to the channel `s'`, keeps the invariant
  abbrev StepTo : Channel T → PopStage → After LoanFlight (Answer T) → Effect → Type 0
  StepTo s' stage after effect = StepBy scene 0 s' spanned calls.TakeBack (asked stage) false after effect

  -- the step of the take-back at this stage, with this room, keeps the invariant
  pub record StageKeeps (stage : PopStage) (found : OneWord) : Type 0 where
    pub channel_then : Channel T
    pub step : StepTo channel_then stage (goes stage found (old stage)) (take_back_effect (take_backs.Pops stage found))

  -- the step is the one with this result, as the call computes it
  does_by : (s' : Channel T) (stage : PopStage) (found : OneWord) (after : After LoanFlight (Answer T)) → goes stage found (old stage) ≡ after
      → StepTo s' stage after (take_back_effect (take_backs.Pops stage found)) → StageKeeps stage found
  does_by = grind arith

  -- the sender has a take-back under way, which has written nothing
  module _ (m : SenderCalls scene) {under : PopStage} {had : OneWord}
      (here : sends_at latest ≡ Some (flights.Loan (pops_at slots queue under had))) (from : span_of 0 s.events ≡ spanned) where
    open m use {holds, small, straight}

    -- ---- the words of the completion queue

    -- the channel has at least one index
    some : 1 ≤ slots
    some = holds.parts.set.some

    -- the channel has fewer than 2 ^ 24 indices
    few : slots < 2 ^ 24
    few = let low = holds.parts.set.few in omega arith

    -- the write position is below its last value
    reached : s.completion.write < 2 ^ 64 - 2
    reached = let given = holds.given in let few_turns = small in omega arith

    -- the completion queue has four words and one for each index
    long : length queued ≡ 4 + slots
    long = completion_long holds.parts

    -- each step of the pop counts as one
    one_step : (stage : PopStage) → step_count (asked stage) ≡ 1
    one_step = grind arith

    -- at most the capacity waits in the submission queue
    calm : Hangs queue s.submission None
    calm = grind arith

    -- a take-back is not counted by the set
    idle : counted_for (sends_at latest) ≡ 0
    idle = ap counted_for here

    -- ---- the take-back goes on

    -- the channel after a step that changes nothing of it
    abbrev still : Channel T
    still = record s { submission = s.submission; completion = s.completion; book = s.book; events = s.events ++ [] }

    -- an operation that changes no word of the completion queue keeps the set (`KeepsSet`)
    keeps : (now : PopStage) → IsOn queued (pop_asks now) → words_after queued (ask_of (pop_asks now)) ≡ queued
        → KeepsSet slots queue s latest (asked now) s.set 0
    keeps now on words = keeps_all holds (completion_words holds.parts (pop_asks now) on words) idle (ap (hung s.submission.read) here)

    -- the step at this stage, with which the words of the indices stay
    abbrev set_step : PopStage → SetStep T
    set_step now = rests.set_step scene holds straight from (asked now) s.set

    -- a step that changes no word leads the take-back to the pop's next stage, and writes nothing
    goes_on : (now after_it : PopStage) (then_found : OneWord) → IsOn queued (pop_asks now)
        → words_after queued (ask_of (pop_asks now)) ≡ queued → KnowsPop one_word slots s.completion (in_one then_found) after_it
        → x.steps + 1 ≤ pop_number 1 after_it
        → StepTo still now (GoOn (pops_at slots queue after_it then_found)) effects.Quiet
    goes_on now after_it then_found on words known steps =
        let one = one_step now in (
          rests.goes_on (set_step now) (pops_at slots queue after_it then_found) (keeps now on words) refl
              (omega arith) (refl, refl, refl, refl, known) (omega arith),
          refl,
        )

    -- ---- nothing waits

    -- the pop at the load of the write position
    abbrev load_of_write : PopStage
    load_of_write = pops.LoadsWrite s.completion.read

    -- the channel after a take-back that finds nothing
    abbrev s_none : Channel T
    s_none = record s { submission = s.submission; completion = s.completion; book = s.book; events = s.events ++ Finished 0 start answers.PoppedNone ∷ [] }

    -- nothing is in passing in a take-back that has taken nothing
    none_carried : {A : Type 0} (i : ℕ) → Carries i spanned → A
    none_carried i carried = let clash : [] ≡ i ∷ [] = carried.0 in absurd (cc)

    -- the load of the write position ends the take-back with no index, where nothing waits
    finds_none : s.completion.waiting ≡ [] → IsOn queued (pop_asks load_of_write) → x.steps ≤ 1
        → StepTo s_none load_of_write (Done answers.PoppedNone) effects.Quiet
    finds_none empty on steps = (
      rests.ends (set_step load_of_write) answers.PoppedNone (keeps load_of_write on refl)
          (record { moves = refl; receiver = λ r. refl; dead = λ q b. refl }) refl
          (holds.told.given ∙ (ap (λ xs. taken_back s.events ++ xs) empty ∙ append-nil (taken_back s.events))) (λ i carried. none_carried i carried)
          (grind arith) (omega arith),
      refl,
    )

    -- ---- the first index leaves the completion queue

    module _ (index : ℕ) (rest : List ℕ) (first : s.completion.waiting ≡ index ∷ rest) where
      -- the pop at the store of the next read position
      abbrev store_of_read : PopStage
      store_of_read = pops.StoresRead s.completion.read

      -- the event that the sender takes the index back
      abbrev takes : Event T
      takes = TakenBack 0 index

      -- the completion queue once its first index is taken
      abbrev without : Core ℕ
      without = taken 1 words_of_index slots s.completion rest

      -- the take-back at the first stage of its release
      abbrev frees_at : LoanFlight
      frees_at = take_back_frees_at slots queue index releases.ClearsFlag

      -- the sender once it has the index
      abbrev y_taken : Party T
      y_taken = party_then scene calls.TakeBack (asked store_of_read) false (GoOn frees_at)

      -- the channel after the step
      abbrev s_taken : Channel T
      s_taken = record s { submission = s.submission; completion = without; book = s.book; events = s.events ++ takes ∷ [] }

      -- the index is one of the channel
      below : index < slots
      below = back_below holds.parts.placed index rest first

      -- the index was on its way back
      was_returning : spot_of index s.events ≡ Returning
      was_returning = grind (arith, returns_there, first_there)

      -- the event moves the index alone, from the completion queue into passing in the take-back
      one_move : OneMove 0 index s.events (takes ∷ []) Returning (Passing 0)
      one_move = grind (arith, was_returning)

      -- after the step the span is open with the taken index written
      open_then : span_of 0 (s.events ++ takes ∷ []) ≡ Open start (takes ∷ [])
      open_then = span_after one_move from

      -- the store of the next read position keeps what holds between two turns: the first index is taken back
      shows_taken : Shows slots queue s s_taken 0 y_taken latest turns (takes ∷ [])
      shows_taken =
          let good = completion.take_good holds.parts reached index rest first in
          let placed = takes_it_back holds.parts.placed index below rest first in
          let tells : Tells queue (is_reclaiming s.events) s.submission.waiting s.submission.waiting s.completion.waiting rest (takes ∷ []) =
          silent_tells (takes ∷ []) refl refl refl (append-nil s.completion.waiting ∙ first) in
          let passing =
          carried one_move from holds.passing (λ i ne. none_carried i)
          (λ q e. (sym (passing_same 0 q e), (refl, refl))) in
          grind (arith, open_then, sends_now, same_receiver, one_move, idle, calm, below, was_returning)

      -- the store of the next read position leads the take-back on to release that index
      takes_it : IsOn queued (pop_asks store_of_read) → x.steps ≤ 3 → StepTo s_taken store_of_read (GoOn frees_at) (effects.TakesBack index)
      takes_it on steps =
          let words = completion_words holds.parts (pop_asks store_of_read) on (completion.take_words holds.parts reached index rest first) in
          let there = now_there one_move in
          let others =
          others_beside slots queue s s_taken refl refl (λ room stage known. known) (take_keeps one_word slots s.completion index rest first)
          (λ q ne. passes_on one_move q (returning_passes q)) in
          grind (arith, shows_taken, open_then, below)

    -- ---- each stage of a take-back

    -- the load of the read position leads on to the load of the write position
    loads_read : (room : OneWord) → x.steps ≤ 0 → StageKeeps pops.LoadsRead room
    loads_read room steps =
        let on_queue : 1 < length queued = (let wide = long in omega arith) in
        does_by still pops.LoadsRead room (GoOn (pops_at slots queue load_of_write room))
        (ap (goes pops.LoadsRead room) (completion_old holds.parts (pop_asks pops.LoadsRead) on_queue))
        (goes_on pops.LoadsRead load_of_write room on_queue refl (omega arith, refl) (omega arith))

    abbrev load_of_cell : PopStage
    load_of_cell = pops.LoadsCell s.completion.read (cell_word slots 1 s.completion.read) 0

    -- the load of the write position leads on to the cell, or ends the take-back where nothing waits
    loads_write : (room : OneWord) → x.steps ≤ 1 → StageKeeps load_of_write room
    loads_write room steps = go (s.completion.write == s.completion.read) refl
      where
        -- the word of the write position is one of the queue's
        on : 0 < length queued
        on = let wide = long in omega arith

        -- the channel has at least one index
        none : (slots == 0) ≡ false
        none = let most = some in grind (arith, nat_tests)

        -- the cases are whether the completion queue is empty
        go : (same : Bool) → (s.completion.write == s.completion.read) ≡ same → StageKeeps load_of_write room
        -- nothing is to be taken back: the take-back ends with no index
        go true e =
            let zero = none in
            let both : (slots == 0 || s.completion.write == s.completion.read) ≡ true = rw (zero, e) refl in
            does_by s_none load_of_write room (Done answers.PoppedNone)
            (ap (goes load_of_write room) (completion_old holds.parts (pop_asks load_of_write) on) ∙ (rw both refl))
            (finds_none (completion.finds_none holds.parts reached e) on steps)
        -- an index is to be taken back: the take-back goes on to load its cell
        go false e =
            let zero = none in
            let both : (slots == 0 || s.completion.write == s.completion.read) ≡ false = rw (zero, e) refl in
            let ahead = completion.finds_some holds.parts reached e in
            let write = holds.parts.completion.write in
            let front = completion.first_of s.completion.waiting (omega arith) in
            let known : KnowsPop one_word slots s.completion (in_one room) load_of_cell =
            (omega arith, front.0, front.1, refl, front.2, refl, omega arith, λ i below. absurd (omega arith)) in
            does_by still load_of_write room (GoOn (pops_at slots queue load_of_cell room))
            (ap (goes load_of_write room) (completion_old holds.parts (pop_asks load_of_write) on) ∙ (rw both refl))
            (goes_on load_of_write load_of_cell room on refl known (omega arith))

    -- the load of the cell finds the first index, and leads on to the store of the read position
    loads_cell : (room : OneWord) (v : ℕ) (rest : List ℕ) → s.completion.waiting ≡ v ∷ rest → x.steps ≤ 2 → StageKeeps load_of_cell room
    loads_cell room v rest first steps =
        let cell_within = completion.cell_on holds.parts reached s.completion.read in
        let value : old load_of_cell ≡ v =
        completion_old holds.parts (pop_asks load_of_cell) cell_within
        ∙ completion.first_is holds.parts reached v rest first in
        does_by still load_of_cell room (GoOn (pops_at slots queue (pops.StoresRead s.completion.read) (word_of v)))
        (ap (goes load_of_cell room) value) (goes_on load_of_cell (pops.StoresRead s.completion.read) (word_of v) cell_within
        (set-get_or queued (word_at (cell_word slots 1 s.completion.read) 0) 0) (rest, refl, first) (omega arith))

    -- the store of the next read position keeps the invariant, where the room has the first index that waits
    stores_read : (room : OneWord) (rest : List ℕ) → s.completion.waiting ≡ room.0 ∷ rest → x.steps ≤ 3
        → StageKeeps (pops.StoresRead s.completion.read) room
    stores_read room rest first steps =
        let on_queue : 1 < length queued = (let wide = long in omega arith) in
        let low : slots < 2 ^ 32 = (let less = few in omega arith) in
        does_by (s_taken room.0 rest first) (pops.StoresRead s.completion.read) room
        (GoOn (take_back_frees_at slots queue room.0 releases.ClearsFlag))
        (ap (λ i. GoOn (take_back_frees_at slots queue i releases.ClearsFlag)) (index_is room.0 slots (below room.0 rest first) low))
        (takes_it room.0 rest first on_queue steps)

    -- the step of a take-back's pop at any stage keeps the invariant, where the pop knows what the stage says
    pub does : (now : PopStage) (room : OneWord) → KnowsPop one_word slots s.completion (in_one room) now → x.steps ≤ pop_number 1 now → StageKeeps now room
    does pops.LoadsRead room known steps = loads_read room steps
    does (pops.LoadsWrite read) room known steps =
        rw known.1 (loads_write room steps)
    does (pops.LoadsCell read cell at) room known steps =
        let first : at ≡ 0 = (let low = known.6 in omega arith) in
        rw (first, known.5, known.3) (loads_cell room known.1 known.2 known.4 (omega arith))
    does (pops.StoresRead read) room known steps =
        rw known.1 (stores_read room known.0 known.2 steps)
