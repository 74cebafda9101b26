-- The steps of a give-back: the receiver pushes its index into the completion queue, which has room for
-- every index. Each keeps the invariant: it has the fields of `Steps` (Sender).
use Rattle.laws_loan.proofs.Names.{◌≡◌, ℕ, ◌+◌, ◌-◌, ◌^◌, ◌<◌, ◌≤◌, Bool, true, false, Option, List, [], ◌∷◌}
use Rattle.laws_loan.proofs.Names.{◌++◌, length, refl, sym, ap, subst, ◌∙◌, append-nil, append_assoc, Ask, Want}
use Rattle.laws_loan.proofs.Names.{After, GoOn, Push, completion_word, shifted, part_after, went_on, Answer, Event}
use Rattle.laws_loan.proofs.Names.{Returned, Finished, Start, LoanFlight, GiveBack, Effect, Party, one_word}
use Rattle.laws_loan.proofs.Names.{ask_of, Passing, Returning, spot_of, give_back_effect, as_it_is}
use Rattle.laws_loan.proofs.Names.{words_of_index, Span, Open, span_of, as_call, old_of, words_after, step_count}
use Rattle.laws_loan.proofs.Names.{span_of-other, Core, filled, layout, KnowsPush, push_number}
use Rattle.std.proofs.Common.{arith}
use Rattle.steps.specs.declared.ask.After.TheVariants.{Done}
use Rattle.steps.specs.declared.queues.ring.PushStage.{PushStage}
use Rattle.steps.specs.declared.queues.ring.PushStage.TheVariants as pushes
use Rattle.steps.specs.Queues.Ring.{cell_word, push_asks, push_takes}
use Rattle.model.specs.declared.event.Answer.TheVariants as answers
use Rattle.model.specs.declared.event.Start.TheVariants as starts
use Rattle.model.specs.declared.families.loan.LoanStart.TheVariants as calls
use Rattle.model.specs.declared.families.loan.effects.Effect.TheVariants as effects
use Rattle.laws_queues.proofs.Queues.Core.{Good, published}
use Rattle.laws_queues.proofs.Ring.Keeping.{fill_keeps, publish_keeps}
use Rattle.laws_loan.proofs.Channel.{no_roles, words_in}
use Rattle.laws_loan.proofs.Completion as completion
use Rattle.laws_loan.proofs.Cuts.{IsOn}
use Rattle.laws_loan.proofs.Giving.{GivesBy, StillWaits, nothing_stored, gives_on}
use Rattle.laws_loan.proofs.Knows.{Passes}
use Rattle.laws_loan.proofs.GiveBackInterference.{at_given, given_then}
use Rattle.laws_loan.proofs.OneMove.{OneMove, carried, passes_on, same_receiver}
use Rattle.laws_loan.proofs.Parts.{completion_long, completion_old, completion_words}
use Rattle.laws_loan.proofs.Placed.{Placed}
use Rattle.laws_loan.proofs.Rooms.{returns_room}
use Rattle.laws_loan.proofs.Scene.{Scene, ReceiverCalls}
use Rattle.laws_loan.proofs.Sender.{party_then}
use Rattle.laws_loan.proofs.Spots.{passing_same, returning_passes}
use Rattle.laws_loan.proofs.Still.{placed_still}
use Rattle.laws_loan.proofs.Table.{returns_it}
use Rattle.laws_loan.proofs.QueueEvents.{Tells, silent_tells, is_reclaiming}
use Rattle.laws_loan.proofs.Turns.{Shows, sends_still}

-- the push of a give-back at a stage
abbrev pub push_on : ℕ → PushStage → Push ℕ
push_on slots stage = record { capacity = slots; stage = stage; of = record {} }

-- the give-back at a stage of its push
abbrev pub give_at : ℕ → ℕ → ℕ → ℕ → PushStage → LoanFlight
give_at slots queue p index stage =
    GiveBack p (record { call = record { base = completion_word slots queue; call = push_on slots stage }; given = index; room = tt })

-- how the give-back goes on, or ends, where `push` is how its push has gone on or ended
abbrev pub given_after : (T : Type 0) → ℕ → ℕ → ℕ → ℕ → After (Push ℕ) Bool → After LoanFlight (Answer T)
given_after T slots queue p index push =
    as_call (λ r. GiveBack p r) answers.Truth (went_on as_it_is index tt (part_after (completion_word slots queue) push))

-- the receiver `p` gives the index back
module _ {T : Type 0} (scene : Scene T) (p index : ℕ) where
  open scene use {slots, queue, state as s, latest, turns, caller as x}

  abbrev start : Start T
  start = starts.Loan (calls.GiveBack index)

  -- the span of the give-back before the step, with nothing written
  abbrev spanned : Span T
  spanned = Open start []

  -- what the push wants at this stage
  abbrev want : PushStage → Want (Unit {0})
  want stage = push_asks words_of_index stage index

  -- the operation that the give-back asks for at this stage
  abbrev pub asked : PushStage → Option Ask
  asked stage = ask_of (shifted (completion_word slots queue) (want stage))

  -- the old value of the word that it asks for
  abbrev old : PushStage → ℕ
  old stage = old_of (words_in s) (asked stage)

  -- the words of the completion queue
  abbrev queued : List ℕ
  queued = layout no_roles s.completion

  -- how the give-back goes on from this stage, or ends
  abbrev pub after_of : PushStage → After LoanFlight (Answer T)
  after_of stage = given_after T slots queue p index (push_takes 1 (push_on slots stage) stage (old stage))

  -- a step at this stage that leaves the completion queue `k` keeps the invariant
  abbrev StepTo : Core ℕ → PushStage → After LoanFlight (Answer T) → Effect → Type 0
  StepTo k stage after effect =
      GivesBy scene p k spanned (calls.GiveBack index) (asked stage) false after effect

  -- the step of the give-back at this stage keeps the invariant, with some completion queue
  pub record StageKeeps (stage : PushStage) : Type 0 where
    pub queue_then : Core ℕ
    pub step : StepTo queue_then stage (after_of stage) (give_back_effect index stage)

  -- the receiver is alive and the index is in passing in its give-back
  module _ (r : ReceiverCalls scene p (calls.GiveBack index)) (passes : Passes slots queue s p index) (straight : x.backs ≡ 0) where
    open r use {holds, other, alive, receives, from}

    -- ---- the words of the completion queue

    -- the completion queue's write position is below its last value
    reached : s.completion.write < 2 ^ 64 - 2
    reached = let given = holds.given in omega arith

    -- there is room, as the index itself waits in no queue
    room : length s.completion.waiting < slots
    room = returns_room holds.parts.placed index p passes.0 passes.1

    -- the completion queue has four words and one for each index
    long : length queued ≡ 4 + slots
    long = completion_long holds.parts

    -- each step of the push counts as one
    one_step : (stage : PushStage) → step_count (asked stage) ≡ 1
    one_step = grind arith

    -- ---- the give-back goes on

    -- the step at the stage `stage` leaves the completion queue `k`, in which the same indices wait, and leads to the stage `stage'`
    module _ (stage stage' : PushStage) {k : Core ℕ} (kept : StillWaits scene k) (on : IsOn queued (want stage))
        (words : words_after queued (ask_of (want stage)) ≡ layout no_roles k)
        (known : KnowsPush one_word slots k index stage') (steps : x.steps + 1 ≤ push_number 1 stage') (low : push_number 1 stage' ≤ 3) where
      -- a step of the push that goes on, and leaves what waits, leads the give-back to the push's next
      -- stage and writes nothing
      goes_on : StepTo k stage (GoOn (give_at slots queue p index stage')) effects.Quiet
      goes_on =
          let one = one_step stage in (
            gives_on r (asked stage) false kept (give_at slots queue p index stage') (completion_words holds.parts (want stage) on words)
                (omega arith)
                (other, refl, refl, refl, refl, refl, low, λ lives. (receives, (passes.0, ap (spot_of index) (append-nil s.events) ∙ passes.1), known))
                (omega arith),
            refl,
          )

    -- ---- the give-back ends: its index waits in the completion queue

    -- the event that the receiver has given the index back
    abbrev returned : Event T
    returned = Returned p index

    abbrev ends : Event T
    ends = Finished p start (answers.Truth true)

    -- the events of the last step: the index is given back, and the call ends
    abbrev told : List (Event T)
    told = returned ∷ ends ∷ []

    -- the stage of the last step, the store of the next write position
    abbrev last : PushStage
    last = pushes.StoresWrite s.completion.write

    -- the receiver after the give-back
    abbrev y_end : Party T
    y_end = party_then scene (calls.GiveBack index) (asked last) false (Done (answers.Truth true))

    -- the completion queue once the index waits in it
    abbrev full : Core ℕ
    full = published 1 words_of_index slots s.completion index

    -- the events one after the other are all that the step writes
    whole : (s.events ++ returned ∷ []) ++ ends ∷ [] ≡ s.events ++ told
    whole = append_assoc s.events (returned ∷ []) (ends ∷ [])

    -- the events move the index alone, from passing into the completion queue
    one_move : OneMove p index s.events told (Passing p) Returning
    one_move = let was = passes.1 in grind arith

    -- the give-back leaves the span of the sender
    senders_span : span_of 0 (s.events ++ told) ≡ span_of 0 s.events
    senders_span = span_of-other p 0 s.events told (λ e. other (sym e)) (refl, (refl, tt))

    -- where each index is agrees with the claims, the queues and the book, once the index waits in the
    -- completion queue
    placed_end : Placed slots s.claims s.submission.waiting full.waiting s.book (s.events ++ told)
    placed_end =
        let placed =
        returns_it holds.parts.placed index
        passes.0 p other (receives ∙ holds.parts.placed.keeps.receiver) passes.1 in
        subst (Placed slots s.claims s.submission.waiting full.waiting s.book) whole
        (placed_still (ends ∷ [])
        (record { moves = refl; receiver = λ r. refl; dead = λ q b. refl }, tt) placed)

    module _ (good : Good 1 words_of_index slots full) where
      -- the store of the next write position keeps what holds between two turns: the index is returned, and
      -- the give-back ends
      shows_end : Shows slots queue s (given_then slots queue s full (s.events ++ told) p) p y_end latest turns told
      shows_end =
          let below = passes.0 in
          let was = passes.1 in
          let tells : Tells queue (is_reclaiming s.events) s.submission.waiting s.submission.waiting s.completion.waiting full.waiting told =
          silent_tells told refl refl refl refl in
          let still = sends_still latest y_end p other in
          let passing =
          carried one_move from holds.passing
          (λ i ne held. absurd (ne (sym held.0))) (λ q e. absurd (returning_passes q e)) in
          grind (arith, same_receiver, one_move, placed_end, senders_span)

      -- the store of the next write position ends the give-back with `true`
      ends_with : x.steps ≤ 3 → StepTo full last (Done (answers.Truth true)) (effects.Returns index)
      ends_with steps =
          let words =
          completion_words holds.parts (want last) (let wide = long in omega arith)
          (completion.publish_words holds.parts reached index room) in
          let others =
          at_given slots queue s full (s.events ++ told) p (record {
            receiver = receives;
            alive = alive;
            pop = publish_keeps one_word slots s.completion index;
            passes = λ q i ne. passes_on one_move q (λ same. ne (sym (passing_same p q same))) i;
          }) in
          grind (arith, shows_end)

    -- ---- each stage of a give-back

    -- the push at the load of the write position
    abbrev load_of_write : PushStage
    load_of_write = pushes.LoadsWrite

    -- the push at the load of the read position
    abbrev load_of_read : PushStage
    load_of_read = pushes.LoadsRead s.completion.write

    -- the push at the store of the index into its cell
    abbrev store_of_cell : PushStage
    store_of_cell = pushes.StoresCell s.completion.write (cell_word slots 1 s.completion.write) 0

    -- the load of the write position leads on to the load of the read position
    loads_write : x.steps ≤ 0 → StageKeeps load_of_write
    loads_write steps =
        let on_queue : 0 < length queued = (let wide = long in omega arith) in
        let goes : after_of load_of_write ≡ GoOn (give_at slots queue p index load_of_read) =
        ap (λ n. given_after T slots queue p index (push_takes 1 (push_on slots load_of_write) load_of_write n))
        (completion_old holds.parts (want load_of_write) on_queue)
        ∙ ap (given_after T slots queue p index) (completion.loads_write holds.parts reached)
        in
        record {
          queue_then = s.completion;
          step =
              rw goes (goes_on load_of_write load_of_read (nothing_stored holds) on_queue refl
              (refl, (let low = reached in omega arith)) (omega arith) (omega arith));
        }

    -- the load of the read position finds room, and the push goes on to store the index into the cell
    loads_read : x.steps ≤ 1 → StageKeeps load_of_read
    loads_read steps =
        let on_queue : 1 < length queued = (let wide = long in omega arith) in
        let goes : after_of load_of_read ≡ GoOn (give_at slots queue p index store_of_cell) =
        ap (λ n. given_after T slots queue p index (push_takes 1 (push_on slots load_of_read) load_of_read n))
        (completion_old holds.parts (want load_of_read) on_queue)
        ∙ ap (given_after T slots queue p index) (completion.loads_read holds.parts reached room)
        in
        record {
          queue_then = s.completion;
          step =
              rw goes (goes_on load_of_read store_of_cell (nothing_stored holds) on_queue refl
              (refl, room, refl, omega arith, (λ i below. absurd (omega arith)), (let low = reached in omega arith))
              (omega arith) (omega arith));
        }

    -- the store of the index into the cell leads on to the store of the next write position
    stores_cell : x.steps ≤ 2 → StageKeeps store_of_cell
    stores_cell steps =
        let stored = filled 1 words_of_index slots s.completion 0 index in
        let kept : StillWaits scene stored =
        record {
          waits = refl;
          write = refl;
          good = completion.fill_good holds.parts reached index room;
          pops = fill_keeps one_word slots s.completion 0 index;
        } in
        record {
          queue_then = stored;
          step =
              goes_on store_of_cell last kept (completion.cell_on holds.parts reached s.completion.write)
              (completion.fill_words holds.parts reached index room)
              (refl, room, completion.fill_whole holds.parts reached index room, (let low = reached in omega arith))
              (omega arith) (omega arith);
        }

    -- the step of a give-back at any stage keeps the invariant, where its push knows what the stage says
    pub does : (stage : PushStage) → KnowsPush one_word slots s.completion index stage → x.steps ≤ push_number 1 stage → StageKeeps stage
    does pushes.LoadsWrite known steps = loads_write steps
    does (pushes.LoadsRead write) known steps = rw known.0 (loads_read steps)
    does (pushes.StoresCell write cell at) known steps =
        let first : at ≡ 0 = (let below = known.3 in omega arith) in
        rw (first, known.2, known.0) (stores_cell (omega arith))
    does (pushes.StoresWrite write) known steps =
        rw known.0 (record { queue_then = full; step = ends_with (completion.publish_good holds.parts reached index room known.2) steps })
