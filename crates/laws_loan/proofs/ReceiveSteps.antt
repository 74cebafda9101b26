-- Each step of a receive, at any stage, leaves a machine with the invariant.
use Rattle.laws_loan.proofs.Names.{◌≡◌, ℕ, ◌+◌, ◌-◌, ◌%◌, ◌^◌, ◌<◌, ◌==◌, Bool, true, false, Option, Some, [], ◌∷◌}
use Rattle.laws_loan.proofs.Names.{length, get_or, set, fold, refl, sym, ap, subst, ◌∙◌, eq-eqb, nat_tests, Ask}
use Rattle.laws_loan.proofs.Names.{After, OneWord, Part, Pop, Running, index_in, submission_word, shifted, pop_takes}
use Rattle.laws_loan.proofs.Names.{pop_keeps, goes_back, load, Answer, Flight, Book, LoanFlight, Receive, Effect}
use Rattle.laws_loan.proofs.Names.{ask_of, has_died, beside, ended_book, book_after, receive_effect}
use Rattle.laws_loan.proofs.Names.{effects_of, sent_at, Open, span_of, old_of, oldest}
use Rattle.std.proofs.Common.{arith}
use Rattle.steps.specs.declared.ask.After.TheVariants.{Done}
use Rattle.steps.specs.declared.queues.overflow.PopStage.{PopStage}
use Rattle.steps.specs.declared.queues.overflow.PopStage.TheVariants as pops
use Rattle.steps.specs.Queues.Overflow.{cell_word, pop_asks}
use Rattle.model.specs.declared.event.Answer.TheVariants as answers
use Rattle.model.specs.declared.event.Start.TheVariants as starts
use Rattle.model.specs.declared.families.Flight.TheVariants as flights
use Rattle.model.specs.declared.families.loan.LoanStart.TheVariants as calls
use Rattle.model.specs.declared.families.loan.effects.Effect.TheVariants as effects
use Rattle.laws_loan.proofs.Channel.{Channel, words_in}
use Rattle.laws_loan.proofs.Scene.{Scene, ReceiverCalls, Underway, scene_of}
use Rattle.laws_loan.proofs.WaitingSends.{by_sender, beside_is}
use Rattle.laws_loan.proofs.Invariant.{sends_at, counted_for, hung}
use Rattle.laws_loan.proofs.Parts.{submission_long, submission_old}
use Rattle.laws_loan.proofs.Received.{book_told}
use Rattle.laws_loan.proofs.Receives.{receive_at, received_after, pop_on}
use Rattle.laws_loan.proofs.ReceiveTakes.{take_words, take_shows, take_owes}
use Rattle.laws_loan.proofs.Rooms.{sent_below, index_is}
use Rattle.laws_loan.proofs.Senders.{Stands, Comes, receive_looks}
use Rattle.laws_loan.proofs.StepLaw.{holds_now, inv_now, comes, ComesBy}
use Rattle.laws_loan.proofs.Submission as submission

module _ {T : Type 0} (m : Underway T) where
  open m use {coding as code, slots, queue, trace as t, sound, small}

  abbrev scene : Scene T
  scene = scene_of m

  abbrev s : Channel T
  s = sound.state

  abbrev busy : ℕ
  busy = counted_for (sends_at t.world.latest)

  -- ---- it takes an index out

  -- the receiver `p` is alive, and its receive is at the move of the read position, which has not moved since
  module _ (p : ℕ) (room : OneWord) (alive : has_died p s.book.dead ≡ false) (there : Stands m p (starts.Loan calls.Receive)
      (flights.Loan (receive_at slots queue p (pops.MovesRead s.submission.read) room))) where
    abbrev stage : PopStage
    stage = pops.MovesRead s.submission.read

    abbrev asks : Option Ask
    asks = ask_of (shifted (submission_word slots) (pop_asks queue stage))

    abbrev old : ℕ
    old = old_of (words_in s) asks

    -- how the receive goes on once it is handed `value`: to its next stage, or to its end
    abbrev goes : ℕ → After LoanFlight (Answer T)
    goes value = received_after T slots p (pop_keeps room stage value) (pop_takes (pop_on queue stage) stage value)

    -- what the step does to the channel
    abbrev does : ℕ → Effect
    does value = receive_effect (submission_word slots) queue (words_in s) (beside s.book (words_in s) t.world.latest p) stage value

    -- the index with which a send waits for this move, if one does
    abbrev waits : Option ℕ
    waits = hung s.submission.read (sends_at t.world.latest)

    -- a step after which the receive is as `after` says leaves a machine with the invariant
    abbrev StepIsSound : Bool → After LoanFlight (Answer T) → Effect → Type 0
    StepIsSound back after effect =
        ComesBy m p calls.Receive asks back after effect

    -- the receive has written nothing yet
    from : span_of p s.events ≡ Open (starts.Loan calls.Receive) []
    from = grind arith

    -- the exchange of the read position ends the receive with the index in its room, and a
    -- send that waited acts
    takes : StepIsSound false (Done (answers.PoppedIndex room.0)) (effects.Receives room.0 (by_sender waits))
    takes =
        let holds_there = holds_now m in
        let inv = inv_now m in
        let known = there.at.5 alive in
        let front = known.1.3 refl in
        let few = holds_there.parts.set.few in
        let low : slots < 2 ^ 32 = omega arith in
        let below = sent_below holds_there.parts.placed room.0 front.0 front.1 in
        let paid = there.knows.1 in
        let kept : ended_book {T = T} p calls.Receive (Some (answers.PoppedIndex room.0))
        (fold (book_after {T = T}) s.book
        (effects_of p (effects.Receives room.0 (by_sender waits)) (Some (answers.PoppedIndex room.0))))
        ≡ record s.book { holders = set s.book.holders room.0 (Some p) } =
        ap (λ (b : Book). record b { holders = set b.holders (index_in room.0) (Some p) }) (book_told p room.0 s.events waits s.book)
        ∙ ap (λ i. record s.book { holders = set s.book.holders i (Some p) }) (index_is room.0 slots below low)
        in
        let receiver_calls : ReceiverCalls scene p calls.Receive =
        record { holds = holds_there; small = small; other = there.at.0; alive = alive; receives = known.0; from = from } in
        comes m calls.Receive asks false (Done (answers.PoppedIndex room.0)) kept
        (take_words scene p room.0 front.0 receiver_calls inv front.1 there.steps (omega arith))
        (take_shows scene p room.0 front.0 receiver_calls inv front.1 there.steps (omega arith))
        (take_owes scene p room.0 front.0 receiver_calls inv front.1 there.steps (omega arith))

    -- the step in which the receive takes an index out leaves a machine with the invariant
    takes_out : Comes m p (starts.Loan calls.Receive) (flights.Loan (receive_at slots queue p stage room))
    takes_out =
        let holds_there = holds_now m in
        let inv = inv_now m in
        let known = there.at.5 alive in
        let front = known.1.3 refl in
        let sent = holds_there.sent in
        let reached : s.submission.write < 2 ^ 64 - 2 = omega arith in
        let wide = submission_long holds_there.parts in
        let here : (s.submission.read == s.submission.read) ≡ true = eq-eqb s.submission.read s.submission.read refl in
        let found : old ≡ s.submission.read = submission_old holds_there.parts (pop_asks queue stage) (omega arith) in
        let back : goes_back stage old ≡ false = ap (goes_back stage) found ∙ (rw here refl) in
        let comes_to : goes old ≡ Done (answers.PoppedIndex room.0) = ap goes found ∙ (rw here refl) in
        let first = oldest queue s.submission holds_there.parts.submission (let longer = ap length front.1 in omega arith) in
        let both : room.0 ∷ front.0 ≡ get_or s.submission.cells (s.submission.read % (queue + 1)) 0 ∷ first.0 = sym front.1 ∙ first.1 in
        let same : get_or s.submission.cells (s.submission.read % (queue + 1)) 0 ≡ room.0 = cc in
        let place : sent_at (submission_word slots) queue (words_in s) s.submission.read ≡ room.0 =
        submission_old holds_there.parts (load (cell_word queue s.submission.read))
        (submission.cell_on holds_there.parts reached s.submission.read)
        ∙ (submission.cell_is holds_there.parts reached s.submission.read ∙ same)
        in
        let push = beside_is code slots queue s t.world.latest t.world.turns holds_there p known.0 (span_of 0 s.events) (inv.calls 0) in
        let effect : does old ≡ effects.Receives room.0 (by_sender waits) = ap does found ∙ (rw (here, place, push) refl) in
        rw (back, comes_to, effect) takes

  -- ---- any step

  module _ (p : ℕ) (alive : has_died p s.book.dead ≡ false) where
    -- the receive stands in the machine at this stage, with this room
    abbrev StandsAt : PopStage → OneWord → Type 0
    StandsAt stage room =
        Stands m p (starts.Loan calls.Receive) (flights.Loan (receive_at slots queue p stage room))

    -- the step of the receive at this stage leaves a machine with the invariant
    abbrev ComesAt : PopStage → OneWord → Type 0
    ComesAt stage room =
        Comes m p (starts.Loan calls.Receive) (flights.Loan (receive_at slots queue p stage room))

    -- the exchange of the read position leaves a machine with the invariant, whether a send has moved the
    -- position before or not
    moves_read : (read : ℕ) (room : OneWord) → StandsAt (pops.MovesRead read) room → ComesAt (pops.MovesRead read) room
    moves_read read room there = go (s.submission.read == read) refl
      where
        -- the cases are whether the read position is still the one that was loaded
        go : (b : Bool) → (s.submission.read == read) ≡ b → ComesAt (pops.MovesRead read) room
        go true read_same =
            let same : read ≡ s.submission.read = grind (arith, nat_tests) in
            subst (λ n. ComesAt (pops.MovesRead n) room) (sym same)
            (takes_out p room alive (subst (λ n. StandsAt (pops.MovesRead n) room) same there))
        go false read_moved = receive_looks m p (pops.MovesRead read) room alive read_moved there

    -- the step of a receive at any stage leaves a machine with the invariant
    at_stage : (stage : PopStage) (room : OneWord) → StandsAt stage room → ComesAt stage room
    at_stage (pops.MovesRead read) room there = moves_read read room there
    at_stage pops.FindsNone room there = receive_looks m p pops.FindsNone room alive tt there
    at_stage pops.LoadsRead room there = receive_looks m p pops.LoadsRead room alive tt there
    at_stage (pops.LoadsWrite read) room there =
        receive_looks m p (pops.LoadsWrite read) room alive tt there
    at_stage (pops.LoadsCell read) room there =
        receive_looks m p (pops.LoadsCell read) room alive tt there

    -- the step of a receive of a living party leaves a machine with the invariant
    pub receive_comes : (by : ℕ) (run : Running (Part Pop) (Unit {0}) OneWord)
        → Stands m p (starts.Loan calls.Receive) (flights.Loan (Receive by run))
        → Comes m p (starts.Loan calls.Receive) (flights.Loan (Receive by run))
    receive_comes by run there =
        let stands = there.at in
        let named : ℕ → ℕ → ℕ → Flight T =
        λ n base capacity. flights.Loan (Receive n (record {
          call = record { base = base; call = record { capacity = capacity; stage = run.call.call.stage } };
          given = tt;
          room = run.room;
        })) in
        let same : flights.Loan (Receive by run) ≡ flights.Loan (receive_at slots queue p run.call.call.stage run.room) =
        ap (λ n. named n run.call.base run.call.call.capacity) stands.1
        ∙ (ap (λ base. named p base run.call.call.capacity) stands.2 ∙ ap (λ c. named p (submission_word slots) c) stands.3)
        in
        subst (λ flight. Comes m p (starts.Loan calls.Receive) flight) (sym same) (at_stage run.call.call.stage run.room
        (subst (λ flight. Stands m p (starts.Loan calls.Receive) flight) same there))
