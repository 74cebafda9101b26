-- Every step of a send's push keeps the invariant: it has the fields of `Steps` (Sender). Here are the
-- steps after the publishing over a full queue: the send moves the read position and loads the index that
-- it has so taken out; or a receive has moved the position before, and the send ends.
use Rattle.laws_loan.proofs.Names.{◌≡◌, ◌≢◌, ℕ, suc, ◌+◌, ◌-◌, ◌%◌, ◌^◌, ◌<◌, ◌≤◌, ◌==◌, inl, inr, true, false, Bool}
use Rattle.laws_loan.proofs.Names.{Option, List, [], ◌∷◌, ◌++◌, length, get_or, refl, sym, ap, subst, ◌∙◌, None}
use Rattle.laws_loan.proofs.Names.{append-nil, append_assoc, length-append, nat_tests, set-get_or, Ask, After, GoOn}
use Rattle.laws_loan.proofs.Names.{submission_word, load, Answer, Event, Published, HandedOut, Acted, Finished, Index}
use Rattle.laws_loan.proofs.Names.{Start, LoanFlight, Effect, Party, Passing, Waiting, spot_of, sent_at}
use Rattle.laws_loan.proofs.Names.{words_of_index, handed_out, Open, span_of, change_of, oldest, push_over}
use Rattle.laws_loan.proofs.Names.{take_keeps_pop, KnowsOverflowPush, overflow_push_number, Core, taken}
use Rattle.std.proofs.Common.{arith}
use Rattle.steps.specs.declared.ask.After.TheVariants.{Done}
use Rattle.steps.specs.declared.indices.unique.ReleaseStage.TheVariants as releases
use Rattle.steps.specs.declared.queues.overflow.PushStage.{PushStage}
use Rattle.steps.specs.declared.queues.overflow.PushStage.TheVariants as pushes
use Rattle.steps.specs.Queues.Overflow.{cell_word, push_asks}
use Rattle.model.specs.declared.event.Answer.TheVariants as answers
use Rattle.model.specs.declared.event.Start.TheVariants as starts
use Rattle.model.specs.declared.families.loan.LoanStart.TheVariants as calls
use Rattle.model.specs.declared.families.loan.effects.Effect.TheVariants as effects
use Rattle.laws_loan.proofs.Channel.{Channel, words_in}
use Rattle.laws_loan.proofs.Invariant.{sends_at, counted_for, hung, reclaims_in, Carries}
use Rattle.laws_loan.proofs.Knows.{Passes, PushAt, push_wrote}
use Rattle.laws_loan.proofs.Lists.{first_there}
use Rattle.laws_loan.proofs.OneMove.{OneMove, carried, now_there, passes_on, same_receiver, span_after}
use Rattle.laws_loan.proofs.Parts.{submission_old, submission_words, submission_change}
use Rattle.laws_loan.proofs.Placed.{Placed}
use Rattle.laws_loan.proofs.Publishes.{stores_write}
use Rattle.laws_loan.proofs.Releases.{send_frees_at}
use Rattle.laws_loan.proofs.Rests.{keeps_all}
use Rattle.laws_loan.proofs.Rests as rests
use Rattle.laws_loan.proofs.Rooms.{sent_below, index_is}
use Rattle.laws_loan.proofs.Scene.{Scene, SenderCalls}
use Rattle.laws_loan.proofs.Sender.{party_then}
use Rattle.laws_loan.proofs.Sends.{pushes_at, asked, old, queued, goes, effect_at, StepTo, StageKeeps, does_by, SendIsAt, reached, long}
use Rattle.laws_loan.proofs.Sends.{loads_write, loads_read, stores_cell}
use Rattle.laws_loan.proofs.Spots.{waits_there, passing_same, waiting_passes}
use Rattle.laws_loan.proofs.Still.{AreStill, placed_still}
use Rattle.laws_loan.proofs.Submission as submission
use Rattle.laws_loan.proofs.Table.{hands_it_out}
use Rattle.laws_loan.proofs.SenderInterference.{others_beside}
use Rattle.laws_loan.proofs.QueueEvents.{items, is_reclaiming, Tells}
use Rattle.laws_loan.proofs.Turns.{Shows, sends_now}

-- the sender has a send of the index under way; `holds` is the invariant before the step
module _ {T : Type 0} (scene : Scene T) (index : ℕ) (m : SenderCalls scene) where
  open m use {holds, straight}
  open scene use {slots, queue, state as s, latest, turns, caller as x}

  abbrev call : Start T
  call = starts.Loan (calls.Send index)

  abbrev publishes : Event T
  publishes = Published 0 (Index index)

  -- the operation that the send asks for at this stage
  abbrev asks : PushStage → Option Ask
  asks stage = asked scene index stage

  -- the old value of the word that it asks for
  abbrev value : PushStage → ℕ
  value stage = old scene index stage

  -- how the send goes on from this stage, or ends, where the word has the value `v`
  abbrev then_of : PushStage → ℕ → After LoanFlight (Answer T)
  then_of stage v = goes scene index stage v

  -- what the step at this stage does to the channel
  abbrev effect_of : PushStage → ℕ → Effect
  effect_of stage v = effect_at scene index stage v

  -- a step at this stage, to the channel `s'`, keeps the invariant
  abbrev KeepsTo : Channel T → List (Event T) → PushStage → After LoanFlight (Answer T) → Effect → Type 0
  KeepsTo s' wrote stage after effect = StepTo scene index s' wrote stage after effect

  -- the step of the send at this stage keeps the invariant
  abbrev StageKeepsAt : PushStage → Type 0
  StageKeepsAt stage = StageKeeps scene index stage

  abbrev party : PushStage → After LoanFlight (Answer T) → Party T
  party stage after = party_then scene (calls.Send index) (asks stage) false after

  -- the write position is below its last value
  low_write : s.submission.write < 2 ^ 64 - 2
  low_write = reached scene index m

  -- the submission queue has five words and one for each index that may wait
  wide : length (queued scene index) ≡ 5 + queue
  wide = long scene index m

  -- the index in the cell of the position `read`
  abbrev oldest_at : ℕ → ℕ
  oldest_at read = get_or s.submission.cells (read % (queue + 1)) 0

  -- the words of the whole have this index in that cell
  sent_is : (read : ℕ) → sent_at (submission_word slots) queue (words_in s) read ≡ oldest_at read
  sent_is read =
      submission_old holds.parts (load (cell_word queue read))
      (submission.cell_on holds.parts low_write read)
      ∙ submission.cell_is holds.parts low_write read

  -- the step at this stage of a send that has written `wrote`, with which the words of the indices stay
  abbrev set_step : PushStage → (wrote : List (Event T)) → span_of 0 s.events ≡ Open call wrote → rests.SetStep T
  set_step stage wrote from = rests.set_step scene holds straight from (asks stage) s.set

  -- once a send has published its index, it has none in passing until it takes one out
  none_carried : {A : Type 0} (i : ℕ) (wrote : List (Event T)) → handed_out wrote ≡ [] → Carries i (Open call (publishes ∷ wrote)) → A
  none_carried = grind arith

  -- ---- the send takes the oldest index out

  -- the push at its move of the read position
  abbrev moves : PushStage
  moves = pushes.MovesRead s.submission.read

  -- the push at the load of the oldest index
  abbrev loads : PushStage
  loads = pushes.LoadsCell s.submission.read

  -- the send is at its move of the read position, which has not moved since, and the queue
  -- is over its capacity
  module _ (here : SendIsAt scene index moves) (from : span_of 0 s.events ≡ Open call (publishes ∷ [])) (others rest : List ℕ)
      (waiting_is : s.submission.waiting ≡ others ++ index ∷ [])
      (first : s.submission.waiting ≡ oldest_at s.submission.read ∷ rest)
      (far : s.submission.write ≡ s.submission.read + queue + 1) (steps : x.steps ≤ 4) where
    -- the oldest index that waits
    abbrev u : ℕ
    u = oldest_at s.submission.read

    -- the submission queue once the oldest index is taken out
    abbrev k : Core ℕ
    k = taken 1 words_of_index (queue + 1) s.submission rest

    -- the event that the oldest index is handed to the sender
    abbrev hands : Event T
    hands = HandedOut 0 (Index u)

    -- the act of the send, which hands the oldest index back
    abbrev acts : Event T
    acts = Acted 0 call (answers.PoppedIndex u)

    abbrev told : List (Event T)
    told = hands ∷ acts ∷ []

    -- the channel after the step
    abbrev s_out : Channel T
    s_out = record s { submission = k; completion = s.completion; book = s.book; events = s.events ++ told }

    -- the sender after the step
    abbrev y_out : Party T
    y_out = party moves (GoOn (pushes_at slots queue loads index))

    -- the word of the read position is one of the queue's
    on : 1 < length (queued scene index)
    on = let all = wide in omega arith

    -- the oldest index is one of the channel
    below : u < slots
    below = sent_below holds.parts.placed u rest first

    -- besides the newest index as many wait as the capacity
    full : length others ≡ queue
    full = grind (arith, length-append, length)

    -- the oldest index waited
    was_waiting : spot_of u s.events ≡ Waiting
    was_waiting = grind (arith, waits_there, first_there)

    -- the act moves no index
    acts_still : AreStill (acts ∷ [])
    acts_still = grind arith

    -- the events one after the other are all that the step writes
    whole : (s.events ++ hands ∷ []) ++ acts ∷ [] ≡ s.events ++ told
    whole = append_assoc s.events (hands ∷ []) (acts ∷ [])

    -- the events move the oldest index alone, from the queue into passing in the send
    one_move : OneMove 0 u s.events told Waiting (Passing 0)
    one_move = grind (arith, was_waiting)

    -- after the step the span is open with what the send has written
    open_then : span_of 0 (s.events ++ told) ≡ Open call (publishes ∷ told)
    open_then = span_after one_move from

    -- each index is where the book and the events say, once the oldest one is in passing in the send
    placed_out : Placed slots s.claims rest s.completion.waiting s.book (s.events ++ told)
    placed_out =
        subst (Placed slots s.claims rest s.completion.waiting s.book) whole
        (placed_still (acts ∷ []) acts_still
        (hands_it_out holds.parts.placed u below 0 rest first (inl refl)))

    -- no reclaim is under way
    quiet : is_reclaiming s.events ≡ false
    quiet = holds.reclaiming ∙ ap reclaims_in from

    -- the events tell of the submission queue that its oldest index went out and that the send has acted
    tells_out : Tells queue (is_reclaiming s.events) s.submission.waiting rest s.completion.waiting s.completion.waiting told
    tells_out =
        let list = push_over {T = T} queue s.submission.waiting others u index rest waiting_is full first in
        rw quiet (grind (arith, append-nil, items))

    -- the exchange that takes the oldest index out keeps what holds between two turns: the send hands that
    -- index out to itself, and acts
    shows_out : Shows slots queue s s_out 0 y_out latest turns told
    shows_out =
        let write = holds.parts.submission.write in
        let shorter : length s.submission.waiting ≡ suc (length rest) = ap length first in
        let good = submission.take_good holds.parts low_write u rest first in
        let passing =
        carried one_move from holds.passing
        (λ i ne. none_carried i [] refl) (λ q e. (sym (passing_same 0 q e), inr (refl, refl))) in
        grind (arith, open_then, sends_now, same_receiver, one_move, placed_out, tells_out, quiet, below, was_waiting)

    -- the exchange leads the send on to the load of the cell
    takes_out : KeepsTo s_out (publishes ∷ []) moves (GoOn (pushes_at slots queue loads index)) (effects.TakesOut index u)
    takes_out =
        let some = holds.parts.some in
        let change : change_of (words_in s) (asks moves) ≡ 1 =
        submission_change holds.parts (push_asks queue moves index) on
        ∙ submission.take_changes holds.parts low_write u rest first in
        let words =
        submission_words holds.parts (push_asks queue moves index) on
        (submission.take_words holds.parts low_write u rest first) in
        let there = now_there one_move in
        let others =
        others_beside slots queue s s_out refl refl (take_keeps_pop queue s.submission rest far) (λ i stage known. known)
        (λ q ne. passes_on one_move q (waiting_passes q)) in
        grind (arith, shows_out, open_then, below)

    -- the step in which the send moves the read position keeps the invariant
    moves_read : StageKeepsAt moves
    moves_read =
        let is_same : (s.submission.read == s.submission.read) ≡ true = grind (arith, nat_tests) in
        let found : value moves ≡ s.submission.read = submission_old holds.parts (push_asks queue moves index) on in
        let place = sent_is s.submission.read in
        does_by scene index (effects.TakesOut index u) takes_out (rw is_same refl)
        (ap (then_of moves) found ∙ (rw is_same refl)) (ap (effect_of moves) found ∙ (rw (is_same, place) refl))

  -- ---- a receive has moved the read position before: the send has acted, and ends

  -- the act of a send that hands nothing back
  abbrev acted : Event T
  acted = Acted 0 call answers.PoppedNone

  -- the end of a send that hands nothing back
  abbrev ends : Event T
  ends = Finished 0 call answers.PoppedNone

  abbrev late : ℕ → PushStage
  late read = pushes.MovesRead read

  -- the send is at its move of the read position, which a receive has moved since
  module _ (read : ℕ) (here : SendIsAt scene index (late read))
      (from : span_of 0 s.events ≡ Open call (publishes ∷ acted ∷ [])) (moved : (s.submission.read == read) ≡ false)
      (apart : (read == s.submission.read) ≡ false) (steps : x.steps ≤ 4) where
    -- the channel after the end of the send
    abbrev s_end : Channel T
    s_end = record s { submission = s.submission; completion = s.completion; book = s.book; events = s.events ++ ends ∷ [] }

    -- the read position is one of the queue's words
    on_late : 1 < length (queued scene index)
    on_late = let all = wide in omega arith

    -- the send does not wait any more, as the read position is another
    calm : hung s.submission.read (sends_at latest) ≡ None
    calm = ap (hung s.submission.read) here ∙ (rw apart refl)

    -- the exchange fails, and the send, which has acted before, ends with no index
    finds_room : KeepsTo s_end (publishes ∷ acted ∷ []) (late read) (Done answers.PoppedNone) effects.Quiet
    finds_room = (
      rests.ends (set_step (late read) (publishes ∷ acted ∷ []) from) answers.PoppedNone
          (keeps_all holds (submission_words holds.parts (push_asks queue (late read) index) on_late
          (submission.stays_words holds.parts low_write read moved))
          (ap counted_for here) calm)
          (record { moves = refl; receiver = λ r. refl; dead = λ q b. refl }) refl tt
          (λ i carried. none_carried i (acted ∷ []) refl carried)
          (grind arith)
          (omega arith),
      refl,
    )

    -- the step in which the send finds the read position moved keeps the invariant
    moves_late : StageKeepsAt (late read)
    moves_late =
        let found : value (late read) ≡ s.submission.read = submission_old holds.parts (push_asks queue (late read) index) on_late in
        does_by scene index effects.Quiet finds_room (rw apart refl) (ap (then_of (late read)) found ∙ (rw moved refl))
        (ap (effect_of (late read)) found ∙ (rw moved refl))

  -- ---- the send loads the index that it has taken out

  abbrev wrote_out : ℕ → List (Event T)
  wrote_out read = publishes ∷ HandedOut 0 (Index (oldest_at read)) ∷ Acted 0 call (answers.PoppedIndex (oldest_at read)) ∷ []

  -- the send is at the load of the cell from which it has taken an index out
  module _ (read : ℕ) (here : SendIsAt scene index (pushes.LoadsCell read))
      (from : span_of 0 s.events ≡ Open call (wrote_out read)) (passes : Passes slots queue s 0 (oldest_at read))
      (steps : x.steps ≤ 5) where
    abbrev stage : PushStage
    stage = pushes.LoadsCell read

    -- the channel once the send begins to release the oldest index
    abbrev s_free : Channel T
    s_free = record s { submission = s.submission; completion = s.completion; book = s.book; events = s.events ++ [] }

    -- the send at the first stage of its release
    abbrev frees : LoanFlight
    frees = send_frees_at slots queue index (oldest_at read) releases.ClearsFlag

    -- the word of the cell is one of the queue's
    on_cell : cell_word queue read < length (queued scene index)
    on_cell = grind (arith, low_write)

    -- the load of the cell finds that index, and leads the send on to release it
    has_it : KeepsTo s_free (wrote_out read) stage (GoOn frees) effects.Quiet
    has_it = (
      rests.goes_on (set_step stage (wrote_out read) from) frees
          (keeps_all holds (submission_words holds.parts (push_asks queue stage index) on_cell
          (set-get_or (queued scene index) (cell_word queue read) 0)) (ap counted_for here) (ap (hung s.submission.read) here))
          refl (omega arith)
          (refl, refl, refl, refl, refl, (passes.0, ap (spot_of (oldest_at read)) (append-nil s.events) ∙ passes.1))
          (omega arith),
      refl,
    )

    -- the step in which the send loads the word of the cell keeps the invariant
    loads_cell : StageKeepsAt stage
    loads_cell =
        let few = holds.parts.set.few in
        let low : slots < 2 ^ 32 = omega arith in
        let found : value stage ≡ oldest_at read =
        submission_old holds.parts (push_asks queue stage index) on_cell
        ∙ submission.cell_is holds.parts low_write read in
        does_by scene index effects.Quiet has_it refl
        (ap (then_of stage) found
        ∙ ap (λ i. GoOn (send_frees_at slots queue index i releases.ClearsFlag)) (index_is (oldest_at read) slots passes.0 low))
        refl

  -- ---- every step of the push

  -- the step of a send's push at any stage keeps the invariant, where the send stands at the stage and
  -- knows what it says
  pub does : (now : PushStage) → SendIsAt scene index now
      → span_of 0 s.events ≡ Open call (push_wrote queue s.submission index now)
      → KnowsOverflowPush queue s.submission index now → PushAt slots queue s index now
      → x.steps ≤ overflow_push_number now → StageKeepsAt now
  does pushes.HandsBack here from known stands steps = absurd stands
  does pushes.LoadsWrite here from known stands steps =
      loads_write scene index m stands from here steps
  does (pushes.LoadsRead write) here from known stands steps =
      subst StageKeepsAt (ap (λ n. pushes.LoadsRead n) (sym known.1)) (loads_read scene index m stands from
      (subst (λ n. SendIsAt scene index (pushes.LoadsRead n)) known.1 here)
      steps)
  does (pushes.StoresCell write read) here from known stands steps =
      subst StageKeepsAt (ap (λ n. pushes.StoresCell n read) (sym known.1)) (stores_cell scene index m stands from read known.2 known.3
      (subst (λ n. SendIsAt scene index (pushes.StoresCell n read)) known.1 here)
      steps)
  does (pushes.StoresWrite write read) here from known stands steps =
      subst StageKeepsAt (ap (λ n. pushes.StoresWrite n read) (sym known.1)) (stores_write index m read
      (subst (λ n. SendIsAt scene index (pushes.StoresWrite n read)) known.1 here)
      stands from known.4 steps known.2 known.3)
  does (pushes.MovesRead read) here from known stands steps = go (s.submission.read == read) refl
    where
      -- the cases are whether the read position is still the one that was loaded
      go : (b : Bool) → (s.submission.read == read) ≡ b → StageKeepsAt (pushes.MovesRead read)
      go true read_same =
          let same : read ≡ s.submission.read = grind (arith, nat_tests) in
          let is_same : (s.submission.read == s.submission.read) ≡ true = grind (arith, nat_tests) in
          let last = known.3 same in
          let far = known.2 in
          let write = holds.parts.submission.write in
          let front = oldest queue s.submission holds.parts.submission (omega arith) in
          let wrote : push_wrote {T = T} queue s.submission index moves ≡ publishes ∷ [] = rw is_same refl in
          subst StageKeepsAt (ap (λ n. pushes.MovesRead n) (sym same)) (moves_read (subst (λ n. SendIsAt scene index (pushes.MovesRead n)) same here)
          (subst (λ n. span_of 0 s.events ≡ Open call (push_wrote queue s.submission index (pushes.MovesRead n))) same from
          ∙ ap (λ es. Open call es) wrote)
          last.0 front.0 last.1 front.1 (omega arith) steps)
      go false read_moved =
          let differs : s.submission.read ≢ read = grind (arith, nat_tests) in
          let apart : (read == s.submission.read) ≡ false = (let other : read ≢ s.submission.read = λ same. differs (sym same) in grind (arith, nat_tests)) in
          let wrote : push_wrote {T = T} queue s.submission index (late read) ≡ publishes ∷ acted ∷ [] = rw apart refl in
          moves_late read here (from ∙ ap (λ es. Open call es) wrote) read_moved apart steps
  does (pushes.LoadsCell read) here from known stands steps =
      loads_cell read here from stands steps
