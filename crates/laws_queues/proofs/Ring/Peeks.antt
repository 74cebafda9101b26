-- Each step of a bounded queue's peek keeps the invariant. They are the steps of a pop without the last,
-- which moves the read position.
use Rattle.laws_queues.proofs.Names.{◌≡◌, ℕ, ◌+◌, ◌<◌, ◌≤◌, ◌==◌, nat_lt, Bool, true, false, ◌||◌, Option, Some}
use Rattle.laws_queues.proofs.Names.{List, [], length, get_or, map, slice_get, refl, sym, ap, ◌∙◌, nat_tests, Ask}
use Rattle.laws_queues.proofs.Names.{After, GoOn, Done, QueueFlight, RingCall, Quiet, Item, Peek, Answer, Coding}
use Rattle.laws_queues.proofs.Names.{IsCoding, answer_of_item, load_of_write, load_of_read, words_after, step_count}
use Rattle.std.proofs.Common.{arith}
use Rattle.steps.specs.declared.queues.peek.PeekStage.{PeekStage}
use Rattle.steps.specs.declared.queues.peek.PeekStage.TheVariants as peeks
use Rattle.steps.specs.Queues.Ring.{cell_word}
use Rattle.model.specs.declared.event.Answer.TheVariants as answers
use Rattle.laws_queues.proofs.Queues.Core.{Good}
use Rattle.laws_queues.proofs.Queues.Invariant.{Scene, waiting_is}
use Rattle.laws_queues.proofs.Queues.Knows.{layout}
use Rattle.laws_queues.proofs.Queues.Stages.{TakesStep, first_of_some, cell_asked, DoesStep, same_queue, ends}
use Rattle.laws_queues.proofs.Queues.Values.{Val, item}
use Rattle.laws_queues.proofs.Ring.Calls.{good_before, RingStep, leads_on, word_load, word_stays, with_loaded}
use Rattle.laws_queues.proofs.Ring.Kinds.{Ring, kind_of, Room, words_in, flight, got, enc, read_in, ring_after, are_words}
use Rattle.laws_queues.proofs.Ring.Kinds.{peek_here, none_hangs, answer_is, most_peek}
use Rattle.laws_queues.proofs.Ring.Knows.{peek_at, KnowsPeek, peek_number}
use Rattle.laws_queues.proofs.Ring.Words.{none_waits, some_waits, loads_more, loads_last}

-- The party `p` holds the consumer's role and has a peek under way. `c` is the capacity, `k` the queue
-- before the step (positions, values that wait, cells).
module _ {T : Type 0} {en : Coding T} (r : Ring) (law : IsCoding en) {scene : Scene T (kind_of r)} (takes : TakesStep en (kind_of r) scene)
    (room : Room r) (holds : scene.roles.consumer ≡ Some scene.party) where
  open scene use {capacity as c, roles as ro, core as k, party as p, steps, backs, since, changes, events}
  open takes use {inv, no_backs}

  abbrev size : ℕ
  size = (enc en r).size

  abbrev items : List (Val T (kind_of r)) → List (Item T)
  items xs = map (item (kind_of r)) xs

  -- the queue before the step is right
  good : Good size (enc en r).words_of c k
  good = good_before r takes

  -- the peek at a stage
  abbrev at : PeekStage → RingCall (Val T (kind_of r)) (Room r)
  at stage = peek_at c room stage

  -- a step with this operation, after which the peek is `after`, keeps the
  -- invariant (`Shows`, Queues/Invariant)
  abbrev StepKeeps : Option Ask → After (QueueFlight T) (Answer T) → Type 0
  StepKeeps ask after = DoesStep en (kind_of r) scene [] Peek ask false after Quiet

  -- the peek's step at this stage keeps the invariant (`Shows`)
  abbrev StageKeeps : PeekStage → Type 0
  StageKeeps stage = RingStep r takes Peek (at stage)

  -- what the peek knows at this stage, with this room
  abbrev PeekKnows : Room r → PeekStage → Type 0
  PeekKnows there stage = KnowsPeek (enc en r) c k (words_in r there) stage

  -- a step that leaves the queue as it is, after which the peek is at this stage with this room
  goes_on : (ask : Option Ask) (room' : Room r) (stage : PeekStage)
      → words_after (layout ro k) ask ≡ layout ro k → PeekKnows room' stage → steps + step_count ask ≤ peek_number size stage
      → StepKeeps ask (GoOn (flight r (peek_at c room' stage)))
  goes_on ask room' stage words known most =
      leads_on r takes Peek ask (peek_at c room' stage) (same_queue inv) words (peek_here en r c ro k p (peek_at c room' stage) (holds, refl, known)) most

  -- a step that ends the peek with the oldest value that waits, or None
  tells : (ask : Option Ask) (answer : Answer T) → words_after (layout ro k) ask ≡ layout ro k
      → answer ≡ answer_of_item (slice_get (items k.waiting) 0) → steps + step_count ask ≤ 2 + size → StepKeeps ask (Done answer)
  tells ask answer words right most = (
    k,
    words,
    ends inv (record {
      start = Peek;
      answer = answer;
      ask = ask;
      back = false;
      roles_then = ro;
      written = [];
      producers = refl;
      consumers = refl;
      wrote = record { moments = refl; published = refl; handed_out = refl };
      tells = right ∙ ap (λ (xs : List (Item T)). answer_of_item (slice_get xs 0)) (sym (waiting_is events (items k.waiting) inv.queue.book));
      grants = tt;
      steps = rw (most_peek en r (backs + 0)) most;
      paid = omega arith;
      hangs = none_hangs T r c k _;
      others = λ q ne st f h. (h, refl);
    }),
  )

  -- the load of the read position leads on to the load of the write position
  loads_read : size ≤ length (words_in r room) → steps ≤ 0 → StageKeeps peeks.LoadsRead
  loads_read long few_steps = goes_on (Some load_of_read) room (peeks.LoadsWrite k.read) refl (long, refl) (omega arith)

  -- the stage at which the peek loads the word `i` of the cell
  abbrev loads_cell : ℕ → PeekStage
  loads_cell i = peeks.LoadsCell (cell_word c size k.read) i

  -- the load of the write position ends the peek with None where nothing waits, and else leads on to the cell
  loads_write : size ≤ length (words_in r room) → steps ≤ 1 → StageKeeps (peeks.LoadsWrite k.read)
  loads_write long few_steps = go (c == 0 || k.write == k.read) refl
    where
      -- the cases are whether nothing waits
      go : (t : Bool) → (c == 0 || k.write == k.read) ≡ t → StageKeeps (peeks.LoadsWrite k.read)
      -- nothing waits: the peek ends with None
      go true t =
          let goes : ring_after en r (at (peeks.LoadsWrite k.read)) k.write ≡ Done (answers.PoppedNone) = rw t refl in
          let none = none_waits good t in
          rw goes (tells (Some load_of_write) answers.PoppedNone refl
          (sym (ap (λ (xs : List (Val T (kind_of r))). answer_of_item {T = T} (slice_get (items xs) 0)) none)) (omega arith))
      -- something waits: the peek goes on to load the first word of its value
      go false t =
          let goes : ring_after en r (at (peeks.LoadsWrite k.read)) k.write ≡ GoOn (flight r (at (loads_cell 0))) = rw t refl in
          let first = first_of_some k.waiting (some_waits good t) in
          let one = (are_words en r law).some in
          let known : PeekKnows room (loads_cell 0) =
          (long, first.0, first.1, refl, first.2, refl, omega arith, λ i h. absurd (omega arith)) in
          rw goes (goes_on (Some load_of_write) room (loads_cell 0) refl known (omega arith))

  -- the load of the `i`th word of the front value leads on to the next word, or ends the peek with the value
  loads_word : (i : ℕ) → PeekKnows room (loads_cell i) → steps ≤ 2 + i → StageKeeps (loads_cell i)
  loads_word i known few_steps = go (nat_lt (i + 1) size) refl
    where
      -- the word that the step loads
      old : ℕ
      old = get_or (layout ro k) (cell_asked size c k.read i) 0

      -- the room with this word in its place
      next : Room r
      next = with_loaded r takes room i

      -- the cases are whether a further word of the value follows
      go : (t : Bool) → nat_lt (i + 1) size ≡ t → StageKeeps (loads_cell i)
      -- a further word follows: the peek goes on to load it
      go true t =
          let goes : ring_after en r (at (loads_cell i)) old ≡ GoOn (flight r (peek_at c next (loads_cell (i + 1)))) = rw t refl in
          let further : i + 1 < size = grind (arith, nat_tests) in
          rw goes (goes_on (word_load r takes i) next (loads_cell (i + 1)) (word_stays r takes i)
          (loads_more r law ro inv.queue.fits good room i known further) (omega arith))
      -- it was the last word: the peek ends with the front value
      go false t =
          let v : Val T (kind_of r) = read_in en r next in
          let goes : ring_after en r (at (loads_cell i)) old ≡ Done (got r v) = rw t refl in
          let below = known.6 in
          let last : size ≡ i + 1 = (let over : size ≤ i + 1 = grind (arith, nat_tests) in omega arith) in
          let has = loads_last r law ro inv.queue.fits good room i known last in
          rw goes (tells (word_load r takes i) (got r v) (word_stays r takes i)
          (sym (ap (λ (xs : List (Val T (kind_of r))). answer_of_item {T = T} (slice_get (items xs) 0)) has.2 ∙ answer_is r v))
          (omega arith))

  -- each step of a peek keeps the invariant (`Shows`)
  pub peek_step : (stage : PeekStage) → PeekKnows room stage → steps ≤ peek_number size stage → StageKeeps stage
  peek_step peeks.LoadsRead known few_steps = loads_read known few_steps
  peek_step (peeks.LoadsWrite read) known few_steps =
      rw known.1 (loads_write known.0 few_steps)
  peek_step (peeks.LoadsCell cell i) known few_steps =
      rw known.5 (loads_word i (known.0, known.1, known.2, refl, known.4, refl, known.6, known.7) few_steps)
