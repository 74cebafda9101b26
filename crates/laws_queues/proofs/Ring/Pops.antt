-- Each step of a bounded queue's pop keeps the invariant.
use Rattle.laws_queues.proofs.Names.{◌≡◌, ◌≢◌, ℕ, suc, ◌+◌, ◌<◌, ◌≤◌, ◌==◌, nat_lt, Bool, true, false, ◌||◌, Option}
use Rattle.laws_queues.proofs.Names.{Some, List, [], ◌∷◌, length, get_or, map, drop, slice_get, refl, sym, ap, ◌∙◌}
use Rattle.laws_queues.proofs.Names.{append-nil, nat_tests, Ask, Store, After, GoOn, Done, after_position}
use Rattle.laws_queues.proofs.Names.{QueueFlight, RingCall, Effect, Quiet, Acts, Item, Pop, Answer, Coding}
use Rattle.laws_queues.proofs.Names.{IsCoding, read_word, answer_of_item, load_of_write, load_of_read}
use Rattle.laws_queues.proofs.Names.{words_after, change_of, step_count}
use Rattle.std.proofs.Common.{arith}
use Rattle.steps.specs.declared.queues.ring.PopStage.{PopStage}
use Rattle.steps.specs.declared.queues.ring.PopStage.TheVariants as pops
use Rattle.steps.specs.Queues.Ring.{cell_word}
use Rattle.model.specs.declared.event.Answer.TheVariants as answers
use Rattle.laws_queues.proofs.Queues.Core as core
use Rattle.laws_queues.proofs.Queues.Core.{Core, Good, taken}
use Rattle.laws_queues.proofs.Queues.Invariant.{Scene, waiting_is}
use Rattle.laws_queues.proofs.Queues.Keeping.{clash, same_roles, kept}
use Rattle.laws_queues.proofs.Queues.Knows.{free, layout}
use Rattle.laws_queues.proofs.Queues.Stages.{TakesStep, first_of_some, cell_asked, DoesStep, same_queue, acts}
use Rattle.laws_queues.proofs.Queues.Values.{Val, item}
use Rattle.laws_queues.proofs.Ring.Calls.{good_before, RingStep, leads_on, word_load, word_stays, with_loaded}
use Rattle.laws_queues.proofs.Ring.Kinds.{Ring, kind_of, Room, words_in, flight, enc, read_in, ring_after, are_words}
use Rattle.laws_queues.proofs.Ring.Kinds.{pop_here, ring_keeps, none_hangs, cells_are, list_after_pop, list_answers_pop}
use Rattle.laws_queues.proofs.Ring.Kinds.{listed_is, answer_is, got_is_right, hands_out, wrote_got, most_pop}
use Rattle.laws_queues.proofs.Ring.Keeping.{take_keeps}
use Rattle.laws_queues.proofs.Ring.Knows.{pop_at, KnowsPop, pop_number}
use Rattle.laws_queues.proofs.Ring.Words.{none_waits, some_waits, loads_more, loads_last}

-- The party `p` holds the consumer's role and has a pop under way. `c` is the capacity, `k` the queue
-- before the step (positions, values that wait, cells).
module _ {T : Type 0} {en : Coding T} (r : Ring) (law : IsCoding en) {scene : Scene T (kind_of r)} (takes : TakesStep en (kind_of r) scene)
    (room : Room r) (holds : scene.roles.consumer ≡ Some scene.party) where
  open scene use {capacity as c, roles as ro, core as k, party as p, steps, backs, since, changes, events}
  open takes use {inv, no_backs}

  abbrev size : ℕ
  size = (enc en r).size

  abbrev items : List (Val T (kind_of r)) → List (Item T)
  items xs = map (item (kind_of r)) xs

  -- the queue before the step is right
  good : Good size (enc en r).words_of c k
  good = good_before r takes

  -- the pop at a stage
  abbrev at : PopStage → RingCall (Val T (kind_of r)) (Room r)
  at stage = pop_at c room stage

  -- a step with this operation, after which the pop is `after`, keeps the
  -- invariant (`Shows`, Queues/Invariant)
  abbrev StepKeeps : Option Ask → After (QueueFlight T) (Answer T) → Effect T → Type 0
  StepKeeps ask after effect = DoesStep en (kind_of r) scene [] Pop ask false after effect

  -- the pop's step at this stage keeps the invariant (`Shows`)
  abbrev StageKeeps : PopStage → Type 0
  StageKeeps stage = RingStep r takes Pop (at stage)

  -- what the pop knows at this stage, with this room
  abbrev PopKnows : Room r → PopStage → Type 0
  PopKnows there stage = KnowsPop (enc en r) c k (words_in r there) stage

  -- a step that leaves the queue as it is, after which the pop is at this stage with this room
  goes_on : (ask : Option Ask) (room' : Room r) (stage : PopStage)
      → words_after (layout ro k) ask ≡ layout ro k → PopKnows room' stage → steps + step_count ask ≤ pop_number size stage
      → StepKeeps ask (GoOn (flight r (pop_at c room' stage))) Quiet
  goes_on ask room' stage words known most =
      leads_on r takes Pop ask (pop_at c room' stage) (same_queue inv) words (pop_here en r c ro k p (pop_at c room' stage) (holds, refl, known)) most

  -- the load of the read position leads on to the load of the write position
  loads_read : size ≤ length (words_in r room) → steps ≤ 0 → StageKeeps pops.LoadsRead
  loads_read long few_steps = goes_on (Some load_of_read) room (pops.LoadsWrite k.read) refl (long, refl) (omega arith)

  -- the load of the write position ends the pop with None, where nothing waits
  refused : k.waiting ≡ [] → steps ≤ 1 → StepKeeps (Some load_of_write) (Done (answers.PoppedNone)) Acts
  refused empty few_steps =
      let none : items k.waiting ≡ [] = ap items empty in
      acts inv (record {
        start = Pop;
        answer = answers.PoppedNone;
        ask = Some load_of_write;
        words = refl;
        producers = refl;
        consumers = refl;
        wrote = record { moments = refl; published = refl; handed_out = refl };
        tells = λ es. tt;
        grants = λ es. tt;
        right = waiting_is events (items k.waiting) inv.queue.book ∙ none;
        goes = list_after_pop r c k.waiting ∙ (ap (drop 1) none ∙ (sym none ∙ sym (listed_is r c k.waiting)));
        answers = list_answers_pop r c k.waiting ∙ ap (λ (xs : List (Item T)). answer_of_item (slice_get xs 0) ∷ []) none;
        steps = rw (most_pop en r (backs + 0)) (omega arith);
        paid = omega arith;
        calm = takes.before;
      })

  -- the stage at which the pop loads the word `i` of the cell
  abbrev loads_cell : ℕ → PopStage
  loads_cell i = pops.LoadsCell k.read (cell_word c size k.read) i

  -- the load of the write position ends the pop with None where nothing waits, and else leads on to the cell
  loads_write : size ≤ length (words_in r room) → steps ≤ 1 → StageKeeps (pops.LoadsWrite k.read)
  loads_write long few_steps = go (c == 0 || k.write == k.read) refl
    where
      -- the cases are whether nothing waits
      go : (t : Bool) → (c == 0 || k.write == k.read) ≡ t → StageKeeps (pops.LoadsWrite k.read)
      -- nothing waits: the pop ends with None
      go true t =
          let goes : ring_after en r (at (pops.LoadsWrite k.read)) k.write ≡ Done (answers.PoppedNone) = rw t refl in
          rw goes (refused (none_waits good t) few_steps)
      -- something waits: the pop goes on to load the first word of its value
      go false t =
          let goes : ring_after en r (at (pops.LoadsWrite k.read)) k.write ≡ GoOn (flight r (at (loads_cell 0))) = rw t refl in
          let first = first_of_some k.waiting (some_waits good t) in
          let one = (are_words en r law).some in
          let known : PopKnows room (loads_cell 0) =
          (long, first.0, first.1, refl, first.2, refl, omega arith, λ i h. absurd (omega arith)) in
          rw goes (goes_on (Some load_of_write) room (loads_cell 0) refl known (omega arith))

  -- the load of the `i`th word of the front value leads on to the next word, or to the store
  -- of the read position
  loads_word : (i : ℕ) → PopKnows room (loads_cell i) → steps ≤ 2 + i → StageKeeps (loads_cell i)
  loads_word i known few_steps = go (nat_lt (i + 1) size) refl
    where
      -- the word that the step loads
      old : ℕ
      old = get_or (layout ro k) (cell_asked size c k.read i) 0

      -- the room with this word in its place
      next : Room r
      next = with_loaded r takes room i

      -- the cases are whether a further word of the value follows
      go : (t : Bool) → nat_lt (i + 1) size ≡ t → StageKeeps (loads_cell i)
      -- a further word follows: the pop goes on to load it
      go true t =
          let goes : ring_after en r (at (loads_cell i)) old ≡ GoOn (flight r (pop_at c next (loads_cell (i + 1)))) = rw t refl in
          let further : i + 1 < size = grind (arith, nat_tests) in
          rw goes (goes_on (word_load r takes i) next (loads_cell (i + 1)) (word_stays r takes i)
          (loads_more r law ro inv.queue.fits good room i known further) (omega arith))
      -- it was the last word: the pop goes on to store the next read position
      go false t =
          let goes : ring_after en r (at (loads_cell i)) old ≡ GoOn (flight r (pop_at c next (pops.StoresRead k.read))) = rw t refl in
          let below = known.6 in
          let last : size ≡ i + 1 = (let over : size ≤ i + 1 = grind (arith, nat_tests) in omega arith) in
          rw goes (goes_on (word_load r takes i) next (pops.StoresRead k.read) (word_stays r takes i)
          (loads_last r law ro inv.queue.fits good room i known last) (omega arith))

  -- the store of the next read position ends the pop with the value in its room, the oldest that waits
  stores_read : (rest : List (Val T (kind_of r))) → k.waiting ≡ read_in en r room ∷ rest → steps ≤ 2 + size → StageKeeps (pops.StoresRead k.read)
  stores_read rest front_is few_steps =
      let v : Val T (kind_of r) = read_in en r room in
      let write = good.write in
      let reached = inv.queue.reached in
      let shorter : length k.waiting ≡ suc (length rest) = ap length front_is in
      let next : after_position k.read ≡ k.read + 1 = omega arith in
      let moved : (after_position k.read == k.read) ≡ false = grind (arith, nat_tests) in
      let one : change_of (layout ro k) (Some (record { word = read_word; op = Store (after_position k.read) })) ≡ 1 = rw moved refl in
      let first : items k.waiting ≡ item (kind_of r) v ∷ items rest = ap items front_is in
      let most = most_pop en r (backs + 0) in
      let after : Core (Val T (kind_of r)) = taken size (enc en r).words_of c k rest in
      let good_then = core.takes good front_is in
      let list = list_after_pop r c k.waiting ∙ (ap (drop 1) first ∙ sym (listed_is r c rest)) in
      let may = hands_out T r in
      let wrote = wrote_got {T = T} r {c = c} p v in
      let answer =
      list_answers_pop r c k.waiting
      ∙ (ap (λ (xs : List (Item T)). answer_of_item (slice_get xs 0) ∷ []) first ∙ ap (λ a. a ∷ []) (answer_is r v)) in
      let others =
      λ (q : ℕ) (ne : q ≢ p). kept (same_roles ro q) en c (kind_of r) k after (ring_keeps en r (record {
        push = λ mine w stage h. take_keeps (enc en r) c k v rest front_is w stage h;
        pop = λ mine other stage h. absurd (clash ro.consumer p q ne holds mine);
      })) in (
        after,
        ap (λ n. k.write ∷ n ∷ free ro.producer ∷ free ro.consumer ∷ k.cells) next,
        grind (arith, got_is_right, cells_are, none_hangs, append-nil),
      )

  -- each step of a pop keeps the invariant (`Shows`)
  pub pop_step : (stage : PopStage) → PopKnows room stage → steps ≤ pop_number size stage → StageKeeps stage
  pop_step pops.LoadsRead known few_steps = loads_read known few_steps
  pop_step (pops.LoadsWrite read) known few_steps =
      rw known.1 (loads_write known.0 few_steps)
  pop_step (pops.LoadsCell read cell i) known few_steps =
      rw (known.3, known.5) (loads_word i (known.0, known.1, known.2, refl, known.4, refl, known.6, known.7) few_steps)
  pop_step (pops.StoresRead read) known few_steps =
      rw known.1 (stores_read known.0 known.2 few_steps)
