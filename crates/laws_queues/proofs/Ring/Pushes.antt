-- Each step of a bounded queue's push keeps the invariant.
use Rattle.laws_queues.proofs.Names.{◌≡◌, ◌≢◌, ℕ, ◌+◌, ◌-◌, ◌*◌, ◌%◌, ◌^◌, ◌<◌, ◌≤◌, ◌==◌, nat_lt, Bool, true}
use Rattle.laws_queues.proofs.Names.{false, ◌||◌, Option, Some, List, [], ◌∷◌, ◌++◌, length, get_or, map, refl, sym}
use Rattle.laws_queues.proofs.Names.{ap, subst, ◌∙◌, nat_tests, map-append, length-map, Ask, Store, After, GoOn}
use Rattle.laws_queues.proofs.Names.{Done, distance, after_position, QueueFlight, RingCall, Effect, Quiet, Acts}
use Rattle.laws_queues.proofs.Names.{Publishes, Item, Answer, Coding, IsCoding, write_word, appended, load_of_write}
use Rattle.laws_queues.proofs.Names.{load_of_read, words_after, change_of, step_count}
use Rattle.std.proofs.Common.{arith}
use Rattle.steps.specs.declared.queues.ring.PushStage.{PushStage}
use Rattle.steps.specs.declared.queues.ring.PushStage.TheVariants as pushes
use Rattle.steps.specs.Queues.Ring.{cell_word}
use Rattle.model.specs.declared.event.Answer.TheVariants as answers
use Rattle.laws_queues.proofs.Queues.Core as core
use Rattle.laws_queues.proofs.Queues.Core.{Core, Holds, Good, filled, fills, one_filled, publishes, set_at}
use Rattle.laws_queues.proofs.Queues.Invariant.{Scene, waiting_is}
use Rattle.laws_queues.proofs.Queues.Keeping.{clash, same_roles, kept}
use Rattle.laws_queues.proofs.Queues.Knows.{free, layout}
use Rattle.laws_queues.proofs.Queues.Stages.{TakesStep, cell_asked, asked_place, Leaves, DoesStep, SameQueue, same_queue, acts}
use Rattle.laws_queues.proofs.Queues.Values.{Val, item}
use Rattle.laws_queues.proofs.Ring.Calls.{good_before, RingStep, leads_on}
use Rattle.laws_queues.proofs.Ring.Kinds.{Ring, kind_of, Room, flight, push, enc, ring_after, are_words, push_here, ring_keeps}
use Rattle.laws_queues.proofs.Ring.Kinds.{none_hangs, cells_are, list_after_push, list_answers_push, listed_is}
use Rattle.laws_queues.proofs.Ring.Kinds.{push_roles, push_grants, push_tells, push_producer, push_consumer}
use Rattle.laws_queues.proofs.Ring.Kinds.{false_is_right, true_is_right, named, wrote_false, wrote_true, most_push}
use Rattle.laws_queues.proofs.Ring.Keeping.{fill_keeps, publish_keeps}
use Rattle.laws_queues.proofs.Ring.Knows.{push_at, KnowsPush, push_number}
use Rattle.model.specs.Fresh.{IsFresh}

-- The party `p` holds the producer's role and pushes `v`. `c` is the capacity, `k` the queue before the
-- step (positions, values that wait, cells).
module _ {T : Type 0} {en : Coding T} (r : Ring) (law : IsCoding en) {scene : Scene T (kind_of r)} (takes : TakesStep en (kind_of r) scene)
    (v : Val T (kind_of r)) (holds : scene.roles.producer ≡ Some scene.party) where
  open scene use {capacity as c, roles as ro, core as k, party as p, steps, backs, since, changes, events}
  open takes use {inv, no_backs}

  abbrev size : ℕ
  size = (enc en r).size

  abbrev words_of : Val T (kind_of r) → List ℕ
  words_of = (enc en r).words_of

  abbrev items : List (Val T (kind_of r)) → List (Item T)
  items xs = map (item (kind_of r)) xs

  -- elements are coded as `IsCoding` asks
  lawful : IsCoding (enc en r)
  lawful = are_words en r law

  -- the queue before the step is right
  good_now : Good size words_of c k
  good_now = good_before r takes

  -- the push of `v` at a stage
  abbrev at : PushStage → RingCall (Val T (kind_of r)) (Room r)
  at stage = push_at c v stage

  -- a step with this operation, after which the push is `after`, keeps the
  -- invariant (`Shows`, Queues/Invariant)
  abbrev StepKeeps : Option Ask → After (QueueFlight T) (Answer T) → Effect T → Type 0
  StepKeeps ask after effect = DoesStep en (kind_of r) scene [] (push r v) ask false after effect

  -- a push leaves the roles as they are
  stays : (ask : Option Ask) (after : After (QueueFlight T) (Answer T)) (effect : Effect T)
      → Leaves en (kind_of r) scene ro [] (push r v) ask false after effect → StepKeeps ask after effect
  stays = grind (arith, push, false, push_roles)

  -- the push's step at this stage keeps the invariant (`Shows`)
  abbrev StageKeeps : PushStage → Type 0
  StageKeeps stage = RingStep r takes (push r v) (at stage)

  -- a step that changes at most the cells of the queue, after which the push is at this stage
  goes_on : (ask : Option Ask) (stage : PushStage) {k' : Core (Val T (kind_of r))} → SameQueue en (kind_of r) scene k'
      → words_after (layout ro k) ask ≡ layout ro k' → KnowsPush (enc en r) c k' v stage
      → steps + step_count ask ≤ push_number size stage → StepKeeps ask (GoOn (flight r (at stage))) Quiet
  goes_on ask stage {k'} same words known most =
      stays ask (GoOn (flight r (at stage))) Quiet
      (leads_on r takes (push r v) ask (at stage) same words (push_here en r c ro k' p v (at stage) (holds, refl, refl, known)) most)

  -- the load of the write position leads on to the load of the read position, as the write
  -- position is not the last
  loads_write : k.write < 2 ^ 64 - 1 → steps ≤ 0 → StageKeeps pushes.LoadsWrite
  loads_write fresh few_steps =
      let not_last : (k.write == 2 ^ 64 - 1) ≡ false = grind (arith, nat_tests) in
      let goes : ring_after en r (at pushes.LoadsWrite) k.write ≡ GoOn (flight r (at (pushes.LoadsRead k.write))) = rw not_last refl in
      rw goes
      (goes_on (Some load_of_write) (pushes.LoadsRead k.write) (same_queue inv) refl (refl, fresh) (omega arith))

  -- where the positions are the capacity apart, as many values wait as the capacity
  full : (c == 0 || distance k.write k.read == c) ≡ true → length k.waiting ≡ c
  full = grind arith

  -- where they are not, fewer values wait than the capacity
  room : (c == 0 || distance k.write k.read == c) ≡ false → length k.waiting < c
  room = grind arith

  -- the load of the read position ends the push with false, where the queue is full
  refused : length k.waiting ≡ c → steps ≤ 1 → StepKeeps (Some load_of_read) (Done (answers.Truth false)) Acts
  refused lap few_steps =
      let long : length (items k.waiting) ≡ length k.waiting = length-map k.waiting (item (kind_of r)) in
      let not_below : nat_lt (length (items k.waiting)) c ≡ false = grind (arith, nat_tests) in
      let none : appended c (items k.waiting) (item (kind_of r) v) ≡ items k.waiting = rw not_below refl in
      stays (Some load_of_read) (Done (answers.Truth false)) Acts (acts inv (record {
        start = push r v;
        answer = answers.Truth false;
        ask = Some load_of_read;
        words = refl;
        producers = push_producer r c events p v false ro.producer;
        consumers = push_consumer r c events p v false ro.consumer;
        wrote = wrote_false r c p v;
        tells = λ es. push_tells r c es p v false;
        grants = λ es. push_grants r c es p v false;
        right = false_is_right r c events p v (ap length (waiting_is events (items k.waiting) inv.queue.book) ∙ (long ∙ lap));
        goes = list_after_push r c k.waiting v ∙ (none ∙ sym (listed_is r c k.waiting));
        answers = list_answers_push r c k.waiting v ∙ ap (λ x. answers.Truth x ∷ []) not_below;
        steps = rw (most_push en r v (backs + 0)) (omega arith);
        paid = omega arith;
        calm = takes.before;
      }))

  -- the stage at which the push stores the word `i` of its element
  abbrev stores_cell : ℕ → PushStage
  stores_cell i = pushes.StoresCell k.write (cell_word c size k.write) i

  -- the load of the read position ends the push with false where the queue is full, and else
  -- leads on to the cell
  loads_read : k.write < 2 ^ 64 - 1 → steps ≤ 1 → StageKeeps (pushes.LoadsRead k.write)
  loads_read fresh few_steps = go (c == 0 || distance k.write k.read == c) refl
    where
      -- the cases are whether the queue is full
      go : (t : Bool) → (c == 0 || distance k.write k.read == c) ≡ t → StageKeeps (pushes.LoadsRead k.write)
      -- the queue is full: the push ends with false
      go true t =
          let goes : ring_after en r (at (pushes.LoadsRead k.write)) k.read ≡ Done (answers.Truth false) = rw t refl in
          rw goes (refused (full t) few_steps)
      -- there is room: the push goes on to store the first word of its value
      go false t =
          let goes : ring_after en r (at (pushes.LoadsRead k.write)) k.read ≡ GoOn (flight r (at (stores_cell 0))) = rw t refl in
          let some = lawful.some in
          rw goes (goes_on (Some load_of_read) (stores_cell 0) (same_queue inv) refl
          (refl, room t, refl, omega arith, (λ i h. absurd (omega arith)), fresh) (omega arith))

  -- the store of the `i`th word of the value leads on to the next word, or to the store of the write position
  stores_word : k.write < 2 ^ 64 - 1 → {i : ℕ} → length k.waiting < c → i < size
      → Holds size words_of c k.cells k.write v i → steps ≤ 2 + i → StageKeeps (stores_cell i)
  stores_word fresh {i} room below so_far few_steps = go (nat_lt (i + 1) size) refl
    where
      -- the word of the element that the step stores
      word : ℕ
      word = get_or (words_of v) i 0

      -- the store of this word into the cell
      ask : Option Ask
      ask = Some (record { word = cell_asked size c k.write i; op = Store word })

      -- the queue with the word in its cell
      next : Core (Val T (kind_of r))
      next = filled size words_of c k i word

      -- the queue with the word in its cell is right
      good : Good size words_of c next
      good = fills good_now i word room below

      -- the words after the store are those of the queue with the next word of the element in its cell
      words : words_after (layout ro k) ask ≡ layout ro next
      words =
          let few = lawful.few in
          let place = asked_place size c k.write i (omega arith) inv.queue.fits few below in
          set_at k.write k.read (free ro.producer) (free ro.consumer) k.cells (cell_asked size c k.write i) (size * (k.write % c) + i) word place

      -- one more word of the element stands in the cell
      more : Holds size words_of c next.cells next.write v (i + 1)
      more = one_filled good_now v i room below so_far

      -- the calls of other parties stand where they stood, and have written the same, once the word is stored
      same : SameQueue en (kind_of r) scene next
      same =
          record {
            waits = refl;
            write = refl;
            read = refl;
            good = rw (cells_are r c) good;
            others =
                λ q ne. kept (same_roles ro q) en c (kind_of r) k next (ring_keeps en r (record {
                  push = λ mine w stage h. absurd (clash ro.producer p q ne holds mine);
                  pop = λ mine other stage h. fill_keeps (enc en r) c k i word other stage h;
                }));
          }

      -- the cases are whether a further word of the value follows
      go : (t : Bool) → nat_lt (i + 1) size ≡ t → StageKeeps (stores_cell i)
      -- a further word follows: the push goes on to store it
      go true t =
          let goes : ring_after en r (at (stores_cell i)) (get_or (layout ro k) (cell_asked size c k.write i) 0)
          ≡ GoOn (flight r (at (stores_cell (i + 1)))) =
          rw t refl in
          let further : i + 1 < size = grind (arith, nat_tests) in
          subst (λ a. StepKeeps ask a Quiet) (sym goes)
          (goes_on ask (stores_cell (i + 1)) same words (refl, room, refl, further, more, fresh) (omega arith))
      -- it was the last word: the push goes on to store the next write position
      go false t =
          let goes : ring_after en r (at (stores_cell i)) (get_or (layout ro k) (cell_asked size c k.write i) 0)
          ≡ GoOn (flight r (at (pushes.StoresWrite k.write))) =
          rw t refl in
          let last : size ≡ i + 1 = (let over : size ≤ i + 1 = grind (arith, nat_tests) in omega arith) in
          subst (λ a. StepKeeps ask a Quiet) (sym goes)
          (goes_on ask (pushes.StoresWrite k.write) same words
          (refl, room, subst (λ n. Holds size words_of c next.cells next.write v n) (sym last) more, fresh)
          (omega arith))

  -- the store of the next write position ends the push with true, and its value waits behind the others
  stores_write : k.write < 2 ^ 64 - 1 → length k.waiting < c → Holds size words_of c k.cells k.write v size
      → steps ≤ 2 + size → StageKeeps (pushes.StoresWrite k.write)
  stores_write fresh room whole few_steps =
      let reached = inv.queue.reached in
      let long : length (items k.waiting) ≡ length k.waiting = length-map k.waiting (item (kind_of r)) in
      let is_below : nat_lt (length (items k.waiting)) c ≡ true = grind (arith, nat_tests) in
      let next : after_position k.write ≡ k.write + 1 = omega arith in
      let moved : (after_position k.write == k.write) ≡ false = grind (arith, nat_tests) in
      let one : change_of (layout ro k) (Some (record { word = write_word; op = Store (after_position k.write) })) ≡ 1 = rw moved refl in
      let joined : items k.waiting ++ item (kind_of r) v ∷ [] ≡ items (k.waiting ++ v ∷ []) = sym (map-append (item (kind_of r)) k.waiting (v ∷ [])) in
      let all : appended c (items k.waiting) (item (kind_of r) v) ≡ items (k.waiting ++ v ∷ []) = rw is_below joined in
      let most = most_push en r v (backs + 0) in
      let after : Core (Val T (kind_of r)) = core.published size words_of c k v in
      let good_then = publishes good_now v room whole in
      let name = named {T = T} r v in
      let wrote = wrote_true {T = T} r {c = c} p v in
      let list = list_after_push r c k.waiting v ∙ (all ∙ sym (listed_is r c (k.waiting ++ v ∷ []))) in
      let answer = list_answers_push r c k.waiting v ∙ ap (λ x. answers.Truth x ∷ []) is_below in
      let others =
      λ (q : ℕ) (ne : q ≢ p). kept (same_roles ro q) en c (kind_of r) k after (ring_keeps en r (record {
        push = λ mine w stage h. absurd (clash ro.producer p q ne holds mine);
        pop = λ mine other stage h. publish_keeps (enc en r) c k v other stage h;
      })) in
      stays (Some (record { word = write_word; op = Store (after_position k.write) }))
      (Done (answers.Truth true)) (Publishes (item (kind_of r) v)) (
        after,
        ap (λ n. n ∷ k.read ∷ free ro.producer ∷ free ro.consumer ∷ k.cells) next,
        grind (arith, push_grants, push_tells, push_producer, push_consumer, true_is_right, cells_are, none_hangs),
      )

  -- each step of a push keeps the invariant (`Shows`)
  pub push_step : (stage : PushStage) → IsFresh k.write stage
      → KnowsPush (enc en r) c k v stage → steps ≤ push_number size stage → StageKeeps stage
  push_step pushes.LoadsWrite fresh known few_steps = loads_write fresh few_steps
  push_step (pushes.LoadsRead write) fresh known few_steps = rw known.0 (loads_read known.1 few_steps)
  push_step (pushes.StoresCell write cell i) fresh known few_steps =
      rw (known.0, known.2) (stores_word known.5 known.1 known.3 known.4 few_steps)
  push_step (pushes.StoresWrite write) fresh known few_steps =
      rw known.0 (stores_write known.3 known.1 known.2 few_steps)
