-- Each step of an overflowing queue's pop keeps the invariant. The move of the read position can make a
-- pending push of another party act, so it may write an event of that party (`Takes`).
use Rattle.laws_queues.proofs.Names.{◌≡◌, ◌≢◌, ℕ, ◌+◌, ◌*◌, ◌%◌, ◌<◌, ◌≤◌, ◌==◌, Bool, true, false, ⊎_elim}
use Rattle.laws_queues.proofs.Names.{Option, Some, None, [], ◌∷◌, length, get_or, map, take, refl, sym, ap, subst}
use Rattle.laws_queues.proofs.Names.{◌∙◌, cases_lt, nat_tests, nil_from_length, set-get_or, take-nil, Ask}
use Rattle.laws_queues.proofs.Names.{Load, Exchange, After, GoOn, Done, OneWord, after_position, QueueFlight, Effect}
use Rattle.laws_queues.proofs.Names.{Quiet, Acts, Item, Index, Pop, Answer, PoppedNone, PoppedIndex, Queues}
use Rattle.laws_queues.proofs.Names.{Coding, read_word, after, goes_back, pending_at, pending, beside}
use Rattle.laws_queues.proofs.Names.{takes_effect, effect_of, party_of, doing_of, flight_of, Open, span_of}
use Rattle.laws_queues.proofs.Names.{words_after, step_count, load_of_write, load_of_read}
use Rattle.std.proofs.Common.{arith}
use Rattle.steps.specs.declared.queues.overflow.PopStage.{PopStage}
use Rattle.steps.specs.declared.queues.overflow.PopStage.TheVariants as overflow_pops
use Rattle.steps.specs.Queues.Overflow.{cell_word}
use Rattle.model.specs.declared.families.queues.calls.QueueFlight.TheVariants.{Overflow}
use Rattle.model.specs.declared.families.Flight.TheVariants as flights
use Rattle.model.specs.declared.families.queues.QueueKind.TheVariants as kinds
use Rattle.laws_queues.proofs.Queues.Invariant.{Scene, Inv, waiting_is}
use Rattle.laws_queues.proofs.Overflow.Core.{oldest}
use Rattle.laws_queues.proofs.Queues.Core.{word_at}
use Rattle.laws_queues.proofs.Overflow.Knows.{overflow_pop_at, KnowsOverflowPop, KnowsBacks, overflow_pop_number}
use Rattle.laws_queues.proofs.Queues.Knows.{free, layout}
use Rattle.laws_queues.proofs.Queues.Pending.{nothing_waits}
use Rattle.laws_queues.proofs.Queues.Stages.{DoesStep, Moves, MovesOf, same_queue, quiet, acts, alone, of_step}
use Rattle.laws_queues.proofs.Overflow.Takes.{takes_it}

-- The party `p` holds the consumer's role and has a pop under way. `c` is the capacity, `k` the queue
-- before the step (positions, values that wait, cells), `ro` the holders of the roles, `latest` the
-- parties' latest calls.
module _ {T : Type 0} {en : Coding T} {scene : Scene T kinds.Overflow}
    (inv : Inv en kinds.Overflow scene) (room : OneWord)
    (holds : scene.roles.consumer ≡ Some scene.party) where
  open scene use {capacity as c, roles as ro, core as k, party as p, steps, backs, since, changes, latest, events}

  -- the push that acts where this party moves the read position
  abbrev waits : Option (ℕ × ℕ)
  waits = beside ro (layout ro k) latest p

  -- the pop at a stage
  abbrev at : PopStage → QueueFlight T
  at stage = Overflow (overflow_pop_at c room stage)

  -- the pop once it has loaded this value into its room
  abbrev with_value : ℕ → PopStage → QueueFlight T
  with_value value stage = Overflow (overflow_pop_at c (record { 0 = value }) stage)

  -- a step with this operation, after which the pop is `after`, keeps the invariant and writes events of
  -- `p` alone (`Shows`, Queues/Invariant)
  abbrev StepKeeps : Option Ask → Bool → After (QueueFlight T) (Answer T) → Effect T → Type 0
  StepKeeps ask back after effect = DoesStep en kinds.Overflow scene [] Pop ask back after effect

  -- the pop's step at this stage keeps the invariant
  abbrev StageKeeps : PopStage → Type 0
  StageKeeps stage = MovesOf en kinds.Overflow scene Pop (at stage)

  -- `p` has no pending push: no push of `p` is about to move the read position
  module _ (calm : (position : ℕ) → pending_at position (flight_of (doing_of (party_of p latest))) ≡ None) where
    -- a step that changes no word ends the pop with no value, where nothing waits
    finds_none : (ask : Option Ask) → words_after (layout ro k) ask ≡ layout ro k → k.waiting ≡ []
        → steps + step_count ask ≤ 4 + 2 * backs → backs + since ≤ changes → StepKeeps ask false (Done PoppedNone) Acts
    finds_none ask same empty few_steps paid =
        let none : map {B = Item T} Index k.waiting ≡ [] = ap (map Index) empty in
        let list : map {B = Item T} Index (take c k.waiting) ≡ [] = ap (λ xs. map Index (take c xs)) empty ∙ ap (map Index) (take-nil {A = ℕ} c) in
        let zero : backs + 0 ≡ backs = omega arith in
        acts inv (record {
          start = Pop;
          answer = PoppedNone;
          ask = ask;
          words = same;
          producers = refl;
          consumers = refl;
          wrote = record { moments = refl; published = refl; handed_out = refl };
          tells = λ es. tt;
          grants = λ es. tt;
          right = waiting_is events (map Index k.waiting) inv.queue.book ∙ none;
          goes = rw list refl;
          answers = rw list refl;
          steps = rw zero few_steps;
          paid = omega arith;
          calm = calm k.read;
        })

    -- in a queue with a capacity, the load of the read position changes no word, and the pop goes on to
    -- load the write position
    loads_read : 0 < c → steps ≤ 2 * backs + 0 → backs + since ≤ changes
        → StepKeeps (Some load_of_read) false (GoOn (at (overflow_pops.LoadsWrite k.read))) Quiet
    loads_read some few_steps paid =
        quiet inv (calm k.read) (same_queue inv) (record {
          start = Pop;
          ask = Some load_of_read;
          back = false;
          flight = at (overflow_pops.LoadsWrite k.read);
          calm = refl;
          words = refl;
          here = record { span = refl; steps = omega arith; at = (holds, refl, (some, omega arith, λ less. absurd (omega arith))) };
          knows = (omega arith, omega arith);
        })

    -- the load of the write position goes on to the load of the cell, where something waits
    goes_on : (read : ℕ) → 0 < c → read ≤ k.read → k.read < k.write → steps ≤ 2 * backs + 1 → backs + since + k.read ≤ changes + read
        → StepKeeps (Some load_of_write) false (GoOn (at (overflow_pops.LoadsCell read))) Quiet
    goes_on read some low waits few_steps paid =
        quiet inv (calm k.read) (same_queue inv) (record {
          start = Pop;
          ask = Some load_of_write;
          back = false;
          flight = at (overflow_pops.LoadsCell read);
          calm = refl;
          words = refl;
          here = record { span = refl; steps = omega arith; at = (holds, refl, (some, low, waits)) };
          knows = (low, omega arith);
        })

    -- the load of the write position ends the pop with None where nothing waits, and else leads on to the
    -- load of the cell
    loads_write : (read : ℕ) → 0 < c → read ≤ k.read → (read < k.read → k.read < k.write) → steps ≤ 2 * backs + 1 → backs + since + k.read ≤ changes + read
        → StepKeeps (Some load_of_write) false (after en (at (overflow_pops.LoadsWrite read)) k.write) Acts
    loads_write read some low ahead few_steps paid = go (k.write == read) refl
      where
        -- the cases are whether the write position is the read position that was loaded, so
        -- that nothing waits
        go : (b : Bool) → (k.write == read) ≡ b → StepKeeps (Some load_of_write) false (after en (at (overflow_pops.LoadsWrite read)) k.write) Acts
        -- nothing waits: the pop ends with None
        go true t =
            let queue_good = inv.queue.good in
            let write = queue_good.write in
            let same : k.write ≡ read = grind (arith, nat_tests) in
            let goes : after en (at (overflow_pops.LoadsWrite read)) k.write ≡ Done PoppedNone = rw t refl in
            let none : length k.waiting ≡ 0 = omega arith in
            rw goes (finds_none (Some load_of_write) refl (nil_from_length k.waiting none) (omega arith) (omega arith))
        -- something waits: the pop goes on to load the cell
        go false t =
            let queue_good = inv.queue.good in
            let write = queue_good.write in
            let other : k.write ≢ read = grind (arith, nat_tests) in
            let goes : after en (at (overflow_pops.LoadsWrite read)) k.write ≡ GoOn (at (overflow_pops.LoadsCell read)) = rw t refl in
            let moved : read < k.read → k.read < k.write = ahead in
            let still : k.read ≤ read → k.read < k.write = λ h. omega arith in
            let waits : k.read < k.write = ⊎_elim moved still (cases_lt read k.read) in
            rw goes (goes_on read some low waits few_steps paid)

    -- the load of the cell puts its value into the pop's room, and the pop goes on to move the read position
    loads_cell : (read : ℕ) → 0 < c → read ≤ k.read → k.read < k.write → steps ≤ 2 * backs + 2 → backs + since + k.read ≤ changes + read
        → StepKeeps (Some (record { word = cell_word c read; op = Load })) false
        (GoOn (with_value (get_or k.cells (read % (c + 1)) 0) (overflow_pops.MovesRead read))) Quiet
    loads_cell read some low waits few_steps paid =
        let queue_good = inv.queue.good in
        let write = queue_good.write in
        let old = oldest c k queue_good (omega arith) in
        let same : words_after (layout ro k) (Some (record { word = cell_word c read; op = Load })) ≡ layout ro k =
        set-get_or (layout ro k) (cell_word c read) 0 in
        quiet inv (calm k.read) (same_queue inv) (record {
          start = Pop;
          ask = Some (record { word = cell_word c read; op = Load });
          back = false;
          flight = with_value (get_or k.cells (read % (c + 1)) 0) (overflow_pops.MovesRead read);
          calm = refl;
          words = same;
          here = record {
            span = refl;
            steps = omega arith;
            at = (
              holds,
              refl,
              (some, low, waits, λ here. (old.0, subst (λ r. k.waiting ≡ get_or k.cells (r % (c + 1)) 0 ∷ old.0) (sym here) old.1)),
            );
          };
          knows = (low, omega arith);
        })

    -- the exchange that moves the read position from `read` to the next
    abbrev asks_move : ℕ → Option Ask
    asks_move read = Some (record { word = read_word; op = Exchange read (after_position read) })

    -- where a push has moved the read position since, the exchange fails, and the pop turns back to load
    -- the cell of the position that it found
    moves_back : (read : ℕ) → 0 < c → read < k.read → k.read < k.write → steps ≤ 2 * backs + 3 → backs + since + k.read ≤ changes + read
        → StepKeeps (asks_move read) true (GoOn (at (overflow_pops.LoadsCell k.read))) Quiet
    moves_back read some moved waits few_steps paid =
        let is_other : (k.read == read) ≡ false = (let apart : k.read ≢ read = λ e. absurd (omega arith) in grind (arith, nat_tests)) in
        quiet inv (calm k.read) (same_queue inv) (record {
          start = Pop;
          ask = asks_move read;
          back = true;
          flight = at (overflow_pops.LoadsCell k.read);
          calm = refl;
          words = rw is_other refl;
          here = record { span = refl; steps = omega arith; at = (holds, refl, (some, omega arith, waits)) };
          knows = (omega arith, omega arith);
        })

    -- the exchange of the read position succeeds and the pop takes the oldest value, or it fails, as a push
    -- has moved the position, and the pop turns back
    moves_read : (read : ℕ) → KnowsOverflowPop c k room (overflow_pops.MovesRead read)
        → steps ≤ 2 * backs + 3 → backs + since + k.read ≤ changes + read → span_of p events ≡ Open (Queues Pop) []
        → StageKeeps (overflow_pops.MovesRead read)
    moves_read read knows few_steps paid seen = go (k.read == read) refl
      where
        -- the cases are whether the read position is still the one that the pop loaded
        go : (here : Bool) → (k.read == read) ≡ here → StageKeeps (overflow_pops.MovesRead read)
        -- the position is the same: the exchange succeeds, and the pop ends with the value in its room
        go true e =
            let same : read ≡ k.read = grind (arith, nat_tests) in
            let is_same : (k.read == k.read) ≡ true = grind (arith, nat_tests) in
            let last = knows.3 same in
            let more = knows.2 in
            let queue_good = inv.queue.good in
            let write = queue_good.write in
            let old = oldest c k queue_good (omega arith) in
            let both : get_or k.cells (k.read % (c + 1)) 0 ∷ old.0 ≡ room.0 ∷ last.0 = sym old.1 ∙ last.1 in
            let cell : get_or k.cells (k.read % (c + 1)) 0 ≡ room.0 = cc in
            let place : get_or (layout ro k) (cell_word c k.read) 0 ≡ room.0 =
            word_at k.write k.read (free ro.producer) (free ro.consumer) k.cells (cell_word c k.read) (k.read % (c + 1)) refl ∙ cell in
            let goes : after en (at (overflow_pops.MovesRead k.read)) k.read ≡ Done (PoppedIndex room.0) = rw is_same refl in
            let back : goes_back (at (overflow_pops.MovesRead k.read)) k.read ≡ false = rw is_same refl in
            let told : effect_of en (layout ro k) waits (at (overflow_pops.MovesRead k.read)) k.read
            ≡ takes_effect (Index room.0) waits =
            rw (is_same, place) refl in
            rw (same, back, goes, told) (takes_it inv room holds calm knows.0 last.1 few_steps (omega arith) seen)
        -- a push has moved the position: the exchange fails, and the pop turns back to the cell
        go false e =
            let apart : k.read ≢ read = grind (arith, nat_tests) in
            let low = knows.1 in
            let goes : after en (at (overflow_pops.MovesRead read)) k.read ≡ GoOn (at (overflow_pops.LoadsCell k.read)) = rw e refl in
            let back : goes_back (at (overflow_pops.MovesRead read)) k.read ≡ true = rw e refl in
            let told : effect_of en (layout ro k) waits (at (overflow_pops.MovesRead read)) k.read ≡ Quiet = rw e refl in
            rw (back, goes, told) (alone inv (asks_move read) true
            (GoOn (at (overflow_pops.LoadsCell k.read))) Quiet seen
            (moves_back read knows.0 (omega arith) knows.2 few_steps paid))

  -- ---- every step

  -- the call of `p` is a pop, so `p` has no pending push
  calm_at : (stage : PopStage)
      → flight_of (doing_of (party_of p latest)) ≡ Some (flights.Queues (at stage)) → (position : ℕ)
      → pending_at position (flight_of (doing_of (party_of p latest))) ≡ None
  calm_at stage found position = ap (pending_at position) found

  -- each step of a pop keeps the invariant
  pub overflow_pop_step :
      (stage : PopStage) → KnowsOverflowPop c k room stage
      → steps ≤ 2 * backs + overflow_pop_number stage → KnowsBacks k since changes backs stage
      → flight_of (doing_of (party_of p latest)) ≡ Some (flights.Queues (at stage)) → span_of p events ≡ Open (Queues Pop) [] → StageKeeps stage
  overflow_pop_step overflow_pops.FindsNone knows few_steps knows_backs found seen =
      let none = nothing_waits en kinds.Overflow c (pending k.read ro.producer latest) knows inv.queue.good inv.queue.hangs in
      of_step inv Pop (at overflow_pops.FindsNone) seen
      (finds_none (calm_at overflow_pops.FindsNone found) None refl (nil_from_length k.waiting none) (omega arith) knows_backs)
  overflow_pop_step overflow_pops.LoadsRead knows few_steps knows_backs found seen =
      of_step inv Pop (at overflow_pops.LoadsRead) seen (loads_read (calm_at overflow_pops.LoadsRead found) knows few_steps knows_backs)
  overflow_pop_step (overflow_pops.LoadsWrite read) knows few_steps knows_backs found seen =
      of_step inv Pop (at (overflow_pops.LoadsWrite read)) seen
      (loads_write (calm_at (overflow_pops.LoadsWrite read) found) read knows.0 knows.1 knows.2 few_steps knows_backs.1)
  overflow_pop_step (overflow_pops.LoadsCell read) knows few_steps knows_backs found seen =
      let old : get_or (layout ro k) (cell_word c read) 0 ≡ get_or k.cells (read % (c + 1)) 0 =
      word_at k.write k.read (free ro.producer) (free ro.consumer) k.cells (cell_word c read) (read % (c + 1)) refl in
      subst (λ n. Moves en kinds.Overflow scene Pop (Some (record { word = cell_word c read; op = Load })) false
      (GoOn (with_value n (overflow_pops.MovesRead read))) Quiet)
      (sym old)
      (alone inv (Some (record { word = cell_word c read; op = Load })) false
      (GoOn (with_value (get_or k.cells (read % (c + 1)) 0) (overflow_pops.MovesRead read))) Quiet seen
      (loads_cell (calm_at (overflow_pops.LoadsCell read) found) read knows.0 knows.1 knows.2 few_steps knows_backs.1))
  overflow_pop_step (overflow_pops.MovesRead read) knows few_steps knows_backs found seen =
      moves_read (calm_at (overflow_pops.MovesRead read) found) read knows few_steps knows_backs.1 seen
