-- Each step of `len`, `is_empty` and `is_full`, which tell how many values wait, keeps the invariant.
use Rattle.laws_queues.proofs.Names.{◌≡◌, ◌≢◌, ℕ, ◌+◌, ◌*◌, ◌^◌, ◌<◌, ◌≤◌, ◌==◌, Bool, true, false, not, cond, Option, Some}
use Rattle.laws_queues.proofs.Names.{Ask, step_count, change_of, words_after, one_if}
use Rattle.laws_queues.proofs.Names.{List, [], ◌∷◌, ◌++◌, fold, length, map, refl, ap, ◌∙◌, nat_tests}
use Rattle.laws_queues.proofs.Names.{length-map, After, GoOn, Done, Len, LenStage, went_on, number_waiting, first_len}
use Rattle.laws_queues.proofs.Names.{LengthOf, QueueFlight, Length, Quiet, Item, QueueStart, Answer, Queues, Finished}
use Rattle.laws_queues.proofs.Names.{QueueKind, Coding, ask_of, most_steps, want, after, goes_back, as_it_is}
use Rattle.laws_queues.proofs.Names.{length_answer, TellsLength, cells_of, published, handed_out, waiting}
use Rattle.laws_queues.proofs.Names.{producer_after, consumer_after, GrantsRight, Wrote, pending, as_call, old_of}
use Rattle.laws_queues.proofs.Names.{held_now, held_so, load_of_write, load_of_read}
use Rattle.std.proofs.Common.{arith}
use Rattle.steps.specs.declared.queues.lengths.LenStage.TheVariants as lens
use Rattle.model.specs.declared.families.queues.calls.LengthOf.TheVariants as measures
use Rattle.model.specs.declared.families.queues.QueueStart.TheVariants as starts
use Rattle.laws_queues.proofs.Queues.Invariant.{Scene, Inv}
use Rattle.laws_queues.proofs.Queues.Core.{Core, Good}
use Rattle.laws_queues.proofs.Queues.Knows.{layout, len_at, Hangs, Waited, KnowsLen, len_number, At}
use Rattle.laws_queues.proofs.Queues.Invariant.{waiting_is}
use Rattle.laws_queues.proofs.Queues.Stages.{IsCalm, Stays, StepOf, still_hangs, same_queue, quiet, ends}
use Rattle.laws_queues.proofs.Queues.Pending.{nothing_waits}
use Rattle.laws_queues.proofs.Queues.Values.{encoded, item}

-- the length call at a stage
abbrev pub call_at : {T : Type 0} → LengthOf → ℕ → LenStage → QueueFlight T
call_at which c stage = Length which (len_at c stage)

-- as many values wait as the call computes from the two positions
number_is : {V : Type 0} {size : ℕ} {words_of : V → List ℕ} {cells : ℕ} (c : ℕ) {k : Core V}
    → Good size words_of cells k → (c ≡ 0 → length k.waiting ≡ 0) → k.write < 2 ^ 64
    → length k.waiting ≡ number_waiting c k.write k.read
number_is = grind arith

-- the party has a call on the length under way; it is no pending push (`before`)
module _ {T : Type 0} {en : Coding T} {kd : QueueKind} {scene : Scene T kd} (inv : Inv en kd scene) (before : IsCalm en kd scene scene.core.read) where
  open scene use {capacity as c, roles as ro, core as k, party as p, steps, backs, since, changes, latest, events}

  good_before : Good (encoded en kd).size (encoded en kd).words_of (cells_of kd c) k
  good_before = inv.queue.good

  -- what was published is what was handed out and what waits
  book : published events ≡ handed_out events ++ map (item kd) k.waiting
  book = inv.queue.book

  -- what `Hangs` says of the pending push, before the step
  hangs : Hangs T kd c k (pending k.read ro.producer latest)
  hangs = inv.queue.hangs

  -- as many values wait now as lie between the positions
  waits_now : Waited c p events k.write k.read
  waits_now =
      let long : length (map {B = Item T} (item kd) k.waiting) ≡ length k.waiting = length-map k.waiting (item kd) in
      held_now p (λ part. length (waiting part) ≡ number_waiting c k.write k.read) events
      (ap length (waiting_is events (map (item kd) k.waiting) book)
      ∙ (long ∙ number_is c good_before
      (λ none. nothing_waits en kd c (pending k.read ro.producer latest) none good_before hangs) (omega arith)))

  -- what the length call knows at this stage
  abbrev LengthKnows : LenStage → Type 0
  LengthKnows stage = KnowsLen c k p events since changes backs stage

  -- what the steps of `len`, `is_empty` and `is_full` need of the call
  module _ (which : LengthOf) (start : QueueStart T)
      (at : (stage : LenStage) → At en kd c ro k p start (call_at which c stage))
      (most : (b : ℕ) → 4 * (b + 1) ≤ most_steps en.size kd start b)
      (wrote : (n : ℕ) → Wrote kd c start (length_answer which c n) [])
      (grants : (n : ℕ) → GrantsRight events (Finished p (Queues start) (length_answer which c n)))
      (holders : (n : ℕ) → (fold producer_after ro.producer (Finished p (Queues start) (length_answer which c n) ∷ []) ≡ ro.producer)
      × (fold consumer_after ro.consumer (Finished p (Queues start) (length_answer which c n) ∷ []) ≡ ro.consumer))
      (tells : (write read : ℕ) → Waited c p events write read
      → TellsLength c events (Finished p (Queues start) (length_answer which c (number_waiting c write read)))) where
    -- a call on the length, as its measure goes on
    abbrev goes_on : After Len ℕ → After (QueueFlight T) (Answer T)
    goes_on after = as_call (λ r. Length which r) (length_answer which c) (went_on {M = Unit {0}} as_it_is tt tt after)

    -- the step at this stage leaves the queue as it is and keeps the invariant
    abbrev StaysAt : LenStage → Type 0
    StaysAt stage =
        Stays en kd scene start (ask_of (want en (call_at which c stage)))
        (goes_back {T = T} (call_at which c stage) (old_of (layout ro k) (ask_of (want en (call_at which c stage)))))
        (after en (call_at which c stage) (old_of (layout ro k) (ask_of (want en (call_at which c stage)))))
        Quiet

    -- a load with which the call goes on to this stage, or turns back to it, keeps the invariant
    leads : (ask : Option Ask) (back : Bool) (stage : LenStage) → words_after (layout ro k) ask ≡ layout ro k
        → steps + step_count ask ≤ 4 * (backs + one_if back) + len_number stage
        → KnowsLen c k p events (since + change_of (layout ro k) ask) (changes + change_of (layout ro k) ask) (backs + one_if back) stage
        → Stays en kd scene start ask back (GoOn (call_at which c stage)) Quiet
    leads ask back stage words few_steps knows =
        quiet inv before (same_queue inv) (record {
          start = start;
          ask = ask;
          back = back;
          flight = call_at which c stage;
          calm = refl;
          words = words;
          here = record { span = refl; steps = few_steps; at = at stage };
          knows = knows;
        })

    -- the load of the write position keeps the invariant, and the call goes on to load the read position
    loads_write : steps ≤ 4 * backs + 0 → LengthKnows lens.LoadsWrite → StaysAt lens.LoadsWrite
    loads_write few_steps knows =
        leads (Some load_of_write) false (lens.LoadsRead k.write) refl (omega arith) (omega arith, omega arith, omega arith)

    -- the load of the read position keeps the invariant, and the call goes on to load the
    -- write position again
    loads_read : (write : ℕ) → steps ≤ 4 * backs + 1 → LengthKnows (lens.LoadsRead write) → StaysAt (lens.LoadsRead write)
    loads_read write few_steps knows =
        let low = knows.0 in
        let paid = knows.2 in
        leads (Some load_of_read) false (lens.LoadsWriteAgain write k.read) refl (omega arith)
        ((omega arith, omega arith, omega arith), λ same. rw same waits_now)

    -- the second load of the write position leads on where it finds the position unchanged; else the call
    -- turns back to its first load
    loads_write_again : (write read : ℕ) → steps ≤ 4 * backs + 2
        → LengthKnows (lens.LoadsWriteAgain write read)
        → StaysAt (lens.LoadsWriteAgain write read)
    loads_write_again write read few_steps knows = go (k.write == write) refl
      where
        -- the cases are whether the write position is the one that was loaded
        go : (b : Bool) → (k.write == write) ≡ b
            → Stays en kd scene start (Some load_of_write) (not b)
            (goes_on (cond b (GoOn (record { capacity = c; stage = lens.LoadsReadAgain write read })) (GoOn (first_len c))))
            Quiet
        -- the position is the same: the call goes on to load the read position again
        go true e =
            let low = knows.0.0 in
            let early = knows.0.1 in
            let paid = knows.0.2 in
            let same : write ≡ k.write = grind (arith, nat_tests) in
            leads (Some load_of_write) false (lens.LoadsReadAgain write read) refl (omega arith) ((omega arith, omega arith, omega arith), knows.1 same)
        -- the position has moved: the call turns back to its first load
        go false e =
            let low = knows.0.0 in
            let early = knows.0.1 in
            let paid = knows.0.2 in
            let moved : k.write ≢ write = grind (arith, nat_tests) in
            leads (Some load_of_write) true lens.LoadsWrite refl (omega arith) (omega arith)

    -- the second load of the read position ends the call with the number that waited, where it finds the
    -- position unchanged; else the call turns back to its first load
    loads_read_again : (write read : ℕ) → steps ≤ 4 * backs + 3
        → LengthKnows (lens.LoadsReadAgain write read)
        → StaysAt (lens.LoadsReadAgain write read)
    loads_read_again write read few_steps knows = go (k.read == read) refl
      where
        -- the cases are whether the read position is the one that was loaded
        go : (b : Bool) → (k.read == read) ≡ b
            → Stays en kd scene start (Some load_of_read) (not b)
            (goes_on (cond b (Done (number_waiting c write read)) (GoOn (first_len c))))
            Quiet
        -- the position is the same: the call ends with the number that waited at a moment of it
        go true e =
            let low = knows.0.0 in
            let early = knows.0.1 in
            let paid = knows.0.2 in
            let room = most backs in
            let none : backs + 0 ≡ backs = omega arith in (
              k,
              refl,
              ends inv (record {
                start = start;
                answer = length_answer which c (number_waiting c write read);
                ask = Some load_of_read;
                back = false;
                roles_then = ro;
                written = [];
                producers = (holders (number_waiting c write read)).0;
                consumers = (holders (number_waiting c write read)).1;
                wrote = wrote (number_waiting c write read);
                tells = tells write read knows.1;
                grants = grants (number_waiting c write read);
                steps = rw none (omega arith);
                paid = omega arith;
                hangs = still_hangs inv k _ refl refl refl before;
                others = λ q ne st f knows. (knows, refl);
              }),
            )
        -- the position has moved: the call turns back to its first load
        go false e =
            let low = knows.0.0 in
            let early = knows.0.1 in
            let paid = knows.0.2 in
            let moved : k.read ≢ read = grind (arith, nat_tests) in
            leads (Some load_of_read) true lens.LoadsWrite refl (omega arith) (omega arith)

    -- each step of a length call leaves the queue as it is and keeps the invariant
    length_step : (stage : LenStage) → steps ≤ 4 * backs + len_number stage → LengthKnows stage → StaysAt stage
    length_step lens.LoadsWrite few_steps knows = loads_write few_steps knows
    length_step (lens.LoadsRead write) few_steps knows = loads_read write few_steps knows
    length_step (lens.LoadsWriteAgain write read) few_steps knows = loads_write_again write read few_steps knows
    length_step (lens.LoadsReadAgain write read) few_steps knows = loads_read_again write read few_steps knows

  -- each step of `len` keeps the invariant
  pub len_step : (stage : LenStage) → steps ≤ 4 * backs + len_number stage → LengthKnows stage
      → StepOf en kd scene starts.Len (call_at measures.Len c stage)
  len_step = grind (arith, length_step, published, handed_out, held_so, length, waiting)

  -- each step of `is_empty` keeps the invariant
  pub is_empty_step : (stage : LenStage) → steps ≤ 4 * backs + len_number stage → LengthKnows stage
      → StepOf en kd scene starts.IsEmpty (call_at measures.IsEmpty c stage)
  is_empty_step = grind (arith, length_step, published, handed_out, held_so, length, waiting)

  -- each step of `is_full` keeps the invariant
  pub is_full_step : (stage : LenStage) → steps ≤ 4 * backs + len_number stage → LengthKnows stage
      → StepOf en kd scene starts.IsFull (call_at measures.IsFull c stage)
  is_full_step = grind (arith, length_step, published, handed_out, held_so, length, waiting)
