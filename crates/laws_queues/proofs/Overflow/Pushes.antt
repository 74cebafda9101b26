-- Each step of an overflowing queue's push keeps the invariant. The store of the next write position, which
-- publishes the value, is in `Publishes`.
use Rattle.laws_queues.proofs.Names.{◌≡◌, ◌≢◌, ℕ, suc, ◌+◌, ◌-◌, ◌*◌, ◌%◌, ◌^◌, ◌<◌, ◌≤◌, ◌==◌, Bool, true, false}
use Rattle.laws_queues.proofs.Names.{inr, Option, Some, None, option_map, List, [], ◌∷◌, ◌++◌, length, get_or, map}
use Rattle.laws_queues.proofs.Names.{refl, sym, ap, subst, ◌∙◌, append-nil, length-append, nat_tests, set-get_or, Ask}
use Rattle.laws_queues.proofs.Names.{Load, Store, Exchange, After, GoOn, Done, OneWord, after_position, QueueFlight}
use Rattle.laws_queues.proofs.Names.{Effect, Quiet, Acts, TakesOut, Index, PushIndex, Answer, PoppedNone}
use Rattle.laws_queues.proofs.Names.{PoppedIndex, Event, Queues, Published, HandedOut, Acted, Coding}
use Rattle.laws_queues.proofs.Names.{read_word, after, words_of_index, pending_at}
use Rattle.laws_queues.proofs.Names.{pending, effect_of, party_of, doing_of, flight_of, Open, span_of, words_after}
use Rattle.laws_queues.proofs.Names.{change_of, load_of_write, load_of_read}
use Rattle.std.proofs.Common.{arith}
use Rattle.steps.specs.declared.queues.overflow.PushStage.{PushStage}
use Rattle.steps.specs.declared.queues.overflow.PushStage.TheVariants as overflow_pushes
use Rattle.steps.specs.Queues.Overflow.{cell_word}
use Rattle.model.specs.declared.families.queues.calls.QueueFlight.TheVariants.{Overflow}
use Rattle.model.specs.declared.families.Flight.TheVariants as flights
use Rattle.model.specs.declared.families.queues.QueueKind.TheVariants as kinds
use Rattle.model.specs.Families.Queues.Spans.{HandsOut}
use Rattle.laws_queues.proofs.Queues.Invariant.{Scene, Inv}
use Rattle.laws_queues.proofs.Overflow.Core.{none_passes, one_passes, oldest, push_over}
use Rattle.laws_queues.proofs.Queues.Core.{Holds, filled, taken, fills, one_filled, takes, word_at, set_at}
use Rattle.laws_queues.proofs.Overflow.Knows.{overflow_push_at, KnowsOverflowPush, overflow_push_number}
use Rattle.model.specs.Fresh.{IsFreshOver}
use Rattle.laws_queues.proofs.Queues.Knows.{free, layout, has_written}
use Rattle.laws_queues.proofs.Queues.Keeping.{clash, same_roles, kept}
use Rattle.laws_queues.proofs.Queues.Pending.{pending_after, few_wait, none_hangs}
use Rattle.laws_queues.proofs.Queues.Stages.{DoesStep, Moves, MovesOf, still_hangs, SameQueue, same_queue, quiet, ends, acts, alone, of_step}
use Rattle.laws_queues.proofs.Overflow.Publishes.{stores_write}
use Rattle.laws_queues.proofs.Overflow.Keeping.{fill_keeps_pop, take_keeps_pop}

-- The party `p` holds the producer's role and pushes `v`. `c` is the capacity, `k` the queue before the step
-- (positions, values that wait, cells), `ro` the holders of the roles, `latest` the parties' latest calls.
module _ {T : Type 0} {en : Coding T} {scene : Scene T kinds.Overflow}
    (inv : Inv en kinds.Overflow scene) (v : ℕ) (room : OneWord)
    (holds : scene.roles.producer ≡ Some scene.party) (no_backs : scene.backs ≡ 0) where
  open scene use {capacity as c, roles as ro, core as k, party as p, steps, since, latest, events}

  -- the push at a stage
  abbrev at : PushStage → QueueFlight T
  at stage = Overflow (overflow_push_at c v room stage)

  -- a step with this operation keeps the invariant and writes events of `p` alone (`Shows`,
  -- Queues/Invariant); `wrote` is what the push has written before, `after` is the push afterwards
  abbrev StepKeeps : List (Event T) → Option Ask → After (QueueFlight T) (Answer T) → Effect T → Type 0
  StepKeeps wrote ask after effect = DoesStep en kinds.Overflow scene wrote (PushIndex v) ask false after effect

  -- the push's step at this stage keeps the invariant
  abbrev StageKeeps : PushStage → Type 0
  StageKeeps stage = MovesOf en kinds.Overflow scene (PushIndex v) (at stage)

  -- a step with this operation keeps the invariant, where it may also write events of another party
  abbrev ActingStepKeeps : Option Ask → After (QueueFlight T) (Answer T) → Effect T → Type 0
  ActingStepKeeps ask after effect = Moves en kinds.Overflow scene (PushIndex v) ask false after effect

  -- `p` has no pending push: it is not about to move the read position on
  abbrev IsCalm : Type 0
  IsCalm = pending_at k.read (flight_of (doing_of (party_of p latest))) ≡ None

  -- where the push of `p` is not pending, none is, since `p` holds the producer's role
  calm_none : (position : ℕ) → pending_at position (flight_of (doing_of (party_of p latest))) ≡ None → pending position ro.producer latest ≡ None
  calm_none = grind (arith, pending, option_map)

  -- while no push is pending, at most the capacity waits
  few : IsCalm → length k.waiting ≤ c
  few = grind (arith, few_wait, pending, calm_none)

  -- without capacity the push ends at once and hands its value back
  hands_back : c ≡ 0 → steps ≤ 0 → IsCalm → StepKeeps [] None (Done (PoppedIndex v)) Acts
  hands_back none few_steps calm =
      acts inv (record {
        start = PushIndex v;
        answer = PoppedIndex v;
        ask = None;
        words = refl;
        producers = refl;
        consumers = refl;
        wrote = record { moments = refl; published = sym (none_passes c (Index v) none); handed_out = sym (none_passes c (Index v) none) };
        tells = λ es. tt;
        grants = λ es. tt;
        right = tt;
        goes = rw none refl;
        answers = rw none refl;
        steps = omega arith;
        paid = omega arith;
        calm = calm;
      })

  -- in a queue with a capacity, the load of the write position changes no word, and the push goes on, as
  -- the position is not the last
  loads_write : k.write < 2 ^ 64 - 1 → 0 < c → steps ≤ 0 → IsCalm
      → StepKeeps [] (Some load_of_write) (after en (at overflow_pushes.LoadsWrite) k.write) Quiet
  loads_write fresh some few_steps calm =
      let low = inv.queue.reached in
      let not_last : (k.write == 2 ^ 64 - 1) ≡ false = grind (arith, nat_tests) in
      let goes : after en (at overflow_pushes.LoadsWrite) k.write ≡ GoOn (at (overflow_pushes.LoadsRead k.write)) = rw not_last refl in
      rw goes (quiet inv calm (same_queue inv) (record {
        start = PushIndex v;
        ask = Some load_of_write;
        back = false;
        flight = at (overflow_pushes.LoadsRead k.write);
        calm = refl;
        words = refl;
        here = record { span = refl; steps = omega arith; at = (holds, refl, refl, (some, refl, fresh)) };
        knows = omega arith;
      }))

  -- the load of the read position changes no word, and the push goes on to store its value into the cell of
  -- the write position
  loads_read : k.write < 2 ^ 64 - 1 → 0 < c → steps ≤ 1 → IsCalm
      → StepKeeps [] (Some load_of_read) (GoOn (at (overflow_pushes.StoresCell k.write k.read))) Quiet
  loads_read fresh some few_steps calm =
      let below = few calm in
      let queue_good = inv.queue.good in
      let write = queue_good.write in
      quiet inv calm (same_queue inv) (record {
        start = PushIndex v;
        ask = Some load_of_read;
        back = false;
        flight = at (overflow_pushes.StoresCell k.write k.read);
        calm = refl;
        words = refl;
        here = record { span = refl; steps = omega arith; at = (holds, refl, refl, (some, refl, omega arith, omega arith, fresh)) };
        knows = omega arith;
      })

  -- the store into the cell of the write position keeps the invariant, and the push goes on to store the
  -- next write position; `read` is the read position that it loaded, which can have moved on since
  stores_cell : k.write < 2 ^ 64 - 1 → (read : ℕ) → 0 < c → read ≤ k.read → k.write ≤ read + c → steps ≤ 2 → IsCalm
      → StepKeeps [] (Some (record { word = cell_word c k.write; op = Store v })) (GoOn (at (overflow_pushes.StoresWrite k.write read))) Quiet
  stores_cell fresh read some low far few_steps calm =
      let queue_good = inv.queue.good in
      let write = queue_good.write in
      let none : Holds 1 words_of_index (c + 1) k.cells k.write v 0 = λ i h. absurd (omega arith) in
      let good = fills queue_good 0 v (omega arith) (omega arith) in
      let place : cell_word c k.write ≡ 4 + (1 * (k.write % (c + 1)) + 0) = omega arith in
      let stored = filled 1 words_of_index (c + 1) k 0 v in
      let same : SameQueue en kinds.Overflow scene stored =
      record {
        waits = refl;
        write = refl;
        read = refl;
        good = good;
        others =
            λ q ne. kept (same_roles ro q) en c kinds.Overflow k stored (record {
              push = λ mine w stage h. absurd (clash ro.producer p q ne holds mine);
              pop = λ mine other stage h. fill_keeps_pop c k 0 v other stage h;
            });
      } in
      quiet inv calm same (record {
        start = PushIndex v;
        ask = Some (record { word = cell_word c k.write; op = Store v });
        back = false;
        flight = at (overflow_pushes.StoresWrite k.write read);
        calm = refl;
        words = set_at k.write k.read (free ro.producer) (free ro.consumer) k.cells (cell_word c k.write) (1 * (k.write % (c + 1)) + 0) v place;
        here = record {
          span = refl;
          steps = omega arith;
          at =
              (holds, refl, refl, (some, refl, low, far, one_filled queue_good v 0 (omega arith) (omega arith) none, fresh));
        };
        knows = omega arith;
      })

  -- ---- the move of the read position

  -- where the read position is the one that the push loaded, the exchange moves it on, and the push takes
  -- the oldest value out
  takes_out : 0 < c → k.write ≡ k.read + c + 1 → (others : List ℕ) → k.waiting ≡ others ++ v ∷ [] → steps ≤ 4
      → StepKeeps (Published p (Index v) ∷ [])
      (Some (record { word = read_word; op = Exchange k.read (after_position k.read) }))
      (GoOn (at (overflow_pushes.LoadsCell k.read))) (TakesOut (get_or k.cells (k.read % (c + 1)) 0))
  takes_out some far others waiting_is few_steps =
      let queue_good = inv.queue.good in
      let write = queue_good.write in
      let reached = inv.queue.reached in
      let old = oldest c k queue_good (omega arith) in
      let rest = old.0 in
      let first = old.1 in
      let longer = length-append others (v ∷ []) in
      let full : length others ≡ c = (let long : length k.waiting ≡ length (others ++ v ∷ []) = ap length waiting_is in omega arith) in
      let shorter : length k.waiting ≡ suc (length rest) = ap length first in
      let list = push_over {T = T} c k.waiting others (get_or k.cells (k.read % (c + 1)) 0) v rest waiting_is full first in
      let is_same : (k.read == k.read) ≡ true = grind (arith, nat_tests) in
      let next : after_position k.read ≡ k.read + 1 = omega arith in
      let moved : (after_position k.read == k.read) ≡ false = grind (arith, nat_tests) in
      let ask : Option Ask = Some (record { word = read_word; op = Exchange k.read (after_position k.read) }) in
      let after : After (QueueFlight T) (Answer T) = GoOn (at (overflow_pushes.LoadsCell k.read)) in
      let words : words_after (layout ro k) (Some (record { word = read_word; op = Exchange k.read (after_position k.read) }))
      ≡ layout ro (taken 1 words_of_index (c + 1) k rest) =
      rw is_same (ap (λ n. k.write ∷ n ∷ free ro.producer ∷ free ro.consumer ∷ k.cells) next) in
      let one : change_of (layout ro k) (Some (record { word = read_word; op = Exchange k.read (after_position k.read) })) ≡ 1 = rw (is_same, moved) refl in
      let good = takes queue_good first in
      let may : HandsOut {T = T} kinds.Overflow (Queues (PushIndex v)) = inr (Index v, refl) in
      (taken 1 words_of_index (c + 1) k rest, words, grind (arith, append-nil, map, none_hangs, pending_after, kept, same_roles, take_keeps_pop, clash))

  -- where a pop has moved the read position since, the exchange fails, and the push ends with None, with
  -- which it has acted already
  gives_up : (read : ℕ) → 0 < c → read < k.read → steps ≤ 4 → IsCalm
      → StepKeeps (Published p (Index v) ∷ Acted p (Queues (PushIndex v)) PoppedNone ∷ [])
      (Some (record { word = read_word; op = Exchange read (after_position read) })) (Done PoppedNone) Quiet
  gives_up read some moved few_steps calm =
      let is_other : (k.read == read) ≡ false = grind (arith, nat_tests) in (
        k,
        rw is_other refl,
        ends inv (record {
          start = PushIndex v;
          answer = PoppedNone;
          ask = Some (record { word = read_word; op = Exchange read (after_position read) });
          back = false;
          roles_then = ro;
          written = Published p (Index v) ∷ Acted p (Queues (PushIndex v)) PoppedNone ∷ [];
          producers = refl;
          consumers = refl;
          wrote = record { moments = refl; published = sym (one_passes c (Index v) some); handed_out = refl };
          tells = tt;
          grants = tt;
          steps = omega arith;
          paid = omega arith;
          hangs = still_hangs inv k _ refl refl refl calm;
          others = λ q ne st f h. (h, refl);
        }),
      )

  -- ---- the load of the cell from which the push took the value out

  -- the value in the cell of the position `read`
  abbrev oldest_at : ℕ → ℕ
  oldest_at read = get_or k.cells (read % (c + 1)) 0

  -- the load of that cell ends the push with the value that it took out, the oldest
  loads_cell : (read : ℕ) → 0 < c → steps ≤ 5 → IsCalm
      → StepKeeps (Published p (Index v) ∷ HandedOut p (Index (oldest_at read))
      ∷ Acted p (Queues (PushIndex v)) (PoppedIndex (oldest_at read)) ∷ [])
      (Some (record { word = cell_word c read; op = Load })) (Done (PoppedIndex (oldest_at read))) Quiet
  loads_cell read some few_steps calm = (
    k,
    set-get_or (layout ro k) (cell_word c read) 0,
    ends inv (record {
      start = PushIndex v;
      answer = PoppedIndex (oldest_at read);
      ask = Some (record { word = cell_word c read; op = Load });
      back = false;
      roles_then = ro;
      written = Published p (Index v) ∷ HandedOut p (Index (oldest_at read)) ∷ Acted p (Queues (PushIndex v)) (PoppedIndex (oldest_at read)) ∷ [];
      producers = refl;
      consumers = refl;
      wrote = record {
        moments = refl;
        published = sym (one_passes c (Index v) some);
        handed_out = sym (one_passes c (Index (oldest_at read)) some);
      };
      tells = tt;
      grants = tt;
      steps = omega arith;
      paid = omega arith;
      hangs = still_hangs inv k _ refl refl refl calm;
      others = λ q ne st f h. (h, refl);
    }),
  )

  -- ---- every step of a push

  -- where the push at its stage is not about to move the read position, `p` has no pending push
  calm_at : (stage : PushStage)
      → flight_of (doing_of (party_of p latest)) ≡ Some (flights.Queues (at stage))
      → pending_at k.read (Some (flights.Queues (at stage))) ≡ None → IsCalm
  calm_at stage found none = ap (pending_at k.read) found ∙ none

  -- the exchange that moves the read position from `read` to the next
  abbrev asks_move : ℕ → Option Ask
  asks_move read = Some (record { word = read_word; op = Exchange read (after_position read) })

  -- the exchange of the read position succeeds and the push takes the oldest value out, or it fails, as a
  -- pop has moved the position, and the push ends
  moves_read : (read : ℕ) → KnowsOverflowPush c k v (overflow_pushes.MovesRead read) → steps ≤ 4
      → flight_of (doing_of (party_of p latest)) ≡ Some (flights.Queues (at (overflow_pushes.MovesRead read)))
      → span_of p events ≡ Open (Queues (PushIndex v)) (has_written c k p (at (overflow_pushes.MovesRead read)))
      → StageKeeps (overflow_pushes.MovesRead read)
  moves_read read knows few_steps found seen = go (k.read == read) refl
    where
      -- the cases are whether the read position is still the one that the push loaded
      go : (here : Bool) → (k.read == read) ≡ here → StageKeeps (overflow_pushes.MovesRead read)
      -- the position is the same: the exchange succeeds, and the push takes the oldest value out
      go true e =
          let same : read ≡ k.read = grind (arith, nat_tests) in
          let is_same : (k.read == k.read) ≡ true = grind (arith, nat_tests) in
          let last = knows.3 same in
          let far = knows.2 in
          let place : get_or (layout ro k) (cell_word c k.read) 0 ≡ get_or k.cells (k.read % (c + 1)) 0 =
          word_at k.write k.read (free ro.producer) (free ro.consumer) k.cells (cell_word c k.read) (k.read % (c + 1)) refl in
          let wrote : has_written {T = T} c k p (at (overflow_pushes.MovesRead k.read)) ≡ Published p (Index v) ∷ [] = rw is_same refl in
          let goes : after en (at (overflow_pushes.MovesRead k.read)) k.read
          ≡ GoOn (at (overflow_pushes.LoadsCell k.read)) =
          rw is_same refl in
          let told : effect_of en (layout ro k) (pending k.read ro.producer latest)
          (at (overflow_pushes.MovesRead k.read)) k.read
          ≡ TakesOut (get_or k.cells (k.read % (c + 1)) 0) =
          rw (is_same, place) refl in
          let as_seen : span_of p events
          ≡ Open (Queues (PushIndex v)) (has_written c k p (at (overflow_pushes.MovesRead k.read))) =
          subst (λ r. span_of p events ≡ Open (Queues (PushIndex v)) (has_written c k p (at (overflow_pushes.MovesRead r))))
          same seen in
          let step = takes_out knows.0 (omega arith) last.0 last.1 few_steps in
          let all =
          alone inv (asks_move k.read) false
          (GoOn (at (overflow_pushes.LoadsCell k.read)))
          (TakesOut (get_or k.cells (k.read % (c + 1)) 0))
          (as_seen ∙ ap (λ es. Open (Queues (PushIndex v)) es) wrote) step in
          subst (λ r. StageKeeps (overflow_pushes.MovesRead r)) (sym same)
          (rw (goes, told) all)
      -- a pop has moved the position: the exchange fails, and the push ends with None
      go false e =
          let other : k.read ≢ read = grind (arith, nat_tests) in
          let low = knows.1 in
          let moved : read < k.read = omega arith in
          let is_other : (read == k.read) ≡ false = grind (arith, nat_tests) in
          let wrote : has_written {T = T} c k p (at (overflow_pushes.MovesRead read))
          ≡ Published p (Index v) ∷ Acted p (Queues (PushIndex v)) PoppedNone ∷ [] =
          rw is_other refl in
          let goes : after en (at (overflow_pushes.MovesRead read)) k.read ≡ Done PoppedNone = rw e refl in
          let told : effect_of en (layout ro k) (pending k.read ro.producer latest)
          (at (overflow_pushes.MovesRead read)) k.read
          ≡ Quiet =
          rw e refl in
          let calm = calm_at (overflow_pushes.MovesRead read) found (rw is_other refl) in
          let all =
          alone inv (asks_move read) false (Done PoppedNone) Quiet (seen ∙ ap (λ es. Open (Queues (PushIndex v)) es) wrote)
          (gives_up read knows.0 moved few_steps calm) in
          subst (λ a. ActingStepKeeps (asks_move read) a
          (effect_of en (layout ro k) (pending k.read ro.producer latest) (at (overflow_pushes.MovesRead read)) k.read))
          (sym goes)
          (rw told all)

  -- each step of a push keeps the invariant
  pub overflow_push_step :
      (stage : PushStage) → IsFreshOver k.write stage → KnowsOverflowPush c k v stage
      → steps ≤ overflow_push_number stage
      → flight_of (doing_of (party_of p latest)) ≡ Some (flights.Queues (at stage))
      → span_of p events ≡ Open (Queues (PushIndex v)) (has_written c k p (at stage)) → StageKeeps stage
  overflow_push_step overflow_pushes.HandsBack fresh knows few_steps found seen =
      of_step inv (PushIndex v) (at overflow_pushes.HandsBack) seen (hands_back knows few_steps (calm_at overflow_pushes.HandsBack found refl))
  overflow_push_step overflow_pushes.LoadsWrite fresh knows few_steps found seen =
      of_step inv (PushIndex v) (at overflow_pushes.LoadsWrite) seen (loads_write fresh knows few_steps (calm_at overflow_pushes.LoadsWrite found refl))
  overflow_push_step (overflow_pushes.LoadsRead write) fresh knows few_steps found seen =
      subst (λ w. StageKeeps (overflow_pushes.LoadsRead w)) (sym knows.1)
      (of_step inv (PushIndex v) (at (overflow_pushes.LoadsRead k.write)) seen
      (loads_read knows.2 knows.0 few_steps (calm_at (overflow_pushes.LoadsRead write) found refl)))
  overflow_push_step (overflow_pushes.StoresCell write read) fresh knows few_steps found seen =
      subst (λ w. StageKeeps (overflow_pushes.StoresCell w read)) (sym knows.1)
      (of_step inv (PushIndex v) (at (overflow_pushes.StoresCell k.write read)) seen
      (stores_cell knows.4 read knows.0 knows.2 knows.3 few_steps (calm_at (overflow_pushes.StoresCell write read) found refl)))
  overflow_push_step (overflow_pushes.StoresWrite write read) fresh knows few_steps found seen =
      subst (λ w. StageKeeps (overflow_pushes.StoresWrite w read)) (sym knows.1)
      (of_step inv (PushIndex v) (at (overflow_pushes.StoresWrite k.write read)) seen
      (stores_write inv v room holds no_backs read knows.0 knows.2 knows.3 knows.4 knows.5 few_steps))
  overflow_push_step (overflow_pushes.MovesRead read) fresh knows few_steps found seen = moves_read read knows few_steps found seen
  overflow_push_step (overflow_pushes.LoadsCell read) fresh knows few_steps found seen =
      let old : get_or (layout ro k) (cell_word c read) 0 ≡ get_or k.cells (read % (c + 1)) 0 =
      word_at k.write k.read (free ro.producer) (free ro.consumer) k.cells (cell_word c read) (read % (c + 1)) refl in
      subst (λ n. ActingStepKeeps (Some (record { word = cell_word c read; op = Load })) (Done (PoppedIndex n)) Quiet) (sym old)
      (alone inv (Some (record { word = cell_word c read; op = Load })) false (Done (PoppedIndex (oldest_at read))) Quiet seen
      (loads_cell read knows.0 few_steps (calm_at (overflow_pushes.LoadsCell read) found refl)))
