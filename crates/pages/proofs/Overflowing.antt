-- The theorem of the overflowing queue's page, from the model's.
use Rattle.std.proofs.Common.{◌%◌, ◌*◌, ◌^◌, ◌-◌, drop, is_some, replicate}
use Rattle.std.proofs.lemmas.Bool.Decides.{nat_tests}
use Rattle.std.proofs.lemmas.List.{length-map, map-append}
use Rattle.model.proofs.Names.{fold, Bool, List, None, Option, Some, [], answer_in, ap, arith}
use Rattle.model.proofs.Names.{ask_of, capacity_error, cond, false, first_row, length, map, nat_lt, one_word, opening}
use Rattle.model.proofs.Names.{refl, slice_get, step_of, true, ℕ, ◌++◌, ◌+◌, ◌<◌, ◌==◌, ◌∙◌}
use Rattle.model.proofs.Names.{◌∷◌, ◌≡◌}
use Rattle.model.proofs.Names as model
use Rattle.model.specs.declared.event.Answer.{Answer}
use Rattle.model.specs.declared.event.Item.{Item}
use Rattle.model.specs.declared.event.Item.TheVariants.{Index, Value}
use Rattle.model.specs.declared.event.Start.{Start}
use Rattle.model.specs.declared.event.Start.TheVariants.{Queues}
use Rattle.model.specs.declared.families.Flight.TheVariants as flights
use Rattle.model.specs.declared.families.Registry.TheVariants as registries
use Rattle.model.specs.declared.families.queues.QueueKind.TheVariants as queue_kinds
use Rattle.model.specs.declared.families.queues.Roles.{Roles}
use Rattle.model.specs.declared.families.queues.QueueStart.TheVariants.{PushIndex, Push, Pop}
use Rattle.model.specs.declared.turn.Kind.TheVariants as kinds
use Rattle.model.specs.Families.{begin_rows}
use Rattle.model.specs.Families.Queues.Calls.{after, want}
use Rattle.model.specs.Families.Queues.Objects.{answer_of_item, cut, cut_off, overflow_after, overflow_answer}
use Rattle.model.specs.Families.Queues.Steps.{effect_of, roles_after}
use Rattle.model.specs.Linearized.{as_list, is_push_or_pop}
use Rattle.model.specs.Step.{as_call}
use Rattle.model.specs.Turns.{run}
use Rattle.model.proofs.Linearizable.Kinds.{run_linearizable}
use Rattle.laws_queues.proofs.Queues.Sound.{queue_keeps}
use Rattle.pages.specs.OverflowingQueue as page
use Rattle.pages.specs.Machine as machine
use Rattle.pages.specs.IndexQueueBridge.{acquires, roles_told}
use Rattle.pages.specs.OverflowingQueueBridge.{OverflowingDoesAsTheCode, OverflowingPopsByTable}
use Rattle.pages.specs.OverflowingQueueBridge.{OverflowingPushesByTable, OverflowingRunsAsTheMachine, acquired}
use Rattle.pages.specs.OverflowingQueueBridge.{answer_seen, answered, as_turn, call_seen, flight, queue_start}
use Rattle.pages.specs.OverflowingQueueBridge.{read_then, reading, went}
use Rattle.pages.specs.Reading.{asked}
use Rattle.pages.proofs.Seen.{IsObject}
use Rattle.pages.proofs.Relates.{Meets}
use Rattle.pages.proofs.Relates as relates
use Rattle.pages.proofs.Runs.{reached_by}
use Rattle.pages.proofs.Roles.{acquired_with, among, coded, effects_own, effects_unseen, held, holds_row, kept}
use Rattle.pages.proofs.Roles.{lacks_row, meets_acquired, number, number_rest, within}
use Rattle.pages.proofs.Simulates.{GoesRight, StepIs, Tie, linearizable_seen, reached_now, relation, run_now, same}
use Rattle.pages.proofs.Turns.{either}

-- ---- the tables are the same

-- the call that a stage belongs to
abbrev pub call_at : page.Stage → page.Call
call_at (page.PushLoadsWrite value) = page.Push value
call_at (page.PushLoadsRead value write) = page.Push value
call_at (page.PushStoresCell value write read) = page.Push value
call_at (page.PushStoresWrite value write read) = page.Push value
call_at (page.PushMovesRead value read) = page.Push value
call_at (page.PushLoadsOldest value read) = page.Push value
call_at page.PopLoadsRead = page.Pop
call_at (page.PopLoadsWrite read) = page.Pop
call_at (page.PopLoadsCell read) = page.Pop
call_at (page.PopMovesRead read value) = page.Pop

abbrev comes : ℕ → page.Stage → ℕ → (machine.After page.Stage (Option ℕ))
comes c stage old = (page.does c stage).2 old

-- a stage of the page asks for the operation that the code asks for
pub asks_same : (c before : ℕ) (stage : page.Stage) → ask_of (want one_word (flight c before stage)) ≡ Some (asked (page.does c stage).0 (page.does c stage).1)
asks_same c before page.PopLoadsRead = refl
asks_same c before stage = refl

-- a stage of the page goes on from each old word as the code does
after_same : (c before : ℕ) (stage : page.Stage) (old : ℕ) → after one_word (flight c before stage) old ≡ went c (read_then before stage) (comes c stage old)
after_same c before (page.PushLoadsWrite value) old = grind arith
after_same c before (page.PushStoresWrite value write read) old = grind arith
after_same c before (page.PushMovesRead value read) old = grind arith
after_same c before (page.PopLoadsWrite read) old = grind arith
after_same c before (page.PopMovesRead read value) old = grind arith
after_same c before stage old = refl

abbrev fits : page.Stage → Bool
fits stage = true

-- where a call goes on it is the same call
pub right : (c : ℕ) (stage : page.Stage) (old : ℕ) → GoesRight call_at fits (call_at stage) (comes c stage old)
right c (page.PushLoadsWrite value) old = either (GoesRight call_at fits (page.Push value)) (old == 2 ^ 64 - 1) _ _ tt (refl, refl)
right c (page.PushLoadsRead value write) old = (refl, refl)
right c (page.PushStoresCell value write read) old = (refl, refl)
right c (page.PushStoresWrite value write read) old =
    either (GoesRight call_at fits (page.Push value)) ((write + 2 ^ 64 - read) % 2 ^ 64 == c) _ _ (refl, refl) tt
right c (page.PushMovesRead value read) old = either (GoesRight call_at fits (page.Push value)) (old == read) _ _ (refl, refl) tt
right c (page.PushLoadsOldest value read) old = tt
right c page.PopLoadsRead old = (refl, refl)
right c (page.PopLoadsWrite read) old = either (GoesRight call_at fits page.Pop) (old == read) _ _ tt (refl, refl)
right c (page.PopLoadsCell read) old = (refl, refl)
right c (page.PopMovesRead read value) old = either (GoesRight call_at fits page.Pop) (old == read) _ _ tt (refl, refl)

-- ---- what a step does beside

roles_stay : (p : ℕ) (call : page.Call) (outcome : Option (Answer ℕ)) (roles : Roles) → roles_after p (queue_start call) outcome roles ≡ roles
roles_stay p (page.Push value) outcome roles = refl
roles_stay p page.Pop outcome roles = refl

-- What a step came to is the same, told as of a call on queues and as of any call.
went_same : (c before : ℕ) (a : (machine.After page.Stage (Option ℕ)))
    → as_call flights.Queues (λ (answer : Answer ℕ). answer) (went c before a)
    ≡ relates.went (λ stage. flights.Queues (flight c before stage)) answered a
went_same c before (machine.GoOn stage) = refl
went_same c before (machine.Done answer) = refl

-- a step of the model's call comes to what the page's comes to, and leaves the roles
pub goes : (c : ℕ) (roles : Roles) (words : List ℕ) (beside : Option (ℕ × ℕ)) (p before : ℕ) (stage : page.Stage) (old : ℕ)
    → StepIs ℕ (page.overflowing_queue c) reading is_push_or_pop kinds.Overflow c (registries.Queues roles)
    (λ r stage. flights.Queues (flight c r stage)) answered
    (step_of one_word words beside p (Queues (queue_start (call_at stage))) (flights.Queues (flight c before stage)) old
    (registries.Queues roles))
    (comes c stage old)
goes c roles words beside p before stage old =
    let outcome = answer_in (after one_word (flight c before stage) old) in
    let eff = effect_of one_word words beside (flight c before stage) old in
    record {
      room = read_then before stage;
      after_is =
          ap (as_call flights.Queues (λ answer. answer)) (after_same c before stage old)
          ∙ went_same c (read_then before stage) (comes c stage old);
      kept_is = ap registries.Queues (roles_stay p (call_at stage) outcome roles);
      unseen = effects_unseen reading p (queue_start (call_at stage)) eff outcome;
      own = effects_own p (queue_start (call_at stage)) eff outcome;
    }

-- ---- who may begin

-- the type of a tie between the page of this queue and the code's calls
abbrev tied : ℕ → Type 0
tied c = Tie ℕ (page.overflowing_queue c) reading is_push_or_pop kinds.Overflow c kept

-- each stage of the page's push or pop is a stage of the code's call: the same word, the same answer, the same way on
unfoldable pub tie : (c : ℕ) → (c == 0) ≡ false → tied c
tie c some =
    record {
      call_at = call_at;
      start = λ call. Queues (queue_start call);
      room = 0;
      flight = λ before stage. flights.Queues (flight c before stage);
      answered = answered;
      fits = fits;
      reads_start = reads_start;
      reads_answer = reads_answer;
      is_own = is_own;
      admits = admits;
      refuses = refuses;
      begins = begins;
      keeps = λ p call. refl;
      first_at = first_at;
      first_fits = λ call. refl;
      asks = λ before stage fit. asks_same c before stage;
      rows = λ before stage. refl;
      goes = λ words beside p r stage old fit. goes c held words beside p r stage old;
      right = λ stage old fit. right c stage old;
    }
  where
    reads_start : (call : page.Call) → call_seen (Queues (queue_start call)) ≡ call
    reads_start (page.Push value) = refl
    reads_start page.Pop = refl

    reads_answer : (answer : Option ℕ) → answer_seen (answered answer) ≡ answer
    reads_answer None = refl
    reads_answer (Some value) = refl

    is_own : (call : page.Call) → is_push_or_pop (Queues (queue_start call)) ≡ true
    is_own (page.Push value) = refl
    is_own page.Pop = refl

    admits : (p : ℕ) (call : page.Call) → page.may p call ≡ true
        → first_row (begin_rows kinds.Overflow c kept p (Queues (queue_start call))) ≡ None
    admits p (page.Push value) allowed = holds_row 0 p allowed
    admits p page.Pop allowed = holds_row 1 p allowed

    refuses : (p : ℕ) (call : page.Call) → page.may p call ≡ false
        → is_some (first_row (begin_rows kinds.Overflow c kept p (Queues (queue_start call)))) ≡ true
    refuses p (page.Push value) refused = lacks_row 0 p refused
    refuses p page.Pop refused = lacks_row 1 p refused

    -- The model begins a call at the stage that the page begins it.
    begins : (call : page.Call)
        → model.first_of kinds.Overflow c (Queues (queue_start call)) kept
        ≡ Some (flights.Queues (flight c 0 (page.first call)))
    begins (page.Push value) = rw some refl
    begins page.Pop = rw some refl

    first_at : (call : page.Call) → call_at (page.first call) ≡ call
    first_at (page.Push value) = refl
    first_at page.Pop = refl

-- ---- the list

front : (items : List (Item ℕ)) → answer_seen (answer_of_item (slice_get items 0)) ≡ slice_get (map number items) 0
front [] = refl
front (Index value ∷ items) = refl
front (Value value ∷ items) = refl

numbers_of : (items : List (Item ℕ)) (item : Item ℕ) → map number (items ++ item ∷ []) ≡ map number items ++ number item ∷ []
numbers_of items item = map-append number items (item ∷ [])

-- the page's list after a push, from the list with the new value at its end
abbrev pushed : ℕ → List ℕ → Option ℕ × List ℕ
pushed capacity all = cond (nat_lt capacity (length all)) (slice_get all 0, drop 1 all) (None, all)

-- the list that is cut at the capacity is the page's after a push
cut_after : (capacity : ℕ) (all : List (Item ℕ)) → map number (cut capacity all) ≡ (pushed capacity (map number all)).1
cut_after capacity all = rw (length-map all number) (go (nat_lt capacity (length all)))
  where
    go : (b : Bool) → map number (cond b (drop 1 all) all)
        ≡ (cond {A = Option ℕ × List ℕ} b (slice_get (map number all) 0, drop 1 (map number all)) (None, map number all)).1
    go true = number_rest all
    go false = refl

-- the number that is cut off is the page's answer to a push
cut_answer : (capacity : ℕ) (all : List (Item ℕ)) → answer_seen (answer_of_item (cut_off capacity all)) ≡ (pushed capacity (map number all)).0
cut_answer capacity all = rw (length-map all number) (go (nat_lt capacity (length all)))
  where
    go : (b : Bool) → answer_seen (answer_of_item (cond b (slice_get all 0) None))
        ≡ (cond {A = Option ℕ × List ℕ} b (slice_get (map number all) 0, drop 1 (map number all)) (None, map number all)).0
    go true = front all
    go false = refl

-- what a call leaves of the model's list is what it leaves of the page's
one_after : (capacity : ℕ) (items : List (Item ℕ)) (start : Start ℕ) → is_push_or_pop start ≡ true
    → map number (overflow_after capacity items start) ≡ (page.listed capacity (map number items) (call_seen start)).1
one_after capacity items (Queues (PushIndex value)) own =
    cut_after capacity (items ++ Index value ∷ []) ∙ ap (λ all. (pushed capacity all).1) (numbers_of items (Index value))
one_after capacity items (Queues (Push value)) own =
    cut_after capacity (items ++ Value value ∷ []) ∙ ap (λ all. (pushed capacity all).1) (numbers_of items (Value value))
one_after capacity items (Queues Pop) own = number_rest items
one_after capacity items other own = absurd (cc)

-- what the model's list answers is what the page's answers
one_answer : (capacity : ℕ) (items : List (Item ℕ)) (start : Start ℕ) → is_push_or_pop start ≡ true
    → answer_seen (overflow_answer capacity items start) ≡ (page.listed capacity (map number items) (call_seen start)).0
one_answer capacity items (Queues (PushIndex value)) own =
    cut_answer capacity (items ++ Index value ∷ []) ∙ ap (λ all. (pushed capacity all).0) (numbers_of items (Index value))
one_answer capacity items (Queues (Push value)) own =
    cut_answer capacity (items ++ Value value ∷ []) ∙ ap (λ all. (pushed capacity all).0) (numbers_of items (Value value))
one_answer capacity items (Queues Pop) own = front items
one_answer capacity items other own = absurd (cc)

pub is_list : (c : ℕ) → IsObject reading (as_list queue_kinds.Overflow c) (page.overflowing_list c)
is_list c = record { state = map number; opens = refl; after = one_after c; answer = one_answer c }

-- ---- every list of turns

admitted : (c : ℕ) → c < 2 ^ 32 → capacity_error kinds.Overflow c ≡ None
admitted c few = grind (arith, nat_tests)

pub some_is : (c : ℕ) → 0 < c → (c == 0) ≡ false
some_is c lt = grind (arith, nat_tests)

may_below : (p : ℕ) (call : page.Call) → page.may p call ≡ true → p < 2
may_below p (page.Push value) allowed = grind (arith, nat_tests)
may_below p page.Pop allowed = grind (arith, nat_tests)

-- the turns are those of the page's specification
same_turn : (c : ℕ) (some : (c == 0) ≡ false) (turn : machine.Turn page.Call)
    → relates.as_turn (relation (tie c some) roles_told) 2 turn ≡ as_turn turn
unfolding tie
same_turn c some (machine.Begin p call) = refl
same_turn c some (machine.Next p) = refl

abbrev world_of : ℕ → List (machine.Turn page.Call) → (machine.World page.Call page.Stage (Option ℕ))
world_of c turns = fold (machine.turned (page.overflowing_queue c)) (machine.opening (page.overflowing_queue c)) turns

-- after fewer than 2^63 turns the two machines meet
met : (c : ℕ) (turns : List (machine.Turn page.Call)) (some : (c == 0) ≡ false) → c < 2 ^ 32 → length turns < 2 ^ 63
    → Meets (relation (tie c some) roles_told) 2 (world_of c turns) (0 + length turns) (run (map as_turn turns) (acquired c))
met c turns some few small =
    let cells : 1 * (c + 1) ≡ c + 1 = omega arith in
    meets_acquired (tie c some) (reached_by one_word kinds.Overflow c 2 acquires coded (admitted c few))
    (ap (λ k. acquired_with (tie c some) (0 ∷ 0 ∷ 0 ∷ 0 ∷ replicate k 0)) cells) may_below as_turn (same_turn c some) turns small

-- what the page runs is linearizable as the overflowing list
pub linearizable : (c : ℕ) (turns : List (machine.Turn page.Call)) → 0 < c → c < 2 ^ 32 → length turns < 2 ^ 63
    → machine.IsLinearizable (page.overflowing_list c) (world_of c turns).history
linearizable c turns more few small =
    let s = met c turns (some_is c more) few small in
    let keeps = (queue_keeps {T = ℕ} queue_kinds.Overflow).kept (run_now s) refl (reached_now s) in
    linearizable_seen s (is_list c) 4 among within (run_linearizable (run_now s) keeps)

-- each stage asks for what the code's function asks for, and goes on as it does
pub code : OverflowingDoesAsTheCode
code c before stage = (asks_same c before stage, after_same c before stage)

-- the words, invocations and responses of the page's machine are those of the model's
pub runs : OverflowingRunsAsTheMachine
runs c turns more few small = same (met c turns (some_is c more) few small)

pub by_pushes : OverflowingPushesByTable
by_pushes c value stage old = (refl, refl)

pub by_pops : OverflowingPopsByTable
by_pops c value stage old = (refl, refl)
