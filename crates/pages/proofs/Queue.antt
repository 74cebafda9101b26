-- The theorem of the index queue's page, from the model's.
use Rattle.std.proofs.Common.{◌%◌, ◌*◌, ◌^◌, ◌||◌, ◌-◌, is_some, replicate, mod-lt}
use Rattle.std.proofs.lemmas.Bool.Decides.{nat_tests}
use Rattle.std.proofs.lemmas.List.{length-map, map-append}
use Rattle.model.proofs.Names.{fold, Bool, List, None, Option, Some, Trace, [], answer_in, ap}
use Rattle.model.proofs.Names.{arith, ask_of, bounded_list, capacity_error, cond, false, first_row}
use Rattle.model.proofs.Names.{length, map, nat_lt, not, one_word, opening, refl, slice_get}
use Rattle.model.proofs.Names.{step_of, subst, sym, true, ℕ, ◌++◌, ◌+◌, ◌<◌, ◌==◌, ◌∙◌, ◌∷◌, ◌≡◌}
use Rattle.model.proofs.Names as model
use Rattle.model.specs.declared.event.Answer.{Answer}
use Rattle.model.specs.declared.event.Item.{Item}
use Rattle.model.specs.declared.event.Item.TheVariants.{Index, Value}
use Rattle.model.specs.declared.event.Start.{Start}
use Rattle.model.specs.declared.event.Start.TheVariants.{Queues}
use Rattle.model.specs.declared.families.Flight.TheVariants as flights
use Rattle.model.specs.declared.families.Registry.TheVariants as registries
use Rattle.model.specs.declared.families.queues.QueueKind.TheVariants as queue_kinds
use Rattle.model.specs.declared.families.queues.Roles.{Roles}
use Rattle.model.specs.declared.families.queues.QueueStart.TheVariants.{PushIndex, Push, Pop}
use Rattle.model.specs.declared.turn.Kind.TheVariants as kinds
use Rattle.model.specs.Families.{begin_rows}
use Rattle.model.specs.Families.Queues.Calls.{after, want}
use Rattle.model.specs.Families.Queues.Objects.{appended, answer_of_item, list_after, list_answer}
use Rattle.model.specs.Families.Queues.Steps.{effect_of, roles_after}
use Rattle.model.specs.Linearized.{as_list, is_push_or_pop}
use Rattle.model.specs.Step.{as_call}
use Rattle.model.specs.Turns.{run}
use Rattle.model.proofs.Linearizable.Kinds.{run_linearizable}
use Rattle.laws_queues.proofs.Queues.Sound.{queue_keeps}
use Rattle.steps.specs.declared.ask.Op.TheVariants.{Load, Store}
use Rattle.steps.specs.Queues.Ring.{cell_word, word_at}
use Rattle.pages.specs.IndexQueue as page
use Rattle.pages.specs.Machine as machine
use Rattle.pages.specs.IndexQueueBridge.{DoesAsTheCode, Fits, PopsByTable, PushesByTable, RunsAsTheMachine, acquired}
use Rattle.pages.specs.IndexQueueBridge.{acquires, answer_seen, answered, as_turn, call_seen, flight, queue_start}
use Rattle.pages.specs.IndexQueueBridge.{reading, roles_told, went}
use Rattle.pages.specs.Reading.{IsSame, asked}
use Rattle.pages.proofs.Seen.{IsObject}
use Rattle.pages.proofs.Relates.{Meets}
use Rattle.pages.proofs.Relates as relates
use Rattle.pages.proofs.Runs.{reached_by}
use Rattle.pages.proofs.Roles.{acquired_with, among, coded, effects_own, effects_unseen, held, holds_row, kept}
use Rattle.pages.proofs.Roles.{lacks_row, meets_acquired, number, number_rest, within}
use Rattle.pages.proofs.Simulates.{GoesRight, StepIs, Tie, linearizable_seen, reached_now, relation, run_now, same}
use Rattle.pages.proofs.Turns.{either, either_so, neither}

-- ---- the tables are the same

-- the call that a stage belongs to
abbrev pub call_at : page.Stage → page.Call
call_at (page.PushLoadsWrite value) = page.Push value
call_at (page.PushLoadsRead value write) = page.Push value
call_at (page.PushStoresCell value write) = page.Push value
call_at (page.PushStoresWrite value write) = page.Push value
call_at page.PopLoadsRead = page.Pop
call_at (page.PopLoadsWrite read) = page.Pop
call_at (page.PopLoadsCell read) = page.Pop
call_at (page.PopStoresRead read value) = page.Pop

-- a call that goes to a cell has found that there is one
abbrev fits : ℕ → page.Stage → Bool
fits c (page.PushStoresCell value write) = not (c == 0)
fits c (page.PopLoadsCell read) = not (c == 0)
fits c stage = true

-- a stage that passes the test fits
pub fits_so : (c : ℕ) (stage : page.Stage) → fits c stage ≡ true → Fits c stage
fits_so c (page.PushStoresCell value write) fitting = grind arith
fits_so c (page.PopLoadsCell read) fitting = grind arith
fits_so c stage fitting = tt

abbrev comes : ℕ → page.Stage → ℕ → (machine.After page.Stage page.Answer)
comes c stage old = (page.does c stage).2 old

small_word : (r : ℕ) → r < 2 ^ 32 → (4 + 1 * r + 0) % 2 ^ 64 ≡ 4 + r
small_word r lt = omega arith

-- the word of a position's cell is the one that the page says
cell_is : (c position : ℕ) → c < 2 ^ 32 → (c == 0) ≡ false → word_at (cell_word c 1 position) 0 ≡ 4 + position % c
cell_is c position few some =
    let more : 0 < c = grind (arith, nat_tests) in
    let below = mod-lt position more in
    let lt : position % c < 2 ^ 32 = omega arith in
    rw some (small_word (position % c) lt)

-- a stage of the page asks for the operation that the code asks for
pub asks_same : (c : ℕ) (stage : page.Stage) → c < 2 ^ 32 → Fits c stage
    → ask_of (want one_word (flight c stage)) ≡ Some (asked (page.does c stage).0 (page.does c stage).1)
asks_same c (page.PushStoresCell value write) few fits = ap (λ k. Some (record { word = k; op = Store value })) (cell_is c write few fits)
asks_same c (page.PopLoadsCell read) few fits = ap (λ k. Some (record { word = k; op = Load })) (cell_is c read few fits)
asks_same c stage few fits = refl

-- a stage of the page goes on from each old word as the code does
after_same : (c : ℕ) (stage : page.Stage) (old : ℕ) → after one_word (flight c stage) old ≡ went c (comes c stage old)
after_same c (page.PushLoadsWrite value) old = grind arith
after_same c (page.PushLoadsRead value write) old = grind arith
after_same c (page.PopLoadsWrite read) old = grind arith
after_same c stage old = refl

-- where a call goes on it is the same call, and it goes to a cell only where there is one
pub right : (c : ℕ) (stage : page.Stage) (old : ℕ) → GoesRight call_at (fits c) (call_at stage) (comes c stage old)
right c (page.PushLoadsWrite value) old = either (GoesRight call_at (fits c) (page.Push value)) (old == 2 ^ 64 - 1) _ _ tt (refl, refl)
right c (page.PushLoadsRead value write) old =
    either_so (GoesRight call_at (fits c) (page.Push value)) ((c == 0) || ((write + 2 ^ 64 - old) % 2 ^ 64 == c)) _ _
    (λ t. tt) (λ f. (refl, ap not (neither (c == 0) ((write + 2 ^ 64 - old) % 2 ^ 64 == c) f)))
right c (page.PushStoresCell value write) old = (refl, refl)
right c (page.PushStoresWrite value write) old = tt
right c page.PopLoadsRead old = (refl, refl)
right c (page.PopLoadsWrite read) old =
    either_so (GoesRight call_at (fits c) page.Pop) ((c == 0) || (old == read)) _ _ (λ t. tt) (λ f. (refl, ap not (neither (c == 0) (old == read) f)))
right c (page.PopLoadsCell read) old = (refl, refl)
right c (page.PopStoresRead read value) old = tt

-- ---- what a step does beside

roles_stay : (p : ℕ) (call : page.Call) (outcome : Option (Answer ℕ)) (roles : Roles) → roles_after p (queue_start call) outcome roles ≡ roles
roles_stay p (page.Push value) outcome roles = refl
roles_stay p page.Pop outcome roles = refl

-- What a step came to is the same, told as of a call on queues and as of any call.
went_same : (c : ℕ) (a : (machine.After page.Stage page.Answer))
    → as_call flights.Queues (λ (answer : Answer ℕ). answer) (went c a)
    ≡ relates.went (λ stage. flights.Queues (flight c stage)) answered a
went_same c (machine.GoOn stage) = refl
went_same c (machine.Done answer) = refl

-- a step of the model's call comes to what the page's comes to, and leaves the roles
pub goes : (c : ℕ) (roles : Roles) (words : List ℕ) (beside : Option (ℕ × ℕ)) (p : ℕ) (stage : page.Stage) (old : ℕ)
    → StepIs (Unit {0}) (page.index_queue c) reading is_push_or_pop kinds.IndexQueue c (registries.Queues roles)
    (λ r stage. flights.Queues (flight c stage)) answered
    (step_of one_word words beside p (Queues (queue_start (call_at stage))) (flights.Queues (flight c stage)) old
    (registries.Queues roles))
    (comes c stage old)
goes c roles words beside p stage old =
    let outcome = answer_in (after one_word (flight c stage) old) in
    let eff = effect_of one_word words beside (flight c stage) old in
    record {
      room = tt;
      after_is = ap (as_call flights.Queues (λ answer. answer)) (after_same c stage old) ∙ went_same c (comes c stage old);
      kept_is = ap registries.Queues (roles_stay p (call_at stage) outcome roles);
      unseen = effects_unseen reading p (queue_start (call_at stage)) eff outcome;
      own = effects_own p (queue_start (call_at stage)) eff outcome;
    }

-- ---- who may begin

-- the type of a tie between the page of this queue and the code's calls
abbrev tied : ℕ → Type 0
tied c = Tie (Unit {0}) (page.index_queue c) reading is_push_or_pop kinds.IndexQueue c kept

-- each stage of the page's push or pop is a stage of the code's call: the same word, the same answer, the same way on
unfoldable pub tie : (c : ℕ) → c < 2 ^ 32 → tied c
tie c few =
    record {
      call_at = call_at;
      start = λ call. Queues (queue_start call);
      room = tt;
      flight = λ r stage. flights.Queues (flight c stage);
      answered = answered;
      fits = fits c;
      reads_start = reads_start;
      reads_answer = reads_answer;
      is_own = is_own;
      admits = admits;
      refuses = refuses;
      begins = begins;
      keeps = λ p call. refl;
      first_at = first_at;
      first_fits = first_fits;
      asks = λ r stage fit. asks_same c stage few (fits_so c stage fit);
      rows = λ r stage. refl;
      goes = λ words beside p r stage old fit. goes c held words beside p stage old;
      right = λ stage old fit. right c stage old;
    }
  where
    reads_start : (call : page.Call) → call_seen (Queues (queue_start call)) ≡ call
    reads_start (page.Push value) = refl
    reads_start page.Pop = refl

    reads_answer : (answer : page.Answer) → answer_seen (answered answer) ≡ answer
    reads_answer (page.Pushed b) = refl
    reads_answer (page.Popped None) = refl
    reads_answer (page.Popped (Some value)) = refl

    is_own : (call : page.Call) → is_push_or_pop (Queues (queue_start call)) ≡ true
    is_own (page.Push value) = refl
    is_own page.Pop = refl

    admits : (p : ℕ) (call : page.Call) → page.may p call ≡ true
        → first_row (begin_rows kinds.IndexQueue c kept p (Queues (queue_start call))) ≡ None
    admits p (page.Push value) allowed = holds_row 0 p allowed
    admits p page.Pop allowed = holds_row 1 p allowed

    refuses : (p : ℕ) (call : page.Call) → page.may p call ≡ false
        → is_some (first_row (begin_rows kinds.IndexQueue c kept p (Queues (queue_start call)))) ≡ true
    refuses p (page.Push value) refused = lacks_row 0 p refused
    refuses p page.Pop refused = lacks_row 1 p refused

    -- The model begins a call at the stage that the page begins it.
    begins : (call : page.Call)
        → model.first_of kinds.IndexQueue c (Queues (queue_start call)) kept
        ≡ Some (flights.Queues (flight c (page.first call)))
    begins (page.Push value) = refl
    begins page.Pop = refl

    first_at : (call : page.Call) → call_at (page.first call) ≡ call
    first_at (page.Push value) = refl
    first_at page.Pop = refl

    first_fits : (call : page.Call) → fits c (page.first call) ≡ true
    first_fits (page.Push value) = refl
    first_fits page.Pop = refl

-- ---- the list

-- what a push leaves of the model's list is what it leaves of the page's
pushed_after : (capacity : ℕ) (items : List (Item ℕ)) (item : Item ℕ)
    → map number (appended capacity items item) ≡ (page.listed capacity (map number items) (page.Push (number item))).1
pushed_after capacity items item = rw (length-map items number) (go (nat_lt (length items) capacity))
  where
    go : (b : Bool) → map number (cond b (items ++ item ∷ []) items)
        ≡ (cond {A = page.Answer × List ℕ} b (page.Pushed true, map number items ++ number item ∷ []) (page.Pushed false, map number items)).1
    go true = map-append number items (item ∷ [])
    go false = refl

-- what a push answers on the page is whether the model's list had room
pushed_answer : (capacity : ℕ) (items : List (Item ℕ)) (value : ℕ)
    → page.Pushed (nat_lt (length items) capacity) ≡ (page.listed capacity (map number items) (page.Push value)).0
pushed_answer capacity items value = rw (length-map items number) (go (nat_lt (length items) capacity))
  where
    go : (b : Bool) → page.Pushed b
        ≡ (cond {A = page.Answer × List ℕ} b (page.Pushed true, map number items ++ value ∷ []) (page.Pushed false, map number items)).0
    go true = refl
    go false = refl

number_front : (items : List (Item ℕ)) → answer_seen (answer_of_item (slice_get items 0)) ≡ page.Popped (slice_get (map number items) 0)
number_front [] = refl
number_front (Index value ∷ items) = refl
number_front (Value value ∷ items) = refl

-- the page's list after a call
one_after : (capacity : ℕ) (items : List (Item ℕ)) (start : Start ℕ) → is_push_or_pop start ≡ true
    → map number (list_after capacity items start) ≡ (page.listed capacity (map number items) (call_seen start)).1
one_after capacity items (Queues (PushIndex value)) own = pushed_after capacity items (Index value)
one_after capacity items (Queues (Push value)) own = pushed_after capacity items (Value value)
one_after capacity items (Queues Pop) own = number_rest items
one_after capacity items other own = absurd (cc)

-- what the model's list answers is what the page's answers
one_answer : (capacity : ℕ) (items : List (Item ℕ)) (start : Start ℕ) → is_push_or_pop start ≡ true
    → answer_seen (list_answer capacity items start) ≡ (page.listed capacity (map number items) (call_seen start)).0
one_answer capacity items (Queues (PushIndex value)) own = pushed_answer capacity items value
one_answer capacity items (Queues (Push value)) own = pushed_answer capacity items value
one_answer capacity items (Queues Pop) own = number_front items
one_answer capacity items other own = absurd (cc)

pub is_list : (c : ℕ) → IsObject reading (as_list queue_kinds.IndexQueue c) (page.bounded_list c)
is_list c = record { state = map number; opens = refl; after = one_after c; answer = one_answer c }

-- ---- every list of turns

admitted : (c : ℕ) → c < 2 ^ 32 → capacity_error kinds.IndexQueue c ≡ None
admitted c few = grind (arith, nat_tests)

may_below : (p : ℕ) (call : page.Call) → page.may p call ≡ true → p < 2
may_below p (page.Push value) allowed = grind (arith, nat_tests)
may_below p page.Pop allowed = grind (arith, nat_tests)

-- the turns are those of the page's specification
same_turn : (c : ℕ) (few : c < 2 ^ 32) (turn : machine.Turn page.Call) → relates.as_turn (relation (tie c few) roles_told) 2 turn ≡ as_turn turn
unfolding tie
same_turn c few (machine.Begin p call) = refl
same_turn c few (machine.Next p) = refl

abbrev world_of : ℕ → List (machine.Turn page.Call) → (machine.World page.Call page.Stage page.Answer)
world_of c turns = fold (machine.turned (page.index_queue c)) (machine.opening (page.index_queue c)) turns

-- after fewer than 2^63 turns the two machines meet
met : (c : ℕ) (turns : List (machine.Turn page.Call)) (few : c < 2 ^ 32) → length turns < 2 ^ 63
    → Meets (relation (tie c few) roles_told) 2 (world_of c turns) (0 + length turns) (run (map as_turn turns) (acquired c))
met c turns few small =
    let cells : 1 * c ≡ c = omega arith in
    meets_acquired (tie c few) (reached_by one_word kinds.IndexQueue c 2 acquires coded (admitted c few))
    (ap (λ k. acquired_with (tie c few) (0 ∷ 0 ∷ 0 ∷ 0 ∷ replicate k 0)) cells) may_below as_turn (same_turn c few) turns small

-- what the page runs is linearizable as the bounded list
pub linearizable : (c : ℕ) (turns : List (machine.Turn page.Call)) → c < 2 ^ 32 → length turns < 2 ^ 63
    → machine.IsLinearizable (page.bounded_list c) (world_of c turns).history
linearizable c turns few small =
    let s = met c turns few small in
    let keeps = (queue_keeps {T = ℕ} queue_kinds.IndexQueue).kept (run_now s) refl (reached_now s) in
    linearizable_seen s (is_list c) 4 among within (run_linearizable (run_now s) keeps)

-- each stage asks for what the code's function asks for, and goes on as it does
pub code : DoesAsTheCode
code c stage few fits = (asks_same c stage few fits, after_same c stage)

-- the words, invocations and responses of the page's machine are those of the model's
pub runs : RunsAsTheMachine
runs c turns few small = same (met c turns few small)

pub pushes : PushesByTable
pushes c value stage old = (refl, refl)

pub pops : PopsByTable
pops c value stage old = (refl, refl)

-- a run that those turns lead to
pub runs_of : (t : Trace ℕ) (c : ℕ) (turns : List (machine.Turn page.Call)) → c < 2 ^ 32 → length turns < 2 ^ 63 → t ≡ run (map as_turn turns) (acquired c)
    → IsSame reading roles_told t (world_of c turns)
runs_of t c turns few small is = subst (λ u. IsSame reading roles_told u (world_of c turns)) (sym is) (runs c turns few small)
