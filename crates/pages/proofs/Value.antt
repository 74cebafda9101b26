-- The theorem of the single value's page, from the model's.
use Rattle.std.specs.List.{AllByRecursion, Contains}
use Rattle.std.proofs.Common.{◌%◌, ◌^◌, ◌-◌, is_some, mod-lt}
use Rattle.std.specs.Ordering.{is_eq, nat_cmp}
use Rattle.model.proofs.Names.{fold, Bool, IsCoding, List, None, Option, Some, Trace, World, [], after_turn}
use Rattle.model.proofs.Names.{answer_in, ap, arith, ask_of, cond, doing_of, false, first_row}
use Rattle.model.proofs.Names.{flight_of, length, map, one_word, opening, refl, step_of}
use Rattle.model.proofs.Names.{true, ℕ, ⊎_elim, ◌++◌, ◌+◌, ◌<◌, ◌==◌, ◌∙◌, ◌∷◌, ◌≡◌, ◌≤◌}
use Rattle.model.proofs.Names as model
use Rattle.model.specs.declared.event.Answer.{Answer}
use Rattle.model.specs.declared.event.Answer.TheVariants as answers
use Rattle.model.specs.declared.event.Event.{Event}
use Rattle.model.specs.declared.event.Start.{Start}
use Rattle.model.specs.declared.event.Start.TheVariants.{Atomic}
use Rattle.model.specs.declared.families.Flight.TheVariants as flights
use Rattle.model.specs.declared.families.Registry.{Registry}
use Rattle.model.specs.declared.families.Registry.TheVariants as registries
use Rattle.model.specs.declared.families.atomic.AtomicStart.{AtomicStart}
use Rattle.model.specs.declared.families.atomic.AtomicStart.TheVariants as starts
use Rattle.model.specs.declared.party.Party.{Party}
use Rattle.model.specs.declared.turn.Kind.TheVariants as kinds
use Rattle.model.specs.declared.turn.Refusal.TheVariants.{AtEnd, Busy, Idle, NoParty, Undecided}
use Rattle.model.specs.declared.turn.Turn.{Turn}
use Rattle.model.specs.declared.turn.Turn.TheVariants.{Begin, Next}
use Rattle.model.specs.Families.{begin_rows}
use Rattle.model.specs.Families.Atomic.Calls.{after, want}
use Rattle.model.specs.Families.Atomic.Objects.{value_after, value_answer}
use Rattle.model.specs.Families.Atomic.Steps.{acted, producer_after}
use Rattle.model.specs.Linearizable.{calls_from, calls_of}
use Rattle.model.specs.Linearized.{as_value, is_store_or_load}
use Rattle.model.specs.Step.{as_call}
use Rattle.model.specs.Turns.{attempt, run}
use Rattle.model.proofs.Linearizable.Kinds.{run_linearizable}
use Rattle.model.proofs.Linearizable.Members.{split, there}
use Rattle.laws_value.proofs.Sound.{value_keeps}
use Rattle.steps.specs.declared.ask.Op.TheVariants.{Load, Store}
use Rattle.steps.specs.Atomic.{cell_word}
use Rattle.steps.specs.Queues.Ring.{word_at}
use Rattle.pages.specs.Value as page
use Rattle.pages.specs.Machine as machine
use Rattle.pages.specs.ValueBridge.{LoadsByTable, StoresByTable, ValueDoesAsTheCode, ValueRunsAsTheMachine, acquired}
use Rattle.pages.specs.ValueBridge.{acquires, answer_seen, answered, as_turn, call_seen, flight, parties_of, read_then}
use Rattle.pages.specs.ValueBridge.{reading, role_told, value_start, went}
use Rattle.pages.specs.Reading.{all_seen, asked}
use Rattle.pages.proofs.Seen.{IsObject, IsOwn}
use Rattle.pages.proofs.Relates.{Meets, Relation}
use Rattle.pages.proofs.Relates as relates
use Rattle.pages.proofs.Runs.{meets_after, no_rules, reached_by}
use Rattle.pages.proofs.Roles.{holds_row, lacks_row}
use Rattle.pages.proofs.Simulates.{GoesRight, StepIs, Tie, linearizable_seen, pairing, reached_now, relation, run_now, same}
use Rattle.pages.proofs.Turns.{either, not_past, taken}

-- ---- the tables are the same

-- the call that a stage belongs to
abbrev pub call_at : page.Stage → page.Call
call_at (page.StoreLoadsVersion value) = page.StoreValue value
call_at (page.StoreStoresCell value version) = page.StoreValue value
call_at (page.StoreAddsVersion value) = page.StoreValue value
call_at page.LoadLoadsVersion = page.LoadValue
call_at (page.LoadLoadsCell version) = page.LoadValue
call_at (page.LoadChecksVersion version value) = page.LoadValue

abbrev comes : page.Stage → ℕ → (machine.After page.Stage page.Answer)
comes stage old = (page.does stage).2 old

cell_is : (k : ℕ) → word_at (cell_word 1 k) 0 ≡ 2 + k % 2
cell_is k =
    let some : 0 < 2 = omega arith in
    omega (arith, mod-lt k some)

-- a stage of the page asks for the operation that the code asks for
pub asks_same : (before : ℕ) (stage : page.Stage) → ask_of (want one_word (flight before stage)) ≡ Some (asked (page.does stage).0 (page.does stage).1)
asks_same before (page.StoreStoresCell value version) = ap (λ k. Some (record { word = k; op = Store value })) (cell_is version)
asks_same before (page.LoadLoadsCell version) = ap (λ k. Some (record { word = k; op = Load })) (cell_is ((version + 2 ^ 64 - 1) % 2 ^ 64))
asks_same before stage = refl

-- a stage of the page goes on from each old word as the code does
after_same : (before : ℕ) (stage : page.Stage) (old : ℕ) → after one_word (flight before stage) old ≡ went (read_then before stage) (comes stage old)
after_same before (page.StoreLoadsVersion value) old = grind arith
after_same before (page.LoadChecksVersion version value) old = grind arith
after_same before stage old = refl

-- where a call goes on it is the same call
pub right : (stage : page.Stage) (old : ℕ) → GoesRight call_at (λ stage. true) (call_at stage) (comes stage old)
right (page.StoreLoadsVersion value) old = either (GoesRight call_at (λ stage. true) (page.StoreValue value)) (old == 2 ^ 64 - 1) _ _ tt (refl, refl)
right (page.StoreStoresCell value version) old = (refl, refl)
right (page.StoreAddsVersion value) old = tt
right page.LoadLoadsVersion old = (refl, refl)
right (page.LoadLoadsCell version) old = (refl, refl)
right (page.LoadChecksVersion version value) old = either (GoesRight call_at (λ stage. true) page.LoadValue) (old == version) _ _ tt (refl, refl)

-- ---- what a step does beside

role_stays : (p : ℕ) (call : page.Call) (outcome : Option (Answer ℕ)) (role : Option ℕ) → producer_after p (value_start call) outcome role ≡ role
role_stays p (page.StoreValue value) outcome role = refl
role_stays p page.LoadValue outcome role = refl

acted_unseen : (p : ℕ) (start : AtomicStart ℕ) (outcome : Option (Answer ℕ)) → all_seen reading (acted p start outcome) ≡ []
acted_unseen p (starts.Store value) (Some (answers.Truth true)) = refl
acted_unseen p starts.Load (Some answer) = refl
acted_unseen p start outcome = refl

acted_own : (p : ℕ) (start : AtomicStart ℕ) (outcome : Option (Answer ℕ)) → AllByRecursion (IsOwn is_store_or_load) (acted p start outcome)
acted_own p (starts.Store value) (Some (answers.Truth true)) = (tt, tt)
acted_own p starts.Load (Some answer) = (tt, tt)
acted_own p start outcome = tt

abbrev kept : Registry ℕ
kept = registries.Atomic (Some 0)

-- What a step came to is the same, told as of a call on a value and as of any call.
went_same : (before : ℕ) (a : (machine.After page.Stage page.Answer))
    → as_call flights.Atomic (λ (answer : Answer ℕ). answer) (went before a)
    ≡ relates.went (λ stage. flights.Atomic (flight before stage)) answered a
went_same before (machine.GoOn stage) = refl
went_same before (machine.Done answer) = refl

-- a step of the model's call comes to what the page's comes to, and leaves the role
pub goes : (role : Option ℕ) (words : List ℕ) (beside : Option (ℕ × ℕ)) (p before : ℕ) (stage : page.Stage) (old : ℕ)
    → StepIs ℕ page.value reading is_store_or_load kinds.Atomic 1 (registries.Atomic role)
    (λ r stage. flights.Atomic (flight r stage)) answered
    (step_of one_word words beside p (Atomic (value_start (call_at stage))) (flights.Atomic (flight before stage)) old
    (registries.Atomic role))
    (comes stage old)
goes role words beside p before stage old =
    let outcome = answer_in (after one_word (flight before stage) old) in
    record {
      room = read_then before stage;
      after_is =
          ap (as_call flights.Atomic (λ answer. answer)) (after_same before stage old)
          ∙ went_same (read_then before stage) (comes stage old);
      kept_is = ap registries.Atomic (role_stays p (call_at stage) outcome role);
      unseen = acted_unseen p (value_start (call_at stage)) outcome;
      own = acted_own p (value_start (call_at stage)) outcome;
    }

-- ---- who may begin

-- each stage of the page's store or load is a stage of the code's call: the same word, the same answer, the same way on
unfoldable pub tie : Tie ℕ page.value reading is_store_or_load kinds.Atomic 1 kept
tie =
    record {
      call_at = call_at;
      start = λ call. Atomic (value_start call);
      room = 0;
      flight = λ before stage. flights.Atomic (flight before stage);
      answered = answered;
      fits = λ stage. true;
      reads_start = reads_start;
      reads_answer = reads_answer;
      is_own = is_own;
      admits = admits;
      refuses = refuses;
      begins = begins;
      keeps = λ p call. refl;
      first_at = first_at;
      first_fits = λ call. refl;
      asks = λ before stage fit. asks_same before stage;
      rows = λ before stage. refl;
      goes = λ words beside p r stage old fit. goes (Some 0) words beside p r stage old;
      right = λ stage old fit. right stage old;
    }
  where
    -- the page reads back the call and the answer that it gave the model
    reads_start : (call : page.Call) → call_seen (Atomic (value_start call)) ≡ call
    reads_start (page.StoreValue value) = refl
    reads_start page.LoadValue = refl

    reads_answer : (answer : page.Answer) → answer_seen (answered answer) ≡ answer
    reads_answer (page.Stored b) = refl
    reads_answer (page.Loaded value) = refl

    is_own : (call : page.Call) → is_store_or_load (Atomic (value_start call)) ≡ true
    is_own (page.StoreValue value) = refl
    is_own page.LoadValue = refl

    -- the model admits a call exactly if the page does
    admits : (p : ℕ) (call : page.Call) → page.may p call ≡ true
        → first_row (begin_rows kinds.Atomic 1 kept p (Atomic (value_start call))) ≡ None
    admits p (page.StoreValue value) allowed = holds_row 0 p allowed
    admits p page.LoadValue allowed = refl

    refuses : (p : ℕ) (call : page.Call) → page.may p call ≡ false
        → is_some (first_row (begin_rows kinds.Atomic 1 kept p (Atomic (value_start call)))) ≡ true
    refuses p (page.StoreValue value) refused = lacks_row 0 p refused
    refuses p page.LoadValue refused = absurd (cc)

    -- a call begins with the page's first stage
    begins : (call : page.Call)
        → model.first_of kinds.Atomic 1 (Atomic (value_start call)) kept
        ≡ Some (flights.Atomic (flight 0 (page.first call)))
    begins (page.StoreValue value) = refl
    begins page.LoadValue = refl

    first_at : (call : page.Call) → call_at (page.first call) ≡ call
    first_at (page.StoreValue value) = refl
    first_at page.LoadValue = refl

-- ---- the register

-- After a store or a load the model's value is the register's.
one_after : (held : ℕ) (start : Start ℕ) → is_store_or_load start ≡ true
    → value_after held start ≡ (page.registered held (call_seen start)).1
one_after held (Atomic (starts.Store value)) own = refl
one_after held (Atomic starts.Load) own = refl
one_after held other own = absurd (cc)

-- A store or a load gets the answer of the register.
one_answer : (held : ℕ) (start : Start ℕ) → is_store_or_load start ≡ true
    → answer_seen (value_answer held start) ≡ (page.registered held (call_seen start)).0
one_answer held (Atomic (starts.Store value)) own = refl
one_answer held (Atomic starts.Load) own = refl
one_answer held other own = absurd (cc)

pub is_register : IsObject reading (as_value one_word) page.register
is_register = record { state = λ held. held; opens = refl; after = one_after; answer = one_answer }

-- ---- behind the acquire

abbrev producer : model.Call ℕ
producer = record { place = 0; party = 0; start = Atomic starts.AcquireProducer; response = Some (record { place = 1; answer = answers.Truth true }) }

among : (es : List (Event ℕ)) (c : model.Call ℕ) → is_store_or_load c.start ≡ true → Contains (calls_of (role_told ++ es)) c → Contains (calls_from es 2) c
among es c mine is =
    ⊎_elim (λ e. let other : false ≡ is_store_or_load c.start = ap (λ (x : model.Call ℕ). is_store_or_load x.start) e in absurd (cc)) (λ rest. rest)
    (split producer c (calls_from es 2) is)

within : (es : List (Event ℕ)) (c : model.Call ℕ) → Contains (calls_from es 2) c → Contains (calls_of (role_told ++ es)) c
within es c is = there producer c (calls_from es 2) is

-- ---- every list of turns

coded : IsCoding one_word
coded = grind arith

-- the model's machine with n parties as it opens
abbrev opened : ℕ → Trace ℕ
opened n = opening one_word kinds.Atomic 1 n

abbrev begun : ℕ → Trace ℕ
begun n = after_turn (opened n) (Begin 0 (Atomic starts.AcquireProducer))

-- the acquire of the role is not refused as it begins
begins_acquire : (n : ℕ) → 0 < n → attempt (opened n) (Begin 0 (Atomic starts.AcquireProducer)) ≡ begun n
begins_acquire n lt =
    taken (opened n) (Begin 0 (Atomic starts.AcquireProducer))
    (ap (λ b. first_row ((false, AtEnd) ∷ (b, NoParty) ∷ (false, Busy)
    ∷ begin_rows {T = ℕ} kinds.Atomic 1 (registries.Atomic None) 0 (Atomic starts.AcquireProducer)))
    (not_past n 0 lt))

acquires_then : (n : ℕ) → 0 < n → attempt (begun n) (Next 0) ≡ after_turn (begun n) (Next 0)
acquires_then n lt =
    taken (begun n) (Next 0)
    (ap (λ b. first_row ((false, AtEnd) ∷ (b, NoParty) ∷ (false, Idle) ∷ (false, Undecided) ∷ [])) (not_past n 0 lt))

acquired_is : (n : ℕ) → 0 < n → acquired n ≡ after_turn (begun n) (Next 0)
acquired_is n lt = ap (λ t. attempt t (Next 0)) (begins_acquire n lt) ∙ acquires_then n lt

-- the page goes along with the model's machine behind the acquire
abbrev law : Relation (pairing tie role_told) one_word kinds.Atomic 1
law = relation tie role_told

-- behind the acquire the two machines meet
opens : (n : ℕ) → 0 < n → Meets law n (machine.opening page.value) 0 (acquired n)
opens n lt =
    let last = after_turn (begun n) (Next 0) in
    record {
      latest = last.world.latest;
      changes = last.world.changes;
      turns = last.world.turns;
      kept = kept;
      events = role_told;
      few = omega arith;
      is = acquired_is n lt;
      reached = reached_by one_word kinds.Atomic 1 n acquires coded refl;
      related = record { kept_is = refl; later = []; is = refl; told = refl; own = tt };
      matches = λ p. idle _ refl (is_eq (nat_cmp p 0));
    }
  where
    idle : (x : Party ℕ) → flight_of (doing_of (Some x)) ≡ None → (b : Bool) → flight_of (doing_of (cond b (Some x) None)) ≡ None
    idle x free true = free
    idle x free false = refl

at_least_one : (turns : List (machine.Turn page.Call)) → 0 < parties_of turns
at_least_one [] = omega arith
at_least_one (machine.Begin p call ∷ turns) = let more = at_least_one turns in omega arith
at_least_one (machine.Next p ∷ turns) = at_least_one turns

all_within : (n : ℕ) (turns : List (machine.Turn page.Call)) → parties_of turns ≤ n → AllByRecursion (relates.IsWithin law n) turns
all_within n [] le = tt
all_within n (machine.Begin p call ∷ turns) le = ((λ m. omega arith), all_within n turns (omega arith))
all_within n (machine.Next p ∷ turns) le = (tt, all_within n turns le)

-- the turns are those of the page's specification
same_turn : (n : ℕ) (turn : machine.Turn page.Call) → relates.as_turn law n turn ≡ as_turn turn
unfolding tie
same_turn n (machine.Begin p call) = refl
same_turn n (machine.Next p) = refl

abbrev world_of : List (machine.Turn page.Call) → (machine.World page.Call page.Stage page.Answer)
world_of turns = fold (machine.turned page.value) (machine.opening page.value) turns

-- after fewer than 2^63 turns of the model's parties the two machines meet
met : (n : ℕ) (turns : List (machine.Turn page.Call)) → parties_of turns ≤ n → length turns < 2 ^ 63
    → Meets law n (world_of turns) (0 + length turns) (run (map as_turn turns) (acquired n))
met n turns le small =
    let one = at_least_one turns in
    meets_after law n (opens n (omega arith)) as_turn (same_turn n) turns (all_within n turns le) (no_rules law n (λ w turn. tt) turns _) small

-- what the page runs is linearizable as the register
pub linearizable : (turns : List (machine.Turn page.Call)) → length turns < 2 ^ 63
    → machine.IsLinearizable page.register (world_of turns).history
linearizable turns small =
    let s = met (parties_of turns) turns (omega arith) small in
    let keeps = (value_keeps {T = ℕ}).kept (run_now s) refl (reached_now s) in
    linearizable_seen s is_register 2 among within (run_linearizable (run_now s) keeps)

pub code : ValueDoesAsTheCode
code before stage = (asks_same before stage, after_same before stage)

-- the words, invocations and responses of the page's machine are those of the model's
pub runs : ValueRunsAsTheMachine
runs turns n le small = same (met n turns le small)

pub by_stores : StoresByTable
by_stores value stage old = (refl, refl)

pub by_loads : LoadsByTable
by_loads word stage old = (refl, refl)
