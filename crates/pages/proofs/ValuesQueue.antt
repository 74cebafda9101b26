-- The theorem of the page of the queue of values, from the model's.
use Rattle.std.proofs.Common.{◌%◌, ◌*◌, ◌^◌, ◌||◌, ◌-◌, drop, is_some, replicate, mod-lt, nat_lt, take, suc}
use Rattle.std.proofs.Math.Nat.{mul-le-mul_left}
use Rattle.std.proofs.Math.Seq.{set-append_seam, take-append_seam}
use Rattle.std.proofs.lemmas.Bool.Decides.{nat_tests}
use Rattle.std.proofs.lemmas.List.{length-append, length-map, length-replicate, map-append}
use Rattle.std.specs.Prelude.{slice_index}
use Rattle.model.proofs.Names.{fold, Bool, IsCoding, List, None, Option, Some, [], answer_in, ap, append_assoc}
use Rattle.model.proofs.Names.{arith, ask_of, capacity_error, cond, false, first_row, length, map, opening, refl}
use Rattle.model.proofs.Names.{slice_get, step_of, sym, true, ℕ, ◌++◌, ◌+◌, ◌<◌, ◌==◌, ◌∙◌, ◌∷◌, ◌≡◌, ◌≤◌}
use Rattle.model.proofs.Names as model
use Rattle.model.specs.declared.event.Answer.{Answer}
use Rattle.model.specs.declared.event.Answer.TheVariants.{Popped, Truth}
use Rattle.model.specs.declared.event.Item.{Item}
use Rattle.model.specs.declared.event.Item.TheVariants.{Index, Value}
use Rattle.model.specs.declared.event.Start.{Start}
use Rattle.model.specs.declared.event.Start.TheVariants.{Queues}
use Rattle.model.specs.declared.families.Flight.TheVariants as flights
use Rattle.model.specs.declared.families.Registry.TheVariants as registries
use Rattle.model.specs.declared.families.queues.QueueKind.TheVariants as queue_kinds
use Rattle.model.specs.declared.families.queues.QueueStart.TheVariants.{PushIndex, Push, Pop}
use Rattle.model.specs.declared.families.queues.Roles.{Roles}
use Rattle.model.specs.declared.families.queues.calls.QueueFlight.{QueueFlight}
use Rattle.model.specs.declared.families.queues.calls.QueueFlight.TheVariants.{Values}
use Rattle.model.specs.declared.families.queues.calls.RingCall.TheVariants as rings
use Rattle.model.specs.declared.turn.Kind.TheVariants as kinds
use Rattle.model.specs.Families.{begin_rows}
use Rattle.model.specs.Families.Queues.Calls.{after, as_it_is, kept_at, popped_value, read_in, want}
use Rattle.model.specs.Families.Queues.Objects.{appended, answer_of_item, list_after, list_answer}
use Rattle.model.specs.Families.Queues.Steps.{effect_of, roles_after}
use Rattle.model.specs.Linearized.{as_list, is_push_or_pop}
use Rattle.model.specs.Step.{as_call}
use Rattle.model.specs.Turns.{run}
use Rattle.model.proofs.Linearizable.Kinds.{run_linearizable}
use Rattle.laws_queues.proofs.Queues.Sound.{queue_keeps}
use Rattle.steps.specs.declared.ask.After.{After}
use Rattle.steps.specs.declared.ask.After.TheVariants.{Done, GoOn}
use Rattle.steps.specs.declared.ask.Op.TheVariants.{Load, Store}
use Rattle.steps.specs.declared.copied.Buffer.{Buffer}
use Rattle.steps.specs.declared.queues.ring.PushStage.TheVariants as pushes
use Rattle.steps.specs.declared.queues.ring.PopStage.TheVariants as pops
use Rattle.steps.specs.Queues.Ring.{cell_word, pop_answer, word_at}
use Rattle.steps.specs.Routine.{went_on}
use Rattle.pages.specs.Queue as page
use Rattle.pages.specs.Machine as machine
use Rattle.pages.specs.IndexQueueBridge.{acquires, roles_told}
use Rattle.pages.specs.QueueBridge.{Fits, QueueDoesAsTheCode, QueuePopsByTable, QueuePushesByTable, QueueRunsAsTheMachine}
use Rattle.pages.specs.QueueBridge.{acquired, answer_seen, answered, as_turn, call_seen, code_of, flight, queue_start}
use Rattle.pages.specs.QueueBridge.{reading, room_of, went}
use Rattle.pages.specs.Reading.{asked}
use Rattle.pages.proofs.Seen.{IsObject}
use Rattle.pages.proofs.Relates.{Meets}
use Rattle.pages.proofs.Relates as relates
use Rattle.pages.proofs.Runs.{reached_by}
use Rattle.pages.proofs.Roles.{among, effects_own, effects_unseen, held, holds_row, kept, lacks_row, meets_acquired, within}
use Rattle.pages.proofs.Simulates.{GoesRight, StepIs, TieOf, linearizable_seen, reached_now, relation, run_now, same}
use Rattle.pages.proofs.Turns.{either, either_so, neither}

-- ---- the words of a cell, and of a room

-- where the word `at` of the cell of a position lies: no sum wraps
cell_is : (size c position at : ℕ) → size ≤ 128 → c < 2 ^ 32 → (c == 0) ≡ false → at < size
    → word_at (cell_word c size position) at ≡ 4 + size * (position % c) + at
cell_is size c position at small few some lt =
    let more : 0 < c = grind (arith, nat_tests) in
    let below = mod-lt position more in
    let part : size * (position % c) ≤ size * 2 ^ 32 = mul-le-mul_left size (omega arith) in
    rw some (word_is (size * (position % c)) (omega arith))
  where
    word_is : (first : ℕ) → first ≤ 128 * 2 ^ 32 → (4 + first + at) % 2 ^ 64 ≡ 4 + first + at
    word_is first le = omega arith

-- the next word goes behind those that the room has
room_more : (loaded : List ℕ) (old : ℕ) → length loaded < 128 → kept_at (room_of loaded) (length loaded) old ≡ room_of (loaded ++ old ∷ [])
room_more loaded old lt =
    let left = 128 - (length loaded + 1) in
    let long : length (loaded ++ old ∷ []) ≡ length loaded + 1 = length-append loaded (old ∷ []) in
    let first : 128 - length loaded ≡ suc left = omega arith in
    let rest : 128 - length (loaded ++ old ∷ []) ≡ left = ap (λ n. 128 - n) long in
    ap (λ n. kept_at (record { words = loaded ++ replicate n 0 }) (length loaded) old) first
    ∙ (ap (λ ws. record { words = ws }) (set-append_seam loaded 0 (replicate left 0) old)
    ∙ ap (λ ws. record { words = ws })
    (sym (append_assoc loaded (old ∷ []) (replicate left 0)) ∙ ap (λ n. (loaded ++ old ∷ []) ++ replicate n 0) (sym rest)))

module _ {T : Type 0} (how : page.Written T) where
  -- what a whole value in a room is
  read_is : (loaded : List ℕ) → length loaded ≡ how.size → read_in (code_of how) (room_of loaded) ≡ how.value_of loaded
  read_is loaded whole =
      let few = how.fits.1 in
      let words = loaded ++ replicate (128 - length loaded) 0 in
      let long = length-append loaded (replicate (128 - length loaded) 0) in
      let zeros = length-replicate {A = ℕ} (128 - length loaded) 0 in
      let enough : nat_lt (length words) how.size ≡ false = not_below (length words) how.size (omega arith) in
      ap (λ b. cond b (how.value_of (take how.size (replicate 128 0))) (how.value_of (take how.size words))) enough
      ∙ ap how.value_of (ap (λ n. take n words) (sym whole) ∙ take-append_seam loaded (replicate (128 - length loaded) 0))
    where
      not_below : (m n : ℕ) → n ≤ m → nat_lt m n ≡ false
      not_below m n le = grind (arith, nat_tests)

  -- ---- the tables are the same

  abbrev pub call_at : page.Stage T → page.Call T
  call_at (page.PushLoadsWrite value) = page.Push value
  call_at (page.PushLoadsRead value write) = page.Push value
  call_at (page.PushStoresCell value write stored) = page.Push value
  call_at (page.PushStoresWrite value write) = page.Push value
  call_at page.PopLoadsRead = page.Pop
  call_at (page.PopLoadsWrite read) = page.Pop
  call_at (page.PopLoadsCell read loaded) = page.Pop
  call_at (page.PopStoresRead read loaded) = page.Pop

  -- a call that goes to a cell has found that there is one, and how many words it has copied
  abbrev pub fits : ℕ → page.Stage T → Bool
  fits c (page.PushStoresCell value write stored) = cond (c == 0) false (nat_lt stored how.size)
  fits c (page.PopLoadsCell read loaded) = cond (c == 0) false (nat_lt (length loaded) how.size)
  fits c (page.PopStoresRead read loaded) = length loaded == how.size
  fits c stage = true

  both_fit : (c at size : ℕ) → cond (c == 0) false (nat_lt at size) ≡ true → ((c == 0) ≡ false) × (at < size)
  both_fit c at size e = go (c == 0) (nat_lt at size) refl e
    where
      go : (a b : Bool) → nat_lt at size ≡ b → cond a false b ≡ true → (a ≡ false) × (at < size)
      go true b f e = absurd (cc)
      go false true f e = (refl, grind (arith, nat_tests))
      go false false f e = absurd (cc)

  pub fits_so : (c : ℕ) (stage : page.Stage T) → fits c stage ≡ true → Fits how c stage
  fits_so c (page.PushStoresCell value write stored) fitting = both_fit c stored how.size fitting
  fits_so c (page.PopLoadsCell read loaded) fitting = both_fit c (length loaded) how.size fitting
  fits_so c (page.PopStoresRead read loaded) fitting = grind (arith, nat_tests)
  fits_so c stage fitting = tt

  abbrev comes : ℕ → page.Stage T → ℕ → machine.After (page.Stage T) (page.Answer T)
  comes c stage old = (page.does how c stage).2 old

  -- a stage of the page asks for the operation that the code asks for
  pub asks_same : (c : ℕ) (stage : page.Stage T) → c < 2 ^ 32 → Fits how c stage
      → ask_of (want (code_of how) (flight how c stage)) ≡ Some (asked (page.does how c stage).0 (page.does how c stage).1)
  asks_same c (page.PushStoresCell value write stored) few fit =
      ap (λ k. Some (record { word = k; op = Store (slice_index (how.words_of value) stored) })) (cell_is how.size c write stored how.fits.1 few fit.0 fit.1)
  asks_same c (page.PopLoadsCell read loaded) few fit =
      ap (λ k. Some (record { word = k; op = Load })) (cell_is how.size c read (length loaded) how.fits.1 few fit.0 fit.1)
  asks_same c stage few fit = refl

  -- ---- from word to word

  -- there is a first word
  first_word : nat_lt 0 how.size ≡ true
  first_word = let some = how.fits.0 in grind (arith, nat_tests)

  -- a push whose next word is this, and a pop once this room has the word, where words are missing still or not
  abbrev stores_on : ℕ → T → ℕ → Bool → ℕ → After (QueueFlight T) (Answer T)
  stores_on c value write b at =
      as_call (λ r. Values (rings.Push r)) Truth
      (went_on as_it_is value tt
      (cond b (GoOn (record { capacity = c; stage = pushes.StoresCell write (cell_word c how.size write) at; of = record {} }))
      (GoOn (record { capacity = c; stage = pushes.StoresWrite write; of = record {} }))))

  abbrev loads_on : ℕ → ℕ → Bool → Buffer 128 → ℕ → After (QueueFlight T) (Answer T)
  loads_on c read b room at =
      as_call (λ r. Values (rings.Pop r)) popped_value
      (went_on (λ end given room. pop_answer (read_in (code_of how) room) end) tt room
      (cond b (GoOn (record { capacity = c; stage = pops.LoadsCell read (cell_word c how.size read) at; of = record {} }))
      (GoOn (record { capacity = c; stage = pops.StoresRead read; of = record {} }))))

  stores_same : (c : ℕ) (value : T) (write at : ℕ) (b : Bool)
      → stores_on c value write b at
      ≡ GoOn (flight how c (cond b (page.PushStoresCell value write at) (page.PushStoresWrite value write)))
  stores_same c value write at true = refl
  stores_same c value write at false = refl

  loads_same : (c read : ℕ) (loaded : List ℕ) (b : Bool)
      → loads_on c read b (room_of loaded) (length loaded)
      ≡ GoOn (flight how c (cond b (page.PopLoadsCell read loaded) (page.PopStoresRead read loaded)))
  loads_same c read loaded true = refl
  loads_same c read loaded false = refl

  -- a stage of the page goes on from each old word as the code does
  after_same : (c : ℕ) (stage : page.Stage T) (old : ℕ) → Fits how c stage
      → after (code_of how) (flight how c stage) old ≡ went how c (comes c stage old)
  after_same c (page.PushLoadsWrite value) old fit = grind arith
  after_same c (page.PushLoadsRead value write) old fit = go ((c == 0) || ((write + 2 ^ 64 - old) % 2 ^ 64 == c))
    where
      go : (b : Bool)
          → as_call (λ r. Values (rings.Push r)) Truth
          (went_on as_it_is value tt
          (cond b (Done false)
          (GoOn (record { capacity = c; stage = pushes.StoresCell write (cell_word c how.size write) 0; of = record {} }))))
          ≡ went how c (cond b (machine.Done (page.Pushed false)) (machine.GoOn (page.stores how c value write 0)))
      go true = refl
      go false = ap (λ d. GoOn (flight how c (cond d (page.PushStoresCell value write 0) (page.PushStoresWrite value write)))) (sym first_word)
  after_same c (page.PushStoresCell value write word) old fit = stores_same c value write (word + 1) (nat_lt (word + 1) how.size)
  after_same c (page.PushStoresWrite value write) old fit = refl
  after_same c page.PopLoadsRead old fit = refl
  after_same c (page.PopLoadsWrite read) old fit = go ((c == 0) || (old == read))
    where
      go : (b : Bool)
          → as_call (λ r. Values (rings.Pop r)) popped_value
          (went_on (λ end given room. pop_answer (read_in (code_of how) room) end) tt (room_of [])
          (cond b (Done false)
          (GoOn (record { capacity = c; stage = pops.LoadsCell read (cell_word c how.size read) 0; of = record {} }))))
          ≡ went how c (cond b (machine.Done (page.Popped None)) (machine.GoOn (page.loads how c read [])))
      go true = refl
      go false = ap (λ d. GoOn (flight how c (cond d (page.PopLoadsCell read []) (page.PopStoresRead read [])))) (sym first_word)
  after_same c (page.PopLoadsCell read loaded) old fit =
      let few = how.fits.1 in
      let next = loaded ++ old ∷ [] in
      let long : length loaded + 1 ≡ length next = sym (length-append loaded (old ∷ [])) in
      ap (λ room. loads_on c read (nat_lt (length loaded + 1) how.size) room (length loaded + 1)) (room_more loaded old (omega (arith, fit.1)))
      ∙ (ap (λ n. loads_on c read (nat_lt n how.size) (room_of next) n) long ∙ loads_same c read next (nat_lt (length next) how.size))
  after_same c (page.PopStoresRead read loaded) old fit = ap (λ v. Done (Popped v)) (read_is loaded fit)

  -- ---- a call goes on as the same

  abbrev IsSo : ℕ → page.Call T → page.Stage T → Type 0
  IsSo c call stage = (call_at stage ≡ call) × (fits c stage ≡ true)

  stores_right : (c : ℕ) (value : T) (write at : ℕ) → (c == 0) ≡ false → at ≤ how.size → IsSo c (page.Push value) (page.stores how c value write at)
  stores_right c value write at some le = go (nat_lt at how.size) refl
    where
      go : (b : Bool) → nat_lt at how.size ≡ b → IsSo c (page.Push value) (cond b (page.PushStoresCell value write at) (page.PushStoresWrite value write))
      go true e = (refl, rw (some, e) refl)
      go false e = (refl, refl)

  loads_right : (c read : ℕ) (loaded : List ℕ) → (c == 0) ≡ false → length loaded ≤ how.size → IsSo c page.Pop (page.loads how c read loaded)
  loads_right c read loaded some le = go (nat_lt (length loaded) how.size) refl
    where
      go : (b : Bool) → nat_lt (length loaded) how.size ≡ b → IsSo c page.Pop (cond b (page.PopLoadsCell read loaded) (page.PopStoresRead read loaded))
      go true e = (refl, rw (some, e) refl)
      go false e = (refl, grind (arith, nat_tests))

  -- a call that goes on is the same call, at a stage that fits
  pub right : (c : ℕ) (stage : page.Stage T) (old : ℕ) → Fits how c stage → GoesRight call_at (fits c) (call_at stage) (comes c stage old)
  right c (page.PushLoadsWrite value) old fit = either (GoesRight call_at (fits c) (page.Push value)) (old == 2 ^ 64 - 1) _ _ tt (refl, refl)
  right c (page.PushLoadsRead value write) old fit =
      either_so (GoesRight call_at (fits c) (page.Push value)) ((c == 0) || ((write + 2 ^ 64 - old) % 2 ^ 64 == c)) _ _ (λ t. tt)
      (λ e. stores_right c value write 0 (neither (c == 0) ((write + 2 ^ 64 - old) % 2 ^ 64 == c) e) (omega arith))
  right c (page.PushStoresCell value write word) old fit =
      stores_right c value write (word + 1) fit.0 (omega (arith, fit.1))
  right c (page.PushStoresWrite value write) old fit = tt
  right c page.PopLoadsRead old fit = (refl, refl)
  right c (page.PopLoadsWrite read) old fit =
      either_so (GoesRight call_at (fits c) page.Pop) ((c == 0) || (old == read)) _ _ (λ t. tt)
      (λ e. loads_right c read [] (neither (c == 0) (old == read) e) (omega arith))
  right c (page.PopLoadsCell read loaded) old fit =
      let long = length-append loaded (old ∷ []) in
      loads_right c read (loaded ++ old ∷ []) fit.0 (omega (arith, fit.1))
  right c (page.PopStoresRead read loaded) old fit = tt

  -- ---- what a step does beside

  roles_stay : (p : ℕ) (call : page.Call T) (outcome : Option (Answer T)) (roles : Roles) → roles_after p (queue_start call) outcome roles ≡ roles
  roles_stay p (page.Push value) outcome roles = refl
  roles_stay p page.Pop outcome roles = refl

  went_same : (c : ℕ) (a : machine.After (page.Stage T) (page.Answer T))
      → as_call flights.Queues (λ (answer : Answer T). answer) (went how c a)
      ≡ relates.went (λ stage. flights.Queues (flight how c stage)) answered a
  went_same c (machine.GoOn stage) = refl
  went_same c (machine.Done answer) = refl

  -- a step of the model's call leads to where the page's call goes, and tells the page nothing else
  pub goes : (c : ℕ) (roles : Roles) (words : List ℕ) (beside : Option (ℕ × ℕ)) (p : ℕ) (stage : page.Stage T) (old : ℕ) → Fits how c stage
      → StepIs (Unit {0}) (page.queue how c) (reading how) is_push_or_pop kinds.Queue c (registries.Queues roles)
      (λ r stage. flights.Queues (flight how c stage)) answered
      (step_of (code_of how) words beside p (Queues (queue_start (call_at stage))) (flights.Queues (flight how c stage)) old
      (registries.Queues roles))
      (comes c stage old)
  goes c roles words beside p stage old fit =
      let outcome = answer_in (after (code_of how) (flight how c stage) old) in
      let eff = effect_of (code_of how) words beside (flight how c stage) old in
      record {
        room = tt;
        after_is = ap (as_call flights.Queues (λ answer. answer)) (after_same c stage old fit) ∙ went_same c (comes c stage old);
        kept_is = ap registries.Queues (roles_stay p (call_at stage) outcome roles);
        unseen = effects_unseen (reading how) p (queue_start (call_at stage)) eff outcome;
        own = effects_own p (queue_start (call_at stage)) eff outcome;
      }

  -- ---- who may begin

  abbrev tied : ℕ → Type 0
  tied c = TieOf (Unit {0}) (page.queue how c) (reading how) is_push_or_pop kinds.Queue c kept (code_of how)

  -- each stage of the page's push or pop is a stage of the code's call: the same word, the same answer, the same way on
  unfoldable pub tie : (c : ℕ) → c < 2 ^ 32 → tied c
  tie c few =
      record {
        call_at = call_at;
        start = λ call. Queues (queue_start call);
        room = tt;
        flight = λ r stage. flights.Queues (flight how c stage);
        answered = answered;
        fits = fits c;
        reads_start = reads_start;
        reads_answer = reads_answer;
        is_own = is_own;
        admits = admits;
        refuses = refuses;
        begins = begins;
        keeps = λ p call. refl;
        first_at = first_at;
        first_fits = first_fit;
        asks = λ r stage fit. asks_same c stage few (fits_so c stage fit);
        rows = λ r stage. refl;
        goes = λ words beside p r stage old fit. goes c held words beside p stage old (fits_so c stage fit);
        right = λ stage old fit. right c stage old (fits_so c stage fit);
      }
    where
      reads_start : (call : page.Call T) → call_seen how (Queues (queue_start call)) ≡ call
      reads_start (page.Push value) = refl
      reads_start page.Pop = refl

      reads_answer : (answer : page.Answer T) → answer_seen how (answered answer) ≡ answer
      reads_answer (page.Pushed b) = refl
      reads_answer (page.Popped None) = refl
      reads_answer (page.Popped (Some value)) = refl

      is_own : (call : page.Call T) → is_push_or_pop (Queues (queue_start call)) ≡ true
      is_own (page.Push value) = refl
      is_own page.Pop = refl

      admits : (p : ℕ) (call : page.Call T) → page.may p call ≡ true
          → first_row (begin_rows kinds.Queue c kept p (Queues (queue_start call))) ≡ None
      admits p (page.Push value) allowed = holds_row 0 p allowed
      admits p page.Pop allowed = holds_row 1 p allowed

      refuses : (p : ℕ) (call : page.Call T) → page.may p call ≡ false
          → is_some (first_row (begin_rows kinds.Queue c kept p (Queues (queue_start call)))) ≡ true
      refuses p (page.Push value) refused = lacks_row 0 p refused
      refuses p page.Pop refused = lacks_row 1 p refused

      begins : (call : page.Call T)
          → model.first_of kinds.Queue c (Queues (queue_start call)) kept
          ≡ Some (flights.Queues (flight how c (page.first how c call)))
      begins (page.Push value) = refl
      begins page.Pop = refl

      first_at : (call : page.Call T) → call_at (page.first how c call) ≡ call
      first_at (page.Push value) = refl
      first_at page.Pop = refl

      first_fit : (call : page.Call T) → fits c (page.first how c call) ≡ true
      first_fit (page.Push value) = refl
      first_fit page.Pop = refl

  -- ---- the list

  -- a queue of values has no indices
  abbrev held_in : Item T → T
  held_in (Index value) = how.value_of (replicate how.size 0)
  held_in (Value value) = value

  pushed_after : (capacity : ℕ) (items : List (Item T)) (item : Item T)
      → map held_in (appended capacity items item) ≡ (page.listed capacity (map held_in items) (page.Push (held_in item))).1
  pushed_after capacity items item = rw (length-map items held_in) (go (nat_lt (length items) capacity))
    where
      go : (b : Bool) → map held_in (cond b (items ++ item ∷ []) items)
          ≡ (cond {A = page.Answer T × List T} b (page.Pushed true, map held_in items ++ held_in item ∷ []) (page.Pushed false, map held_in items)).1
      go true = map-append held_in items (item ∷ [])
      go false = refl

  pushed_answer : (capacity : ℕ) (items : List (Item T)) (value : T)
      → page.Pushed (nat_lt (length items) capacity) ≡ (page.listed capacity (map held_in items) (page.Push value)).0
  pushed_answer capacity items value = rw (length-map items held_in) (go (nat_lt (length items) capacity))
    where
      go : (b : Bool) → page.Pushed b
          ≡ (cond {A = page.Answer T × List T} b (page.Pushed true, map held_in items ++ value ∷ []) (page.Pushed false, map held_in items)).0
      go true = refl
      go false = refl

  front : (items : List (Item T)) → answer_seen how (answer_of_item (slice_get items 0)) ≡ page.Popped (slice_get (map held_in items) 0)
  front [] = refl
  front (Index value ∷ items) = refl
  front (Value value ∷ items) = refl

  rest : (items : List (Item T)) → map held_in (drop 1 items) ≡ drop 1 (map held_in items)
  rest [] = refl
  rest (item ∷ items) = refl

  -- the page's list after a call, and its answer
  one_after : (capacity : ℕ) (items : List (Item T)) (start : Start T) → is_push_or_pop start ≡ true
      → map held_in (list_after capacity items start) ≡ (page.listed capacity (map held_in items) (call_seen how start)).1
  one_after capacity items (Queues (PushIndex value)) own = pushed_after capacity items (Index value)
  one_after capacity items (Queues (Push value)) own = pushed_after capacity items (Value value)
  one_after capacity items (Queues Pop) own = rest items
  one_after capacity items other own = absurd (cc)

  one_answer : (capacity : ℕ) (items : List (Item T)) (start : Start T) → is_push_or_pop start ≡ true
      → answer_seen how (list_answer capacity items start) ≡ (page.listed capacity (map held_in items) (call_seen how start)).0
  one_answer capacity items (Queues (PushIndex value)) own = pushed_answer capacity items (how.value_of (replicate how.size 0))
  one_answer capacity items (Queues (Push value)) own = pushed_answer capacity items value
  one_answer capacity items (Queues Pop) own = front items
  one_answer capacity items other own = absurd (cc)

  pub is_list : (c : ℕ) → IsObject (reading how) (as_list queue_kinds.Queue c) (page.bounded_list c)
  is_list c = record { state = map held_in; opens = refl; after = one_after c; answer = one_answer c }

  -- ---- every list of turns

  pub coded : IsCoding (code_of how)
  coded = record { some = how.fits.0; few = how.fits.1; sized = how.sized; given_back = how.given_back }

  admitted : (c : ℕ) → c < 2 ^ 32 → capacity_error kinds.Queue c ≡ None
  admitted c few = grind (arith, nat_tests)

  may_below : (p : ℕ) (call : page.Call T) → page.may p call ≡ true → p < 2
  may_below p (page.Push value) allowed = grind (arith, nat_tests)
  may_below p page.Pop allowed = grind (arith, nat_tests)

  -- the turns are those of the page's specification
  same_turn : (c : ℕ) (few : c < 2 ^ 32) (turn : machine.Turn (page.Call T)) → relates.as_turn (relation (tie c few) roles_told) 2 turn ≡ as_turn turn
  unfolding tie
  same_turn c few (machine.Begin p call) = refl
  same_turn c few (machine.Next p) = refl

  abbrev world_of : ℕ → List (machine.Turn (page.Call T)) → machine.World (page.Call T) (page.Stage T) (page.Answer T)
  world_of c turns = fold (machine.turned (page.queue how c)) (machine.opening (page.queue how c)) turns

  -- after fewer than 2^63 turns the two machines meet
  met : (c : ℕ) (turns : List (machine.Turn (page.Call T))) (few : c < 2 ^ 32) → length turns < 2 ^ 63
      → Meets (relation (tie c few) roles_told) 2 (world_of c turns) (0 + length turns) (run (map as_turn turns) (acquired how c))
  met c turns few small =
      meets_acquired (tie c few) (reached_by (code_of how) kinds.Queue c 2 acquires coded (admitted c few)) refl may_below as_turn (same_turn c few) turns small

  -- what the page runs is linearizable as the bounded list
  pub linearizable : (c : ℕ) (turns : List (machine.Turn (page.Call T))) → c < 2 ^ 32 → length turns < 2 ^ 63
      → machine.IsLinearizable (page.bounded_list c) (world_of c turns).history
  linearizable c turns few small =
      let s = met c turns few small in
      let keeps = (queue_keeps {T = T} queue_kinds.Queue).kept (run_now s) refl (reached_now s) in
      linearizable_seen s (is_list c) 4 among within (run_linearizable (run_now s) keeps)

module _ {T : Type 0} where
  pub code : QueueDoesAsTheCode T
  code how c stage few fit = (asks_same how c stage few fit, λ old. after_same how c stage old fit)

  pub runs : QueueRunsAsTheMachine T
  runs how c turns few small = same (met how c turns few small)

  pub by_pushes : QueuePushesByTable T
  by_pushes coding c value stage old = (refl, refl)

  pub by_pops : QueuePopsByTable T
  by_pops coding c room stage old = (refl, refl)
