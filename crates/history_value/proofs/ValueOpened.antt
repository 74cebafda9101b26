-- A table of a single value opens with a history in which party 0 has stored the value one time less than its version
-- says, and once at least (`value_opens`).
use Rattle.history.proofs.Names.{◌≡◌, ℕ, zero, suc, ◌+◌, ◌-◌, ◌*◌, ◌%◌, ◌^◌, ◌<◌, ◌≤◌, ◌==◌, nat_lt, true, false}
use Rattle.history.proofs.Names.{Option, Some, None, List, [], ◌∷◌, ◌++◌, length, drop, set, get_or, replicate}
use Rattle.history.proofs.Names.{slice_set, refl, sym, ap, subst, ◌∙◌, append_assoc, arith, nat_tests}
use Rattle.history.proofs.Names.{length-replicate, sum_by-append, first_store, at_store}
use Rattle.model.specs.declared.event.Answer.TheVariants.{Truth}
use Rattle.model.specs.declared.event.Event.{Event}
use Rattle.model.specs.declared.event.Event.TheVariants.{Begun, Acted}
use Rattle.history.proofs.Names.{Coding, IsCoding, producer_word, World}
use Rattle.model.specs.declared.event.Event.TheVariants.{Finished}
use Rattle.model.specs.declared.event.Start.{Start}
use Rattle.model.specs.declared.families.Flight.{Flight}
use Rattle.model.specs.declared.turn.Turn.{Turn}
use Rattle.model.specs.declared.turn.Turn.TheVariants.{Begin, Next}
use Rattle.laws_value.proofs.Core.{cell_within}
use Rattle.std.proofs.Common.{take}
use Rattle.std.proofs.Common.{length-append}
use Rattle.atomic_table.specs.Table.{opening}
use Rattle.steps.specs.declared.ask.Op.TheVariants as ops
use Rattle.steps.specs.declared.atomic.StoreStage.{StoreStage}
use Rattle.steps.specs.declared.atomic.StoreStage.TheVariants as stores
use Rattle.steps.specs.Atomic.{cell_word}
use Rattle.steps.specs.Queues.Ring.{word_at}
use Rattle.model.specs.declared.event.Answer.TheVariants as answers
use Rattle.model.specs.declared.event.Start.TheVariants.{Atomic}
use Rattle.model.specs.declared.families.atomic.AtomicStart.TheVariants.{AcquireProducer, ReleaseProducer, Store}
use Rattle.model.specs.declared.turn.Kind.TheVariants as kinds
use Rattle.laws_value.proofs.Core as core
use Rattle.laws_value.proofs.Stores.{asked_place}
use Rattle.history.specs.History.{IsMachine, Knows}
use Rattle.history_value.specs.Value.{takes_producer, gives_producer, HasProducer, acquires_producer, releases_producer, stores_value}
use Rattle.history_value.specs.ValueOpened.{first_stores, stored_once, stored_times, opened, store_turns, stored_turns, opened_turns, opened_view, opened_cells}
use Rattle.history.proofs.Alone as alone
use Rattle.history.proofs.Calls.{set_left}
use Rattle.history.proofs.Roles.{holds_it}
use Rattle.history.proofs.Rooms.{replicate_both}
use Rattle.history.proofs.Turns.{machine_laws}
use Rattle.history_value.proofs.Values.{value_effects, value_owes, plain_starts, producer_starts}
use Rattle.history.proofs.Mixed.{mix, mix_step, mix_length, mix_all}

-- ---- lists of words

-- a word set behind the first list is set in the second
pub set_right : (xs ys : List ℕ) (i n : ℕ) → set (xs ++ ys) (length xs + i) n ≡ xs ++ set ys i n
set_right [] ys i n = grind (arith, set)
set_right (x ∷ xs) ys i n = let same : suc (length xs) + i ≡ suc (length xs + i) = omega arith in
    ap (λ k. set (x ∷ (xs ++ ys)) k n) same ∙ ap (λ zs. x ∷ zs) (set_right xs ys i n)

-- two cells: the one of this number, where any but 0 counts as 1, has the words xs, the other one ys
abbrev two : ℕ → List ℕ → List ℕ → List ℕ
two zero xs ys = xs ++ ys
two (suc n) xs ys = ys ++ xs

-- two equal cells, whichever the number
two_same : (p : ℕ) (xs : List ℕ) → two p xs xs ≡ xs ++ xs
two_same zero xs = refl
two_same (suc p) xs = refl

-- the two cells are twice as long as one
two_length : (p size : ℕ) (xs ys : List ℕ) → length xs ≡ size → length ys ≡ size → length (two p xs ys) ≡ size * 2
two_length = grind (arith, length-append)

-- a word set in the cell of number p is set in its words, and the other cell stays
two_set : (p : ℕ) {size : ℕ} (xs ys : List ℕ) (at n : ℕ) → p < 2 → length xs ≡ size → length ys ≡ size → at < size
    → set (two p xs ys) (size * p + at) n ≡ two p (set xs at n) ys
two_set zero {size} xs ys at n low first_length_is second_length_is below = grind (arith, set, set_left)
two_set (suc zero) {size} xs ys at n low first_length_is second_length_is below = let same : size * 1 + at ≡ length ys + at = omega arith in
    ap (λ k. set (ys ++ xs) k n) same ∙ set_right ys xs at n
two_set (suc (suc p)) {size} xs ys at n low first_length_is second_length_is below = absurd (omega arith)

-- ---- the calls of the one party

module _ {T : Type 0} (code : Coding T) (law : IsCoding code) (value : T) where
  -- how many words a value takes
  abbrev size : ℕ
  size = code.size

  -- the words of the value
  abbrev ws : List ℕ
  ws = code.words_of value

  abbrev effects : World T → ℕ → Flight T → ℕ → List (Event T)
  effects w = value_effects code

  -- machines of a single value, of which party 0 makes all calls
  abbrev machine : alone.OneMachine T
  machine =
      record {
        code = code;
        kind = kinds.Atomic;
        capacity = 1;
        size = 2 + code.size * 2;
        effects = λ w. value_effects code;
        laws = machine_laws code kinds.Atomic 1 (2 + code.size * 2) (value_effects code) (value_owes code 1);
      }

  -- these turns lead from the opening to a single value with these words and events, where party 0 has this
  -- call under way
  abbrev Here : List ℕ → List (Turn T) → List (Event T) → Option (Start T × Flight T) → Type 0
  Here = alone.Here machine

  -- the words of a single value: the version, the role's word, and the two cells
  abbrev words_at : ℕ → ℕ → List ℕ → List ℕ
  words_at version role cells = version ∷ role ∷ (cells ++ 0 ∷ [])

  -- the store at this stage
  abbrev flight_at : StoreStage → Flight T
  flight_at stage = (stores_value code value).flight (at_store first_store stage) tt

  -- the start of the store
  abbrev name : Start T
  name = Atomic (Store value)

  -- v is the version, x and y are the words of the two cells, where the next store goes into that of x
  module _ (v : ℕ) (small : v < 2 ^ 64 - 1) (x y : List ℕ) (x_long : length x ≡ code.size) (y_long : length y ≡ code.size) where
    -- the two cells, after the first `at` words of the value were stored
    abbrev cells : ℕ → List ℕ
    cells at = two (v % 2) (mix at ws x) y

    -- the words of the table, after the first `at` words of the value were stored
    abbrev now : ℕ → List ℕ
    now at = words_at v 0 (cells at)

    -- the cell into which the store writes
    abbrev cell : ℕ
    cell = cell_word code.size v

    -- the store as it is to store word `at`
    abbrev storing : ℕ → Flight T
    storing at = flight_at (stores.StoresCell cell at)

    -- the version's parity is 0 or 1
    half : v % 2 < 2
    half = omega arith

    -- a word of the value is stored to its place in the cell
    put : (at : ℕ) → at < code.size → slice_set (now at) (word_at cell at) (get_or ws at 0) ≡ now (suc at)
    put at below =
        let long = law.sized value in
        let mixed = mix_length at ws x (omega arith) (omega arith) in
        let all = two_length (v % 2) code.size (mix at ws x) y (mixed ∙ x_long) y_long in
        let within = cell_within code.size v at below in
        core.set_at v 0 (cells at ++ 0 ∷ []) (word_at cell at) (code.size * (v % 2) + at) (get_or ws at 0) (asked_place code.size v at law.few below)
        ∙ ap (λ zs. v ∷ 0 ∷ zs) (set_left (cells at) (0 ∷ []) (code.size * (v % 2) + at) (get_or ws at 0) (omega arith)
        ∙ ap (λ zs. zs ++ 0 ∷ []) (two_set (v % 2) (mix at ws x) y at (get_or ws at 0) half (mixed ∙ x_long) y_long below
        ∙ ap (λ zs. two (v % 2) zs y) (mix_step at ws x (omega arith) (omega arith))))

    -- each word of the cell is one of the table's
    word_low : (at : ℕ) → at < code.size → word_at cell at < 2 + code.size * 2
    word_low = grind arith

    -- the store of word `at` asks for its place in the cell
    abbrev stores_word : (at : ℕ) → at < code.size → alone.AsksHere machine (now at) (storing at)
    stores_word at below = record { a = record { word = word_at cell at; op = ops.Store (get_or ws at 0) }; low = word_low at below; asks = refl; finds = tt }

    -- after a word that is not the last one the store stands at the next word
    next : {ts : List (Turn T)} {es : List (Event T)} (at : ℕ) → at + 1 < code.size → Here (now at) ts es (Some (name, storing at))
        → Here (now (suc at)) (ts ++ Next 0 ∷ []) es (Some (name, storing (at + 1)))
    next {ts} {es} at more here =
        let tests_below : nat_lt (at + 1) code.size ≡ true = grind (arith, nat_tests) in
        alone.goes_on_at machine here (stores_word at (omega arith)) (put at (omega arith)) (rw tests_below refl) (rw tests_below refl)

    -- after the last word the store stands at the version
    last : {ts : List (Turn T)} {es : List (Event T)} (at : ℕ) → at + 1 ≡ code.size → Here (now at) ts es (Some (name, storing at))
        → Here (now (suc at)) (ts ++ Next 0 ∷ []) es (Some (name, flight_at stores.AddsVersion))
    last {ts} {es} at all here =
        let not_below : nat_lt (at + 1) code.size ≡ false = grind (arith, nat_tests) in
        alone.goes_on_at machine here (stores_word at (omega arith)) (put at (omega arith)) (rw not_below refl) (rw not_below refl)

    -- the store goes through the words of its cell, one turn for each, and then stands at the version
    fills : {ts : List (Turn T)} {es : List (Event T)} (rest at : ℕ) → at + suc rest ≡ code.size
        → Here (now at) ts es (Some (name, storing at))
        → Here (now code.size) (ts ++ replicate (suc rest) (Next 0)) es (Some (name, flight_at stores.AddsVersion))
    fills {ts} {es} zero at sum here = let same : suc at ≡ code.size = omega arith in
        subst (λ n. Here (now n) (ts ++ Next 0 ∷ []) es (Some (name, flight_at stores.AddsVersion))) same (last at (omega arith) here)
    fills {ts} {es} (suc rest) at sum here =
        let same : at + 1 ≡ suc at = omega arith in
        subst (λ zs. Here (now code.size) zs es (Some (name, flight_at stores.AddsVersion)))
        (append_assoc ts (Next 0 ∷ []) (replicate (suc rest) (Next 0)))
        (fills {ts = (ts ++ Next 0 ∷ [])} {es = es} rest (suc at) (omega arith)
        (subst (λ n. Here (now (suc at)) (ts ++ Next 0 ∷ []) es (Some (name, storing n))) same (next {ts = ts} {es = es} at (omega arith) here)))

    -- one store more adds 1 to the version, and puts the value into the cell of the old version's parity
    stores_it : {ts : List (Turn T)} {es : List (Event T)} → HasProducer es → Here (words_at v 0 (two (v % 2) x y)) ts es None
        → Here (words_at (v + 1) 0 (two (v % 2) ws y)) (ts ++ store_turns value code.size) (es ++ stored_once value) None
    stores_it {ts} {es} has here =
        let not_last : (v == 2 ^ 64 - 1) ≡ false = grind (arith, nat_tests) in
        let xs = es ++ Begun 0 name ∷ [] in
        let ts1 = ts ++ Begin 0 name ∷ [] in
        let ts2 = ts1 ++ Next 0 ∷ [] in
        let filling : List (Turn T) = replicate (suc (code.size - 1)) (Next 0) in
        let ended : List (Event T) = Acted 0 name (Truth true) ∷ Finished 0 name (Truth true) ∷ [] in
        -- the store begins, by the party that has the producer's role
        let begun_so = alone.begins_any machine (stores_value code value) first_store tt {words = now 0} here
        (producer_starts (Store value) refl (λ kept. refl) (λ o p. tt) (λ holder p is. holds_it holder p is) has) in
        -- it loads the version, which is not the last one
        let b : Here (now 0) ts2 xs (Some (name, storing 0)) =
        alone.goes_on_at machine begun_so (record { a = record { word = 0; op = ops.Load }; low = omega arith; asks = refl; finds = small })
        refl (rw not_last refl) (rw not_last refl) in
        -- it stores the words of the value
        let c = fills (code.size - 1) 0 (omega (arith, law.some)) b in
        let one : (v + 1) % 2 ^ 64 ≡ v + 1 = omega arith in
        -- it adds 1 to the version, and ends with true
        let d : Here (words_at (v + 1) 0 (cells code.size)) ((ts2 ++ filling) ++ Next 0 ∷ []) (xs ++ ended) None =
        alone.ends_at machine c (record { a = record { word = 0; op = ops.Add 1 }; low = omega arith; asks = refl; finds = tt })
        {answer = Truth true} {own = Acted 0 name (Truth true) ∷ []} (ap (λ n. words_at n 0 (cells code.size)) one) refl refl (refl, tt) in
        let whole : mix code.size ws x ≡ ws = mix_all code.size ws x (law.sized value) x_long in
        let order : ((ts2 ++ filling) ++ Next 0 ∷ []) ≡ ts ++ store_turns value code.size =
        append_assoc ts2 filling (Next 0 ∷ [])
        ∙ (append_assoc ts1 (Next 0 ∷ []) (filling ++ Next 0 ∷ [])
        ∙ append_assoc ts (Begin 0 name ∷ []) (Next 0 ∷ (filling ++ Next 0 ∷ []))) in
        subst (λ zs. Here (words_at (v + 1) 0 (two (v % 2) zs y)) (ts ++ store_turns value code.size) (es ++ stored_once value) None) whole
        (subst (λ zs. Here (words_at (v + 1) 0 (cells code.size)) zs (es ++ stored_once value) None) order
        (subst (λ zs. Here (words_at (v + 1) 0 (cells code.size)) ((ts2 ++ filling) ++ Next 0 ∷ []) zs None) (append_assoc es (Begun 0 name ∷ []) ended) d))

  -- ---- any number of stores

  -- party 0 has the producer's role after any number of stores
  has_it : (n : ℕ) → HasProducer (stored_times value n)
  has_it zero = refl
  has_it (suc n) =
      omega (
        arith,
        sum_by-append takes_producer (stored_times value n) (stored_once value),
        sum_by-append gives_producer (stored_times value n) (stored_once value),
        has_it n,
      )

  -- the words of a cell that was never written
  abbrev zeros : List ℕ
  zeros = replicate code.size 0

  -- a cell has as many words as a value
  zeros_long : length zeros ≡ code.size
  zeros_long = length-replicate code.size 0

  -- after the acquire the role is taken, and both cells are zeros
  taken : Here (words_at 1 0 (opened_cells code value 0)) (stored_turns value code.size 0) (stored_times value 0) None
  taken =
      let all : code.size + code.size ≡ code.size * 2 = omega arith in
      let cells : replicate (code.size * 2) 0 ≡ zeros ++ zeros = sym (replicate_both code.size code.size 0 ∙ ap (λ n. replicate n 0) all) in
      let stands_here : Here (words_at 1 1 (zeros ++ zeros)) [] [] None =
      subst (λ zs. Here (words_at 1 1 zs) [] [] None) cells
      (alone.opens_here machine law refl) in
      let begun_so =
      alone.begins_any machine acquires_producer (record { word = producer_word }) tt stands_here
      (plain_starts AcquireProducer refl (λ kept. refl) (λ o p is. is) (λ holder p. refl)) in
      alone.ends_at machine begun_so
      (record { a = record { word = producer_word; op = ops.Exchange 1 0 }; low = omega arith; asks = refl; finds = tt })
      {answer = Truth true} {own = []} refl refl refl tt

  -- after the first store the version is 2, and the second cell has the value
  once : Here (words_at 2 0 (opened_cells code value 1)) (stored_turns value code.size 1) (stored_times value 1) None
  once = stores_it 1 (omega arith) zeros zeros zeros_long zeros_long (has_it 0) taken

  -- after n stores the version is n + 1, and the cells have the value as `opened_cells` says
  stored : (n : ℕ) → n < 2 ^ 64 - 1 → Here (words_at (n + 1) 0 (opened_cells code value n)) (stored_turns value code.size n) (stored_times value n) None
  stored zero low = taken
  stored (suc zero) low = once
  stored (suc (suc zero)) low =
      stores_it 2 (omega arith) zeros ws zeros_long (law.sized value) (has_it 1) once
  stored (suc (suc (suc n))) low =
      let v = suc (suc n) + 1 in
      let long = law.sized value in
      let before : Here (words_at v 0 (two (v % 2) ws ws)) (stored_turns value code.size (suc (suc n))) (stored_times value (suc (suc n))) None =
      subst (λ zs. Here (words_at v 0 zs) (stored_turns value code.size (suc (suc n))) (stored_times value (suc (suc n))) None) (sym (two_same (v % 2) ws))
      (stored (suc (suc n)) (omega arith)) in
      let next_one : v + 1 ≡ suc (suc (suc n)) + 1 = omega arith in
      subst (λ k. Here (words_at k 0 (ws ++ ws)) (stored_turns value code.size (suc (suc (suc n)))) (stored_times value (suc (suc (suc n)))) None) next_one
      (subst (λ zs. Here (words_at (v + 1) 0 zs) (stored_turns value code.size (suc (suc (suc n)))) (stored_times value (suc (suc (suc n)))) None)
      (two_same (v % 2) ws)
      (stores_it v (omega arith) ws ws long long (has_it (suc (suc n))) before))

  -- after the release nobody has the role, and the run is the one with which a value opens
  given : (n : ℕ) → n < 2 ^ 64 - 1 → Here (words_at (n + 1) 1 (opened_cells code value n)) (opened_turns value code.size n) (opened value n) None
  given n low =
      let start = Atomic ReleaseProducer in
      let es = stored_times value n in
      let ts = stored_turns value code.size n in
      let before = stored n low in
      let begun_so = alone.begins_any machine releases_producer (record { word = producer_word }) tt before
      (producer_starts ReleaseProducer refl (λ kept. refl) (λ o p. tt) (λ holder p is. holds_it holder p is) (has_it n)) in
      let b : Here (words_at (n + 1) 1 (opened_cells code value n)) ((ts ++ Begin 0 start ∷ []) ++ Next 0 ∷ [])
      ((es ++ Begun 0 start ∷ []) ++ Finished 0 start answers.Done ∷ []) None =
      alone.ends_at machine begun_so
      (record { a = record { word = producer_word; op = ops.Store 1 }; low = omega arith; asks = refl; finds = tt })
      {answer = answers.Done} {own = []} refl refl refl tt in
      subst (λ zs. Here (words_at (n + 1) 1 (opened_cells code value n)) zs (opened value n) None) (append_assoc ts (Begin 0 start ∷ []) (Next 0 ∷ []))
      (subst (λ zs. Here (words_at (n + 1) 1 (opened_cells code value n)) ((ts ++ Begin 0 start ∷ []) ++ Next 0 ∷ []) zs None)
      (append_assoc es (Begun 0 start ∷ []) (Finished 0 start answers.Done ∷ [])) b)

  -- a value at any version opens with fewer than 2^64 - 1 stores
  few : (version : ℕ) → version < 2 ^ 64 → first_stores version < 2 ^ 64 - 1
  few = grind arith

  -- a table with these words, and the view of the only pass, holds the rule, at any version
  pub value_opens : (version : ℕ) → version < 2 ^ 64 → (words : List ℕ)
      → words ≡ (first_stores version + 1) ∷ 1 ∷ (opened_cells code value (first_stores version) ++ 0 ∷ [])
      → IsMachine code kinds.Atomic 1 (opening words [] (opened_view value code.size version))
  value_opens version low words same =
      let stores_first = first_stores version in
      subst (λ zs. IsMachine code kinds.Atomic 1 (opening zs [] (opened_view value code.size version))) (sym same)
      (alone.opens_so machine
      (words_at (stores_first + 1) 1 (opened_cells code value stores_first))
      (opened_turns value code.size stores_first) (opened value stores_first)
      (given stores_first (few version low)))

  -- the first pass of the table knows the run with which the value opens
  pub value_knows : (version : ℕ) → version < 2 ^ 64 → Knows code kinds.Atomic 1 (opened_view value code.size version)
  value_knows version low =
      let stores_first = first_stores version in
      alone.knows_so machine
      (words_at (stores_first + 1) 1 (opened_cells code value stores_first))
      (opened_turns value code.size stores_first) (opened value stores_first) (given stores_first (few version low))
