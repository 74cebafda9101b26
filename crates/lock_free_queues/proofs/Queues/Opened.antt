-- The words with which a bounded queue opens at a position are those of a machine whose one party has pushed and popped.
use Rattle.lock_free_queues.proofs.Names.{◌≡◌, ⊎_elim, ℕ, zero, suc, ◌+◌, ◌*◌, ◌-◌, ◌%◌, ◌^◌, ◌<◌, ◌≤◌, ◌==◌, min}
use Rattle.lock_free_queues.proofs.Names.{true, false, Option, Some, None, List, [], ◌∷◌, ◌++◌, length, get_or, set}
use Rattle.lock_free_queues.proofs.Names.{replicate, slice_index, slice_set, refl, sym, ap, subst, ◌∙◌}
use Rattle.lock_free_queues.proofs.Names.{append_assoc, take, drop, arith, cases_lt, get_or_append_left}
use Rattle.lock_free_queues.proofs.Names.{take-append-le, mul-add-mod_self_left, mod-eq_of_lt, mul-le-mul_left}
use Rattle.lock_free_queues.proofs.Names.{opening, word_at, after_position, Ask, Load, Store, written, value_in}
use Rattle.lock_free_queues.proofs.Names.{Producer, Consumer, Answer, Truth, Event, Begun, Item, Start, Queues}
use Rattle.lock_free_queues.proofs.Names.{Flight, Pop, Kind, Coding, IsCoding, want_of, words_of_cell, World}
use Rattle.lock_free_queues.proofs.Names.{cell_within, take_all, machine_kind, IsFreshCall, Val, encoded, item, Ring}
use Rattle.lock_free_queues.proofs.Names.{kind_of, Room, words_in, with_word, put_in, flight, read_in, are_words}
use Rattle.lock_free_queues.proofs.Names.{IsMachine, HasRole, Calling, first_view, set_left}
use Rattle.lock_free_queues.proofs.Names.{set_same, holds_it, queue_effects, ring_owes, role_begins, MachineLaws}
use Rattle.lock_free_queues.proofs.Names.{machine_laws}
use Rattle.std.proofs.Common.{length-append}
use Rattle.steps.specs.Queues.Ring.{first_push, first_pop, cell_word}
use Rattle.steps.specs.declared.ask.Want.TheVariants as wants
use Rattle.steps.specs.declared.queues.ring.Pop as pop_calls
use Rattle.steps.specs.declared.queues.ring.PopStage.TheVariants as pops
use Rattle.steps.specs.declared.queues.ring.Push as push_calls
use Rattle.steps.specs.declared.queues.ring.PushStage.TheVariants as pushes
use Rattle.laws_queues.proofs.Queues.Core as core
use Rattle.laws_queues.proofs.Queues.Stages.{asked_place}
use Rattle.history.proofs.Alone as alone
use Rattle.history.specs.History.{Knows}
use Rattle.history.proofs.Mixed.{mix, mix_step}
use Rattle.lock_free_queues.specs.Queues.Contracts.{push_of, popped_item}
use Rattle.model.specs.declared.turn.Turn.{Turn}
use Rattle.model.specs.declared.turn.Turn.TheVariants.{Begin, Next}
use Rattle.lock_free_queues.specs.Queues.Opened.{pushed_once, popped_once, rounds, opened, position_at, opened_view}
use Rattle.lock_free_queues.specs.Queues.Opened.{opened_with, then_next, moved_turns, round_turns, opened_turns}
use Rattle.lock_free_queues.proofs.Queues.Grants.{after_push, has_it, quiet_true}
use Rattle.lock_free_queues.proofs.Queues.Tests.{from_cells, not_last, some_cells, not_full, one_apart, at_last, before_last, not_below, none_used}
use Rattle.lock_free_queues.proofs.Queues.Filled.{filled, filled_length, filled_there, filled_again}
use Rattle.lock_free_queues.proofs.Queues.Roles.{QuietRoles, takes_both, gives_both}
use Rattle.lock_free_queues.proofs.Queues.Single.{fresh, pushing, popping, push_named, push_lacks, push_wants}
use Rattle.lock_free_queues.proofs.Queues.Single.{push_fresh, GoesOn, push_loads_write, push_loads_read}
use Rattle.lock_free_queues.proofs.Queues.Single.{push_stores_cell, push_stores_last, push_ends, events_of_push}
use Rattle.lock_free_queues.proofs.Queues.Single.{wrote_by_push, push_tells, pop_named, pop_wants, pop_fresh}
use Rattle.lock_free_queues.proofs.Queues.Single.{pop_loads_read, pop_loads_write, pop_loads_cell, pop_loads_last}
use Rattle.lock_free_queues.proofs.Queues.Single.{pop_ends, events_of_pop, wrote_by_pop, pop_tells, opens_with, admits}
use Rattle.lock_free_queues.proofs.Queues.Single.{wide_is, fresh_long}

-- ---- the calls of the one party

-- r says whether it is a queue of indices or of values, v is the value that is pushed and popped again and again
module _ {T : Type 0} (code : Coding T) (law : IsCoding code) (r : Ring) (v : Val T (kind_of r)) (capacity : ℕ) (small : capacity < 2 ^ 32) where
  abbrev size : ℕ
  size = words_of_cell code.size (kind_of r)

  abbrev it : Item T
  it = item (kind_of r) v

  abbrev ws : List ℕ
  ws = (encoded code (kind_of r)).words_of v

  some : 1 ≤ size
  some = omega (arith, (are_words code r law).some, wide_is code r)

  few : size ≤ 128
  few = omega (arith, (are_words code r law).few, wide_is code r)

  ws_long : length ws ≡ size
  ws_long = (are_words code r law).sized v ∙ wide_is code r

  abbrev kind : Kind
  kind = machine_kind (kind_of r)

  abbrev effects : World T → ℕ → Flight T → ℕ → List (Event T)
  effects w = queue_effects code

  owes : MachineLaws code kind capacity (4 + size * capacity) effects
  owes = machine_laws code kind capacity (4 + size * capacity) (queue_effects code) (ring_owes code capacity r)

  abbrev machine : alone.OneMachine T
  machine = record { code = code; kind = kind; capacity = capacity; size = 4 + size * capacity; effects = effects; laws = owes }

  -- party 0 alone has led the machine to these words, by these turns with these events, and has this call under way
  abbrev Here : List ℕ → List (Turn T) → List (Event T) → Option (Start T × Flight T) → Type 0
  Here = alone.Here machine

  -- the words of a queue's table: both positions, the flags of both roles, the cells, and a zero behind them
  abbrev words_at : ℕ → ℕ → ℕ → ℕ → List ℕ → List ℕ
  words_at write read producer consumer cells = write ∷ read ∷ producer ∷ consumer ∷ (cells ++ 0 ∷ [])

  starts : Here (words_at 0 0 1 1 (replicate (size * capacity) 0)) [] [] None
  starts =
      subst (λ zs. Here (zs ++ 0 ∷ []) [] [] None) (opens_with code capacity r)
      (alone.opens_here machine law (admits code capacity r small))

  -- the calls as those of a pass
  abbrev push_call : Calling T (push_calls.Push (Val T (kind_of r))) (Unit {0}) (Unit {0})
  push_call =
      record {
        start = Queues (push_of it);
        by = λ was p. Unit {0};
        stands = λ n c. Unit {0};
        flight = λ c m. pushing r v capacity c.stage;
        answer = λ e m. Truth true;
        skips = λ c n. false;
        left = λ e. ⊥;
        wrote = λ n p from c m es. Unit {0};
        wrote_all = λ n p from e m es. Unit {0};
      }

  -- the pop as a call of a pass, with nothing said of what it writes
  abbrev pop_call : Calling T (pop_calls.Pop (Val T (kind_of r)) (Room r)) (Room r) (Unit {0})
  pop_call =
      record {
        start = Queues Pop;
        by = λ was p. Unit {0};
        stands = λ n c. Unit {0};
        flight = λ c m. popping r capacity c.stage m;
        answer = λ e m. Truth true;
        skips = λ c n. false;
        left = λ e. ⊥;
        wrote = λ n p from c m es. Unit {0};
        wrote_all = λ n p from e m es. Unit {0};
      }

  -- a step of the call under way that does not end it leads party 0 to the words that it writes and the next flight
  step : {words : List ℕ} {ts : List (Turn T)} {es : List (Event T)} {start : Start T} {flight : Flight T} (next : Flight T) (a : Ask)
      → Here words ts es (Some (start, flight)) → a.word < 4 + size * capacity → want_of code flight ≡ wants.Ask a
      → IsFreshCall (slice_index words a.word) flight → (words' : List ℕ)
      → slice_set words a.word (written a.op (slice_index words a.word)) ≡ words'
      → GoesOn code capacity flight next (slice_index words a.word) → Here words' (ts ++ Next 0 ∷ []) es (Some (start, next))
  step {words} {ts} {es} {start} {flight} next a here low asks finds words' same goes =
      alone.goes_on_at machine here (record { a = a; low = low; asks = asks; finds = finds }) same goes.comes goes.quiet

  -- of one round of a push and a pop: n is the position of both, ts and es are the turns and the events before it
  module _ (room : 0 < capacity) (n : ℕ) (below_end : n < 2 ^ 64 - 1) (ts : List (Turn T)) (es : List (Event T)) where
    none : (capacity == 0) ≡ false
    none = some_cells capacity room

    next_is : after_position n ≡ n + 1
    next_is = omega arith

    abbrev cell : ℕ
    cell = cell_word capacity size n

    abbrev place : ℕ → ℕ
    place k = size * (n % capacity) + k

    place_is : (k : ℕ) → k < size → word_at cell k ≡ 4 + place k
    place_is k below = asked_place size capacity n k room small few below

    place_low : (k : ℕ) → k < size → place k < size * capacity
    place_low k below = cell_within size capacity n k room below

    -- ---- the push

    module _ (cells : ℕ → List ℕ) (long : (k : ℕ) → length (cells k) ≡ size * capacity)
        (put : (k : ℕ) → k < size → set (cells k) (place k) (get_or ws k 0) ≡ cells (suc k)) where
      abbrev now : ℕ → List ℕ
      now k = words_at n n 0 0 (cells k)

      abbrev storing : ℕ → Flight T
      storing k = pushing r v capacity (pushes.StoresCell n cell k)

      abbrev name : Start T
      name = Queues (push_of it)

      stored : (k : ℕ) → k < size → slice_set (now k) (word_at cell k) (get_or ws k 0) ≡ now (suc k)
      stored k k_below_size = grind (arith, place_low, word_at, place_is, set_left)

      word_low : (k : ℕ) → k < size → word_at cell k < 4 + size * capacity
      word_low k below = omega (arith, place_is k below, place_low k below)

      -- the push stores the words of its value from word k of the cell on, and then stands at its last store
      fills : (us : List (Turn T)) (xs : List (Event T)) (rest k : ℕ) → k + suc rest ≡ size → Here (now k) us xs (Some (name, storing k))
          → Here (now size) (then_next us (suc rest)) xs (Some (name, pushing r v capacity (pushes.StoresWrite n)))
      fills us xs zero k sum here =
          let t = at_last k size (omega arith) in
          let same : suc k ≡ size = omega arith in
          subst (λ m. Here (now m) (us ++ Next 0 ∷ []) xs (Some (name, pushing r v capacity (pushes.StoresWrite n)))) same
          (step (pushing r v capacity (pushes.StoresWrite n))
          (record { word = word_at cell k; op = Store (get_or ws k 0) }) here (word_low k (omega arith))
          (push_wants code capacity r v (pushes.StoresCell n cell k))
          (push_fresh code capacity r v (slice_index (now k) (word_at cell k)) (pushes.StoresCell n cell k) tt)
          (now (suc k)) (stored k (omega arith))
          (push_stores_last code capacity r v n cell k (slice_index (now k) (word_at cell k)) t))
      fills us xs (suc rest) k sum here =
          let t = before_last k size (omega arith) in
          let same : k + 1 ≡ suc k = omega arith in
          fills (us ++ Next 0 ∷ []) xs rest (suc k) (omega arith) (subst (λ m. Here (now (suc k)) (us ++ Next 0 ∷ []) xs (Some (name, storing m))) same
          (step (storing (k + 1))
          (record { word = word_at cell k; op = Store (get_or ws k 0) }) here (word_low k (omega arith))
          (push_wants code capacity r v (pushes.StoresCell n cell k))
          (push_fresh code capacity r v (slice_index (now k) (word_at cell k)) (pushes.StoresCell n cell k) tt)
          (now (suc k)) (stored k (omega arith))
          (push_stores_cell code capacity r v n cell k (slice_index (now k) (word_at cell k)) t)))

      -- a push by the party with the producer's role, at position n, moves the write position on and publishes the value
      pushed : HasRole Producer es → Here (now 0) ts es None
          → Here (words_at (n + 1) n 0 0 (cells size)) (moved_turns size name ts) (es ++ pushed_once (Truth true) it) None
      pushed has here =
          let xs = es ++ Begun 0 name ∷ [] in
          let ts1 = ts ++ Begin 0 name ∷ [] in
          let ts2 = ts1 ++ Next 0 ∷ [] in
          let ts3 = ts2 ++ Next 0 ∷ [] in
          let begun_so = alone.begins_any machine push_call (first_push capacity) tt here
          (role_begins (kind_of r) (push_of it) refl (push_named code capacity r v) Producer (λ o p. tt) (push_lacks code capacity r v) has) in
          -- b, c: the turns that load both positions; d: those that store the words; e: the store of the write position
          let b =
          step (pushing r v capacity (pushes.LoadsRead n)) (record { word = 0; op = Load }) begun_so (omega arith)
          (push_wants code capacity r v pushes.LoadsWrite)
          (push_fresh code capacity r v n pushes.LoadsWrite below_end) (now 0) refl
          (push_loads_write code capacity r v n (not_last n below_end)) in
          let c =
          step (storing 0)
          (record { word = 1; op = Load }) b (omega arith)
          (push_wants code capacity r v (pushes.LoadsRead n))
          (push_fresh code capacity r v n (pushes.LoadsRead n) tt) (now 0) refl
          (push_loads_read code capacity r v n none (not_full n capacity (omega arith) room)) in
          let d = fills ts3 xs (size - 1) 0 (omega (arith, some)) c in
          let e =
          alone.ends_at machine d (record {
            a = record { word = 0; op = Store (after_position n) };
            low = omega arith;
            asks = push_wants code capacity r v (pushes.StoresWrite n);
            finds = push_fresh code capacity r v n (pushes.StoresWrite n) tt;
          }) {answer = Truth true} {own = wrote_by_push code capacity it}
          (ap (λ k. words_at k n 0 0 (cells size)) next_is) (push_ends code capacity r v n n)
          (push_tells code capacity r v n n) (refl, (refl, tt)) in
          subst (λ zs. Here (words_at (n + 1) n 0 0 (cells size)) (moved_turns size name ts) zs None)
          (append_assoc es (Begun 0 name ∷ []) (events_of_push code capacity it)) e

    -- ---- the pop of what it pushed

    -- the room of the pop once it has read this number of words
    abbrev room_at : ℕ → Room r
    room_at zero = fresh r
    room_at (suc k) = with_word r (room_at k) k (get_or ws k 0)

    -- after k words were read, the room has these words first, and behind them what it had at first
    room_is : (k : ℕ) → k ≤ size → words_in r (room_at k) ≡ mix k ws (words_in r (fresh r))
    room_is zero low = refl
    room_is (suc k) low =
        let long = ws_long in
        let wide = fresh_long code r law in
        put_in r (room_at k) k (get_or ws k 0)
        ∙ (ap (λ zs. set zs k (get_or ws k 0)) (room_is k (omega arith))
        ∙ mix_step k ws (words_in r (fresh r)) (omega arith) (omega arith))

    -- what was read into the room once all words were read is the value
    reads_it : read_in code r (room_at size) ≡ v
    reads_it =
        let zs = words_in r (fresh r) in
        let z = encoded code (kind_of r) in
        let long = ws_long in
        let wide = fresh_long code r law in
        let same = wide_is code r in
        let whole : mix size ws zs ≡ ws ++ drop size zs = ap (λ ys. ys ++ drop size zs) (take_all size ws (omega arith)) in
        let more = length-append ws (drop size zs) in
        let enough = not_below (length (ws ++ drop size zs)) z.size (omega arith) in
        let first : take z.size (ws ++ drop size zs) ≡ ws = take-append-le z.size ws (drop size zs) (omega arith) ∙ take_all z.size ws (omega arith) in
        let value : value_in z.value_of z.size (ws ++ drop size zs) ≡ z.value_of ws = rw enough (ap z.value_of first) in
        ap (value_in z.value_of z.size) (room_is size (omega arith) ∙ whole) ∙ (value ∙ (are_words code r law).given_back v)

    module _ (cells : List ℕ) (long : length cells ≡ size * capacity) (has : (k : ℕ) → k < size → get_or cells (place k) 0 ≡ get_or ws k 0) where
      abbrev then : List ℕ
      then = words_at (n + 1) n 0 0 cells

      abbrev loading : ℕ → Flight T
      loading k = popping r capacity (pops.LoadsCell n cell k) (room_at k)

      abbrev last_of : Flight T
      last_of = popping r capacity (pops.StoresRead n) (room_at size)

      found_is : (k : ℕ) → k < size → slice_index then (word_at cell k) ≡ get_or ws k 0
      found_is k below =
          let inside = place_low k below in
          core.word_at (n + 1) n 0 0 (cells ++ 0 ∷ []) (word_at cell k) (place k) (place_is k below)
          ∙ (get_or_append_left cells (0 ∷ []) 0 (place k) (omega arith) ∙ has k below)

      then_low : (k : ℕ) → k < size → word_at cell k < 4 + size * capacity
      then_low k below = omega (arith, place_is k below, place_low k below)

      -- the pop loads the words of the cell from word k on, and then stands at its store of the read position
      loads : (us : List (Turn T)) (xs : List (Event T)) (rest k : ℕ) → k + suc rest ≡ size → Here then us xs (Some (Queues Pop, loading k))
          → Here then (then_next us (suc rest)) xs (Some (Queues Pop, last_of))
      loads us xs zero k sum here =
          let t = at_last k size (omega arith) in
          let same : suc k ≡ size = omega arith in
          let below : k < size = omega arith in
          subst (λ m. Here then (us ++ Next 0 ∷ []) xs (Some (Queues Pop, popping r capacity (pops.StoresRead n) (room_at m)))) same
          (subst (λ w. Here then (us ++ Next 0 ∷ []) xs
          (Some (Queues Pop, popping r capacity (pops.StoresRead n) (with_word r (room_at k) k w))))
          (found_is k below)
          (step (popping r capacity (pops.StoresRead n) (with_word r (room_at k) k (slice_index then (word_at cell k))))
          (record { word = word_at cell k; op = Load }) here (then_low k below)
          (pop_wants code capacity r (pops.LoadsCell n cell k) (room_at k))
          (pop_fresh code capacity r (slice_index then (word_at cell k)) (pops.LoadsCell n cell k) (room_at k))
          then (set_same then (word_at cell k))
          (pop_loads_last code capacity r n cell k (slice_index then (word_at cell k)) (room_at k) t)))
      -- a word before the last one: the pop goes on to the next word
      loads us xs (suc rest) k sum here =
          let t = before_last k size (omega arith) in
          let same : k + 1 ≡ suc k = omega arith in
          let below : k < size = omega arith in
          loads (us ++ Next 0 ∷ []) xs rest (suc k) (omega arith)
          (subst (λ m. Here then (us ++ Next 0 ∷ []) xs (Some (Queues Pop, popping r capacity (pops.LoadsCell n cell m) (room_at (suc k))))) same
          (subst (λ w. Here then (us ++ Next 0 ∷ []) xs
          (Some (Queues Pop, popping r capacity (pops.LoadsCell n cell (k + 1)) (with_word r (room_at k) k w))))
          (found_is k below)
          (step (popping r capacity (pops.LoadsCell n cell (k + 1))
          (with_word r (room_at k) k (slice_index then (word_at cell k))))
          (record { word = word_at cell k; op = Load }) here (then_low k below)
          (pop_wants code capacity r (pops.LoadsCell n cell k) (room_at k))
          (pop_fresh code capacity r (slice_index then (word_at cell k)) (pops.LoadsCell n cell k) (room_at k))
          then (set_same then (word_at cell k))
          (pop_loads_cell code capacity r n cell k (slice_index then (word_at cell k)) (room_at k) t))))

      -- a pop by the party with the consumer's role, at position n, moves the read position on and takes the value out
      popped : HasRole Consumer es → Here then ts es None
          → Here (words_at (n + 1) (n + 1) 0 0 cells) (moved_turns size (Queues Pop) ts) (es ++ popped_once it) None
      popped role here =
          let xs = es ++ Begun 0 (Queues Pop) ∷ [] in
          let ts1 = ts ++ Begin 0 (Queues Pop) ∷ [] in
          let ts2 = ts1 ++ Next 0 ∷ [] in
          let ts3 = ts2 ++ Next 0 ∷ [] in
          let begun_so = alone.begins_any machine pop_call (first_pop capacity) (fresh r) here
          (role_begins (kind_of r) Pop refl (pop_named code capacity r) Consumer (λ o p. tt) (λ roles p is. holds_it roles.consumer p is) role) in
          -- b, c: the turns that load both positions; d: those that load the words; e: the store of the read position
          let b =
          step (popping r capacity (pops.LoadsWrite n) (room_at 0)) (record { word = 1; op = Load }) begun_so
          (omega arith) (pop_wants code capacity r pops.LoadsRead (room_at 0))
          (pop_fresh code capacity r n pops.LoadsRead (room_at 0)) then refl
          (pop_loads_read code capacity r n (room_at 0)) in
          let c =
          step (loading 0)
          (record { word = 0; op = Load }) b (omega arith)
          (pop_wants code capacity r (pops.LoadsWrite n) (room_at 0))
          (pop_fresh code capacity r (n + 1) (pops.LoadsWrite n) (room_at 0)) then refl
          (pop_loads_write code capacity r n (n + 1) (room_at 0) none (one_apart n)) in
          let d = loads ts3 xs (size - 1) 0 (omega (arith, some)) c in
          let e =
          alone.ends_at machine d (record {
            a = record { word = 1; op = Store (after_position n) };
            low = omega arith;
            asks = pop_wants code capacity r (pops.StoresRead n) (room_at size);
            finds = pop_fresh code capacity r n (pops.StoresRead n) (room_at size);
          }) {answer = popped_item (Some it)} {own = wrote_by_pop code capacity it}
          (ap (λ k. words_at (n + 1) k 0 0 cells) next_is) (pop_ends code capacity r v n n (room_at size) reads_it)
          (pop_tells code capacity r v n n (room_at size) reads_it) (refl, (refl, tt)) in
          subst (λ zs. Here (words_at (n + 1) (n + 1) 0 0 cells) (moved_turns size (Queues Pop) ts) zs None)
          (append_assoc es (Begun 0 (Queues Pop) ∷ []) (events_of_pop code capacity it)) e

  quiet_roles : QuietRoles effects
  quiet_roles role = grind arith

  -- ---- all of it

  abbrev cells_at : ℕ → List ℕ
  cells_at n = filled ws size capacity (size * min n capacity)

  abbrev took : ℕ → List (Turn T)
  took n = round_turns size it n

  -- one round of a push and a pop, in which the push changes the cells from `cells 0` to `cells size`
  round : (n : ℕ) → (room : 0 < capacity) → n < 2 ^ 64 - 1 → (cells : ℕ → List ℕ)
      → ((k : ℕ) → length (cells k) ≡ size * capacity)
      → ((k : ℕ) → k < size → set (cells k) (size * (n % capacity) + k) (get_or ws k 0) ≡ cells (suc k))
      → ((k : ℕ) → k < size → get_or (cells size) (size * (n % capacity) + k) 0 ≡ get_or ws k 0)
      → Here (words_at n n 0 0 (cells 0)) (took n) (rounds (Truth true) it n) None
      → Here (words_at (suc n) (suc n) 0 0 (cells size)) (took (suc n)) (rounds (Truth true) it (suc n)) None
  round n room low cells long put has here =
      let a = pushed room n low (took n) (rounds (Truth true) it n) cells long put (has_it (Truth true) quiet_true it n Producer) here in
      let b =
      popped room n low (moved_turns size (Queues (push_of it)) (took n)) (rounds (Truth true) it n ++ pushed_once (Truth true) it) (cells size) (long size) has
      (after_push (Truth true) quiet_true Consumer it (rounds (Truth true) it n) (has_it (Truth true) quiet_true it n Consumer))
      a in
      let same : n + 1 ≡ suc n = omega arith in
      subst (λ k. Here (words_at k k 0 0 (cells size)) (took (suc n)) (rounds (Truth true) it (suc n)) None) same
      (subst (λ zs. Here (words_at (n + 1) (n + 1) 0 0 (cells size)) (took (suc n)) zs None)
      (append_assoc (rounds (Truth true) it n) (pushed_once (Truth true) it) (popped_once it)) b)

  rank : (q k : ℕ) → k < size → (size * q + k) % size ≡ k
  rank q k below = mul-add-mod_self_left size q k ∙ mod-eq_of_lt below

  -- after n rounds both positions are n, and the cells have the words of what was pushed
  driven : (n : ℕ) → 0 < capacity → n < 2 ^ 64 → Here (words_at n n 0 0 (cells_at n)) (took n) (rounds (Truth true) it n) None
  driven zero room low =
      -- no round: the roles are taken, and the cells are zeros
      let a =
      takes_both (kind_of r) owes (omega arith) quiet_roles 0 0 (replicate (size * capacity) 0 ++ 0 ∷ []) starts in
      subst (λ m. Here (words_at 0 0 0 0 (filled ws size capacity m)) (took zero) (rounds (Truth true) it zero) None) (sym (none_used size capacity)) a
  driven (suc n) room low =
      let driven_so = driven n room (omega arith) in
      -- a round that writes a fresh cell
      ⊎_elim (λ (early : n < capacity).
      let here : n % capacity ≡ n = mod-eq_of_lt early in
      let as_many : min n capacity ≡ n = omega arith in
      let start : size * min n capacity ≡ size * n + 0 = ap (λ m. size * m) as_many ∙ omega arith in
      let one_more : min (suc n) capacity ≡ n + 1 = omega arith in
      let end : size * n + size ≡ size * min (suc n) capacity =
      (let both : size * (n + 1) ≡ size * n + size = omega arith in sym both ∙ ap (λ m. size * m) (sym one_more)) in
      let cells : ℕ → List ℕ = λ k. filled ws size capacity (size * n + k) in
      let up_to : size * n + size ≤ size * capacity =
      (let both : size * (n + 1) ≡ size * n + size = omega arith in
      let low' : size * (n + 1) ≤ size * capacity = mul-le-mul_left size (omega arith) in
      omega arith) in
      subst (λ m. Here (words_at (suc n) (suc n) 0 0 (filled ws size capacity m)) (took (suc n)) (rounds (Truth true) it (suc n)) None) end
      (round n room (omega arith) cells (λ k. filled_length ws size capacity (size * n + k))
      (λ k below.
      let next : suc (size * n + k) ≡ size * n + suc k = omega arith in
      ap (λ q. set (cells k) (size * q + k) (get_or ws k 0)) here
      ∙ (ap (λ i. set (cells k) (size * n + k) (get_or ws i 0)) (sym (rank n k below)) ∙ ap (filled ws size capacity) next))
      (λ k below. ap (λ q. get_or (cells size) (size * q + k) 0) here
      ∙ (filled_there ws size capacity (size * n + size) (size * n + k) (omega arith) up_to ∙ ap (λ i. get_or ws i 0) (rank n k below)))
      (subst (λ m. Here (words_at n n 0 0 (filled ws size capacity m)) (took n) (rounds (Truth true) it n) None) start driven_so)))
      -- a round that writes a cell again, which has the words of the value already
      (λ (late : capacity ≤ n).
      let all : min n capacity ≡ capacity = omega arith in
      let all_later : min (suc n) capacity ≡ capacity = omega arith in
      let cells : ℕ → List ℕ = λ k. filled ws size capacity (size * capacity) in
      subst (λ m. Here (words_at (suc n) (suc n) 0 0 (filled ws size capacity (size * m))) (took (suc n)) (rounds (Truth true) it (suc n)) None) (sym all_later)
      (round n room (omega arith) cells (λ k. filled_length ws size capacity (size * capacity))
      (λ k below. ap (λ i. set (cells k) (size * (n % capacity) + k) (get_or ws i 0)) (sym (rank (n % capacity) k below))
      ∙ filled_again ws size capacity (size * (n % capacity) + k) (cell_within size capacity n k room below))
      (λ k below. filled_there ws size capacity (size * capacity) (size * (n % capacity) + k)
      (cell_within size capacity n k room below) (omega arith)
      ∙ ap (λ i. get_or ws i 0) (rank (n % capacity) k below))
      (subst (λ m. Here (words_at n n 0 0 (filled ws size capacity (size * m))) (took n) (rounds (Truth true) it n) None) all driven_so)))
      (cases_lt n capacity)

  -- after n rounds, with both roles given back, both positions are n, and the roles are free
  rests_at : (n : ℕ) → 0 < capacity → n < 2 ^ 64 → Here (words_at n n 1 1 (cells_at n)) (opened_turns size it n) (opened (Truth true) it n) None
  rests_at zero room low =
      let nothing = none_used size capacity in
      subst (λ m. Here (words_at 0 0 1 1 (filled ws size capacity m)) [] [] None) (sym nothing) starts
  rests_at (suc n) room low =
      let k = suc n in
      gives_both (kind_of r) owes (omega arith) quiet_roles k k (cells_at k ++ 0 ∷ []) (took k)
      (rounds (Truth true) it k) (has_it (Truth true) quiet_true it k) (driven k room low)

  -- for each position below 2^64, the words there are those after as many rounds, with both roles free
  rests : (position : ℕ) → position < 2 ^ 64
      → Here (words_at (position_at capacity position) (position_at capacity position) 1 1 (cells_at position))
      (opened_turns size it (position_at capacity position)) (opened (Truth true) it (position_at capacity position)) None
  rests position low =
      from_cells (λ p. Here (words_at p p 1 1 (cells_at position)) (opened_turns size it p) (opened (Truth true) it p) None) capacity position
      -- without a capacity nothing was done
      (λ none.
      let without : min position capacity ≡ 0 = omega arith in
      let nothing : size * min position capacity ≡ 0 = ap (λ m. size * m) without ∙ omega arith in
      subst (λ m. Here (words_at 0 0 1 1 (filled ws size capacity m)) [] [] None) (sym nothing) starts)
      (λ room. rests_at position room low)

  -- the words with which a queue opens at a position are those of its machine, and the first view fits it
  pub queue_opens : (position : ℕ) → position < 2 ^ 64 → (words : List ℕ)
      → words ≡ position_at capacity position ∷ position_at capacity position ∷ 1 ∷ 1 ∷ (cells_at position ++ 0 ∷ [])
      → IsMachine code kind capacity (opening words [] (opened_view size it capacity position))
  queue_opens position low words same =
      let position_now = position_at capacity position in
      subst (λ ys. IsMachine code kind capacity (opening ys [] (opened_view size it capacity position))) (sym same)
      (alone.opens_so machine (words_at position_now position_now 1 1 (cells_at position))
      (opened_turns size it position_now) (opened (Truth true) it position_now) (rests position low))

  -- the first pass of the queue knows the run of the pushes and pops with which the queue opens
  pub queue_knows : (position : ℕ) → position < 2 ^ 64 → Knows code kind capacity (opened_view size it capacity position)
  queue_knows position low =
      let position_now = position_at capacity position in
      alone.knows_so machine (words_at position_now position_now 1 1 (cells_at position))
      (opened_turns size it position_now) (opened (Truth true) it position_now) (rests position low)

-- at position 0 the history is empty
pub opens_at_first : {T : Type 0} (words : ℕ) (answer : Answer T) (x : Item T) (capacity : ℕ) → opened_with words answer x capacity 0 ≡ first_view capacity
opens_at_first words answer x zero = refl
opens_at_first words answer x (suc less) = refl
