-- The words with which an overflowing queue opens at a position are those of a machine: one party alone
-- has pushed and popped the number 0 this often.
use Rattle.lock_free_queues.proofs.Names.{◌≡◌, ◌≢◌, ⊎_elim, ℕ, zero, suc, ◌+◌, ◌*◌, ◌-◌, ◌%◌, ◌^◌, ◌<◌, ◌≤◌, ◌==◌}
use Rattle.lock_free_queues.proofs.Names.{nat_lt, true, false, Option, Some, None, List, [], ◌∷◌, ◌++◌, get_or}
use Rattle.lock_free_queues.proofs.Names.{replicate, slice_index, slice_set, refl, sym, ap, subst, ◌∙◌}
use Rattle.lock_free_queues.proofs.Names.{append_assoc, arith, cases_eq, nat_tests, length-replicate}
use Rattle.lock_free_queues.proofs.Names.{get_or_append_left, opening, written, Ask, GoOn, Load, Store, Exchange}
use Rattle.lock_free_queues.proofs.Names.{Role, Producer, Consumer, after_position, distance, Event, Begun, Published}
use Rattle.lock_free_queues.proofs.Names.{HandedOut, Acted, Finished, Item, Index, Start, Queues, Flight, Overflow}
use Rattle.lock_free_queues.proofs.Names.{PushIndex, Pop, Coding, IsCoding, want_of, after_of, beside_of}
use Rattle.lock_free_queues.proofs.Names.{World, IsFreshCall, IsMachine, call_in}
use Rattle.lock_free_queues.proofs.Names.{pushes_over, pops_over, HasRole, get_left, over_effects}
use Rattle.lock_free_queues.proofs.Names.{overflow_owes, beside_waits, set_same, holds_it, role_begins, sound_of}
use Rattle.steps.specs.declared.ask.After.TheVariants.{Done}
use Rattle.steps.specs.declared.ask.Want.TheVariants as wants
use Rattle.steps.specs.declared.queues.overflow.PopStage.{PopStage}
use Rattle.steps.specs.declared.queues.overflow.PopStage.TheVariants as pops
use Rattle.steps.specs.declared.queues.overflow.PushStage.{PushStage}
use Rattle.steps.specs.declared.queues.overflow.PushStage.TheVariants as pushes
use Rattle.steps.specs.Queues.Overflow.{cell_word, first_push, at_push, first_pop, at_pop}
use Rattle.model.specs.declared.event.Answer.TheVariants as answers
use Rattle.model.specs.declared.families.Flight.TheVariants as flights
use Rattle.model.specs.declared.families.queues.calls.OverflowCall.TheVariants as overflows
use Rattle.model.specs.declared.families.queues.calls.QueueFlight.TheVariants as flying
use Rattle.model.specs.declared.turn.Kind.TheVariants as kinds
use Rattle.laws_queues.proofs.Queues.Core as core
use Rattle.history.proofs.Alone as alone
use Rattle.history.specs.History.{Knows}
use Rattle.model.specs.declared.turn.Turn.{Turn}
use Rattle.model.specs.declared.turn.Turn.TheVariants.{Begin, Next}
use Rattle.lock_free_queues.specs.Queues.Opened.{pushed_once, popped_once, rounds, opened, position_at}
use Rattle.lock_free_queues.specs.Queues.Opened.{over_opened_view, moved_turns, round_turns, opened_turns}
use Rattle.lock_free_queues.proofs.Queues.Grants.{after_push, has_it, quiet_none}
use Rattle.lock_free_queues.proofs.Queues.Roles.{QuietRoles, takes_both, gives_both}
use Rattle.lock_free_queues.proofs.Queues.Tests.{from_cells, not_last, some_cells, not_full, one_apart}

-- Each number of a list of zeros, and behind it, is 0.
zero_at : (c k : ℕ) → get_or {A = ℕ} (replicate c 0) k 0 ≡ 0
zero_at zero k = refl
zero_at (suc c) zero = refl
zero_at (suc c) (suc k) = zero_at c k

-- A number is found equal to itself.
same_number : (n : ℕ) → (n == n) ≡ true
same_number n = grind (arith, nat_tests)

module _ {T : Type 0} where
  -- The item that is pushed and popped again and again: the index 0.
  abbrev it : Item T
  it = Index 0

  -- The begin of a push of that item.
  abbrev push_name : Start T
  push_name = Queues (PushIndex 0)

  -- The begin of a pop.
  abbrev pop_name : Start T
  pop_name = Queues Pop

  -- The begin of the call under way, or that of a pop where there is none.
  abbrev name_in : Option (Start T × Flight T) → Start T
  name_in None = pop_name
  name_in (Some call) = call.0

  -- The push of 0 into an overflowing queue of this capacity, at this stage, as a flight of the model.
  abbrev pushing : ℕ → PushStage → Flight T
  pushing capacity stage =
      flights.Queues
      (flying.Overflow
      (overflows.Push (record { call = at_push (first_push capacity) stage; given = 0; room = record { 0 = 0 } })))

  -- The pop from an overflowing queue of this capacity, at this stage, as a flight of the model.
  abbrev popping : ℕ → PopStage → Flight T
  popping capacity stage =
      flights.Queues
      (flying.Overflow
      (overflows.Pop (record { call = at_pop (first_pop capacity) stage; given = tt; room = record { 0 = 0 } })))

  -- With a capacity, a push begins at its load of the write position.
  first_pushing : (capacity : ℕ) → (capacity == 0) ≡ false
      → (pushes_over {T = T} 0).flight (first_push capacity) (record { 0 = 0 }) ≡ pushing capacity pushes.LoadsWrite
  first_pushing capacity t = rw t refl

  -- With a capacity, a pop begins at its load of the read position.
  first_popping : (capacity : ℕ) → (capacity == 0) ≡ false
      → (pops_over {T = T}).flight (first_pop capacity) (record { 0 = 0 }) ≡ popping capacity pops.LoadsRead
  first_popping capacity t = rw t refl

-- ---- steps that test a position

module _ {T : Type 0} (code : Coding T) (capacity n : ℕ) where
  -- A push that finds a write position before the last one goes on to the load of the read position.
  push_loads_write : (n == 2 ^ 64 - 1) ≡ false
      → after_of code (pushing capacity pushes.LoadsWrite) n ≡ GoOn (pushing capacity (pushes.LoadsRead n))
  push_loads_write t = rw t refl

  -- A push that finds room at its store of the write position ends and hands nothing back.
  push_ends : (distance n n == capacity) ≡ false → after_of code (pushing capacity (pushes.StoresWrite n n)) n ≡ Done answers.PoppedNone
  push_ends t = rw t refl

  -- Its store of the write position publishes the item.
  push_tells : (distance n n == capacity) ≡ false → (w : World T)
      → over_effects w 0 (pushing capacity (pushes.StoresWrite n n)) n
      ≡ Published 0 it ∷ Acted 0 push_name answers.PoppedNone ∷ []
  push_tells t w = rw t refl

  -- A pop that finds another write position than its read position goes on to the load of the cell.
  pop_loads_write : (found : ℕ) → (found == n) ≡ false
      → after_of code (popping capacity (pops.LoadsWrite n)) found ≡ GoOn (popping capacity (pops.LoadsCell n))
  pop_loads_write found t = rw t refl

  -- That load of the write position writes no event.
  pop_quiet : (found : ℕ) → (found == n) ≡ false → (w : World T) → over_effects w 0 (popping capacity (pops.LoadsWrite n)) found ≡ []
  pop_quiet found t w = rw t refl

  -- A pop whose exchange finds the read position that it had loaded ends and answers 0.
  pop_ends : (n == n) ≡ true → after_of code (popping capacity (pops.MovesRead n)) n ≡ Done (answers.PoppedIndex 0)
  pop_ends t = rw t refl

  -- what the last step of a pop writes, if the read position is as the pop knew it, no push of another
  -- party waits, and the cell holds 0
  pop_tells : (n == n) ≡ true → (w : World T) → slice_index w.words (cell_word capacity n) ≡ 0
      → beside_of w.words w.kept w.latest 0 ≡ None
      → over_effects w 0 (popping capacity (pops.MovesRead n)) n
      ≡ HandedOut 0 it ∷ Acted 0 pop_name (answers.PoppedIndex 0) ∷ []
  pop_tells same_n w cell_is_zero beside_of_is = grind arith

-- An exchange that finds the number it expects writes the other one.
moved_on : (n to : ℕ) → (n == n) ≡ true → written (Exchange n to) n ≡ to
moved_on n to t = rw t refl

module _ {T : Type 0} (code : Coding T) (law : IsCoding code) (capacity : ℕ) (small : capacity < 2 ^ 32) where
  -- How many words the machine has.
  abbrev size : ℕ
  size = 4 + (capacity + 1)

  -- The machine of an overflowing queue, for one party alone.
  abbrev machine : alone.OneMachine T
  machine = record { code = code; kind = kinds.Overflow; capacity = capacity; size = size; effects = over_effects; laws = overflow_owes code capacity }

  -- party 0 alone has led the machine to these words, by these turns and with these events, and has
  -- this call under way
  abbrev Here : List ℕ → List (Turn T) → List (Event T) → Option (Start T × Flight T) → Type 0
  Here = alone.Here machine

  -- The words of an overflowing queue's table whose cells have zeros: both positions, the flags of both
  -- roles, the cells, and a zero behind them.
  abbrev at : ℕ → ℕ → ℕ → ℕ → List ℕ
  at write read producer consumer = write ∷ read ∷ producer ∷ consumer ∷ (replicate (capacity + 1) 0 ++ 0 ∷ [])

  -- The capacity is not refused as too great.
  most : nat_lt (2 ^ 32 - 1) capacity ≡ false
  most = grind (arith, nat_tests)

  -- The capacity is not refused as too small.
  least : nat_lt capacity 0 ≡ false
  least = grind (arith, nat_tests)

  -- Before any call, both positions are 0, both roles are free, and the cells are zeros.
  starts : Here (at 0 0 1 1) [] [] None
  starts =
      let many : 1 * (capacity + 1) ≡ capacity + 1 = omega arith in
      subst (λ n. Here (0 ∷ 0 ∷ 1 ∷ 1 ∷ (replicate n 0 ++ 0 ∷ [])) [] [] None) many
      (alone.opens_here machine law (rw (most, least) refl))

  -- Acquires and releases of a role publish and hand out nothing.
  quiet_roles : QuietRoles {T = T} over_effects
  quiet_roles role = grind arith

  -- ---- a step that goes on, and tells nothing

  -- a call at this stage goes on at the next one where its step finds this word, and writes nothing by it
  record GoesOn (flight next : Flight T) (found : ℕ) : Type 0 where
    comes : after_of code flight found ≡ GoOn next
    quiet : (w : World T) → over_effects w 0 flight found ≡ []

  -- a step of party 0 that goes on and writes no event leads from one such moment to the next (`Here`)
  step : {words : List ℕ} {ts : List (Turn T)} {es : List (Event T)} {start : Start T} {flight : Flight T} (next : Flight T) (a : Ask)
      → Here words ts es (Some (start, flight)) → a.word < size → want_of code flight ≡ wants.Ask a
      → IsFreshCall (slice_index words a.word) flight → (words' : List ℕ)
      → slice_set words a.word (written a.op (slice_index words a.word)) ≡ words'
      → GoesOn flight next (slice_index words a.word) → Here words' (ts ++ Next 0 ∷ []) es (Some (start, next))
  step {words} {ts} {es} {start} {flight} next a here low asks finds words' same goes =
      alone.goes_on_at machine here (record { a = a; low = low; asks = asks; finds = finds }) same goes.comes (goes.quiet here.u.world)

  -- Of one round of a push and a pop: n is the position of both, ts are the turns before it, and es the
  -- events before it.
  module _ (room : 0 < capacity) (n : ℕ) (below_end : n < 2 ^ 64 - 1) (ts : List (Turn T)) (es : List (Event T)) where
    some : (capacity == 0) ≡ false
    some = some_cells capacity room

    -- The position behind n is n + 1, as n is not the last one.
    next_is : after_position n ≡ n + 1
    next_is = omega arith

    -- The word of the cell of position n.
    abbrev cell : ℕ
    cell = cell_word capacity n

    -- The word of the cell is a word of the machine.
    cell_low : cell < size
    cell_low = grind arith

    -- the cell of position n has a zero, whatever the positions are
    zero_there : (write read : ℕ) → slice_index (at write read 0 0) cell ≡ 0
    zero_there write read =
        let low : n % (capacity + 1) < capacity + 1 = omega arith in
        let long = length-replicate {A = ℕ} (capacity + 1) 0 in
        core.word_at write read 0 0 (replicate (capacity + 1) 0 ++ 0 ∷ []) cell (n % (capacity + 1)) refl
        ∙ (get_or_append_left (replicate (capacity + 1) 0) (0 ∷ []) 0 (n % (capacity + 1)) (omega arith)
        ∙ zero_at (capacity + 1) (n % (capacity + 1)))

    -- A store of 0 into the cell leaves the words as they are.
    zero_stays : (write read : ℕ) → slice_set (at write read 0 0) cell 0 ≡ at write read 0 0
    zero_stays write read = ap (slice_set (at write read 0 0) cell) (sym (zero_there write read)) ∙ set_same (at write read 0 0) cell

    -- ---- the push

    -- The events of the push from what its last step writes on.
    abbrev events_of_push : List (Event T)
    events_of_push = Published 0 it ∷ Acted 0 push_name answers.PoppedNone ∷ Finished 0 push_name answers.PoppedNone ∷ []

    -- a push of 0 by the party that has the producer's role, while it is alone and both positions
    -- are n, moves the write position on, and hands nothing back
    pushed : HasRole Producer es → Here (at n n 0 0) ts es None
        → Here (at (n + 1) n 0 0) (moved_turns 1 push_name ts) (es ++ pushed_once answers.PoppedNone it) None
    pushed has here =
        let xs = es ++ Begun 0 push_name ∷ [] in
        let ts1 = ts ++ Begin 0 push_name ∷ [] in
        let last = not_last n below_end in
        let apart = not_full n capacity (omega arith) room in
        let a₀ = alone.begins_any machine (pushes_over 0) (first_push capacity) (record { 0 = 0 }) here
        (role_begins Overflow (PushIndex 0) refl (λ kept. refl) Producer (λ o p. tt) (λ roles p is. holds_it roles.producer p is) has) in
        let stands_here : Here (at n n 0 0) ts1 xs (Some (push_name, pushing capacity pushes.LoadsWrite)) =
        subst (λ f. Here (at n n 0 0) ts1 xs (Some (push_name, f))) (first_pushing capacity some) a₀ in
        -- b, c and d: the turns that load both positions and store the number; e: the one that stores
        -- the write position
        let b =
        step (pushing capacity (pushes.LoadsRead n)) (record { word = 0; op = Load }) stands_here (omega arith) refl
        below_end (at n n 0 0) refl (record { comes = push_loads_write code capacity n last; quiet = λ w. refl }) in
        let c =
        step (pushing capacity (pushes.StoresCell n n)) (record { word = 1; op = Load }) b (omega arith) refl
        tt (at n n 0 0) refl (record { comes = refl; quiet = λ w. refl }) in
        let d =
        step (pushing capacity (pushes.StoresWrite n n)) (record { word = cell; op = Store 0 }) c cell_low
        refl tt (at n n 0 0) (zero_stays n n) (record { comes = refl; quiet = λ w. refl }) in
        let e =
        alone.ends_at machine d (record { a = record { word = 0; op = Store (after_position n) }; low = omega arith; asks = refl; finds = tt })
        {answer = answers.PoppedNone} {own = Published 0 it ∷ Acted 0 push_name answers.PoppedNone ∷ []}
        (ap (λ k. at k n 0 0) next_is) (push_ends code capacity n apart) (push_tells code capacity n apart d.u.world) (refl, (refl, tt)) in
        subst (λ zs. Here (at (n + 1) n 0 0) (moved_turns 1 push_name ts) zs None) (append_assoc es (Begun 0 push_name ∷ []) events_of_push) e

    -- ---- the pop of what it pushed

    -- The events of the pop from what its last step writes on.
    abbrev events_of_pop : List (Event T)
    events_of_pop = HandedOut 0 it ∷ Acted 0 pop_name (answers.PoppedIndex 0) ∷ Finished 0 pop_name (answers.PoppedIndex 0) ∷ []

    -- The words once the item is published.
    abbrev then : List ℕ
    then = at (n + 1) n 0 0

    -- nobody's push waits beside it
    none_beside : (us : List (Turn T)) (xs : List (Event T)) (flight : Flight T) → (h : Here then us xs (Some (pop_name, flight)))
        → (o : Option (ℕ × ℕ)) → beside_of h.u.world.words h.u.world.kept h.u.world.latest 0 ≡ o → o ≡ None
    none_beside us xs flight h None e = refl
    none_beside us xs flight h (Some push) e =
        let t = h.u in
        let is_sound = sound_of code capacity Overflow t h.between.run in
        let waits =
        beside_waits code capacity t t.world.coding t.world.capacity is_sound t.world.kept 0 push.0 push.1 e
        is_sound.fit.kept in
        ⊎_elim (λ (mine : push.0 ≡ 0).
        (let no : pop_name ≡ Queues (PushIndex push.1) = ap name_in (sym h.there ∙ (ap (call_in t.world) (sym mine) ∙ waits.there)) in
        absurd (cc)))
        (λ (other : push.0 ≢ 0). (let one : 1 ≤ push.0 = omega arith in let no = sym (h.between.further push.0 other one) ∙ waits.there in absurd (cc)))
        (cases_eq push.0 0)

    -- the last step of the pop writes that it takes 0 out, and that it acted
    wrote_then : (us : List (Turn T)) (xs : List (Event T))
        → (h : Here then us xs (Some (pop_name, popping capacity (pops.MovesRead n))))
        → over_effects h.u.world 0 (popping capacity (pops.MovesRead n)) n
        ≡ HandedOut 0 it ∷ Acted 0 pop_name (answers.PoppedIndex 0) ∷ []
    wrote_then us xs h =
        let w = h.u.world in
        let long = (overflow_owes code capacity).size h.u h.between.run in
        let low = cell_low in
        let words : slice_index w.words cell ≡ 0 =
        sym (ap (λ ws. slice_index ws cell) h.between.words ∙ get_left w.words (0 ∷ []) cell (omega arith)) ∙ zero_there (n + 1) n in
        pop_tells code capacity n (same_number n) w words
        (none_beside us xs (popping capacity (pops.MovesRead n)) h (beside_of w.words w.kept w.latest 0) refl)

    -- a pop by the party that has the consumer's role, while it is alone and 0 waits at position
    -- n, moves the read position on, and takes 0 out
    popped : HasRole Consumer es → Here then ts es None → Here (at (n + 1) (n + 1) 0 0) (moved_turns 1 pop_name ts) (es ++ popped_once it) None
    popped role here =
        let xs = es ++ Begun 0 pop_name ∷ [] in
        let ts1 = ts ++ Begin 0 pop_name ∷ [] in
        let ts2 = ts1 ++ Next 0 ∷ [] in
        let ts3 = ts2 ++ Next 0 ∷ [] in
        let ts4 = ts3 ++ Next 0 ∷ [] in
        let apart = one_apart n in
        let equal = same_number n in
        let a₀ = alone.begins_any machine pops_over (first_pop capacity) (record { 0 = 0 }) here
        (role_begins Overflow Pop refl (λ kept. refl) Consumer (λ o p. tt) (λ roles p is. holds_it roles.consumer p is) role) in
        let stands_here : Here then ts1 xs (Some (pop_name, popping capacity pops.LoadsRead)) =
        subst (λ f. Here then ts1 xs (Some (pop_name, f))) (first_popping capacity some) a₀ in
        -- b, c and d: the turns that load both positions and the number; e: the exchange that
        -- moves the read position
        let b =
        step (popping capacity (pops.LoadsWrite n)) (record { word = 1; op = Load }) stands_here (omega arith) refl tt
        then refl (record { comes = refl; quiet = λ w. refl }) in
        let c =
        step (popping capacity (pops.LoadsCell n)) (record { word = 0; op = Load }) b (omega arith) refl tt
        then refl (record { comes = pop_loads_write code capacity n (n + 1) apart; quiet = pop_quiet code capacity n (n + 1) apart }) in
        -- The load of the cell finds 0, the number that was pushed.
        let d₀ =
        step (flights.Queues (flying.Overflow (overflows.Pop (record {
          call = at_pop (first_pop capacity) (pops.MovesRead n);
          given = tt;
          room = record { 0 = slice_index then cell };
        })))) (record { word = cell; op = Load }) c cell_low refl tt then (set_same then cell) (record { comes = refl; quiet = λ w. refl }) in
        let d : Here then ts4 xs (Some (pop_name, popping capacity (pops.MovesRead n))) =
        subst (λ u. Here then ts4 xs (Some (
          pop_name,
          flights.Queues
              (flying.Overflow
              (overflows.Pop
              (record { call = at_pop (first_pop capacity) (pops.MovesRead n); given = tt; room = record { 0 = u } }))),
        ))) (zero_there (n + 1) n) d₀ in
        -- The exchange moves the read position on and ends the pop, which answers 0.
        let e =
        alone.ends_at machine d (record { a = record { word = 1; op = Exchange n (after_position n) }; low = omega arith; asks = refl; finds = tt })
        {answer = answers.PoppedIndex 0} {own = HandedOut 0 it ∷ Acted 0 pop_name (answers.PoppedIndex 0) ∷ []}
        (ap (λ k. at (n + 1) k 0 0) (moved_on n (after_position n) equal ∙ next_is))
        (pop_ends code capacity n equal) (wrote_then ts4 xs d) (refl, (refl, tt)) in
        subst (λ zs. Here (at (n + 1) (n + 1) 0 0) (moved_turns 1 pop_name ts) zs None) (append_assoc es (Begun 0 pop_name ∷ []) events_of_pop) e

  -- ---- all of it

  -- The events of n rounds of a push and a pop.
  abbrev turns : ℕ → List (Event T)
  turns n = rounds answers.PoppedNone it n

  -- Party 0, which took both roles first, has them after n rounds.
  has_role : (n : ℕ) (role : Role) → HasRole role (turns n)
  has_role n role = has_it answers.PoppedNone quiet_none it n role

  -- The turns of n rounds of a push and a pop.
  abbrev took : ℕ → List (Turn T)
  took n = round_turns 1 it n

  -- after n rounds both positions are n, and the cells have zeros
  driven : (n : ℕ) → 0 < capacity → n < 2 ^ 64 → Here (at n n 0 0) (took n) (turns n) None
  driven zero room low =
      takes_both Overflow (overflow_owes code capacity) (omega arith) quiet_roles 0 0 (replicate (capacity + 1) 0 ++ 0 ∷ []) starts
  driven (suc n) room low =
      let driven_so = driven n room (omega arith) in
      let a = pushed room n (omega arith) (took n) (turns n) (has_role n Producer) driven_so in
      let b =
      popped room n (omega arith) (moved_turns 1 push_name (took n)) (turns n ++ pushed_once answers.PoppedNone it)
      (after_push answers.PoppedNone quiet_none Consumer it (turns n) (has_role n Consumer)) a in
      let same : n + 1 ≡ suc n = omega arith in
      subst (λ k. Here (at k k 0 0) (took (suc n)) (turns (suc n)) None) same
      (subst (λ zs. Here (at (n + 1) (n + 1) 0 0) (took (suc n)) zs None)
      (append_assoc (turns n) (pushed_once answers.PoppedNone it) (popped_once it)) b)

  -- after n rounds, with both roles given back, both positions are n, and the roles are free
  rests_at : (n : ℕ) → 0 < capacity → n < 2 ^ 64 → Here (at n n 1 1) (opened_turns 1 it n) (opened answers.PoppedNone it n) None
  rests_at zero room low = starts
  rests_at (suc n) room low =
      let k = suc n in
      gives_both Overflow (overflow_owes code capacity) (omega arith) quiet_roles k k
      (replicate (capacity + 1) 0 ++ 0 ∷ []) (took k) (turns k) (has_role k) (driven k room low)

  -- For each position below 2^64, the queue's words at that position are those after as many rounds,
  -- with both roles free.
  rests : (position : ℕ) → position < 2 ^ 64
      → Here (at (position_at capacity position) (position_at capacity position) 1 1)
      (opened_turns 1 it (position_at capacity position)) (opened answers.PoppedNone it (position_at capacity position)) None
  rests position low =
      from_cells (λ p. Here (at p p 1 1) (opened_turns 1 it p) (opened answers.PoppedNone it p) None) capacity position
      (λ none. starts) (λ room. rests_at position room low)

  -- A table with these words, and the view of the first pass, is the machine of an overflowing queue,
  -- for each position below 2^64.
  pub over_opens : (position : ℕ) → position < 2 ^ 64 → (words : List ℕ)
      → words ≡ at (position_at capacity position) (position_at capacity position) 1 1
      → IsMachine code kinds.Overflow capacity (opening words [] (over_opened_view capacity position))
  over_opens position low words same =
      let position_now = position_at capacity position in
      subst (λ ys. IsMachine code kinds.Overflow capacity (opening ys [] (over_opened_view capacity position))) (sym same)
      (alone.opens_so machine (at position_now position_now 1 1)
      (opened_turns 1 it position_now) (opened answers.PoppedNone it position_now) (rests position low))

  -- the first pass of the queue knows the run of the pushes and pops with which the queue opens
  pub over_knows : (position : ℕ) → position < 2 ^ 64 → Knows code kinds.Overflow capacity (over_opened_view capacity position)
  over_knows position low =
      let position_now = position_at capacity position in
      alone.knows_so machine (at position_now position_now 1 1)
      (opened_turns 1 it position_now) (opened answers.PoppedNone it position_now) (rests position low)
