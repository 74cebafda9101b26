-- The invariant gives what a queue promises of its events, and every turn keeps the invariant. So every run
-- has what a queue promises.
use lib.Seq.{get_or-drop}
use Rattle.laws_queues.proofs.Names.{◌≡◌, ℕ, suc, ◌+◌, ◌-◌, ◌%◌, ◌*◌, ◌<◌, ◌≤◌, Some, List, [], ◌∷◌, length, get_or}
use Rattle.laws_queues.proofs.Names.{map, slice_get, take, drop, refl, sym, ap, subst, ◌∙◌, length-append, length-drop}
use Rattle.laws_queues.proofs.Names.{length-map, take-map, Item, Index, Value, Roles, QueueKind, IndexQueue, Coding}
use Rattle.laws_queues.proofs.Names.{IsCoding, item_at, cell_of, stored, waiting_in, cells_of, IsQueue, promise}
use Rattle.laws_queues.proofs.Names.{published, handed_out, Trace, ◌^◌, Option, None, replicate}
use Rattle.laws_queues.proofs.Names.{length-replicate, take-nil, Start, Flight, opening_of, goes_of, step_of}
use Rattle.laws_queues.proofs.Names.{append-nil, ◌++◌}
use Rattle.laws_queues.proofs.Names.{list_of, words_of_cell, IsKept, Turn, Next, opening, capacity_error, Each-nil}
use native.Mathlib.Nat.{mul-le-mul_left}
use Rattle.std.proofs.Common.{arith}
use Rattle.std.proofs.lemmas.List.{get_or_append_left}
use Rattle.steps.specs.Queues.Ring.{cell_word}
use Rattle.model.specs.declared.families.queues.QueueKind.TheVariants as kinds
use Rattle.model.specs.Promises.Families.{promise_of}
use Rattle.laws_queues.proofs.Queues.Core.{Core, Good, take_all, at_below, word_at}
use Rattle.laws_queues.proofs.Queues.Knows.{free, layout, listed}
use Rattle.model.proofs.Frame as frame
use Rattle.laws_queues.proofs.Queues.Invariant.{machine_kind, family, waiting_is, Queue, Represents, outline}
use Rattle.laws_queues.proofs.Queues.Stages.{cell_place}
use Rattle.laws_queues.proofs.Queues.Values.{Val, encoded, item}
use Rattle.laws_queues.proofs.Ring.Kinds.{are_words, of_indices}
use Rattle.laws_queues.proofs.Ring.Words.{same_words}
use Rattle.model.specs.declared.families.Registry.TheVariants as registries
use Rattle.model.proofs.FamilyLaws as laws
use Rattle.model.proofs.FamilyLaws.{Opens, Turns, AllTurns, Owed, OwesAll}
use Rattle.model.proofs.Orders.{Keeps}
pub use Rattle.model.specs.Fresh.{IsFreshTurn, IsFreshRun}
pub use Rattle.laws_queues.proofs.Queues.Fresh.{fresh_there, fresh_any}
pub use Rattle.lemmas.proofs.Fresh.{fresh_more, fresh_opening}
use Rattle.laws_queues.proofs.Queues.Justified.{writes}
use Rattle.laws_queues.proofs.Queues.Pending.{none_hangs}
use Rattle.lemmas.proofs.MayRuns.{run_sound}
use Rattle.laws_queues.proofs.Queues.Steps.{comes, begin_comes, no_question, few_turns}

-- a cell has the words of one value
cell_size : {T : Type 0} → (en : Coding T) (kd : QueueKind) → words_of_cell en.size kd ≡ (encoded en kd).size
cell_size en IndexQueue = refl
cell_size en kinds.Overflow = refl
cell_size en kinds.Queue = refl

module _ {T : Type 0} (en : Coding T) where
  -- ---- progress

  -- what the family says of the steps and turn-backs of a call under way (`Bounds`)
  bounds : (kd : QueueKind) (c : ℕ) → frame.Bounds (family {T = T} en kd c)
  bounds = grind arith

  -- ---- the values that wait in the words

  -- where values are coded as `IsCoding` asks, so are the elements of each kind of queue
  words_coded : IsCoding en → (kd : QueueKind) → IsCoding (encoded en kd)
  words_coded law IndexQueue = are_words en of_indices law
  words_coded law kinds.Overflow = are_words en of_indices law
  words_coded law kinds.Queue = law

  -- what is read from a cell in which the words of `v` stand is `v`
  item_is : (kd : QueueKind) → IsCoding (encoded en kd) → (words : List ℕ) (cell : ℕ) (v : Val T kd) → cell + (encoded en kd).size ≤ length words
      → ((i : ℕ) → i < (encoded en kd).size → get_or words (cell + i) 0 ≡ get_or ((encoded en kd).words_of v) i 0) → item_at en kd words cell ≡ item kd v
  item_is IndexQueue law words cell v long held =
      (let same : cell + 0 ≡ cell = omega arith in ap Index (ap (λ n. get_or words n 0) (sym same) ∙ held 0 (omega arith)))
  item_is kinds.Overflow law words cell v long held =
      (let same : cell + 0 ≡ cell = omega arith in ap Index (ap (λ n. get_or words n 0) (sym same) ∙ held 0 (omega arith)))
  item_is kinds.Queue law words cell v long held =
      let size = law.sized v in
      let behind = length-drop cell words in
      let same : take en.size (drop cell words) ≡ en.words_of v =
      rw (← size) (same_words (drop cell words) (en.words_of v) (omega arith) (λ i below. get_or-drop cell words i 0 ∙ held i (omega arith)))
      in
      ap Value (ap en.value_of same ∙ law.given_back v)

  -- where the cells from a position on have the values of a list, what is stored there by
  -- the words is that list
  stored_is : (kd : QueueKind) (c : ℕ) (words : List ℕ) (position : ℕ) (xs : List (Val T kd))
      → ((i : ℕ) (v : Val T kd) → slice_get xs i ≡ Some v → item_at en kd words (cell_of en kd c (position + i)) ≡ item kd v)
      → stored en kd c words position (length xs) ≡ map (item kd) xs
  stored_is kd c words position [] held = refl
  stored_is kd c words position (x ∷ xs) held =
      let first : item_at en kd words (cell_of en kd c position) ≡ item kd x =
      (let same : position + 0 ≡ position = omega arith in rw same at (held 0 x refl))
      in
      let rest =
      stored_is kd c words (position + 1) xs
      (λ i v e. let same : position + 1 + i ≡ position + suc i = omega arith in rw same (held (suc i) v e)) in
      rw (first, rest) refl

  -- what waits by the words of a queue, which can have others behind them, is what waits in the queue
  pub stored_waiting : (kd : QueueKind) → IsCoding (encoded en kd) → (c : ℕ) (ro : Roles) {k : Core (Val T kd)}
      → Good (encoded en kd).size (encoded en kd).words_of (cells_of kd c) k → (behind : List ℕ)
      → waiting_in en kd c (layout ro k ++ behind) ≡ map (item kd) k.waiting
  stored_waiting kd law c ro {k} good behind =
      let write = good.write in
      let many : k.write - k.read ≡ length k.waiting = omega arith in
      rw many
      (stored_is kd c (layout ro k ++ behind) k.read k.waiting held)
    where
      -- the number of cells
      n : ℕ
      n = cells_of kd c

      -- the number of words of an element
      size : ℕ
      size = (encoded en kd).size

      -- the cell of the read position plus `i` has the value that is the `i`th to wait
      held : (i : ℕ) (v : Val T kd) → slice_get k.waiting i ≡ Some v → item_at en kd (layout ro k ++ behind) (cell_of en kd c (k.read + i)) ≡ item kd v
      held i v element_is =
          let below = at_below size (encoded en kd).words_of n k.waiting i v element_is in
          let few = good.few in
          let some : 0 < n = omega arith in
          let first : cell_of en kd c (k.read + i) ≡ 4 + size * ((k.read + i) % n) =
          ap (λ m. cell_word n m (k.read + i)) (cell_size en kd) ∙ cell_place size n (k.read + i) some in
          let low : (k.read + i) % n < n = omega arith in
          let step : size * ((k.read + i) % n + 1) ≤ size * n = mul-le-mul_left size (omega arith) in
          let all = good.cells in
          let longer = length-append k.cells behind in
          let word : (j : ℕ) → j < size → get_or (layout ro k ++ behind) (4 + size * ((k.read + i) % n) + j) 0 ≡ get_or ((encoded en kd).words_of v) j 0 =
          λ j js.
          word_at k.write k.read (free ro.producer) (free ro.consumer) (k.cells ++ behind) (4 + size * ((k.read + i) % n) + j)
          (size * ((k.read + i) % n) + j) (omega arith)
          ∙ (get_or_append_left k.cells behind 0 (size * ((k.read + i) % n) + j) (omega arith) ∙ good.held i v element_is j js)
          in
          rw first (item_is kd law (layout ro k ++ behind) (4 + size * ((k.read + i) % n)) v (omega arith) word)

  -- the list that the calls answer as has, of what waits, no more than the capacity, from the front
  listed_is : (kd : QueueKind) (c : ℕ) (k : Core (Val T kd))
      → Good (encoded en kd).size (encoded en kd).words_of (cells_of kd c) k
      → listed {T = T} kd c k.waiting ≡ take c (map (item kd) k.waiting)
  listed_is IndexQueue c k good =
      let few = good.few in
      let long : length (map {B = Item T} (item IndexQueue) k.waiting) ≡ length k.waiting = length-map k.waiting (item {T = T} IndexQueue) in
      sym (take_all c (map {B = Item T} (item IndexQueue) k.waiting) (omega arith))
  listed_is kinds.Queue c k good =
      let few = good.few in
      let long : length (map {B = Item T} (item kinds.Queue) k.waiting) ≡ length k.waiting =
      length-map k.waiting (item {T = T} kinds.Queue) in
      sym (take_all c (map {B = Item T} (item kinds.Queue) k.waiting) (omega arith))
  listed_is kinds.Overflow c k good = sym (take-map (item {T = T} kinds.Overflow) c k.waiting)

  -- ---- what is promised

  -- between two turns the words and the events of a queue agree, as `IsQueue` (the promise of a
  -- queue's machine) says
  queue_kept : IsCoding en → {kd : QueueKind} (c : ℕ) {t : Trace T} → t.world.coding ≡ en → t.world.capacity ≡ c
      → (s : frame.Sound (family en kd c) t) → IsQueue kd t
  queue_kept law {kd} c {t} same_coding same_capacity s =
      let world = t.world in
      let core_now = s.state.core in
      let good = s.holds.good in
      -- what waits, and the two positions, by the words of the machine
      let rest : waiting_in en kd c world.words ≡ map (item kd) core_now.waiting =
      ap (waiting_in en kd c) (s.fit.words ∙ sym (append-nil (layout s.state.roles core_now)))
      ∙ stored_waiting kd (words_coded law kd) c s.state.roles good [] in
      let long : length (map {B = Item T} (item kd) core_now.waiting) ≡ length core_now.waiting = length-map core_now.waiting (item {T = T} kd) in
      let few = good.few in
      let read : get_or world.words 1 0 ≡ core_now.read = ap (λ ws. get_or ws 1 0) s.fit.words in
      let write : get_or world.words 0 0 ≡ core_now.write = ap (λ ws. get_or ws 0 0) s.fit.words in
      let ahead = good.write in
      let joined : length (published t.events) ≡ length (handed_out t.events) + length core_now.waiting =
      ap length s.holds.book ∙ (length-append (handed_out t.events) (map (item kd) core_now.waiting) ∙ ap (λ n. length (handed_out t.events) + n) long)
      in
      let out = s.holds.out in
      record {
        list =
            rw same_capacity
            (s.holds.stand ∙ (listed_is kd c core_now s.holds.good ∙ ap (take c) (sym (waiting_is t.events (map (item kd) core_now.waiting) s.holds.book))));
        moments = rw same_capacity s.holds.legal;
        book =
            record {
              read = read ∙ out;
              write = write ∙ (omega arith);
              rest = rw (same_coding, same_capacity, rest) s.holds.book;
              few = rw (same_coding, same_capacity, rest) (omega arith);
            };
        answers = rw same_capacity s.holds.answers;
        lengths = rw same_capacity s.holds.lengths;
        roles = s.holds.grants;
        holders = rw s.fit.kept (sym s.holds.producers, sym s.holds.consumers);
      }

-- what a turn of this kind of machine may do is what the kind of queue promises
promise_is : {T : Type 0} (kd : QueueKind) → promise_of {T = T} (machine_kind kd) ≡ promise kd
promise_is = grind arith

-- ---- a queue as it opens

-- the core of a queue as it opens: both positions are 0 and nothing waits
abbrev empty_core : {T : Type 0} → Coding T → (kd : QueueKind) → ℕ → Core (Val T kd)
empty_core en kd c = record { write = 0; read = 0; waiting = []; cells = replicate (words_of_cell en.size kd * cells_of kd c) 0 }

-- a queue as it opens: nobody holds a role, and nothing waits
abbrev empty_queue : {T : Type 0} → Coding T → (kd : QueueKind) → ℕ → Queue (Val T kd)
empty_queue en kd c = record { roles = record { producer = None; consumer = None }; core = empty_core en kd c }

-- the machine opens as the empty queue
opening_fits : {T : Type 0} → (en : Coding T) (kd : QueueKind) (c : ℕ)
    → Represents ((opening_of (machine_kind kd)).kept {T = T} c) ((opening_of (machine_kind kd)).words en.size c) (empty_queue en kd c)
opening_fits = grind arith

-- an admitted capacity is below 2 ^ 32
pub admitted_fits : (kd : QueueKind) (c : ℕ) → capacity_error (machine_kind kd) c ≡ None → c < 2 ^ 32
admitted_fits = grind arith

module _ {T : Type 0} (en : Coding T) (law : IsCoding en) where
  -- the list object of this kind opens with no element
  empty : (kd : QueueKind) (c : ℕ) → (list_of {T = T} kd c).opening ≡ listed kd c []
  empty IndexQueue c = refl
  empty kinds.Overflow c = sym (ap (map (item kinds.Overflow)) (take-nil {A = ℕ} c))
  empty kinds.Queue c = refl

  -- the queue opens with what holds of it, at each capacity below `2 ^ 32`
  opens : (kd : QueueKind) (c : ℕ) → c < 2 ^ 32 → Opens (outline kd) en c
  opens kd c fits =
      let k : Core (Val T kd) = empty_core en kd c in
      let is = opening_fits en kd c in
      record {
        state = empty_queue en kd c;
        kept = is.kept;
        words = is.words;
        holds =
            record {
              fits = fits;
              good =
                  record {
                    write = refl;
                    few = omega arith;
                    cells = length-replicate (words_of_cell en.size kd * cells_of kd c) 0 ∙ ap (λ n. n * cells_of kd c) (cell_size en kd);
                    held = λ i v e. absurd (cc);
                  };
              hangs = none_hangs T kd c k None refl (omega arith);
              book = refl;
              out = refl;
              producers = refl;
              consumers = refl;
              stand = empty kd c;
              legal = refl;
              answers = Each-nil _;
              lengths = Each-nil _;
              grants = Each-nil _;
              reached = omega arith;
              within = omega arith;
            };
      }

  -- the invariant holds of the opening, where the capacity is below 2 ^ 32
  pub opening_sound : (kd : QueueKind) (c parties : ℕ) → c < 2 ^ 32 → frame.Sound (family en kd c) (opening en (machine_kind kd) c parties)
  opening_sound kd c parties fits = laws.opening_sound (outline kd) en c (opens kd c fits) parties

  -- ---- the laws of the family

  -- a call of a queue goes on as its table says
  told : (kd : QueueKind) (c : ℕ) (s : Queue (Val T kd)) (p : ℕ) (start : Start T) (flight : Flight T) → (family en kd c).At s p start flight
      → (z : Coding T) (words : List ℕ) (beside : Option (ℕ × ℕ)) (answer : ℕ)
      → (step_of z words beside p start flight answer (registries.Queues s.roles)).after
      ≡ goes_of z p flight answer (registries.Queues s.roles)
  told = grind arith

  -- each begin, step, decision and death keeps what holds of the queue
  turns : (kd : QueueKind) (c : ℕ) → Turns (outline kd) en c IsFreshTurn
  turns kd c =
      record {
        begin = λ t s p start flight may e rows. begin_comes law kd c s p flight may e rows;
        step = λ t s p x since fresh found start flight rows here. comes law kd c s p x since fresh here;
        decision = λ t s p x since said may found start flight rows asks here.
            laws.asks_none _ (no_question en kd c s.state p start flight here.at) asks;
        death = frame.no_death (family en kd c) (λ kept words state fit. rw fit.kept refl);
      }

  -- the family has what is owed beside the turns: its promise, its bounds, and that what a step
  -- writes is in order, among others
  owed : (kd : QueueKind) {c : ℕ} → Owed (outline kd) en c
  owed kd {c} =
      record {
        promise = promise_is kd;
        bounds = bounds en kd c;
        promised = λ t s few. queue_kept en law c s.coding s.capacity s;
        writes = λ t s p x since. writes en law kd c t s p x since;
        decides = λ t s p x since said start flight asks here. laws.asks_none _ (no_question en kd c s.state p start flight here.at) asks;
        goes = told kd c;
        tells = λ t turn e s. tt;
      }

  -- the laws of the family, for turns that are fresh
  pub fresh_laws : (kd : QueueKind) (c : ℕ) → frame.LawsWhere (family en kd c) IsFreshTurn
  fresh_laws kd c = laws.laws (outline kd) en c IsFreshTurn (turns kd c)

module _ {T : Type 0} (kd : QueueKind) where
  -- while fewer than 2 ^ 64 - 2 turns were made, a turn is fresh: it finds no position at its last value
  few : (code : Coding T) (c : ℕ) (t : Trace T) (turn : Turn T) → frame.Sound (family code kd c) t → t.world.turns < 2 ^ 64 - 2 → IsFreshTurn t turn
  few code c t (Next p) sound small = few_turns code kd c t sound small p
  few code c t turn sound small = tt

  -- the family opens soundly and keeps what holds, at every capacity that is admitted
  all_turns : AllTurns {T = T} (outline kd) IsFreshTurn
  all_turns =
      record {
        opens = λ code c coded admitted. opens code coded kd c (admitted_fits kd c admitted);
        turns = λ code c coded admitted. turns code coded kd c;
        few = few;
      }

  -- what the queue's promises ask of a turn besides the invariant, at every capacity that is admitted
  owes : OwesAll {T = T} (outline kd)
  owes code c coded admitted = owed code coded kd

  -- what is proved of every run of a queue
  pub queue_keeps : Keeps T (machine_kind kd)
  queue_keeps = laws.keeps (outline kd) IsFreshTurn all_turns owes

  -- what a machine of this kind promises is the queue's promise
  pub promised_by : (t : Trace T) → t.world.kind ≡ machine_kind kd → promise_of {T = T} t.world.kind ≡ promise kd
  promised_by t kind_is = ap (promise_of {T = T}) kind_is ∙ promise_is kd

  -- runs without a bound on the turns, in which no push finds the last position
  module _ (t : Trace T) (is : t.world.kind ≡ machine_kind kd) (coded : IsCoding t.world.coding)
      (admitted : capacity_error t.world.kind t.world.capacity ≡ None) (fresh_run : IsFreshRun t) where
    -- the invariant holds after a run in which no push finds the last position
    pub sound_on : frame.Sound (family t.world.coding kd t.world.capacity) t
    sound_on =
        let world = t.world in
        let F = family world.coding kd world.capacity in
        subst (frame.Sound F) (sym fresh_run.is)
        (run_sound F IsFreshTurn (fresh_laws world.coding coded kd world.capacity) fresh_run.turns
        (opening world.coding world.kind world.capacity world.parties) fresh_run.fresh
        (laws.opening_there (outline kd) IsFreshTurn all_turns t is coded admitted))

    -- what a queue promises holds of the run
    pub kept_on : IsKept t
    kept_on =
        laws.kept_by (outline kd) IsFreshTurn all_turns owes t is coded admitted sound_on
        (queue_kept t.world.coding coded t.world.capacity refl refl sound_on)
