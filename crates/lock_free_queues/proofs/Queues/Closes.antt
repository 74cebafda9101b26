-- What the words that a `close` read of a bounded queue say of the list that is made of them.
use Rattle.lock_free_queues.proofs.Names.{◌≡◌, inl, inr, ⊎_elim, ℕ, zero, suc, ◌+◌, ◌-◌, ◌*◌, ◌%◌, ◌<◌, ◌≤◌, Some}
use Rattle.lock_free_queues.proofs.Names.{List, [], ◌∷◌, ◌++◌, length, map, take, drop, get_or, slice_get, slice_index, refl}
use Rattle.lock_free_queues.proofs.Names.{sym, ap, subst, ◌∙◌, append-nil, arith, cases_lt, flat_map-append}
use Rattle.lock_free_queues.proofs.Names.{length-map, slice_get-map, slice_get_within, option_map, Item, QueueKind}
use Rattle.lock_free_queues.proofs.Names.{IndexQueue, Overflow, Queue, Kind, Coding, IsCoding, cells_of, published}
use Rattle.lock_free_queues.proofs.Names.{handed_out, waiting, publishes, hands_out, IsAll, cell_within, machine_kind}
use Rattle.lock_free_queues.proofs.Names.{Val, encoded, item, View, IsListed, IsBeginning, IsHistory}
use Rattle.lock_free_queues.proofs.Names.{Event, length-drop}
use Rattle.std.proofs.Common.{length-append}
use Rattle.std.proofs.lemmas.List.{take-append-drop}
use Rattle.steps.specs.Objects.Lists.{Bounded}
use Rattle.plain_queues.specs.Queues.{words_from, value_at, values_from, Represents}
use Rattle.plain_queues.proofs.Lists.Cells.{values_length}
use Rattle.plain_queues.proofs.Words.{words_all}
use Rattle.lock_free_queues.specs.Queues.Closes.{Closes, IsWhatWaits}
use Rattle.lock_free_queues.specs.Queues.Kinds.{words_in_cells}
use Rattle.lock_free_queues.specs.Queues.Reads.{WasRead, LastWords, LastSeen}
use Rattle.lock_free_queues.specs.Queues.Roles.{LacksRole}
use Rattle.lock_free_queues.specs.Queues.Rings.{queue_of, token_view, view}
use Rattle.lock_free_queues.specs.declared.spsc.ring.rule.Kind as kinds
use Rattle.lock_free_queues.specs.declared.spsc.ring.Pass.{Pass}
use Rattle.steps.specs.declared.queues.roles.Role.TheVariants.{Producer, Consumer}
use Rattle.steps.specs.declared.words.Words.{Ghosts}
use Rattle.history.proofs.Known.{begins_further}
use Rattle.lock_free_queues.proofs.Queues.Cells.{get_behind, item_same, Stands, stands}
use Rattle.lock_free_queues.proofs.Queues.Facts.{listed_always}
use Rattle.lock_free_queues.proofs.Queues.Indices.{is_coding}
use Rattle.history.proofs.Ranks.{hits_grow}
use Rattle.lock_free_queues.proofs.Queues.Positions.{get_left}
use Rattle.lock_free_queues.proofs.Queues.Reads.{read_here, write_here, taken_here}
use Rattle.lock_free_queues.proofs.Queues.Whole.{none_more}

-- ---- lists by their elements

-- two lists of the same length are the same where each element of the first stands at its place in the second
same_list : {A : Type 0} (xs ys : List A) → length xs ≡ length ys → ((k : ℕ) (x : A) → slice_get xs k ≡ Some x → slice_get ys k ≡ Some x) → xs ≡ ys
same_list [] [] long same = refl
same_list [] (y ∷ ys) long same = absurd (omega arith)
same_list (x ∷ xs) [] long same = absurd (omega arith)
same_list (x ∷ xs) (y ∷ ys) long same =
    let first : Some y ≡ Some x = same 0 x refl in
    let is : x ≡ y = cc in
    ap (λ z. z ∷ xs) is ∙ ap (λ zs. y ∷ zs) (same_list xs ys (omega arith) (λ k z e. same (suc k) z e))

-- words that stand in two lists alike
words_alike : (ws xs : List ℕ) (at b k : ℕ) → ((i : ℕ) → i < k → get_or ws (at + i) 0 ≡ get_or xs (b + i) 0) → words_from ws at k ≡ words_from xs b k
words_alike ws xs at b zero h = refl
words_alike ws xs at b (suc k) h =
    let here : at + 0 ≡ at = omega arith in
    let there : b + 0 ≡ b = omega arith in
    let head : get_or ws at 0 ≡ get_or xs b 0 = ap (λ z. get_or ws z 0) (sym here) ∙ (h 0 (omega arith) ∙ ap (λ z. get_or xs z 0) there) in
    let tail = words_alike ws xs (suc at) (suc b) k (λ i low.
    let x : suc at + i ≡ at + (i + 1) = omega arith in
    let y : b + (i + 1) ≡ suc b + i = omega arith in
    ap (λ z. get_or ws z 0) x ∙ (h (i + 1) (omega arith) ∙ ap (λ z. get_or xs z 0) y)) in
    λ j. head j ∷ tail j

-- In a list that was read from words, from position p on, the value at place k is the one that the
-- words have at position p + k.
value_in_list : {V : Type 0} (value_of : List ℕ → V) (size capacity : ℕ) (words : List ℕ) (p m k : ℕ) → k < m
    → slice_get (values_from value_of size capacity words p m) k ≡ Some (value_at value_of size capacity words (p + k))
value_in_list value_of size capacity words p zero k low = absurd (omega arith)
value_in_list value_of size capacity words p (suc m) zero low =
    (let here : p ≡ p + 0 = omega arith in ap (λ q. Some (value_at value_of size capacity words q)) here)
value_in_list value_of size capacity words p (suc m) (suc k) low =
    let there : (p + 1) + k ≡ p + suc k = omega arith in
    value_in_list value_of size capacity words (p + 1) m k (omega arith) ∙ ap (λ q. Some (value_at value_of size capacity words q)) there

-- The k-th element behind the first n is the element n + k.
get_dropped : {A : Type 0} (xs : List A) (n k : ℕ) → slice_get (drop n xs) k ≡ slice_get xs (n + k)
get_dropped xs zero k = (let same : 0 + k ≡ k = omega arith in ap (slice_get xs) (sym same))
get_dropped [] (suc n) k = refl
get_dropped (x ∷ xs) (suc n) k =
    (let same : suc n + k ≡ suc (n + k) = omega arith in get_dropped xs n k ∙ ap (slice_get (x ∷ xs)) (sym same))

-- A list of length 0 is empty.
pub no_element : {A : Type 0} (xs : List A) → length xs ≡ 0 → xs ≡ []
no_element [] long = refl
no_element (x ∷ xs) long = absurd (omega arith)

-- ---- the words that were read

-- The words of the cells are as many as a value's words times the cells.
cells_are_words : {T : Type 0} (code : Coding T) (kd : QueueKind) (capacity : ℕ)
    → words_in_cells code.size kd capacity ≡ (encoded code kd).size * cells_of kd capacity
cells_are_words code IndexQueue capacity = omega arith
cells_are_words code Overflow capacity = omega arith
cells_are_words code Queue capacity = refl

-- the values of each kind have words
coded : {T : Type 0} (code : Coding T) → IsCoding code → (kd : QueueKind) → IsCoding (encoded code kd)
coded code law IndexQueue = is_coding
coded code law Overflow = is_coding
coded code law Queue = law

-- v is what the pass knew before it read the words, l says how they were read; kd is the kind of the queue
module _ {T : Type 0} {code : Coding T} (law : IsCoding code) (kd : QueueKind) {capacity : ℕ} {v : View T} {words : List ℕ}
    (l : LastWords code (machine_kind kd) (words_in_cells code.size kd capacity) capacity v words) where
  abbrev kind : Kind
  kind = machine_kind kd

  abbrev cells : ℕ
  cells = cells_of kd capacity

  -- the values of a queue of this kind
  abbrev V : Type 0
  V = Val T kd

  -- How values of the queue are written in words.
  abbrev z : Coding V
  z = encoded code kd

  -- A value of the queue as an item.
  abbrev named : V → Item T
  named x = item kd x

  -- The write position that was read.
  abbrev write : ℕ
  write = slice_index words 0

  -- The read position that was read.
  abbrev taken : ℕ
  taken = slice_index words 1

  -- the history as the read position was read
  abbrev pub moment : List (Event T)
  moment = l.new.seen

  -- What was seen at the moment is a history of the queue.
  pub history : IsHistory code kind capacity moment
  history =
      record { trace = l.taken_read.trace; run = l.taken_read.run; is = sym (read_here code kd capacity l.new 1 taken l.taken_read) }

  -- At the moment the queue's list is in order: what was taken out is a beginning of what was published.
  list : IsListed cells moment
  list = listed_always code capacity moment kd history moment [] (sym (append-nil moment))

  -- The moment lies behind all that the pass had seen.
  pub since : IsBeginning v.seen moment
  since = begins_further v.seen l.begun.seen moment l.opening.since l.reading.since

  -- the positions that were loaded
  write_is : write ≡ length (published l.begun.seen)
  write_is = write_here code kd capacity l.begun write l.first_read

  -- The read position is the number of items that were taken out by that moment.
  pub taken_is : taken ≡ length (handed_out moment)
  taken_is = taken_here code kd capacity l.new taken l.taken_read

  -- nothing was published since the first load
  quiet : published moment ≡ published l.begun.seen
  quiet =
      let is : published moment ≡ published l.begun.seen ++ published l.reading.since.rest =
      ap published l.reading.since.is ∙ flat_map-append publishes l.begun.seen l.reading.since.rest in
      let low = write_is in
      let high = write_here code kd capacity l.ended write l.last_read in
      let grown = hits_grow publishes moment l.ended.seen l.ending.since in
      let long = ap length is in
      let both = length-append (published l.begun.seen) (published l.reading.since.rest) in
      none_more (published l.begun.seen) (published l.reading.since.rest) (published moment) is (omega arith)

  -- the position of the next push lies behind that of the next pop by as many values as waited
  pub number : taken + length (waiting moment) ≡ write
  number =
      let book = ap length list.book in
      omega (arith, length-append (handed_out moment) (waiting moment), ap length quiet, write_is, taken_is)

  -- At most as many items as cells waited.
  near : write ≤ taken + cells
  near = omega (arith, number, list.few)

  -- The read position is at most the write position.
  behind : taken ≤ write
  behind = omega (arith, number)

  -- The words are the four of the head and those of the cells.
  long : length words ≡ 4 + z.size * cells
  long = l.long ∙ ap (λ n. 4 + n) (cells_are_words code kd capacity)

  -- the words of a queue with as many cells as its capacity represent a list
  pub fits : cells ≡ capacity → Represents z.size capacity words
  fits same =
      record {
        long = long ∙ ap (λ n. 4 + z.size * n) same;
        small = l.small;
        behind = behind;
        near = omega (arith, near);
        fits = l.fits;
      }

  -- a value at a position that nobody had taken from as the read position was read
  record Waits (i : ℕ) (x : Item T) : Type 0 where
    pub low : i < write
    pub value : V
    pub is : x ≡ named value
    pub there : value_at z.value_of z.size cells words i ≡ value

  module _ (i : ℕ) (x : Item T) (at : slice_get (published moment) i ≡ Some x) (high : taken ≤ i) where
    -- The position lies below the write position that was read.
    low_one : i < write
    low_one =
        omega (arith, slice_get_within (published moment) i x at, ap length quiet, write_is)

    -- The queue has a cell, as an item was published.
    some : 0 < cells
    some = omega (arith, low_one, near)

    -- The place of word k of the position in the words that were read.
    abbrev place : ℕ → ℕ
    place k = 4 + (z.size * (i % cells) + k)

    -- Each word of the cell was read between the first load of the write position and the load
    -- of the read position.
    read_at : (k : ℕ) → k < z.size → WasRead code kind capacity l.begun l.new (place k) (slice_index words (place k))
    read_at k below = (let inside = cell_within z.size cells i k some below in let all = long in l.cells (place k) (omega arith) (omega arith))

    -- each word of the cell was read of a machine in which the published item stands at position i
    stood : (k : ℕ) → (below : k < z.size) → Stands code kd capacity (read_at k below).trace (read_at k below).run i x
    stood k below =
        let w = read_at k below in
        let t = w.trace in
        let there : slice_get (published t.events) i ≡ Some x =
        ap (λ es. slice_get (published es) i) w.since.is
        ∙ (ap (λ xs. slice_get xs i) (flat_map-append publishes l.begun.seen w.since.rest)
        ∙ get_left (published l.begun.seen) (published w.since.rest) i x (ap (λ xs. slice_get xs i) (sym quiet) ∙ at)) in
        let grown = hits_grow hands_out t.events moment w.until in
        let out = taken_is in
        stands code kd capacity t w.run i x there (omega arith)

    -- A value of the queue has at least one word.
    one : 0 < z.size
    one = omega (arith, (coded code law kd).some)

    -- The value that the first word of the cell is of.
    abbrev first_one : V
    first_one = (stood 0 one).value

    -- Each word that was read at the place of the position is that word of one value, the first that
    -- was read there.
    same_words : (k : ℕ) → k < z.size → get_or words (place k) 0 ≡ get_or (z.words_of first_one) k 0
    same_words k below =
        let s = stood k below in
        let same : s.value ≡ first_one = item_same kd s.value first_one (sym s.is ∙ (stood 0 one).is) in
        (read_at k below).found_is ∙ (s.words k below ∙ ap (λ y. get_or (z.words_of y) k 0) same)

    -- an item that was published at a position from which nobody had taken is the value that the words
    -- have there, so it waits
    waits : Waits i x
    waits =
        let y = first_one in
        let long_one = (coded code law kd).sized y in
        let alike : words_from words (4 + z.size * (i % cells)) z.size ≡ words_from (z.words_of y) 0 z.size =
        words_alike words (z.words_of y) (4 + z.size * (i % cells)) 0 z.size (λ k below.
        let here : 4 + z.size * (i % cells) + k ≡ place k = omega arith in
        let there : k ≡ 0 + k = omega arith in
        ap (λ n. get_or words n 0) here ∙ (same_words k below ∙ ap (λ n. get_or (z.words_of y) n 0) there)) in
        let all : words_from (z.words_of y) 0 z.size ≡ z.words_of y =
        subst (λ n. words_from (z.words_of y) 0 n ≡ z.words_of y) long_one (words_all (z.words_of y)) in
        record { low = low_one; value = y; is = (stood 0 one).is; there = ap z.value_of (alike ∙ all) ∙ (coded code law kd).given_back y }

  -- who has the whole share has seen all of it
  pub whole_seen : IsAll v.share → moment ≡ v.seen
  whole_seen all = (let x = l.opening.whole all in l.reading.whole (subst IsAll (sym l.opening.share) all) ∙ x)

  -- ---- ---- the list that is made of these words; of an overflowing queue it may begin one number
  -- ---- later

  -- ws are words with the same cells and the same write position, and a read position that is no lower
  module _ (ws : List ℕ) (alike : (word : ℕ) → 4 ≤ word → slice_index ws word ≡ slice_index words word)
      (end : slice_index ws 0 ≡ write) (from : taken ≤ slice_index ws 1) (to : slice_index ws 1 ≤ write) where
    -- The read position in ws.
    abbrev first : ℕ
    first = slice_index ws 1

    -- How many values the list has.
    abbrev count : ℕ
    count = slice_index ws 0 - first

    -- The values of the list, from the read position in ws on.
    abbrev values : List V
    values = values_from z.value_of z.size cells ws first count

    -- The items that waited at the moment and were taken out before the read position in ws.
    abbrev pub older : List (Item T)
    older = take (first - taken) (waiting moment)

    -- before the list lie as many that wait as its read position lies above the one that was read
    pub older_are : length older ≡ first - taken
    older_are =
        omega (
          arith,
          number,
          length-drop (first - taken) (waiting moment),
          ap length (take-append-drop (first - taken) (waiting moment)),
          length-append older (drop (first - taken) (waiting moment)),
        )

    -- The value at a position is the same in ws as in the words that were read.
    same_value : (i : ℕ) → value_at z.value_of z.size cells ws i ≡ value_at z.value_of z.size cells words i
    same_value i = grind (arith, words_alike)

    -- The value at a position of the list stands at its place in the list.
    value_there : (i : ℕ) → first ≤ i → i < write → slice_get values (i - first) ≡ Some (value_at z.value_of z.size cells words i)
    value_there i first_up_to_i i_below_write = grind (arith, value_in_list, value_at, same_value)

    -- without those that wait before the list, what waited are the values of the list
    rest_is : drop (first - taken) (waiting moment) ≡ map named values
    rest_is =
        same_list (drop (first - taken) (waiting moment)) (map named values)
        (omega (arith, number, length-drop (first - taken) (waiting moment), values_length z.value_of z.size cells ws first count, length-map values named))
        each
      where
        -- an item that waits at a place behind those before the list is the list's value at that place
        each : (k : ℕ) (x : Item T) → slice_get (drop (first - taken) (waiting moment)) k ≡ Some x → slice_get (map named values) k ≡ Some x
        each k x e =
            let i : ℕ = first + k in
            let place : i ≡ length (handed_out moment) + ((first - taken) + k) = (omega (arith, taken_is)) in
            let at : slice_get (published moment) i ≡ Some x =
            ap (slice_get (published moment)) place
            ∙ (ap (λ xs. slice_get xs (length (handed_out moment) + ((first - taken) + k))) list.book
            ∙ (get_behind (handed_out moment) (waiting moment) ((first - taken) + k)
            ∙ (sym (get_dropped (waiting moment) (first - taken) k) ∙ e))) in
            let w = waits i x at (omega arith) in
            let back : i - first ≡ k = omega arith in
            let there : slice_get values k ≡ Some (value_at z.value_of z.size cells words i) =
            ap (slice_get values) (sym back) ∙ value_there i (omega arith) w.low in
            slice_get-map named values k ∙ (ap (λ o. option_map named o) there ∙ ap Some (ap named w.there ∙ sym w.is))

    -- What waits are the older items and the values of the list.
    pub waiting_is : waiting moment ≡ older ++ map named values
    waiting_is = sym (take-append-drop (first - taken) (waiting moment)) ∙ ap (λ xs. older ++ xs) rest_is

    -- the list says what a close promises of it, if with the whole share it begins at the read position that was read
    pub closes_later : (IsAll v.share → first ≡ taken)
        → Closes named capacity v (record { capacity = capacity; first = first; values = values })
    closes_later exact =
        record {
          same = refl;
          -- A published value lies before the list, or it still waits and stands in the list at its place.
          published_there = λ i x at. ⊎_elim (λ (before : i < first). inl before)
              (λ (after : first ≤ i).
              let still : slice_get (published moment) i ≡ Some (named x) =
              ap (λ es. slice_get (published es) i) since.is
              ∙ (ap (λ xs. slice_get xs i) (flat_map-append publishes v.seen since.rest)
              ∙ get_left (published v.seen) (published since.rest) i (named x) at) in
              let w = waits i (named x) still (omega arith) in
              let same : w.value ≡ x = item_same kd w.value x (sym w.is) in
              inr (after, value_there i (omega arith) w.low ∙ ap Some (w.there ∙ same)))
              (cases_lt i first);
          taken = omega (arith, hits_grow hands_out v.seen moment since, taken_is);
          -- With the whole share nothing is older than the list, so what waits are just its values.
          whole = λ all. (
            exact all ∙ (taken_is ∙ ap (λ es. length (handed_out es)) (whole_seen all)),
            subst (λ es. published es ≡ handed_out es ++ map named values) (whole_seen all)
                (list.book
                ∙ ap (λ xs. handed_out moment ++ xs) (waiting_is
                ∙ ap (λ xs. xs ++ map named values) (no_element older (omega (arith, exact all, older_are))))),
          );
        }

  -- the list that these words make: what they have from the read position to the write position
  abbrev closed : Bounded V
  closed =
      record {
        capacity = capacity;
        first = taken;
        values = values_from z.value_of z.size cells words taken (write - taken);
      }

  -- the list that these words make is one that closes the queue, and it begins at the read position
  pub closes : Closes named capacity v closed
  closes = closes_later words (λ word high. refl) refl (omega arith) behind (λ all. refl)

  -- the pass as it stood when it had seen just that shows what waits
  pub what_waits : {E : Type 0} {k : kinds.Ghosts E} {ws : Ghosts T} (pass at : Pass E T k ws) → view pass ≡ v → queue_of at ≡ queue_of pass
      → view at ≡ l.new → IsWhatWaits named pass closed
  what_waits pass at is queue there =
      record {
        at = at;
        queue = queue;
        since = subst (λ (x : View T). IsBeginning x.seen (view at).seen) (sym is) (subst (λ (x : View T). IsBeginning v.seen x.seen) (sym there) since);
        taken = taken_is ∙ ap (λ (x : View T). length (handed_out x.seen)) (sym there);
        waits = ap (λ (x : View T). waiting x.seen) there
            ∙ (waiting_is words (λ word high. refl) refl (omega arith) behind
            ∙ ap (λ xs. xs ++ map named closed.values)
            (no_element (older words (λ word high. refl) refl (omega arith) behind)
            (let are = older_are words (λ word high. refl) refl (omega arith) behind in omega arith)));
      }

-- The pass has read these words. `l.then` is its seat, that knows just what the pass knew as it read
-- the read position.
module _ {E T : Type 0} {k : kinds.Ghosts E} {ws : Ghosts T} (pass : Pass E T k ws) (capacity : ℕ) (words : List ℕ)
    (l : LastSeen capacity pass.token words) where
  -- That seat has made what the pass has made.
  pub made_then : (token_view l.then).made ≡ (view pass).made
  made_then = ap (λ (x : View T). x.made) l.view ∙ (l.last.reading.made ∙ l.last.opening.made)

  -- the pass with the seat as it stood when it had seen just what it had read up to the read position
  abbrev pub as_stood : Pass E T k ws
  as_stood =
      record {
        token = l.then;
        none = (subst (LacksRole Producer) (sym made_then) pass.none.0, subst (LacksRole Consumer) (sym made_then) pass.none.1);
      }

-- nothing is lost until then
pub closed_book : {T V : Type 0} (named : V → Item T) (code : Coding T) (kind : QueueKind) (capacity : ℕ) (at : List (Event T)) (q : Bounded V)
    → IsHistory code (machine_kind kind) capacity at → waiting at ≡ map named q.values → published at ≡ handed_out at ++ map named q.values
closed_book named code kind capacity at q is_history waits =
    (listed_always code capacity at kind is_history at [] (sym (append-nil at))).book ∙ ap (λ xs. handed_out at ++ xs) waits
