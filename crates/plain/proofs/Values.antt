-- A store and a load of the single value that run alone: within how many steps they end, and that they do
-- what the versioned value says.
use Rattle.std.proofs.Common.{◌≡◌, ◌≢◌, ℕ, zero, suc, ◌+◌, ◌-◌, ◌*◌, ◌^◌, ◌<◌, ◌≤◌, inl, Bool, true, false, not}
use Rattle.std.proofs.Common.{◌==◌, nat_lt, List, length, sym, ap, subst, ◌∙◌, arith, slice_index, slice_set}
use Rattle.std.proofs.Common.{get_or-set_same, get_or-set_other, length-set, eq-eqb, ne_eqb, if◌then◌else◌}
use Rattle.plain.proofs.Names.{mul-le-mul_left, nat_tests, by_test, by_eq, word_at, After}
use Rattle.steps.specs.Ask.{written}
use Rattle.steps.specs.Atomic.{before_version, cell_word, at_store, first_store, store_want, store_after, at_load, first_load, load_want, load_after, load_kept}
use Rattle.steps.specs.Copied as copied
use Rattle.steps.specs.Objects.Values.{Versioned, has_version, stored}
use Rattle.steps.specs.declared.ask.Op.TheVariants.{Add}
use Rattle.steps.specs.declared.atomic.Store.{Store}
use Rattle.steps.specs.declared.atomic.StoreStage.TheVariants as stores
use Rattle.steps.specs.declared.atomic.Load.{Load}
use Rattle.steps.specs.declared.atomic.LoadStage.TheVariants as loads
use Rattle.plain_queues.specs.Alone.{EndsFrom, EndsIn, BehavesAs}
use Rattle.plain_queues.specs.Queues.{words_from}
use Rattle.plain.specs.Value.{value_in, Represents}
use Rattle.plain_queues.proofs.Alone.{Runs}
use Rattle.plain_queues.proofs.Words as words
use Rattle.plain_queues.proofs.Words.{Room, words_same, words_all, stored_length, stored_other, stored_words, read_in, value_read}

-- a cell lies within the words
cell_within : (size p : ℕ) → cell_word size p + size ≤ 2 + 2 * size
cell_within = grind (arith, mul-le-mul_left)

module _ {V : Type 0} {words_of : V → List ℕ} (value_of : List ℕ → V) {size : ℕ}
    (sized : (x : V) → length (words_of x) ≡ size) (given_back : (x : V) → value_of (words_of x) ≡ x)
    (some : 1 ≤ size) (few : size ≤ 128) (value : V) where
  -- the store, run alone from these words, ends within n steps with this answer and these last words
  abbrev StoreEnds : ℕ → Bool → List ℕ → Store V → List ℕ → Type 0
  StoreEnds n end last call ws =
      EndsIn (store_want words_of) (λ c given old. store_after size c old) (λ c (room : Unit {0}) old. room) value n end tt last call tt ws

  -- what a step of the store has answered leads to this end and these last words, at once
  -- or within n steps more
  abbrev StoreEndsFrom : ℕ → Bool → List ℕ → After (Store V) Bool → List ℕ → Type 0
  StoreEndsFrom n end last a ws =
      EndsFrom (store_want words_of) (λ c given old. store_after size c old) (λ c (room : Unit {0}) old. room) value n end tt last a tt ws

  -- the words with 1 added to the version
  abbrev counted : List ℕ → List ℕ
  counted ws = slice_set ws 0 (written (Add 1) (slice_index ws 0))

  -- from the stage at which word `at` is stored, the store stores the words left, adds 1 to the version and
  -- ends with true
  goes_in : (cell n at : ℕ) → at + suc n ≡ size → (ws : List ℕ)
      → StoreEnds (suc (suc n)) true (counted (words.stored ws cell (words_of value) at (suc n)))
      (at_store first_store (stores.StoresCell cell at)) ws
  goes_in cell zero at end ws = grind (arith, by_test, slice_set, word_at, slice_index, nat_lt, nat_tests)
  goes_in cell (suc n) at end ws =
      let next = slice_set ws (word_at cell at) (slice_index (words_of value) at) in
      by_test (λ a. StoreEndsFrom (suc (suc n)) true (counted (words.stored ws cell (words_of value) at (suc (suc n)))) a next)
      (nat_lt (at + 1) size) _ _
      (λ t. goes_in cell n (at + 1) (omega arith) next)
      (λ t. let less : size ≤ at + 1 = grind (arith, nat_tests) in absurd (omega arith))

  -- from the words ws the store has done what a store to the versioned value does, with this
  -- answer and these last words
  abbrev pub Stored : List ℕ → Bool → Unit {0} → List ℕ → Type 0
  Stored ws end room last =
      BehavesAs (Represents size) (value_in value_of size) has_version (λ s. stored s value) ws end last

  -- the store, run alone from the words ws, ends and has done what a store to the versioned value does
  abbrev pub StoreRuns : Store V → List ℕ → Type 0
  StoreRuns call ws =
      Runs (store_want words_of) (λ c given old. store_after size c old) (λ c (room : Unit {0}) old. room) value
      (Stored ws) call tt ws

  -- at the last version a store answers false, and the words stay
  at_end : (ws : List ℕ) → Represents size ws → slice_index ws 0 ≡ 2 ^ 64 - 1 → StoreRuns first_store ws
  at_end = grind (arith, eq-eqb, false, by_eq, value_in)

  module _ (ws : List ℕ) (fits : Represents size ws) (more : slice_index ws 0 ≢ 2 ^ 64 - 1) where
    -- the version before the store
    abbrev v : ℕ
    v = slice_index ws 0

    -- the first word of the cell that the store writes
    abbrev cell : ℕ
    cell = cell_word size v

    -- the words with the value stored into that cell
    abbrev cells : List ℕ
    cells = words.stored ws cell (words_of value) 0 size

    -- the words at the end: the value is stored, and the version is one more
    abbrev last : List ℕ
    last = counted cells

    -- the cell is one of the two cells
    within : cell + size ≤ 2 + 2 * size
    within = cell_within size v

    -- the places of its words do not wrap
    small : cell + 0 + size < 2 ^ 64
    small = omega (arith, within)

    -- the store of the cell leaves the version
    stands : slice_index cells 0 ≡ v
    stands = stored_other ws cell (words_of value) 0 size 0 small (inl (omega arith))

    -- the store of the words leaves the length
    cells_long : length cells ≡ 2 + 2 * size
    cells_long = stored_length ws cell (words_of value) 0 size ∙ fits.long

    -- the last words have the next version
    version_is : slice_index last 0 ≡ v + 1
    version_is = grind (arith, cells_long, stands, get_or-set_same, written)

    -- the cell of the new version's value is the one that was stored
    before : before_version (slice_index last 0) ≡ v
    before = omega (arith, more, version_is, fits.fits)

    -- the cell that was stored makes the value that was given
    own : value_of (words_from last cell size) ≡ value
    own =
        let at : words_from cells cell size ≡ words_of value =
        subst (λ k. words_from cells k size ≡ words_of value) (omega arith)
        (stored_words ws cell (words_of value) 0 size small (omega (arith, within, fits.long))
        ∙ subst (λ n. words_from (words_of value) 0 n ≡ words_of value) (sized value) (words_all (words_of value))) in
        let same : words_from last cell size ≡ words_from cells cell size =
        words_same last cells cell size (λ i low high. get_or-set_other cells 0 i (written (Add 1) (slice_index cells 0)) 0 (λ e. absurd (omega arith))) in
        ap value_of (same ∙ at) ∙ given_back value

    -- the store ends with true within its number of steps, with these last words
    goes : StoreEnds (suc (suc (suc (size - 1)))) true last first_store ws
    goes =
        let n : suc (size - 1) ≡ size = omega arith in
        by_eq (λ a. StoreEndsFrom (suc (suc (size - 1))) true last a ws) v (2 ^ 64 - 1) _ _
        (λ e. absurd (more e))
        (λ _. subst (λ k. StoreEnds (suc (suc (size - 1))) true (counted (words.stored ws cell (words_of value) 0 k))
        (at_store first_store (stores.StoresCell cell 0)) ws)
        n (goes_in cell (size - 1) 0 (omega arith) ws))

    -- a store at a version that is not the last does what a store to the versioned value does
    stores_one : StoreRuns first_store ws
    stores_one =
        let is = version_is in
        let f = fits.fits in
        -- the version has a next one, so the store is one that stores its value
        let open_end : (v == 2 ^ 64 - 1) ≡ false = ne_eqb _ _ more in
        let value_is : value_of (words_from last (cell_word size (before_version (slice_index last 0))) size) ≡ value =
        ap (λ p. value_of (words_from last (cell_word size p) size)) before ∙ own in
        record {
          steps = suc (suc (suc (size - 1)));
          few = omega arith;
          end = true;
          last_room = tt;
          last_words = last;
          ends = goes;
          -- the words are those of a versioned value, the answer is that the value was stored, and the value
          -- and the version are the stored ones
          holds = (
            record { long = length-set cells 0 _ ∙ cells_long; fits = omega (arith, more) },
            sym (ap not open_end),
            (λ i. record { value = value_is i; version = is i })
                ∙ sym (ap (λ b. if not b then record { value = value; version = v + 1 } else value_in value_of size ws) open_end),
          );
        }

  -- a store, run alone, does what a store to the versioned value does
  pub store_runs : {call : Store V} → call ≡ first_store → {ws : List ℕ} → Represents size ws → StoreRuns call ws
  store_runs = grind (arith, at_end, stores_one)

-- ---- load

module _ {V R : Type 0} (value_of : List ℕ → V) (size : ℕ) (some : 1 ≤ size) (few : size ≤ 128) (as_room : Room R)
    (ws : List ℕ) where
  open as_room use {words_in, with_word, put_in}

  -- the load, run alone from the words ws, ends within n steps with this last room and these last words
  abbrev LoadEnds : ℕ → R → List ℕ → Load V R → R → Type 0
  LoadEnds n last_room last call room =
      EndsIn (λ c (given : Unit {0}). load_want c) (λ c given old. load_after size c old) (load_kept with_word) tt n tt last_room last call room ws

  -- what a step of the load has answered leads to this last room and these last words, at once
  -- or within n steps more
  abbrev LoadEndsFrom : ℕ → R → List ℕ → After (Load V R) (Unit {0}) → R → List ℕ → Type 0
  LoadEndsFrom n last_room last a room now =
      EndsFrom (λ c (given : Unit {0}). load_want c) (λ c given old. load_after size c old) (load_kept with_word) tt n tt last_room last a room now

  -- the version in the words ws
  abbrev version : ℕ
  version = slice_index ws 0

  -- the words after the version is exchanged for itself
  abbrev checked : List ℕ
  checked = slice_set ws 0 version

  -- from the stage at which word `at` is loaded, the load loads the words left, exchanges the version for
  -- itself and ends
  reads : (cell n at : ℕ) → at + suc n ≡ size → (room : R)
      → LoadEnds (suc (suc n)) (read_in with_word room ws cell at (suc n)) checked
      (at_load first_load (loads.LoadsCell version cell at)) room
  reads cell zero at end room = grind (arith, read_in, eq-eqb, by_test, nat_lt, nat_tests, by_eq)
  reads cell (suc n) at end room =
      let next = with_word room at (slice_index ws (word_at cell at)) in
      by_test (λ a. LoadEndsFrom (suc (suc n)) (read_in with_word room ws cell at (suc (suc n))) checked a next ws)
      (nat_lt (at + 1) size) _ _
      (λ t. reads cell n (at + 1) (omega arith) next)
      (λ t. let less : size ≤ at + 1 = grind (arith, nat_tests) in absurd (omega arith))

  -- the load has answered the value, which the room makes, and has changed no word
  abbrev pub Loaded : Unit {0} → R → List ℕ → Type 0
  Loaded end room last =
      BehavesAs (Represents size) (value_in value_of size) (λ (s : Versioned V). s.value) (λ s. s) ws
      (copied.value_in value_of size (words_in room)) last

  -- the load, run alone from the words ws, ends, has answered the value and has changed no word
  abbrev pub LoadRuns : Load V R → R → Type 0
  LoadRuns call room =
      Runs (λ (c : Load V R) (given : Unit {0}). load_want c) (λ c given old. load_after size c old) (load_kept with_word) tt
      Loaded call room ws

  -- a load answers the value, where its room has place for the words of a value
  loads_first : (room : R) → size ≤ length (words_in room) → Represents size ws → LoadRuns first_load room
  loads_first room wide fits =
      let cell = cell_word size (before_version version) in
      let within = cell_within size (before_version version) in
      let long = fits.long in
      let n : suc (size - 1) ≡ size = omega arith in
      -- the exchange that checks the version writes the version that stood there, so the
      -- cell's words are the same
      let version_is : slice_index checked 0 ≡ version = get_or-set_same ws 0 version 0 (omega arith) in
      let same : words_from checked cell size ≡ words_from ws cell size =
      words_same checked ws cell size (λ i low high. get_or-set_other ws 0 i version 0 (λ e. absurd (omega arith))) in
      let value_is : value_of (words_from checked (cell_word size (before_version (slice_index checked 0))) size) ≡ value_of (words_from ws cell size) =
      ap (λ p. value_of (words_from checked (cell_word size (before_version p)) size)) version_is ∙ ap value_of same in
      record {
        steps = suc (suc (suc (size - 1)));
        few = omega arith;
        end = tt;
        last_room = read_in with_word room ws cell 0 size;
        last_words = checked;
        ends = subst (λ k. LoadEnds (suc (suc (suc (size - 1)))) (read_in with_word room ws cell 0 k) checked first_load room)
            n (reads cell (size - 1) 0 (omega arith) room);
        -- the words are those of a versioned value, and the value read is the one that they hold
        holds = (
          record { long = length-set ws 0 version ∙ long; fits = subst (λ x. x < 2 ^ 64) (sym version_is) fits.fits },
          value_read value_of size as_room room ws cell wide (omega arith),
          λ i. record { value = value_is i; version = version_is i },
        );
      }

  -- a load, run alone, answers the value, where its room has place for the words of a value
  pub load_runs : {call : Load V R} → call ≡ first_load → (room : R)
      → size ≤ length (words_in room) → Represents size ws → LoadRuns call room
  load_runs at_first room wide fits = subst (λ c. LoadRuns c room) (sym at_first) (loads_first room wide fits)
