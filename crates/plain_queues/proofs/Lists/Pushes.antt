-- A push of the bounded queue that runs alone: within how many steps it ends, and that it does to the words
-- what a push does to the list.
use Rattle.std.proofs.Common.{◌≡◌, ◌≢◌, ℕ, zero, suc, ◌+◌, ◌-◌, ◌*◌, ◌%◌, ◌^◌, ◌<◌, ◌≤◌, ◌⊎◌, inl, inr, ⊎_elim, Bool}
use Rattle.std.proofs.Common.{true, false, not, ◌&&◌, ◌==◌, nat_lt, List, [], ◌∷◌, ◌++◌, length, sym, ap, subst}
use Rattle.std.proofs.Common.{◌∙◌, arith, slice_index, slice_set, get_or-set_same, get_or-set_other, length-set}
use Rattle.std.proofs.Common.{eq-eqb, ne_eqb, if◌then◌else◌, true≢false}
use Rattle.std.proofs.Math.Nat.{mul-le-mul_right}
use Rattle.std.proofs.lemmas.Bool.Decides.{nat_tests}
use Rattle.std.proofs.lemmas.Bool.{cases_lt}
use Rattle.steps.specs.Picks.{by_test, by_eq, by_either}
use Rattle.steps.specs.Queues.Ring.{distance}
use Rattle.steps.specs.Queues.Ring.{after_position, word_at}
use Rattle.steps.specs.declared.ask.After.{After}
use mathlib.Core.Logic.{dite}
use native.Mathlib.Decide.{ℕ_discrete}
use Rattle.steps.specs.Queues.Ring.{cell_word, at_push, first_push, push_want, push_after}
use Rattle.steps.specs.declared.queues.ring.Push.{Push}
use Rattle.steps.specs.declared.queues.ring.PushStage.TheVariants as pushes
use Rattle.plain_queues.specs.Alone.{EndsFrom, EndsIn, BehavesAs}
use Rattle.steps.specs.Objects.Lists.{Bounded, takes_more, pushed}
use Rattle.plain_queues.specs.Queues.{words_from, value_at, list_in, Represents}
use Rattle.plain_queues.proofs.Alone.{Runs}
use Rattle.plain_queues.proofs.Words.{words_same, words_all, stored, stored_length, stored_other, stored_words}
use Rattle.plain_queues.proofs.Lists.Cells.{cell_within, cells_apart, values_same, values_length, values_more}

-- The list after a push, by whether there is room and whether there is a position.
module _ {V : Type 0} (value : V) (q : Bounded V) where
  -- the list after the push
  abbrev made : Bool → Bool → Bounded V
  made room position =
      if position then record q { values = if room then q.values ++ value ∷ [] else q.values } else q

  -- without room, or without a position, the list stays
  left_out : (room position : Bool) → (room && position) ≡ false → made room position ≡ q
  left_out = grind (arith, true≢false)

  -- with room and a position, the value stands at the end
  let_in : (room position : Bool) → (room && position) ≡ true
      → made room position ≡ record q { values = q.values ++ value ∷ [] }
  let_in = grind (arith, true≢false)

module _ {V : Type 0} {words_of : V → List ℕ} (value_of : List ℕ → V) {size : ℕ}
    (sized : (x : V) → length (words_of x) ≡ size) (given_back : (x : V) → value_of (words_of x) ≡ x)
    (some : 1 ≤ size) (few : size ≤ 128) (capacity : ℕ) (value : V) where
  -- the push, run alone from these words, ends within n steps with this answer and these last words
  abbrev PushEnds : ℕ → Bool → List ℕ → Push V → List ℕ → Type 0
  PushEnds n end last call words =
      EndsIn (push_want words_of) (λ c given old. push_after size c old) (λ c (room : Unit {0}) old. room) value n end tt last call tt words

  -- what a step of the push has answered leads to this end and these last words, at once
  -- or within n steps more
  abbrev PushEndsFrom : ℕ → Bool → List ℕ → After (Push V) Bool → List ℕ → Type 0
  PushEndsFrom n end last a words =
      EndsFrom (push_want words_of) (λ c given old. push_after size c old) (λ c (room : Unit {0}) old. room) value n end tt last a tt words

  -- from the stage at which word `at` is stored, the push stores the words left and the next write position,
  -- and ends with true
  stores : (p cell n at : ℕ) → at + suc n ≡ size → (words : List ℕ)
      → PushEnds (suc (suc n)) true
      (slice_set (stored words cell (words_of value) at (suc n)) 0 (after_position p))
      (at_push (first_push capacity) (pushes.StoresCell p cell at)) words
  stores p cell zero at end words = grind (arith, by_test, slice_set, stored, after_position, word_at, slice_index, nat_lt, nat_tests)
  stores p cell (suc n) at end words =
      let next = slice_set words (word_at cell at) (slice_index (words_of value) at) in
      by_test (λ a. PushEndsFrom (suc (suc n)) true (slice_set (stored words cell (words_of value) at (suc (suc n))) 0 (after_position p)) a next)
      (nat_lt (at + 1) size) _ _
      (λ t. stores p cell n (at + 1) (omega arith) next)
      (λ t. let less : size ≤ at + 1 = grind (arith, nat_tests) in absurd (omega arith))

  -- ---- three ways through

  -- at the last position a push ends with false within one step, and the words stay
  no_position : (words : List ℕ) → slice_index words 0 ≡ 2 ^ 64 - 1
      → PushEnds 1 false words (first_push capacity) words
  no_position = grind (arith, by_eq, false)

  -- in a full queue a push ends with false within two steps, and the words stay
  no_room : (words : List ℕ) → slice_index words 0 ≢ 2 ^ 64 - 1
      → (capacity ≡ 0) ⊎ (distance (slice_index words 0) (slice_index words 1) ≡ capacity)
      → PushEnds 2 false words (first_push capacity) words
  no_room = grind (arith, by_eq, false, by_either)

  -- a push to a list that is not full stores the words of its value, moves the write position, and ends with `true`
  goes_in : (n : ℕ) → suc n ≡ size → (words : List ℕ) → slice_index words 0 ≢ 2 ^ 64 - 1 → capacity ≢ 0
      → distance (slice_index words 0) (slice_index words 1) ≢ capacity
      → PushEnds (suc (suc (suc (suc n)))) true
      (slice_set (stored words (cell_word capacity size (slice_index words 0)) (words_of value) 0 (suc n)) 0
      (after_position (slice_index words 0))) (first_push capacity) words
  goes_in = grind (arith, stored, suc, by_eq, by_either, stores)

  -- ---- what it makes of the list

  -- the list that the words are
  abbrev list : List ℕ → Bounded V
  list words = list_in value_of size capacity words

  -- from these words the push has done what a push does to the list, with this answer and these last words
  abbrev pub Pushed : List ℕ → Bool → Unit {0} → List ℕ → Type 0
  Pushed words end room last =
      BehavesAs (Represents size capacity) list takes_more (λ q. pushed q value) words end last

  -- whether the list takes one more value is a test of its two positions
  takes_numbers : (words : List ℕ) → Represents size capacity words
      → takes_more (list words) ≡ nat_lt (slice_index words 0 - slice_index words 1) capacity && not (slice_index words 0 == 2 ^ 64 - 1)
  takes_numbers = grind (arith, values_length)

  -- where the list takes no value, false with the words as they were is what a push does
  stays_out : (words : List ℕ) → Represents size capacity words → takes_more (list words) ≡ false
      → Pushed words false tt words
  stays_out words fits refused =
      (fits, sym refused, sym (left_out value (list words) _ _ refused))

  -- words that are the same in a cell make the same value
  same_place : (k : ℕ) (words vs : List ℕ) → ((i : ℕ) → k ≤ i → i < k + size → slice_index words i ≡ slice_index vs i)
      → value_of (words_from words k size) ≡ value_of (words_from vs k size)
  same_place k words vs same_words = ap value_of (words_same words vs k size same_words)

  module _ (words : List ℕ) (fits : Represents size capacity words) (position : slice_index words 0 ≢ 2 ^ 64 - 1)
      (room : capacity ≢ 0) (near : slice_index words 0 - slice_index words 1 < capacity) where
    -- the write position
    abbrev w : ℕ
    w = slice_index words 0

    -- the read position
    abbrev r : ℕ
    r = slice_index words 1

    -- the first word of the write position's cell
    abbrev cell : ℕ
    cell = cell_word capacity size w

    -- the words with the value stored into that cell
    abbrev cells : List ℕ
    cells = stored words cell (words_of value) 0 size

    -- the words at the end: the value is stored, and the write position has moved
    abbrev last : List ℕ
    last = slice_set cells 0 (after_position w)

    -- the place of the cell, for a capacity above 0
    cell_is : cell ≡ 4 + size * (w % capacity)
    cell_is = ap (λ b. if b then 4 else 4 + size * (w % capacity)) (ne_eqb capacity 0 room)

    -- the cells take at most 128 words each
    table : size * capacity ≤ 128 * capacity
    table = mul-le-mul_right capacity few

    -- the words have the length of a queue of this capacity
    long : length words ≡ 4 + size * capacity
    long = fits.long

    -- the cell ends within the words
    in_cell : cell + size ≤ 4 + size * capacity
    in_cell = let c = cell_is in let i = cell_within capacity size w (omega (arith, room)) in omega arith

    -- the places of its words do not wrap
    small : cell + 0 + size < 2 ^ 64
    small = omega (arith, in_cell, table, fits.small)

    -- the store of the words leaves the length
    cells_long : length cells ≡ length words
    cells_long = stored_length words cell (words_of value) 0 size

    -- the last words have the length of a queue of this capacity
    last_long : length last ≡ 4 + size * capacity
    last_long = length-set cells 0 (after_position w) ∙ cells_long ∙ long

    -- the next write position does not wrap
    next_is : after_position w ≡ w + 1
    next_is = omega (arith, position, fits.fits)

    -- the write position is one more
    write_is : slice_index last 0 ≡ w + 1
    write_is = get_or-set_same cells 0 (after_position w) 0 (omega (arith, cells_long, long)) ∙ next_is

    -- a word before the cell or behind it stays, except the write position
    kept_word : (j : ℕ) → j ≢ 0 → (j < cell) ⊎ (cell + size ≤ j) → slice_index last j ≡ slice_index words j
    kept_word = grind (arith, get_or-set_other, stored_other, small, inl, inr)

    -- the read position stays
    read_is : slice_index last 1 ≡ r
    read_is = kept_word 1 (omega arith) (inl (omega (arith, cell_is)))

    -- the last words are those of a bounded queue
    last_fits : Represents size capacity last
    last_fits = grind (arith, write_is, read_is, long, last_long, small)

    -- the cell of the write position then has this value
    own : value_at value_of size capacity last w ≡ value
    own =
        let at : words_from cells cell size ≡ words_of value =
        subst (λ k. words_from cells k size ≡ words_of value) (omega arith)
        (stored_words words cell (words_of value) 0 size small (omega (arith, in_cell, long))
        ∙ subst (λ n. words_from (words_of value) 0 n ≡ words_of value) (sized value) (words_all (words_of value))) in
        let same : words_from last cell size ≡ words_from cells cell size =
        words_same last cells cell size (λ i low high. get_or-set_other cells 0 i (after_position w) 0 (λ e. absurd (omega (arith, cell_is)))) in
        subst (λ k. value_of (words_from last k size) ≡ value) cell_is (ap value_of (same ∙ at) ∙ given_back value)

    -- the positions that waited keep their values
    kept_value : (q : ℕ) → r ≤ q → q < w → value_at value_of size capacity last q ≡ value_at value_of size capacity words q
    kept_value q low high =
        let apart = cells_apart capacity size q w high (omega arith) in
        let c = cell_is in
        same_place (4 + size * (q % capacity)) last words
        (λ i from below. kept_word i (λ e. absurd (omega arith))
        (⊎_elim (λ h. inl (omega arith)) (λ h. inr (omega arith)) apart))

    -- the list at the end is the one before with the value at its end
    comes_in : list last ≡ record (list words) { values = (list words).values ++ value ∷ [] }
    comes_in = grind (arith, write_is, read_is, suc, values_same, kept_value, value_at, own, values_more)

    -- a push that stores its value has done what a push does to the list
    last_pushed : Pushed words true tt last
    last_pushed = grind (arith, takes_more, takes_numbers, false, ne_eqb, last_fits, comes_in, let_in, nat_tests)

    -- the push ends with true within its number of steps, with these last words
    goes : PushEnds (suc (suc (suc (suc (size - 1))))) true last (first_push capacity) words
    goes = grind (arith, suc, stored, goes_in)

  -- the push, run alone from these words, ends and has done what a push does to the list
  abbrev pub PushRuns : Push V → List ℕ → Type 0
  PushRuns call words =
      Runs (push_want words_of) (λ c given old. push_after size c old) (λ c (room : Unit {0}) old. room) value
      (Pushed words) call tt words

  -- A push that has taken no step does what a push does to the list. The cases are whether there is a
  -- position, and whether there is room.
  runs_first : (words : List ℕ) → Represents size capacity words → PushRuns (first_push capacity) words
  runs_first words fits =
      dite (ℕ_discrete (slice_index words 0) (2 ^ 64 - 1))
      -- the write position is at its end: the push answers false and stores nothing
      (λ e. record {
        steps = 1;
        few = omega arith;
        end = false;
        last_room = tt;
        last_words = words;
        ends = no_position words e;
        holds =
            stays_out words fits
            (takes_numbers words fits ∙ (let b : (slice_index words 0 == 2 ^ 64 - 1) ≡ true = eq-eqb _ _ e in grind (arith, b, nat_tests)));
      })
      (λ position.
      -- there is room: the push stores its value and answers true
      ⊎_elim (λ (near : slice_index words 0 - slice_index words 1 < capacity).
      let room : capacity ≢ 0 = λ e. absurd (omega arith) in
      record {
        steps = suc (suc (suc (suc (size - 1))));
        few = omega arith;
        end = true;
        last_room = tt;
        last_words = last words fits position room near;
        ends = goes words fits position room near;
        holds = last_pushed words fits position room near;
      })
      -- the queue is full: the push answers false and stores nothing
      (λ (far : capacity ≤ slice_index words 0 - slice_index words 1).
      let full : (capacity ≡ 0) ⊎ (distance (slice_index words 0) (slice_index words 1) ≡ capacity) =
      inr (omega (arith, fits.near, fits.behind, fits.fits)) in
      record {
        steps = 2;
        few = omega arith;
        end = false;
        last_room = tt;
        last_words = words;
        ends = no_room words position full;
        holds =
            stays_out words fits (takes_numbers words fits
            ∙ (let b : nat_lt (slice_index words 0 - slice_index words 1) capacity ≡ false = grind (arith, nat_tests, far) in
            ap (λ z. z && not (slice_index words 0 == 2 ^ 64 - 1)) b));
      })
      (cases_lt (slice_index words 0 - slice_index words 1) capacity))

  -- a push, run alone, does what a push does to the list
  pub push_runs : {call : Push V} → call ≡ first_push capacity → {words : List ℕ}
      → Represents size capacity words → PushRuns call words
  push_runs {call} at_first {words} fits = subst (λ c. PushRuns c words) (sym at_first) (runs_first words fits)
