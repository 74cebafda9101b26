-- A pop of the bounded queue that runs alone: within how many steps it ends, and that it does to the words
-- what a pop does to the list.
use Rattle.std.proofs.Common.{◌≡◌, ◌≢◌, ℕ, zero, suc, ◌+◌, ◌-◌, ◌*◌, ◌%◌, ◌^◌, ◌<◌, ◌≤◌, ◌⊎◌, inr, Bool, true}
use Rattle.std.proofs.Common.{false, nat_lt, min, List, length, drop, ap}
use Rattle.std.proofs.Common.{arith, slice_index, slice_set, get_or-set_same, get_or-set_other, length-set}
use Rattle.std.proofs.Common.{ne_eqb, if◌then◌else◌}
use Rattle.std.proofs.Math.Nat.{mul-le-mul_right}
use Rattle.std.proofs.lemmas.Bool.Decides.{nat_tests}
use mathlib.Core.Logic.{dite}
use native.Mathlib.Decide.{ℕ_discrete}
use Rattle.steps.specs.Picks.{by_test, by_either}
use Rattle.steps.specs.Queues.Ring.{after_position}
use Rattle.steps.specs.Queues.Ring.{word_at}
use Rattle.steps.specs.declared.ask.After.{After}
use Rattle.steps.specs.Copied.{value_in}
use Rattle.steps.specs.Queues.Ring.{cell_word, at_pop, first_pop, pop_want, pop_after, pop_kept, pop_answer}
use Rattle.steps.specs.declared.queues.ring.Pop.{Pop}
use Rattle.steps.specs.declared.queues.ring.PopStage.TheVariants as pops
use Rattle.plain_queues.specs.Alone.{EndsFrom, EndsIn, BehavesAs}
use Rattle.steps.specs.Objects.Lists.{Bounded, front, popped}
use Rattle.plain_queues.specs.Queues.{words_from, value_at, list_in, Represents}
use Rattle.plain_queues.proofs.Alone.{Runs}
use Rattle.plain_queues.proofs.Words.{Room, words_same, read_in, value_read}
use Rattle.plain_queues.proofs.Lists.Cells.{cell_within, values_same, values_length}

module _ {V R : Type 0} (value_of : List ℕ → V) (size : ℕ) (some : 1 ≤ size) (few : size ≤ 128)
    (as_room : Room R) (capacity : ℕ) where
  open as_room use {words_in, with_word, put_in}

  -- the pop, run alone from these words, ends within n steps with this end, this last room
  -- and these last words
  abbrev PopEnds : ℕ → Bool → R → List ℕ → Pop V R → R → List ℕ → Type 0
  PopEnds n end last_room last call room words =
      EndsIn (λ c (given : Unit {0}). pop_want c) (λ c given old. pop_after size c old) (pop_kept with_word) tt n end last_room last call room words

  -- what a step of the pop has answered leads to this end, room and words, at once or within n steps more
  abbrev PopEndsFrom : ℕ → Bool → R → List ℕ → After (Pop V R) Bool → R → List ℕ → Type 0
  PopEndsFrom n end last_room last a room words =
      EndsFrom (λ c (given : Unit {0}). pop_want c) (λ c given old. pop_after size c old) (pop_kept with_word) tt n end last_room last a room words

  -- from the stage at which word `at` is loaded, the pop loads the words left, stores the next read position
  -- and ends with true
  loads : (p cell n at : ℕ) → at + suc n ≡ size → (room : R) (words : List ℕ)
      → PopEnds (suc (suc n)) true (read_in with_word room words cell at (suc n)) (slice_set words 1 (after_position p))
      (at_pop (first_pop capacity) (pops.LoadsCell p cell at)) room words
  loads p cell zero at end room words = grind (arith, by_test, read_in, slice_set, after_position, slice_index, word_at, nat_lt, nat_tests)
  loads p cell (suc n) at end room words =
      let next = with_word room at (slice_index words (word_at cell at)) in
      by_test (λ a. PopEndsFrom (suc (suc n)) true (read_in with_word room words cell at (suc (suc n))) (slice_set words 1 (after_position p)) a next words)
      (nat_lt (at + 1) size) _ _
      (λ t. loads p cell n (at + 1) (omega arith) next words)
      (λ t. let less : size ≤ at + 1 = grind (arith, nat_tests) in absurd (omega arith))

  -- ---- two ways through

  -- in an empty queue a pop ends with false within two steps, and the words stay
  finds_none : (room : R) (words : List ℕ) → (capacity ≡ 0) ⊎ (slice_index words 0 ≡ slice_index words 1)
      → PopEnds 2 false room words (first_pop capacity) room words
  finds_none = grind (arith, by_either, false)

  -- a pop of a list that is not empty reads the words of the cell of the read position, moves
  -- that, and ends with `true`
  comes_out : (n : ℕ) → suc n ≡ size → (room : R) (words : List ℕ) → capacity ≢ 0
      → slice_index words 0 ≢ slice_index words 1
      → PopEnds (suc (suc (suc (suc n)))) true
      (read_in with_word room words (cell_word capacity size (slice_index words 1)) 0 (suc n))
      (slice_set words 1 (after_position (slice_index words 1))) (first_pop capacity) room words
  comes_out = grind (arith, by_either, suc, read_in, loads)

  -- ---- what it makes of the list

  -- the list that the words are
  abbrev list : List ℕ → Bounded V
  list words = list_in value_of size capacity words

  -- from these words the pop has done what a pop does to the list, with this end, room and these last words
  abbrev pub Popped : List ℕ → Bool → R → List ℕ → Type 0
  Popped words end room last =
      BehavesAs (Represents size capacity) list front popped words
      (pop_answer (value_in value_of size (words_in room)) end) last

  -- where the list is empty, None with the words as they were is what a pop does
  stays_empty : (room : R) (words : List ℕ) → Represents size capacity words
      → slice_index words 0 ≡ slice_index words 1 → Popped words false room words
  stays_empty = grind (arith, min, length, drop)

  module _ (room : R) (wide : size ≤ length (words_in room)) (words : List ℕ) (fits : Represents size capacity words)
      (m : ℕ) (there : slice_index words 0 - slice_index words 1 ≡ suc m) where
    -- the read position
    abbrev r : ℕ
    r = slice_index words 1

    -- the first word of the read position's cell
    abbrev cell : ℕ
    cell = cell_word capacity size r

    -- the room once the value is read
    abbrev last_room : R
    last_room = read_in with_word room words cell 0 size

    -- the words at the end: the read position has moved
    abbrev last : List ℕ
    last = slice_set words 1 (after_position r)

    -- a queue in which something waits has a capacity above 0
    has_room : capacity ≢ 0
    has_room = grind arith

    -- the place of the cell, for a capacity above 0
    cell_is : cell ≡ 4 + size * (r % capacity)
    cell_is = ap (λ b. if b then 4 else 4 + size * (r % capacity)) (ne_eqb capacity 0 has_room)

    -- the places of its words do not wrap
    small : cell + 0 + size < 2 ^ 64
    small = grind (arith, cell_is, cell_within, has_room, mul-le-mul_right)

    -- the read position is one more
    read_is : slice_index last 1 ≡ r + 1
    read_is = grind (arith, get_or-set_same)

    -- each word but the read position is as before
    kept_word : (j : ℕ) → j ≢ 1 → slice_index last j ≡ slice_index words j
    kept_word j other = get_or-set_other words 1 j (after_position r) 0 other

    -- the last words are those of a bounded queue
    last_fits : Represents size capacity last
    last_fits = grind (arith, read_is, kept_word, length-set, small)

    -- the value that the room makes is the one that stood at the read position
    own : value_in value_of size (words_in last_room) ≡ value_at value_of size capacity words r
    own = grind (arith, value_read, small, words_from, cell_is)

    -- the list at the end is the one before without its front
    comes_off : list last ≡ popped (list words)
    comes_off = grind (arith, read_is, kept_word, value_at, values_same, words_same, min, length, values_length, drop)

    -- a pop that reads a value has done what a pop does to the list
    last_popped : Popped words true last_room last
    last_popped = grind (arith, value_at, last_fits, own, comes_off)

    -- the pop ends with true within its number of steps, with this last room and these last words
    goes : PopEnds (suc (suc (suc (suc (size - 1))))) true last_room last (first_pop capacity) room words
    goes = grind (arith, suc, read_in, comes_out, has_room)

  -- the pop, run alone from these words, ends and has done what a pop does to the list
  abbrev pub PopRuns : Pop V R → R → List ℕ → Type 0
  PopRuns call room words =
      Runs (λ (c : Pop V R) (given : Unit {0}). pop_want c) (λ c given old. pop_after size c old) (pop_kept with_word) tt
      (Popped words) call room words

  -- A pop that has taken no step does what a pop does to the list, where its room has place for the words of
  -- a value. The cases are whether the two positions are equal.
  runs_first : (room : R) → size ≤ length (words_in room) → (words : List ℕ) → Represents size capacity words
      → PopRuns (first_pop capacity) room words
  runs_first room wide words fits =
      dite (ℕ_discrete (slice_index words 0) (slice_index words 1))
      -- the positions are equal: nothing waits
      (λ e. record {
        steps = 2;
        few = omega arith;
        end = false;
        last_room = room;
        last_words = words;
        ends = finds_none room words (inr e);
        holds = stays_empty room words fits e;
      })
      (λ other.
      -- a value waits: the pop reads it and moves the read position
      let m = slice_index words 0 - slice_index words 1 - 1 in
      let there : slice_index words 0 - slice_index words 1 ≡ suc m = omega (arith, other, fits.behind) in
      record {
        steps = suc (suc (suc (suc (size - 1))));
        few = omega arith;
        end = true;
        last_room = last_room room wide words fits m there;
        last_words = last room wide words fits m there;
        ends = goes room wide words fits m there;
        holds = last_popped room wide words fits m there;
      })

  -- a pop, run alone, does what a pop does to the list, where its room has place for the words of a value
  pub pop_runs : {call : Pop V R} → call ≡ first_pop capacity → (room : R)
      → size ≤ length (words_in room) → {words : List ℕ} → Represents size capacity words
      → PopRuns call room words
  pop_runs = grind (arith, runs_first)
