-- A peek of the bounded queue that runs alone: within how many steps it ends, and that it answers the front
-- of the list.
use Rattle.std.proofs.Common.{◌≡◌, ◌≢◌, ℕ, zero, suc, ◌+◌, ◌-◌, ◌*◌, ◌%◌, ◌^◌, ◌<◌, ◌≤◌, ◌⊎◌, inr, Bool, true}
use Rattle.std.proofs.Common.{false, nat_lt, List, length, ap}
use Rattle.std.proofs.Common.{arith, slice_index}
use Rattle.std.proofs.Common.{ne_eqb, if◌then◌else◌}
use Rattle.std.proofs.Math.Nat.{mul-le-mul_right}
use Rattle.std.proofs.lemmas.Bool.Decides.{nat_tests}
use mathlib.Core.Logic.{dite}
use native.Mathlib.Decide.{ℕ_discrete}
use Rattle.steps.specs.Picks.{by_test, by_either}
use Rattle.steps.specs.Queues.Ring.{word_at}
use Rattle.steps.specs.declared.ask.After.{After}
use Rattle.steps.specs.Copied.{value_in}
use Rattle.steps.specs.Queues.Ring.{cell_word, pop_answer}
use Rattle.steps.specs.Queues.Peek.{at_peek, first_peek, peek_want, peek_after, peek_kept}
use Rattle.steps.specs.declared.queues.peek.Peek.{Peek}
use Rattle.steps.specs.declared.queues.peek.PeekStage.TheVariants as peeks
use Rattle.plain_queues.specs.Alone.{EndsFrom, EndsIn, BehavesAs}
use Rattle.steps.specs.Objects.Lists.{Bounded, front}
use Rattle.plain_queues.specs.Queues.{words_from, value_at, list_in, Represents}
use Rattle.plain_queues.proofs.Alone.{Runs}
use Rattle.plain_queues.proofs.Words.{Room, read_in, value_read}
use Rattle.plain_queues.proofs.Lists.Cells.{cell_within}

module _ {V R : Type 0} (value_of : List ℕ → V) (size : ℕ) (some : 1 ≤ size) (few : size ≤ 128)
    (as_room : Room R) (capacity : ℕ) where
  open as_room use {words_in, with_word, put_in}

  -- the peek, run alone from these words, ends within n steps with this end, this last room
  -- and these last words
  abbrev PeekEnds : ℕ → Bool → R → List ℕ → Peek V R → R → List ℕ → Type 0
  PeekEnds n end last_room last call room words =
      EndsIn (λ c (given : Unit {0}). peek_want c) (λ c given old. peek_after size c old) (peek_kept with_word) tt n end last_room last call room words

  -- what a step of the peek has answered leads to this end, room and words, at once or within n steps more
  abbrev PeekEndsFrom : ℕ → Bool → R → List ℕ → After (Peek V R) Bool → R → List ℕ → Type 0
  PeekEndsFrom n end last_room last a room words =
      EndsFrom (λ c (given : Unit {0}). peek_want c) (λ c given old. peek_after size c old) (peek_kept with_word) tt n end last_room last a room words

  -- from the stage at which word `at` is loaded, the peek loads the words left and ends with true
  loads : (cell n at : ℕ) → at + suc n ≡ size → (room : R) (words : List ℕ)
      → PeekEnds (suc n) true (read_in with_word room words cell at (suc n)) words
      (at_peek (first_peek capacity) (peeks.LoadsCell cell at)) room words
  loads cell zero at end room words = grind (arith, by_test, read_in, slice_index, word_at, nat_lt, nat_tests)
  loads cell (suc n) at end room words =
      let next = with_word room at (slice_index words (word_at cell at)) in
      by_test (λ a. PeekEndsFrom (suc n) true (read_in with_word room words cell at (suc (suc n))) words a next words)
      (nat_lt (at + 1) size) _ _
      (λ t. loads cell n (at + 1) (omega arith) next words)
      (λ t. let less : size ≤ at + 1 = grind (arith, nat_tests) in absurd (omega arith))

  -- ---- two ways through

  -- in an empty queue a peek ends with false within two steps
  finds_none : (room : R) (words : List ℕ) → (capacity ≡ 0) ⊎ (slice_index words 0 ≡ slice_index words 1)
      → PeekEnds 2 false room words (first_peek capacity) room words
  finds_none = grind (arith, by_either, false)

  -- a peek of a list that is not empty reads the words of the cell of the read position, and ends with `true`
  finds_one : (n : ℕ) → suc n ≡ size → (room : R) (words : List ℕ) → capacity ≢ 0
      → slice_index words 0 ≢ slice_index words 1
      → PeekEnds (suc (suc (suc n))) true
      (read_in with_word room words (cell_word capacity size (slice_index words 1)) 0 (suc n))
      words (first_peek capacity) room words
  finds_one = grind (arith, by_either, suc, read_in, loads)

  -- ---- what it answers of the list

  -- the list that the words are
  abbrev list : List ℕ → Bounded V
  list words = list_in value_of size capacity words

  -- from these words the peek has answered the front of the list, with this end, room and these last words
  abbrev pub Peeked : List ℕ → Bool → R → List ℕ → Type 0
  Peeked words end room last =
      BehavesAs (Represents size capacity) list front (λ (q : Bounded V). q) words
      (pop_answer (value_in value_of size (words_in room)) end) last

  -- where the list is empty, None with the words as they were is what a peek does
  is_empty : (room : R) (words : List ℕ) → Represents size capacity words
      → slice_index words 0 ≡ slice_index words 1 → Peeked words false room words
  is_empty = grind (arith, length)

  module _ (room : R) (wide : size ≤ length (words_in room)) (words : List ℕ) (fits : Represents size capacity words)
      (m : ℕ) (there : slice_index words 0 - slice_index words 1 ≡ suc m) where
    -- the read position
    abbrev r : ℕ
    r = slice_index words 1

    -- the first word of the read position's cell
    abbrev cell : ℕ
    cell = cell_word capacity size r

    -- the room once the value is read
    abbrev last_room : R
    last_room = read_in with_word room words cell 0 size

    -- a queue in which something waits has a capacity above 0
    has_room : capacity ≢ 0
    has_room = grind arith

    -- the place of the cell, for a capacity above 0
    cell_is : cell ≡ 4 + size * (r % capacity)
    cell_is = ap (λ b. if b then 4 else 4 + size * (r % capacity)) (ne_eqb capacity 0 has_room)

    -- the places of its words do not wrap
    small : cell + 0 + size < 2 ^ 64
    small = grind (arith, cell_is, cell_within, has_room, mul-le-mul_right)

    -- the value that the room makes is the one that stands at the read position
    own : value_in value_of size (words_in last_room) ≡ value_at value_of size capacity words r
    own = grind (arith, value_read, small, words_from, cell_is)

    -- a peek that reads a value has answered the front of the list
    last_peeked : Peeked words true last_room words
    last_peeked = grind (arith, value_at, own)

    -- the peek ends with true within its number of steps, and leaves the words
    goes : PeekEnds (suc (suc (suc (size - 1)))) true last_room words (first_peek capacity) room words
    goes = grind (arith, suc, read_in, finds_one, has_room)

  -- the peek, run alone from these words, ends and has answered the front of the list
  abbrev pub PeekRuns : Peek V R → R → List ℕ → Type 0
  PeekRuns call room words =
      Runs (λ (c : Peek V R) (given : Unit {0}). peek_want c) (λ c given old. peek_after size c old) (peek_kept with_word) tt
      (Peeked words) call room words

  -- A peek that has taken no step answers the front of the list, where its room has place for the words of a
  -- value. The cases are whether the two positions are equal.
  runs_first : (room : R) → size ≤ length (words_in room) → (words : List ℕ) → Represents size capacity words
      → PeekRuns (first_peek capacity) room words
  runs_first room wide words fits =
      dite (ℕ_discrete (slice_index words 0) (slice_index words 1))
      -- the positions are equal: nothing waits
      (λ e. record {
        steps = 2;
        few = omega arith;
        end = false;
        last_room = room;
        last_words = words;
        ends = finds_none room words (inr e);
        holds = is_empty room words fits e;
      })
      (λ other.
      -- a value waits: the peek reads it and leaves the words
      let m = slice_index words 0 - slice_index words 1 - 1 in
      let there : slice_index words 0 - slice_index words 1 ≡ suc m = omega (arith, other, fits.behind) in
      record {
        steps = suc (suc (suc (size - 1)));
        few = omega arith;
        end = true;
        last_room = last_room room wide words fits m there;
        last_words = words;
        ends = goes room wide words fits m there;
        holds = last_peeked room wide words fits m there;
      })

  -- a peek, run alone, answers the front of the list, where its room has place for the words of a value
  pub peek_runs : {call : Peek V R} → call ≡ first_peek capacity → (room : R)
      → size ≤ length (words_in room) → {words : List ℕ} → Represents size capacity words
      → PeekRuns call room words
  peek_runs = grind (arith, runs_first)
