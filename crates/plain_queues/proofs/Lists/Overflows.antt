-- A push and a pop of the overflowing queue that run alone: within how many steps they end, and that they do
-- to the words what they do to the list.
use Rattle.std.proofs.Common.{◌≡◌, ◌≢◌, ℕ, suc, ◌+◌, ◌-◌, ◌*◌, ◌%◌, ◌^◌, ◌<◌, ◌≤◌, ⊎_elim, Bool, true, false, not}
use Rattle.std.proofs.Common.{◌&&◌, ◌==◌, nat_lt, min, Option, Some, None, slice_get, List, [], ◌∷◌, ◌++◌, length}
use Rattle.std.proofs.Common.{drop, sym, ap, subst, ◌∙◌, arith, slice_index, slice_set, get_or-set_same}
use Rattle.std.proofs.Common.{get_or-set_other, length-set, eq-eqb, ne_eqb, if◌then◌else◌}
use Rattle.std.proofs.lemmas.Bool.Decides.{nat_tests}
use Rattle.std.proofs.lemmas.Bool.{cases_lt}
use Rattle.std.proofs.lemmas.List.{length-append}
use mathlib.Core.Logic.{dite}
use native.Mathlib.Decide.{ℕ_discrete}
use Rattle.steps.specs.Picks.{by_eq}
use Rattle.steps.specs.Queues.Ring.{distance, after_position}
use Rattle.steps.specs.Queues.Overflow.{cell_word, first_push, push_want, push_after, push_kept, push_answer}
use Rattle.steps.specs.Queues.Overflow.{first_pop, pop_want, pop_after, pop_kept, pop_answer}
use Rattle.steps.specs.declared.copied.OneWord.{OneWord}
use Rattle.steps.specs.declared.queues.overflow.Push.{Push}
use Rattle.steps.specs.declared.queues.overflow.PushEnd.{PushEnd}
use Rattle.steps.specs.declared.queues.overflow.PushEnd.TheVariants.{Added, Own, Oldest}
use Rattle.steps.specs.declared.queues.overflow.Pop.{Pop}
use Rattle.steps.specs.Objects.Lists.{Bounded, front, popped, takes_in, handed_back, pushed_over}
use Rattle.plain_queues.specs.Alone.{EndsIn, BehavesAs}
use Rattle.plain_queues.specs.Queues.{value_at}
use Rattle.plain_queues.specs.Overflowing.{number_of, numbers_from, list_in, Represents}
use Rattle.plain_queues.proofs.Alone.{Runs}
use Rattle.plain_queues.proofs.Lists.Cells.{cells_apart, values_same, values_length, values_more}

-- The list after a push and what the push hands back, by whether it takes its value in and whether the list
-- is then longer than the capacity.
module _ (value : ℕ) (q : Bounded ℕ) where
  -- the list with the value at its end
  abbrev all : List ℕ
  all = q.values ++ value ∷ []

  -- the list after the push
  abbrev made : Bool → Bool → Bounded ℕ
  made takes long =
      if takes
      then record q { first = q.first + (length q.values + 1 - q.capacity); values = if long then drop 1 all else all }
      else q

  -- what the push hands back
  abbrev handed : Bool → Bool → Option ℕ
  handed takes long = if takes then (if long then slice_get all 0 else None) else Some value

  -- `made` and `handed` are what a push does to the list and answers
  made_of : (takes long : Bool) → takes_in q ≡ takes → nat_lt q.capacity (length all) ≡ long
      → (pushed_over q value ≡ made takes long) × (handed_back q value ≡ handed takes long)
  made_of takes long takes_it long_it = (λ i. made (takes_it i) (long_it i), λ i. handed (takes_it i) (long_it i))

module _ (capacity : ℕ) where
  -- the number that stands at the position
  abbrev number_at : List ℕ → ℕ → ℕ
  number_at words p = value_at number_of 1 (capacity + 1) words p

  -- ---- the words of a push

  module _ (value : ℕ) where
    -- the push, run alone from these words, ends within n steps with this end, this last room
    -- and these last words
    abbrev PushEnds : ℕ → PushEnd → OneWord → List ℕ → Push → OneWord → List ℕ → Type 0
    PushEnds n end last_room last call room words =
        EndsIn push_want (λ c given old. push_after c old) push_kept value n end last_room last call room words

    -- with capacity 0 a push hands its own value back within one step, and the words stay
    hands_back : (room : OneWord) (words : List ℕ) → capacity ≡ 0
        → PushEnds 1 Own room words (first_push capacity) room words
    hands_back = grind (arith, by_eq)

    -- at the last position a push hands its own value back within one step, and the words stay
    no_position : (room : OneWord) (words : List ℕ) → capacity ≢ 0 → slice_index words 0 ≡ 2 ^ 64 - 1
        → PushEnds 1 Own room words (first_push capacity) room words
    no_position = grind (arith, by_eq)

    module _ (room : OneWord) (words : List ℕ) where
      -- the write position
      abbrev w : ℕ
      w = slice_index words 0

      -- the read position
      abbrev r : ℕ
      r = slice_index words 1

      -- the words with the value in the write position's cell
      abbrev cells : List ℕ
      cells = slice_set words (cell_word capacity w) value

      -- those words with the write position moved
      abbrev stored : List ℕ
      stored = slice_set cells 0 (after_position w)

      -- those words with the read position moved too
      abbrev moved : List ℕ
      moved = slice_set stored 1 (after_position r)

      -- the room with the oldest value
      abbrev oldest : OneWord
      oldest = record { 0 = slice_index moved (cell_word capacity r) }

      -- where fewer than the capacity wait, a push ends within four steps, and the read position stays
      adds : capacity ≢ 0 → w ≢ 2 ^ 64 - 1 → distance w r ≢ capacity
          → PushEnds 4 Added room stored (first_push capacity) room words
      adds = grind (arith, by_eq)

      -- where as many as the capacity wait, a push ends within six steps with the oldest value in its room
      replaces : capacity ≢ 0 → w ≢ 2 ^ 64 - 1 → distance w r ≡ capacity → slice_index stored 1 ≡ r
          → PushEnds 6 Oldest oldest moved (first_push capacity) room words
      replaces = grind (arith, eq-eqb, by_eq)

    -- ---- what it makes of the list

    -- from these words the push has done what a push does to the list, with this end, room
    -- and these last words
    abbrev pub Pushed : List ℕ → PushEnd → OneWord → List ℕ → Type 0
    Pushed words end room last =
        BehavesAs (Represents capacity) (list_in capacity) (λ q. handed_back q value)
        (λ q. pushed_over q value) words (push_answer value room.0 end) last

    -- where the list takes no value in, the value itself with the words as they were is what a push does
    stays_out : (room : OneWord) (words : List ℕ) → Represents capacity words
        → takes_in (list_in capacity words) ≡ false → Pushed words Own room words
    stays_out = grind (arith, made_of, false)

    module _ (room : OneWord) (words : List ℕ) (fits : Represents capacity words) (some : capacity ≢ 0)
        (position : slice_index words 0 ≢ 2 ^ 64 - 1) where
      -- the write position
      abbrev wp : ℕ
      wp = slice_index words 0

      -- the read position
      abbrev rp : ℕ
      rp = slice_index words 1

      -- the words once the value is stored and the write position has moved
      abbrev kept : List ℕ
      kept = stored room words

      -- the numbers that wait before the push
      abbrev waiting : List ℕ
      waiting = numbers_from capacity words rp (wp - rp)

      -- as many numbers wait as the read position is behind the write position
      waits : length waiting ≡ wp - rp
      waits = values_length number_of 1 (capacity + 1) words rp (wp - rp)

      -- the write position has a cell
      low : wp % (capacity + 1) < capacity + 1
      low = omega arith

      -- the next write position does not wrap
      next_is : after_position wp ≡ wp + 1
      next_is = omega (arith, position, fits.fits)

      -- the store of the number leaves the length
      cells_long : length (cells room words) ≡ length words
      cells_long = length-set words (cell_word capacity wp) value

      -- the write position is one more
      write_is : slice_index kept 0 ≡ wp + 1
      write_is = grind (arith, cells_long, get_or-set_same, next_is)

      -- each word stays, except the write position and the word of its cell
      kept_word : (j : ℕ) → j ≢ 0 → j ≢ cell_word capacity wp → slice_index kept j ≡ slice_index words j
      kept_word = grind (arith, get_or-set_other)

      -- the read position stays
      read_is : slice_index kept 1 ≡ rp
      read_is = kept_word 1 (λ e. absurd (omega arith)) (λ e. absurd (omega arith))

      -- the words have the length of a queue of this capacity
      kept_long : length kept ≡ 5 + capacity
      kept_long = length-set (cells room words) 0 (after_position wp) ∙ (cells_long ∙ fits.long)

      -- the number that stands at the write position is the value
      own : number_at kept wp ≡ value
      own = grind (arith, get_or-set_other, get_or-set_same, low)

      -- the positions that waited keep their numbers
      kept_number : (p : ℕ) → rp ≤ p → p < wp → number_at kept p ≡ number_at words p
      kept_number p from below =
          let near = fits.near in
          let apart = cells_apart (capacity + 1) 1 p wp below (omega arith) in
          kept_word (4 + 1 * (p % (capacity + 1))) (λ e. absurd (omega arith))
          (λ e. ⊎_elim (λ h. absurd (omega arith)) (λ h. absurd (omega arith)) apart)

      -- the numbers that wait with the push's are those that waited, and the value
      all_kept : numbers_from capacity kept rp (suc (wp - rp)) ≡ waiting ++ value ∷ []
      all_kept = grind (arith, values_same, number_of, kept_number, own, values_more)

      -- the list takes the value in
      takes : takes_in (list_in capacity words) ≡ true
      takes = grind (arith, waits, length, false, ne_eqb, nat_tests)

      -- the list with the value at its end is one longer than what waits
      length_is : length (waiting ++ value ∷ []) ≡ wp - rp + 1
      length_is = omega (arith, waits, length-append waiting (value ∷ []))

      -- ---- fewer than the capacity wait

      module _ (near : wp - rp < capacity) where
        -- where fewer than the capacity wait, a push that keeps the read position has done what a push does
        -- to the list
        added : Pushed words Added room kept
        added =
            let behind = fits.behind in
            let f = fits.fits in
            let a = write_is in
            let b = read_is in
            let n = waits in
            let long = length_is in
            -- the list with the value at its end is not longer than the capacity, so all of it stays
            let short : nat_lt capacity (length (waiting ++ value ∷ [])) ≡ false = grind (arith, nat_tests, near, long) in
            let m = made_of value (list_in capacity words) true false takes short in
            let many : slice_index kept 0 - slice_index kept 1 ≡ suc (wp - rp) = omega arith in
            let first : slice_index kept 1 ≡ rp + (length waiting + 1 - capacity) = omega arith in
            -- the cells between the positions hold the list with the value at its end
            let values : numbers_from capacity kept (slice_index kept 1) (slice_index kept 0 - slice_index kept 1) ≡ waiting ++ value ∷ [] =
            (λ i. numbers_from capacity kept (b i) (many i)) ∙ all_kept in (
              record { long = kept_long; small = fits.small; behind = omega arith; near = omega arith; fits = omega (arith, position) },
              sym m.1,
              (λ i. record { capacity = capacity; first = first i; values = values i }) ∙ sym m.0,
            )

      -- ---- as many as the capacity wait

      module _ (full : wp - rp ≡ capacity) where
        -- the words once the read position has moved too
        abbrev last : List ℕ
        last = moved room words

        -- the read position is one more
        read_moves : slice_index last 1 ≡ rp + 1
        read_moves = grind (arith, kept_long, get_or-set_same)

        -- each other word is as before the read position moved
        moved_word : (j : ℕ) → j ≢ 1 → slice_index last j ≡ slice_index kept j
        moved_word j other = get_or-set_other kept 1 j (after_position rp) 0 other

        -- the cells hold what they held before the read position moved
        moved_number : (p : ℕ) → number_at last p ≡ number_at kept p
        moved_number p = moved_word (4 + 1 * (p % (capacity + 1))) (λ e. absurd (omega arith))

        -- the word that the push loads last is the oldest number
        oldest_is : slice_index last (cell_word capacity rp) ≡ number_at words rp
        oldest_is =
            let place : cell_word capacity rp ≡ 4 + 1 * (rp % (capacity + 1)) = omega arith in
            ap (slice_index last) place ∙ (moved_number rp ∙ kept_number rp (omega arith) (omega (arith, some)))

        -- the front of the list with the value at its end is the oldest number
        head : (m : ℕ) → wp - rp ≡ suc m → slice_get (waiting ++ value ∷ []) 0 ≡ Some (number_at words rp)
        head = grind arith

        -- where as many as the capacity wait, a push that moves the read position and reads the oldest number
        -- has done what a push does to the list
        replaced : Pushed words Oldest (oldest room words) last
        replaced =
            let behind = fits.behind in
            let f = fits.fits in
            let a = write_is in
            let a₂ = moved_word 0 (λ e. absurd (omega arith)) in
            let b = read_moves in
            let n = waits in
            let length_now = length_is in
            -- the list with the value at its end is longer than the capacity, so its first number goes out
            let long : nat_lt capacity (length (waiting ++ value ∷ [])) ≡ true = grind (arith, nat_tests, full, length_now) in
            let m = made_of value (list_in capacity words) true true takes long in
            let many : slice_index last 0 - slice_index last 1 ≡ wp - rp = omega arith in
            let first : slice_index last 1 ≡ rp + (length waiting + 1 - capacity) = omega arith in
            -- between the positions the cells hold what they held before the read position moved
            let same : numbers_from capacity last (rp + 1) (wp - rp) ≡ numbers_from capacity kept (rp + 1) (wp - rp) =
            values_same number_of 1 (capacity + 1) last kept (rp + 1) (wp - rp) (λ p from below. moved_number p) in
            let values : numbers_from capacity last (slice_index last 1) (slice_index last 0 - slice_index last 1) ≡ drop 1 (waiting ++ value ∷ []) =
            (λ i. numbers_from capacity last (b i) (many i)) ∙ (same ∙ ap (drop 1) all_kept) in (
              -- the words are those of a queue, the push answers the oldest number, and the
              -- list is without it
              record {
                long = length-set kept 1 (after_position rp) ∙ kept_long;
                small = fits.small;
                behind = omega arith;
                near = omega arith;
                fits = omega (arith, position);
              },
              ap Some oldest_is ∙ (sym (head (wp - rp - 1) (omega (arith, some))) ∙ sym m.1),
              (λ i. record { capacity = capacity; first = first i; values = values i }) ∙ sym m.0,
            )

    -- the push, run alone from these words, ends and has done what a push does to the list
    abbrev pub PushRuns : Push → OneWord → List ℕ → Type 0
    PushRuns call room words = Runs push_want (λ c given old. push_after c old) push_kept value (Pushed words) call room words

    -- A push that has taken no step does what a push does to the list. The cases are whether the capacity is
    -- 0, whether there is a position, and whether fewer than the capacity wait.
    runs_first : (room : OneWord) (words : List ℕ) → Represents capacity words → PushRuns (first_push capacity) room words
    runs_first room words fits =
        let wp = slice_index words 0 in
        let rp = slice_index words 1 in
        let behind = fits.behind in
        let n = values_length number_of 1 (capacity + 1) words rp (wp - rp) in
        dite (ℕ_discrete capacity 0)
        -- the capacity is 0: the push hands its own value back and stores nothing
        (λ none. record {
          steps = 1;
          few = omega arith;
          end = Own;
          last_room = room;
          last_words = words;
          ends = hands_back room words none;
          holds =
              stays_out room words fits
              (let b : nat_lt 0 capacity ≡ false = grind (arith, nat_tests, none) in
              ap (λ b. b && not (rp + length (numbers_from capacity words rp (wp - rp)) == 2 ^ 64 - 1)) b);
        })
        (λ some. dite (ℕ_discrete wp (2 ^ 64 - 1))
        -- the write position is at its end: the push hands its own value back and stores nothing
        (λ e. record {
          steps = 1;
          few = omega arith;
          end = Own;
          last_room = room;
          last_words = words;
          ends = no_position room words some e;
          holds = stays_out room words fits
              (let c : 0 < capacity = omega (arith, some) in
              let tests_below : nat_lt 0 capacity ≡ true = grind (arith, nat_tests, c) in
              let tests_same : (rp + length (numbers_from capacity words rp (wp - rp)) == 2 ^ 64 - 1) ≡ true = eq-eqb _ _ (omega arith) in
              λ i. tests_below i && not (tests_same i));
        })
        (λ position. ⊎_elim
        -- fewer than the capacity wait: the push adds its value
        (λ (near : wp - rp < capacity). record {
          steps = 4;
          few = omega arith;
          end = Added;
          last_room = room;
          last_words = stored room words;
          ends = adds room words some position (λ e. absurd (omega (arith, fits.fits)));
          holds = added room words fits some position near;
        })
        -- as many as the capacity wait: the push adds its value and takes the oldest number out
        (λ (far : capacity ≤ wp - rp).
        let close = fits.near in
        let f = fits.fits in
        let full : wp - rp ≡ capacity = omega arith in
        record {
          steps = 6;
          few = omega arith;
          end = Oldest;
          last_room = oldest room words;
          last_words = moved room words;
          ends = replaces room words some position (omega arith) (read_is room words fits some position);
          holds = replaced room words fits some position full;
        })
        (cases_lt (wp - rp) capacity)))

    -- a push, run alone, does what a push does to the list
    pub push_runs : (call : Push) → call ≡ first_push capacity → (room : OneWord) (words : List ℕ)
        → Represents capacity words → PushRuns call room words
    push_runs = grind (arith, runs_first)

  -- ---- pop

  -- the pop, run alone from these words, ends within n steps with this end, this last room
  -- and these last words
  abbrev PopEnds : ℕ → Bool → OneWord → List ℕ → Pop → OneWord → List ℕ → Type 0
  PopEnds n end last_room last call room words =
      EndsIn (λ c (given : Unit {0}). pop_want c) (λ c given old. pop_after c old) pop_kept tt n end last_room last call room words

  -- from these words the pop has done what a pop does to the list, with this end, room and these last words
  abbrev pub Popped : List ℕ → Bool → OneWord → List ℕ → Type 0
  Popped words end room last =
      BehavesAs (Represents capacity) (list_in capacity) front popped words (pop_answer room.0 end) last

  -- the pop, run alone from these words, ends and has done what a pop does to the list
  abbrev pub PopRuns : Pop → OneWord → List ℕ → Type 0
  PopRuns call room words =
      Runs (λ (c : Pop) (given : Unit {0}). pop_want c) (λ c given old. pop_after c old) pop_kept tt (Popped words) call room words

  module _ (room : OneWord) (words : List ℕ) where
    -- the write position
    abbrev write : ℕ
    write = slice_index words 0

    -- the read position
    abbrev read : ℕ
    read = slice_index words 1

    -- the words once the read position has moved
    abbrev taken : List ℕ
    taken = slice_set words 1 (after_position read)

    -- the room with the oldest value
    abbrev found : OneWord
    found = record { 0 = slice_index words (cell_word capacity read) }

    -- with capacity 0 a pop ends with None within one step
    no_capacity : capacity ≡ 0 → PopEnds 1 false room words (first_pop capacity) room words
    no_capacity = grind (arith, by_eq, false)

    -- in an empty queue a pop ends with None within two steps
    finds_none : capacity ≢ 0 → write ≡ read → PopEnds 2 false room words (first_pop capacity) room words
    finds_none = grind (arith, by_eq, false)

    -- where something waits a pop ends within four steps with the oldest value in its room
    takes_one : capacity ≢ 0 → write ≢ read → PopEnds 4 true found taken (first_pop capacity) room words
    takes_one = grind (arith, eq-eqb, by_eq)

    -- where the list is empty, None with the words as they were is what a pop does
    stays_empty : Represents capacity words → write ≡ read → Popped words false room words
    stays_empty = grind (arith, min, length, drop)

    -- a pop that moves the read position and reads the oldest value has done what a pop does to the list
    taken_out : (m : ℕ) → write - read ≡ suc m → Represents capacity words → Popped words true found taken
    taken_out = grind (arith, get_or-set_same, get_or-set_other, values_same, number_of, values_length, min, length, drop, length-set)

    -- A pop that has taken no step does what a pop does to the list. The cases are whether the capacity is 0,
    -- and whether the positions are equal.
    pops_first : Represents capacity words → PopRuns (first_pop capacity) room words
    pops_first fits =
        let behind = fits.behind in
        let near = fits.near in
        dite (ℕ_discrete capacity 0)
        -- the capacity is 0: the pop ends at once with nothing
        (λ none. record {
          steps = 1;
          few = omega arith;
          end = false;
          last_room = room;
          last_words = words;
          ends = no_capacity none;
          holds = stays_empty fits (omega arith);
        })
        (λ some. dite (ℕ_discrete write read)
        -- the positions are equal: nothing waits
        (λ e. record {
          steps = 2;
          few = omega arith;
          end = false;
          last_room = room;
          last_words = words;
          ends = finds_none some e;
          holds = stays_empty fits e;
        })
        -- a number waits: the pop takes the oldest one out
        (λ other. record {
          steps = 4;
          few = omega arith;
          end = true;
          last_room = found;
          last_words = taken;
          ends = takes_one some other;
          holds = taken_out (write - read - 1) (omega (arith, other)) fits;
        }))

    -- a pop, run alone, does what a pop does to the list
    pub pop_runs : (call : Pop) → call ≡ first_pop capacity → Represents capacity words → PopRuns call room words
    pop_runs call at_first fits = subst (λ c. PopRuns c room words) (sym at_first) (pops_first fits)
