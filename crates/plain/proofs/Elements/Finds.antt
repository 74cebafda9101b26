-- A find in a container that runs alone, from one value of the owner to the next, or to its end.
use Rattle.std.proofs.Common.{◌≡◌, ℕ, zero, suc, ◌+◌, ◌-◌, ◌^◌, ◌<◌, ◌≤◌, ⊎_elim, true, false, nat_lt, List, [], ◌∷◌}
use Rattle.std.proofs.Common.{length, drop, take, Some, None, refl, sym, ap, subst, ◌∙◌, arith, slice_index, slice_set}
use Rattle.std.proofs.Common.{length-set, eq-eqb, get_or-take, if◌then◌else◌}
use Rattle.std.specs.Prelude.{slice_index_or}
use Rattle.plain.proofs.Names.{cases_Bool, nat_tests, set-get_or, get_or-map, by_test, by_eq, word_at, count_word}
use Rattle.plain.proofs.Names.{element_word, is_even, Want, After, GoOn, Question}
use Rattle.std.proofs.lemmas.List.FromFn.{get_or-map-range_with_len}
use Rattle.steps.specs.Copied.{value_in}
use Rattle.steps.specs.Indices.Robust.Parts.{cell_word, empty, one_more}
use Rattle.steps.specs.Container.Find.{at_find, first_find, find_comes_to, find_want, find_after, find_kept}
use Rattle.steps.specs.declared.ask.Question.TheVariants as questions
use Rattle.steps.specs.declared.container.find.Find.{Find}
use Rattle.steps.specs.declared.container.find.FindStage.{FindStage}
use Rattle.steps.specs.declared.container.find.FindStage.TheVariants as finds
use Rattle.plain_queues.specs.declared.drive.Stop.{Stop}
use Rattle.plain_queues.specs.declared.drive.Stop.TheVariants.{Asked, Ended}
use Rattle.plain_queues.specs.Queues.{words_from}
use Rattle.plain.specs.Contents.{Contents, value_at, contents_in, Represents, Holds}
use Rattle.plain.specs.Visited.{Stands}
use Rattle.plain.proofs.Walks.{plus, Walks, WalksOn, longer}
use Rattle.plain.proofs.Rooms.{with_room, want_both, after_both}
use Rattle.plain_queues.proofs.Words.{Room, read_in, value_read}
use Rattle.plain.proofs.Robust.Parts.{head_or, tail_of, split, here, past, next_cell, owner_some}
use Rattle.plain.proofs.Robust.Finds.{mine, hits, misses}
use Rattle.plain.proofs.Elements.Filled.{IsSome}
use Rattle.plain.proofs.Elements.Values.{front_fits, cell_within, all_small}

-- what a find needs to begin: values of 1 to 128 words, a number that names an owner, and
-- the words of a container
pub record Ready {V : Type 0} (value_of : List ℕ → V) (size capacity container owner : ℕ) (words : List ℕ) : Type 0 where
  pub some : 1 ≤ size
  pub wide : size ≤ 128
  pub lives : owner < empty
  pub holds : Holds value_of size capacity container words

-- ---- the cells and the values that stand there

-- The words are those of a container, whose number is `container`.
module _ {V : Type 0} (value_of : List ℕ → V) {size capacity : ℕ} (container : ℕ) {words : List ℕ}
    (holds : Holds value_of size capacity container words) where
  -- the words are those of a container
  abbrev pub fits : Represents size capacity words
  fits = holds.0

  -- the contents of the words
  abbrev pub old : Contents V
  old = contents_in value_of size capacity container words

  -- the cells of the owners
  abbrev pub cells : List ℕ
  cells = tail_of (take (1 + capacity) words)

  -- the counter of the set
  abbrev pub counter : ℕ
  counter = head_or 0 (take (1 + capacity) words)

  -- the words of the set are its counter and a cell for each index
  front_long : length (take (1 + capacity) words) ≡ 1 + capacity
  front_long = (front_fits value_of size capacity words fits).long

  -- the words of the set are its counter and the cells
  pub front : take (1 + capacity) words ≡ counter ∷ cells
  front = split capacity front_long

  -- there are as many cells as the capacity
  pub cells_long : length cells ≡ capacity
  cells_long =
      let e : suc (length cells) ≡ 1 + capacity = sym (ap length front) ∙ front_long in omega arith

  -- the word of an index's cell is the one at the index among the cells
  pub cell_is : (index : ℕ) → index < capacity → slice_index words (cell_word index) ≡ slice_index cells index
  cell_is = grind (arith, get_or-take, front, next_cell)

  -- the number of an index
  abbrev pub count : ℕ → ℕ
  count index = slice_index words (count_word capacity index)

  -- the first word of an index's value
  abbrev pub cell : ℕ → ℕ
  cell index = element_word capacity size index 0

  -- the contents have at an index the value that the words say
  value_is : (index : ℕ) → index < capacity → slice_index_or old.values index None ≡ value_at value_of size capacity words index
  value_is = grind (arith, get_or-map-range_with_len, value_at)

  -- the contents have at an index the owner that its cell says
  owner_is : (index owner : ℕ) → index < capacity → owner < empty → slice_index cells index ≡ owner
      → slice_index_or old.owners.owners index None ≡ Some owner
  owner_is = grind (arith, cells_long, front, get_or-map, owner_some)

  -- an index with an owner has an odd number, since a value stands there
  pub odd_at : (index owner : ℕ) → index < capacity → owner < empty → slice_index cells index ≡ owner
      → is_even (count index) ≡ false
  odd_at index owner near lives owns =
      ⊎_elim
      (λ (even : is_even (count index) ≡ true).
      absurd (subst IsSome
      (sym (owner_is index owner near lives owns)
      ∙ holds.1 index (value_is index near ∙ ap (λ b. if b then None else Some (value_of (words_from words (cell index) size))) even)) tt))
      (λ odd. odd)
      (cases_Bool (is_even (count index)))

  -- under an odd number the value of the index's words stands there
  pub stands_at : (index : ℕ) → index < capacity → is_even (count index) ≡ false
      → Stands old index (value_of (words_from words (cell index) size))
  stands_at = grind (arith, value_is, words_from)

  -- the words of an index's value lie below 2^64
  pub small_at : (index : ℕ) → index < capacity → size ≤ 128 → cell index + size < 2 ^ 64
  small_at = grind (arith, cell_within, all_small)

-- reading words keeps the length of a room
pub long_read : {R : Type 0} (as_room : Room R) (words : List ℕ) (room : R) (k n at : ℕ)
    → length (as_room.words_in (read_in as_room.with_word room words k at n)) ≡ length (as_room.words_in room)
long_read as_room words room k zero at = refl
long_read as_room words room k (suc n) at =
    long_read as_room words (as_room.with_word room at (slice_index words (word_at k at))) k n (at + 1)
    ∙ (ap length (as_room.put_in room at (slice_index words (word_at k at)))
    ∙ length-set (as_room.words_in room) at (slice_index words (word_at k at)))

-- ---- the walk from one value to the next

-- A find of the owner reads values into a room, in a container that is ready for it.
module _ {V R : Type 0} {value_of : List ℕ → V} (as_room : Room R) {size capacity container owner : ℕ} {words : List ℕ}
    (ready : Ready value_of size capacity container owner words) where
  open as_room use {words_in, with_word}

  -- what the find asks for
  abbrev want : Find V R → ℕ → Want (Unit {0})
  want c given = find_want size c

  -- what the find asks for, of find and room as one
  abbrev pair_want : Find V R × R → Want (Unit {0})
  pair_want = want_both want (find_after size) (find_kept with_word) owner

  -- what an answer makes of find and room as one
  abbrev pair_after : Find V R × R → ℕ → After (Find V R × R) (ℕ × R)
  pair_after = after_both want (find_after size) (find_kept with_word) owner

  -- the find at this stage
  abbrev pub at : FindStage → Find V R
  at stage = at_find (first_find capacity) stage

  -- the number of an index
  abbrev number_at : ℕ → ℕ
  number_at i = slice_index words (count_word capacity i)

  -- the first word of an index's value
  abbrev cell_at : ℕ → ℕ
  cell_at i = element_word capacity size i 0

  -- the cells of the owners
  abbrev pub its_cells : List ℕ
  its_cells = cells value_of container ready.holds

  -- the room once n words of an index's value are read into it
  abbrev after_reading : R → ℕ → ℕ → R
  after_reading room i n = read_in with_word room words (cell_at i) 0 n

  -- the find has stopped at a question about the first of the owner's indices that are left; its room has the
  -- value that stands there, and it has changed no word
  pub record AsksAt (found : ℕ) (left : List ℕ) (question : Question (Unit {0})) (call : Find V R) (room : R) (last : List ℕ) : Type 0 where
    -- the index that is asked about, the cells behind it, and what is left
    pub index : ℕ
    pub rest : List ℕ
    pub left_is : left ≡ index ∷ mine owner (index + 1) rest
    pub rest_is : drop (index + 1) its_cells ≡ rest
    pub low : found ≤ index
    pub near : index < capacity
    -- the question and the stage of the call
    pub asks : question ≡ questions.Value index tt
    pub stands : call ≡ at (finds.Asks index (found + 1))
    -- the value of the index is in the room, which is long enough, and the words are the same
    pub copied : Stands (contents_in value_of size capacity container words) index (value_in value_of size (words_in room))
    pub wide : size ≤ length (words_in room)
    pub same : last ≡ words

  -- the find has ended with this count and nothing is left, or asks about the first of the owner's indices
  -- that are left
  abbrev pub StopsAt : ℕ → List ℕ → Stop (Find V R × R) (ℕ × R) → List ℕ → Type 0
  StopsAt found left (Ended z) last = (left ≡ []) × (z.0 ≡ found) × (last ≡ words)
  StopsAt found left (Asked question z) last = AsksAt found left question z.0 z.1 last

  -- from the stage at which word k is loaded, the find loads the words left, exchanges the number for itself
  -- and asks its question
  reads : (P : Stop (Find V R × R) (ℕ × R) → List ℕ → Type 0) (i found : ℕ) → i < capacity → (n k : ℕ) → k + suc n ≡ size → (room : R)
      → P (Asked (questions.Value i tt) (at (finds.Asks i found), read_in with_word room words (cell_at i) k (suc n))) words
      → Walks pair_want pair_after (suc (suc (suc n))) P (at (finds.LoadsWord i found (number_at i) k), room) words
  reads P i found near zero k end room holds =
      let place : element_word capacity size i k ≡ word_at (cell_at i) k =
      omega (arith, small_at value_of container ready.holds i near ready.wide) in
      let c = count_word capacity i in
      let next = with_word room k (slice_index words (word_at (cell_at i) k)) in
      subst (λ p. WalksOn pair_want pair_after 2 P (with_room (with_word room k (slice_index words p))
      (if nat_lt (k + 1) size then GoOn (at (finds.LoadsWord i found (number_at i) (k + 1))) else GoOn
      (at (finds.ChecksCount i found (number_at i)))))
      words)
      (sym place)
      (by_test (λ a. WalksOn pair_want pair_after 2 P (with_room next a) words) (nat_lt (k + 1) size) _ _
      (λ t. let more : k + 1 < size = grind (arith, nat_tests) in absurd (omega arith))
      (λ t. subst (λ b. WalksOn pair_want pair_after 1 P
      (with_room next (if b then GoOn (at (finds.Asks i found)) else find_comes_to (first_find capacity) (i + 1) found))
      (if b then slice_set words c (number_at i) else words))
      (sym (eq-eqb (number_at i) (number_at i) refl))
      (subst (λ ws. Walks pair_want pair_after 1 P (at (finds.Asks i found), next) ws) (sym (set-get_or words c 0)) holds)))
  reads P i found near (suc n) k end room holds =
      let place : element_word capacity size i k ≡ word_at (cell_at i) k =
      omega (arith, small_at value_of container ready.holds i near ready.wide) in
      let next = with_word room k (slice_index words (word_at (cell_at i) k)) in
      subst (λ p. WalksOn pair_want pair_after (suc (suc (suc n))) P
      (with_room (with_word room k (slice_index words p))
      (if nat_lt (k + 1) size then GoOn (at (finds.LoadsWord i found (number_at i) (k + 1))) else GoOn
      (at (finds.ChecksCount i found (number_at i)))))
      words)
      (sym place)
      (by_test (λ a. WalksOn pair_want pair_after (suc (suc (suc n))) P (with_room next a) words) (nat_lt (k + 1) size) _ _
      (λ t. reads P i found near n (k + 1) (omega arith) next holds)
      (λ t. let less : size ≤ k + 1 = grind (arith, nat_tests) in absurd (omega arith)))

  -- the greatest number of steps at one value
  abbrev pub each : ℕ
  each = suc (suc (suc (suc (size - 1))))

  -- at an index whose cell has the owner, the find reads the value and asks about that index
  hit : (i found : ℕ) {rest left : List ℕ} → i < capacity → found ≤ i → slice_index its_cells i ≡ owner → drop (i + 1) its_cells ≡ rest
      → left ≡ i ∷ mine owner (i + 1) rest → (room : R) → size ≤ length (words_in room)
      → Walks pair_want pair_after each (StopsAt found left) (at (finds.LoadsCount i (one_more found)), room) words
  hit i found {rest} {left} near low owns rest_is left_is room long =
      -- the number of the value is odd, so a value stands at the index and the find reads it
      let odd = odd_at value_of container ready.holds i owner near ready.lives owns in
      let all : size ≡ suc (size - 1) = omega (arith, ready.some) in
      let small = small_at value_of container ready.holds i near ready.wide in
      let few = ready.holds.0.few in
      let more : one_more found ≡ found + 1 = omega arith in
      subst (λ b. WalksOn pair_want pair_after (suc (suc (suc (size - 1)))) (StopsAt found left)
      (with_room room (if b then find_comes_to (first_find capacity) (i + 1) (one_more found) else GoOn
      (at (finds.LoadsWord i (one_more found) (number_at i) 0))))
      words)
      (sym odd)
      -- after the loads of the value's words the find asks about the index
      (reads (StopsAt found left) i (one_more found) near (size - 1) 0 (omega arith) room
      (subst (λ n. StopsAt found left
      (Asked (questions.Value i tt) (at (finds.Asks i (one_more found)), after_reading room i n))
      words)
      all
      (record {
        index = i;
        rest = rest;
        left_is = left_is;
        rest_is = rest_is;
        low = low;
        near = near;
        asks = refl;
        stands = ap (λ n. at (finds.Asks i n)) more;
        -- the value that was read is the one that stands at the index
        copied = stands_at value_of container ready.holds i near odd
            ∙ ap Some (sym (value_read value_of size as_room room words (cell_at i) long (omega arith)));
        wide = subst (λ n. size ≤ n) (sym (long_read as_room words room (cell_at i) size 0)) long;
        same = refl;
      })))

  -- the find has come to this index with this count, and these cells and these indices of the owner are left
  pub record ComesTo (index found : ℕ) (rest left : List ℕ) : Type 0 where
    pub rest_is : drop index its_cells ≡ rest
    pub low : found ≤ index
    pub left_is : left ≡ mine owner index rest

  -- From this index on, with these cells left, the find stops at the owner's next index or at its end. The
  -- cases are whether a cell is left, and whether it has the owner.
  pub finds_on : (rest : List ℕ) (index found : ℕ) {left : List ℕ} → ComesTo index found rest left → (room : R) → size ≤ length (words_in room)
      → WalksOn pair_want pair_after (plus (suc (length rest)) each) (StopsAt found left)
      (with_room room (find_comes_to (first_find capacity) index found)) words
  finds_on [] index found {left} comes room long =
      let far = past its_cells index comes.rest_is in
      let size_is = cells_long value_of container ready.holds in
      by_test (λ a. WalksOn pair_want pair_after (suc each) (StopsAt found left) (with_room room a) words) (nat_lt index capacity) _ _
      (λ t. let near : index < capacity = grind (arith, nat_tests) in absurd (omega arith))
      (λ _. (comes.left_is, refl, refl))
  finds_on (c ∷ rest) index found {left} comes room long =
      let there = here its_cells index c rest comes.rest_is in
      let low = comes.low in
      let size_is = cells_long value_of container ready.holds in
      let below = there.near in
      let near : index < capacity = omega arith in
      let word = cell_is value_of container ready.holds index near ∙ there.word_is in
      by_test (λ a. WalksOn pair_want pair_after (suc (suc (plus (length rest) each))) (StopsAt found left) (with_room room a) words)
      (nat_lt index capacity) _ _
      (λ _. by_eq (λ a. WalksOn pair_want pair_after (suc (plus (length rest) each)) (StopsAt found left) (with_room room a) words)
      (slice_index words (cell_word index)) owner _ _
      (λ e. longer pair_want pair_after (suc (length rest)) each (StopsAt found left) (at (finds.LoadsCount index (one_more found)), room) words
      (hit index found near low (there.word_is ∙ (sym word ∙ e)) there.rest_is (comes.left_is ∙ hits owner index c rest ready.lives (sym word ∙ e)) room long))
      (λ n. finds_on rest (index + 1) found
      (record { rest_is = there.rest_is; low = omega arith; left_is = comes.left_is ∙ misses owner index c rest (λ e. n (word ∙ e)) }) room long))
      (λ t. let far : capacity ≤ index = grind (arith, nat_tests) in absurd (omega arith))
