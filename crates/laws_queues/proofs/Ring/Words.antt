-- The words of the front value, which a pop and a peek of a bounded queue load one after another.
use Rattle.laws_queues.proofs.Names.{◌≡◌, ℕ, suc, ◌+◌, ◌*◌, ◌%◌, ◌^◌, ◌<◌, ◌≤◌, ◌==◌, true, false, ◌||◌, List, [], ◌∷◌}
use Rattle.laws_queues.proofs.Names.{length, get_or, set, take, refl, sym, ap, ◌∙◌, length-set, nat_tests}
use Rattle.laws_queues.proofs.Names.{nil_from_length, value_in, Roles, Coding, IsCoding}
use Rattle.std.proofs.Common.{arith}
use Rattle.steps.specs.declared.queues.ring.PopStage.{PopStage}
use Rattle.steps.specs.declared.queues.ring.PopStage.TheVariants as pops
use Rattle.steps.specs.Queues.Ring.{cell_word}
use Rattle.laws_queues.proofs.Queues.Core.{Core, Good, one_more, front, word_at}
use Rattle.laws_queues.proofs.Queues.Knows.{free, layout}
use Rattle.laws_queues.proofs.Queues.Stages.{or_true, cell_asked, asked_place}
use Rattle.laws_queues.proofs.Queues.Values.{Val, encoded}
use Rattle.laws_queues.proofs.Ring.Kinds.{Ring, kind_of, Room, words_in, with_word, put_in, are_words}
use Rattle.laws_queues.proofs.Ring.Knows.{KnowsPop}

-- a list that agrees with `ys` word by word begins with `ys`
pub same_words : (xs ys : List ℕ) → length ys ≤ length xs → ((i : ℕ) → i < length ys → get_or xs i 0 ≡ get_or ys i 0) → take (length ys) xs ≡ ys
same_words xs [] long each = refl
same_words [] (y ∷ ys) long each = absurd (omega arith)
same_words (x ∷ xs) (y ∷ ys) long each =
    let first : x ≡ y = each 0 (omega arith) in
    let rest : take (length ys) xs ≡ ys = same_words xs ys (omega arith) (λ i below. each (suc i) (omega arith)) in
    rw (first, rest) refl

-- the value in a room whose first words are those of `v` is `v`
module _ {V : Type 0} {en : Coding V} (law : IsCoding en) where
  -- a room that has the words of an element is read as this element
  room_value : (room : List ℕ) (v : V) → en.size ≤ length room
      → ((i : ℕ) → i < en.size → get_or room i 0 ≡ get_or (en.words_of v) i 0) → value_in en.value_of en.size room ≡ v
  room_value = grind (arith, length, false, take, same_words, nat_tests)

-- the two positions tell whether something waits
module _ {V : Type 0} {size : ℕ} {words_of : V → List ℕ} {c : ℕ} {k : Core V} (good : Good size words_of c k) where
  -- where the code finds the queue empty, nothing waits
  pub none_waits : (c == 0 || k.write == k.read) ≡ true → k.waiting ≡ []
  none_waits = grind (arith, length, nil_from_length, or_true, nat_tests)

  -- where the code does not find the queue empty, something waits
  pub some_waits : (c == 0 || k.write == k.read) ≡ false → 0 < length k.waiting
  some_waits = grind arith

-- a pop or a peek loads the front value of the queue `k`, word by word, into its room
module _ {T : Type 0} {en : Coding T} (r : Ring) (law : IsCoding en) {c : ℕ} (ro : Roles) {k : Core (Val T (kind_of r))} (fits : c < 2 ^ 32)
    (good : Good (encoded en (kind_of r)).size (encoded en (kind_of r)).words_of c k) (room : Room r) where
  abbrev size : ℕ
  size = (encoded en (kind_of r)).size

  abbrev words_of : Val T (kind_of r) → List ℕ
  words_of = (encoded en (kind_of r)).words_of

  -- what the pop knows at a stage, with this room
  abbrev PopKnows : Room r → PopStage → Type 0
  PopKnows there stage = KnowsPop (encoded en (kind_of r)) c k (words_in r there) stage

  -- the stage at which the pop loads the word `i` of the cell
  abbrev loads_cell : ℕ → PopStage
  loads_cell i = pops.LoadsCell k.read (cell_word c size k.read) i

  -- words of an element are of a coding in either kind of bounded queue
  lawful : IsCoding (encoded en (kind_of r))
  lawful = are_words en r law

  -- the load of the `i`th word of the front value, where the room has the words before it
  module _ (i : ℕ) (known : PopKnows room (loads_cell i)) where
    -- the room has at least as many words as an element
    long : size ≤ length (words_in r room)
    long = known.0

    abbrev v : Val T (kind_of r)
    v = known.1

    abbrev rest : List (Val T (kind_of r))
    rest = known.2

    -- what waits is the oldest element and then those behind it
    is : k.waiting ≡ v ∷ rest
    is = known.4

    -- the word is one of the element's
    below : i < size
    below = known.6

    -- the word that the step loads
    abbrev old : ℕ
    old = get_or (layout ro k) (cell_asked size c k.read i) 0

    -- what the load finds in the cell is the `i`th word of the front value
    old_is : old ≡ get_or (words_of v) i 0
    old_is =
        let few = good.few in
        let short = lawful.few in
        let shorter : length k.waiting ≡ suc (length rest) = ap length is in
        let place = asked_place size c k.read i (omega arith) fits short below in
        word_at k.write k.read (free ro.producer) (free ro.consumer) k.cells (cell_asked size c k.read i) (size * (k.read % c) + i) place
        ∙ front good is i below

    -- the room with the loaded word in its place
    abbrev next : Room r
    next = with_word r room i old

    -- the words of the next room are those of the room with the loaded word set
    put : words_in r next ≡ set (words_in r room) i old
    put = put_in r room i old

    -- the room has at least as many words as an element
    wide : size ≤ length (words_in r next)
    wide = grind (arith, length, put, length-set)

    -- with the word that was loaded, the room has one more word of the front value
    each : (j : ℕ) → j < i + 1 → get_or (words_in r next) j 0 ≡ get_or (words_of v) j 0
    each j low =
        ap (λ xs. get_or xs j 0) put
        ∙ one_more (λ n. n) (words_in r room) (words_of v) i old (λ n h e. absurd (omega arith)) (omega arith) old_is known.7 j low

    -- where more words follow, the pop knows what its next load needs
    pub loads_more : i + 1 < size → PopKnows next (loads_cell (i + 1))
    loads_more further = (wide, v, rest, refl, is, refl, further, each)

    -- where it was the last word, the room has the front value, and the pop goes on to
    -- store the read position
    pub loads_last : size ≡ i + 1 → PopKnows next (pops.StoresRead k.read)
    loads_last last =
        let value : value_in (encoded en (kind_of r)).value_of size (words_in r next) ≡ v =
        room_value lawful (words_in r next) v wide (λ j low. each j (omega arith)) in
        (rest, refl, is ∙ ap (λ x. x ∷ rest) (sym value))
