-- The values in the words of a container: what hiding, storing and showing the value of one index does to the
-- words and to the contents.
use Rattle.std.proofs.Common.{◌≡◌, ◌≢◌, ℕ, zero, suc, ◌+◌, ◌*◌, ◌%◌, ◌^◌, ◌<◌, ◌≤◌, ◌⊎◌, inl, inr, true, false}
use Rattle.std.proofs.Common.{List, length, take, Option, Some, None, refl, sym, ap, subst, ◌∙◌, arith, slice_index}
use Rattle.std.proofs.Common.{slice_set, get_or-set_same, get_or-set_other, get_or-take, length-set, length-take-le}
use Rattle.std.proofs.Common.{eq-eqb, ne_eqb, if◌then◌else◌, true≢false}
use Rattle.plain.proofs.Names.{mul-le-mul_left, take-set-le, by_test, change_word, count_word, element_word, is_even}
use Rattle.plain.proofs.Names.{word_at}
use Rattle.std.proofs.lemmas.List.FromFn.{get_or-map-range_with_len}
use Rattle.steps.specs.Indices.Robust.Parts.{one_more}
use Rattle.plain_queues.specs.Queues.{words_from}
use Rattle.plain.specs.Robust as robust
use Rattle.plain.specs.Robust.{owners_in}
use Rattle.plain.specs.Contents.{count_without, count_with, changed, value_at, values_in, counts_in, contents_in, Represents}
use Rattle.plain.proofs.Fronts.{Behind}
use Rattle.plain.proofs.Places.Flags.{map_same, map_changed}
use Rattle.plain_queues.proofs.Words.{words_same, words_all, stored, stored_length, stored_other, stored_words}

-- How values are stored: the words of a value, and the value of words, which gives each value back from its words; a value has 1 to 128 words.
pub record Codes (V : Type 0) : Type 0 where
  pub words_of : V → List ℕ
  pub value_of : List ℕ → V
  pub size : ℕ
  pub sized : (x : V) → length (words_of x) ≡ size
  pub given_back : (x : V) → value_of (words_of x) ≡ x
  pub some : 1 ≤ size
  pub wide : size ≤ 128

-- the values of a type are stored as `Codes` says, where the type has these laws
abbrev pub codes_by : {V : Type 0} {words_of : V → List ℕ} (value_of : List ℕ → V) {size : ℕ} → ((x : V) → length (words_of x) ≡ size)
    → ((x : V) → value_of (words_of x) ≡ x) → 1 ≤ size → size ≤ 128 → Codes V
codes_by {V} {words_of} value_of {size} sized given_back some wide =
    record { words_of = words_of; value_of = value_of; size = size; sized = sized; given_back = given_back; some = some; wide = wide }

-- the values of two indices lie apart
pub apart : (size i j : ℕ) → i < j → size * i + size ≤ size * j
apart = grind (arith, mul-le-mul_left)

-- a number is even or odd
two : (n : ℕ) → (n % 2 ≡ 0) ⊎ (n % 2 ≡ 1)
two = grind (arith, inl, inr)

-- the number after an odd one is even
odd_next : (n : ℕ) → is_even n ≡ false → is_even (one_more n) ≡ true
odd_next = grind (arith, true≢false, eq-eqb, one_more, two)

-- the number after an even one is odd
even_next : (n : ℕ) → is_even n ≡ true → is_even (one_more n) ≡ false
even_next = grind (arith, ne_eqb, true≢false, two)

-- a store of words leaves the first few words of the list, if they all lie before it
stored_front : (ws : List ℕ) (k : ℕ) (xs : List ℕ) (at n m : ℕ) → k + at + n < 2 ^ 64 → m ≤ k + at
    → take m (stored ws k xs at n) ≡ take m ws
stored_front ws k xs at zero m small low = refl
stored_front ws k xs at (suc n) m small low =
    stored_front (slice_set ws (word_at k at) (slice_index xs at)) k xs (at + 1) n m (omega arith) (omega arith)
    ∙ take-set-le m ws (word_at k at) (slice_index xs at) (omega arith)

module _ {V : Type 0} (value_of : List ℕ → V) (size capacity : ℕ) where
  -- the first words of a container are those of a robust set
  pub front_fits : (words : List ℕ) → Represents size capacity words → robust.Represents capacity (take (1 + capacity) words)
  front_fits words fits =
      let long = fits.long in
      record {
        long = length-take-le (1 + capacity) words (omega arith);
        some = fits.some;
        few = fits.few;
        small = subst (λ w. w < 2 ^ 64) (sym (get_or-take (1 + capacity) words 0 0 (omega arith))) fits.small;
      }

  -- an index with the same number and the same words of its value has the same value
  pub value_same : (ws vs : List ℕ) (i : ℕ) → slice_index vs (count_word capacity i) ≡ slice_index ws (count_word capacity i)
      → ((j : ℕ) → element_word capacity size i 0 ≤ j → j < element_word capacity size i 0 + size → slice_index vs j ≡ slice_index ws j)
      → value_at value_of size capacity vs i ≡ value_at value_of size capacity ws i
  value_same = grind (arith, words_same)

  -- ---- only the set has changed

  -- where only words of the set have changed, all values stay
  pub behind_values : (ws vs : List ℕ) → Behind (1 + capacity) ws vs
      → values_in value_of size capacity vs ≡ values_in value_of size capacity ws
  behind_values = grind (arith, map_same, value_at, value_same)

  -- where only words of the set have changed, the contents are those before with the owners of the new words
  pub behind_contents : (container : ℕ) (ws vs : List ℕ) → Behind (1 + capacity) ws vs
      → contents_in value_of size capacity container vs
      ≡ record (contents_in value_of size capacity container ws) { owners = owners_in (take (1 + capacity) vs) }
  behind_contents = grind (arith, behind_values, map_same, take)

  -- words of which only those of the set have changed are those of a container, if the new ones of the set
  -- are those of a set
  pub behind_fits : (ws vs : List ℕ) → Behind (1 + capacity) ws vs → Represents size capacity ws
      → robust.Represents capacity (take (1 + capacity) vs) → Represents size capacity vs
  behind_fits ws vs behind fits front =
      record {
        long = behind.long ∙ fits.long;
        some = fits.some;
        few = fits.few;
        small = subst (λ w. w < 2 ^ 64) (get_or-take (1 + capacity) vs 0 0 (omega arith)) front.small;
      }

-- ---- the value of one index changes

-- A call is to change the value at one index of a container over these words.
module _ {V : Type 0} (value_of : List ℕ → V) {size capacity : ℕ} {words : List ℕ} (fits : Represents size capacity words)
    (index : ℕ) (near : index < capacity) (wide : size ≤ 128) where
  -- the word of the index's number
  abbrev count_at : ℕ
  count_at = count_word capacity index

  -- the first word of the index's value
  abbrev cell : ℕ
  cell = element_word capacity size index 0

  -- the value lies within the words
  pub cell_within : cell + size ≤ length words
  cell_within = omega (arith, apart size index capacity near, fits.long)

  -- the number lies within the words
  within : count_at < length words
  within = omega (arith, fits.long)

  -- there are fewer than 2^64 words
  pub all_small : length words < 2 ^ 64
  all_small = grind (arith, mul-le-mul_left)

  -- between `words` and `later` only the number and the words of this index's value have changed: the set,
  -- the number of changes and the other indices are as before
  pub record Writes (later : List ℕ) : Type 0 where
    pub long : length later ≡ length words
    pub front : take (1 + capacity) later ≡ take (1 + capacity) words
    pub changes : slice_index later (change_word capacity) ≡ slice_index words (change_word capacity)
    pub others : (j : ℕ) → j < capacity → j ≢ index
        → value_at value_of size capacity later j ≡ value_at value_of size capacity words j
    pub counts : (j : ℕ) → j < capacity → j ≢ index
        → slice_index later (count_word capacity j) ≡ slice_index words (count_word capacity j)

  -- the index has this value or none in `later`, under the number that it gets with that
  abbrev pub Stands : List ℕ → Option V → Type 0
  Stands later o =
      (value_at value_of size capacity later index ≡ o)
      × (slice_index later count_at ≡ count_with o (slice_index words count_at))

  -- ---- the value is hidden

  -- the words with an even number of this index: raised by one where it was odd
  abbrev pub hidden : List ℕ
  hidden =
      if is_even (slice_index words count_at)
      then words
      else slice_set words count_at (one_more (slice_index words count_at))

  -- only this index has changed, and its number is the even one under which no value stands
  pub record Hides (later : List ℕ) : Type 0 where
    pub writes : Writes later
    pub even : is_even (slice_index later count_at) ≡ true
    pub count : slice_index later count_at ≡ count_without (slice_index words count_at)

  -- to make the number of this index even hides its value
  pub hides : Hides hidden
  hides = grind (arith, by_test, one_more, get_or-set_same, within, length-set, take-set-le, get_or-set_other, value_same, odd_next)

  -- ---- another value is stored and shown

  module _ (xs : List ℕ) {value : V} (sized : length xs ≡ size) (is : value_of xs ≡ value) where
    -- the hidden words with the words xs in the index's value
    abbrev pub filled : List ℕ
    filled = stored hidden cell xs 0 size

    -- those words with 1 added to the number of the index
    abbrev pub shown : List ℕ
    shown = slice_set filled count_at (one_more (slice_index filled count_at))

    -- the store of the words leaves the length
    filled_long : length filled ≡ length words
    filled_long = stored_length hidden cell xs 0 size ∙ hides.writes.long

    -- the places of the value's words do not wrap
    small : cell + 0 + size < 2 ^ 64
    small = omega (arith, cell_within, all_small)

    -- words before and behind the cell stay as they are
    fills_not : (j : ℕ) → (j < cell) ⊎ (cell + size ≤ j) → slice_index filled j ≡ slice_index hidden j
    fills_not = grind (arith, stored_other, small, inl, inr)

    -- the number is one more than the hidden one
    count_is : slice_index shown count_at ≡ one_more (slice_index hidden count_at)
    count_is = grind (arith, filled_long, within, get_or-set_same, one_more, fills_not, inl)

    -- the index's value then has the words xs
    words_are : words_from shown cell size ≡ xs
    words_are =
        let h = hides.writes.long in let w = cell_within in
        let at : words_from filled cell size ≡ xs =
        subst (λ k. words_from filled k size ≡ xs) (let e : cell + 0 ≡ cell = omega arith in e)
        (stored_words hidden cell xs 0 size small (omega arith)
        ∙ subst (λ n. words_from xs 0 n ≡ xs) sized (words_all xs)) in
        words_same shown filled cell size
        (λ i low high. get_or-set_other filled count_at i (one_more (slice_index filled count_at)) 0 (λ e. absurd (omega arith)))
        ∙ at

    -- the words of another index's value lie before this one or behind it
    beside : (j k : ℕ) → j ≢ index → element_word capacity size j 0 ≤ k → k < element_word capacity size j 0 + size
        → (k < cell) ⊎ (cell + size ≤ k)
    beside = grind (arith, apart, inl, inr)

    -- only this index has changed, and this value stands there
    pub record Shows (later : List ℕ) : Type 0 where
      pub writes : Writes later
      pub here : Stands later (Some value)

    -- with the words stored and 1 added to the number, this value stands at the index
    pub shows : Shows shown
    shows =
        let h = hides in
        let n = one_more (slice_index filled count_at) in
        let odd : is_even (slice_index shown count_at) ≡ false = ap is_even count_is ∙ even_next _ h.even in
        record {
          -- the words stored and the number are this value's own: the set, the number of changes and the
          -- other values are as before
          writes = record {
            long = length-set filled count_at n ∙ filled_long;
            front =
                take-set-le (1 + capacity) filled count_at n (omega arith)
                ∙ stored_front hidden cell xs 0 size (1 + capacity) small (omega arith) ∙ h.writes.front;
            changes = get_or-set_other filled count_at (change_word capacity) n 0 (λ e. absurd (omega arith))
                ∙ fills_not (change_word capacity) (inl (omega arith)) ∙ h.writes.changes;
            others = λ j low ne. value_same value_of size capacity hidden shown j
                (get_or-set_other filled count_at (count_word capacity j) n 0 (λ e. ne (omega arith))
                ∙ fills_not (count_word capacity j) (inl (omega arith)))
                (λ k from below. get_or-set_other filled count_at k n 0 (λ e. absurd (omega arith))
                ∙ fills_not k (beside j k ne from below))
                ∙ h.writes.others j low ne;
            counts = λ j low ne. get_or-set_other filled count_at (count_word capacity j) n 0 (λ e. ne (omega arith))
                ∙ fills_not (count_word capacity j) (inl (omega arith)) ∙ h.writes.counts j low ne;
          };
          -- the number is odd and the words are the value's, so the value stands at the index
          here = (
            ap (λ b. if b then None else Some (value_of (words_from shown cell size))) odd
                ∙ ap Some (ap value_of words_are ∙ is),
            count_is ∙ ap one_more h.count,
          );
        }

  -- ---- the change is counted

  -- the words with 1 added to the number of changes
  abbrev pub after_change : List ℕ → List ℕ
  after_change later =
      slice_set later (change_word capacity) (one_more (slice_index later (change_word capacity)))

  -- these are the words of a container
  pub change_fits : {later : List ℕ} → Writes later → Represents size capacity (after_change later)
  change_fits = grind (arith, get_or-take, length-set, small, get_or-set_other)

  -- with the number of changes gone up, the contents are those changed at this index
  pub change_contents : (container : ℕ) {later : List ℕ} {o : Option V} → Writes later → Stands later o
      → contents_in value_of size capacity container (after_change later)
      ≡ changed (contents_in value_of size capacity container words) (owners_in (take (1 + capacity) words)) index o
  change_contents container {later} {o} written here =
      let c = one_more (slice_index later (change_word capacity)) in
      let long = fits.long in let l = written.long in
      -- the set stays, and the number of changes is one more
      let front : take (1 + capacity) (after_change later) ≡ take (1 + capacity) words =
      take-set-le (1 + capacity) later (change_word capacity) c (omega arith) ∙ written.front in
      let changes : slice_index (after_change later) (change_word capacity) ≡ one_more (slice_index words (change_word capacity)) =
      get_or-set_same later (change_word capacity) c 0 (omega arith) ∙ ap one_more written.changes in
      -- the value of each other index stays, and this index has the new one
      let stays : (j : ℕ) → j < capacity → value_at value_of size capacity (after_change later) j ≡ value_at value_of size capacity later j =
      λ j low. value_same value_of size capacity later (after_change later) j
      (get_or-set_other later (change_word capacity) (count_word capacity j) c 0 (λ e. absurd (omega arith)))
      (λ k from below. get_or-set_other later (change_word capacity) k c 0 (λ e. absurd (omega arith))) in
      let values =
      map_changed (value_at value_of size capacity words) (value_at value_of size capacity (after_change later)) o capacity index near
      (stays index near ∙ here.0) (λ j below ne. stays j below ∙ written.others j below ne) in
      -- the number of each other index stays, and this index has the one that goes with the value
      let kept : (j : ℕ) → j < capacity → slice_index (after_change later) (count_word capacity j) ≡ slice_index later (count_word capacity j) =
      λ j low. get_or-set_other later (change_word capacity) (count_word capacity j) c 0 (λ e. absurd (omega arith)) in
      let before : slice_index (counts_in value_of size capacity words) index ≡ slice_index words (count_word capacity index) =
      get_or-map-range_with_len (λ j. slice_index words (count_word capacity j)) 0 capacity index index 0 near (omega arith) in
      let counts = map_changed (λ j. slice_index words (count_word capacity j)) (λ j. slice_index (after_change later) (count_word capacity j))
      (count_with o (slice_index (counts_in value_of size capacity words) index)) capacity index near
      (kept index near ∙ here.1 ∙ ap (count_with o) (sym before)) (λ j below ne. kept j below ∙ written.counts j below ne) in
      λ i. record { container = container; owners = owners_in (front i); values = values i; counts = counts i; changes = changes i }

  -- where the number of the index is the hidden one, no value stands there
  pub gone : {later : List ℕ} → Hides later → Stands later None
  gone = grind (arith, words_from)
