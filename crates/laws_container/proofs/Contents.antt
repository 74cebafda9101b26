-- What stands in a container by its events stands in its words (`IsWhole`); and what a writer knows of the
-- words that it has stored (`Writing`). No value is ever half there: under an even count only the one writer
-- knows anything of the data words.
use Rattle.laws_container.proofs.Names.{◌≡◌, ◌≢◌, ℕ, ◌+◌, ◌*◌, ◌%◌, ◌<◌, ◌≤◌, ⊎_elim, Option, Some, None, List, []}
use Rattle.laws_container.proofs.Names.{◌∷◌, ◌++◌, length, get_or, set, sym, ap, subst, ◌∙◌, arith, cases_eq}
use Rattle.laws_container.proofs.Names.{fold-append, count_word, element_word, Event, Placed, Hidden, Coding}
use Rattle.laws_container.proofs.Names.{contents_of, at_same, at_other}
use Rattle.laws_container.proofs.Core.{count_at, datum_at, data_within, counts_stay, datum_set, datum_before, data_stay, count_set, count_stays, data_all_stay}

-- values have this coding, of `z` words, and the capacity is `c`
module _ {T : Type 0} (code : Coding T) (c : ℕ) where
  abbrev z : ℕ
  z = code.size

  -- the first `k` data words of the element are those of the value
  abbrev pub HasWords : List ℕ → ℕ → T → ℕ → Type 0
  HasWords words i value k = (j : ℕ) → j < k → datum_at c z words i j ≡ get_or (code.words_of value) j 0

  -- what stands at the index is this: nothing under an even count, and under an odd one the value
  -- whose words are there
  abbrev pub WordsShow : List ℕ → ℕ → Option T → Type 0
  WordsShow words i None = count_at c words i % 2 ≡ 0
  WordsShow words i (Some value) = (count_at c words i % 2 ≡ 1) × HasWords words i value z

  -- at each index the words say what stands there by the events
  abbrev pub IsWhole : List ℕ → List (Event T) → Type 0
  IsWhole words events = (i : ℕ) → i < c → WordsShow words i (contents_of i events)

  -- a writer has stored the first `k` words of the value, under an even count
  pub record Writing (words : List ℕ) (i : ℕ) (value : T) (k : ℕ) : Type 0 where
    pub even : count_at c words i % 2 ≡ 0
    pub written : HasWords words i value k

  -- ---- the words alone

  -- under an even count nothing stands at the index
  none_stands : (words : List ℕ) (i : ℕ) (o : Option T) → WordsShow words i o → count_at c words i % 2 ≡ 0 → o ≡ None
  none_stands = grind arith

  -- under an odd count a value stands at the index
  pub some_stands : (words : List ℕ) (i : ℕ) (o : Option T) → WordsShow words i o → count_at c words i % 2 ≡ 1 → o ≢ None
  some_stands = grind arith

  -- where the count and the data words stay, the same value stands
  pub stands_on : (words words' : List ℕ) (i : ℕ) (o : Option T) → count_at c words' i ≡ count_at c words i
      → ((j : ℕ) → j < z → datum_at c z words' i j ≡ datum_at c z words i j) → WordsShow words i o → WordsShow words' i o
  stands_on = grind arith

  -- where the count and the data words stay, a writer has stored as many words
  pub writes_on : (words words' : List ℕ) (i : ℕ) (value : T) (k : ℕ) → k ≤ z → count_at c words' i ≡ count_at c words i
      → ((j : ℕ) → j < z → datum_at c z words' i j ≡ datum_at c z words i j) → Writing words i value k → Writing words' i value k
  writes_on = grind arith

  -- the words say what stands, and there are as many as a container has
  module _ (words : List ℕ) (events : List (Event T)) (whole : IsWhole words events) (wide : length words ≡ 2 + (c + c) + z * c) (i : ℕ) (below : i < c) where
    -- ---- a writer stores a word

    -- the writer has stored the first `k` words of the value
    module _ {value : T} {k : ℕ} (ks : k < z) (has_stored : Writing words i value k) where
      abbrev x : ℕ
      x = get_or (code.words_of value) k 0

      abbrev stored : List ℕ
      stored = set words (element_word c z i k) x

      -- the store leaves the data words of other elements
      other_data : (a : ℕ) → a ≢ i → (j : ℕ) → j < z → datum_at c z stored a j ≡ datum_at c z words a j
      other_data a ne j js = data_stay c z words i k x a j ne js ks

      -- a store of a word by the writer leaves what stands at other indices, and nothing stands at its own
      pub store_whole : IsWhole stored events
      store_whole a low = ⊎_elim here there (cases_eq a i)
        where
          -- at another index the words and the events are as before
          there : a ≢ i → WordsShow stored a (contents_of a events)
          there ne = stands_on words stored a (contents_of a events) (counts_stay c z words i k x a low) (other_data a ne) (whole a low)

          -- at the index itself the number is even, so nothing stands
          here : a ≡ i → WordsShow stored a (contents_of a events)
          here same_index =
              let even : count_at c words a % 2 ≡ 0 = ap (λ n. count_at c words n % 2) same_index ∙ has_stored.even in
              let none = none_stands words a (contents_of a events) (whole a low) even in
              subst (WordsShow stored a) (sym none) (ap (λ n. n % 2) (counts_stay c z words i k x a low) ∙ even)

      -- after the store the writer has stored one word more
      pub store_writes : Writing stored i value (k + 1)
      store_writes = grind (arith, counts_stay, datum_before, data_within, datum_set)

    -- ---- a count changes

    -- the count of the element at index `i` becomes `n`
    module _ (n : ℕ) where
      abbrev counted : List ℕ
      counted = set words (count_word c i) n

      is_now : count_at c counted i ≡ n
      is_now = count_set c z words i n (omega arith)

      -- a changed count leaves what stands at other indices, and at index `i` there stands
      -- what the event says
      count_there : (e : Event T) (o : Option T)
          → ((a : ℕ) → a ≢ i → contents_of a (events ++ e ∷ []) ≡ contents_of a events)
          → contents_of i (events ++ e ∷ []) ≡ o → WordsShow counted i o → IsWhole counted (events ++ e ∷ [])
      count_there e o others mine h a low = ⊎_elim here there (cases_eq a i)
        where
          -- at the index there stands what the event has left
          here : a ≡ i → WordsShow counted a (contents_of a (events ++ e ∷ []))
          here same = subst (λ b. WordsShow counted b (contents_of b (events ++ e ∷ []))) (sym same) (subst (WordsShow counted i) (sym mine) h)

          -- at another index the words and the events are as before
          there : a ≢ i → WordsShow counted a (contents_of a (events ++ e ∷ []))
          there ne =
              subst (WordsShow counted a) (sym (others a ne))
              (stands_on words counted a (contents_of a events) (count_stays c z words i n a ne) (λ j js. data_all_stay c z words i n a j below) (whole a low))

    -- where a writer has stored all words of its value nothing stands, since the count is even
    pub place_none : {value : T} → Writing words i value z → contents_of i events ≡ None
    place_none has_stored = none_stands words i (contents_of i events) (whole i below) has_stored.even

    -- a writer that has stored all words and makes the count odd leaves the words whole,
    -- with its value placed
    pub place_whole : (p n : ℕ) (value : T) → Writing words i value z → n % 2 ≡ 1 → IsWhole (set words (count_word c i) n) (events ++ Placed p i value ∷ [])
    place_whole = grind (arith, count_there, fold-append, at_other, at_same, is_now, data_all_stay)

    -- under an odd count something stands, which any party may hide
    pub hide_some : count_at c words i % 2 ≡ 1 → contents_of i events ≢ None
    hide_some odd = some_stands words i (contents_of i events) (whole i below) odd

    -- an even count, with the event that the value is hidden, leaves the words whole
    pub hide_whole : (p n : ℕ) → n % 2 ≡ 0 → IsWhole (set words (count_word c i) n) (events ++ Hidden p i ∷ [])
    hide_whole = grind (arith, count_there, fold-append, at_other, at_same, is_now)

  -- ---- a copy

  -- a copy of `k` words under the odd count `count`: while that count is there, these are
  -- the words that stand
  pub record Reads (words : List ℕ) (i count : ℕ) (copy : List ℕ) (k : ℕ) : Type 0 where
    pub odd : count % 2 ≡ 1
    pub below : count ≤ count_at c words i
    pub same : count_at c words i ≡ count → (j : ℕ) → j < k → get_or copy j 0 ≡ datum_at c z words i j
