-- The words of a container behind those of its set: the change counter, an element count for each
-- index, and the data words of each element. What a store to one of them leaves of the others. No
-- event and no party is in it.
use Rattle.laws_container.proofs.Names.{◌≡◌, ◌≢◌, ℕ, ◌+◌, ◌*◌, ◌<◌, ◌≤◌, ⊎_elim, List, length, get_or, set, arith}
use Rattle.laws_container.proofs.Names.{get_or-set_same, get_or-set_other, cases_lt, change_word, count_word}
use Rattle.laws_container.proofs.Names.{element_word}
use Rattle.std.proofs.Math.Nat.{mul-le-mul_left}

-- the number of changes
abbrev pub change_at : ℕ → List ℕ → ℕ
change_at c words = get_or words (change_word c) 0

-- the count of the element at index `i`
abbrev pub count_at : ℕ → List ℕ → ℕ → ℕ
count_at c words i = get_or words (count_word c i) 0

-- data word `j` of the element at index `i`, where each value has `z` words
abbrev pub datum_at : ℕ → ℕ → List ℕ → ℕ → ℕ → ℕ
datum_at c z words i j = get_or words (element_word c z i j) 0

-- the words of different elements are different
places_apart : (z a b i j : ℕ) → i < z → j < z → a ≢ b → z * a + i ≢ z * b + j
places_apart z a b i j is js ne e = ⊎_elim less more (cases_lt a b)
  where
    less : a < b → ⊥
    less h = let step : z * (a + 1) ≤ z * b = mul-le-mul_left z (omega arith) in absurd (omega arith)

    more : b ≤ a → ⊥
    more h =
        let before : b < a = omega arith in
        let step : z * (b + 1) ≤ z * a = mul-le-mul_left z (omega arith) in
        absurd (omega arith)

-- a data word of an element is one of the words
pub data_within : (c z i j : ℕ) → i < c → j < z → element_word c z i j < 2 + (c + c) + z * c
data_within c z i j below js = let step : z * (i + 1) ≤ z * c = mul-le-mul_left z (omega arith) in omega arith

-- `c` is the capacity, and `z` the words of a value
module _ (c z : ℕ) (words : List ℕ) where
  -- ---- a data word changes

  -- word `k` of the element at index `i` becomes `x`
  module _ (i k x : ℕ) where
    abbrev stored : List ℕ
    stored = set words (element_word c z i k) x

    -- a store to a data word leaves each count
    pub counts_stay : (j : ℕ) → j < c → count_at c stored j ≡ count_at c words j
    counts_stay = grind (arith, get_or-set_other)

    -- a store to a data word is read back
    pub datum_set : element_word c z i k < length words → datum_at c z stored i k ≡ x
    datum_set within = get_or-set_same words (element_word c z i k) x 0 within

    -- a store to a data word leaves the words before it
    pub datum_before : (j : ℕ) → j < k → datum_at c z stored i j ≡ datum_at c z words i j
    datum_before = grind (arith, get_or-set_other)

    -- a store to a data word leaves the words of other elements
    pub data_stay : (a j : ℕ) → a ≢ i → j < z → k < z → datum_at c z stored a j ≡ datum_at c z words a j
    data_stay a j other js ks =
        let apart : z * a + j ≢ z * i + k = places_apart z a i j k js ks other in
        get_or-set_other words (element_word c z i k) (element_word c z a j) x 0 (λ e. apart (omega arith))

  -- ---- an element count changes

  -- the count of index `i` becomes `n`
  module _ (i n : ℕ) where
    abbrev counted : List ℕ
    counted = set words (count_word c i) n

    -- a store to a count is read back
    pub count_set : count_word c i < length words → count_at c counted i ≡ n
    count_set within = get_or-set_same words (count_word c i) n 0 within

    -- a store to a count leaves the other counts
    pub count_stays : (j : ℕ) → j ≢ i → count_at c counted j ≡ count_at c words j
    count_stays j ne = get_or-set_other words (count_word c i) (count_word c j) n 0 (λ e. ne (omega arith))

    -- a store to a count leaves all data words
    pub data_all_stay : (a j : ℕ) → i < c → datum_at c z counted a j ≡ datum_at c z words a j
    data_all_stay = grind (arith, get_or-set_other)

  -- ---- the number of changes

  -- the number of changes becomes `n`
  module _ (n : ℕ) where
    abbrev changed : List ℕ
    changed = set words (change_word c) n

    -- a store to the number of changes is read back
    pub change_set : change_word c < length words → change_at c changed ≡ n
    change_set within = get_or-set_same words (change_word c) n 0 within

    -- a store to the number of changes leaves each count
    pub changes_no_count : (j : ℕ) → count_at c changed j ≡ count_at c words j
    changes_no_count j = get_or-set_other words (change_word c) (count_word c j) n 0 (λ e. absurd (omega arith))

    -- a store to the number of changes leaves all data words
    pub changes_no_datum : (a j : ℕ) → datum_at c z changed a j ≡ datum_at c z words a j
    changes_no_datum = grind (arith, get_or-set_other)
