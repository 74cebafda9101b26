-- Words that are stored to a cell or loaded from it one after another.
use Rattle.std.proofs.Common.{◌≡◌, ℕ, zero, suc, ◌+◌, ◌^◌, ◌<◌, ◌≤◌, ◌⊎◌, inl, inr, ⊎_elim, List, [], ◌∷◌, length}
use Rattle.std.proofs.Common.{refl, sym, ap, subst, ◌∙◌, arith, slice_index, slice_set, get_or-set_same}
use Rattle.std.proofs.Common.{get_or-set_other, length-set, take}
use Rattle.std.specs.Prelude.{replicate, nat_lt, if◌then◌else◌, false}
use Rattle.std.proofs.lemmas.Bool.Decides.{nat_tests}
use Rattle.steps.specs.Queues.Ring.{word_at}
use Rattle.steps.specs.declared.copied.Buffer.{Buffer}
use Rattle.steps.specs.Copied.{value_in}
use Rattle.plain_queues.specs.Queues.{words_from}

-- words from one place on are the same in two lists that have the same words there
pub words_same : (ws vs : List ℕ) (at n : ℕ)
    → ((i : ℕ) → at ≤ i → i < at + n → slice_index ws i ≡ slice_index vs i)
    → words_from ws at n ≡ words_from vs at n
words_same ws vs at zero same_words = refl
words_same ws vs at (suc n) same_words =
    let head = same_words at (omega arith) (omega arith) in
    let tail = words_same ws vs (suc at) n (λ i low high. same_words i (omega arith) (omega arith)) in
    λ i. head i ∷ tail i

-- words of a list with one word before it are those of the list, one place further on
shifted : (x : ℕ) (xs : List ℕ) (at n : ℕ) → words_from (x ∷ xs) (suc at) n ≡ words_from xs at n
shifted x xs at zero = refl
shifted x xs at (suc n) = ap (λ z. slice_index xs at ∷ z) (shifted x xs (suc at) n)

-- all words of a list from its first one on are the list
pub words_all : (xs : List ℕ) → words_from xs 0 (length xs) ≡ xs
words_all [] = refl
words_all (x ∷ xs) = ap (λ z. x ∷ z) (shifted x xs 0 (length xs) ∙ words_all xs)

-- the list ws after a store of n words of xs, from place `at` on, to the cell that begins at k
abbrev pub stored : List ℕ → ℕ → List ℕ → ℕ → ℕ → List ℕ
stored ws k xs at zero = ws
stored ws k xs at (suc n) =
    stored (slice_set ws (word_at k at) (slice_index xs at)) k xs (at + 1) n

-- a store of words leaves the list as long as it was
pub stored_length : (ws : List ℕ) (k : ℕ) (xs : List ℕ) (at n : ℕ)
    → length (stored ws k xs at n) ≡ length ws
stored_length ws k xs at zero = refl
stored_length ws k xs at (suc n) =
    stored_length (slice_set ws (word_at k at) (slice_index xs at)) k xs (at + 1) n
    ∙ length-set ws (word_at k at) (slice_index xs at)

-- a store of words leaves each word before the stored ones and behind them
pub stored_other : (ws : List ℕ) (k : ℕ) (xs : List ℕ) (at n j : ℕ) → k + at + n < 2 ^ 64
    → (j < k + at) ⊎ (k + at + n ≤ j)
    → slice_index (stored ws k xs at n) j ≡ slice_index ws j
stored_other ws k xs at zero j small out = refl
stored_other ws k xs at (suc n) j small out =
    stored_other (slice_set ws (word_at k at) (slice_index xs at)) k xs (at + 1) n j (omega arith)
    (⊎_elim (λ h. inl (omega arith)) (λ h. inr (omega arith)) out)
    ∙ get_or-set_other ws (word_at k at) j (slice_index xs at) 0
    (λ e. ⊎_elim (λ h. absurd (omega arith)) (λ h. absurd (omega arith)) out)

-- the list has the stored words where they were stored
pub stored_words : (ws : List ℕ) (k : ℕ) (xs : List ℕ) (at n : ℕ) → k + at + n < 2 ^ 64
    → k + at + n ≤ length ws → words_from (stored ws k xs at n) (k + at) n ≡ words_from xs at n
stored_words ws k xs at zero small within = refl
stored_words ws k xs at (suc n) small within =
    let vs : List ℕ = slice_set ws (word_at k at) (slice_index xs at) in
    let long : length vs ≡ length ws = length-set ws (word_at k at) (slice_index xs at) in
    let place : word_at k at ≡ k + at = omega arith in
    -- the first stored word stands where it was stored, since the later ones are stored behind it
    let head : slice_index (stored vs k xs (at + 1) n) (k + at) ≡ slice_index xs at =
    stored_other vs k xs (at + 1) n (k + at) (omega arith) (inl (omega arith))
    ∙ subst (λ p. slice_index (slice_set ws p (slice_index xs at)) (k + at) ≡ slice_index xs at)
    (sym place) (get_or-set_same ws (k + at) (slice_index xs at) 0 (omega arith)) in
    -- the later words stand behind it
    let tail : words_from (stored vs k xs (at + 1) n) (k + (at + 1)) n ≡ words_from xs (at + 1) n =
    stored_words vs k xs (at + 1) n (omega arith) (omega arith) in
    let there : k + (at + 1) ≡ suc (k + at) = omega arith in
    let here : at + 1 ≡ suc at = omega arith in
    let tail₂ : words_from (stored vs k xs (at + 1) n) (suc (k + at)) n ≡ words_from xs (suc at) n =
    subst (λ (z : ℕ × ℕ). words_from (stored vs k xs (at + 1) n) z.0 n ≡ words_from xs z.1 n) (λ i. (there i, here i)) tail in
    λ i. head i ∷ tail₂ i

-- the list xs after a load into it of n words of the cell of ws that begins at k, from place `at` on
abbrev pub loaded : List ℕ → List ℕ → ℕ → ℕ → ℕ → List ℕ
loaded xs ws k at zero = xs
loaded xs ws k at (suc n) = loaded (slice_set xs at (slice_index ws (word_at k at))) ws k (at + 1) n

-- a load of words leaves each word of the room before the loaded ones and behind them
loaded_other : (xs ws : List ℕ) (k at n j : ℕ) → (j < at) ⊎ (at + n ≤ j)
    → slice_index (loaded xs ws k at n) j ≡ slice_index xs j
loaded_other xs ws k at zero j out = refl
loaded_other xs ws k at (suc n) j out =
    loaded_other (slice_set xs at (slice_index ws (word_at k at))) ws k (at + 1) n j
    (⊎_elim (λ h. inl (omega arith)) (λ h. inr (omega arith)) out)
    ∙ get_or-set_other xs at j (slice_index ws (word_at k at)) 0
    (λ e. ⊎_elim (λ h. absurd (omega arith)) (λ h. absurd (omega arith)) out)

-- a load of words leaves the room as long as it was
pub loaded_length : (xs ws : List ℕ) (k at n : ℕ) → length (loaded xs ws k at n) ≡ length xs
loaded_length xs ws k at zero = refl
loaded_length xs ws k at (suc n) =
    loaded_length (slice_set xs at (slice_index ws (word_at k at))) ws k (at + 1) n
    ∙ length-set xs at (slice_index ws (word_at k at))

-- the room has the loaded words where they were loaded
pub loaded_words : (xs ws : List ℕ) (k at n : ℕ) → k + at + n < 2 ^ 64 → at + n ≤ length xs
    → words_from (loaded xs ws k at n) at n ≡ words_from ws (k + at) n
loaded_words xs ws k at zero small within = refl
loaded_words xs ws k at (suc n) small within =
    let ys : List ℕ = slice_set xs at (slice_index ws (word_at k at)) in
    let long : length ys ≡ length xs = length-set xs at (slice_index ws (word_at k at)) in
    let place : word_at k at ≡ k + at = omega arith in
    -- the first loaded word stands where it was loaded, since the later ones are loaded behind it
    let head : slice_index (loaded ys ws k (at + 1) n) at ≡ slice_index ws (k + at) =
    loaded_other ys ws k (at + 1) n at (inl (omega arith))
    ∙ get_or-set_same xs at (slice_index ws (word_at k at)) 0 (omega arith)
    ∙ ap (slice_index ws) place in
    -- the later words stand behind it
    let tail : words_from (loaded ys ws k (at + 1) n) (at + 1) n ≡ words_from ws (k + (at + 1)) n =
    loaded_words ys ws k (at + 1) n (omega arith) (omega arith) in
    let there : k + (at + 1) ≡ suc (k + at) = omega arith in
    let here : at + 1 ≡ suc at = omega arith in
    let tail₂ : words_from (loaded ys ws k (at + 1) n) (suc at) n ≡ words_from ws (suc (k + at)) n =
    subst (λ (z : ℕ × ℕ). words_from (loaded ys ws k (at + 1) n) z.0 n ≡ words_from ws z.1 n) (λ i. (here i, there i)) tail in
    λ i. head i ∷ tail₂ i

-- the first n words of a list, taken at once, are those that are taken one after another
pub take_words : (xs : List ℕ) (n : ℕ) → n ≤ length xs → take n xs ≡ words_from xs 0 n
take_words xs zero within = refl
take_words [] (suc n) within = absurd (omega arith)
take_words (x ∷ xs) (suc n) within =
    ap (λ z. x ∷ z) (take_words xs n (omega arith) ∙ sym (shifted x xs 0 n))

-- ---- words of a cell, from one place on, read into a room

-- How a room holds words: those that it has, and the room with one of them replaced.
pub record Room (R : Type 0) : Type 0 where
  pub words_in : R → List ℕ
  pub with_word : R → ℕ → ℕ → R
  pub put_in : (x : R) (at word : ℕ) → words_in (with_word x at word) ≡ slice_set (words_in x) at word

-- a buffer of 128 words as such a room
abbrev pub buffer : Room (Buffer 128)
buffer = record { words_in = λ x. x.words; with_word = λ x at word. record x { words = slice_set x.words at word }; put_in = λ x at word. refl }

module _ {R : Type 0} (with_word : R → ℕ → ℕ → R) where
  -- the room after n words of the cell that begins at k were put into it, from place `at` on
  abbrev pub read_in : R → List ℕ → ℕ → ℕ → ℕ → R
  read_in room ws k at zero = room
  read_in room ws k at (suc n) =
      read_in (with_word room at (slice_index ws (word_at k at))) ws k (at + 1) n

module _ {V R : Type 0} (value_of : List ℕ → V) (size : ℕ) (as_room : Room R) where
  open as_room use {words_in, with_word, put_in}

  -- the words in a room into which a cell is read are those of the room with the cell's loaded
  read_words : (room : R) (ws : List ℕ) (k at n : ℕ)
      → words_in (read_in with_word room ws k at n) ≡ loaded (words_in room) ws k at n
  read_words room ws k at zero = refl
  read_words room ws k at (suc n) =
      read_words (with_word room at (slice_index ws (word_at k at))) ws k (at + 1) n
      ∙ ap (λ xs. loaded xs ws k (at + 1) n) (put_in room at (slice_index ws (word_at k at)))

  -- the value that a room makes after a whole cell was read into it is the value of the cell's words
  pub value_read : (room : R) (ws : List ℕ) (k : ℕ) → size ≤ length (words_in room)
      → k + 0 + size < 2 ^ 64
      → value_in value_of size (words_in (read_in with_word room ws k 0 size)) ≡ value_of (words_from ws k size)
  value_read room ws k wide small =
      let is : words_in (read_in with_word room ws k 0 size) ≡ loaded (words_in room) ws k 0 size = read_words room ws k 0 size in
      let long : length (loaded (words_in room) ws k 0 size) ≡ length (words_in room) = loaded_length (words_in room) ws k 0 size in
      let enough : nat_lt (length (loaded (words_in room) ws k 0 size)) size ≡ false = grind (arith, nat_tests, long, wide) in
      let words_are : take size (loaded (words_in room) ws k 0 size) ≡ words_from ws k size =
      take_words (loaded (words_in room) ws k 0 size) size (omega arith)
      ∙ loaded_words (words_in room) ws k 0 size small (omega arith)
      ∙ ap (λ j. words_from ws j size) (omega arith) in
      ap (value_in value_of size) is
      ∙ ap (λ b. if b then value_of (take size (replicate 128 0)) else value_of (take size (loaded (words_in room) ws k 0 size))) enough
      ∙ ap value_of words_are
