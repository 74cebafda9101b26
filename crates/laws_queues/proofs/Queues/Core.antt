-- The queue that the words hold, and what each operation on a word does to it. No event and no party is in
-- it. `V` is the type of the values, `size` the number of their words, and `words_of` gives the words.
use Rattle.laws_queues.proofs.Names.{◌≡◌, ◌≢◌, ℕ, zero, suc, ◌+◌, ◌*◌, ◌%◌, ◌<◌, ◌≤◌, ◌⊎◌, inl, inr, ⊎_elim}
use Rattle.laws_queues.proofs.Names.{slice_get, Some, List, [], ◌∷◌, ◌++◌, length, get_or, set, take, refl, ap}
use Rattle.laws_queues.proofs.Names.{◌∙◌, length-set, length-append, get_or-set_same, get_or-set_other, cases_lt}
use Rattle.laws_queues.proofs.Names.{take-nil}
use Rattle.std.proofs.Common.{arith}
use Rattle.std.proofs.Math.Nat.{mul-le-mul_left}

-- the first `n` elements of a list with at most `n` elements are the whole list
pub take_all : {A : Type 0} → (n : ℕ) (xs : List A) → length xs ≤ n → take n xs ≡ xs
take_all {A} n [] fits = take-nil {A = A} n
take_all zero (x ∷ xs) fits = absurd (omega arith)
take_all (suc n) (x ∷ xs) fits = ap (λ ys. x ∷ ys) (take_all n xs (omega arith))

-- ---- cells

-- two positions less than a lap apart stand in different cells
pub apart : (c r i n : ℕ) → i < n → n < c → (r + i) % c ≢ (r + n) % c
apart = grind arith

-- the words of different cells are different
pub cells_apart : (size a b i j : ℕ) → i < size → j < size → a ≢ b → size * a + i ≢ size * b + j
cells_apart size a b i j is js ne e = ⊎_elim less more (cases_lt a b)
  where
    -- the two words differ where the first cell is before the second
    less : a < b → ⊥
    less below = let step : size * (a + 1) ≤ size * b = mul-le-mul_left size (omega arith) in absurd (omega arith)

    -- the two words differ where the second cell is before the first
    more : b ≤ a → ⊥
    more not_below = grind arith

-- a word of a cell lies among the cells
pub cell_within : (size c p i : ℕ) → 0 < c → i < size → size * (p % c) + i < size * c
cell_within = grind arith

-- where `xs` has the first `at` words of `ys`, each at its place, a store of the next word
-- makes it `at + 1` words
pub one_more : (place : ℕ → ℕ) (xs ys : List ℕ) (at word : ℕ) → ((i : ℕ) → i < at → place i ≢ place at) → place at < length xs
    → word ≡ get_or ys at 0 → ((i : ℕ) → i < at → get_or xs (place i) 0 ≡ get_or ys i 0) → (i : ℕ) → i < at + 1
    → get_or (set xs (place at) word) (place i) 0 ≡ get_or ys i 0
one_more place xs ys at word apart within word_is so_far i below = ⊎_elim before here (cases_lt i at)
  where
    -- a place before the written one has its word as before
    before : i < at → get_or (set xs (place at) word) (place i) 0 ≡ get_or ys i 0
    before below = get_or-set_other xs (place at) (place i) word 0 (apart i below) ∙ so_far i below

    -- at the place that is written and beyond it, the list has the words of `ys`
    here : at ≤ i → get_or (set xs (place at) word) (place i) 0 ≡ get_or ys i 0
    here not_below = let same : i ≡ at = omega arith in rw same (get_or-set_same xs (place at) word 0 within ∙ word_is)

-- ---- the words

module _ (a b c d : ℕ) (cells : List ℕ) where
  -- a word of a cell is found behind the first four
  pub word_at : (n i : ℕ) → n ≡ 4 + i → get_or (a ∷ b ∷ c ∷ d ∷ cells) n 0 ≡ get_or cells i 0
  word_at n i e = let four : n ≡ suc (suc (suc (suc i))) = omega arith in rw four refl

  -- a word of a cell is set behind the first four
  pub set_at : (n i v : ℕ) → n ≡ 4 + i → set (a ∷ b ∷ c ∷ d ∷ cells) n v ≡ a ∷ b ∷ c ∷ d ∷ set cells i v
  set_at n i v e = let four : n ≡ suc (suc (suc (suc i))) = omega arith in rw four refl

-- the core of a queue: the two positions, the values that wait between them, and the words of the cells
pub record Core (V : Type 0) : Type 0 where
  pub write : ℕ
  pub read : ℕ
  pub waiting : List V
  pub cells : List ℕ

-- the queue has gone from `k` to `k'`: neither position goes down, and what they go up by is at most the
-- number of changes of words meanwhile
pub record GoesUp {V : Type 0} (k k' : Core V) (changes changes' : ℕ) : Type 0 where
  pub write : k.write ≤ k'.write
  pub read : k.read ≤ k'.read
  pub paid : k'.write + k'.read + changes ≤ k.write + k.read + changes'

-- `size` words encode a value, as `words_of` says, and the queue has `c` cells
module _ {V : Type 0} (size : ℕ) (words_of : V → List ℕ) (c : ℕ) where
  -- the first `count` words of the value `v` stand in the cell of the position
  abbrev pub Holds : List ℕ → ℕ → V → ℕ → Type 0
  Holds cells position v count = (i : ℕ) → i < count → get_or cells (size * (position % c) + i) 0 ≡ get_or (words_of v) i 0

  -- As many values wait as the positions are apart, at most one for each cell, and each stands in the cell
  -- of its own position.
  pub record Good (k : Core V) : Type 0 where
    pub write : k.write ≡ k.read + length k.waiting
    pub few : length k.waiting ≤ c
    pub cells : length k.cells ≡ size * c
    pub held : (i : ℕ) (v : V) → slice_get k.waiting i ≡ Some v → Holds k.cells (k.read + i) v size

  -- the queue with a word stored at place `at` of the cell of the write position
  abbrev pub filled : Core V → ℕ → ℕ → Core V
  filled k at word = record { write = k.write; read = k.read; waiting = k.waiting; cells = set k.cells (size * (k.write % c) + at) word }

  -- the queue once `v` is published: the write position goes on
  abbrev pub published : Core V → V → Core V
  published k v = record { write = k.write + 1; read = k.read; waiting = k.waiting ++ v ∷ []; cells = k.cells }

  -- the queue once the front value is taken: the read position goes on
  abbrev pub taken : Core V → List V → Core V
  taken k rest = record { write = k.write; read = k.read + 1; waiting = rest; cells = k.cells }

  -- a place of a list that has an element is below the length
  pub at_below : (xs : List V) (i : ℕ) (v : V) → slice_get xs i ≡ Some v → i < length xs
  at_below [] i v element_is = cc
  at_below (x ∷ xs) zero v element_is = omega arith
  at_below (x ∷ xs) (suc i) v element_is = omega (arith, at_below xs i v element_is)

  -- a list with `x` at its end has at a place what the list had, or at its end `x`
  get_more : (xs : List V) (x : V) (i : ℕ) (v : V) → slice_get (xs ++ x ∷ []) i ≡ Some v → (slice_get xs i ≡ Some v) ⊎ ((i ≡ length xs) × (x ≡ v))
  get_more [] x zero v element_is = inr (refl, cc)
  get_more [] x (suc i) v element_is = cc
  get_more (y ∷ ys) x zero v element_is = inl element_is
  get_more (y ∷ ys) x (suc i) v element_is = ⊎_elim (λ h. inl h) (λ h. inr (ap suc h.0, h.1)) (get_more ys x i v element_is)

-- the queue `k` is right
module _ {V : Type 0} {size : ℕ} {words_of : V → List ℕ} {c : ℕ} {k : Core V} (good : Good size words_of c k) where
  -- where there is room, a store into the cell of the write position leaves the values
  -- that wait as they stand
  pub fills : (at word : ℕ) → length k.waiting < c → at < size → Good size words_of c (filled size words_of c k at word)
  fills at word room below =
      record {
        write = good.write;
        few = good.few;
        cells = length-set k.cells (size * (k.write % c) + at) word ∙ good.cells;
        held = λ i v e j js.
            let ahead = at_below size words_of c k.waiting i v e in
            let write = good.write in
            let other : (k.read + i) % c ≢ k.write % c = rw write (apart c k.read i (length k.waiting) ahead room) in
            let place : size * ((k.read + i) % c) + j ≢ size * (k.write % c) + at = cells_apart size ((k.read + i) % c) (k.write % c) j at js below other in
            get_or-set_other k.cells (size * (k.write % c) + at) (size * ((k.read + i) % c) + j) word 0 place ∙ good.held i v e j js;
      }

  -- where the first `at` words of `v` stand in the cell of the write position, a store of the next makes it
  -- `at + 1` words
  pub one_filled : (v : V) (at : ℕ) → length k.waiting < c → at < size → Holds size words_of c k.cells k.write v at
      → Holds size words_of c (filled size words_of c k at (get_or (words_of v) at 0)).cells k.write v (at + 1)
  one_filled v at room below so_far =
      let cells = good.cells in
      let low = cell_within size c k.write at (omega arith) below in
      one_more (λ i. size * (k.write % c) + i) k.cells (words_of v) at (get_or (words_of v) at 0)
      (λ i h e. absurd (omega arith)) (omega arith) refl so_far

  -- where there is room and all words of `v` stand in the cell of the write position, the store of the next
  -- write position publishes `v`
  pub publishes : (v : V) → length k.waiting < c → Holds size words_of c k.cells k.write v size → Good size words_of c (published size words_of c k v)
  publishes = grind (arith, length-append, get_more)

  -- the store of the next read position takes the front value away
  pub takes : {v : V} {rest : List V} → k.waiting ≡ v ∷ rest → Good size words_of c (taken size words_of c k rest)
  takes {v} {rest} waiting_is =
      let write = good.write in
      let few = good.few in
      let long : length k.waiting ≡ suc (length rest) = ap length waiting_is in
      record {
        write = omega arith;
        few = omega arith;
        cells = good.cells;
        held = λ i w e j js.
            let stands_there : slice_get k.waiting (suc i) ≡ Some w = rw waiting_is e in
            let place : k.read + 1 + i ≡ k.read + suc i = omega arith in
            rw place (good.held (suc i) w stands_there j js);
      }

  -- the words of the front value stand in the cell of the read position
  pub front : {v : V} {rest : List V} → k.waiting ≡ v ∷ rest → Holds size words_of c k.cells k.read v size
  front = grind arith
