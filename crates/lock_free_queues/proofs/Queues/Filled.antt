-- Words of the cells of a queue, of which the first ones hold the words of one value, again and again.
use Rattle.lock_free_queues.proofs.Names.{◌≡◌, ⊎_elim, ℕ, zero, suc, ◌+◌, ◌*◌, ◌%◌, ◌<◌, ◌≤◌, List, [], ◌∷◌, ◌++◌}
use Rattle.lock_free_queues.proofs.Names.{length, get_or, set, replicate, refl, sym, ap, ◌∙◌, length-set, take}
use Rattle.lock_free_queues.proofs.Names.{get_or-set_same, get_or-set_other, arith, cases_lt, length-replicate}
use Rattle.lock_free_queues.proofs.Names.{take-replicate, value_in, set_left, set_same}
use Rattle.lock_free_queues.proofs.Queues.Tests.{not_below}

-- the value of words that are zeros
pub zeros_in : {V : Type 0} (value_of : List ℕ → V) (size n : ℕ) → size ≤ n → value_in value_of size (replicate n 0) ≡ value_of (replicate size 0)
zeros_in value_of size n size_up_to_n = grind (arith, length-replicate, not_below, length, take, take-replicate)

module _ (ws : List ℕ) (size capacity : ℕ) where
  -- The cells once their first n words are those of the value, again and again.
  abbrev pub filled : ℕ → List ℕ
  filled zero = replicate (size * capacity) 0
  filled (suc n) = set (filled n) n (get_or ws (n % size) 0)

  -- Filling keeps the number of words.
  pub filled_length : (n : ℕ) → length (filled n) ≡ size * capacity
  filled_length zero = length-replicate (size * capacity) 0
  filled_length (suc n) = length-set (filled n) n (get_or ws (n % size) 0) ∙ filled_length n

  -- a word that was written into the cells is the word of the value at that place
  pub filled_there : (n j : ℕ) → j < n → n ≤ size * capacity → get_or (filled n) j 0 ≡ get_or ws (j % size) 0
  filled_there zero j low most = absurd (omega arith)
  filled_there (suc n) j low most =
      let long = filled_length n in
      ⊎_elim (λ (before : j < n). get_or-set_other (filled n) n j (get_or ws (n % size) 0) 0 (λ e. absurd (omega arith))
      ∙ filled_there n j before (omega arith))
      (λ (here : n ≤ j).
      let same : j ≡ n = omega arith in
      ap (λ k. get_or (filled (suc n)) k 0) same
      ∙ (get_or-set_same (filled n) n (get_or ws (n % size) 0) 0 (omega arith) ∙ ap (λ k. get_or ws (k % size) 0) (sym same)))
      (cases_lt j n)

  -- words that are filled stay so when one of them is written again
  pub filled_again : (j : ℕ) → j < size * capacity → set (filled (size * capacity)) j (get_or ws (j % size) 0) ≡ filled (size * capacity)
  filled_again j j_below = grind (arith, set, filled_there, set_same)

  -- The store of one more word of the value into the cells leaves them filled up to the next place.
  pub fills_more : (a b c d at word : ℕ) → at < size * capacity → word ≡ get_or ws (at % size) 0
      → set (a ∷ b ∷ c ∷ d ∷ (filled at ++ 0 ∷ [])) (4 + at) word ≡ a ∷ b ∷ c ∷ d ∷ (filled (at + 1) ++ 0 ∷ [])
  fills_more a b c d at word at_below word_is = grind (arith, filled_length, suc, set_left, set)

-- the cells of an index queue stay zeros when the number 0 is written into them
pub zeros_stay : (capacity n : ℕ) → filled (0 ∷ []) 1 capacity n ≡ replicate capacity 0
zeros_stay capacity zero = (let same : 1 * capacity ≡ capacity = omega arith in ap (λ m. replicate m 0) same)
zeros_stay capacity (suc n) =
    let one : n % 1 ≡ 0 = omega arith in
    ap (λ i. set (filled (0 ∷ []) 1 capacity n) n (get_or (0 ∷ []) i 0)) one ∙ (ap (λ zs. set zs n 0) (zeros_stay capacity n) ∙ put_zero capacity n)
  where
    -- A 0 put into zeros leaves them as they are.
    put_zero : (c k : ℕ) → set {A = ℕ} (replicate c 0) k 0 ≡ replicate c 0
    put_zero zero k = refl
    put_zero (suc c) zero = refl
    put_zero (suc c) (suc k) = ap (λ zs. 0 ∷ zs) (put_zero c k)
