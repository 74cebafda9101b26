-- The parts of the robust set's calls, run alone over a counter g and cells: a raise, a count and a lock.
use Rattle.std.proofs.Common.{◌≡◌, ◌≢◌, ℕ, suc, ◌+◌, ◌^◌, ◌<◌, ◌≤◌, ⊎_elim, false, not, ◌==◌, ◌&&◌, nat_lt, List}
use Rattle.std.proofs.Common.{[], ◌∷◌, length, drop, map, refl, sym, ap, subst, ◌∙◌, arith, Some, None, slice_index}
use Rattle.std.proofs.Common.{slice_set, eq-eqb, ne_eqb, if◌then◌else◌}
use Rattle.plain.proofs.Names.{nat_tests, cases_lt, length-drop, by_test, by_eq, GoOn, Done, ReleaseState, Locked}
use Rattle.plain.proofs.Names.{Unlocked}
use Rattle.std.proofs.lemmas.List.{drop_more}
use Rattle.steps.specs.Indices.Robust.Parts.{cell_word, empty, locked, greatest, one_more, raise_want, raise_after}
use Rattle.steps.specs.Indices.Robust.Parts.{count_want, count_after, count_comes_to, lock_want}
use Rattle.steps.specs.Indices.Robust.Parts.{lock_after, lock_counted, first_lock}
use Rattle.steps.specs.declared.indices.robust.parts.Raise.TheVariants as raises
use Rattle.steps.specs.declared.indices.robust.parts.Count.TheVariants as counts
use Rattle.steps.specs.declared.indices.robust.parts.Counted.{Counted}
use Rattle.steps.specs.declared.indices.robust.parts.Counted.TheVariants as ends
use Rattle.steps.specs.declared.indices.robust.parts.Lock.TheVariants as locks
use Rattle.steps.specs.Objects.Owners.{next_generation, taken_from}
use Rattle.plain.specs.Robust.{owner_in}
use Rattle.plain.proofs.Walks.{plus, Walks, WalksOn, OnEnd, part_walks, any_low}

-- ---- a place in the cells, with what stands from there on

-- at this index there is a cell, with this word, and the rest of the cells stands behind it
pub record CellAt (cells : List ℕ) (index word : ℕ) (rest : List ℕ) : Type 0 where
  pub near : index < length cells
  pub word_is : slice_index cells index ≡ word
  pub rest_is : drop (index + 1) cells ≡ rest

-- the first word of a list, or d
abbrev pub head_or : ℕ → List ℕ → ℕ
head_or d [] = d
head_or d (x ∷ xs) = x

-- a list without its first word
abbrev pub tail_of : List ℕ → List ℕ
tail_of [] = []
tail_of (x ∷ xs) = xs

-- a list of 1 + n words is its first word and the rest
pub split : (n : ℕ) {ws : List ℕ} → length ws ≡ 1 + n → ws ≡ head_or 0 ws ∷ tail_of ws
split n {ws = []} long = let e : 0 ≡ 1 + n = long in absurd (omega arith)
split n {ws = w ∷ ws} long = refl

-- a list of cells that goes on with this word from this index has a cell there
pub here : (cells : List ℕ) (index word : ℕ) (rest : List ℕ) → drop index cells ≡ word ∷ rest
    → CellAt cells index word rest
here cells index word rest cells_are =
    ⊎_elim (λ (near : index < length cells).
    let more = drop_more cells index 0 near in
    record { near = near; word_is = ap (head_or 0) (sym more ∙ cells_are); rest_is = ap tail_of (sym more ∙ cells_are) })
    (λ (far : length cells ≤ index).
    let e : suc (length rest) ≡ length (drop index cells) = sym (ap length cells_are) in absurd (omega (arith, length-drop index cells)))
    (cases_lt index (length cells))

-- where no cell is left from an index on, the index is past the cells
pub past : (cells : List ℕ) (index : ℕ) → drop index cells ≡ [] → length cells ≤ index
past cells index none_left = let e : length (drop index cells) ≡ 0 = ap length none_left in omega (arith, length-drop index cells)

-- the cell of index i stands one word behind the counter's
pub next_cell : (g i : ℕ) (cells : List ℕ) → slice_index (g ∷ cells) (cell_word i) ≡ slice_index cells i
next_cell g i cells = ap (slice_index (g ∷ cells)) (let e : 1 + i ≡ suc i = omega arith in e)

-- to set the cell of index i leaves the counter
pub next_set : (g i x : ℕ) (cells : List ℕ) → slice_set (g ∷ cells) (cell_word i) x ≡ g ∷ slice_set cells i x
next_set = grind (arith, suc)

-- ---- raise

-- below its end the next generation is one more
pub next_below : (g : ℕ) → g ≢ locked → g ≢ greatest → g < 2 ^ 64 → next_generation g ≡ one_more g
next_below = grind (arith, greatest, one_more, nat_tests)

-- from its end on the generation stays
pub next_there : (g : ℕ) → greatest ≤ g → next_generation g ≡ g
next_there = grind (arith, greatest, false, nat_tests)

module _ (g : ℕ) (cells : List ℕ) (small : g < 2 ^ 64) where
  -- an exchange of the counter from what it is succeeds
  exchanged : (new : ℕ) → (if g == g then slice_set (g ∷ cells) 0 new else g ∷ cells) ≡ new ∷ cells
  exchanged new = ap (λ b. if b then new ∷ cells else g ∷ cells) (eq-eqb g g refl)

  -- a raise ends within two steps: with `Locked` where the counter says so, else with `Unlocked`, and the
  -- counter is the next generation
  pub raise_walks : (P : ReleaseState → List ℕ → Type 0)
      → (g ≡ locked → P Locked (next_generation g ∷ cells)) → (g ≢ locked → P Unlocked (next_generation g ∷ cells))
      → Walks raise_want raise_after 2 (OnEnd P) raises.LoadsCounter (g ∷ cells)
  raise_walks = grind (arith, by_eq, locked, next_there, greatest, exchanged, one_more, next_below)

-- the next generation has 64 bits
pub next_small : (g : ℕ) → g < 2 ^ 64 → next_generation g < 2 ^ 64
next_small = grind (arith, by_test, greatest, nat_tests)

-- ---- words and owners

-- an empty cell has no owner
pub owner_free : (word : ℕ) → word ≡ empty → owner_in word ≡ None
owner_free word word_is_empty = ap (λ b. if b then None else Some word) (eq-eqb word empty word_is_empty)

-- a cell that is not empty has its word as its owner
pub owner_some : (word : ℕ) → word ≢ empty → owner_in word ≡ Some word
owner_some word word_is_not_empty = ap (λ b. if b then None else Some word) (ne_eqb word empty word_is_not_empty)

-- ---- count

-- how many cells have an owner
abbrev pub number : List ℕ → ℕ
number cells = length (taken_from 0 (map owner_in cells))

-- the counter that a lock leaves: that of a locked set where no cell has an owner and the generation is not
-- at its end, else the next generation
abbrev pub locking : ℕ → List ℕ → ℕ
locking g cells =
    if (number cells == 0) && not (next_generation g == greatest) then locked else next_generation g

-- the counter that a lock leaves has 64 bits
pub locking_small : (g : ℕ) (cells : List ℕ) → g < 2 ^ 64 → locking g cells < 2 ^ 64
locking_small = grind (arith, by_test, greatest, locked, next_small)

-- the state that a counter says
abbrev pub state_number : ℕ → ReleaseState
state_number n = if n == locked then Locked else Unlocked

module _ (capacity g : ℕ) (cells : List ℕ) (small : g < 2 ^ 64) (long : length cells ≡ capacity) (few : capacity < 2 ^ 32) where
  -- From this index on the count loads the cells left and then exchanges the counter. It ends with the number
  -- of cells that have an owner.
  scans : (P : Counted → List ℕ → Type 0) (total : ℕ) → P (ends.Filled total (next_generation g)) (next_generation g ∷ cells)
      → g ≢ locked → (rest : List ℕ) (index filled : ℕ) → drop index cells ≡ rest → filled ≤ index
      → filled + length (taken_from index (map owner_in rest)) ≡ total
      → WalksOn count_want (count_after capacity) (suc (suc (length rest))) (OnEnd P) (count_comes_to capacity g index filled) (g ∷ cells)
  -- no cell is left: the count exchanges the counter
  scans P total holds other [] index filled rest_is low sum =
      let far = past cells index rest_is in
      let sum₀ : filled + 0 ≡ total = sum in
      by_test (λ a. WalksOn count_want (count_after capacity) 2 (OnEnd P) a (g ∷ cells)) (nat_lt index capacity) _ _
      (λ t. let near : index < capacity = grind (arith, nat_tests) in absurd (omega arith))
      (λ _. by_eq (λ a. WalksOn count_want (count_after capacity) 2 (OnEnd P) a (g ∷ cells)) g greatest _ _
      -- the generation is at its end: the count ends with the cells that it has counted,
      -- and the counter stays
      (λ e. let same : filled ≡ total = omega arith in
      subst (λ (z : ℕ × ℕ). P (ends.Filled z.0 z.1) (z.1 ∷ cells)) (λ i. (sym same i, next_there g (omega arith) i)) holds)
      -- the generation is not at its end: the exchange raises it, and the count ends
      (λ less. subst (λ ws. WalksOn count_want (count_after capacity) 1 (OnEnd P)
      (if g == g then Done (ends.Filled filled (one_more g)) else GoOn counts.LoadsCounter)
      ws)
      (sym (exchanged g cells small (one_more g)))
      (by_eq (λ a. WalksOn count_want (count_after capacity) 1 (OnEnd P) a (one_more g ∷ cells)) g g _ _
      (λ _. let same : filled ≡ total = omega arith in
      subst (λ (z : ℕ × ℕ). P (ends.Filled z.0 z.1) (z.1 ∷ cells)) (λ i. (sym same i, next_below g other less small i)) holds)
      (λ no. absurd (no refl)))))
  -- a cell is left: the count loads it
  scans P total holds other (c ∷ rest) index filled rest_is low sum =
      let at = here cells index c rest rest_is in
      let near = at.near in
      let word = next_cell g index cells ∙ at.word_is in
      by_test (λ a. WalksOn count_want (count_after capacity) (suc (suc (suc (length rest)))) (OnEnd P) a (g ∷ cells)) (nat_lt index capacity) _ _
      (λ _. by_eq (λ f. WalksOn count_want (count_after capacity) (suc (suc (length rest))) (OnEnd P)
      (count_comes_to capacity g (index + 1) f) (g ∷ cells))
      (slice_index (g ∷ cells) (cell_word index)) empty filled (one_more filled)
      -- the cell is empty: the number stays
      (λ e. let free = owner_free c (sym word ∙ e) in
      scans P total holds other rest (index + 1) filled at.rest_is (omega arith)
      (sym (ap (λ o. filled + length (taken_from index (o ∷ map owner_in rest))) free) ∙ sum))
      -- the cell has an owner: the number is one more
      (λ n. let some = owner_some c (λ e. n (word ∙ e)) in
      let plain : one_more filled ≡ filled + 1 = omega arith in
      let more : filled + suc (length (taken_from (index + 1) (map owner_in rest))) ≡ total =
      sym (ap (λ o. filled + length (taken_from index (o ∷ map owner_in rest))) some) ∙ sum in
      scans P total holds other rest (index + 1) (one_more filled) at.rest_is (omega arith) (omega arith)))
      (λ t. let far : capacity ≤ index = grind (arith, nat_tests) in absurd (omega arith))

  -- a count ends with `Locked` where the counter says so, and else with the number of filled cells
  -- and the next generation
  pub count_walks : (P : Counted → List ℕ → Type 0)
      → (g ≡ locked → P ends.Locked (g ∷ cells))
      → (g ≢ locked → P (ends.Filled (number cells) (next_generation g)) (next_generation g ∷ cells))
      → Walks count_want (count_after capacity) (suc (suc (suc (length cells)))) (OnEnd P) counts.LoadsCounter (g ∷ cells)
  count_walks P shut opens =
      by_eq (λ a. WalksOn count_want (count_after capacity) (suc (suc (length cells))) (OnEnd P) a (g ∷ cells)) g locked _ _ shut
      (λ other. scans P (number cells) (opens other) other cells 0 0 refl (omega arith) (let all : 0 + number cells ≡ number cells = omega arith in all))

  -- ---- lock

  -- the next generation of an unlocked set is not that of a locked one
  next_open : g ≢ locked → next_generation g ≢ locked
  next_open = grind (arith, next_below, next_there)

  -- a lock ends with the counter that `locking` says, and with the state of that counter
  pub lock_walks : (P : ReleaseState → List ℕ → Type 0) → P (state_number (locking g cells)) ((locking g cells) ∷ cells)
      → Walks lock_want (lock_after capacity) (plus (suc (suc (suc (length cells)))) 1) (OnEnd P) first_lock (g ∷ cells)
  lock_walks P holds =
      -- what holds of the counter that `locking` says holds of a counter equal to it
      let at : (n : ℕ) → (locking g cells) ≡ n → P (state_number n) (n ∷ cells) =
      λ n e. subst (λ m. P (state_number m) (m ∷ cells)) e holds in
      let as_locked : (locking g cells) ≡ locked → P Locked (locked ∷ cells) =
      λ e. subst (λ s. P s (locked ∷ cells)) (ap (λ b. if b then Locked else Unlocked) (eq-eqb locked locked refl)) (at locked e) in
      -- the lock counts the cells with an owner first
      part_walks
      (record {
        want = lock_want;
        after = lock_after capacity;
        part_want = count_want;
        part_after = count_after capacity;
        within = locks.Counts;
        lift = lock_counted;
        Low = λ d. Unit {0};
        low_on = λ d old low. any_low ((count_after capacity) d old);
        wants_so = λ d. refl;
        goes_so = λ d old low. refl;
        lifts = λ d. refl;
      })
      (suc (suc (suc (length cells)))) 1 (OnEnd P) counts.LoadsCounter (g ∷ cells) tt
      (count_walks _
      -- the count finds the set locked: the counter stays
      (λ e. let same = next_there g (omega arith) in
      let lock : (locking g cells) ≡ locked =
      by_test (λ n. n ≡ locked) (((number cells) == 0) && not (next_generation g == greatest)) locked (next_generation g) (λ _. refl) (λ _. same ∙ e) in
      subst (λ n. P Locked (n ∷ cells)) (sym e) (as_locked lock))
      (λ other. by_test (λ a. WalksOn lock_want (lock_after capacity) 1 (OnEnd P) a (next_generation g ∷ cells))
      (((number cells) == 0) && not (next_generation g == greatest)) (GoOn (locks.ExchangesCounter (next_generation g))) (Done Unlocked)
      -- no cell has an owner: the exchange of the counter locks the set
      (λ t. let lock : (locking g cells) ≡ locked = ap (λ b. if b then locked else next_generation g) t in
      let written : (if next_generation g == next_generation g then locked ∷ cells else next_generation g ∷ cells) ≡ locked ∷ cells =
      ap (λ b. if b then locked ∷ cells else next_generation g ∷ cells) (eq-eqb (next_generation g) (next_generation g) refl) in
      subst (λ ws. WalksOn lock_want (lock_after capacity) 0 (OnEnd P)
      (if next_generation g == next_generation g then Done Locked else GoOn first_lock) ws)
      (sym written)
      (by_eq (λ a. WalksOn lock_want (lock_after capacity) 0 (OnEnd P) a (locked ∷ cells)) (next_generation g) (next_generation g) _ _
      (λ _. as_locked lock) (λ no. absurd (no refl))))
      -- a cell has an owner, or the next generation is the last one: the set is not locked
      (λ t. let stays : (locking g cells) ≡ next_generation g = ap (λ b. if b then locked else next_generation g) t in
      subst (λ s. P s (next_generation g ∷ cells)) (ap (λ b. if b then Locked else Unlocked) (ne_eqb (next_generation g) locked (next_open other)))
      (at (next_generation g) stays))))
