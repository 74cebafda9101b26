-- An acquire of a robust set that runs alone: within how many steps it ends, and that it takes the lowest
-- index without an owner.
use Rattle.std.proofs.Common.{◌≡◌, ◌≢◌, ℕ, suc, ◌+◌, ◌^◌, ◌<◌, ◌≤◌, true, false, cond, ◌==◌, nat_lt, List, [], ◌∷◌}
use Rattle.std.proofs.Common.{length, drop, map, Some, None, Ok, Err, ok_or, position, is_none, refl, sym, ap, subst}
use Rattle.std.proofs.Common.{◌∙◌, arith, slice_index, slice_set, length-set, eq-eqb, ne_eqb, if◌then◌else◌}
use Rattle.std.specs.List.{position_or_len}
use Rattle.plain.proofs.Names.{nat_tests, length-map, map-set, by_test, by_eq, After, GoOn, Done}
use Rattle.steps.specs.Indices.Robust.Parts.{cell_word, empty, locked, greatest, raise_want, raise_after}
use Rattle.steps.specs.Indices.Robust.Acquire.{Acquired, first_acquire, at_acquire, acquire_tries, acquire_raised, acquire_sees, acquire_want, acquire_after}
use Rattle.steps.specs.declared.indices.enums.UniqueIndexSetAcquireFailure.TheVariants as failures
use Rattle.steps.specs.declared.indices.robust.parts.Raise.TheVariants as raises
use Rattle.steps.specs.declared.indices.robust.acquire.Acquire.{Acquire}
use Rattle.steps.specs.declared.indices.robust.acquire.AcquireStage.TheVariants as acquires
use Rattle.plain_queues.specs.Alone.{BehavesAs}
use Rattle.steps.specs.Objects.Owners.{Owners, next_generation, acquired, granted, after_acquire}
use Rattle.plain.specs.Robust.{owner_in, owners_in, Represents}
use Rattle.plain_queues.proofs.Alone.{Runs}
use Rattle.plain.proofs.Walks.{Walks, WalksOn, OnEnd, any_low, part_walks, runs}
use Rattle.plain.proofs.Robust.Parts.{here, past, next_cell, next_set, raise_walks, next_below, owner_free, owner_some}

module _ (capacity owner g : ℕ) (cells : List ℕ) (small : g < 2 ^ 64) (long : length cells ≡ capacity) (few : capacity < 2 ^ 32)
    (lives : owner < empty) where
  -- the acquire, run alone from these words, ends within n steps, and P holds of its
  -- answer and the last words
  abbrev AcquireEnds : ℕ → (Acquired → List ℕ → Type 0) → Acquire → List ℕ → Type 0
  AcquireEnds n P call words = Walks (λ c. acquire_want c owner) (λ c old. acquire_after c old) n (OnEnd P) call words

  -- what a step of the acquire has answered ends at once or within n steps more, and P holds of the answer
  -- and the last words
  abbrev AcquireEndsFrom : ℕ → (Acquired → List ℕ → Type 0) → After Acquire Acquired → List ℕ → Type 0
  AcquireEndsFrom n P a words = WalksOn (λ c. acquire_want c owner) (λ c old. acquire_after c old) n (OnEnd P) a words

  -- an acquire that has taken no step
  abbrev first : Acquire
  first = first_acquire capacity

  -- how many cells at the front of a list have an owner
  abbrev front : List ℕ → ℕ
  front rest = position_or_len is_none (map owner_in rest)

  -- once a cell is filled, the acquire raises the counter and answers the index
  raises_on : (n : ℕ) (P : Acquired → List ℕ → Type 0) (index : ℕ) (cells₂ : List ℕ) → g ≢ locked
      → P (Ok index) (next_generation g ∷ cells₂)
      → AcquireEnds (suc (suc n)) P (at_acquire first (acquires.Raises index raises.LoadsCounter)) (g ∷ cells₂)
  raises_on n P index cells₂ other holds =
      part_walks
      (record {
        want = λ c. acquire_want c owner;
        after = λ c old. acquire_after c old;
        part_want = raise_want;
        part_after = raise_after;
        within = λ r. at_acquire first (acquires.Raises index r);
        lift = acquire_raised first index;
        Low = λ d. Unit {0};
        low_on = λ d old low. any_low (raise_after d old);
        wants_so = λ d. refl;
        goes_so = λ d old low. refl;
        lifts = λ d. refl;
      })
      2 n (OnEnd P) raises.LoadsCounter (g ∷ cells₂) tt
      (raise_walks g cells₂ small _ (λ e. absurd (other e)) (λ _. holds))

  -- From this index on the acquire fills the first cell without an owner, or finds that all have one. The
  -- cases are whether a cell is left, and whether it is empty.
  tries : (P : Acquired → List ℕ → Type 0) → g ≢ locked → (rest : List ℕ) (index : ℕ) → drop index cells ≡ rest
      → ((i : ℕ) → i ≡ index + front rest → i < capacity → P (Ok i) (next_generation g ∷ slice_set cells i owner))
      → (front rest ≡ length rest → P (Err failures.OutOfIndices) (g ∷ cells))
      → AcquireEndsFrom (suc (suc (suc (suc (length rest))))) P (acquire_tries first g index) (g ∷ cells)
  tries P other [] index rest_is hit none =
      let far = past cells index rest_is in
      by_test (λ stage. AcquireEnds 4 P (at_acquire first stage) (g ∷ cells)) (nat_lt index capacity) _ _
      (λ t. let near : index < capacity = grind (arith, nat_tests) in absurd (omega arith))
      (λ _. subst (λ ws. AcquireEndsFrom 3 P (if g == g then Done (Err failures.OutOfIndices) else acquire_sees first g) ws)
      (sym (ap (λ b. if b then g ∷ cells else g ∷ cells) (eq-eqb g g refl)))
      (by_eq (λ a. AcquireEndsFrom 3 P a (g ∷ cells)) g g _ _ (λ _. none refl) (λ no. absurd (no refl))))
  tries P other (c ∷ rest) index rest_is hit none =
      let at = here cells index c rest rest_is in
      let near = at.near in
      let word = next_cell g index cells ∙ at.word_is in
      by_test (λ stage. AcquireEnds (suc (suc (suc (suc (suc (length rest)))))) P (at_acquire first stage) (g ∷ cells)) (nat_lt index capacity) _ _
      -- the index is one of the set: the acquire tries to fill its cell by an exchange
      (λ _. by_eq (λ a. AcquireEndsFrom (suc (suc (suc (suc (length rest))))) P a
      (if slice_index (g ∷ cells) (cell_word index) == empty then slice_set (g ∷ cells) (cell_word index) owner else g ∷ cells))
      (slice_index (g ∷ cells) (cell_word index)) empty _ _
      -- the cell is empty: the exchange fills it, and the acquire goes on to raise the counter
      (λ e. let free = owner_free c (sym word ∙ e) in
      let front_is : front (c ∷ rest) ≡ 0 = ap (λ o. position_or_len is_none (o ∷ map owner_in rest)) free in
      subst (λ ws. AcquireEndsFrom (suc (suc (suc (suc (length rest))))) P
      (GoOn (at_acquire first (acquires.Raises index raises.LoadsCounter))) ws)
      (sym (ap (λ b. if b then slice_set (g ∷ cells) (cell_word index) owner else g ∷ cells)
      (eq-eqb (slice_index (g ∷ cells) (cell_word index)) empty e)
      ∙ next_set g index owner cells))
      (raises_on (suc (suc (length rest))) P index (slice_set cells index owner) other
      (hit index (sym (ap (λ k. index + k) front_is ∙ (let n : index + 0 ≡ index = omega arith in n))) (omega arith))))
      -- the cell has an owner: the acquire tries the next one
      (λ n. let some = owner_some c (λ e. n (word ∙ e)) in
      let front_is : front (c ∷ rest) ≡ 1 + front rest = ap (λ o. position_or_len is_none (o ∷ map owner_in rest)) some in
      subst (λ ws. AcquireEndsFrom (suc (suc (suc (suc (length rest))))) P (acquire_tries first g (index + 1)) ws)
      (sym (ap (λ b. if b then slice_set (g ∷ cells) (cell_word index) owner else g ∷ cells) (ne_eqb (slice_index (g ∷ cells) (cell_word index)) empty n)))
      (tries P other rest (index + 1) at.rest_is
      (λ i e. hit i (e ∙ ((let n : index + 1 + front rest ≡ index + (1 + front rest) = omega arith in n) ∙ ap (λ k. index + k) (sym front_is))))
      (λ e. none (front_is ∙ (let n : 1 + front rest ≡ suc (length rest) = omega arith in n))))))
      (λ t. let far : capacity ≤ index = grind (arith, nat_tests) in absurd (omega arith))

  -- ---- what it makes of the map

  -- the map before the acquire
  abbrev old : Owners
  old = owners_in (g ∷ cells)

  -- the acquire has done what an acquire does to the map, with this answer and these last words
  abbrev pub AcquireBehaves : Acquired → List ℕ → Type 0
  AcquireBehaves end last = BehavesAs (Represents capacity) owners_in acquired (λ s. after_acquire s owner) (g ∷ cells) end last

  -- a counter of 64 bits and as many cells are the words of a robust set
  some_cells : 1 ≤ capacity → (n : ℕ) (cells₂ : List ℕ) → length cells₂ ≡ length cells → n < 2 ^ 64 → Represents capacity (n ∷ cells₂)
  some_cells = grind arith

  -- where the answer is that of the map and the last words are the map after it, the acquire has
  -- done what an acquire does
  so : (e : Acquired) (last : List ℕ) → Represents capacity last → acquired old ≡ e → owners_in last ≡ granted old owner e → AcquireBehaves e last
  so e last fits answer_is next = (fits, sym answer_is, next ∙ ap (granted old owner) (sym answer_is))

  -- An acquire that has taken no step does what an acquire does to the map. The cases are whether the set is
  -- locked, whether its generation is at its end, and whether a cell is free.
  pub take_walks : 1 ≤ capacity → AcquireEnds (suc (suc (suc (suc (suc (length cells)))))) AcquireBehaves first (g ∷ cells)
  take_walks some =
      let kept = some_cells some g cells refl small in
      by_eq (λ a. AcquireEndsFrom (suc (suc (suc (suc (length cells))))) AcquireBehaves a (g ∷ cells)) g locked _ _
      -- the counter says that the set is locked
      (λ e. so (Err failures.IsLocked) (g ∷ cells) kept
      (ap (λ b. if b then Err failures.IsLocked else if g
      == greatest then Err failures.OutOfIndices else ok_or (position is_none (map owner_in cells)) failures.OutOfIndices)
      (eq-eqb g locked e))
      refl)
      (λ other.
      -- the set is not locked, so the answer depends on the generation and the cells
      let opens : acquired old ≡ (if g == greatest then Err failures.OutOfIndices else ok_or (position is_none (map owner_in cells)) failures.OutOfIndices) =
      ap (λ b. if b then Err failures.IsLocked else if g
      == greatest then Err failures.OutOfIndices else ok_or (position is_none (map owner_in cells)) failures.OutOfIndices)
      (ne_eqb g locked other) in
      by_eq (λ a. AcquireEndsFrom (suc (suc (suc (suc (length cells))))) AcquireBehaves a (g ∷ cells)) g greatest _ _
      -- the generation is at its end: no index is handed out
      (λ e. so (Err failures.OutOfIndices) (g ∷ cells) kept
      (opens ∙ ap (λ b. if b then Err failures.OutOfIndices else ok_or (position is_none (map owner_in cells)) failures.OutOfIndices)
      (eq-eqb g greatest e))
      refl)
      (λ less.
      -- the generation is not at its end, so the answer is the first index without an owner
      let looks : acquired old ≡ ok_or (position is_none (map owner_in cells)) failures.OutOfIndices =
      opens ∙ ap (λ b. if b then Err failures.OutOfIndices else ok_or (position is_none (map owner_in cells)) failures.OutOfIndices) (ne_eqb g greatest less) in
      let all = length-map cells owner_in in
      tries AcquireBehaves other cells 0 refl
      -- cell i is the first empty one: it gets the owner, and the generation is the next one
      (λ i e near.
      let next = next_below g other less small in
      let at : front cells ≡ i = omega arith in
      let own : owner_in owner ≡ Some owner = owner_some owner (λ e. absurd (omega arith)) in
      let tests_below : nat_lt (front cells) (length (map owner_in cells)) ≡ true =
      let low : front cells < length (map owner_in cells) = omega arith in
      grind (arith, nat_tests, low) in
      so (Ok i) (next_generation g ∷ slice_set cells i owner)
      (some_cells some (next_generation g) (slice_set cells i owner) (length-set cells i owner) (omega (arith, other)))
      (looks ∙ (ap (λ b. ok_or (cond b (Some (front cells)) None) failures.OutOfIndices) tests_below ∙ ap Ok at))
      (λ j. record { owners = (map-set owner_in cells i owner ∙ ap (slice_set (map owner_in cells) i) own) j; generation = next_generation g }))
      -- no cell is empty: the acquire ends out of indices
      (λ e.
      let not_below : nat_lt (front cells) (length (map owner_in cells)) ≡ false =
      let far : length (map owner_in cells) ≤ front cells = omega arith in
      grind (arith, nat_tests, far) in
      so (Err failures.OutOfIndices) (g ∷ cells) kept
      (looks ∙ ap (λ b. ok_or (cond b (Some (front cells)) None) failures.OutOfIndices) not_below) refl)))

  -- an acquire, run alone over a counter and cells, does what an acquire does to the map
  pub take_runs : 1 ≤ capacity
      → Runs acquire_want (λ c given old. acquire_after c old) (λ c (room : Unit {0}) old. room) owner (λ e room ws. AcquireBehaves e ws) first tt (g ∷ cells)
  take_runs some =
      runs (suc (suc (suc (suc (suc (length cells)))))) AcquireBehaves (omega arith) (take_walks some)

-- an acquire, run alone over any words of a robust set, does what an acquire does to the map
pub take_at : (capacity owner number : ℕ) → number ≡ owner → number < empty → (call : Acquire) → call ≡ first_acquire capacity
    → (words : List ℕ) → Represents capacity words
    → Runs acquire_want (λ c given old. acquire_after c old) (λ c (room : Unit {0}) old. room) owner
    (λ e room ws. BehavesAs (Represents capacity) owners_in acquired (λ s. after_acquire s owner) words e ws) call tt words
take_at capacity owner number same lives call at_first [] fits = let e : 0 ≡ 1 + capacity = fits.long in absurd (omega arith)
take_at capacity owner number same lives call at_first (g ∷ cells) fits =
    subst (λ c. Runs acquire_want (λ c given old. acquire_after c old) (λ c (room : Unit {0}) old. room) owner
    (λ e room ws. BehavesAs (Represents capacity) owners_in acquired (λ s. after_acquire s owner) (g ∷ cells) e ws) c tt (g ∷ cells)) (sym at_first)
    (take_runs capacity owner g cells fits.small (let e : suc (length cells) ≡ 1 + capacity = fits.long in omega arith) fits.few (omega arith) fits.some)
