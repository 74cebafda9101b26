-- The list that an overflowing queue's calls answer as: of the values that wait, the oldest, at most as
-- many as the capacity. The lemmas say what a push and a pop do to it.
use Rattle.laws_queues.proofs.Names.{◌≡◌, ℕ, suc, ◌+◌, ◌*◌, ◌%◌, ◌<◌, ◌≤◌, nat_lt, true, false, Some, None, List, []}
use Rattle.laws_queues.proofs.Names.{◌∷◌, ◌++◌, length, get_or, map, take, drop, slice_get, refl, sym, ap, ◌∙◌}
use Rattle.laws_queues.proofs.Names.{length-append, nat_tests, map-append, length-map, take-append-le}
use Rattle.laws_queues.proofs.Names.{take-append_seam, Item, Index, cut, cut_off, words_of_index, through_cells}
use Rattle.std.proofs.Common.{arith}
use Rattle.model.specs.declared.families.queues.QueueKind.TheVariants.{Overflow}
use Rattle.laws_queues.proofs.Queues.Core.{Core, Good, take_all, front}
use Rattle.laws_queues.proofs.Queues.Stages.{first_of_some}

-- the oldest value stands in the cell of the read position
pub oldest : (c : ℕ) (k : Core ℕ) → Good 1 words_of_index (c + 1) k → 0 < length k.waiting
    → (rest : List ℕ) × (k.waiting ≡ get_or k.cells (k.read % (c + 1)) 0 ∷ rest)
oldest c k good some =
    let front_is = first_of_some k.waiting some in
    let old : get_or k.cells (1 * (k.read % (c + 1)) + 0) 0 ≡ front_is.0 = front good front_is.2 0 (omega arith) in
    let place : 1 * (k.read % (c + 1)) + 0 ≡ k.read % (c + 1) = omega arith in
    let cell : get_or k.cells (k.read % (c + 1)) 0 ≡ front_is.0 = rw (← place) old in
    (front_is.1, front_is.2 ∙ ap (λ (n : ℕ). n ∷ front_is.1) (sym cell))

-- where the values that wait are as many older ones as the capacity and then `v`, the list has the older ones
list_is : (c : ℕ) (xs others : List ℕ) (v : ℕ) → xs ≡ others ++ v ∷ [] → length others ≡ c → take c xs ≡ others
list_is = grind (arith, take, take-append_seam)

module _ {T : Type 0} where
  -- without capacity a value passes through no cell
  pub none_passes : (c : ℕ) (item : Item T) → c ≡ 0 → through_cells Overflow c item ≡ []
  none_passes = grind arith

  -- with a capacity each value passes through a cell
  pub one_passes : (c : ℕ) (item : Item T) → 0 < c → through_cells Overflow c item ≡ item ∷ []
  one_passes = grind arith

  -- the indices of a list as items of the queue
  abbrev pub items : List ℕ → List (Item T)
  items xs = map Index xs

  -- the items of a list, with the item of `v` after them, are those of the list with `v` at its end
  more : (xs : List ℕ) (v : ℕ) → items xs ++ Index v ∷ [] ≡ items (xs ++ v ∷ [])
  more xs v = sym (map-append Index xs (v ∷ []))

  -- a value pushed onto fewer values than the capacity stands at the end, and nothing is cut off
  pub fits : (c : ℕ) (xs : List ℕ) (v : ℕ) → length xs < c
      → (cut c (items xs ++ Index v ∷ []) ≡ items (xs ++ v ∷ [])) × (cut_off c (items xs ++ Index v ∷ []) ≡ None)
  fits c xs v room =
      let longer = length-append xs (v ∷ []) in
      let long : length (items (xs ++ v ∷ [])) ≡ length (xs ++ v ∷ []) = length-map (xs ++ v ∷ []) Index in
      let not_below : nat_lt c (length (items (xs ++ v ∷ []))) ≡ false =
      (let few : length (items (xs ++ v ∷ [])) ≤ c = omega arith in grind (arith, nat_tests)) in
      (rw (more xs v, not_below) refl, rw (more xs v, not_below) refl)

  -- a push that finds room puts its value at the end of the list, and cuts nothing off
  pub push_room :
      (c : ℕ) (xs : List ℕ) (v : ℕ) → length xs < c
      → (cut c (items (take c xs) ++ Index v ∷ []) ≡ items (take c (xs ++ v ∷ []))) × (cut_off c (items (take c xs) ++ Index v ∷ []) ≡ None)
  push_room c xs v room =
      let longer = length-append xs (v ∷ []) in
      let all : take c xs ≡ xs = take_all c xs (omega arith) in
      let too : take c (xs ++ v ∷ []) ≡ xs ++ v ∷ [] = take_all c (xs ++ v ∷ []) (omega arith) in
      rw (all, too) (fits c xs v room)

  -- a value published over a full queue waits beyond the capacity, so the list stays as it was
  pub push_waits : (c : ℕ) (xs : List ℕ) (v : ℕ) → length xs ≡ c → items (take c xs) ≡ items (take c (xs ++ v ∷ []))
  push_waits c xs v full = ap items (sym (take-append-le c xs (v ∷ []) (omega arith)))

  -- the push that then takes the oldest value out cuts it off the list, which has the pushed value at its end
  pub push_over :
      (c : ℕ) (xs others : List ℕ) (u v : ℕ) (rest : List ℕ) → xs ≡ others ++ v ∷ [] → length others ≡ c → xs ≡ u ∷ rest
      → (cut c (items (take c xs) ++ Index v ∷ []) ≡ items (take c rest)) × (cut_off c (items (take c xs) ++ Index v ∷ []) ≡ Some (Index u))
  push_over c xs others u v rest waiting_is full front =
      let longer = length-append others (v ∷ []) in
      let long : length xs ≡ suc c = ap length waiting_is ∙ (omega arith) in
      let shorter : suc (length rest) ≡ length xs = sym (ap length front) in
      let all : items (take c xs) ++ Index v ∷ [] ≡ Index u ∷ items rest =
      ap (λ ys. items ys ++ Index v ∷ []) (list_is c xs others v waiting_is full) ∙ (more others v ∙ (ap items (sym waiting_is) ∙ ap items front))
      in
      let many : length (items rest) ≡ length rest = length-map rest Index in
      let is_below : nat_lt c (suc (length (items rest))) ≡ true = (let over : c < suc (length (items rest)) = omega arith in grind (arith, nat_tests)) in
      let kept : take c rest ≡ rest = take_all c rest (omega arith) in
      (rw (all, is_below, kept) refl, rw (all, is_below) refl)

  -- a pop while no push is pending answers the front of the list and takes it off
  pub pop_front :
      (c : ℕ) (xs : List ℕ) (u : ℕ) (rest : List ℕ) → xs ≡ u ∷ rest → length xs ≤ c
      → (drop 1 (items (take c xs)) ≡ items (take c rest)) × (slice_get (items (take c xs)) 0 ≡ Some (Index u))
  pop_front = grind (arith, suc, length, take, take_all)

  -- a pop that makes room for a pending push answers the front, and the push then puts its value at the end
  -- and cuts nothing off
  pub pop_room :
      (c : ℕ) (xs others : List ℕ) (u v : ℕ) (rest : List ℕ) → 0 < c → xs ≡ others ++ v ∷ [] → length others ≡ c → xs ≡ u ∷ rest
      → (slice_get (items (take c xs)) 0 ≡ Some (Index u))
      × (cut c (drop 1 (items (take c xs)) ++ Index v ∷ []) ≡ items (take c rest))
      × (cut_off c (drop 1 (items (take c xs)) ++ Index v ∷ []) ≡ None)
  pop_room c xs [] u v rest some waiting_is full front = absurd (omega arith)
  pop_room c xs (o ∷ others) u v rest some waiting_is full front =
      let same : u ∷ rest ≡ o ∷ (others ++ v ∷ []) = sym front ∙ waiting_is in
      let first : o ≡ u = cc in
      let rest_is : rest ≡ others ++ v ∷ [] = cc in
      let all : take c xs ≡ o ∷ others = list_is c xs (o ∷ others) v waiting_is full in
      let longer = length-append others (v ∷ []) in
      let short : length others < c = omega arith in
      let kept : take c rest ≡ others ++ v ∷ [] = ap (take c) rest_is ∙ take_all c (others ++ v ∷ []) (omega arith) in
      let both = fits c others v short in
      (rw all (ap (λ (n : ℕ). Some (Index n)) first), rw (all, kept) both.0, rw all both.1)
