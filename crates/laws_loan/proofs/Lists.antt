-- The indices that wait in a queue are those whose spot by the events is that queue, each once; so no more
-- wait than there are slots.
use Rattle.laws_loan.proofs.Names.{◌≡◌, ◌≢◌, ℕ, zero, suc, ◌+◌, ◌<◌, ◌≤◌, ◌==◌, ⊎_elim, Bool, true, false, Some, None}
use Rattle.laws_loan.proofs.Names.{List, [], ◌∷◌, ◌++◌, length, refl, sym, ap, ◌∙◌, eq-eqb, ne_eqb, cases_eq}
use Rattle.laws_loan.proofs.Names.{cases_lt, Event, Spot, Move, move_of, spot_of, one_if}
use Rattle.std.proofs.Common.{arith}
use Rattle.laws_indices.proofs.Sums.{sum_below, sum_moved, sum_none}
use Rattle.laws_loan.proofs.Spots.{spot_stays, spot_other, spot_moved}

-- ---- a queue after an event, by whether the index leaves it and whether the index comes into it

-- the list `ys` of a queue after an event that moves the index, where the list was `xs`: the flags are
-- whether the index was in the queue, and whether it is then
abbrev pub Goes : ℕ → Bool → Bool → List ℕ → List ℕ → Type 0
Goes index false false xs ys = ys ≡ xs
Goes index false true xs ys = ys ≡ xs ++ index ∷ []
Goes index true false xs ys = xs ≡ index ∷ ys
Goes index true true xs ys = ⊥

-- ---- how often a number is in a list

-- how often a number is in a list
abbrev pub times : ℕ → List ℕ → ℕ
times i [] = 0
times i (x ∷ xs) = one_if (x == i) + times i xs

-- an index equals itself, which counts 1
pub same_one : (i : ℕ) → one_if (i == i) ≡ 1
same_one i = ap one_if (eq-eqb i i refl)

-- different indices count 0
pub other_none : (x i : ℕ) → x ≢ i → one_if (x == i) ≡ 0
other_none x i ne = ap one_if (ne_eqb x i ne)

-- a test counts at most 1
pub one_at_most : (b : Bool) → one_if b ≤ 1
one_at_most = grind arith

-- a test that counts 1 is true
pub true_if_one : (b : Bool) → 1 ≤ one_if b → b ≡ true
true_if_one = grind arith

-- how often a number is in a list with one more at its end
times_more : (i : ℕ) (xs : List ℕ) (x : ℕ) → times i (xs ++ x ∷ []) ≡ times i xs + one_if (x == i)
times_more i [] x = omega arith
times_more i (y ∷ ys) x = let rest = times_more i ys x in omega arith

-- a list of numbers below `n` is as long as the sum of how often each number is in it
long : (xs : List ℕ) (n : ℕ) → ((i : ℕ) → n ≤ i → times i xs ≡ 0) → length xs ≡ sum_below (λ i. times i xs) n
long [] n none = sym (sum_none (λ i. times i []) n (λ i below. refl))
long (x ∷ xs) n none =
    let rest = long xs n (λ i past. let all : one_if (x == i) + times i xs ≡ 0 = none i past in omega arith) in
    let here = same_one x in
    let below : x < n =
    ⊎_elim (λ (h : x < n). h)
    (λ (past : n ≤ x). let all : one_if (x == x) + times x xs ≡ 0 = none x past in absurd (omega arith))
    (cases_lt x n) in
    let moved = sum_moved (λ i. times i (x ∷ xs)) (λ i. times i xs) n x below (λ i ne. let other = other_none x i (λ h. ne (sym h)) in omega arith) in
    omega arith

-- the sum of `n` numbers that are at most 1 is at most `n`
sum_few : (f : ℕ → ℕ) (n : ℕ) → ((i : ℕ) → f i ≤ 1) → sum_below f n ≤ n
sum_few f zero one = omega arith
sum_few f (suc n) one = let here = one n in let rest = sum_few f n one in omega arith

-- the sum of `n` numbers that are at most 1 is less than `n` where one of them is 0
pub sum_less : (f : ℕ → ℕ) (n i : ℕ) → ((j : ℕ) → f j ≤ 1) → i < n → f i ≡ 0 → sum_below f n < n
sum_less f zero i one below none = absurd (omega arith)
sum_less f (suc n) i one below none = ⊎_elim last (before (λ less. sum_less f n i one less none)) (cases_eq i n)
  where
    -- the case that the number at the end is 0
    last : i ≡ n → f n + sum_below f n < suc n
    last e =
        let here : f n ≡ 0 = ap f (sym e) ∙ none in
        let rest = sum_few f n one in
        omega arith

    -- the case that an earlier number is 0
    before : (i < n → sum_below f n < n) → i ≢ n → f n + sum_below f n < suc n
    before less ne =
        let here = one n in
        let rest = less (omega arith) in
        omega arith

-- ---- the indices at a spot

-- an index is in the list once if its spot satisfies `is`, and else not at all
module _ {T : Type 0} (is : Spot → Bool) where
  -- an index is in the list once if its spot is one that the test takes, and else not at all
  abbrev pub Lists : List ℕ → List (Event T) → Type 0
  Lists xs events = (i : ℕ) → times i xs ≡ one_if (is (spot_of i events))

  -- the list is no longer than there are slots
  pub lists_few : (xs : List ℕ) (events : List (Event T)) (slots : ℕ) → Lists xs events
      → ((i : ℕ) → slots ≤ i → is (spot_of i events) ≡ false) → length xs ≤ slots
  lists_few xs events slots all past =
      let whole = long xs slots (λ i beyond. all i ∙ ap one_if (past i beyond)) in
      let few = sum_few (λ i. times i xs) slots (λ i. let here = all i in let most = one_at_most (is (spot_of i events)) in omega arith) in
      omega arith

  -- the list is shorter than there are slots, where the spot of one index does not satisfy `is`
  pub lists_room : (xs : List ℕ) (events : List (Event T)) (slots i : ℕ) → Lists xs events
      → ((j : ℕ) → slots ≤ j → is (spot_of j events) ≡ false) → i < slots → is (spot_of i events) ≡ false
      → length xs < slots
  lists_room xs events slots i all past below apart =
      let whole = long xs slots (λ j beyond. all j ∙ ap one_if (past j beyond)) in
      let few =
      sum_less (λ j. times j xs) slots i
      (λ j. let here = all j in let most = one_at_most (is (spot_of j events)) in omega arith) below
      (all i ∙ ap one_if apart) in
      omega arith

  -- the spot of the first index of the list satisfies `is`
  pub first_there : (xs rest : List ℕ) (events : List (Event T)) (x : ℕ) → xs ≡ x ∷ rest → Lists xs events → is (spot_of x events) ≡ true
  first_there = grind arith

  module _ (xs : List ℕ) (events : List (Event T)) (e : Event T) (all : Lists xs events) where
    -- an event that moves no index leaves the list
    pub lists_stay : move_of e ≡ None → Lists xs (events ++ e ∷ [])
    lists_stay none i = all i ∙ ap (λ spot. one_if (is spot)) (sym (spot_stays events e i none))

    -- the event moves the index `m.index`
    module _ {m : Move} (moves : move_of e ≡ Some m) where
      -- the index that moves counts as its new spot says
      now : one_if (is (spot_of m.index (events ++ e ∷ []))) ≡ one_if (is m.to)
      now = ap (λ spot. one_if (is spot)) (spot_moved events e m moves)

      -- an index that the event does not move is in the list as often as its spot says
      others : (i : ℕ) → m.index ≢ i → one_if (is (spot_of i (events ++ e ∷ []))) ≡ times i xs
      others i ne = ap (λ spot. one_if (is spot)) (spot_other events e m moves i ne) ∙ sym (all i)

      -- what holds of the index that moves, and of each other index, holds of all
      each : (ys : List ℕ) → times m.index ys ≡ one_if (is m.to) → ((i : ℕ) → m.index ≢ i → times i ys ≡ times i xs) → Lists ys (events ++ e ∷ [])
      each ys here there i = ⊎_elim at apart (cases_eq m.index i)
        where
          -- the index that moves is in the new list as often as its spot says
          at : m.index ≡ i → times i ys ≡ one_if (is (spot_of i (events ++ e ∷ [])))
          at same = rw (← same) (here ∙ sym now)

          -- an index that the event does not move is in the new list as often as its spot says
          apart : m.index ≢ i → times i ys ≡ one_if (is (spot_of i (events ++ e ∷ [])))
          apart ne = there i ne ∙ sym (others i ne)

      -- an event that moves an index between other spots leaves the list
      lists_pass : is (spot_of m.index events) ≡ false → is m.to ≡ false → Lists xs (events ++ e ∷ [])
      lists_pass from to = each xs (all m.index ∙ (ap one_if from ∙ sym (ap one_if to))) (λ i ne. refl)

      -- an event that moves an index to a spot of the list puts it at the list's end
      lists_push : is (spot_of m.index events) ≡ false → is m.to ≡ true → Lists (xs ++ m.index ∷ []) (events ++ e ∷ [])
      lists_push = grind (arith, times_more, same_one, each, other_none)

      -- an event that moves the first index of the list away takes it off
      lists_pop : (rest : List ℕ) → xs ≡ m.index ∷ rest → is m.to ≡ false → Lists rest (events ++ e ∷ [])
      lists_pop rest front to =
          let before : times m.index xs ≡ one_if (m.index == m.index) + times m.index rest = ap (times m.index) front in
          let most = one_at_most (is (spot_of m.index events)) in
          let had = all m.index in
          let none : one_if (is m.to) ≡ 0 = ap one_if to in
          let self = same_one m.index in
          each rest (omega arith)
          (λ i ne. let shorter : times i xs ≡ one_if (m.index == i) + times i rest = ap (times i) front in let other = other_none m.index i ne in omega arith)

      -- after any event that moves an index, the list is as `Goes` says
      pub lists_go : (ys : List ℕ) → Goes m.index (is (spot_of m.index events)) (is m.to) xs ys → Lists ys (events ++ e ∷ [])
      lists_go ys = go (is (spot_of m.index events)) (is m.to) refl refl
        where
          -- the cases are whether the index was in the list, and whether it is then
          go : (from to : Bool) → is (spot_of m.index events) ≡ from → is m.to ≡ to → Goes m.index from to xs ys → Lists ys (events ++ e ∷ [])
          go false false apart away goes = rw goes (lists_pass apart away)
          go false true apart comes goes = rw goes (lists_push apart comes)
          go true false leaves away goes = lists_pop ys goes away
          go true true leaves comes goes = absurd goes
