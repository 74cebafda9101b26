-- The indices that wait in the two queues by the words are those that wait in them by the state, and these
-- are the ones whose spot by the events is the queue.
use Rattle.laws_loan.proofs.Names.{◌≡◌, ◌≢◌, ℕ, zero, suc, ◌+◌, ◌*◌, ◌%◌, ◌<◌, ◌≤◌, ◌==◌, ⊎_elim, Bool, true}
use Rattle.laws_loan.proofs.Names.{Contains, AllPairs, List, [], ◌∷◌, ◌++◌, length, get_or, map, refl, sym, ap, ◌∙◌}
use Rattle.laws_loan.proofs.Names.{append_assoc, append-nil, drop_at, cases_eq, get_or-map, length-map}
use Rattle.laws_loan.proofs.Names.{completion_word, Event, Item, Index, Coding, sent_in, given_back_in, AreThose}
use Rattle.laws_loan.proofs.Names.{Spot, spot_of, one_if, layout, submission_word, one_word}
use Rattle.std.proofs.Common.{arith}
use Rattle.steps.specs.Queues.Ring.{cell_word}
use Rattle.model.specs.declared.families.queues.QueueKind.TheVariants as kinds
use Rattle.model.specs.declared.families.queues.QueueKind.TheVariants.{IndexQueue}
use Rattle.model.specs.Coding.{IsCoding}
use Rattle.model.specs.Families.Queues.Book.{waiting_in}
use Rattle.laws_queues.proofs.Queues.Sound.{stored_waiting}
use Rattle.laws_loan.proofs.Channel.{Channel, Holds, no_roles, words_in}
use Rattle.laws_loan.proofs.Lists.{times, same_one, other_none, one_at_most, true_if_one, Lists}
use Rattle.laws_loan.proofs.Parts.{set_long, both_long}

-- ---- by the words

-- the place of a cell of one word
pub cell_place : (c position : ℕ) → 0 < c → cell_word c 1 position ≡ 4 + 1 * (position % c)
cell_place = grind arith

-- an index is coded in one word, from which it is read back
index_words : IsCoding one_word
index_words = record { some = omega arith; few = omega arith; sized = λ v. refl; given_back = λ v. refl }

-- the submission queue of the channel holds, by the words, the indices that wait in it
module _ {T : Type 0} (code : Coding T) (slots queue : ℕ) (s : Channel T) (busy : ℕ) (holds : Holds slots queue s busy) where
  -- the words have the indices that wait in the submission queue
  pub sent_is : sent_in code slots queue (words_in s) ≡ map Index s.submission.waiting
  sent_is =
      ap (waiting_in code kinds.Overflow queue)
      (drop_at s.set (layout no_roles s.submission ++ layout no_roles s.completion) (submission_word slots) (set_long holds))
      ∙ stored_waiting code kinds.Overflow index_words queue no_roles holds.submission (layout no_roles s.completion)

  -- what was given back by the words is what waits in the completion queue
  pub back_is : given_back_in code slots queue (words_in s) ≡ map Index s.completion.waiting
  back_is =
      let one : words_in s ≡ (s.set ++ layout no_roles s.submission) ++ layout no_roles s.completion =
      sym (append_assoc s.set (layout no_roles s.submission) (layout no_roles s.completion)) in
      ap (given_back_in code slots queue) one
      ∙ (ap (waiting_in code IndexQueue slots)
      (drop_at (s.set ++ layout no_roles s.submission) (layout no_roles s.completion) (completion_word slots queue)
      (both_long holds))
      ∙ (ap (waiting_in code IndexQueue slots) (sym (append-nil (layout no_roles s.completion)))
      ∙ stored_waiting code IndexQueue index_words slots no_roles holds.completion []))

-- ---- by the events

-- an index that is at some place of a list is in it once at least
stands_once : (i : ℕ) (xs : List ℕ) (k : ℕ) → k < length xs → get_or xs k 0 ≡ i → 1 ≤ times i xs
stands_once i [] k below element_is = absurd (omega arith)
stands_once i (x ∷ xs) zero below element_is =
    let one : one_if (x == i) ≡ 1 = ap (λ n. one_if (n == i)) element_is ∙ same_one i in
    omega arith
stands_once i (x ∷ xs) (suc k) below element_is = let rest = stands_once i xs k (omega arith) element_is in omega arith

-- an index that is at two places of a list is in it twice at least
stands_twice : (i : ℕ) (xs : List ℕ) (a b : ℕ) → a < b → b < length xs → get_or xs a 0 ≡ i → get_or xs b 0 ≡ i → 2 ≤ times i xs
stands_twice i [] a b less below at_a at_b = absurd (omega arith)
stands_twice i (x ∷ xs) a zero less below at_a at_b = absurd (omega arith)
stands_twice i (x ∷ xs) zero (suc b) less below at_a at_b =
    let one : one_if (x == i) ≡ 1 = ap (λ n. one_if (n == i)) at_a ∙ same_one i in
    let rest = stands_once i xs b (omega arith) at_b in
    omega arith
stands_twice i (x ∷ xs) (suc a) (suc b) less below at_a at_b = let rest = stands_twice i xs a b (omega arith) (omega arith) at_a at_b in omega arith

module _ {T : Type 0} where
  abbrev items : List ℕ → List (Item T)
  items xs = map Index xs

  -- an index that is in a list is one of its items
  there : (i : ℕ) (xs : List ℕ) → 1 ≤ times i xs → Contains (items xs) (Index i)
  there i [] times_at_least = absurd (omega arith)
  there i (x ∷ xs) times_at_least = ⊎_elim here (later (there i xs)) (cases_eq x i)
    where
      -- the first index of a list is one of its items
      here : x ≡ i → Contains (items (x ∷ xs)) (Index i)
      here same_index = (0, omega arith, ap (λ (n : ℕ). Index n) same_index)

      -- an index that is in the rest of the list is in the list
      later : (1 ≤ times i xs → Contains (items xs) (Index i)) → x ≢ i → Contains (items (x ∷ xs)) (Index i)
      later rest ne =
          let none = other_none x i ne in
          let found = rest (omega arith) in
          (suc found.0, (let below = found.1 in omega arith), found.2)

  -- an index that is one of the items of a list is in it once at least
  stands : (i : ℕ) (xs : List ℕ) (k : ℕ) → k < length (items xs) → get_or (items xs) k (Index i) ≡ Index i → 1 ≤ times i xs
  stands i [] k below element_is = absurd (omega arith)
  stands i (x ∷ xs) zero below element_is =
      let head : ◌≡◌ {A = Item T} (Index x) (Index i) = element_is in
      let same : x ≡ i = cc in
      let one : one_if (x == i) ≡ 1 = ap (λ n. one_if (n == i)) same ∙ same_one i in
      omega arith
  stands i (x ∷ xs) (suc k) below element_is = let rest = stands i xs k (omega arith) element_is in omega arith

  -- the items of a list of the indices at a spot, where `is` tests for the spot, are those whose spot it is
  pub are_those : (spot : Spot) (is : Spot → Bool) → is spot ≡ true
      → ((other : Spot) → is other ≡ true → other ≡ spot) → (xs : List ℕ) (events : List (Event T)) → Lists is xs events
      → AreThose spot (items xs) events
  are_those spot is self only xs events all = record { each = λ i. (from i, to i); once = once }
    where
      -- each of the items is at the spot
      from : (i : ℕ) → Contains (items xs) (Index i) → spot_of i events ≡ spot
      from = grind (arith, stands, true_if_one)

      -- an index at the spot is one of the items
      to : (i : ℕ) → spot_of i events ≡ spot → Contains (items xs) (Index i)
      to = grind (arith, there)

      -- no two of the items are the same
      once : AllPairs (λ x y. x ≢ y) (items xs)
      once a b d less below same =
          let long : length (items xs) ≡ length xs = length-map xs Index in
          let first : ◌≡◌ {A = Item T} (get_or (items xs) a d) (Index (get_or xs a 0)) = get_or-map Index xs a 0 d (omega arith) in
          let second : ◌≡◌ {A = Item T} (get_or (items xs) b d) (Index (get_or xs b 0)) = get_or-map Index xs b 0 d (omega arith) in
          let both : ◌≡◌ {A = Item T} (Index (get_or xs a 0)) (Index (get_or xs b 0)) = sym first ∙ (same ∙ second) in
          let equal : get_or xs a 0 ≡ get_or xs b 0 = cc in
          let twice = stands_twice (get_or xs b 0) xs a b less (omega arith) equal refl in
          let count = all (get_or xs b 0) in
          let most = one_at_most (is (spot_of (get_or xs b 0) events)) in
          absurd (omega arith)
