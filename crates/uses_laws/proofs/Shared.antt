-- What two passes hold, where all that a history has is what they made.
use Rattle.std.proofs.Common.{◌≡◌, ⊎_elim, ℕ, zero, suc, ◌+◌, ◌<◌, ◌≤◌, Bool, true, false, List, [], ◌++◌, length, sym, ap, subst, ◌∙◌, arith}
use Rattle.std.proofs.Common.{sum_by, length-append}
use Rattle.std.proofs.lemmas.Bool.{cases_lt}
use Rattle.std.proofs.lemmas.List.Sums.{sum_by-append}
use Rattle.model.specs.Turns.{one_if}
use Rattle.laws_indices.proofs.Sums.{sum_below}
use Rattle.lock_free.specs.Event.{Event}
use Rattle.lock_free.specs.HistoryHeld.{claims, frees}
use Rattle.lock_free.specs.Unique.Held.{times, HeldBy, HoldsNothing}
use Rattle.lock_free.proofs.Unique.Holding.{times_both}
use Rattle.lock_free.proofs.Unique.Machine.{length_is}

at_most_one : (b : Bool) → one_if b ≤ 1
at_most_one true = omega arith
at_most_one false = omega arith

module _ (f : ℕ → ℕ) where
  -- numbers of at most 1 sum to no more than how many they are
  sum_few : (n : ℕ) → ((i : ℕ) → f i ≤ 1) → sum_below f n ≤ n
  sum_few zero few = omega arith
  sum_few (suc n) few = omega (arith, few n, sum_few n few)

  -- if n numbers of at most 1 sum to n, each is 1
  all_one : (n : ℕ) → ((i : ℕ) → f i ≤ 1) → n ≤ sum_below f n → (i : ℕ) → i < n → 1 ≤ f i
  all_one zero few most i low = absurd (omega arith)
  all_one (suc n) few most i low =
      let here = few n in
      let front : n ≤ sum_below f n = omega arith in
      ⊎_elim (λ less. all_one n few front i less) last (cases_lt i n)
    where
      -- The last of the numbers is 1, since those before it sum to no more than how many they are.
      last : n ≤ i → 1 ≤ f i
      last high =
          let rest = sum_few n few in
          let same : i ≡ n = omega arith in
          subst (λ k. 1 ≤ f k) (sym same) (omega arith)

-- c is the capacity, mine and other are what the two passes made, made is what both did; held
-- tells which index has a holder
module _ (c : ℕ) (seen made mine other : List (Event ℕ)) (held : ℕ → Bool) (both_made : made ≡ mine ++ other)
    (all : (f : Event ℕ → ℕ) → sum_by f seen ≡ sum_by f made)
    (conserved : (i : ℕ) → sum_by (claims i) seen ≡ sum_by (frees i) seen + one_if (held i))
    (behind : (i : ℕ) → c ≤ i → sum_by (claims i) seen ≡ 0) where
  -- what both made of an event
  sum_both : (f : Event ℕ → ℕ) → sum_by f seen ≡ sum_by f mine + sum_by f other
  sum_both f = all f ∙ (ap (sum_by f) both_made ∙ sum_by-append f mine other)

  -- two passes that know all hold no more indices than there are
  pub few_held : (is js : List ℕ) → HeldBy is mine → HeldBy js other → length is + length js ≤ c
  few_held is js one two = omega (arith, length_is c (is ++ js) none, sum_few (λ i. times i (is ++ js)) c once, length-append is js)
    where
      -- no index is held twice by both
      once : (i : ℕ) → times i (is ++ js) ≤ 1
      once i =
          let both = times_both i is js in
          let claimed = sum_both (claims i) in
          let freed = sum_both (frees i) in
          let sum_is = conserved i in
          let most = at_most_one (held i) in
          omega (arith, one i, two i)

      -- no index past the capacity is held
      none : (i : ℕ) → c ≤ i → times i (is ++ js) ≡ 0
      none i past =
          let both = times_both i is js in
          let claimed = sum_both (claims i) in
          let zero_is = behind i past in
          omega (arith, one i, two i)

  -- where one pass holds all indices the other holds nothing
  pub none_else : ((i : ℕ) → sum_by (frees i) other ≤ sum_by (claims i) other) → (is : List ℕ) → HeldBy is mine → length is ≡ c → HoldsNothing other
  none_else least is one long i = ⊎_elim below past (cases_lt i c)
    where
      -- no index is held twice by the one
      once : (j : ℕ) → times j is ≤ 1
      once j =
          let claimed = sum_both (claims j) in
          let freed = sum_both (frees j) in
          let sum_is = conserved j in
          let most = at_most_one (held j) in
          let low = least j in
          omega (arith, one j)

      -- no index past the capacity is held by the one
      none : (j : ℕ) → c ≤ j → times j is ≡ 0
      none j far = omega (arith, one j, sum_both (claims j), behind j far)

      -- of an index below the capacity the other has freed what it claimed
      below : i < c → times i [] + sum_by (frees i) other ≡ sum_by (claims i) other
      below less =
          let sum = length_is c is none in
          let here : 1 ≤ times i is = all_one (λ j. times j is) c once (omega arith) i less in
          let claimed = sum_both (claims i) in
          let freed = sum_both (frees i) in
          let sum_is = conserved i in
          let most = at_most_one (held i) in
          let low = least i in
          omega (arith, one i)

      -- the other has freed what it claimed of an index past the capacity
      past : c ≤ i → times i [] + sum_by (frees i) other ≡ sum_by (claims i) other
      past far = omega (arith, sum_both (claims i), behind i far, least i)
